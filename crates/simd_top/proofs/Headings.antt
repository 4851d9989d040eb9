-- Items and headings of the form.
use Rattle.std.proofs.Common.{◌≡◌, ℕ, List, [], ◌∷◌, ◌++◌, Bool, true, false, cond, ◌&&◌, not, Some, None, refl}
use Rattle.c_tree.specs.Tree.{Definition, External}
use Rattle.simd_top.specs.Form.{is_free, are_parameters, names_of, is_register, is_body, is_heading, is_function, is_item, has_one, item_name, first_outside, outside}
use Rattle.simd_top.proofs.Conjunction.{split_and}

-- an item behind which the first item outside the form is looked for is of the form
pub item_passes : (seen : List (List ℕ)) (x : External) (xs : List External) → first_outside seen (x ∷ xs) ≡ None →
    (is_item seen x ≡ true) × (first_outside (seen ++ item_name x ∷ []) xs ≡ None)
item_passes seen x xs h = go (is_item seen x) refl h
  where
    go : (v : Bool) → is_item seen x ≡ v → cond v (first_outside (seen ++ item_name x ∷ []) xs) (Some (outside x)) ≡ None → (is_item seen x ≡ true) × (first_outside (seen ++ item_name x ∷ []) xs ≡ None)
    go true s e = (s, e)
    go false s e = absurd (cc)

-- what a function of the form gives is a register, and its name is free
pub result_and_name : (f : Definition) → is_heading f ≡ true → (is_register f.result ≡ true) × (is_free f.name ≡ true)
result_and_name f h =
    let a = split_and (is_register f.result && not f.is_static && not f.is_inline && is_free f.name) (has_one f.params) h in
    let b = split_and (is_register f.result && not f.is_static && not f.is_inline) (is_free f.name) a.0 in
    let c = split_and (is_register f.result && not f.is_static) (not f.is_inline) b.0 in
    ((split_and (is_register f.result) (not f.is_static) c.0).0, b.1)

pub heading_of : (f : Definition) → is_function f ≡ true → (are_parameters [] f.params ≡ true) × (is_heading f ≡ true)
heading_of f h = split_and (are_parameters [] f.params) (is_heading f) (split_and (are_parameters [] f.params && is_heading f) (is_body (names_of f.params) f.body) h).0
