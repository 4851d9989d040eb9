-- A function of a unit of the form and the one that is written for it take the same items.
use Rattle.std.proofs.Common.{◌≡◌, ℕ, List, [], ◌∷◌, map, Bool, true, false, cond, not, Option, Some, None, Ok, Err, refl, sym, ◌∙◌, ap, subst, inl, inr}
use Rattle.std.specs.Prelude.{filter}
use Rattle.std.specs.Str.{bytes_eq}
use Rattle.c_text.specs.declared.tokens.Dialect.TheVariants.{Neon}
use Rattle.c_text.specs.declared.refusals.Refusal.{Refusal}
use Rattle.c_tree.specs.declared.types.CType.TheVariants as ctypes
use Rattle.c_tree.specs.Tree.{Object, Definition, External, Function, Table}
use Rattle.vector_types.specs.Units.{check_unit}
use Rattle.c_memory.specs.declared.blocks.Block.{Block as MemoryBlock}
use Rattle.c_memory.specs.Matching.{written_type}
use Rattle.migrate_report.specs.Items.{Item, Block, Space, Integer, Vector, At, Null, items_of}
use Rattle.c_memory.specs.Functions.{types_of, function_named}
use Rattle.migrate_report.specs.Fits.{argument, arguments, fitted, fit_memory, fit_items, fit_function, fitting, blocks_of, gives_argument}
use Rattle.migrate_report.specs.declared.fits.FitFail.TheVariants as fail
use Rattle.migrate_report.specs.Lines.{refusal_lines}
use Rattle.simd_top.specs.Compared.{FailsInOne}
use Rattle.simd_top.specs.Form.{is_in, is_function, first_outside}
use Rattle.simd_top.specs.Refusals.{at_the_start, OutsideBoth, NamelessBoth, UnfitBoth}
use Rattle.simd_top.specs.Words.{Both}
use Rattle.simd_top.specs.Written.{moved_function, moved_unit}
use Rattle.simd_top.proofs.Answering.{RefusedWith}
use Rattle.simd_top.proofs.Bodies.{plain_registers, moved_types}
use Rattle.simd_top.proofs.Conjunction.{split_and}
use Rattle.simd_top.proofs.Headings.{item_passes, heading_of}
use Rattle.simd_top.proofs.Parameters.{AllRegisters, m128}
use Rattle.simd_top.proofs.Same.{is_moved}

argument_stays : (memory : List MemoryBlock) (item : Item) → argument memory (written_type ctypes.M128) item ≡ argument memory ctypes.M128 item
argument_stays memory (Block align writable hex) = refl
argument_stays memory (Space align count) = refl
argument_stays memory (Integer z) = refl
argument_stays memory (Vector hex) = refl
argument_stays memory (At block offset) = refl
argument_stays memory Null = refl

arguments_stay : (memory : List MemoryBlock) (ds : List Object) (items : List Item) → AllRegisters ds → arguments memory (map written_type (types_of ds)) items ≡ arguments memory (types_of ds) items
arguments_stay memory [] [] h = refl
arguments_stay memory [] (item ∷ rest) h = refl
arguments_stay memory (d ∷ ds) [] h = refl
arguments_stay memory (d ∷ ds) (item ∷ rest) h = rw (m128 d.ty h.0, argument_stays memory item, arguments_stay memory ds rest h.1) refl

memory_stays : (ds : List Object) (items : List Item) (o : Option (List MemoryBlock)) → AllRegisters ds → fit_memory (map written_type (types_of ds)) items o ≡ fit_memory (types_of ds) items o
memory_stays ds items None h = refl
memory_stays ds items (Some memory) h = ap (fitted memory) (arguments_stay memory ds (filter gives_argument items) h)

items_stay : (ds : List Object) (o : Option (List Item)) → AllRegisters ds → fit_items (map written_type (types_of ds)) o ≡ fit_items (types_of ds) o
items_stay ds None h = refl
items_stay ds (Some items) h = memory_stays ds items (blocks_of items) h

one_fits : (f : Definition) (words : List (List ℕ)) → is_function f ≡ true → fit_function (Some (moved_function f)) words ≡ fit_function (Some f) words
one_fits f words h =
    let plain = plain_registers [] f.params (heading_of f h).0 in
    ap (λ ts. fit_items ts (items_of words)) (moved_types f.params plain) ∙ items_stay f.params (items_of words) plain

fits_stay : (names : List (List ℕ)) (us : List External) (name : List ℕ) (words : List (List ℕ)) → first_outside names us ≡ None → fitting (moved_unit us) name words ≡ fitting us name words
fits_stay names [] name words h = refl
fits_stay names (Function f ∷ us) name words h =
    let a = item_passes names (Function f) us h in
    go (bytes_eq name f.name) (one_fits f words (split_and (is_function f) (not (is_in names f.name)) a.0).0) (fits_stay _ us name words a.1)
  where
    go : (b : Bool) → fit_function (Some (moved_function f)) words ≡ fit_function (Some f) words → fit_function (function_named name (moved_unit us)) words ≡ fit_function (function_named name us) words →
        fit_function (cond b (Some (moved_function f)) (function_named name (moved_unit us))) words ≡ fit_function (cond b (Some f) (function_named name us)) words
    go true one rest = one
    go false one rest = rest
fits_stay names (Table d static ∷ us) name words h = let a = item_passes names (Table d static) us h in absurd (cc)

-- ---- the written unit with its types

pub never_refused : (t : List External) (list : List Refusal) → first_outside [] t ≡ None → check_unit Neon (moved_unit t) ≡ Err list → ⊥
never_refused t list h e = let typed = (is_moved t h).written.typed in absurd (cc)

same_fitting : (t v : List External) (name : List ℕ) (words : List (List ℕ)) → first_outside [] t ≡ None → check_unit Neon (moved_unit t) ≡ Ok v → fitting v name words ≡ fitting t name words
same_fitting t v name words h e =
    let same : moved_unit t ≡ v = let typed = (is_moved t h).written.typed in cc in
    subst (λ x. fitting x name words ≡ fitting t name words) same (fits_stay [] t name words h)

pub nameless_both : (t v : List External) (name : List ℕ) (turns : ℕ) (items : List (List ℕ)) (lines : List ℕ) → first_outside [] t ≡ None → check_unit Neon (moved_unit t) ≡ Ok v →
    FailsInOne t v name items fail.NoFunction → lines ≡ refusal_lines (at_the_start 21 name ∷ []) → RefusedWith (Both name turns items) t lines
nameless_both t v name turns items lines h e (inl none) is = (at_the_start 21 name, NamelessBoth name turns items t h none, is)
nameless_both t v name turns items lines h e (inr (args, memory, fits, none)) is = (at_the_start 21 name, NamelessBoth name turns items t h (sym (same_fitting t v name items h e) ∙ none), is)

pub unfit_both : (t v : List External) (name : List ℕ) (turns : ℕ) (items : List (List ℕ)) (lines : List ℕ) → first_outside [] t ≡ None → check_unit Neon (moved_unit t) ≡ Ok v →
    FailsInOne t v name items fail.DontFit → lines ≡ refusal_lines (at_the_start 22 name ∷ []) → RefusedWith (Both name turns items) t lines
unfit_both t v name turns items lines h e (inl none) is = (at_the_start 22 name, UnfitBoth name turns items t h none, is)
unfit_both t v name turns items lines h e (inr (args, memory, fits, none)) is = (at_the_start 22 name, UnfitBoth name turns items t h (sym (same_fitting t v name items h e) ∙ none), is)

pub outside_both : (t : List External) (name : List ℕ) (turns : ℕ) (items : List (List ℕ)) (r : Refusal) (lines : List ℕ) → first_outside [] t ≡ Some r → lines ≡ refusal_lines (r ∷ []) → RefusedWith (Both name turns items) t lines
outside_both t name turns items r lines h is = (r, OutsideBoth name turns items t r h, is)
