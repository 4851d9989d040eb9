-- Names that a source may declare: they begin with neither `mg_` nor `_mm`, and no row of Neon has one.
use Rattle.std.proofs.Common.{◌≡◌, refl, sym, ap, ◌∙◌, subst, ℕ, Bool, true, false, ◌||◌, List, Option, Some, None}
use Rattle.std.proofs.lemmas.Slice.Eq.{bytes_eq-Decides}
use Rattle.std.specs.Prelude.{nat_eq, take, codes, is_some}
use Rattle.std.specs.List.{starts_with}
use Rattle.std.specs.Cmp.Lexicographic.{pointwise}
use Rattle.c_text.specs.declared.tokens.Dialect.{Dialect}
use Rattle.c_text.specs.declared.tokens.Dialect.TheVariants.{X86, Neon}
use Rattle.c_memory.specs.Meaning.{is_helper}
use Rattle.neon_table.specs.Rows.{find_of}
use Rattle.scopes.specs.Scopes.{same_name}
use Rattle.object_types.specs.Reserved.{is_reserved, is_vector_type, is_predefined}
use Rattle.vector_types.specs.Rows.{is_neon_row}
use Rattle.written_types.proofs.Places.{Clean}

or_false : (a b : Bool) → (a || b) ≡ false → (a ≡ false) × (b ≡ false)
or_false false b h = (refl, h)
or_false true b h = absurd (cc)

-- the test, read from the other side
turned : (x y : List ℕ) → pointwise nat_eq y x ≡ false → same_name x y ≡ false
turned x y h = at (same_name x y) refl
  where
    at : (b : Bool) → same_name x y ≡ b → b ≡ false
    at false e = refl
    at true e =
        let back : pointwise nat_eq y x ≡ true = (bytes_eq-Decides y x).1 (sym ((bytes_eq-Decides x y).0 e)) in
        let both : true ≡ false = sym back ∙ h in cc

pub record Unreserved (x : List ℕ) : Type 0 where
  pub helper : starts_with nat_eq x (codes "mg_") ≡ false
  pub plain : same_name (take 3 x) (codes "_mm") ≡ false
  pub neon : is_neon_row x ≡ false
  pub clean : Clean x

no_row : {A : Type 0} (o : Option A) → is_some o ≡ false → o ≡ None
no_row None h = refl
no_row (Some v) h = absurd (cc)

in_source : (b : Bool) (x : List ℕ) → b ≡ is_neon_row x → is_reserved X86 b x ≡ false → Unreserved x
in_source b x e h =
    let mg = starts_with nat_eq x (codes "mg_") in
    let mm = starts_with nat_eq x (codes "_mm") in
    let built = starts_with nat_eq x (codes "__builtin_") in
    let predefined = or_false (mg || mm || built || b || is_vector_type x || is_predefined X86 x) (is_predefined Neon x) h in
    let here = or_false (mg || mm || built || b || is_vector_type x) (is_predefined X86 x) predefined.0 in
    let vector = or_false (mg || mm || built || b) (is_vector_type x) here.0 in
    let row = or_false (mg || mm || built) b vector.0 in
    let words = or_false (mg || mm) built row.0 in
    let first = or_false mg mm words.0 in
    let none : is_neon_row x ≡ false = sym e ∙ row.1 in
    record {
      helper = first.0;
      plain = turned (take 3 x) (codes "_mm") first.1;
      neon = none;
      clean = record { no_neon = no_row (find_of x) none; no_helper = turned (take 3 x) (codes "mg_") first.0 };
    }

pub unreserved : (d : Dialect) (names : List ℕ → Bool) (x : List ℕ) → d ≡ X86 → names ≡ is_neon_row → is_reserved d (names x) x ≡ false → Unreserved x
unreserved d names x e f h = in_source (names x) x (ap (λ g. g x) f) (subst (λ z. is_reserved z (names x) x ≡ false) e h)

-- it may be declared on the other side
pub written_unreserved : (d : Dialect) (names : List ℕ → Bool) (x : List ℕ) → d ≡ Neon → names ≡ is_neon_row → Unreserved x → is_reserved d (names x) x ≡ false
written_unreserved d names x e f u = subst (λ z. is_reserved z (names x) x ≡ false) (sym e) (ap (λ g. g x) f ∙ u.neon)
