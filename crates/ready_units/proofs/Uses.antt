-- The functions of rows, each once: each that is called is among them.
use Rattle.std.proofs.Common.{◌≡◌, refl, sym, ap, ◌∙◌, subst, ◌⊎◌, inl, inr, arith, ℕ, Bool, true, false, not, ◌&&◌, ◌||◌, ◌==◌, List, [], ◌∷◌, ◌++◌, if◌then◌else◌}
use Rattle.std.proofs.lemmas.Bool.Decides.{nat_tests}
use Rattle.std.proofs.lemmas.Slice.Eq.{bytes_eq-Decides}
use Rattle.std.specs.Prelude.{bytes_eq}
use Rattle.c_tree.specs.Tree.{Definition, External}
use Rattle.c_memory.specs.Functions.{none_named}
use Rattle.c_memory.specs.Meaning.{is_helper, functions}
use Rattle.intel_table.specs.Rows.{range_of}
use Rattle.neon_table.specs.Rows as neon
use Rattle.written_forms.specs.Moved.{Plans}
use Rattle.written_forms.specs.Helpers.{Use, has_name, with_uses, unit_uses, helpers}
use Rattle.written_forms.specs.ReadyUnits.{IsHelper, AreHelpers, Among}
use Rattle.ready_units.proofs.Sound.{Helps, Helped}
use Rattle.ready_units.proofs.HelperNames.{helper_is, helper_no_neon, names_tell}
use Rattle.ready_units.proofs.GoodUses.{Good, AllGood}

-- ---- truth values

both : (a b : Bool) → (a && b) ≡ true → (a ≡ true) × (b ≡ true)
both true true h = (refl, refl)
both true false h = absurd (cc)
both false b h = absurd (cc)

either : (a b : Bool) → (a || b) ≡ true → (a ≡ true) ⊎ (b ≡ true)
either true b h = inl refl
either false b h = inr h

or_second : (a b : Bool) → b ≡ true → (a || b) ≡ true
or_second true b h = refl
or_second false b h = h

pub same_turned : (x y : List ℕ) → bytes_eq x y ≡ false → bytes_eq y x ≡ false
same_turned x y h = at (bytes_eq y x) refl
  where
    at : (b : Bool) → bytes_eq y x ≡ b → b ≡ false
    at true e = sym (sym h ∙ (bytes_eq-Decides x y).1 (sym ((bytes_eq-Decides y x).0 e)))
    at false e = refl

-- ---- which rows have a function

-- one of these is for this row with this immediate
abbrev pub is_told : List Use → Helps
is_told [] row imm = false
is_told (u ∷ us) row imm = (bytes_eq u.row row && u.imm == imm) || is_told us row imm

pub among : (us : List Use) (row : List ℕ) (imm : ℕ) → is_told us row imm ≡ true → Among row imm us
among [] row imm h = absurd (cc)
among (u ∷ us) row imm h = at (either (bytes_eq u.row row && u.imm == imm) (is_told us row imm) h) (among us row imm)
  where
    at : ((bytes_eq u.row row && u.imm == imm) ≡ true) ⊎ (is_told us row imm ≡ true) → (is_told us row imm ≡ true → Among row imm us) → Among row imm (u ∷ us)
    at (inl e) f =
        let p = both (bytes_eq u.row row) (u.imm == imm) e in
        let n = p.1 in
        inl ((bytes_eq-Decides u.row row).0 p.0, grind (arith, nat_tests, n))
    at (inr e) f = inr (f e)

-- a name tells the row and the immediate
told_by_name : (plans : Plans) (v : Use) (us : List Use) → Good plans v → AllGood plans us → has_name v.name us ≡ true → is_told us v.row v.imm ≡ true
told_by_name plans v [] g all h = absurd (cc)
told_by_name plans v (u ∷ us) g all h = at (either (bytes_eq v.name u.name) (has_name v.name us) h) (told_by_name plans v us g all.1)
  where
    here : (a b : Bool) → a ≡ true → b ≡ true → ((a && b) || is_told us v.row v.imm) ≡ true
    here a b e f = rw (e, f) refl

    same_numbers : (m n : ℕ) → m ≡ n → (m == n) ≡ true
    same_numbers m n e = grind (arith, nat_tests, e)

    at : (bytes_eq v.name u.name ≡ true) ⊎ (has_name v.name us ≡ true) → (has_name v.name us ≡ true → is_told us v.row v.imm ≡ true) → ((bytes_eq u.row v.row && u.imm == v.imm) || is_told us v.row v.imm) ≡ true
    at (inl e) f =
        let k = all.0 in
        let names = sym k.name ∙ sym ((bytes_eq-Decides v.name u.name).0 e) ∙ g.name in
        let t = names_tell u.row v.row k.op g.op (range_of k.op) (range_of g.op) u.imm v.imm k.is g.is k.none g.none k.small g.small names in
        here (bytes_eq u.row v.row) (u.imm == v.imm) ((bytes_eq-Decides u.row v.row).1 t.row) (same_numbers u.imm v.imm t.imm)
    at (inr e) f = or_second (bytes_eq u.row v.row && u.imm == v.imm) (is_told us v.row v.imm) (f e)

-- ---- each once

abbrev added : List Use → Use → List Use
added first u = if has_name u.name first then first else first ++ u ∷ []

has_behind : (n : List ℕ) (us vs : List Use) → has_name n us ≡ true → has_name n (us ++ vs) ≡ true
has_behind n [] vs h = absurd (cc)
has_behind n (u ∷ us) vs h = at (bytes_eq n u.name) h (has_behind n us vs)
  where
    at : (b : Bool) → (b || has_name n us) ≡ true → (has_name n us ≡ true → has_name n (us ++ vs) ≡ true) → (b || has_name n (us ++ vs)) ≡ true
    at true e f = refl
    at false e f = f e

has_last : (us : List Use) (u : Use) → has_name u.name (us ++ u ∷ []) ≡ true
has_last [] u = rw ((bytes_eq-Decides u.name u.name).1 refl) refl
has_last (v ∷ us) u = or_second (bytes_eq u.name v.name) (has_name u.name (us ++ u ∷ [])) (has_last us u)

added_keeps : (n : List ℕ) (first : List Use) (u : Use) → has_name n first ≡ true → has_name n (added first u) ≡ true
added_keeps n first u h = at (has_name u.name first)
  where
    at : (b : Bool) → has_name n (if b then first else first ++ u ∷ []) ≡ true
    at true = h
    at false = has_behind n first (u ∷ []) h

added_has : (first : List Use) (u : Use) → has_name u.name (added first u) ≡ true
added_has first u = at (has_name u.name first) refl
  where
    at : (b : Bool) → has_name u.name first ≡ b → has_name u.name (if b then first else first ++ u ∷ []) ≡ true
    at true h = h
    at false h = has_last first u

with_keeps : (n : List ℕ) (first us : List Use) → has_name n first ≡ true → has_name n (with_uses first us) ≡ true
with_keeps n first [] h = h
with_keeps n first (u ∷ us) h = with_keeps n (added first u) us (added_keeps n first u h)

good_behind : (plans : Plans) (us : List Use) (u : Use) → AllGood plans us → Good plans u → AllGood plans (us ++ u ∷ [])
good_behind plans [] u h g = (g, tt)
good_behind plans (v ∷ us) u h g = (h.0, good_behind plans us u h.1 g)

added_good : (plans : Plans) (first : List Use) (u : Use) → AllGood plans first → Good plans u → AllGood plans (added first u)
added_good plans first u h g = at (has_name u.name first)
  where
    at : (b : Bool) → AllGood plans (if b then first else first ++ u ∷ [])
    at true = h
    at false = good_behind plans first u h g

with_good : (plans : Plans) (first us : List Use) → AllGood plans first → AllGood plans us → AllGood plans (with_uses first us)
with_good plans first [] h g = h
with_good plans first (u ∷ us) h g = with_good plans (added first u) us (added_good plans first u h g.0) g.1

-- with different names
abbrev Different : List Use → Type 0
Different [] = Unit {0}
Different (u ∷ us) = (has_name u.name us ≡ false) × Different us

none_behind : (n : List ℕ) (us : List Use) (u : Use) → has_name n us ≡ false → bytes_eq n u.name ≡ false → has_name n (us ++ u ∷ []) ≡ false
none_behind n [] u h e = rw e refl
none_behind n (v ∷ us) u h e = at (bytes_eq n v.name) h (λ f. none_behind n us u f e)
  where
    at : (b : Bool) → (b || has_name n us) ≡ false → (has_name n us ≡ false → has_name n (us ++ u ∷ []) ≡ false) → (b || has_name n (us ++ u ∷ [])) ≡ false
    at true g f = absurd (cc)
    at false g f = f g

pub not_first : (a b : Bool) → (a || b) ≡ false → (a ≡ false) × (b ≡ false)
not_first true b h = absurd (cc)
not_first false b h = (refl, h)

different_behind : (us : List Use) (u : Use) → Different us → has_name u.name us ≡ false → Different (us ++ u ∷ [])
different_behind [] u d h = (refl, tt)
different_behind (v ∷ us) u d h =
    let p = not_first (bytes_eq u.name v.name) (has_name u.name us) h in
    (none_behind v.name us u d.0 (same_turned u.name v.name p.0), different_behind us u d.1 p.1)

added_different : (first : List Use) (u : Use) → Different first → Different (added first u)
added_different first u d = at (has_name u.name first) refl
  where
    at : (b : Bool) → has_name u.name first ≡ b → Different (if b then first else first ++ u ∷ [])
    at true h = d
    at false h = different_behind first u d h

with_different : (first us : List Use) → Different first → Different (with_uses first us)
with_different first [] d = d
with_different first (u ∷ us) d = with_different (added first u) us (added_different first u d)

-- each that is called is told
called_told : (plans : Plans) (whole first us : List Use) → whole ≡ with_uses first us → AllGood plans us → AllGood plans whole → Helped (is_told whole) us
called_told plans whole first [] e g all = tt
called_told plans whole first (u ∷ us) e g all =
    let named : has_name u.name whole ≡ true = subst (λ w. has_name u.name w ≡ true) (sym e) (with_keeps u.name (added first u) us (added_has first u)) in
    (told_by_name plans u whole g.0 all named, called_told plans whole (added first u) us e g.1 all)

pub helped : (plans : Plans) (unit : List External) → AllGood plans (unit_uses plans unit) → Helped (is_told (helpers plans unit)) (unit_uses plans unit)
helped plans unit g = called_told plans (helpers plans unit) [] (unit_uses plans unit) refl g (with_good plans [] (unit_uses plans unit) tt g)

-- ---- the unit's own functions

-- no function is named as one of a row's
abbrev pub NoneHelps : List Definition → Type 0
NoneHelps [] = Unit {0}
NoneHelps (f ∷ fs) = (is_helper f.name ≡ false) × NoneHelps fs

unused : (n : List ℕ) (fs : List Definition) → is_helper n ≡ true → NoneHelps fs → none_named n fs ≡ true
unused n [] h k = refl
unused n (f ∷ fs) h k = at (bytes_eq n f.name) refl (unused n fs h k.1)
  where
    at : (b : Bool) → bytes_eq n f.name ≡ b → none_named n fs ≡ true → (not b && none_named n fs) ≡ true
    at true e g = absurd (let same = (bytes_eq-Decides n f.name).0 e in let other : is_helper f.name ≡ true = ap is_helper (sym same) ∙ h in let no = k.0 in cc)
    at false e g = g

is_one : (plans : Plans) (unit : List External) → NoneHelps (functions unit) → (u : Use) → Good plans u → IsHelper plans unit u
is_one plans unit k u g =
    let helper : is_helper u.name ≡ true = ap is_helper g.name ∙ helper_is u.row g.op (range_of g.op) u.imm g.is in
    record {
      op = g.op;
      is = g.is;
      name = g.name;
      plan = g.plan;
      callable = g.callable;
      carried = g.carried;
      fits = g.fits;
      small = g.small;
      helper = helper;
      no_neon = ap neon.find_of g.name ∙ helper_no_neon u.row (range_of g.op) u.imm;
      unused = unused u.name (functions unit) helper k;
    }

all_helpers : (plans : Plans) (unit : List External) → NoneHelps (functions unit) → (us : List Use) → AllGood plans us → Different us → AreHelpers plans unit us
all_helpers plans unit k [] g d = tt
all_helpers plans unit k (u ∷ us) g d = (is_one plans unit k u g.0, d.0, all_helpers plans unit k us g.1 d.1)

pub are_helpers : (plans : Plans) (unit : List External) → NoneHelps (functions unit) → AllGood plans (unit_uses plans unit) → AreHelpers plans unit (helpers plans unit)
are_helpers plans unit k g = all_helpers plans unit k (helpers plans unit) (with_good plans [] (unit_uses plans unit) tt g) (with_different [] (unit_uses plans unit) tt)
