-- The arguments of calls (C11 6.5.2.2).
use Rattle.std.proofs.Common.{◌≡◌, refl, sym, subst, List, [], ◌∷◌, ◌++◌, map, Option, None}
use Rattle.lane_core.specs.declared.table.ParamKind.{ParamKind}
use Rattle.lane_core.specs.declared.table.ParamKind.TheVariants as kind
use Rattle.c_tree.specs.declared.types.CType.{CType}
use Rattle.c_tree.specs.Tree.{Tree, Trees, More}
use Rattle.scopes.specs.Scopes.{or_else}
use Rattle.type_rules.specs.declared.passing.Parameter.{Parameter}
use Rattle.type_rules.specs.declared.passing.Parameter.TheVariants as passing
use Rattle.type_rules.specs.Passing.{parameter, kind_type}
use Rattle.type_rules.specs.Rules.{Assigned, Passed, Given, one_more, no_more, by_value, by_constant}
use Rattle.written_forms.specs.Seen.{Sees}
use Rattle.written_forms.specs.Moved.{Plans, operands}
use Rattle.written_forms.specs.Helpers.{Use, uses, all_uses}
use Rattle.ready_units.specs.Movable.{unmoved_in, unmoved_among}
use Rattle.written_forms.specs.Ready.{Setting, Ready, AreReady, AreCarried, operand_types, types_of}
use Rattle.ready_units.proofs.Sound.{Helps, Helped, Sound, SoundAll, all_sound}
use Rattle.ready_units.proofs.Conversions.{given}

pub helped_both : (helps : Helps) (us vs : List Use) → Helped helps us → Helped helps vs → Helped helps (us ++ vs)
helped_both helps [] vs h g = g
helped_both helps (u ∷ us) vs h g = (h.0, helped_both helps us vs h.1 g)

both_none : {A : Type 0} (a b : Option A) → a ≡ None → b ≡ None → or_else a b ≡ None
both_none a b h g = rw (h, g) refl

-- an immediate stays as it is, and an operand is given to an object of its parameter's type
as_it_is : (a b : Tree) (o : Parameter) → o ≡ passing.Immediate → Given a o b → b ≡ a
as_it_is a b o e (by_value t c h) = absurd (cc)
as_it_is a b o e (by_constant t h) = refl

by_its_value : (a b : Tree) (o : Parameter) (t : CType) → o ≡ passing.Object t → Given a o b → Assigned a t b
by_its_value a b o t e (by_value u c h) = let same : u ≡ t = cc in subst (λ v. Assigned a v b) same h
by_its_value a b o t e (by_constant u h) = absurd (cc)

module _ (plans : Plans) (helps : Helps) (sees : Sees) (w : Setting) where
  more_sound : (a : Tree) (rest : Trees) → Sound plans helps sees a → SoundAll plans helps sees rest → SoundAll plans helps sees (More a rest)
  more_sound a rest s t = record {
    moves = both_none (unmoved_in plans a) (unmoved_among plans rest) s.moves t.moves;
    calm = (s.calm, t.calm);
    named = helped_both helps (uses plans sees a) (all_uses plans sees rest) s.named t.named;
  }

  -- the arguments of a function
  pub record ArePassed (ts : List CType) (all args : Trees) : Type 0 where
    pub sound : SoundAll plans helps sees all
    pub ready : AreReady w sees all → AreReady w sees args
    pub types : types_of args ≡ ts

  pub passed : (ts : List CType) (all args : Trees) → Passed (map passing.Object ts) all args → SoundAll plans helps sees args → ArePassed ts all args
  passed [] all args no_more k = record { sound = k; ready = λ r. r; types = refl }
  passed (t ∷ ts) all args (one_more u us a b more rest (by_value v c h) p) k =
      let s = all_sound plans helps sees b rest k in
      let g = given plans helps sees w a b t h s.0 in
      let next = passed ts more rest p s.1 in
      record { sound = more_sound a more g.sound next.sound; ready = λ r. (g.ready r.0, next.ready r.1); types = rw (g.ty, next.types) refl }

  -- those of a row: the operands and the immediate
  pub record AreOperands (ks : List ParamKind) (all args : Trees) : Type 0 where
    pub sound : SoundAll plans helps sees all
    pub ready : AreReady w sees all → AreReady w sees args
    pub types : types_of (operands ks args) ≡ operand_types ks
    pub carried : AreCarried (operand_types ks)

  pub row_passed : (ks : List ParamKind) (all args : Trees) → Passed (map parameter ks) all args → SoundAll plans helps sees args → AreOperands ks all args
  row_passed [] all args no_more k = record { sound = k; ready = λ r. r; types = refl; carried = tt }
  row_passed (kind.Immediate ∷ ks) all args (one_more u us a b more rest g p) k =
      let s = all_sound plans helps sees b rest k in
      let same = as_it_is a b passing.Immediate refl g in
      let next = row_passed ks more rest p s.1 in
      record { sound = more_sound a more (subst (Sound plans helps sees) same s.0) next.sound; ready = λ r. (subst (Ready w sees) (sym same) r.0, next.ready r.1); types = next.types; carried = next.carried }
  row_passed (o ∷ ks) all args (one_more u us a b more rest g p) k =
      let s = all_sound plans helps sees b rest k in
      let h = given plans helps sees w a b (kind_type o) (by_its_value a b (passing.Object (kind_type o)) (kind_type o) refl g) s.0 in
      let next = row_passed ks more rest p s.1 in
      record { sound = more_sound a more h.sound next.sound; ready = λ r. (h.ready r.0, next.ready r.1); types = rw (h.ty, next.types) refl; carried = (h.carried, next.carried) }
