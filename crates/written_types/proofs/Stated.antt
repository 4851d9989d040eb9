-- An operand whose conversion is written is its own typed form (C11 6.5.4, 6.5.16.1).
use Rattle.std.proofs.Common.{◌≡◌, refl, sym, ap, ◌∙◌, subst, Bool, true, false, List, [], ◌∷◌, map, if◌then◌else◌}
use Rattle.lane_core.specs.declared.number.IntType.{IntType}
use Rattle.lane_core.specs.declared.number.IntType.TheVariants as int
use Rattle.c_text.specs.declared.tokens.Dialect.TheVariants.{Neon}
use Rattle.c_text.specs.declared.tokens.Place.{Place}
use Rattle.c_tree.specs.declared.types.CType.{CType}
use Rattle.c_tree.specs.Nodes.{node_type, node_place}
use Rattle.c_tree.specs.Tree.{Tree, Kind, Trees, Node, Cast, NoTrees, More}
use Rattle.c_memory.specs.Matching.{written_integer, written_type}
use Rattle.type_rules.specs.Types.{same_type, read_integer, read_type, converted}
use Rattle.type_rules.specs.Rules as rule
use Rattle.type_rules.specs.Rules.{Results, Assigned, to_integer, null_pointer, to_pointer, to_vector}
use Rattle.scopes.specs.Scopes.{Env}
use Rattle.expression_types.specs.Typed as typed
use Rattle.expression_types.specs.Typed.{Typed}
use Rattle.seq_core.specs.Listed.{listed}
use Rattle.sequence_types.specs.Claims.{HasType, HaveTypes}
use Rattle.written_forms.specs.Moved.{stated, all_stated}
use Rattle.written_forms.specs.Ready.{IsCarried, AreCarried}
use Rattle.written_types.proofs.Types.{same_is}
use Rattle.written_types.proofs.Arguments.{IsGiven, AreGiven}

-- the types of operands in what is written, which the Neon dialect reads as they are
abbrev IsOwnType : CType → Type 0
IsOwnType (CType.Int s) = read_integer Neon s ≡ s
IsOwnType (CType.Neon l wide) = Unit {0}
IsOwnType t = ⊥

integer_own : (s : IntType) → read_integer Neon (written_integer s) ≡ written_integer s
integer_own int.Boolean = refl
integer_own int.Char = refl
integer_own int.SChar = refl
integer_own int.UChar = refl
integer_own int.Short = refl
integer_own int.UShort = refl
integer_own int.Int = refl
integer_own int.UInt = refl
integer_own int.Long = refl
integer_own int.ULong = refl
integer_own int.LLong = refl
integer_own int.ULLong = refl

carried_own : (t : CType) → IsCarried t → IsOwnType (written_type t)
carried_own (CType.Int s) h = integer_own s
carried_own CType.M128 h = tt
carried_own t h = absurd h

-- no form but an array's name becomes a conversion that isn't written
result_stated : (p : Place) (k : Kind) (v : Tree) → Results p k v → stated v ≡ v
result_stated p k v (rule.constant n) = refl
result_stated p k v (rule.cast_to_void a) = refl
result_stated p k v (rule.cast_to_integer a s t h) = refl
result_stated p k v (rule.cast_to_pointer a e f c d h) = refl
result_stated p k v r = refl

typed_stated : (env : Env) (a v : Tree) → Typed env a v → IsOwnType (node_type v) → stated v ≡ v
typed_stated env a v (typed.constant p t n) h = refl
typed_stated env a v (typed.object p t x o i n) h = refl
typed_stated env a v (typed.array p t x o e n c i j) h = absurd h
typed_stated env a v (typed.unary p t o b b' w i r) h = result_stated p _ v r
typed_stated env a v (typed.binary p t o b b' c c' w i j r) h = result_stated p _ v r
typed_stated env a v (typed.conjunction p t b b' c c' w i j r) h = result_stated p _ v r
typed_stated env a v (typed.disjunction p t b b' c c' w i j r) h = result_stated p _ v r
typed_stated env a v (typed.choice p t b b' c c' d d' w i j l r) h = result_stated p _ v r
typed_stated env a v (typed.sequence p t all all' w i r) h = result_stated p _ v r
typed_stated env a v (typed.index p t b b' c c' w i j r) h = result_stated p _ v r
typed_stated env a v (typed.dereference p t b b' w i r) h = result_stated p _ v r
typed_stated env a v (typed.half_of p t b b' w n i r) h = result_stated p _ v r
typed_stated env a v (typed.pair p t b b' c c' w i j r) h = result_stated p _ v r
typed_stated env a v (typed.step p t b b' w up before i d r) h = result_stated p _ v r
typed_stated env a v (typed.assign p t o b b' c c' w i j d r) h = result_stated p _ v r
typed_stated env a v (typed.address p t b b' c e i d o) h = refl
typed_stated env a v (typed.cast p t u b b' w i r n) h = result_stated p _ v r
typed_stated env a v (typed.through p t u b b' i) h = typed_stated env b v i h
typed_stated env a v (typed.size p t u w r n) h = result_stated p _ v r
typed_stated env a v (typed.size_of_object p t x o n i j) h = refl
typed_stated env a v (typed.call_of_function p t f c all all' args u o i before none many passed j) h = refl
typed_stated env a v (typed.call_of_row p t f r all all' args u o none i many passed j) h = refl

-- a written conversion of an expression that is its own typed form
cast_own : (env : Env) → env.dialect ≡ Neon → (p : Place) (s u : IntType) (a : Tree) → read_integer Neon u ≡ u → node_type a ≡ CType.Int s → Typed env a a → Typed env (Node p (CType.Int u) (Cast (CType.Int u) a true)) (Node p (CType.Int u) (Cast (CType.Int u) a true))
cast_own env d p s u a own h own_typed =
    let same : read_type env.dialect (CType.Int u) ≡ CType.Int u = ap (λ z. read_type z (CType.Int u)) d ∙ ap CType.Int own in
    typed.cast p (CType.Int u) (CType.Int u) a a (Node p (CType.Int u) (Cast (CType.Int u) a true)) own_typed
    (subst (λ z. Results p (Cast z a true) (Node p (CType.Int u) (Cast (CType.Int u) a true))) (sym same) (rule.cast_to_integer a s u h)) (λ z. z)

as_it_is : (env : Env) (t : CType) (a : Tree) → Typed env a a → node_type a ≡ t → IsOwnType t → HasType env t (stated a)
as_it_is env t a own h i = let same = typed_stated env a a own (subst IsOwnType (sym h) i) in subst (HasType env t) (sym same) (own, h)

given_stated : (env : Env) → env.dialect ≡ Neon → (a e : Tree) (t : CType) → IsOwnType t → Typed env a a → Assigned a t e → HasType env t (stated e)
given_stated env d a e t i own (to_integer s u h) = at (same_type (node_type a) (CType.Int u)) refl
  where
    same : same_type (node_type a) (CType.Int u) ≡ true → node_type a ≡ CType.Int u
    same g = h ∙ ap CType.Int (same_is s u (ap (λ z. same_type z (CType.Int u)) (sym h) ∙ g))

    at : (b : Bool) → same_type (node_type a) (CType.Int u) ≡ b → HasType env (CType.Int u) (stated (if b then a else Node (node_place a) (CType.Int u) (Cast (CType.Int u) a false)))
    at true g = as_it_is env (CType.Int u) a own (same g) i
    at false g = (cast_own env d (node_place a) s u a i h own, refl)
given_stated env d a e t i own (null_pointer s f c h z) = absurd i
given_stated env d a e t i own (to_pointer f g c k h l z) = absurd i
given_stated env d a e t i own (to_vector u v h) = as_it_is env t a own h i

pub all_have : (env : Env) → env.dialect ≡ Neon → (ts : List CType) → AreCarried ts → (all : Trees) → AreGiven env (map written_type ts) (listed all) → HaveTypes env (map written_type ts) (listed (all_stated all))
all_have env d [] c NoTrees h = tt
all_have env d [] c (More a rest) h = absurd h
all_have env d (t ∷ ts) c NoTrees h = absurd h
all_have env d (t ∷ ts) c (More a rest) h = (given_stated env d h.0.from a (written_type t) (carried_own t c.0) h.0.own h.0.given, all_have env d ts c.1 rest h.1)
