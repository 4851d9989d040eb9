-- The operands of a row's call with its constant in its place are passed as they are (C11 6.5.2.2p2, p7).
use Rattle.std.proofs.Common.{◌≡◌, ℕ, Bool, true, false, ◌&&◌, map, List, [], ◌∷◌, refl, ap, ◌∙◌, subst}
use Rattle.std.specs.Prelude.{pos, if◌then◌else◌}
use Rattle.lane_core.specs.declared.number.IntType.{IntType}
use Rattle.lane_core.specs.declared.number.IntType.TheVariants as int
use Rattle.lane_core.specs.declared.number.Num.{Num}
use Rattle.lane_core.specs.declared.table.ParamKind.{ParamKind}
use Rattle.lane_core.specs.declared.table.ParamKind.TheVariants as kind
use Rattle.lane_core.specs.declared.table.ImmRange.{ImmRange}
use Rattle.scalar_core.specs.Numbers.{num_of, converted}
use Rattle.c_text.specs.declared.tokens.Place.{Place}
use Rattle.c_text.specs.declared.tokens.Dialect.TheVariants.{Neon}
use Rattle.c_tree.specs.declared.types.CType.{CType}
use Rattle.c_tree.specs.Tree as tree
use Rattle.c_tree.specs.Tree.{Tree, Trees, Node, NoTrees, More}
use Rattle.c_tree.specs.Nodes.{node_type}
use Rattle.type_rules.specs.declared.passing.Parameter.TheVariants.{Object, Immediate}
use Rattle.type_rules.specs.Passing.{parameter, immediate_of, is_in_range}
use Rattle.type_rules.specs.Rules.{Given, Passed}
use Rattle.scopes.specs.Scopes.{Env}
use Rattle.expression_types.specs.Check.{is_char, read_number}
use Rattle.expression_types.specs.Typed.{Typed, TypedAll}
use Rattle.expression_types.specs.Typed as typing
use Rattle.seq_core.specs.Formed.{IsCarrier, IsNamed, operand_types}
use Rattle.seq_core.specs.Written.{number, with_constant}
use Rattle.sequence_types.specs.Claims.{HasType}
use Rattle.sequence_types.proofs.RowKinds.{are_taken}
use Rattle.sequence_types.proofs.Given.{assigned_same}

-- each expression has the type in its place
abbrev pub AllTyped : Env → List CType → Trees → Type 0
AllTyped env [] NoTrees = Unit {0}
AllTyped env (t ∷ ts) (More a rest) = HasType env t a × AllTyped env ts rest
AllTyped env _ _ = ⊥

-- a number has its own type (6.4.4), which the Neon dialect reads as it is where it isn't plain `char`
no_plain_char : (t : IntType) → IsNamed t → is_char t ≡ false
no_plain_char int.Char h = absurd h
no_plain_char _ h = refl

second_of : {A : Type 0} (b : Bool) (x y : A) → b ≡ false → (if b then x else y) ≡ y
second_of b x y e = rw e refl

read_as_it_is : (n : Num) → IsNamed n.ty → read_number Neon n ≡ n
read_as_it_is n h = second_of (is_char n.ty) (converted int.UChar n) n (no_plain_char n.ty h)

pub number_typed : (env : Env) → env.dialect ≡ Neon → (place : Place) (n : Num) → IsNamed n.ty → HasType env (CType.Int n.ty) (number place n)
number_typed env e place n h = (
  subst (Typed env (number place n)) (ap (λ m. Node place (CType.Int m.ty) (tree.Const m)) (ap (λ d. read_number d n) e ∙ read_as_it_is n h)) (Typed.constant place (CType.Int n.ty) n),
  refl,
)

int_named : (imm : ℕ) → IsNamed (num_of int.Int (pos imm)).ty
unfolding num_of
int_named imm = tt

int_type : (imm : ℕ) → (num_of int.Int (pos imm)).ty ≡ int.Int
unfolding num_of
int_type imm = refl

pub int_typed : (env : Env) → env.dialect ≡ Neon → (place : Place) (imm : ℕ) → HasType env (CType.Int int.Int) (number place (num_of int.Int (pos imm)))
int_typed env e place imm = subst (λ t. HasType env (CType.Int t) (number place (num_of int.Int (pos imm)))) (int_type imm) (number_typed env e place (num_of int.Int (pos imm)) (int_named imm))

-- ---- the operands

taken_first : (a b : Bool) → (a && b) ≡ true → (a ≡ true) × (b ≡ true)
taken_first true b h = (refl, h)
taken_first false b h = absurd (cc)

given_more : (u : CType) (ks : List ParamKind) (a : Tree) (rest : Trees) → IsCarrier u → node_type a ≡ u → Passed (map parameter ks) rest rest
    → Passed (Object u ∷ map parameter ks) (More a rest) (More a rest)
given_more u ks a rest i e h = Passed.one_more (Object u) (map parameter ks) a a rest rest (Given.by_value u a (assigned_same u a i e)) h

module _ (env : Env) (neon : env.dialect ≡ Neon) (place : Place) (imm : ℕ) where
  pub operands_typed : (ks : List ParamKind) (all : Trees) → are_taken ks ≡ true → AllTyped env (operand_types ks) all → TypedAll env (with_constant place ks all imm) (with_constant place ks all imm)
  operands_typed [] NoTrees t h = TypedAll.none
  operands_typed [] (More a rest) t h = absurd h
  operands_typed (kind.Immediate ∷ ks) all t h =
      let n = number place (num_of int.Int (pos imm)) in
      TypedAll.more n n (with_constant place ks all imm) (with_constant place ks all imm) (int_typed env neon place imm).0 (operands_typed ks all t h)
  operands_typed (kind.Lane l wide ∷ ks) (More a rest) t h = TypedAll.more a a (with_constant place ks rest imm) (with_constant place ks rest imm) h.0.0 (operands_typed ks rest t h.1)
  operands_typed (kind.Pair ∷ ks) (More a rest) t h = TypedAll.more a a (with_constant place ks rest imm) (with_constant place ks rest imm) h.0.0 (operands_typed ks rest t h.1)
  operands_typed (kind.Scalar u ∷ ks) (More a rest) t h = TypedAll.more a a (with_constant place ks rest imm) (with_constant place ks rest imm) h.0.0 (operands_typed ks rest t h.1)
  operands_typed (kind.PointerTo e c ∷ ks) (More a rest) t h = TypedAll.more a a (with_constant place ks rest imm) (with_constant place ks rest imm) h.0.0 (operands_typed ks rest t h.1)
  operands_typed (kind.Reg n ∷ ks) all t h = absurd (cc)
  operands_typed (kind.Nothing ∷ ks) all t h = absurd (cc)
  operands_typed (kind.Lane l wide ∷ ks) NoTrees t h = absurd h
  operands_typed (kind.Pair ∷ ks) NoTrees t h = absurd h
  operands_typed (kind.Scalar u ∷ ks) NoTrees t h = absurd h
  operands_typed (kind.PointerTo e c ∷ ks) NoTrees t h = absurd h

  pub operands_passed : (ks : List ParamKind) (all : Trees) → are_taken ks ≡ true → AllTyped env (operand_types ks) all
      → Passed (map parameter ks) (with_constant place ks all imm) (with_constant place ks all imm)
  operands_passed [] NoTrees t h = Passed.no_more
  operands_passed [] (More a rest) t h = absurd h
  operands_passed (kind.Immediate ∷ ks) all t h =
      let n = number place (num_of int.Int (pos imm)) in
      let w = with_constant place ks all imm in
      Passed.one_more Immediate (map parameter ks) n n w w (Given.by_constant int.Int (int_typed env neon place imm).1) (operands_passed ks all t h)
  operands_passed (kind.Lane l wide ∷ ks) (More a rest) t h = given_more (CType.Neon l wide) ks a (with_constant place ks rest imm) tt h.0.1 (operands_passed ks rest t h.1)
  operands_passed (kind.Pair ∷ ks) (More a rest) t h = given_more CType.Pair ks a (with_constant place ks rest imm) tt h.0.1 (operands_passed ks rest t h.1)
  operands_passed (kind.Scalar u ∷ ks) (More a rest) t h = given_more (CType.Int u) ks a (with_constant place ks rest imm) tt h.0.1 (operands_passed ks rest t h.1)
  operands_passed (kind.PointerTo e c ∷ ks) (More a rest) t h = given_more (CType.Pointer e c) ks a (with_constant place ks rest imm) tt h.0.1 (operands_passed ks rest t h.1)
  operands_passed (kind.Reg n ∷ ks) all t h = absurd (cc)
  operands_passed (kind.Nothing ∷ ks) all t h = absurd (cc)
  operands_passed (kind.Lane l wide ∷ ks) NoTrees t h = absurd h
  operands_passed (kind.Pair ∷ ks) NoTrees t h = absurd h
  operands_passed (kind.Scalar u ∷ ks) NoTrees t h = absurd h
  operands_passed (kind.PointerTo e c ∷ ks) NoTrees t h = absurd h

-- the constant that stands among them is in the row's range
pub constant_fits : (range : ImmRange) (place : Place) (ks : List ParamKind) (all : Trees) (imm : ℕ) → is_in_range range (num_of int.Int (pos imm)).value ≡ true
    → typing.Immediate range (immediate_of (map parameter ks) (with_constant place ks all imm))
constant_fits range place [] NoTrees imm h = typing.Immediate.no_immediate
constant_fits range place [] (More a rest) imm h = typing.Immediate.no_immediate
constant_fits range place (kind.Immediate ∷ ks) all imm h = typing.Immediate.immediate (number place (num_of int.Int (pos imm))) (num_of int.Int (pos imm)) refl h
constant_fits range place (k ∷ ks) NoTrees imm h = typing.Immediate.no_immediate
constant_fits range place (k ∷ ks) (More a rest) imm h = constant_fits range place ks rest imm h
