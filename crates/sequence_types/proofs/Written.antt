-- What is written for a term is its own typed form, over expressions that are (C11 6.5).
use Rattle.std.proofs.Common.{◌≡◌, ℕ, zero, suc, Bool, true, false, List, [], ◌∷◌, refl, subst}
use Rattle.std.specs.Prelude.{pos, get_or, slice_get, replicate, if◌then◌else◌}
use Rattle.std.specs.Option.{unwrap_or}
use Rattle.std.specs.Str.{bytes_eq}
use Rattle.lane_core.specs.declared.number.IntType.TheVariants as int
use Rattle.lane_core.specs.declared.vector.NeonLane.TheVariants.{U8}
use Rattle.lane_core.specs.Register.{lane}
use Rattle.scalar_core.specs.Numbers.{num_of}
use Rattle.c_text.specs.declared.tokens.Place.{Place}
use Rattle.c_text.specs.declared.tokens.Dialect.TheVariants.{Neon}
use Rattle.c_tree.specs.declared.types.CType.{CType}
use Rattle.c_tree.specs.Tree as tree
use Rattle.c_tree.specs.Tree.{Tree, Trees, Node, NoTrees, More}
use Rattle.c_tree.specs.Nodes.{node_type, node_place}
use Rattle.type_rules.specs.declared.passing.Parameter.TheVariants.{Object}
use Rattle.type_rules.specs.Types.{converted}
use Rattle.type_rules.specs.Rules.{Assigned, Given, Passed}
use Rattle.scopes.specs.Scopes.{Env}
use Rattle.expression_types.specs.Typed as typing
use Rattle.expression_types.specs.Typed.{Typed, TypedAll}
use Rattle.seq_core.specs.Rows.{combine, create, broadcast}
use Rattle.seq_core.specs.Terms as term
use Rattle.seq_core.specs.Terms.{Term, Terms}
use Rattle.seq_core.specs.Formed.{vector, byte, type_of, types_of, IsCarrier, IsFormed, AreFormed}
use Rattle.seq_core.specs.Written.{pen, nothing, number, call, eight, zeros, constant, written, all_written}
use Rattle.sequence_types.specs.Claims.{HasType}
use Rattle.sequence_types.proofs.DeclaredTypes.{promoted_named}
use Rattle.sequence_types.proofs.Operands.{AllTyped, number_typed, int_typed}
use Rattle.sequence_types.proofs.CallsOfRows.{CallsRows, call_typed}
use Rattle.sequence_types.proofs.Parts.{operator_typed, integer_cast_typed, choice_typed, pair_typed, half_typed, moved_typed, pointed_typed, set_typed}

-- an expression stands for a value of its type, where that is a type of values
abbrev pub Stands : Env → CType → Tree → Type 0
Stands env t e = IsCarrier t → HasType env t e

abbrev pub AllStand : Env → List CType → List Tree → Type 0
AllStand env [] [] = Unit {0}
AllStand env (t ∷ ts) (e ∷ es) = Stands env t e × AllStand env ts es
AllStand env _ _ = ⊥

-- the expression of a place in the list
pub one_stands : (env : Env) (ts : List CType) (es : List Tree) (n : ℕ) (e : Tree) → AllStand env ts es → IsCarrier (unwrap_or (slice_get ts n) CType.Void) → HasType env (unwrap_or (slice_get ts n) CType.Void) (get_or es n e)
one_stands env [] [] n e h i = absurd i
one_stands env (t ∷ ts) (a ∷ es) zero e h i = h.0 i
one_stands env (t ∷ ts) (a ∷ es) (suc n) e h i = one_stands env ts es n e h.1 i
one_stands env [] (a ∷ es) n e h i = absurd h
one_stands env (t ∷ ts) [] n e h i = absurd h

-- ---- a constant vector

long_type : (n : ℕ) → (num_of int.ULong (pos n)).ty ≡ int.ULong
unfolding num_of
long_type n = refl

long_typed : (env : Env) → env.dialect ≡ Neon → (place : Place) (n : ℕ) → HasType env (CType.Int int.ULong) (number place (num_of int.ULong (pos n)))
long_typed env neon place n =
    let t = long_type n in
    subst (λ t. HasType env (CType.Int t) (number place (num_of int.ULong (pos n)))) t (number_typed env neon place (num_of int.ULong (pos n)) (rw t tt))

module _ (env : Env) (neon : env.dialect ≡ Neon) (calls : CallsRows env) (place : Place) where
  eight_typed : (n : ℕ) → HasType env (CType.Neon U8 false) (eight place n)
  eight_typed n = call_typed env neon calls place create (More (number place (num_of int.ULong (pos n))) NoTrees) 0 refl (long_typed env neon place n, tt)

  -- the constant 0 is converted to `uint8_t`, as an argument is (6.5.2.2p7)
  zeros_typed : HasType env vector (zeros place)
  zeros_typed =
      let none = number place (num_of int.Int (pos 0)) in
      let given = Node place byte (tree.Cast byte none false) in
      let z = int_typed env neon place 0 in
      let passed : Passed (Object byte ∷ []) (More none NoTrees) (More given NoTrees) =
      Passed.one_more (Object byte) [] none given NoTrees NoTrees (Given.by_value byte given (subst (Assigned none byte) (at_byte none z.1) (Assigned.to_integer int.Int int.UChar z.1))) Passed.no_more in
      (calls broadcast place vector (More given NoTrees) (More none NoTrees) (TypedAll.more given none NoTrees NoTrees (Typed.through place byte byte none none z.0) TypedAll.none) passed typing.Immediate.no_immediate, refl)
    where
      at_byte : (a : Tree) → node_type a ≡ CType.Int int.Int → converted byte a ≡ Node (node_place a) byte (tree.Cast byte a false)
      at_byte a h = rw h refl

  pub constant_typed : (r : List ℕ) → HasType env vector (constant place r)
  constant_typed r = either (bytes_eq r (replicate 16 0))
    where
      either : (b : Bool) → HasType env vector (if b then zeros place else call place combine (More (eight place (lane 8 r 0)) (More (eight place (lane 8 r 1)) NoTrees)))
      either true = zeros_typed
      either false = call_typed env neon calls place combine (More (eight place (lane 8 r 0)) (More (eight place (lane 8 r 1)) NoTrees)) 0 refl (eight_typed (lane 8 r 0), (eight_typed (lane 8 r 1), tt))

-- ---- terms

-- the types of a term's parts, as its form has them
as_type : (env : Env) (s t : CType) (e : Tree) → HasType env s e → s ≡ t → HasType env t e
as_type env s t e h q = subst (λ u. HasType env u e) q h

module _ (env : Env) (neon : env.dialect ≡ Neon) (calls : CallsRows env) (place : Place) (params steps : List Tree) (ps ss : List CType) (p : AllStand env ps params) (s : AllStand env ss steps) where
  mutual
    pub term_typed : (t : Term) → IsFormed ps ss t → HasType env (type_of ps ss t) (written (pen place params steps) t)
    term_typed (term.Param n) f = one_stands env ps params n (nothing place) p f
    term_typed (term.Step n) f = one_stands env ss steps n (nothing place) s f
    term_typed (term.Const r) f = constant_typed env neon calls place r
    term_typed (term.Int n) f = number_typed env neon place n (promoted_named n.ty f.0)
    term_typed (term.Call op all imm) f = call_typed env neon calls place op (all_written (pen place params steps) all) imm f.1 (subst (λ ts. AllTyped env ts (all_written (pen place params steps) all)) f.0 (all_typed all f.2))
    term_typed (term.PairOf a b) f =
        pair_typed env neon place (written (pen place params steps) a) (written (pen place params steps) b)
        (as_type env (type_of ps ss a) vector (written (pen place params steps) a) (term_typed a f.2) f.0) (as_type env (type_of ps ss b) vector (written (pen place params steps) b) (term_typed b f.3) f.1)
    term_typed (term.Half a k) f = half_typed env neon place (written (pen place params steps) a) k (as_type env (type_of ps ss a) CType.Pair (written (pen place params steps) a) (term_typed a f.2) f.0) f.1
    term_typed (term.Scalar o a b) f =
        operator_typed env neon place o (written (pen place params steps) a) (written (pen place params steps) b) (type_of ps ss a) (type_of ps ss b) (term_typed a f.2) (term_typed b f.3) f.0 f.1
    term_typed (term.Convert t a) f = integer_cast_typed env neon place t (written (pen place params steps) a) (type_of ps ss a) (term_typed a f.1) f.0
    term_typed (term.Choice c a b) f =
        choice_typed env neon place (written (pen place params steps) c) (written (pen place params steps) a) (written (pen place params steps) b) (type_of ps ss c) (type_of ps ss a)
        (term_typed c f.3) f.0 (term_typed a f.4) (as_type env (type_of ps ss b) (type_of ps ss a) (written (pen place params steps) b) (term_typed b f.5) f.2) f.1
    term_typed (term.Shifted a b) f = moved_typed env neon place (written (pen place params steps) a) (written (pen place params steps) b) (type_of ps ss a) (type_of ps ss b) (term_typed a f.2) (term_typed b f.3) f.0 f.1
    term_typed (term.ByteAt a) f = pointed_typed env neon place (written (pen place params steps) a) (type_of ps ss a) (term_typed a f.1) f.0
    term_typed (term.SetByte a b) f =
        set_typed env neon place (written (pen place params steps) a) (written (pen place params steps) b) (type_of ps ss a) (term_typed a f.2)
        (as_type env (type_of ps ss b) byte (written (pen place params steps) b) (term_typed b f.3) f.1) f.0

    pub all_typed : (all : Terms) → AreFormed ps ss all → AllTyped env (types_of ps ss all) (all_written (pen place params steps) all)
    all_typed term.NoTerms f = tt
    all_typed (term.More t rest) f = (term_typed t f.0, all_typed rest f.1)
