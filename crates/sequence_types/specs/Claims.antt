-- What is claimed of the types of what is written for sequences.
use Rattle.std.specs.Prelude.{◌≡◌, ℕ, Bool, true, false, List, [], ◌∷◌, None, Ok}
use Rattle.c_text.specs.declared.tokens.Dialect.TheVariants.{Neon}
use Rattle.c_text.specs.declared.tokens.Place.{Place}
use Rattle.c_tree.specs.declared.types.CType.{CType}
use Rattle.c_tree.specs.Nodes.{node_type}
use Rattle.c_tree.specs.Tree.{Tree}
use Rattle.neon_table.specs.declared.NeonOp.{NeonOp}
use Rattle.neon_table.specs.Rows.{name_of, signature_of, range_of}
use Rattle.type_rules.specs.Types.{read_type}
use Rattle.type_rules.specs.Passing.{row_heading}
use Rattle.scopes.specs.Scopes.{Env, named}
use Rattle.expression_types.specs.Check.{called}
use Rattle.expression_types.specs.Typed.{Typed, IsVoidPointer}
use Rattle.vector_types.specs.Rows.{is_neon_row}
use Rattle.vector_types.specs.Typed.{MayDefine, TypedFunction}
use Rattle.seq_core.specs.Terms.{Sequence}
use Rattle.seq_core.specs.Formed.{IsCarrier, WellFormed, sequence_type}
use Rattle.seq_core.specs.InPlace.{stands_in_place, in_place}
use Rattle.seq_core.specs.Functions.{function_of}
use Rattle.seq_core.specs.Claims.{IsCallable}

-- A place in a unit of the Neon dialect at which the name of each row means the row: no function of the unit has it, and no object in scope.
pub record SeesRows (env : Env) : Type 0 where
  pub dialect : env.dialect ≡ Neon
  pub neon : env.neon ≡ is_neon_row
  pub undefined : (op : NeonOp) → named (name_of op) env.functions ≡ None
  pub rows : (op : NeonOp) (p : Place) → called (name_of op) p env ≡ Ok (record { heading = row_heading (signature_of op); range = range_of op; outside = false })

-- the expression is its own typed form, and has this type
abbrev pub HasType : Env → CType → Tree → Type 0
HasType env t e = Typed env e e × (node_type e ≡ t)

abbrev pub HaveTypes : Env → List CType → List Tree → Type 0
HaveTypes env [] [] = Unit {0}
HaveTypes env (t ∷ ts) (e ∷ es) = HasType env t e × HaveTypes env ts es
HaveTypes env _ _ = ⊥

-- a parameter of this type is declared so in the Neon dialect
pub record IsDeclarable (t : CType) : Type 0 where
  pub carrier : IsCarrier t
  pub read : read_type Neon t ≡ t
  pub pointer : IsVoidPointer t → ⊥

abbrev pub AreDeclarable : List CType → Type 0
AreDeclarable [] = Unit {0}
AreDeclarable (t ∷ ts) = IsDeclarable t × AreDeclarable ts

-- A sequence that stands in place of a call, over operands of its parameters' types, has the type of its value: no conversion is wanted in it.
abbrev pub InPlaceIsTyped : Type 0
InPlaceIsTyped =
    (env : Env) → SeesRows env → (place : Place) (params : List Tree) (simple : List Bool) (q : Sequence) → WellFormed q → HaveTypes env q.params params → stands_in_place simple q ≡ true
    → HasType env (sequence_type q) (in_place place params q.result)

-- The function that is written for a sequence is its own typed form: no conversion is wanted in it.
abbrev pub FunctionIsTyped : Type 0
FunctionIsTyped =
    (env : Env) → SeesRows env → (place : Place) (name : List ℕ) (q : Sequence) → IsCallable q → AreDeclarable q.params → MayDefine env name
    → TypedFunction env (function_of place name q) (function_of place name q)
