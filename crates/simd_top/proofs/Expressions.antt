-- An expression of the form and the one that is written for it give the same register.
use Rattle.std.proofs.Common.{◌≡◌, ℕ, List, [], ◌∷◌, Bool, true, false, ◌&&◌, Option, Some, None, Ok, is_some, refl, sym, ◌∙◌, ap, subst}
use Rattle.lane_core.specs.Register.{IsRegister}
use Rattle.c_text.specs.declared.tokens.Dialect.TheVariants.{Neon}
use Rattle.c_text.specs.declared.tokens.Place.{Place}
use Rattle.simd_top.specs.declared.rows.FormRow.{FormRow}
use Rattle.simd_top.specs.declared.rows.FormRow.TheVariants.{AddEpi8, SubEpi8, AvgEpu8, MinEpu8, XorSi128}
use Rattle.row_names.specs.Groups.{first_named}
use Rattle.neon_lane.specs.ArithmeticRows as neon_arithmetic
use Rattle.neon_lane.specs.SaturatingRows as neon_saturating
use Rattle.neon_lane.specs.ExtremesRows as neon_extremes
use Rattle.neon_lane.specs.LogicRows as neon_logic
use Rattle.neon_table.specs.Rows as neon_table
use Rattle.c_tree.specs.declared.types.CType.{CType}
use Rattle.c_tree.specs.Tree.{Tree, Kind, Node, Const, Name, Unary, Step, Binary, AndThen, OrElse, Choice, Assign, Comma, Cast, Index, Deref, Address, Call, Half, PairOf, SizeOfType, SizeOfName, Str, NoTrees, More}
use Rattle.address_taken.specs.Addressed.{takes}
use Rattle.scopes.specs.Scopes.{Env, Scope, Callee, named}
use Rattle.vector_types.specs.Rows.{row_of_table, is_neon_row}
use Rattle.scopes.specs.declared.environment.Object.{Object}
use Rattle.expression_types.specs.Check.{check, check_kind}
use Rattle.c_memory.specs.declared.value.Value.{Value}
use Rattle.c_memory.specs.MeaningState.{State, Done, Does, ◌>>=◌, object_of}
use Rattle.c_memory.specs.Meaning.{Calls, expression, values, give, object_value}
use Rattle.simd_top.specs.Rows.{intel_row, neon_name, moved_row}
use Rattle.simd_top.specs.Form.{is_in, is_expression, are_expressions}
use Rattle.reading_again.specs.Plain.{Plain}
use Rattle.simd_top.specs.Written.{register, moved_tree, moved_kind}
use Rattle.simd_top.proofs.Conjunction.{split_and}
use Rattle.simd_top.proofs.Values.{row_of, moved_row_of, rows_same, row_register}

-- the calls do the five rows, those of the source by Intel's table and those of the written unit by Arm's
abbrev pub DoRows : Calls → Calls → Type 0
DoRows c d = (f : List ℕ) (op : FormRow) (a b : List ℕ) (s t : State) → intel_row f ≡ Some op →
    (c f (Value.R16 a ∷ Value.R16 b ∷ []) s ≡ Done (Some (Value.R16 (row_of op a b))) s)
    × (d (neon_name (moved_row op)) (Value.R16 a ∷ Value.R16 b ∷ []) t ≡ Done (Some (Value.R16 (moved_row_of op a b))) t)

-- both give the same register, and change nothing
pub record BothGive (p q : Does (Option Value)) (s t : State) : Type 0 where
  pub register : List ℕ
  pub is_register : IsRegister 16 register
  pub first : p s ≡ Done (Some (Value.R16 register)) s
  pub second : q t ≡ Done (Some (Value.R16 register)) t

-- what a name gives
abbrev pub name_value : List ℕ → Does (Option Value)
name_value x = give (object_of x >>= (λ b. object_value b.ty b))

-- each of the names gives the same register in both states
abbrev pub Known : List (List ℕ) → State → State → Type 0
Known names s t = (x : List ℕ) → is_in names x ≡ true → BothGive (name_value x) (name_value x) s t

-- a call of two operands that give registers
two : (c : Calls) (f : List ℕ) (a b : Tree) (s : State) (v w : List ℕ) → expression a c s ≡ Done (Some (Value.R16 v)) s → expression b c s ≡ Done (Some (Value.R16 w)) s →
    (values (More a (More b NoTrees)) c >>= c f) s ≡ c f (Value.R16 v ∷ Value.R16 w ∷ []) s
two c f a b s v w h k = rw (h, k) refl

-- ---- what is written for expressions of the form

-- what the body of a function of the Neon unit sees: its parameters, and the unit's functions
abbrev pub seen : Scope → List (List ℕ × Callee) → ℕ → Bool → Env
seen scope functions here calls_none = record { dialect = Neon; rows = row_of_table Neon; neon = is_neon_row; outer = [] ∷ []; innermost = scope; functions = functions; here = here; calls_none = calls_none }

-- an object that is a register, const or not
abbrev pub known : Bool → Object
known constant = record { ty = register; constant = constant }

-- each of the names is a register's
abbrev pub AreKnown : List (List ℕ) → Scope → Type 0
AreKnown names scope = (x : List ℕ) → is_in names x ≡ true → (constant : Bool) × (named x scope ≡ Some (known constant))

-- none is the name of a Neon row
abbrev pub HasNoRow : {V : Type 0} → List (List ℕ × V) → Type 0
HasNoRow all = (op : FormRow) → named (neon_name (moved_row op)) all ≡ None

-- The expression w that is written for e has its types as it is, names no array, takes no address, as e, and gives the register that e gives.
pub record Moves (names : List (List ℕ)) (e w : Tree) (env : Env) : Type 0 where
  pub typed : check w env ≡ Ok w
  pub plain : Plain w
  pub takes_none : (x : List ℕ) → (takes x e ≡ false) × (takes x w ≡ false)
  pub gives : (c d : Calls) (s t : State) → DoRows c d → Known names s t → BothGive (expression e c) (expression w d) s t

name_typed : (x : List ℕ) (p : Place) (constant : Bool) (scope : Scope) (functions : List (List ℕ × Callee)) (here : ℕ) (calls_none : Bool) → named x scope ≡ Some (known constant) →
    check_kind (Name x) p (seen scope functions here calls_none) ≡ Ok (Node p register (Name x))
name_typed x p constant scope functions here calls_none h = rw h refl

call_typed : (op : FormRow) (p q r : Place) (k l : Kind) (a b : Tree) (scope : Scope) (functions : List (List ℕ × Callee)) (here : ℕ) (calls_none : Bool) →
    named (neon_name (moved_row op)) scope ≡ None → named (neon_name (moved_row op)) functions ≡ None →
    check a (seen scope functions here calls_none) ≡ Ok (Node q register k) → check b (seen scope functions here calls_none) ≡ Ok (Node r register l) →
    check_kind (Call (neon_name (moved_row op)) (More a (More b NoTrees))) p (seen scope functions here calls_none)
    ≡ Ok (Node p register (Call (neon_name (moved_row op)) (More (Node q register k) (More (Node r register l) NoTrees))))
unfolding neon_table.find_of neon_table.lane_rows first_named neon_arithmetic.arithmetic_rows neon_saturating.saturating_rows neon_extremes.extremes_rows neon_logic.logic_rows
call_typed AddEpi8 p q r k l a b scope functions here calls_none h i m n = rw (h, i, m, n) refl
call_typed SubEpi8 p q r k l a b scope functions here calls_none h i m n = rw (h, i, m, n) refl
call_typed AvgEpu8 p q r k l a b scope functions here calls_none h i m n = rw (h, i, m, n) refl
call_typed MinEpu8 p q r k l a b scope functions here calls_none h i m n = rw (h, i, m, n) refl
call_typed XorSi128 p q r k l a b scope functions here calls_none h i m n = rw (h, i, m, n) refl

-- a parameter is written as itself
name_moves : (names : List (List ℕ)) (x : List ℕ) (p : Place) (t : CType) (scope : Scope) (functions : List (List ℕ × Callee)) (here : ℕ) (calls_none : Bool) →
    AreKnown names scope → is_in names x ≡ true → Moves names (Node p t (Name x)) (Node p register (Name x)) (seen scope functions here calls_none)
name_moves names x p t scope functions here calls_none knows is =
    let (constant, at) = knows x is in
    record {
      typed = name_typed x p constant scope functions here calls_none at;
      plain = tt;
      takes_none = λ y. (refl, refl);
      gives = λ c d s t do_rows values. let g = values x is in record { register = g.register; is_register = g.is_register; first = g.first; second = g.second };
    }

-- and a row of two expressions as the row that stands for it
row_moves : (names : List (List ℕ)) (f : List ℕ) (op : FormRow) (a b : Tree) (p : Place) (t : CType) (scope : Scope) (functions : List (List ℕ × Callee)) (here : ℕ) (calls_none : Bool) →
    HasNoRow scope → HasNoRow functions → intel_row f ≡ Some op → Moves names a (moved_tree a) (seen scope functions here calls_none) → Moves names b (moved_tree b) (seen scope functions here calls_none) →
    Moves names (Node p t (Call f (More a (More b NoTrees)))) (Node p register (Call (neon_name (moved_row op)) (More (moved_tree a) (More (moved_tree b) NoTrees)))) (seen scope functions here calls_none)
row_moves names f op (Node q t k) (Node r u l) p v scope functions here calls_none no_scope no_function is x y =
    let a = Node q t k in
    let b = Node r u l in
    record {
      typed = call_typed op p q r (moved_kind k) (moved_kind l) (moved_tree a) (moved_tree b) scope functions here calls_none (no_scope op) (no_function op) x.typed y.typed;
      plain = (x.plain, (y.plain, tt));
      takes_none = λ z. (rw ((x.takes_none z).0, (y.takes_none z).0) refl, rw ((x.takes_none z).1, (y.takes_none z).1) refl);
      gives = λ c d s t do_rows values.
          let v = x.gives c d s t do_rows values in
          let w = y.gives c d s t do_rows values in
          let done = do_rows f op v.register w.register s t is in
          record {
            register = row_of op v.register w.register;
            is_register = row_register op v.register w.register;
            first = two c f a b s v.register w.register v.first w.first ∙ done.0;
            second = two d (neon_name (moved_row op)) (moved_tree a) (moved_tree b) t v.register w.register v.second w.second ∙ done.1
                ∙ ap (λ r. Done (Some (Value.R16 r)) t) (sym (rows_same op v.register w.register v.is_register w.is_register));
          };
    }

row_written : (f : List ℕ) (op : FormRow) (a b : Tree) (p : Place) (t : CType) → intel_row f ≡ Some op →
    moved_tree (Node p t (Call f (More a (More b NoTrees)))) ≡ Node p register (Call (neon_name (moved_row op)) (More (moved_tree a) (More (moved_tree b) NoTrees)))
row_written f op a b p t is = rw is refl

the_row : (o : Option FormRow) → is_some o ≡ true → (op : FormRow) × (o ≡ Some op)
the_row None h = absurd (cc)
the_row (Some op) h = (op, refl)

no_two : (v w : Bool) → ((v && false) && w) ≡ true → false ≡ true
no_two true w h = h
no_two false w h = h

-- every expression of the form
pub moves : (names : List (List ℕ)) (e : Tree) (scope : Scope) (functions : List (List ℕ × Callee)) (here : ℕ) (calls_none : Bool) → AreKnown names scope → HasNoRow scope → HasNoRow functions →
    is_expression names e ≡ true → Moves names e (moved_tree e) (seen scope functions here calls_none)
moves names (Node p t (Name x)) scope functions here calls_none knows no_scope no_function h = name_moves names x p t scope functions here calls_none knows h
moves names (Node p t (Call f NoTrees)) scope functions here calls_none knows no_scope no_function h = let e = no_two (is_some (intel_row f)) true h in absurd (cc)
moves names (Node p t (Call f (More a NoTrees))) scope functions here calls_none knows no_scope no_function h = let e = no_two (is_some (intel_row f)) (is_expression names a && true) h in absurd (cc)
moves names (Node p t (Call f (More a (More b NoTrees)))) scope functions here calls_none knows no_scope no_function h =
    let g = split_and (is_some (intel_row f) && true) (is_expression names a && (is_expression names b && true)) h in
    let k = split_and (is_expression names a) (is_expression names b && true) g.1 in
    let (op, is) = the_row (intel_row f) (split_and (is_some (intel_row f)) true g.0).0 in
    subst (λ w. Moves names (Node p t (Call f (More a (More b NoTrees)))) w (seen scope functions here calls_none)) (sym (row_written f op a b p t is))
    (row_moves names f op a b p t scope functions here calls_none no_scope no_function is
    (moves names a scope functions here calls_none knows no_scope no_function k.0)
    (moves names b scope functions here calls_none knows no_scope no_function (split_and (is_expression names b) true k.1).0))
moves names (Node p t (Call f (More a (More b (More e rest))))) scope functions here calls_none knows no_scope no_function h =
    let n = no_two (is_some (intel_row f)) (are_expressions names (More a (More b (More e rest)))) h in absurd (cc)
moves names (Node p t (Const n)) scope functions here calls_none knows no_scope no_function h = absurd (cc)
moves names (Node p t (Unary o a)) scope functions here calls_none knows no_scope no_function h = absurd (cc)
moves names (Node p t (Step a u b)) scope functions here calls_none knows no_scope no_function h = absurd (cc)
moves names (Node p t (Binary o a b)) scope functions here calls_none knows no_scope no_function h = absurd (cc)
moves names (Node p t (AndThen a b)) scope functions here calls_none knows no_scope no_function h = absurd (cc)
moves names (Node p t (OrElse a b)) scope functions here calls_none knows no_scope no_function h = absurd (cc)
moves names (Node p t (Choice e a b)) scope functions here calls_none knows no_scope no_function h = absurd (cc)
moves names (Node p t (Assign o a b)) scope functions here calls_none knows no_scope no_function h = absurd (cc)
moves names (Node p t (Comma all)) scope functions here calls_none knows no_scope no_function h = absurd (cc)
moves names (Node p t (Cast u a w)) scope functions here calls_none knows no_scope no_function h = absurd (cc)
moves names (Node p t (Index a b)) scope functions here calls_none knows no_scope no_function h = absurd (cc)
moves names (Node p t (Deref a)) scope functions here calls_none knows no_scope no_function h = absurd (cc)
moves names (Node p t (Address a)) scope functions here calls_none knows no_scope no_function h = absurd (cc)
moves names (Node p t (Half a n)) scope functions here calls_none knows no_scope no_function h = absurd (cc)
moves names (Node p t (PairOf a b)) scope functions here calls_none knows no_scope no_function h = absurd (cc)
moves names (Node p t (SizeOfType u)) scope functions here calls_none knows no_scope no_function h = absurd (cc)
moves names (Node p t (SizeOfName x)) scope functions here calls_none knows no_scope no_function h = absurd (cc)
moves names (Node p t (Str x)) scope functions here calls_none knows no_scope no_function h = absurd (cc)
