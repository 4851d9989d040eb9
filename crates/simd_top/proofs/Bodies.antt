-- A function of the form and the one that is written for it return the same register.
use Rattle.std.proofs.Common.{◌≡◌, ℕ, List, [], ◌∷◌, ◌++◌, map, length, Bool, true, false, ◌&&◌, not, Option, Some, None, Ok, is_some, is_none, refl, sym, ◌∙◌, ap, subst}
use Rattle.c_text.specs.declared.tokens.Dialect.TheVariants.{Neon}
use Rattle.c_text.specs.declared.tokens.Place.{Place}
use Rattle.neon_table.specs.Rows as neon_table
use Rattle.c_tree.specs.declared.types.CType.{CType}
use Rattle.c_tree.specs.declared.types.CType.TheVariants as ctypes
use Rattle.c_tree.specs.Tree.{Tree, Node}
use Rattle.c_tree.specs.Tree.{Object, Statement, Statements, Declare, Run, Block, If, While, DoWhile, For, Break, Continue, Return, Empty, NoStatements, Then, Definition}
use Rattle.address_taken.specs.Addressed.{takes, takes_statements}
use Rattle.scopes.specs.Scopes.{Env, Callee, named}
use Rattle.expression_types.specs.Check.{check}
use Rattle.statement_types.specs.Statements.{with_objects, around, check_statements}
use Rattle.vector_types.specs.Rows.{row_of_table, is_neon_row}
use Rattle.vector_types.specs.Functions.{is_before, is_helper, check_parameters, check_function}
use Rattle.c_memory.specs.declared.blocks.Block.{Block as MemoryBlock}
use Rattle.c_memory.specs.declared.value.Value.{Value}
use Rattle.c_memory.specs.Matching.{ArgumentsMatch, written_type}
use Rattle.c_memory.specs.Memory.{ended_from}
use Rattle.c_memory.specs.MeaningState.{State, Done, Does}
use Rattle.c_memory.specs.Meaning.{Calls, expression, call_of}
use Rattle.c_memory.specs.Values.{AreArguments}
use Rattle.c_memory.specs.Functions.{types_of}
use Rattle.c_memory.specs.Written.{FunctionsMatch}
use Rattle.reading_again.specs.Plain.{PlainFunction}
use Rattle.simd_top.specs.Form.{is_in, is_free, is_plain, is_parameter, are_parameters, names_of, is_register, is_expression, returns, returns_option, is_body, is_heading, is_function}
use Rattle.simd_top.specs.Written.{register, moved_type, moved_tree, moved_object, moved_statements, moved_function}
use Rattle.simd_top.proofs.Conjunction.{split_and}
use Rattle.simd_top.proofs.Expressions.{DoRows, HasNoRow, seen, moves}
use Rattle.simd_top.proofs.FreeNames.{no_neon_row}
use Rattle.simd_top.proofs.Headings.{result_and_name, heading_of}
use Rattle.simd_top.proofs.Parameters.{Heads, paired, state, parameters_begin, known, AllRegisters, registers, m128}
use Rattle.simd_top.proofs.MovedParameters.{parameters_written, are_written, parameters_typed, objects_grow, plain_parameters, grown, are_known, no_row_grown}

-- what the parts of the Neon unit see before a function's own
abbrev pub outside_functions : List (List ℕ × Callee) → ℕ → Env
outside_functions functions here = record { dialect = Neon; rows = row_of_table Neon; neon = is_neon_row; outer = []; innermost = []; functions = functions; here = here; calls_none = false }

-- ---- a function's body

-- the body is one `return` of an expression of the form
record IsReturn (names : List (List ℕ)) (body : Statements) : Type 0 where
  place : Place
  value : Tree
  is : body ≡ Then (Return place (Some value)) NoStatements
  form : is_expression names value ≡ true

of_option : (names : List (List ℕ)) (p : Place) (e : Option Tree) → returns_option names e ≡ true → IsReturn names (Then (Return p e) NoStatements)
of_option names p None h = absurd (cc)
of_option names p (Some e) h = record { place = p; value = e; is = refl; form = h }

of_statement : (names : List (List ℕ)) (s : Statement) → returns names s ≡ true → IsReturn names (Then s NoStatements)
of_statement names (Return p e) h = of_option names p e h
of_statement names (Declare os) h = absurd (cc)
of_statement names (Run e) h = absurd (cc)
of_statement names (Block all) h = absurd (cc)
of_statement names (If c s o) h = absurd (cc)
of_statement names (While c s) h = absurd (cc)
of_statement names (DoWhile s c) h = absurd (cc)
of_statement names (For i c n s) h = absurd (cc)
of_statement names (Break p) h = absurd (cc)
of_statement names (Continue p) h = absurd (cc)
of_statement names Empty h = absurd (cc)

is_return : (names : List (List ℕ)) (body : Statements) → is_body names body ≡ true → IsReturn names body
is_return names NoStatements h = absurd (cc)
is_return names (Then s NoStatements) h = of_statement names s (split_and (returns names s) true h).0
is_return names (Then s (Then t rest)) h = let e = (split_and (returns names s) false h).1 in absurd (cc)

-- ---- a call

-- the calls of both functions give the same register; what they began has ended
pub record BothDone (p q : Does (Option Value)) (s : State) : Type 0 where
  pub register : List ℕ
  pub first : p s ≡ Done (Some (Value.R16 register)) (record s { memory = ended_from (length s.memory) s.memory })
  pub second : q s ≡ Done (Some (Value.R16 register)) (record s { memory = ended_from (length s.memory) s.memory })

-- a function that returns what an expression gives
call_gives : (g : CType → CType) (f : Definition) (ds : List Object) (p : Place) (e : Tree) (c : Calls) (rs : List (List ℕ)) (r : List ℕ) (s : State) →
    Heads g f.params ds → f.body ≡ Then (Return p (Some e)) NoStatements → ((x : List ℕ) → takes x e ≡ false) → length rs ≡ length ds →
    expression e c (state g (paired ds rs []) s.memory s.left) ≡ Done (Some (Value.R16 r)) (state g (paired ds rs []) s.memory s.left) →
    call_of [] f c (map Value.R16 rs) s ≡ Done (Some (Value.R16 r)) (record s { memory = ended_from (length s.memory) s.memory })
call_gives g f ds p e c rs r s heads body none count gives =
    rw (body, parameters_begin g (Then (Return p (Some e)) NoStatements) f.params ds rs [] s.memory s.left heads (λ x. takes_body x p e (none x)) count, gives) refl
  where
    takes_body : (x : List ℕ) (p : Place) (e : Tree) → takes x e ≡ false → takes_statements x (Then (Return p (Some e)) NoStatements) ≡ false
    takes_body x p e h = rw h refl

own_heads : (ds : List Object) → Heads (λ t. t) ds ds
own_heads [] = tt
own_heads (d ∷ ds) = (refl, refl, own_heads ds)

first_holds : (v a b c d e : Bool) → (v && a && b && c && d && e) ≡ true → v ≡ true
first_holds true a b c d e h = refl
first_holds false a b c d e h = absurd (cc)

is_typed : (seen : List (List ℕ)) (d : Object) → is_parameter seen d ≡ true → is_register d.ty ≡ true
is_typed seen d h =
    let plain = split_and (is_plain d) (is_free d.name) (split_and (is_plain d && is_free d.name) (not (is_in seen d.name)) h).0 in
    first_holds (is_register d.ty) (not d.constant) (is_none d.length) (is_none d.align) (is_none d.init) (is_none d.list) plain.0

pub plain_registers : (seen : List (List ℕ)) (ds : List Object) → are_parameters seen ds ≡ true → AllRegisters ds
plain_registers seen [] h = tt
plain_registers seen (d ∷ ds) h =
    let g = split_and (is_parameter seen d) (are_parameters (seen ++ d.name ∷ []) ds) h in
    (is_typed seen d g.0, plain_registers (seen ++ d.name ∷ []) ds g.1)

-- The function that is written for f has its types as it is, at a place of its unit, and is the same and does the same.
pub record MovesFunction (f : Definition) (functions : List (List ℕ × Callee)) (here : ℕ) : Type 0 where
  pub typed : check_function (moved_function f) (outside_functions functions here) ≡ Ok (moved_function f)
  pub plain : PlainFunction (moved_function f)
  pub heading : FunctionsMatch written_type f (moved_function f)
  pub parameters : names_of (map moved_object f.params) ≡ names_of f.params
  pub done : (c d : Calls) (args others : List Value) (memory : List MemoryBlock) (s : State) → DoRows c d → AreArguments memory (types_of f.params) args → ArgumentsMatch args others →
      BothDone (call_of [] f c args) (call_of [] (moved_function f) d others) s

body_typed : (p : Place) (e : Tree) (env : Env) → check (moved_tree e) env ≡ Ok (moved_tree e) →
    check_statements (moved_statements (Then (Return p (Some e)) NoStatements)) (around env register false) ≡ Ok (moved_statements (Then (Return p (Some e)) NoStatements))
body_typed p (Node q t k) env h = rw h refl

definition_typed : (p : Place) (x : List ℕ) (ds : List Object) (is_static is_inline : Bool) (body : Statements) (functions : List (List ℕ × Callee)) (here : ℕ) →
    is_some (neon_table.find_of x) ≡ false → is_before (named x functions) here ≡ false → check_parameters ds (seen [] functions here (is_helper Neon x)) ≡ Ok ds →
    check_statements body (around (with_objects ds (seen [] functions here (is_helper Neon x))) register false) ≡ Ok body →
    check_function (record { place = p; name = x; result = register; params = ds; is_static = is_static; is_inline = is_inline; body = body }) (outside_functions functions here)
    ≡ Ok (record { place = p; name = x; result = register; params = ds; is_static = is_static; is_inline = is_inline; body = body })
definition_typed p x ds is_static is_inline body functions here a b c d = rw (a, b, c, d) refl

moved_names : (ds : List Object) → names_of (map moved_object ds) ≡ names_of ds
moved_names [] = refl
moved_names (d ∷ ds) = rw (moved_names ds) refl

pub moved_types : (ds : List Object) → AllRegisters ds → types_of (map moved_object ds) ≡ map written_type (types_of ds)
moved_types [] h = refl
moved_types (d ∷ ds) h = rw (m128 d.ty h.0, moved_types ds h.1) refl

moved_heads : (ds : List Object) → Heads moved_type (map moved_object ds) ds
moved_heads [] = tt
moved_heads (d ∷ ds) = (refl, refl, moved_heads ds)

-- the function as it is written, with its parts
abbrev written_function : Definition → Place → Tree → Definition
written_function f p e = record f { result = register; params = parameters_written f.params; body = moved_statements (Then (Return p (Some e)) NoStatements) }

function_is : (f : Definition) (p : Place) (e : Tree) → f.body ≡ Then (Return p (Some e)) NoStatements → f.result ≡ ctypes.M128 → map moved_object f.params ≡ parameters_written f.params →
    moved_function f ≡ written_function f p e
function_is f p e body result params = rw (body, result, params) refl

-- a function that is written for one of the form
pub function_moves : (f : Definition) (functions : List (List ℕ × Callee)) (here : ℕ) → is_function f ≡ true → is_before (named f.name functions) here ≡ false → HasNoRow functions → MovesFunction f functions here
function_moves f functions here h before none =
    let heading = heading_of f h in
    let parts = result_and_name f heading.1 in
    let b = is_return (names_of f.params) f.body (split_and (are_parameters [] f.params && is_heading f) (is_body (names_of f.params) f.body) h).1 in
    let r = moves (names_of f.params) b.value (grown [] f.params) functions here (is_helper Neon f.name) (λ x. are_known f.params [] x refl) (no_row_grown [] f.params [] heading.0 (λ op. refl)) none b.form in
    let plain = plain_registers [] f.params heading.0 in
    let params = are_written [] f.params heading.0 in
    let is = function_is f b.place b.value b.is (m128 f.result parts.0) params in
    record {
      typed = subst {A = Definition} (λ d. check_function d (outside_functions functions here) ≡ Ok d) (sym is)
          (definition_typed f.place f.name (parameters_written f.params) f.is_static f.is_inline (moved_statements (Then (Return b.place (Some b.value)) NoStatements)) functions here
          (no_neon_row f.name parts.1) before (parameters_typed [] f.params [] functions here (is_helper Neon f.name) heading.0 (λ x k. refl))
          (rw (objects_grow f.params [] functions here (is_helper Neon f.name)) (body_typed b.place b.value (seen (grown [] f.params) functions here (is_helper Neon f.name)) r.typed)));
      plain = subst PlainFunction (sym is) (refl, (plain_parameters f.params, (r.plain, tt)));
      heading = record { name = refl; is_static = refl; is_inline = refl; result = rw (m128 f.result parts.0) refl; types = moved_types f.params plain };
      parameters = moved_names f.params;
      done = λ c d args others memory s do_rows k m.
          let rs = registers f.params memory args others plain k m in
          let zs = paired f.params rs.registers [] in
          let v = r.gives c d (state (λ t. t) zs s.memory s.left) (state moved_type zs s.memory s.left) do_rows (known f.params rs.registers s.memory s.left rs.count (rs.each [] tt)) in
          record {
            register = v.register;
            first = ap (λ vs. call_of [] f c vs s) rs.first
                ∙ call_gives (λ t. t) f f.params b.place b.value c rs.registers v.register s (own_heads f.params) b.is (λ x. (r.takes_none x).0) rs.count v.first;
            second = ap (λ vs. call_of [] (moved_function f) d vs s) rs.second
                ∙ call_gives moved_type (moved_function f) f.params b.place (moved_tree b.value) d rs.registers v.register s (moved_heads f.params) (ap moved_statements b.is) (λ x. (r.takes_none x).1) rs.count v.second;
          };
    }
