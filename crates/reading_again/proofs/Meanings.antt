-- Places don't count for what a unit does.
use Rattle.std.proofs.Common.{◌≡◌, ℕ, ◌+◌, List, [], ◌∷◌, Bool, true, false, ◌||◌, not, ◌++◌, Option, Some, None, refl, sym, ap, ◌∙◌, map, length, if◌then◌else◌}
use Rattle.std.specs.Prelude.{option_map}
use Rattle.std.specs.Str.{bytes_eq}
use Rattle.lane_core.specs.declared.number.IntType.{IntType}
use Rattle.lane_core.specs.declared.vector.Pointee.{Pointee}
use Rattle.c_tree.specs.declared.types.CType.{CType}
use Rattle.c_tree.specs.declared.types.CType.TheVariants as ctype
use Rattle.c_tree.specs.Tree.{Tree, Kind, Trees, Node, Const, Name, Unary, Step, Binary, AndThen, OrElse, Choice, Assign, Comma, Cast, Index, Deref, Address, Call, Half, PairOf, SizeOfType, SizeOfName, Str, NoTrees, More}
use Rattle.c_tree.specs.Tree.{Object, Statement, Statements, Optional, Declare, Run, Block, If, While, DoWhile, For, Break, Continue, Return, Empty, Absent, Present, NoStatements, Then}
use Rattle.c_tree.specs.Types.{is_array}
use Rattle.c_tree.specs.Tree.{Definition, External, Function, Table}
use Rattle.address_taken.specs.Addressed.{is_name, takes, takes_in, takes_in_all, takes_optional, takes_declared, is_declared, declares, declares_first, takes_statement, takes_maybe, takes_statements}
use Rattle.const_imm.specs.Constant as constant
use Rattle.const_imm.specs.Constant.{value_of, kind_value, kind_type}
use Rattle.c_memory.specs.declared.blocks.Block.{Block as MemoryBlock}
use Rattle.c_memory.specs.declared.value.Value.{Value}
use Rattle.c_memory.specs.MeaningState.{InBlock, Done, Binding, Does, ◌>>=◌, ◌>>◌, scoped, then_do}
use Rattle.c_memory.specs.MeaningObjects.{block_of, is_const, unset_bytes, written_alignment, constants_bytes, array_bytes}
use Rattle.c_memory.specs.Meaning.{Calls, type_of, name_in, expression, kind_expression, target, kind_target, last, values, begin_object, initialised, declare_one, declare, Later, no_more, Flow, condition, loops, loops_after, with_step, on_next, optional_condition, optional_value, returned, act, optional_act, optional_body, sequence, begin_parameter, begin_parameters, result, back_to, call_of, spend_for, with_function, outermost, functions, constant_bytes, table_block, table_blocks, table_objects, means}
use Rattle.reading_again.specs.Rewritten.{statement, statements, optional, definition, unit}
use Rattle.reading_again.specs.Unplaced.{unplaced, unplaced_kind, unplaced_all, unplaced_object, places, DifferInPlaces}

-- ---- constant expressions

mutual
  pub same_constant_type : (e : Tree) → constant.type_of (unplaced e) ≡ constant.type_of e
  same_constant_type (Node p t k) = same_kind_type k

  same_kind_type : (k : Kind) → kind_type (unplaced_kind k) ≡ kind_type k
  same_kind_type (Const n) = refl
  same_kind_type (Unary o a) = rw (same_constant_type a) refl
  same_kind_type (Binary o a b) = rw (same_constant_type a, same_constant_type b) refl
  same_kind_type (AndThen a b) = rw (same_constant_type a, same_constant_type b) refl
  same_kind_type (OrElse a b) = rw (same_constant_type a, same_constant_type b) refl
  same_kind_type (Choice c a b) = rw (same_constant_type c, same_constant_type a, same_constant_type b) refl
  same_kind_type (Cast (ctype.Int t) a w) = rw (same_constant_type a) refl
  same_kind_type (Cast t a w) = refl
  same_kind_type k = refl

mutual
  pub same_value : (e : Tree) → value_of (unplaced e) ≡ value_of e
  same_value (Node p t k) = same_kind_value k

  same_kind_value : (k : Kind) → kind_value (unplaced_kind k) ≡ kind_value k
  same_kind_value (Const n) = refl
  same_kind_value (Unary o a) = rw (same_value a) refl
  same_kind_value (Binary o a b) = rw (same_value a, same_value b) refl
  same_kind_value (AndThen a b) = rw (same_value a, same_constant_type b, same_value b) refl
  same_kind_value (OrElse a b) = rw (same_value a, same_constant_type b, same_value b) refl
  same_kind_value (Choice c a b) = rw (same_value c, same_constant_type a, same_constant_type b, same_value a, same_value b) refl
  same_kind_value (Cast (ctype.Int t) a w) = rw (same_value a) refl
  same_kind_value (Cast t a w) = refl
  same_kind_value k = refl

-- ---- addresses that are taken

pub same_is_name : (x : List ℕ) (e : Tree) → is_name x (unplaced e) ≡ is_name x e
same_is_name x (Node p t (Name y)) = refl
same_is_name x (Node p t k) = refl

mutual
  pub same_takes : (x : List ℕ) (e : Tree) → takes x (unplaced e) ≡ takes x e
  same_takes x (Node p t k) = same_takes_in x k

  same_takes_in : (x : List ℕ) (k : Kind) → takes_in x (unplaced_kind k) ≡ takes_in x k
  same_takes_in x (Unary o a) = same_takes x a
  same_takes_in x (Step a up before) = same_takes x a
  same_takes_in x (Binary o a b) = rw (same_takes x a, same_takes x b) refl
  same_takes_in x (AndThen a b) = rw (same_takes x a, same_takes x b) refl
  same_takes_in x (OrElse a b) = rw (same_takes x a, same_takes x b) refl
  same_takes_in x (Choice c a b) = rw (same_takes x c, same_takes x a, same_takes x b) refl
  same_takes_in x (Assign o a b) = rw (same_takes x a, same_takes x b) refl
  same_takes_in x (Comma all) = same_takes_all x all
  same_takes_in x (Cast t a w) = same_takes x a
  same_takes_in x (Index a b) = rw (same_takes x a, same_takes x b) refl
  same_takes_in x (Deref a) = same_takes x a
  same_takes_in x (Address a) = rw (same_is_name x a, same_takes x a) refl
  same_takes_in x (Call f all) = same_takes_all x all
  same_takes_in x (Half a k) = same_takes x a
  same_takes_in x (PairOf a b) = rw (same_takes x a, same_takes x b) refl
  same_takes_in x k = refl

  same_takes_all : (x : List ℕ) (all : Trees) → takes_in_all x (unplaced_all all) ≡ takes_in_all x all
  same_takes_all x NoTrees = refl
  same_takes_all x (More a rest) = rw (same_takes x a, same_takes_all x rest) refl

pub same_takes_optional : (x : List ℕ) (e : Option Tree) → takes_optional x (option_map unplaced e) ≡ takes_optional x e
same_takes_optional x None = refl
same_takes_optional x (Some e) = same_takes x e

pub same_takes_declared : (x : List ℕ) (all : List Object) → takes_declared x (map unplaced_object all) ≡ takes_declared x all
same_takes_declared x [] = refl
same_takes_declared x (d ∷ rest) = rw (same_takes_optional x d.init, same_takes_declared x rest) refl

same_is_declared : (x : List ℕ) (all : List Object) → is_declared x (map unplaced_object all) ≡ is_declared x all
same_is_declared x [] = refl
same_is_declared x (d ∷ rest) = rw (same_is_declared x rest) refl

same_declares : (x : List ℕ) (s : Statement) → declares x (statement places s) ≡ declares x s
same_declares x (Declare all) = same_is_declared x all
same_declares x s = refl

same_declares_first : (x : List ℕ) (i : Optional) → declares_first x (optional places i) ≡ declares_first x i
same_declares_first x Absent = refl
same_declares_first x (Present s) = same_declares x s

mutual
  pub same_takes_statement : (x : List ℕ) (s : Statement) → takes_statement x (statement places s) ≡ takes_statement x s
  same_takes_statement x (Declare all) = same_takes_declared x all
  same_takes_statement x (Run e) = same_takes x e
  same_takes_statement x (Block all) = same_takes_statements x all
  same_takes_statement x (If c s o) = rw (same_takes x c, same_takes_statement x s, same_takes_maybe x o) refl
  same_takes_statement x (While c s) = rw (same_takes x c, same_takes_statement x s) refl
  same_takes_statement x (DoWhile s c) = rw (same_takes x c, same_takes_statement x s) refl
  same_takes_statement x (For i c n s) = rw (same_takes_maybe x i, same_declares_first x i, same_takes_optional x c, same_takes_optional x n, same_takes_statement x s) refl
  same_takes_statement x (Return p e) = same_takes_optional x e
  same_takes_statement x s = refl

  same_takes_maybe : (x : List ℕ) (o : Optional) → takes_maybe x (optional places o) ≡ takes_maybe x o
  same_takes_maybe x Absent = refl
  same_takes_maybe x (Present s) = same_takes_statement x s

  pub same_takes_statements : (x : List ℕ) (all : Statements) → takes_statements x (statements places all) ≡ takes_statements x all
  same_takes_statements x NoStatements = refl
  same_takes_statements x (Then s rest) = rw (same_takes_statement x s, same_declares x s, same_takes_statements x rest) refl

-- ---- expressions

-- what follows is the same for each value
after_each : {A B : Type 0} (p : Does A) (f g : A → Does B) → ((a : A) → f a ≡ g a) → (p >>= f) ≡ (p >>= g)
after_each p f g h = λ i. p >>= (λ a. h a i)

same_type : (a : Tree) → type_of (unplaced a) ≡ type_of a
same_type (Node p t k) = refl

same_name_in : (a : Tree) → name_in (unplaced a) ≡ name_in a
same_name_in (Node p t (Name x)) = refl
same_name_in (Node p t k) = refl

mutual
  same_expression : (e : Tree) (c : Calls) → expression (unplaced e) c ≡ expression e c
  same_expression (Node p t k) c = same_kind k t c

  same_kind : (k : Kind) (t : CType) (c : Calls) → kind_expression t (unplaced_kind k) c ≡ kind_expression t k c
  same_kind (Const n) t c = refl
  same_kind (Name x) t c = refl
  same_kind (Unary o a) t c = rw (same_expression a c) refl
  same_kind (Step a up before) t c = rw (same_target a c) refl
  same_kind (Binary o a b) t c = rw (same_expression a c, same_expression b c, same_type a, same_type b) refl
  same_kind (AndThen a b) t c = rw (same_expression a c, same_expression b c) refl
  same_kind (OrElse a b) t c = rw (same_expression a c, same_expression b c) refl
  same_kind (Choice d a b) t c = rw (same_expression d c, same_expression a c, same_expression b c) refl
  same_kind (Assign o a b) t c = rw (same_target a c, same_expression b c, same_type b) refl
  same_kind (Comma all) t c = same_last None all c
  same_kind (Cast u a w) t c = rw (same_expression a c) refl
  same_kind (Index a b) t c = rw (same_expression a c, same_expression b c, same_type a, same_type b) refl
  same_kind (Deref a) t c = rw (same_expression a c) refl
  same_kind (Address a) t c = rw (same_target a c) refl
  same_kind (Call f all) t c = rw (same_values all c) refl
  same_kind (Half a k) t c = rw (same_name_in a, same_expression a c) refl
  same_kind (PairOf a b) t c = rw (same_expression a c, same_expression b c) refl
  same_kind (SizeOfType u) t c = refl
  same_kind (SizeOfName x) t c = refl
  same_kind (Str x) t c = refl

  same_target : (e : Tree) (c : Calls) → target (unplaced e) c ≡ target e c
  same_target (Node p t k) c = same_kind_target k c

  same_kind_target : (k : Kind) (c : Calls) → kind_target (unplaced_kind k) c ≡ kind_target k c
  same_kind_target (Name x) c = refl
  same_kind_target (Index a b) c = rw (same_expression a c, same_expression b c, same_type a, same_type b) refl
  same_kind_target (Deref a) c = rw (same_expression a c) refl
  same_kind_target (Half a k) c = rw (same_target a c) refl
  same_kind_target k c = refl

  same_last : (v : Option Value) (all : Trees) (c : Calls) → last v (unplaced_all all) c ≡ last v all c
  same_last v NoTrees c = refl
  same_last v (More a rest) c = rw (same_expression a c) (after_each (expression a c) (λ w. last w (unplaced_all rest) c) (λ w. last w rest c) (λ w. same_last w rest c))

  same_values : (all : Trees) (c : Calls) → values (unplaced_all all) c ≡ values all c
  same_values NoTrees c = refl
  same_values (More a rest) c = rw (same_expression a c, same_values rest c) refl

-- ---- objects

same_alignment : (e : Option Tree) → written_alignment (option_map unplaced e) ≡ written_alignment e
same_alignment None = refl
same_alignment (Some e) = rw (same_value e) refl

same_constants : (t : IntType) (all : Trees) → constants_bytes t (unplaced_all all) ≡ constants_bytes t all
same_constants t NoTrees = refl
same_constants t (More e rest) = rw (same_value e, same_constants t rest) refl

same_array : (t : CType) (all : Trees) → array_bytes t (unplaced_all all) ≡ array_bytes t all
same_array (ctype.Array (Pointee.Int t) n k) all = rw (same_constants t all) refl
same_array t all = refl

same_block : (d : Object) (writable : Bool) (bytes : List (Option ℕ)) → block_of (unplaced_object d) writable bytes ≡ block_of d writable bytes
same_block d writable bytes = rw (same_alignment d.align) refl

same_begin : (d : Object) (b : Bool) → begin_object (unplaced_object d) b ≡ begin_object d b
same_begin d true = ap (λ b s. Done tt (record s {
  objects = record { name = d.name; ty = d.ty; location = InBlock (length s.memory) } ∷ s.objects;
  memory = s.memory ++ (b ∷ []);
})) (same_block d (not (is_const d)) (unset_bytes d.ty))
same_begin d false = refl

same_initialised : (d : Object) (init : Option Tree) (list : Option Trees) (c : Calls) → initialised (unplaced_object d) (option_map unplaced init) (option_map unplaced_all list) c ≡ initialised d init list c
same_initialised d (Some e) None c = rw (same_expression e c) refl
same_initialised d (Some e) (Some all) c = rw (same_expression e c) refl
same_initialised d None (Some all) c = rw (same_array d.ty all) refl
same_initialised d None None c = refl

same_declare_one : (d : Object) (later : Later) (c : Calls) → declare_one (unplaced_object d) later c ≡ declare_one d later c
same_declare_one d later c = rw (same_takes_optional d.name d.init, same_begin d (is_array d.ty || (takes_optional d.name d.init || later d.name)), same_initialised d d.init d.list c) refl

same_declare : (all : List Object) (later : Later) (c : Calls) → declare (map unplaced_object all) later c ≡ declare all later c
same_declare [] later c = refl
same_declare (d ∷ rest) later c =
    let behind : ◌≡◌ {A = Later} (λ x. takes_declared x (map unplaced_object rest) || later x) (λ x. takes_declared x rest || later x) = λ i x. same_takes_declared x rest i || later x in
    ap (λ l. declare_one (unplaced_object d) l c >> declare (map unplaced_object rest) later c) behind
    ∙ ap (λ p. p >> declare (map unplaced_object rest) later c) (same_declare_one d (λ x. takes_declared x rest || later x) c)
    ∙ ap (λ p. declare_one d (λ x. takes_declared x rest || later x) c >> p) (same_declare rest later c)

-- ---- statements

same_condition : (e : Option Tree) (c : Calls) → optional_condition (option_map unplaced e) c ≡ optional_condition e c
same_condition None c = refl
same_condition (Some e) c = rw (same_expression e c) refl

same_optional_value : (e : Option Tree) (c : Calls) → optional_value (option_map unplaced e) c ≡ optional_value e c
same_optional_value None c = refl
same_optional_value (Some e) c = same_expression e c

same_returned : (e : Option Tree) (c : Calls) → returned (option_map unplaced e) c ≡ returned e c
same_returned None c = refl
same_returned (Some e) c = rw (same_expression e c) refl

mutual
  same_act : (s : Statement) (later : Later) (c : Calls) → act (statement places s) later c ≡ act s later c
  same_act (Declare all) later c = rw (same_declare all later c) refl
  same_act (Run e) later c = rw (same_expression e c) refl
  same_act (Block all) later c = rw (same_sequence all c) refl
  same_act (If e s o) later c = rw (same_expression e c, same_act s no_more c, same_body o c) refl
  same_act (While e s) later c =
      ap (λ p t. loops t.left (condition p) (scoped (act (statement places s) no_more c)) t) (same_expression e c)
      ∙ ap (λ p t. loops t.left (condition (expression e c)) (scoped p) t) (same_act s no_more c)
  same_act (DoWhile s e) later c =
      ap (λ p t. loops_after t.left (condition p) (scoped (act (statement places s) no_more c)) t) (same_expression e c)
      ∙ ap (λ p t. loops_after t.left (condition (expression e c)) (scoped p) t) (same_act s no_more c)
  same_act (For i e n s) later c =
      let behind : ◌≡◌ {A = Later} (λ x. takes_optional x (option_map unplaced e) || (takes_optional x (option_map unplaced n) || takes_statement x (statement places s))) (λ x. takes_optional x e || (takes_optional x n || takes_statement x s)) = λ k x. same_takes_optional x e k || (same_takes_optional x n k || same_takes_statement x s k) in
      let first_part : Does Flow = optional_act i (λ x. takes_optional x e || (takes_optional x n || takes_statement x s)) c in
      ap (λ l. scoped (optional_act (optional places i) l c >> (λ t. loops t.left (optional_condition (option_map unplaced e) c) (with_step (scoped (act (statement places s) no_more c)) (optional_value (option_map unplaced n) c)) t))) behind
      ∙ ap (λ p. scoped (p >> (λ t. loops t.left (optional_condition (option_map unplaced e) c) (with_step (scoped (act (statement places s) no_more c)) (optional_value (option_map unplaced n) c)) t)))
      (same_optional_act i (λ x. takes_optional x e || (takes_optional x n || takes_statement x s)) c)
      ∙ ap (λ p. scoped (first_part >> (λ t. loops t.left p (with_step (scoped (act (statement places s) no_more c)) (optional_value (option_map unplaced n) c)) t))) (same_condition e c)
      ∙ ap (λ p. scoped (first_part >> (λ t. loops t.left (optional_condition e c) (with_step (scoped p) (optional_value (option_map unplaced n) c)) t))) (same_act s no_more c)
      ∙ ap (λ p. scoped (first_part >> (λ t. loops t.left (optional_condition e c) (with_step (scoped (act s no_more c)) p) t))) (same_optional_value n c)
  same_act (Break p) later c = refl
  same_act (Continue p) later c = refl
  same_act (Return p e) later c = same_returned e c
  same_act Empty later c = refl

  same_optional_act : (o : Optional) (later : Later) (c : Calls) → optional_act (optional places o) later c ≡ optional_act o later c
  same_optional_act Absent later c = refl
  same_optional_act (Present s) later c = same_act s later c

  same_body : (o : Optional) (c : Calls) → optional_body (optional places o) c ≡ optional_body o c
  same_body Absent c = refl
  same_body (Present s) c = rw (same_act s no_more c) refl

  same_sequence : (all : Statements) (c : Calls) → sequence (statements places all) c ≡ sequence all c
  same_sequence NoStatements c = refl
  same_sequence (Then s rest) c =
      let behind : ◌≡◌ {A = Later} (λ x. takes_statements x (statements places rest)) (λ x. takes_statements x rest) = λ i x. same_takes_statements x rest i in
      ap (λ l. act (statement places s) l c >>= (λ f. on_next f (sequence (statements places rest) c))) behind
      ∙ rw (same_act s (λ x. takes_statements x rest) c, same_sequence rest c) refl

-- ---- functions and units

same_parameter : (body : Statements) (d : Object) (v : Value) → begin_parameter (statements places body) (unplaced_object d) v ≡ begin_parameter body d v
same_parameter body d v = rw (same_takes_statements d.name body, same_begin d (takes_statements d.name body)) refl

same_parameters : (body : Statements) (ds : List Object) (vs : List Value) → begin_parameters (statements places body) (map unplaced_object ds) vs ≡ begin_parameters body ds vs
same_parameters body [] [] = refl
same_parameters body (d ∷ ds) (v ∷ vs) = rw (same_parameter body d v, same_parameters body ds vs) refl
same_parameters body [] (v ∷ vs) = refl
same_parameters body (d ∷ ds) [] = refl

same_call : (tables : List Binding) (f : Definition) (c : Calls) (args : List Value) → call_of tables (definition places f) c args ≡ call_of tables f c args
same_call tables f c args =
    ap (λ p s. then_do ((p >> (sequence (statements places f.body) c >>= result f.result)) (record s { objects = tables })) (back_to s)) (same_parameters f.body f.params args)
    ∙ ap (λ p s. then_do ((begin_parameters f.body f.params args >> (p >>= result f.result)) (record s { objects = tables })) (back_to s)) (same_sequence f.body c)

same_with_function : (tables : List Binding) (f : Definition) (c : Calls) → with_function tables (definition places f) c ≡ with_function tables f c
same_with_function tables f c = λ i name args. at name args i
  where
    at : (name : List ℕ) (args : List Value) → with_function tables (definition places f) c name args ≡ with_function tables f c name args
    at name args = ap (λ p. if bytes_eq name f.name then spend_for name >> p else c name args) (same_call tables f c args)

same_outermost : (tables : List Binding) (c : Calls) (fs : List Definition) (name : List ℕ) (args : List Value) → outermost tables c (map (definition places) fs) name args ≡ outermost tables c fs name args
same_outermost tables c [] name args = refl
same_outermost tables c (f ∷ rest) name args =
    ap (λ p. if bytes_eq name f.name then p else outermost tables (with_function tables (definition places f) c) (map (definition places) rest) name args) (same_call tables f c args)
    ∙ ap (λ d. if bytes_eq name f.name then call_of tables f c args else outermost tables d (map (definition places) rest) name args) (same_with_function tables f c)
    ∙ ap (λ p. if bytes_eq name f.name then call_of tables f c args else p) (same_outermost tables (with_function tables f c) rest name args)

same_functions : (u : List External) → functions (unit places u) ≡ map (definition places) (functions u)
same_functions [] = refl
same_functions (Function f ∷ rest) = rw (same_functions rest) refl
same_functions (Table d static ∷ rest) = same_functions rest

same_constant_bytes : (d : Object) (init : Option Tree) (list : Option Trees) → constant_bytes (unplaced_object d) (option_map unplaced init) (option_map unplaced_all list) ≡ constant_bytes d init list
same_constant_bytes d (Some e) None = rw (same_value e) refl
same_constant_bytes d (Some e) (Some all) = rw (same_value e) refl
same_constant_bytes d None (Some all) = same_array d.ty all
same_constant_bytes d None None = refl

pub same_table_block : (d : Object) → table_block (unplaced_object d) ≡ table_block d
same_table_block d = rw (same_alignment d.align, same_constant_bytes d d.init d.list) refl

same_blocks : (u : List External) → table_blocks (unit places u) ≡ table_blocks u
same_blocks [] = refl
same_blocks (Function f ∷ rest) = same_blocks rest
same_blocks (Table d static ∷ rest) = rw (same_table_block d, same_blocks rest) refl

same_tables : (n : ℕ) (u : List External) → table_objects n (unit places u) ≡ table_objects n u
same_tables n [] = refl
same_tables n (Function f ∷ rest) = same_tables n rest
same_tables n (Table d static ∷ rest) = rw (same_tables (n + 1) rest) refl

unplaced_means : (rows : Calls) (u : List External) (name : List ℕ) (args : List Value) (memory : List MemoryBlock) (turns : ℕ) → means rows (unit places u) name args memory turns ≡ means rows u name args memory turns
unplaced_means rows u name args memory turns =
    rw (same_tables (length memory) u, same_functions u, same_outermost (table_objects (length memory) u) rows (functions u) name args, same_blocks u) refl

-- units that differ in places alone do the same
pub same_means : (rows : Calls) (u v : List External) → DifferInPlaces u v → (name : List ℕ) (args : List Value) (memory : List MemoryBlock) (turns : ℕ) → means rows u name args memory turns ≡ means rows v name args memory turns
same_means rows u v e name args memory turns = sym (unplaced_means rows u name args memory turns) ∙ ap (λ w. means rows w name args memory turns) e ∙ unplaced_means rows v name args memory turns
