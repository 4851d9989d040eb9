-- The text of declarations, statements and units is cut back into its words.
use Rattle.std.proofs.Common.{◌≡◌, ℕ, zero, suc, ◌+◌, List, [], ◌∷◌, Bool, true, false, Option, Some, None, refl}
use Rattle.std.specs.Prelude.{not, codes, if◌then◌else◌}
use Rattle.c_text.specs.Forms.{is_name}
use Rattle.c_tree.specs.declared.types.CType.{CType}
use Rattle.c_tree.specs.declared.types.CType.TheVariants as ctypes
use Rattle.c_tree.specs.Tree.{Tree, Trees, NoTrees, More, Object, Statement, Statements, Optional, Declare, Run, Block, If, While, DoWhile, For, Break, Continue, Return, Empty, Absent, Present, NoStatements, Then}
use Rattle.c_tree.specs.Tree.{Definition, External, Function, Table}
use Rattle.c_print.specs.declared.statements.Position.{Position}
use Rattle.c_print.specs.declared.statements.Position.TheVariants.{Line, Body, Else}
use Rattle.c_print.specs.Types.{is_base_const}
use Rattle.c_print.specs.Declarations.{has_const, is_shared}
use Rattle.c_print.specs.Statements.{is_if}
use Rattle.round_trip.specs.Words.{Bit, CutsBack, goes_on_mark}
use Rattle.round_trip.specs.Good.{GoodName, Good}
use Rattle.round_trip.specs.GoodUnits.{GoodPart, GoodList, GoodObject, GoodOthers, GoodDeclaration, GoodParameters, GoodStart, GoodStatement, GoodElse, GoodStatements, GoodFunction, GoodItem, GoodUnit}
use Rattle.round_trip.proofs.Bits.{name, mark, space, line_end, written, base_bits, expression_bits, part_bits, list_bits}
use Rattle.round_trip.proofs.Ends.{space_at, line_end_at, mark_at}
use Rattle.round_trip.proofs.Cuts.{ends, base_ends, name_ends, open_at, close_at, open_square_at, close_square_at, open_brace_at, close_brace_at, comma_at, semicolon_at, name_cuts, const_cuts, base_cuts, star_cuts, opener_name, expression_cuts, part_cuts, list_cuts}
use Rattle.round_trip.proofs.UnitBits.{specifiers_bits, star_bits, length_bits, brackets_bits, declarator_bits, alignas_bits, attribute_bits, shared_bits, own_bits, init_bits, init_list_bits, declared_bits, further_bits, declaration_bits, parameter_bits, further_parameter_bits, parameters_bits}
use Rattle.round_trip.proofs.UnitBits.{margin_bits, optional_bits, simple_bits, start_bits, for_bits, first_bits, opened_bits, closed_bits, condition_bits, statement_bits, otherwise_bits, statements_bits, static_bits, inline_bits, result_bits, heading_bits, item_bits, items_bits, include_bits, header_bits, unit_bits}

-- Declarations and parameters. What is named `.._end` says that the text begins with a byte that names and expressions end in front of, where what follows does.
specifiers_cuts : (d : Object) (bs : List Bit) → CutsBack bs [] → CutsBack (specifiers_bits d bs) []
specifiers_cuts d bs h = const_cuts (has_const d.ty d.constant) (base_bits d.ty (space bs)) (base_cuts d.ty (space bs) refl (space_at _, h))

-- a pointer's `*` in front of a name
star_named : (t : CType) (constant : Bool) (x : List ℕ) (bs : List Bit) → is_name x ≡ true → CutsBack (name x bs) [] → CutsBack (star_bits t constant (name x bs)) []
star_named ctypes.Void constant x bs n h = h
star_named (ctypes.Int t) constant x bs n h = h
star_named ctypes.M128 constant x bs n h = h
star_named ctypes.M256 constant x bs n h = h
star_named (ctypes.Neon l wide) constant x bs n h = h
star_named ctypes.Pair constant x bs n h = h
star_named (ctypes.Pointer p base) true x bs n h = (mark_at 42 (written (name (codes "const") (space (name x bs)))) refl refl, name_cuts (codes "const") (space (name x bs)) refl refl (space_at _, h))
star_named (ctypes.Pointer p base) false x bs n h = star_cuts (name x bs) (opener_name x bs n) h
star_named (ctypes.Array p length base) constant x bs n h = h

length_cuts : (length : Option Tree) (bs : List Bit) → GoodPart length → CutsBack bs [] → ends (written bs) ≡ true → CutsBack (length_bits length bs) []
length_cuts None bs g h e = h
length_cuts (Some n) bs g h e = part_cuts 1 n bs g h e

brackets_cuts : (t : CType) (length : Option Tree) (bs : List Bit) → GoodPart length → CutsBack bs [] → CutsBack (brackets_bits t length bs) []
brackets_cuts ctypes.Void length bs g h = h
brackets_cuts (ctypes.Int t) length bs g h = h
brackets_cuts ctypes.M128 length bs g h = h
brackets_cuts ctypes.M256 length bs g h = h
brackets_cuts (ctypes.Neon l wide) length bs g h = h
brackets_cuts ctypes.Pair length bs g h = h
brackets_cuts (ctypes.Pointer p base) length bs g h = h
brackets_cuts (ctypes.Array p n base) length bs g h = (open_square_at _, length_cuts length (mark (codes "]") bs) g (close_square_at _, h) refl)

brackets_end : (t : CType) (length : Option Tree) (bs : List Bit) → ends (written bs) ≡ true → ends (written (brackets_bits t length bs)) ≡ true
brackets_end ctypes.Void length bs e = e
brackets_end (ctypes.Int t) length bs e = e
brackets_end ctypes.M128 length bs e = e
brackets_end ctypes.M256 length bs e = e
brackets_end (ctypes.Neon l wide) length bs e = e
brackets_end ctypes.Pair length bs e = e
brackets_end (ctypes.Pointer p base) length bs e = e
brackets_end (ctypes.Array p n base) length bs e = refl

pub declarator_cuts : (d : Object) (bs : List Bit) → GoodName d.name → GoodPart d.length → CutsBack bs [] → ends (written bs) ≡ true → CutsBack (declarator_bits d bs) []
declarator_cuts d bs n g h e =
    star_named d.ty d.constant d.name (brackets_bits d.ty d.length bs) n.named
    (name_cuts d.name (brackets_bits d.ty d.length bs) n.named (name_ends (written (brackets_bits d.ty d.length bs)) (base_ends (written (brackets_bits d.ty d.length bs)) (brackets_end d.ty d.length bs e))) (brackets_cuts d.ty d.length bs g h))

alignas_cuts : (align : Option Tree) (bs : List Bit) → GoodPart align → CutsBack bs [] → CutsBack (alignas_bits align bs) []
alignas_cuts None bs g h = h
alignas_cuts (Some n) bs g h = name_cuts (codes "_Alignas") (mark (codes "(") (part_bits 2 n (mark (codes ")") (space bs)))) refl refl (open_at _, part_cuts 2 n (mark (codes ")") (space bs)) g (close_at _, (space_at _, h)) refl)

attribute_cuts : (align : Option Tree) (bs : List Bit) → GoodPart align → CutsBack bs [] → CutsBack (attribute_bits align bs) []
attribute_cuts None bs g h = h
attribute_cuts (Some n) bs g h = (
  space_at _,
  name_cuts (codes "__attribute__") (mark (codes "(") (mark (codes "(") (name (codes "aligned") (mark (codes "(") (part_bits 2 n (mark (codes ")") (mark (codes ")") (mark (codes ")") bs)))))))) refl refl (
    open_at _,
    (
      open_at _,
      name_cuts (codes "aligned") (mark (codes "(") (part_bits 2 n (mark (codes ")") (mark (codes ")") (mark (codes ")") bs))))) refl refl
          (open_at _, part_cuts 2 n (mark (codes ")") (mark (codes ")") (mark (codes ")") bs))) g (close_at _, (close_at _, (close_at _, h))) refl),
    ),
  ),
)

shared_cuts : (shared : Bool) (align : Option Tree) (bs : List Bit) → GoodPart align → CutsBack bs [] → CutsBack (shared_bits shared align bs) []
shared_cuts true align bs g h = alignas_cuts align bs g h
shared_cuts false align bs g h = h

own_cuts : (shared : Bool) (align : Option Tree) (bs : List Bit) → GoodPart align → CutsBack bs [] → CutsBack (own_bits shared align bs) []
own_cuts true align bs g h = h
own_cuts false align bs g h = attribute_cuts align bs g h

own_end : (shared : Bool) (align : Option Tree) (bs : List Bit) → ends (written bs) ≡ true → ends (written (own_bits shared align bs)) ≡ true
own_end true align bs e = e
own_end false None bs e = e
own_end false (Some n) bs e = refl

init_cuts : (init : Option Tree) (bs : List Bit) → GoodPart init → CutsBack bs [] → ends (written bs) ≡ true → CutsBack (init_bits init bs) []
init_cuts None bs g h e = h
init_cuts (Some x) bs g h e = (space_at _, (mark_at 61 (32 ∷ written (part_bits 1 x bs)) refl refl, (space_at _, part_cuts 1 x bs g h e)))

init_end : (init : Option Tree) (bs : List Bit) → ends (written bs) ≡ true → ends (written (init_bits init bs)) ≡ true
init_end None bs e = e
init_end (Some x) bs e = refl

init_list_cuts : (list : Option Trees) (bs : List Bit) → GoodList list → CutsBack bs [] → CutsBack (init_list_bits list bs) []
init_list_cuts None bs g h = h
init_list_cuts (Some NoTrees) bs g h = absurd g
init_list_cuts (Some (More a rest)) bs g h =
    (space_at _, (mark_at 61 (32 ∷ written (mark (codes "{") (list_bits (More a rest) (mark (codes "}") bs)))) refl refl, (space_at _, (open_brace_at _, list_cuts (More a rest) (mark (codes "}") bs) g (close_brace_at _, h) refl))))

init_list_end : (list : Option Trees) (bs : List Bit) → ends (written bs) ≡ true → ends (written (init_list_bits list bs)) ≡ true
init_list_end None bs e = e
init_list_end (Some all) bs e = refl

declared_cuts : (shared : Bool) (d : Object) (bs : List Bit) → GoodObject d → CutsBack bs [] → ends (written bs) ≡ true → CutsBack (declared_bits shared d bs) []
declared_cuts shared d bs g h e =
    declarator_cuts d (own_bits shared d.align (init_bits d.init (init_list_bits d.list bs))) g.named g.length
    (own_cuts shared d.align (init_bits d.init (init_list_bits d.list bs)) g.align (init_cuts d.init (init_list_bits d.list bs) g.init (init_list_cuts d.list bs g.list h) (init_list_end d.list bs e)))
    (own_end shared d.align (init_bits d.init (init_list_bits d.list bs)) (init_end d.init (init_list_bits d.list bs) (init_list_end d.list bs e)))

further_end : (shared : Bool) (ds : List Object) (bs : List Bit) → ends (written bs) ≡ true → ends (written (further_bits shared ds bs)) ≡ true
further_end shared [] bs e = e
further_end shared (d ∷ ds) bs e = refl

further_cuts : (shared : Bool) (t : CType) (constant : Bool) (ds : List Object) (bs : List Bit) → GoodOthers t constant ds → CutsBack bs [] → ends (written bs) ≡ true → CutsBack (further_bits shared ds bs) []
further_cuts shared t constant [] bs g h e = h
further_cuts shared t constant (d ∷ ds) bs g h e =
    (comma_at _, (space_at _, declared_cuts shared d (further_bits shared ds bs) g.0 (further_cuts shared t constant ds bs g.3 h e) (further_end shared ds bs e)))

-- A declaration without its `;`.
pub declaration_cuts : (ds : List Object) (bs : List Bit) → GoodDeclaration ds → CutsBack bs [] → ends (written bs) ≡ true → CutsBack (declaration_bits ds bs) []
declaration_cuts [] bs g h e = absurd g
declaration_cuts (d ∷ ds) bs (g, others) h e =
    shared_cuts (is_shared (d ∷ ds)) d.align (specifiers_bits d (declared_bits (is_shared (d ∷ ds)) d (further_bits (is_shared (d ∷ ds)) ds bs))) g.align
    (specifiers_cuts d (declared_bits (is_shared (d ∷ ds)) d (further_bits (is_shared (d ∷ ds)) ds bs))
    (declared_cuts (is_shared (d ∷ ds)) d (further_bits (is_shared (d ∷ ds)) ds bs) g (further_cuts (is_shared (d ∷ ds)) _ _ ds bs others h e) (further_end (is_shared (d ∷ ds)) ds bs e)))

parameter_cuts : (d : Object) (bs : List Bit) → GoodObject d → CutsBack bs [] → ends (written bs) ≡ true → CutsBack (parameter_bits d bs) []
parameter_cuts d bs g h e = specifiers_cuts d (declarator_bits d bs) (declarator_cuts d bs g.named g.length h e)

further_parameters_end : (ds : List Object) (bs : List Bit) → ends (written bs) ≡ true → ends (written (further_parameter_bits ds bs)) ≡ true
further_parameters_end [] bs e = e
further_parameters_end (d ∷ ds) bs e = refl

further_parameters_cut : (ds : List Object) (bs : List Bit) → GoodParameters ds → CutsBack bs [] → ends (written bs) ≡ true → CutsBack (further_parameter_bits ds bs) []
further_parameters_cut [] bs g h e = h
further_parameters_cut (d ∷ ds) bs (g, others) h e = (comma_at _, (space_at _, parameter_cuts d (further_parameter_bits ds bs) g.good (further_parameters_cut ds bs others h e) (further_parameters_end ds bs e)))

-- The parameters of a function.
pub parameters_cuts : (ds : List Object) (bs : List Bit) → GoodParameters ds → CutsBack bs [] → ends (written bs) ≡ true → CutsBack (parameters_bits ds bs) []
parameters_cuts [] bs g h e = name_cuts (codes "void") bs refl (name_ends (written bs) (base_ends (written bs) e)) h
parameters_cuts (d ∷ ds) bs (g, others) h e = parameter_cuts d (further_parameter_bits ds bs) g.good (further_parameters_cut ds bs others h e) (further_parameters_end ds bs e)

-- The parts of statements.
margin_cuts : (depth : ℕ) (bs : List Bit) → CutsBack bs [] → CutsBack (margin_bits depth bs) []
margin_cuts zero bs h = h
margin_cuts (suc depth) bs h = (space_at _, (space_at _, (space_at _, (space_at _, margin_cuts depth bs h))))

optional_cuts : (e : Option Tree) (bs : List Bit) → GoodPart e → CutsBack bs [] → ends (written bs) ≡ true → CutsBack (optional_bits e bs) []
optional_cuts None bs g h e = h
optional_cuts (Some x) bs g h e = (space_at _, expression_cuts x bs g h e)

optional_end : (e : Option Tree) (bs : List Bit) → ends (written bs) ≡ true → ends (written (optional_bits e bs)) ≡ true
optional_end None bs e = e
optional_end (Some x) bs e = refl

-- a statement with no others in it, without its `;`
simple_cuts : (s : Statement) (bs : List Bit) → GoodStatement s → CutsBack bs [] → ends (written bs) ≡ true → CutsBack (simple_bits s bs) []
simple_cuts (Declare ds) bs g h e = declaration_cuts ds bs g h e
simple_cuts (Run x) bs g h e = expression_cuts x bs g h e
simple_cuts (Block all) bs g h e = h
simple_cuts (If c s o) bs g h e = h
simple_cuts (While c s) bs g h e = h
simple_cuts (DoWhile s c) bs g h e = h
simple_cuts (For i c n s) bs g h e = h
simple_cuts (Break p) bs g h e = name_cuts (codes "break") bs refl (name_ends (written bs) (base_ends (written bs) e)) h
simple_cuts (Continue p) bs g h e = name_cuts (codes "continue") bs refl (name_ends (written bs) (base_ends (written bs) e)) h
simple_cuts (Return p x) bs g h e = name_cuts (codes "return") (optional_bits x bs) refl (name_ends (written (optional_bits x bs)) (base_ends (written (optional_bits x bs)) (optional_end x bs e))) (optional_cuts x bs g h e)
simple_cuts Empty bs g h e = h

start_cuts : (start : Optional) (bs : List Bit) → GoodStart start → CutsBack bs [] → ends (written bs) ≡ true → CutsBack (start_bits start bs) []
start_cuts Absent bs g h e = h
start_cuts (Present (Declare ds)) bs g h e = declaration_cuts ds bs g h e
start_cuts (Present (Run x)) bs g h e = expression_cuts x bs g h e
start_cuts (Present (Block all)) bs g h e = absurd g
start_cuts (Present (If c s o)) bs g h e = absurd g
start_cuts (Present (While c s)) bs g h e = absurd g
start_cuts (Present (DoWhile s c)) bs g h e = absurd g
start_cuts (Present (For i c n s)) bs g h e = absurd g
start_cuts (Present (Break p)) bs g h e = absurd g
start_cuts (Present (Continue p)) bs g h e = absurd g
start_cuts (Present (Return p x)) bs g h e = absurd g
start_cuts (Present Empty) bs g h e = absurd g

for_cuts : (start : Optional) (condition next : Option Tree) (bs : List Bit) → GoodStart start → GoodPart condition → GoodPart next → CutsBack bs [] → CutsBack (for_bits start condition next bs) []
for_cuts start condition next bs g k l h =
    name_cuts (codes "for") (space (mark (codes "(") (start_bits start (mark (codes ";") (optional_bits condition (mark (codes ";") (optional_bits next (mark (codes ")") (space bs))))))))) refl refl (
      space_at _,
      (
        open_at _,
        start_cuts start (mark (codes ";") (optional_bits condition (mark (codes ";") (optional_bits next (mark (codes ")") (space bs)))))) g (
          semicolon_at _,
          optional_cuts condition (mark (codes ";") (optional_bits next (mark (codes ")") (space bs)))) k
              (semicolon_at _, optional_cuts next (mark (codes ")") (space bs)) l (close_at _, (space_at _, h)) refl) refl,
        ) refl,
      ),
    )

first_cuts : (p : Position) (depth : ℕ) (bs : List Bit) → CutsBack bs [] → CutsBack (first_bits p depth bs) []
first_cuts Line depth bs h = margin_cuts depth bs h
first_cuts Body depth bs h = margin_cuts depth bs h
first_cuts Else depth bs h = (space_at _, name_cuts (codes "else") (space bs) refl refl (space_at _, h))

opened_cuts : (bs : List Bit) → CutsBack bs [] → CutsBack (opened_bits bs) []
opened_cuts bs h = (open_brace_at _, (line_end_at _, h))

closed_cuts : (depth : ℕ) (bs : List Bit) → CutsBack bs [] → CutsBack (closed_bits depth bs) []
closed_cuts depth bs h = margin_cuts depth (mark (codes "}") bs) (close_brace_at _, h)

-- what closes the body of a statement that ends there
last_closed : (depth : ℕ) (bs : List Bit) → CutsBack bs [] → CutsBack (closed_bits depth (line_end bs)) []
last_closed depth bs h = closed_cuts depth (line_end bs) (line_end_at _, h)

condition_cuts : (word : List ℕ) (c : Tree) (bs : List Bit) → is_name word ≡ true → Good c → CutsBack bs [] → CutsBack (condition_bits word c bs) []
condition_cuts word c bs n g h =
    name_cuts word (space (mark (codes "(") (expression_bits c (mark (codes ")") (space bs))))) n refl (space_at _, (open_at _, expression_cuts c (mark (codes ")") (space bs)) g (close_at _, (space_at _, h)) refl))

-- what is behind the body of a `do`
until_cuts : (c : Tree) (bs : List Bit) → Good c → CutsBack bs [] → CutsBack (space (name (codes "while") (space (mark (codes "(") (expression_bits c (mark (codes ")") (mark (codes ";") (line_end bs)))))))) []
until_cuts c bs g h = (
  space_at _,
  name_cuts (codes "while") (space (mark (codes "(") (expression_bits c (mark (codes ")") (mark (codes ";") (line_end bs)))))) refl refl
      (space_at _, (open_at _, expression_cuts c (mark (codes ")") (mark (codes ";") (line_end bs))) g (close_at _, (semicolon_at _, (line_end_at _, h))) refl)),
)

plain_cuts : (p : Position) (depth : ℕ) (s : Statement) (bs : List Bit) → GoodStatement s → CutsBack bs [] → CutsBack (first_bits p depth (simple_bits s (mark (codes ";") (line_end bs)))) []
plain_cuts p depth s bs g h = first_cuts p depth (simple_bits s (mark (codes ";") (line_end bs))) (simple_cuts s (mark (codes ";") (line_end bs)) g (semicolon_at _, (line_end_at _, h)) refl)

-- either of two, by a test
either_cuts : (b : Bool) (x y : List Bit) → CutsBack x [] → CutsBack y [] → CutsBack (if b then x else y) []
either_cuts true x y h k = h
either_cuts false x y h k = k

-- a heading in front of the lines of a body
block_cuts : (p : Position) (depth : ℕ) (inner : List Bit) → CutsBack inner [] → CutsBack (first_bits p depth (opened_bits inner)) []
block_cuts p depth inner h = first_cuts p depth (opened_bits inner) (opened_cuts inner h)

headed_cuts : (p : Position) (depth : ℕ) (word : List ℕ) (c : Tree) (inner : List Bit) → is_name word ≡ true → Good c → CutsBack inner [] → CutsBack (first_bits p depth (condition_bits word c (opened_bits inner))) []
headed_cuts p depth word c inner n g h = first_cuts p depth (condition_bits word c (opened_bits inner)) (condition_cuts word c (opened_bits inner) n g (opened_cuts inner h))

do_cuts : (p : Position) (depth : ℕ) (inner : List Bit) → CutsBack inner [] → CutsBack (first_bits p depth (name (codes "do") (space (opened_bits inner)))) []
do_cuts p depth inner h = first_cuts p depth (name (codes "do") (space (opened_bits inner))) (name_cuts (codes "do") (space (opened_bits inner)) refl refl (space_at _, opened_cuts inner h))

loop_cuts : (p : Position) (depth : ℕ) (start : Optional) (condition next : Option Tree) (inner : List Bit) → GoodStart start → GoodPart condition → GoodPart next → CutsBack inner [] →
    CutsBack (first_bits p depth (for_bits start condition next (opened_bits inner))) []
loop_cuts p depth start condition next inner g k l h = first_cuts p depth (for_bits start condition next (opened_bits inner)) (for_cuts start condition next (opened_bits inner) g k l (opened_cuts inner h))

-- the body of a `do`, closed in front of its condition
until_closed : (depth : ℕ) (c : Tree) (bs : List Bit) → Good c → CutsBack bs [] → CutsBack (closed_bits depth (space (name (codes "while") (space (mark (codes "(") (expression_bits c (mark (codes ")") (mark (codes ";") (line_end bs))))))))) []
until_closed depth c bs g h = closed_cuts depth (space (name (codes "while") (space (mark (codes "(") (expression_bits c (mark (codes ")") (mark (codes ";") (line_end bs)))))))) (until_cuts c bs g h)

-- Statements end with a line, which ends in front of anything. Their words are by cases on where they stand, and so are these: each form is there for the three places.
mutual
  pub statement_cuts : (p : Position) (depth : ℕ) (s : Statement) (bs : List Bit) → GoodStatement s → CutsBack bs [] → CutsBack (statement_bits p depth s bs) []
  statement_cuts Line depth (Declare ds) bs g h = plain_cuts Line depth (Declare ds) bs g h
  statement_cuts Body depth (Declare ds) bs g h = plain_cuts Body depth (Declare ds) bs g h
  statement_cuts Else depth (Declare ds) bs g h = plain_cuts Else depth (Declare ds) bs g h
  statement_cuts Line depth (Run e) bs g h = plain_cuts Line depth (Run e) bs g h
  statement_cuts Body depth (Run e) bs g h = plain_cuts Body depth (Run e) bs g h
  statement_cuts Else depth (Run e) bs g h = plain_cuts Else depth (Run e) bs g h
  statement_cuts Body depth (Block all) bs g h = statements_cuts depth all bs g h
  statement_cuts Line depth (Block all) bs g h = block_cuts Line depth (statements_bits (depth + 1) all (closed_bits depth (line_end bs))) (statements_cuts (depth + 1) all (closed_bits depth (line_end bs)) g (last_closed depth bs h))
  statement_cuts Else depth (Block all) bs g h = block_cuts Else depth (statements_bits (depth + 1) all (closed_bits depth (line_end bs))) (statements_cuts (depth + 1) all (closed_bits depth (line_end bs)) g (last_closed depth bs h))
  statement_cuts Line depth (If c s o) bs g h =
      headed_cuts Line depth (codes "if") c (statement_bits Body (depth + 1) s (closed_bits depth (otherwise_bits depth o bs))) refl g.0
      (statement_cuts Body (depth + 1) s (closed_bits depth (otherwise_bits depth o bs)) g.2 (closed_cuts depth (otherwise_bits depth o bs) (otherwise_cuts depth o bs g.3 h)))
  statement_cuts Body depth (If c s o) bs g h =
      headed_cuts Body depth (codes "if") c (statement_bits Body (depth + 1) s (closed_bits depth (otherwise_bits depth o bs))) refl g.0
      (statement_cuts Body (depth + 1) s (closed_bits depth (otherwise_bits depth o bs)) g.2 (closed_cuts depth (otherwise_bits depth o bs) (otherwise_cuts depth o bs g.3 h)))
  statement_cuts Else depth (If c s o) bs g h =
      headed_cuts Else depth (codes "if") c (statement_bits Body (depth + 1) s (closed_bits depth (otherwise_bits depth o bs))) refl g.0
      (statement_cuts Body (depth + 1) s (closed_bits depth (otherwise_bits depth o bs)) g.2 (closed_cuts depth (otherwise_bits depth o bs) (otherwise_cuts depth o bs g.3 h)))
  statement_cuts Line depth (While c s) bs g h =
      headed_cuts Line depth (codes "while") c (statement_bits Body (depth + 1) s (closed_bits depth (line_end bs))) refl g.0 (statement_cuts Body (depth + 1) s (closed_bits depth (line_end bs)) g.2 (last_closed depth bs h))
  statement_cuts Body depth (While c s) bs g h =
      headed_cuts Body depth (codes "while") c (statement_bits Body (depth + 1) s (closed_bits depth (line_end bs))) refl g.0 (statement_cuts Body (depth + 1) s (closed_bits depth (line_end bs)) g.2 (last_closed depth bs h))
  statement_cuts Else depth (While c s) bs g h =
      headed_cuts Else depth (codes "while") c (statement_bits Body (depth + 1) s (closed_bits depth (line_end bs))) refl g.0 (statement_cuts Body (depth + 1) s (closed_bits depth (line_end bs)) g.2 (last_closed depth bs h))
  statement_cuts Line depth (DoWhile s c) bs g h =
      do_cuts Line depth (statement_bits Body (depth + 1) s (closed_bits depth (space (name (codes "while") (space (mark (codes "(") (expression_bits c (mark (codes ")") (mark (codes ";") (line_end bs))))))))))
      (statement_cuts Body (depth + 1) s (closed_bits depth (space (name (codes "while") (space (mark (codes "(") (expression_bits c (mark (codes ")") (mark (codes ";") (line_end bs))))))))) g.1 (until_closed depth c bs g.2 h))
  statement_cuts Body depth (DoWhile s c) bs g h =
      do_cuts Body depth (statement_bits Body (depth + 1) s (closed_bits depth (space (name (codes "while") (space (mark (codes "(") (expression_bits c (mark (codes ")") (mark (codes ";") (line_end bs))))))))))
      (statement_cuts Body (depth + 1) s (closed_bits depth (space (name (codes "while") (space (mark (codes "(") (expression_bits c (mark (codes ")") (mark (codes ";") (line_end bs))))))))) g.1 (until_closed depth c bs g.2 h))
  statement_cuts Else depth (DoWhile s c) bs g h =
      do_cuts Else depth (statement_bits Body (depth + 1) s (closed_bits depth (space (name (codes "while") (space (mark (codes "(") (expression_bits c (mark (codes ")") (mark (codes ";") (line_end bs))))))))))
      (statement_cuts Body (depth + 1) s (closed_bits depth (space (name (codes "while") (space (mark (codes "(") (expression_bits c (mark (codes ")") (mark (codes ";") (line_end bs))))))))) g.1 (until_closed depth c bs g.2 h))
  statement_cuts Line depth (For i c n s) bs g h =
      loop_cuts Line depth i c n (statement_bits Body (depth + 1) s (closed_bits depth (line_end bs))) g.0 g.1 g.2 (statement_cuts Body (depth + 1) s (closed_bits depth (line_end bs)) g.4 (last_closed depth bs h))
  statement_cuts Body depth (For i c n s) bs g h =
      loop_cuts Body depth i c n (statement_bits Body (depth + 1) s (closed_bits depth (line_end bs))) g.0 g.1 g.2 (statement_cuts Body (depth + 1) s (closed_bits depth (line_end bs)) g.4 (last_closed depth bs h))
  statement_cuts Else depth (For i c n s) bs g h =
      loop_cuts Else depth i c n (statement_bits Body (depth + 1) s (closed_bits depth (line_end bs))) g.0 g.1 g.2 (statement_cuts Body (depth + 1) s (closed_bits depth (line_end bs)) g.4 (last_closed depth bs h))
  statement_cuts Line depth (Break q) bs g h = plain_cuts Line depth (Break q) bs g h
  statement_cuts Body depth (Break q) bs g h = plain_cuts Body depth (Break q) bs g h
  statement_cuts Else depth (Break q) bs g h = plain_cuts Else depth (Break q) bs g h
  statement_cuts Line depth (Continue q) bs g h = plain_cuts Line depth (Continue q) bs g h
  statement_cuts Body depth (Continue q) bs g h = plain_cuts Body depth (Continue q) bs g h
  statement_cuts Else depth (Continue q) bs g h = plain_cuts Else depth (Continue q) bs g h
  statement_cuts Line depth (Return q e) bs g h = plain_cuts Line depth (Return q e) bs g h
  statement_cuts Body depth (Return q e) bs g h = plain_cuts Body depth (Return q e) bs g h
  statement_cuts Else depth (Return q e) bs g h = plain_cuts Else depth (Return q e) bs g h
  statement_cuts Line depth Empty bs g h = plain_cuts Line depth Empty bs g h
  statement_cuts Body depth Empty bs g h = plain_cuts Body depth Empty bs g h
  statement_cuts Else depth Empty bs g h = plain_cuts Else depth Empty bs g h

  otherwise_cuts : (depth : ℕ) (o : Optional) (bs : List Bit) → GoodElse o → CutsBack bs [] → CutsBack (otherwise_bits depth o bs) []
  otherwise_cuts depth Absent bs g h = (line_end_at _, h)
  otherwise_cuts depth (Present s) bs (shape, g) h =
      either_cuts (is_if s) (statement_bits Else depth s bs) (first_bits Else depth (opened_bits (statement_bits Body (depth + 1) s (closed_bits depth (line_end bs))))) (statement_cuts Else depth s bs g h)
      (block_cuts Else depth (statement_bits Body (depth + 1) s (closed_bits depth (line_end bs))) (statement_cuts Body (depth + 1) s (closed_bits depth (line_end bs)) g (last_closed depth bs h)))

  pub statements_cuts : (depth : ℕ) (all : Statements) (bs : List Bit) → GoodStatements all → CutsBack bs [] → CutsBack (statements_bits depth all bs) []
  statements_cuts depth NoStatements bs g h = h
  statements_cuts depth (Then s rest) bs (g, others) h = statement_cuts Line depth s (statements_bits depth rest bs) g (statements_cuts depth rest bs others h)

-- Functions, tables and units.
static_cuts : (b : Bool) (bs : List Bit) → CutsBack bs [] → CutsBack (static_bits b bs) []
static_cuts true bs h = name_cuts (codes "static") (space bs) refl refl (space_at _, h)
static_cuts false bs h = h

inline_cuts : (b : Bool) (bs : List Bit) → CutsBack bs [] → CutsBack (inline_bits b bs) []
inline_cuts true bs h = name_cuts (codes "inline") (space bs) refl refl (space_at _, h)
inline_cuts false bs h = h

-- a function's result in front of its name
result_cuts : (f : Definition) (x : List ℕ) (bs : List Bit) → is_name x ≡ true → CutsBack (name x bs) [] → CutsBack (result_bits f (name x bs)) []
result_cuts f x bs n h =
    const_cuts (is_base_const f.result) (base_bits f.result (space (star_bits f.result false (name x bs)))) (base_cuts f.result (space (star_bits f.result false (name x bs))) refl (space_at _, star_named f.result false x bs n h))

heading_cuts : (f : Definition) (bs : List Bit) → GoodFunction f → CutsBack bs [] → CutsBack (heading_bits f bs) []
heading_cuts f bs g h =
    static_cuts f.is_static _ (inline_cuts f.is_inline _ (result_cuts f f.name (mark (codes "(") (parameters_bits f.params (mark (codes ")") (space bs)))) g.named.named
    (name_cuts f.name (mark (codes "(") (parameters_bits f.params (mark (codes ")") (space bs)))) g.named.named refl (open_at _, parameters_cuts f.params (mark (codes ")") (space bs)) g.params (close_at _, (space_at _, h)) refl))))

pub item_cuts : (item : External) (bs : List Bit) → GoodItem item → CutsBack bs [] → CutsBack (item_bits item bs) []
item_cuts (Function f) bs g h = heading_cuts f (opened_bits (statements_bits 1 f.body (mark (codes "}") (line_end bs)))) g (opened_cuts (statements_bits 1 f.body (mark (codes "}") (line_end bs))) (statements_cuts 1 f.body (mark (codes "}") (line_end bs)) g.body (close_brace_at _, (line_end_at _, h))))
item_cuts (Table d is_static) bs (g, valued) h = static_cuts is_static _ (declaration_cuts (d ∷ []) (mark (codes ";") (line_end bs)) (g, tt) (semicolon_at _, (line_end_at _, h)) refl)

pub items_cuts : (items : List External) (bs : List Bit) → GoodUnit items → CutsBack bs [] → CutsBack (items_bits items bs) []
items_cuts [] bs g h = h
items_cuts (item ∷ rest) bs (g, others) h = (line_end_at _, item_cuts item (items_bits rest bs) g (items_cuts rest bs others h))

-- a line that includes a header of this name
include_cuts : (c : ℕ) (cs : List ℕ) (bs : List Bit) → is_name (c ∷ cs) ≡ true → not (goes_on_mark 60 c) ≡ true → CutsBack bs [] → CutsBack (include_bits (c ∷ cs) bs) []
include_cuts c cs bs n k h = (
  mark_at 35 (written (name (codes "include") (space (mark (codes "<") (name (c ∷ cs) (mark (codes ".") (name (codes "h") (mark (codes ">") (line_end bs))))))))) refl refl,
  name_cuts (codes "include") (space (mark (codes "<") (name (c ∷ cs) (mark (codes ".") (name (codes "h") (mark (codes ">") (line_end bs))))))) refl refl (
    space_at _,
    (
      mark_at 60 (written (name (c ∷ cs) (mark (codes ".") (name (codes "h") (mark (codes ">") (line_end bs)))))) refl k,
      name_cuts (c ∷ cs) (mark (codes ".") (name (codes "h") (mark (codes ">") (line_end bs)))) n refl
          (mark_at 46 (written (name (codes "h") (mark (codes ">") (line_end bs)))) refl refl, name_cuts (codes "h") (mark (codes ">") (line_end bs)) refl refl (mark_at 62 (10 ∷ written bs) refl refl, (line_end_at _, h))),
    ),
  ),
)

header_cuts : (bs : List Bit) → CutsBack bs [] → CutsBack (header_bits bs) []
header_cuts bs h =
    include_cuts 97 (codes "rm_neon") (include_bits (codes "stddef") (include_bits (codes "stdint") bs)) refl refl
    (include_cuts 115 (codes "tddef") (include_bits (codes "stdint") bs) refl refl (include_cuts 115 (codes "tdint") bs refl refl h))

-- The text of a unit is cut back into its words.
pub unit_cuts : (items : List External) → GoodUnit items → CutsBack (unit_bits items) []
unit_cuts items g = header_cuts (items_bits items []) (items_cuts items [] g (tt))
