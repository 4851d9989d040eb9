-- A unit that differs from another in places alone stands for it.
use Rattle.std.proofs.Common.{◌≡◌, ◌+◌, List, [], ◌∷◌, length, map, true, false, Option, Some, None, refl, sym, ◌∙◌, ap, subst}
use Rattle.std.specs.Prelude.{option_map, IsTrue}
use Rattle.c_tree.specs.declared.types.CType.{CType}
use Rattle.c_tree.specs.Tree as tree
use Rattle.c_tree.specs.Tree.{Tree, Kind, Trees, Node, NoTrees, More}
use Rattle.c_tree.specs.Tree.{Object, Statement, Statements, Optional, Declare, Run, Block, If, While, DoWhile, For, Break, Continue, Return, Empty, Absent, Present, NoStatements, Then}
use Rattle.c_tree.specs.Tree.{Definition, External, Function, Table}
use Rattle.c_tree.specs.Same.{stripped, stripped_kind, stripped_all, stripped_object, stripped_statement, stripped_optional, stripped_statements, stripped_external, Same}
use Rattle.c_memory.specs.Functions.{types_of}
use Rattle.c_memory.specs.Meaning.{Calls, is_helper, means, table_block, table_blocks}
use Rattle.c_memory.specs.Written.{FunctionsMatch, TablesMatch, UnitsMatch, NoItems, AndFunction, AndTable, AndHelper, Follows, DoesTheSame}
use Rattle.reading_again.specs.Rewritten.{statement, optional, statements, definition, unit}
use Rattle.reading_again.specs.Unplaced.{unplaced, unplaced_kind, unplaced_all, unplaced_object, places, DifferInPlaces}
use Rattle.reading_again.specs.Standing.{parameter_names}
use Rattle.reading_again.proofs.Meanings.{same_means, same_table_block}

-- ---- it is the same

mutual
  one_left : (e : Tree) → stripped (unplaced e) ≡ stripped e
  one_left (Node p t k) = kind_left k

  kind_left : (k : Kind) → stripped_kind (unplaced_kind k) ≡ stripped_kind k
  kind_left (tree.Const n) = refl
  kind_left (tree.Name x) = refl
  kind_left (tree.Unary o a) = rw (one_left a) refl
  kind_left (tree.Step a up before) = rw (one_left a) refl
  kind_left (tree.Binary o a b) = rw (one_left a, one_left b) refl
  kind_left (tree.AndThen a b) = rw (one_left a, one_left b) refl
  kind_left (tree.OrElse a b) = rw (one_left a, one_left b) refl
  kind_left (tree.Choice c a b) = rw (one_left c, one_left a, one_left b) refl
  kind_left (tree.Assign o a b) = rw (one_left a, one_left b) refl
  kind_left (tree.Comma all) = rw (all_left all) refl
  kind_left (tree.Cast t a true) = rw (one_left a) refl
  kind_left (tree.Cast t a false) = one_left a
  kind_left (tree.Index a b) = rw (one_left a, one_left b) refl
  kind_left (tree.Deref a) = rw (one_left a) refl
  kind_left (tree.Address a) = rw (one_left a) refl
  kind_left (tree.Call f all) = rw (all_left all) refl
  kind_left (tree.Half a k) = rw (one_left a) refl
  kind_left (tree.PairOf a b) = rw (one_left a, one_left b) refl
  kind_left (tree.SizeOfType t) = refl
  kind_left (tree.SizeOfName x) = refl
  kind_left (tree.Str x) = refl

  all_left : (all : Trees) → stripped_all (unplaced_all all) ≡ stripped_all all
  all_left NoTrees = refl
  all_left (More a rest) = rw (one_left a, all_left rest) refl

part_left : (e : Option Tree) → option_map stripped (option_map unplaced e) ≡ option_map stripped e
part_left None = refl
part_left (Some e) = rw (one_left e) refl

list_left : (all : Option Trees) → option_map stripped_all (option_map unplaced_all all) ≡ option_map stripped_all all
list_left None = refl
list_left (Some all) = rw (all_left all) refl

object_left : (d : Object) → stripped_object (unplaced_object d) ≡ stripped_object d
object_left d = rw (part_left d.length, part_left d.align, part_left d.init, list_left d.list) refl

objects_left : (all : List Object) → map stripped_object (map unplaced_object all) ≡ map stripped_object all
objects_left [] = refl
objects_left (d ∷ rest) = rw (object_left d, objects_left rest) refl

mutual
  statement_left : (s : Statement) → stripped_statement (statement places s) ≡ stripped_statement s
  statement_left (Declare all) = rw (objects_left all) refl
  statement_left (Run e) = rw (one_left e) refl
  statement_left (Block all) = rw (statements_left all) refl
  statement_left (If c s o) = rw (one_left c, statement_left s, optional_left o) refl
  statement_left (While c s) = rw (one_left c, statement_left s) refl
  statement_left (DoWhile s c) = rw (statement_left s, one_left c) refl
  statement_left (For i c n s) = rw (optional_left i, part_left c, part_left n, statement_left s) refl
  statement_left (Break p) = refl
  statement_left (Continue p) = refl
  statement_left (Return p e) = rw (part_left e) refl
  statement_left Empty = refl

  optional_left : (o : Optional) → stripped_optional (optional places o) ≡ stripped_optional o
  optional_left Absent = refl
  optional_left (Present s) = rw (statement_left s) refl

  statements_left : (all : Statements) → stripped_statements (statements places all) ≡ stripped_statements all
  statements_left NoStatements = refl
  statements_left (Then s rest) = rw (statement_left s, statements_left rest) refl

unit_left : (u : List External) → map stripped_external (unit places u) ≡ map stripped_external u
unit_left [] = refl
unit_left (Function f ∷ rest) = rw (objects_left f.params, statements_left f.body, unit_left rest) refl
unit_left (Table d is_static ∷ rest) = rw (object_left d, unit_left rest) refl

pub is_the_same : (u v : List External) → DifferInPlaces u v → Same u v
is_the_same u v e = sym (unit_left u) ∙ ap (map stripped_external) e ∙ unit_left v

-- ---- it matches what that matches

same_types : (all : List Object) → types_of (map unplaced_object all) ≡ types_of all
same_types [] = refl
same_types (d ∷ rest) = rw (same_types rest) refl

function_matches : (written : CType → CType) (f g h : Definition) → FunctionsMatch written f g → definition places g ≡ definition places h → FunctionsMatch written f h
function_matches written f g h m e = record {
  name = sym (ap (λ d. d.name) e) ∙ m.name;
  is_static = sym (ap (λ d. d.is_static) e) ∙ m.is_static;
  is_inline = sym (ap (λ d. d.is_inline) e) ∙ m.is_inline;
  result = sym (ap (λ d. d.result) e) ∙ m.result;
  types = sym (same_types h.params) ∙ sym (ap (λ d. types_of d.params) e) ∙ same_types g.params ∙ m.types;
}

table_matches : (written : CType → CType) (d e g : Object) → TablesMatch written d e → unplaced_object e ≡ unplaced_object g → TablesMatch written d g
table_matches written d e g m h = record {
  name = sym (ap (λ o. o.name) h) ∙ m.name;
  ty = sym (ap (λ o. o.ty) h) ∙ m.ty;
  block = sym (same_table_block g) ∙ sym (ap table_block h) ∙ same_table_block e ∙ m.block;
}

pub matches_too : (written : CType → CType) (source u v : List External) → UnitsMatch written source u → DifferInPlaces u v → UnitsMatch written source v
matches_too written _ _ [] NoItems e = NoItems
matches_too written _ _ (x ∷ v) NoItems e = absurd (cc)
matches_too written _ _ [] (AndFunction f g source u m rest) e = absurd (cc)
matches_too written _ _ (Function h ∷ v) (AndFunction f g source u m rest) e =
    let one : definition places g ≡ definition places h = cc in
    let others : unit places u ≡ unit places v = cc in
    AndFunction f h source v (function_matches written f g h m one) (matches_too written source u v rest others)
matches_too written _ _ (Table d s ∷ v) (AndFunction f g source u m rest) e = absurd (cc)
matches_too written _ _ [] (AndTable d o s source u m rest) e = absurd (cc)
matches_too written _ _ (Function h ∷ v) (AndTable d o s source u m rest) e = absurd (cc)
matches_too written _ _ (Table p t ∷ v) (AndTable d o s source u m rest) e =
    let one : unplaced_object o ≡ unplaced_object p = cc in
    let word : s ≡ t = cc in
    let others : unit places u ≡ unit places v = cc in
    subst (λ w. UnitsMatch written (Table d s ∷ source) (Table p w ∷ v)) word (AndTable d p s source v (table_matches written d o p m one) (matches_too written source u v rest others))
matches_too written source _ [] (AndHelper g _ u is rest) e = absurd (cc)
matches_too written source _ (Function h ∷ v) (AndHelper g _ u is rest) e =
    let one : definition places g ≡ definition places h = cc in
    let others : unit places u ≡ unit places v = cc in
    AndHelper h source v (subst (λ x. IsTrue (is_helper x)) (ap (λ d. d.name) one) is) (matches_too written source u v rest others)
matches_too written source _ (Table d s ∷ v) (AndHelper g _ u is rest) e = absurd (cc)

-- ---- it does what that does

pub does_too : (rows other_rows : Calls) (written : CType → CType) (source u v : List External) → DoesTheSame rows other_rows written source u → DifferInPlaces u v → DoesTheSame rows other_rows written source v
does_too rows other_rows written source u v does e name f args others memory turns found good matching =
    subst (λ o. Follows (length memory + length (table_blocks source)) (means rows source name args memory turns) o) (same_means other_rows u v e name others memory turns) (does name f args others memory turns found good matching)

-- ---- its functions have parameters of the same names

names_left : (all : List Object) → map (λ d. d.name) (map unplaced_object all) ≡ map (λ d. d.name) all
names_left [] = refl
names_left (d ∷ rest) = rw (names_left rest) refl

unit_names : (u : List External) → parameter_names (unit places u) ≡ parameter_names u
unit_names [] = refl
unit_names (Function f ∷ rest) = rw (names_left f.params, unit_names rest) refl
unit_names (Table d is_static ∷ rest) = unit_names rest

pub same_names : (u v : List External) → DifferInPlaces u v → parameter_names u ≡ parameter_names v
same_names u v e = sym (unit_names u) ∙ ap parameter_names e ∙ unit_names v
