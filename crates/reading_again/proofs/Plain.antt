-- What is left of a tree names no array type where the tree names none.
use Rattle.std.proofs.Common.{◌≡◌, List, [], ◌∷◌, map, Bool, true, false, Option, Some, None, refl, ap, ◌∙◌}
use Rattle.std.specs.Prelude.{option_map}
use Rattle.c_tree.specs.declared.types.CType.{CType}
use Rattle.c_tree.specs.Types.{is_array}
use Rattle.c_tree.specs.Tree as tree
use Rattle.c_tree.specs.Tree.{Tree, Kind, Trees, Node, NoTrees, More}
use Rattle.c_tree.specs.Tree.{Object, Statement, Statements, Optional, Declare, Run, Block, If, While, DoWhile, For, Break, Continue, Return, Empty, Absent, Present, NoStatements, Then}
use Rattle.c_tree.specs.Tree.{Definition, External, Function, Table}
use Rattle.c_tree.specs.Same.{unnumbered, stripped, stripped_kind, stripped_all}
use Rattle.reading_again.specs.Rewritten.{statement, statements, optional, definition, unit}
use Rattle.reading_again.specs.Plain.{Plain, PlainKind, PlainAll, PlainPart, PlainList, PlainObject, PlainObjects, PlainStatement, PlainStatements, PlainOptional, PlainParameters, PlainFunction, PlainUnit}
use Rattle.reading_again.specs.Left.{left, left_object}

pub same_is_array : (t : CType) → is_array (unnumbered t) ≡ is_array t
same_is_array (CType.Array e n c) = refl
same_is_array t = refl

mutual
  pub same_plain : (e : Tree) → ◌≡◌ {A = Type 0} (Plain (stripped e)) (Plain e)
  same_plain (Node p t k) = same_plain_kind k

  same_plain_kind : (k : Kind) → ◌≡◌ {A = Type 0} (Plain (stripped_kind k)) (PlainKind k)
  same_plain_kind (tree.Unary o a) = same_plain a
  same_plain_kind (tree.Step a up before) = same_plain a
  same_plain_kind (tree.Binary o a b) = rw (same_plain a, same_plain b) refl
  same_plain_kind (tree.AndThen a b) = rw (same_plain a, same_plain b) refl
  same_plain_kind (tree.OrElse a b) = rw (same_plain a, same_plain b) refl
  same_plain_kind (tree.Choice c a b) = rw (same_plain c, same_plain a, same_plain b) refl
  same_plain_kind (tree.Assign o a b) = rw (same_plain a, same_plain b) refl
  same_plain_kind (tree.Comma all) = same_plain_all all
  same_plain_kind (tree.Cast t a true) = same_plain a
  same_plain_kind (tree.Cast t a false) = same_plain a
  same_plain_kind (tree.Index a b) = rw (same_plain a, same_plain b) refl
  same_plain_kind (tree.Deref a) = same_plain a
  same_plain_kind (tree.Address a) = same_plain a
  same_plain_kind (tree.Call f all) = same_plain_all all
  same_plain_kind (tree.Half a k) = same_plain a
  same_plain_kind (tree.PairOf a b) = rw (same_plain a, same_plain b) refl
  same_plain_kind (tree.SizeOfType t) = rw (same_is_array t) refl
  same_plain_kind (tree.Const n) = refl
  same_plain_kind (tree.Name x) = refl
  same_plain_kind (tree.SizeOfName x) = refl
  same_plain_kind (tree.Str x) = refl

  same_plain_all : (all : Trees) → ◌≡◌ {A = Type 0} (PlainAll (stripped_all all)) (PlainAll all)
  same_plain_all NoTrees = refl
  same_plain_all (More a rest) = rw (same_plain a, same_plain_all rest) refl

same_plain_part : (e : Option Tree) → ◌≡◌ {A = Type 0} (PlainPart (option_map stripped e)) (PlainPart e)
same_plain_part None = refl
same_plain_part (Some e) = same_plain e

same_plain_list : (all : Option Trees) → ◌≡◌ {A = Type 0} (PlainList (option_map stripped_all all)) (PlainList all)
same_plain_list None = refl
same_plain_list (Some all) = same_plain_all all

pub same_plain_object : (exact : Bool) (d : Object) → ◌≡◌ {A = Type 0} (PlainObject (left_object exact d)) (PlainObject d)
same_plain_object exact d = rw (same_plain_part d.length, same_plain_part d.align, same_plain_part d.init, same_plain_list d.list) refl

same_plain_objects : (exact : Bool) (all : List Object) → ◌≡◌ {A = Type 0} (PlainObjects (map (left_object exact) all)) (PlainObjects all)
same_plain_objects exact [] = refl
same_plain_objects exact (d ∷ rest) = rw (same_plain_object exact d, same_plain_objects exact rest) refl

mutual
  pub same_plain_statement : (exact : Bool) (s : Statement) → ◌≡◌ {A = Type 0} (PlainStatement (statement (left exact) s)) (PlainStatement s)
  same_plain_statement exact (Declare all) = same_plain_objects exact all
  same_plain_statement exact (Run e) = same_plain e
  same_plain_statement exact (Block all) = same_plain_statements exact all
  same_plain_statement exact (If c s o) = rw (same_plain c, same_plain_statement exact s, same_plain_optional exact o) refl
  same_plain_statement exact (While c s) = rw (same_plain c, same_plain_statement exact s) refl
  same_plain_statement exact (DoWhile s c) = rw (same_plain c, same_plain_statement exact s) refl
  same_plain_statement exact (For i c n s) = rw (same_plain_optional exact i, same_plain_part c, same_plain_part n, same_plain_statement exact s) refl
  same_plain_statement exact (Break p) = refl
  same_plain_statement exact (Continue p) = refl
  same_plain_statement exact (Return p e) = same_plain_part e
  same_plain_statement exact Empty = refl

  same_plain_optional : (exact : Bool) (o : Optional) → ◌≡◌ {A = Type 0} (PlainOptional (optional (left exact) o)) (PlainOptional o)
  same_plain_optional exact Absent = refl
  same_plain_optional exact (Present s) = same_plain_statement exact s

  same_plain_statements : (exact : Bool) (all : Statements) → ◌≡◌ {A = Type 0} (PlainStatements (statements (left exact) all)) (PlainStatements all)
  same_plain_statements exact NoStatements = refl
  same_plain_statements exact (Then s rest) = rw (same_plain_statement exact s, same_plain_statements exact rest) refl

same_plain_parameters : (exact : Bool) (all : List Object) → ◌≡◌ {A = Type 0} (PlainParameters (map (left_object exact) all)) (PlainParameters all)
same_plain_parameters exact [] = refl
same_plain_parameters exact (d ∷ rest) =
    ap (λ t. ((t × (is_array (unnumbered d.ty) ≡ false)) × PlainParameters (map (left_object exact) rest))) (same_plain_object exact d)
    ∙ ap (λ v. ((PlainObject d × (v ≡ false)) × PlainParameters (map (left_object exact) rest))) (same_is_array d.ty)
    ∙ ap (λ t. ((PlainObject d × (is_array d.ty ≡ false)) × t)) (same_plain_parameters exact rest)

pub same_plain_function : (exact : Bool) (f : Definition) → ◌≡◌ {A = Type 0} (PlainFunction (definition (left exact) f)) (PlainFunction f)
same_plain_function exact f =
    ap (λ v. ((v ≡ false) × (PlainParameters (map (left_object exact) f.params) × PlainStatements (statements (left exact) f.body)))) (same_is_array f.result)
    ∙ ap (λ t. ((is_array f.result ≡ false) × (t × PlainStatements (statements (left exact) f.body)))) (same_plain_parameters exact f.params)
    ∙ ap (λ t. ((is_array f.result ≡ false) × (PlainParameters f.params × t))) (same_plain_statements exact f.body)

pub same_plain_unit : (exact : Bool) (u : List External) → ◌≡◌ {A = Type 0} (PlainUnit (unit (left exact) u)) (PlainUnit u)
same_plain_unit exact [] = refl
same_plain_unit exact (Function f ∷ rest) = rw (same_plain_function exact f, same_plain_unit exact rest) refl
same_plain_unit exact (Table d is_static ∷ rest) = rw (same_plain_object exact d, same_plain_unit exact rest) refl
