-- What is written for a statement is printed and read as it is.
use Rattle.std.proofs.Common.{◌≡◌, ◌⊎◌, inl, inr, refl, sym, ap, ◌∙◌, subst, ℕ, Bool, true, false, List, [], ◌∷◌, Option, Some, None, is_some, if◌then◌else◌}
use Rattle.std.specs.Prelude.{bytes_eq, option_map}
use Rattle.std.proofs.lemmas.Slice.Eq.{bytes_eq-Decides}
use Rattle.c_tree.specs.declared.types.CType.{CType}
use Rattle.c_tree.specs.Tree.{Tree, Trees, Object, Statement, Statements, Optional, Declare, Run, Block, If, While, DoWhile, For, Break, Continue, Return, Empty, Absent, Present, NoStatements, Then}
use Rattle.c_memory.specs.Matching.{written_type}
use Rattle.c_print.specs.Declarations.{has_const}
use Rattle.round_trip.specs.Good.{GoodName}
use Rattle.round_trip.specs.GoodUnits.{first_type, GoodPart, GoodList, HasShape, GoodObject, GoodOthers, GoodDeclaration, IsBlock, IsIf, GoodStart, GoodElse, GoodStatements}
use Rattle.reading_again.specs.Plain.{PlainPart, PlainList, PlainObject, PlainObjects, PlainOptional, PlainStatements}
use Rattle.written_forms.specs.Seen.{Local, Sees, local, with_local, beginning, declared}
use Rattle.written_forms.specs.Moved.{Plans, moved, moved_all}
use Rattle.written_forms.specs.Statements.{moved_object, moved_objects, sees_objects, sees_behind, sees_optional, braced, braced_else, moved_statement, moved_optional, moved_else, moved_statements}
use Rattle.written_forms.specs.Ready.{IsCarried}
use Rattle.written_forms.specs.ReadyStatements.{ReadyFirst, ReadyObject, ReadyObjects, ReadyCondition, ReadyStep, ReadyResult, ReadyStart, ReadyStatement, ReadyOptional, ReadyStatements}
use Rattle.written_forms.specs.ReadyUnits.{Heads, setting}
use Rattle.read_units.specs.Read.{ReadPart, HasLength, ReadObject, ReadOthers, ReadDeclaration, ReadStatement, ReadOptional, ReadStatements}
use Rattle.written_text.proofs.Names.{good_name}
use Rattle.written_text.proofs.Fine.{Fine, IsWritten, written_object}
use Rattle.written_text.proofs.RowFunctions.{FineStatement}
use Rattle.written_text.proofs.Expressions.{Kept, integer_good, expression}
use Rattle.written_text.proofs.Constants.{constant_fine}
use Rattle.written_text.proofs.Told.{IsAligned, Told, AllTold, ToldStatement, ToldOptional, ToldStatements}

-- ---- types of objects apart from memory

pub carried_written : (t : CType) → IsCarried t → IsWritten (written_type t)
carried_written (CType.Int s) h = integer_good s
carried_written CType.M128 h = tt
carried_written t h = absurd h

first_written : (t : CType) → IsCarried t → first_type (written_type t) ≡ written_type (first_type t)
first_written (CType.Int s) h = refl
first_written CType.M128 h = refl
first_written t h = absurd h

const_written : (t : CType) (c : Bool) → IsCarried t → has_const (written_type t) c ≡ has_const t c
const_written (CType.Int s) c h = refl
const_written CType.M128 c h = refl
const_written t c h = absurd h

no_length : (t : CType) (length : Option Tree) → IsCarried t → HasLength t length → length ≡ None
no_length (CType.Int s) length h g = g
no_length CType.M128 length h g = g
no_length t length h g = absurd h

pub shape : (t : CType) (length init : Option Tree) (list : Option Trees) → IsWritten t → length ≡ None → list ≡ None → HasShape t length init list
shape (CType.Int s) length init list w h g = (h, g)
shape (CType.Neon l wide) length init list w h g = (h, g)
shape CType.Pair length init list w h g = (h, g)
shape (CType.Pointer e constant) length init list w h g = (h, g)
shape t length init list w h g = absurd w

-- ---- parts

pub record FinePart (o : Option Tree) : Type 0 where
  pub good : GoodPart o
  pub plain : PlainPart o

pub no_part : (o : Option Tree) → o ≡ None → FinePart o
no_part None h = record { good = tt; plain = tt }
no_part (Some e) h = absurd (cc)

some_part : (e : Tree) → Fine e → FinePart (Some e)
some_part e f = record { good = f.good; plain = f.plain }

mapped_none : {A B : Type 0} (f : A → B) (o : Option A) → o ≡ None → option_map f o ≡ None
mapped_none f None h = refl
mapped_none f (Some x) h = absurd (cc)

-- no list of members
pub record FineList (l : Option Trees) : Type 0 where
  pub good : GoodList l
  pub plain : PlainList l

pub no_list : (l : Option Trees) → l ≡ None → FineList l
no_list None h = record { good = tt; plain = tt }
no_list (Some all) h = absurd (cc)

align_fine : (plans : Plans) (sees : Sees) (o : Option Tree) → IsAligned o → ReadPart o → FinePart (option_map (moved plans sees) o)
align_fine plans sees None a g = record { good = tt; plain = tt }
align_fine plans sees (Some e) a g = some_part (moved plans sees e) (constant_fine plans sees e a.0 a.1 g)

-- ---- names in scope

pub kept_with : (helps : List ℕ → ℕ → Bool) (heads : Heads) (sees : Sees) (x : List ℕ) (l : Local) → Kept helps heads sees → GoodName x → Kept helps heads (with_local x l sees)
kept_with helps heads sees x l k g = record { small = k.small; functions = k.functions; names = λ y m h. at y m (bytes_eq y x) refl h (k.names y m) }
  where
    at : (y : List ℕ) (m : Local) (b : Bool) → bytes_eq y x ≡ b → (if b then Some l else sees y) ≡ Some m → (sees y ≡ Some m → GoodName y) → GoodName y
    at y m true e h f = subst GoodName (sym ((bytes_eq-Decides y x).0 e)) g
    at y m false e h f = f h

module _ (plans : Plans) (helps : List ℕ → ℕ → Bool) (heads : Heads) where
  first_fine : (sees : Sees) → Kept helps heads sees → (t : CType) (o : Option Tree) → ReadyFirst (setting plans helps heads) sees t o → ReadPart o → FinePart (option_map (moved plans sees) o)
  first_fine sees k t None r g = record { good = tt; plain = tt }
  first_fine sees k t (Some e) r g = some_part (moved plans sees e) (expression plans helps heads sees k e r.1 g).fine

  -- ---- objects

  record FineObject (sees : Sees) (d : Object) : Type 0 where
    pub good : GoodObject (moved_object plans sees d)
    pub plain : PlainObject (moved_object plans sees d)
    pub carried : IsCarried d.ty
    pub name : GoodName d.name

  object_fine : (sees : Sees) → Kept helps heads sees → (d : Object) → ReadyObject (setting plans helps heads) sees d → ReadObject d → Told d → FineObject sees d
  object_fine sees k d r g t =
      let name = good_name d.name g.named t.free in
      let is = carried_written d.ty r.carried in
      let none = mapped_none (moved plans sees) d.length (no_length d.ty d.length r.carried g.shaped) in
      let list = mapped_none (moved_all plans (beginning d sees)) d.list r.list in
      let length = no_part (option_map (moved plans sees) d.length) none in
      let members = no_list (option_map (moved_all plans (beginning d sees)) d.list) list in
      let align = align_fine plans sees d.align t.aligned g.align in
      let init = first_fine (beginning d sees) (kept_with helps heads sees d.name (local d.ty false) k name) d.ty d.init r.init g.init in
      record {
        good = record {
          named = name;
          typed = written_object (written_type d.ty) d.constant is;
          shaped = shape (written_type d.ty) (option_map (moved plans sees) d.length) (option_map (moved plans (beginning d sees)) d.init) (option_map (moved_all plans (beginning d sees)) d.list) is none list;
          length = length.good;
          align = align.good;
          init = init.good;
          list = members.good;
        };
        plain = (length.plain, (align.plain, (init.plain, members.plain)));
        carried = r.carried;
        name = name;
      }

  record FineOthers (sees : Sees) (t : CType) (c : Bool) (all : List Object) : Type 0 where
    pub good : GoodOthers (written_type t) c (moved_objects plans sees all)
    pub plain : PlainObjects (moved_objects plans sees all)
    pub kept : Kept helps heads (sees_objects all sees)

  others_fine : (sees : Sees) → Kept helps heads sees → (t : CType) (c : Bool) (all : List Object) → ReadyObjects (setting plans helps heads) sees all → ReadOthers t c all → AllTold all → FineOthers sees t c all
  others_fine sees k t c [] r g h = record { good = tt; plain = tt; kept = k }
  others_fine sees k t c (d ∷ rest) r g h =
      let one = object_fine sees k d r.0 g.0 h.0 in
      let next = others_fine (declared d sees) (kept_with helps heads sees d.name (local d.ty (is_some d.init)) k one.name) t c rest r.1 g.3 h.1 in
      record {
        good = (one.good, first_written d.ty one.carried ∙ ap written_type g.1, const_written d.ty d.constant one.carried ∙ g.2, next.good);
        plain = (one.plain, next.plain);
        kept = next.kept;
      }

  record FineDeclaration (sees : Sees) (all : List Object) : Type 0 where
    pub good : GoodDeclaration (moved_objects plans sees all)
    pub plain : PlainObjects (moved_objects plans sees all)
    pub kept : Kept helps heads (sees_objects all sees)

  declaration_fine : (sees : Sees) → Kept helps heads sees → (all : List Object) → ReadyObjects (setting plans helps heads) sees all → ReadDeclaration all → AllTold all → FineDeclaration sees all
  declaration_fine sees k [] r g h = absurd g
  declaration_fine sees k (d ∷ rest) r g h =
      let one = object_fine sees k d r.0 g.0 h.0 in
      let next = others_fine (declared d sees) (kept_with helps heads sees d.name (local d.ty (is_some d.init)) k one.name) (first_type d.ty) (has_const d.ty d.constant) rest r.1 g.1 h.1 in
      let ty = first_written d.ty one.carried in
      let constant = const_written d.ty d.constant one.carried in
      record {
        good = (
          one.good,
          subst (λ z. GoodOthers z (has_const (written_type d.ty) d.constant) (moved_objects plans (declared d sees) rest)) (sym ty)
              (subst (λ z. GoodOthers (written_type (first_type d.ty)) z (moved_objects plans (declared d sees) rest)) (sym constant) next.good),
        );
        plain = (one.plain, next.plain);
        kept = next.kept;
      }

  -- ---- bodies

  record FineBody (s : Statement) : Type 0 where
    pub block : IsBlock (braced s)
    pub fine : FineStatement (braced s)

  as_block : (s : Statement) → FineStatement s → FineStatement (Block (Then s NoStatements))
  as_block s f = record { good = (f.good, tt); plain = (f.plain, tt) }

  body_fine : (s : Statement) → FineStatement s → FineBody s
  body_fine (Declare all) f = record { block = tt; fine = as_block (Declare all) f }
  body_fine (Run e) f = record { block = tt; fine = as_block (Run e) f }
  body_fine (Block all) f = record { block = tt; fine = f }
  body_fine (If e s o) f = record { block = tt; fine = as_block (If e s o) f }
  body_fine (While e s) f = record { block = tt; fine = as_block (While e s) f }
  body_fine (DoWhile s e) f = record { block = tt; fine = as_block (DoWhile s e) f }
  body_fine (For i e n s) f = record { block = tt; fine = as_block (For i e n s) f }
  body_fine (Break p) f = record { block = tt; fine = as_block (Break p) f }
  body_fine (Continue p) f = record { block = tt; fine = as_block (Continue p) f }
  body_fine (Return p e) f = record { block = tt; fine = as_block (Return p e) f }
  body_fine Empty f = record { block = tt; fine = as_block Empty f }

  record FineElse (s : Statement) : Type 0 where
    pub form : IsBlock (braced_else s) ⊎ IsIf (braced_else s)
    pub fine : FineStatement (braced_else s)

  else_of : (s : Statement) → braced_else s ≡ braced s → FineBody s → FineElse s
  else_of s e b = record { form = inl (subst IsBlock (sym e) b.block); fine = subst FineStatement (sym e) b.fine }

  else_fine : (s : Statement) → FineStatement s → FineElse s
  else_fine (Declare all) f = else_of (Declare all) refl (body_fine (Declare all) f)
  else_fine (Run e) f = else_of (Run e) refl (body_fine (Run e) f)
  else_fine (Block all) f = else_of (Block all) refl (body_fine (Block all) f)
  else_fine (If e s o) f = record { form = inr tt; fine = f }
  else_fine (While e s) f = else_of (While e s) refl (body_fine (While e s) f)
  else_fine (DoWhile s e) f = else_of (DoWhile s e) refl (body_fine (DoWhile s e) f)
  else_fine (For i e n s) f = else_of (For i e n s) refl (body_fine (For i e n s) f)
  else_fine (Break p) f = else_of (Break p) refl (body_fine (Break p) f)
  else_fine (Continue p) f = else_of (Continue p) refl (body_fine (Continue p) f)
  else_fine (Return p e) f = else_of (Return p e) refl (body_fine (Return p e) f)
  else_fine Empty f = else_of Empty refl (body_fine Empty f)

  -- ---- statements

  condition_fine : (sees : Sees) → Kept helps heads sees → (o : Option Tree) → ReadyCondition (setting plans helps heads) sees o → ReadPart o → FinePart (option_map (moved plans sees) o)
  condition_fine sees k None r g = record { good = tt; plain = tt }
  condition_fine sees k (Some e) r g = some_part (moved plans sees e) (expression plans helps heads sees k e r.1 g).fine

  step_fine : (sees : Sees) → Kept helps heads sees → (o : Option Tree) → ReadyStep (setting plans helps heads) sees o → ReadPart o → FinePart (option_map (moved plans sees) o)
  step_fine sees k None r g = record { good = tt; plain = tt }
  step_fine sees k (Some e) r g = some_part (moved plans sees e) (expression plans helps heads sees k e r g).fine

  result_fine : (sees : Sees) → Kept helps heads sees → (t : CType) (o : Option Tree) → ReadyResult (setting plans helps heads) sees t o → ReadPart o → FinePart (option_map (moved plans sees) o)
  result_fine sees k t None r g = record { good = tt; plain = tt }
  result_fine sees k t (Some e) r g = some_part (moved plans sees e) (expression plans helps heads sees k e r.1 g).fine

  record FineStart (sees : Sees) (i : Optional) : Type 0 where
    pub good : GoodStart (moved_optional plans sees i)
    pub plain : PlainOptional (moved_optional plans sees i)
    pub kept : Kept helps heads (sees_optional i sees)

  start_fine : (sees : Sees) → Kept helps heads sees → (i : Optional) → ReadyStart (setting plans helps heads) sees i → ReadOptional i → ToldOptional i → FineStart sees i
  start_fine sees k Absent r g h = record { good = tt; plain = tt; kept = k }
  start_fine sees k (Present (Declare all)) r g h = let d = declaration_fine sees k all r g h in record { good = d.good; plain = d.plain; kept = d.kept }
  start_fine sees k (Present (Run e)) r g h = let m = (expression plans helps heads sees k e r g).fine in record { good = m.good; plain = m.plain; kept = k }
  start_fine sees k (Present s) r g h = absurd r

  -- what stands behind a statement sees what it declares
  kept_behind : (t : CType) (sees : Sees) → Kept helps heads sees → (s : Statement) → ReadyStatement (setting plans helps heads) t sees s → ReadStatement s → ToldStatement s → Kept helps heads (sees_behind s sees)
  kept_behind t sees k (Declare all) r g h = (declaration_fine sees k all r g h).kept
  kept_behind t sees k (Run e) r g h = k
  kept_behind t sees k (Block all) r g h = k
  kept_behind t sees k (If e s o) r g h = k
  kept_behind t sees k (While e s) r g h = k
  kept_behind t sees k (DoWhile s e) r g h = k
  kept_behind t sees k (For i e n s) r g h = k
  kept_behind t sees k (Break p) r g h = k
  kept_behind t sees k (Continue p) r g h = k
  kept_behind t sees k (Return p e) r g h = k
  kept_behind t sees k Empty r g h = k

  record FineOtherwise (o : Optional) : Type 0 where
    pub good : GoodElse o
    pub plain : PlainOptional o

  pub record FineStatements (all : Statements) : Type 0 where
    pub good : GoodStatements all
    pub plain : PlainStatements all

  mutual
    statement_fine : (t : CType) (sees : Sees) → Kept helps heads sees → (s : Statement) → ReadyStatement (setting plans helps heads) t sees s → ReadStatement s → ToldStatement s → FineStatement (moved_statement plans sees s)
    statement_fine t sees k (Declare all) r g h = let d = declaration_fine sees k all r g h in record { good = d.good; plain = d.plain }
    statement_fine t sees k (Run e) r g h = let m = (expression plans helps heads sees k e r g).fine in record { good = m.good; plain = m.plain }
    statement_fine t sees k (Block all) r g h = let m = statements_fine t sees k all r g h in record { good = m.good; plain = m.plain }
    statement_fine t sees k (If e s o) r g h =
        let c = (expression plans helps heads sees k e r.1 g.0).fine in
        let b = body_fine (moved_statement plans sees s) (statement_fine t sees k s r.2 g.1 h.0) in
        let u = optional_fine t sees k o r.3 g.2 h.1 in
        record { good = (c.good, b.block, b.fine.good, u.good); plain = (c.plain, (b.fine.plain, u.plain)) }
    statement_fine t sees k (While e s) r g h =
        let c = (expression plans helps heads sees k e r.1 g.0).fine in
        let b = body_fine (moved_statement plans sees s) (statement_fine t sees k s r.2 g.1 h) in
        record { good = (c.good, b.block, b.fine.good); plain = (c.plain, b.fine.plain) }
    statement_fine t sees k (DoWhile s e) r g h =
        let c = (expression plans helps heads sees k e r.1 g.1).fine in
        let b = body_fine (moved_statement plans sees s) (statement_fine t sees k s r.2 g.0 h) in
        record { good = (b.block, b.fine.good, c.good); plain = (b.fine.plain, c.plain) }
    statement_fine t sees k (For i e n s) r g h =
        let first = start_fine sees k i r.0 g.0 h.0 in
        let scope = sees_optional i sees in
        let c = condition_fine scope first.kept e r.1 g.1 in
        let m = step_fine scope first.kept n r.2 g.2 in
        let b = body_fine (moved_statement plans scope s) (statement_fine t scope first.kept s r.3 g.3 h.1) in
        record { good = (first.good, c.good, m.good, b.block, b.fine.good); plain = (first.plain, (c.plain, (m.plain, b.fine.plain))) }
    statement_fine t sees k (Break p) r g h = record { good = tt; plain = tt }
    statement_fine t sees k (Continue p) r g h = record { good = tt; plain = tt }
    statement_fine t sees k (Return p e) r g h = let m = result_fine sees k t e r g in record { good = m.good; plain = m.plain }
    statement_fine t sees k Empty r g h = record { good = tt; plain = tt }

    optional_fine : (t : CType) (sees : Sees) → Kept helps heads sees → (o : Optional) → ReadyOptional (setting plans helps heads) t sees o → ReadOptional o → ToldOptional o → FineOtherwise (moved_else plans sees o)
    optional_fine t sees k Absent r g h = record { good = tt; plain = tt }
    optional_fine t sees k (Present s) r g h =
        let m = else_fine (moved_statement plans sees s) (statement_fine t sees k s r g h) in
        record { good = (m.form, m.fine.good); plain = m.fine.plain }

    pub statements_fine : (t : CType) (sees : Sees) → Kept helps heads sees → (all : Statements) → ReadyStatements (setting plans helps heads) t sees all → ReadStatements all → ToldStatements all
        → FineStatements (moved_statements plans sees all)
    statements_fine t sees k NoStatements r g h = record { good = tt; plain = tt }
    statements_fine t sees k (Then s rest) r g h =
        let one = statement_fine t sees k s r.0 g.0 h.0 in
        let next = statements_fine t (sees_behind s sees) (kept_behind t sees k s r.0 g.0 h.0) rest r.1 g.1 h.1 in
        record { good = (one.good, next.good); plain = (one.plain, next.plain) }
