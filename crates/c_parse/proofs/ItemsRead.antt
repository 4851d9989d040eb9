-- Units: what is read was written so, and what is written is read.
use Rattle.std.proofs.Common.{◌≡◌, ℕ, zero, suc, ◌<◌, ◌≤◌, inl, inr, List, [], ◌∷◌, ◌++◌, length, Option, Some, None, refl, sym, ◌∙◌, ap, arith, true}
use Rattle.c_text.specs.declared.tokens.Dialect.{Dialect}
use Rattle.c_text.specs.declared.tokens.Token.{Token}
use Rattle.c_tree.specs.Tree as trees
use Rattle.c_tree.specs.Tree.{Object, Definition, External}
use Rattle.c_parse.specs.declared.symbols.Sign.TheVariants.{OpenBrace, Semicolon}
use Rattle.c_parse.specs.Reading.{◌>>=◌, or_else, front, past}
use Rattle.c_parse.specs.Repeated.{Each, spell_each}
use Rattle.c_parse.specs.Objects.{begins_declaration}
use Rattle.c_parse.specs.DeclarationReading.{heading_front, object_front}
use Rattle.c_parse.specs.Statements.{spell_all, tree_all}
use Rattle.c_parse.specs.StatementReading.{statements_of}
use Rattle.c_parse.specs.Items.{Item, Stray, Prototype, Function, Table, IsItem, spell_item, with_body, tree_items, IsUnit}
use Rattle.c_parse.specs.ItemReading.{body_front, table_front, item_front, and_items, unit_at, unit_of}
use Rattle.c_parse.proofs.Fronts.{bind_some, or_else_cases, past_is}
use Rattle.c_parse.proofs.Stable.{bind_same}
use Rattle.c_parse.proofs.Leaves.{longer_words}
use Rattle.c_parse.proofs.DeclarationsRead.{heading_sound, heading_complete, heading_begins, object_sound, object_complete, object_begins, object_no_heading}
use Rattle.c_parse.proofs.StatementsSound.{same_0, same_1}
use Rattle.c_parse.proofs.StatementsStable.{begins_longer, longer_all, statements_sound}
use Rattle.c_parse.proofs.StatementsComplete.{complete_all, declaration_plain}

-- what an item is in the unit
abbrev pub meant : Item → Option External
meant (Stray t) = None
meant (Prototype words heading t) = None
meant (Function words heading o body) = Some (trees.Function (with_body heading (tree_all body)))
meant (Table words o is_static) = Some (trees.Table o is_static)

pub record Wrote (d : Dialect) (ts : List Token) (x : Option External) (us : List Token) : Type 0 where
  pub written : Item
  pub fits : IsItem d written
  pub spelled : ts ≡ spell_item written us
  pub means : meant written ≡ x

table_sound : (d : Dialect) (ts us : List Token) (x : Option External) → table_front d ts ≡ Some (x, us) → Wrote d ts x us
table_sound d ts us x e =
    let (o, oe, e1) = bind_some (object_front d ts) _ _ e in
    let w = object_sound d ts o.1 o.0 oe in
    record { written = Table w.words o.0.0 o.0.1; fits = w.is; spelled = w.split ∙ ap (λ y. w.words ++ y) (same_1 _ _ _ _ e1); means = same_0 _ _ _ _ e1 }

body_sound : (d : Dialect) (ts vs us : List Token) (h : Definition) (x : Option External) → heading_front d ts ≡ Some (h, vs) → body_front d h vs ≡ Some (x, us) → Wrote d ts x us
body_sound d ts vs us h x he e =
    let w = heading_sound d ts vs h he in
    elim (or_else_cases (past d Semicolon vs) _ _ _ e) [
      | inl (ws, o, e1) ↦
          let ends = past_is d Semicolon vs ws o in
          record {
            written = Prototype w.words h ends.token;
            fits = (w.is, ends.is);
            spelled = w.split ∙ ap (λ y. w.words ++ y) (ends.split ∙ ap (λ y. ends.token ∷ y) (same_1 _ _ _ _ e1));
            means = same_0 _ _ _ _ e1;
          }
      | inr (_, e1) ↦
          let (ws, o, e2) = bind_some (past d OpenBrace vs) _ _ e1 in
          let (b, be, e3) = bind_some (statements_of d ws) _ _ e2 in
          let opens = past_is d OpenBrace vs ws o in
          let body = statements_sound d ws b.1 b.0 be in
          record {
            written = Function w.words h opens.token body.written;
            fits = (w.is, opens.is, body.fits);
            spelled = w.split ∙ ap (λ y. w.words ++ y) (opens.split ∙ ap (λ y. opens.token ∷ y) (body.spelled ∙ ap (spell_all body.written) (same_1 _ _ _ _ e3)));
            means = ap (λ y. Some (trees.Function (with_body h y))) body.means ∙ same_0 _ _ _ _ e3;
          }
    ]

pub item_sound : (d : Dialect) (ts us : List Token) (x : Option External) → item_front d ts ≡ Some (x, us) → Wrote d ts x us
item_sound d ts us x e =
    elim (or_else_cases (past d Semicolon ts) _ _ _ e) [
      | inl (vs, o, e1) ↦
          let ends = past_is d Semicolon ts vs o in
          record { written = Stray ends.token; fits = ends.is; spelled = ends.split ∙ ap (λ y. ends.token ∷ y) (same_1 _ _ _ _ e1); means = same_0 _ _ _ _ e1 }
      | inr (_, e1) ↦ elim (or_else_cases (heading_front d ts) _ _ _ e1) [
        | inl (h, he, e2) ↦ body_sound d ts h.1 us h.0 x he e2
        | inr (_, e2) ↦ table_sound d ts us x e2
      ]
    ]

longer : (d : Dialect) (i : Item) (ts : List Token) → IsItem d i → length ts < length (spell_item i ts)
longer d (Stray t) ts f = omega arith
longer d (Prototype words heading t) ts f = let h = longer_words words (t ∷ ts) in omega arith
longer d (Function words heading o body) ts f = let h = longer_words words (o ∷ spell_all body ts) in let k = longer_all d body ts f.2 in omega arith
longer d (Table words o is_static) ts f = begins_longer d words ts (object_begins d words (o, is_static) [] f)

pub item_shrinks : (d : Dialect) (ts us : List Token) (x : Option External) → item_front d ts ≡ Some (x, us) → length us < length ts
item_shrinks d ts us x e = let w = item_sound d ts us x e in let h = longer d w.written us w.fits in omega (arith, ap length w.spelled)

no_semicolon : (d : Dialect) (ts : List Token) → begins_declaration (front d ts) ≡ true → past d Semicolon ts ≡ None
no_semicolon d ts b = rw ((declaration_plain (front d ts) b).semicolon) refl

pub item_complete : (d : Dialect) (i : Item) (rest : List Token) → IsItem d i → item_front d (spell_item i rest) ≡ Some (meant i, rest)
item_complete d (Stray t) rest f = rw f refl
item_complete d (Prototype words h t) rest f =
    rw (no_semicolon d (words ++ t ∷ rest) (heading_begins d words h (t ∷ rest) f.0), heading_complete d words h (t ∷ rest) f.0 (rw f.1 refl), f.1) refl
item_complete d (Function words h o body) rest f =
    rw (
      no_semicolon d (words ++ o ∷ spell_all body rest) (heading_begins d words h (o ∷ spell_all body rest) f.0),
      heading_complete d words h (o ∷ spell_all body rest) f.0 (rw f.1 refl),
      f.1,
      complete_all d body rest f.2,
    ) refl
item_complete d (Table words o is_static) rest f =
    rw (
      no_semicolon d (words ++ rest) (object_begins d words (o, is_static) rest f),
      object_no_heading d words (o, is_static) rest f,
      object_complete d words (o, is_static) rest f,
    ) refl

-- an item behind which the others were read
tree_more : (i : Item) (rest : List Item) → tree_items (i ∷ rest) ≡ and_items (meant i) (tree_items rest)
tree_more (Stray t) rest = refl
tree_more (Prototype words heading t) rest = refl
tree_more (Function words heading o body) rest = refl
tree_more (Table words o is_static) rest = refl

some_same : {A : Type 0} (x y : A) → ◌≡◌ {A = Option A} (Some x) (Some y) → x ≡ y
some_same x y e = ap (λ (o : Option _). or_else o (λ z. z) x) e

unit_sound : (d : Dialect) (n : ℕ) (ts : List Token) (unit : List External) → unit_at d n ts ≡ Some unit → IsUnit d ts unit
unit_sound d n [] unit e = record { written = []; fits = tt; spelled = refl; means = some_same [] unit e }
unit_sound d zero (t ∷ ts) unit e = absurd (cc)
unit_sound d (suc n) (t ∷ ts) unit e =
    let (x, xe, e1) = bind_some (item_front d (t ∷ ts)) _ _ e in
    let (r, re, e2) = bind_some (unit_at d n x.1) _ _ e1 in
    let w = item_sound d (t ∷ ts) x.1 x.0 xe in
    let more = unit_sound d n x.1 r re in
    record {
      written = w.written ∷ more.written;
      fits = (w.fits, more.fits);
      spelled = w.spelled ∙ ap (spell_item w.written) more.spelled;
      means = tree_more w.written more.written ∙ ap (λ y. and_items y (tree_items more.written)) w.means ∙ ap (and_items x.0) more.means ∙ some_same (and_items x.0 r) unit e2;
    }

-- deeper than deep enough is the same
unit_stable : (d : Dialect) (n m : ℕ) (ts : List Token) → length ts ≤ n → length ts ≤ m → unit_at d n ts ≡ unit_at d m ts
unit_stable d n m [] h k = refl
unit_stable d zero m (t ∷ ts) h k = absurd (omega arith)
unit_stable d (suc n) zero (t ∷ ts) h k = absurd (omega arith)
unit_stable d (suc n) (suc m) (t ∷ ts) h k = bind_same (item_front d (t ∷ ts)) _ _ _ refl (λ x xe.
    let less = item_shrinks d (t ∷ ts) x.1 x.0 xe in
    bind_same (unit_at d n x.1) _ _ _ (unit_stable d n m x.1 (omega arith) (omega arith)) (λ r re. refl))

-- reading units without a bound
pub unit_end : (d : Dialect) → unit_of d [] ≡ Some []
unfolding unit_of
unit_end d = refl

pub unit_eq : (d : Dialect) (t : Token) (ts : List Token) → unit_of d (t ∷ ts) ≡ (item_front d (t ∷ ts) >>= λ x. unit_of d x.1 >>= λ rest. Some (and_items x.0 rest))
unfolding unit_of
unit_eq d t ts = bind_same (item_front d (t ∷ ts)) _ _ _ refl (λ x xe.
    let less = item_shrinks d (t ∷ ts) x.1 x.0 xe in
    bind_same (unit_at d (length ts) x.1) _ _ _ (unit_stable d (length ts) (length x.1) x.1 (omega arith) (omega arith)) (λ r re. refl))

-- some tokens in front of which an item is read
pub unit_step : (d : Dialect) (ts us : List Token) (x : Option External) → item_front d ts ≡ Some (x, us) → unit_of d ts ≡ (unit_of d us >>= λ rest. Some (and_items x rest))
unit_step d [] us x e = let h = item_shrinks d [] us x e in absurd (omega arith)
unit_step d (t ∷ ts) us x e = unit_eq d t ts ∙ rw e refl

unit_complete : (d : Dialect) (all : List Item) → Each (IsItem d) all → unit_of d (spell_each spell_item all []) ≡ Some (tree_items all)
unit_complete d [] f = unit_end d
unit_complete d (i ∷ rest) f =
    unit_step d (spell_item i (spell_each spell_item rest [])) (spell_each spell_item rest []) (meant i) (item_complete d i (spell_each spell_item rest []) f.0)
    ∙ rw (unit_complete d rest f.1) (ap Some (sym (tree_more i rest)))

-- the functions and tables of a unit are what is read, and what is read is a unit
pub unit_reads : (d : Dialect) (ts : List Token) (unit : List External) → IsUnit d ts unit → unit_of d ts ≡ Some unit
unit_reads d ts unit u = ap (unit_of d) u.spelled ∙ unit_complete d u.written u.fits ∙ ap Some u.means

pub unit_writes : (d : Dialect) (ts : List Token) (unit : List External) → unit_of d ts ≡ Some unit → IsUnit d ts unit
unfolding unit_of
unit_writes d ts unit e = unit_sound d (length ts) ts unit e

pub one_unit : (d : Dialect) (ts : List Token) (a b : List External) → IsUnit d ts a → IsUnit d ts b → a ≡ b
one_unit d ts a b u v = some_same a b (sym (unit_reads d ts a u) ∙ unit_reads d ts b v)
