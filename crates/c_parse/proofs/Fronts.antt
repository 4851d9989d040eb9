-- What the tests on the first token say.
use Rattle.std.proofs.Common.{◌≡◌, ℕ, ◌≤◌, ◌⊎◌, inl, inr, List, [], ◌∷◌, ◌++◌, get_or, ◌==◌, Option, Some, None, refl, sym, ◌∙◌, ap, Bool, true, false, cond}
use Rattle.std.proofs.lemmas.Bool.{leb-true, eqb-true}
use Rattle.std.specs.Prelude.{nat_le, ◌&&◌, codes, bytes_eq}
use Rattle.std.specs.Cmp.Lexicographic.{bytes_decides}
use Rattle.c_text.specs.declared.tokens.Dialect.{Dialect}
use Rattle.c_text.specs.declared.tokens.Dialect.TheVariants.{X86, Neon}
use Rattle.c_text.specs.declared.tokens.Token.{Token}
use Rattle.lane_core.specs.declared.number.BinOp.{BinOp}
use Rattle.c_tree.specs.declared.types.CType.{CType}
use Rattle.c_tree.specs.declared.types.CType.TheVariants as ctypes
use Rattle.c_tree.specs.Tree.{Tree}
use Rattle.c_parse.specs.declared.symbols.Infix.{Infix}
use Rattle.c_parse.specs.declared.symbols.Sign.{Sign}
use Rattle.c_parse.specs.declared.symbols.Sign.TheVariants.{Open, Close, OpenSquare, CloseSquare, Comma, Question, Colon, SizeOf, Dot, OpenBrace, CloseBrace, Semicolon}
use Rattle.c_parse.specs.declared.symbols.TypeWord.TheVariants as words
use Rattle.c_parse.specs.declared.symbols.Symbol.{Symbol}
use Rattle.c_parse.specs.declared.symbols.Symbol.TheVariants as symbols
use Rattle.c_parse.specs.declared.types.Specifiers.{Specifiers}
use Rattle.c_parse.specs.Symbols.{symbol_of}
use Rattle.c_parse.specs.Types.{base_of, pointer_to}
use Rattle.c_parse.specs.Reading.{◌>>=◌, or_else, front, behind, code, is_sign, past, level_of, infix_of, tight_enough, infix_at, assignment_of, step_of, is_name, name_front, constant_front, constant_at, specify, specifiers_front, no_specifiers, is_qualifier, past_qualifiers, is_star, with_rest, type_behind, type_front, without, cast_front, is_pair, past_pair, pair_front, is_neon, past_val, half_of, which_front, half_front, half_behind}
use Rattle.c_parse.specs.Grammar.{Is, IsName, IsType, IsPair}

pub bind_some : {A B : Type 0} (o : Option A) (f : A → Option B) (y : B) → (o >>= f) ≡ Some y → (x : A) × (o ≡ Some x) × (f x ≡ Some y)
bind_some (Some x) f y e = (x, refl, e)
bind_some None f y e = absurd (cc)

pub or_else_cases : {A B : Type 0} (o : Option A) (f : A → B) (y z : B) → or_else o f y ≡ z → ((x : A) × (o ≡ Some x) × (f x ≡ z)) ⊎ ((o ≡ None) × (y ≡ z))
or_else_cases (Some x) f y z e = inl (x, refl, e)
or_else_cases None f y z e = inr (refl, e)

signs_in_order : List Sign
signs_in_order =
    Open ∷ Close ∷ OpenSquare ∷ CloseSquare ∷ Comma ∷ Question ∷ Colon ∷ SizeOf ∷ Dot ∷ OpenBrace ∷ CloseBrace ∷ Semicolon ∷ []

sign_again : (s : Sign) → get_or signs_in_order (code s) Open ≡ s
unfolding signs_in_order
sign_again Open = refl
sign_again Close = refl
sign_again OpenSquare = refl
sign_again CloseSquare = refl
sign_again Comma = refl
sign_again Question = refl
sign_again Colon = refl
sign_again SizeOf = refl
sign_again Dot = refl
sign_again OpenBrace = refl
sign_again CloseBrace = refl
sign_again Semicolon = refl

sign_is : (s r : Sign) → (code s == code r) ≡ true → s ≡ r
sign_is s r t = sym (sign_again s) ∙ ap (λ i. get_or signs_in_order i Open) (eqb-true (code s) (code r) t) ∙ sign_again r

is_sign_is : (s : Sign) (m : Symbol) → is_sign s m ≡ true → m ≡ symbols.Sign s
is_sign_is s (symbols.Sign r) e = ap symbols.Sign (sym (sign_is s r e))
is_sign_is s _ e = absurd (cc)

-- a token, and those behind it
pub record Begins (d : Dialect) (s : Symbol) (ts us : List Token) : Type 0 where
  pub token : Token
  pub is : symbol_of d token ≡ s
  pub split : ts ≡ token ∷ us

pub past_is : (d : Dialect) (s : Sign) (ts us : List Token) → past d s ts ≡ Some us → Begins d (symbols.Sign s) ts us
past_is d s [] us e = absurd (cc)
past_is d s (t ∷ ts) us e = go (is_sign s (symbol_of d t)) refl e
  where
    go : (b : Bool) → is_sign s (symbol_of d t) ≡ b → cond b (Some ts) None ≡ Some us → Begins d (symbols.Sign s) (t ∷ ts) us
    go true h e = record { token = t; is = is_sign_is s (symbol_of d t) h; split = ap (λ (o : Option (List Token)). or_else o (λ x. t ∷ x) []) e }
    go false h e = absurd (cc)

pub is_name_is : (m : Symbol) → is_name m ≡ true → m ≡ symbols.Name
is_name_is symbols.Name e = refl
is_name_is _ e = absurd (cc)

pub name_is : (d : Dialect) (ts : List Token) (x : Token × List Token) → name_front d ts ≡ Some x → IsName d x.0 × (ts ≡ x.0 ∷ x.1)
name_is d [] x e = absurd (cc)
name_is d (t ∷ ts) x e = go (is_name (symbol_of d t)) refl e
  where
    go : (b : Bool) → is_name (symbol_of d t) ≡ b → cond b (Some (t, ts)) None ≡ Some x → IsName d x.0 × (t ∷ ts ≡ x.0 ∷ x.1)
    go true h e =
        let first : t ≡ x.0 = ap (λ (o : Option (Token × List Token)). or_else o (λ p. p.0) t) e in
        let rest : ts ≡ x.1 = ap (λ (o : Option (Token × List Token)). or_else o (λ p. p.1) ts) e in
        (sym (ap (symbol_of d) first) ∙ is_name_is (symbol_of d t) h, cc (first, rest))
    go false h e = absurd (cc)

pub record Constants (ts : List Token) (x : Tree × List Token) : Type 0 where
  pub token : Token
  pub is : constant_at token ≡ Some x.0
  pub split : ts ≡ token ∷ x.1

pub constant_is : (d : Dialect) (ts : List Token) (x : Tree × List Token) → constant_front ts ≡ Some x → Constants ts x
constant_is d [] x e = absurd (cc)
constant_is d (t ∷ ts) x e =
    let (c, ce, e1) = bind_some (constant_at t) _ _ e in
    let first : c ≡ x.0 = ap (λ (o : Option (Tree × List Token)). or_else o (λ p. p.0) c) e1 in
    let rest : ts ≡ x.1 = ap (λ (o : Option (Tree × List Token)). or_else o (λ p. p.1) ts) e1 in
    record { token = t; is = ce ∙ ap Some first; split = ap (λ r. t ∷ r) rest }

-- a first token of which a test is passed
pub front_is : {A : Type 0} (d : Dialect) (test : Symbol → Option A) (ts : List Token) (a : A) → test symbols.Other ≡ None → test (front d ts) ≡ Some a →
    (t : Token) × (test (symbol_of d t) ≡ Some a) × (ts ≡ t ∷ behind ts)
front_is d test [] a none e = absurd (cc)
front_is d test (t ∷ ts) a none e = (t, e, refl)

infix_of_is : (m : Symbol) (op : Infix) → infix_of m ≡ Some op → m ≡ symbols.Infix op
infix_of_is (symbols.Infix r) op e = ap (λ (o : Option Infix). or_else o symbols.Infix symbols.Other) e
infix_of_is _ op e = absurd (cc)

pub assignment_is : (m : Symbol) (op : Option BinOp) → assignment_of m ≡ Some op → m ≡ symbols.Assign op
assignment_is (symbols.Assign r) op e = ap (λ (o : Option (Option BinOp)). or_else o symbols.Assign symbols.Other) e
assignment_is _ op e = absurd (cc)

pub step_is : (m : Symbol) (up : Bool) → step_of m ≡ Some up → m ≡ symbols.Step up
step_is (symbols.Step r) up e = ap (λ (o : Option Bool). or_else o symbols.Step symbols.Other) e
step_is _ up e = absurd (cc)

tight_is : (l : ℕ) (o : Option Infix) (op : Infix) → tight_enough l o ≡ Some op → (o ≡ Some op) × (l ≤ level_of op)
tight_is l None op e = absurd (cc)
tight_is l (Some p) op e = go (nat_le l (level_of p)) refl e
  where
    go : (b : _) → nat_le l (level_of p) ≡ b → cond b (Some p) None ≡ Some op → (Some p ≡ Some op) × (l ≤ level_of op)
    go true t e = let h : p ≡ op = cc in (e, rw h at (leb-true l (level_of p) t))
    go false t e = absurd (cc)

pub record Operators (d : Dialect) (l : ℕ) (op : Infix) (ts : List Token) : Type 0 where
  pub token : Token
  pub is : symbol_of d token ≡ symbols.Infix op
  pub split : ts ≡ token ∷ behind ts
  pub tight : l ≤ level_of op

pub infix_is : (d : Dialect) (l : ℕ) (ts : List Token) (op : Infix) → infix_at d l ts ≡ Some op → Operators d l op ts
infix_is d l ts op e =
    let h = tight_is l (infix_of (front d ts)) op e in
    let (t, is, split) = front_is d infix_of ts op refl h.0 in
    record { token = t; is = infix_of_is (symbol_of d t) op is; split = split; tight = h.1 }

-- the name of a type is the same whatever stands behind it that goes on with none
pub record TypeNamed (d : Dialect) (ts : List Token) (ty : CType) (us : List Token) : Type 0 where
  pub words : List Token
  pub is : IsType d words ty
  pub split : ts ≡ words ++ us

qualifiers_split : (d : Dialect) (ts : List Token) → (w : List Token) × (ts ≡ w ++ past_qualifiers d ts) × (past_qualifiers d w ≡ [])
qualifiers_split d [] = ([], refl, refl)
qualifiers_split d (t ∷ ts) = go (qualifiers_split d ts) (is_qualifier (symbol_of d t)) refl
  where
    go : ((w : List Token) × (ts ≡ w ++ past_qualifiers d ts) × (past_qualifiers d w ≡ [])) → (b : Bool) → is_qualifier (symbol_of d t) ≡ b →
        (w : List Token) × (t ∷ ts ≡ w ++ cond b (past_qualifiers d ts) (t ∷ ts)) × (past_qualifiers d w ≡ [])
    go r true h = (t ∷ r.0, ap (λ x. t ∷ x) r.1, rw h r.2)
    go r false h = ([], refl, refl)

-- past qualifiers, and then something that is none
qualifiers_more : (d : Dialect) (w more : List Token) → past_qualifiers d w ≡ [] → is_qualifier (front d more) ≡ false → past_qualifiers d (w ++ more) ≡ more
qualifiers_more d [] [] e stop = refl
qualifiers_more d [] (t ∷ ts) e stop = rw stop refl
qualifiers_more d (t ∷ w) more e stop = go (λ f. qualifiers_more d w more f stop) (is_qualifier (symbol_of d t)) refl e
  where
    go : (past_qualifiers d w ≡ [] → past_qualifiers d (w ++ more) ≡ more) → (b : Bool) → is_qualifier (symbol_of d t) ≡ b →
        cond b (past_qualifiers d w) (t ∷ w) ≡ [] → cond b (past_qualifiers d (w ++ more)) (t ∷ (w ++ more)) ≡ more
    go r true h f = r f
    go r false h f = absurd (cc)

specify_none : (s r : Specifiers) (m : Symbol) → specify s m ≡ None → specify r m ≡ None
specify_none s r (symbols.Type w) e = absurd (cc)
specify_none s r symbols.Const e = absurd (cc)
specify_none s r _ e = refl

-- nothing here goes on with specifiers
abbrev pub NoSpecifier : Dialect → List Token → Type 0
NoSpecifier d ts = (s : Specifiers) → specify s (front d ts) ≡ None

record Split (d : Dialect) (s : Specifiers) (ts : List Token) : Type 0 where
  words : List Token
  split : ts ≡ words ++ (specifiers_front d s ts).1
  again : (more : List Token) → NoSpecifier d more → specifiers_front d s (words ++ more) ≡ ((specifiers_front d s ts).0, more)
  stop : NoSpecifier d (specifiers_front d s ts).1

pub specifiers_stop : (d : Dialect) (s : Specifiers) (more : List Token) → NoSpecifier d more → specifiers_front d s more ≡ (s, more)
specifiers_stop d s [] stop = refl
specifiers_stop d s (t ∷ ts) stop = rw (stop s) refl

specifiers_split : (d : Dialect) (s : Specifiers) (ts : List Token) → Split d s ts
specifiers_split d s [] = record { words = []; split = refl; again = λ more stop. specifiers_stop d s more stop; stop = λ r. refl }
specifiers_split d s (t ∷ ts) = go (λ r. specifiers_split d r ts) (specify s (symbol_of d t)) refl
  where
    go : ((r : Specifiers) → Split d r ts) → (o : Option Specifiers) → specify s (symbol_of d t) ≡ o → Split d s (t ∷ ts)
    go more_of (Some r) e =
        let h = more_of r in
        record {
          words = t ∷ h.words;
          split = rw e (ap (λ x. t ∷ x) h.split);
          again = λ more stop. rw e (h.again more stop);
          stop = rw e h.stop;
        }
    go more_of None e = record {
      words = [];
      split = rw e refl;
      again = λ more stop. rw e (specifiers_stop d s more stop);
      stop = rw e (λ r. specify_none s r (symbol_of d t) e);
    }

star_stops : (d : Dialect) (s : Specifiers) (m : Symbol) → is_star m ≡ true → specify s m ≡ None
star_stops d s (symbols.Infix op) e = refl
star_stops d s _ e = absurd (cc)

with_rest_is : {A : Type 0} (o : Option A) (ts : List Token) (x : A) (us : List Token) → with_rest o ts ≡ Some (x, us) → (o ≡ Some x) × (ts ≡ us)
with_rest_is {A} (Some y) ts x us e =
    (ap (λ (o : Option (A × List Token)). or_else o (λ p. Some p.0) (Some y)) e, ap (λ (o : Option (A × List Token)). or_else o (λ p. p.1) ts) e)
with_rest_is None ts x us e = absurd (cc)

-- which of the two forms a type's name has: with a `*`, and without
record Starred (d : Dialect) (r : Specifiers × List Token) (x : CType × List Token) : Type 0 where
  token : Token
  rest : List Token
  star : is_star (symbol_of d token) ≡ true
  split : r.1 ≡ token ∷ rest
  is : pointer_to (base_of r.0) r.0.constant ≡ Some x.0
  past : past_qualifiers d rest ≡ x.1

type_forms : (d : Dialect) (r : Specifiers × List Token) (x : CType × List Token) → type_behind d r ≡ Some x → Starred d r x ⊎ ((base_of r.0 ≡ Some x.0) × (r.1 ≡ x.1))
type_forms d (s, []) x e = inr (with_rest_is (base_of s) [] x.0 x.1 e)
type_forms d (s, t ∷ ts) x e = go (is_star (symbol_of d t)) refl e
  where
    go : (b : Bool) → is_star (symbol_of d t) ≡ b → cond b (with_rest (pointer_to (base_of s) s.constant) (past_qualifiers d ts)) (with_rest (base_of s) (t ∷ ts)) ≡ Some x →
        Starred d (s, t ∷ ts) x ⊎ ((base_of s ≡ Some x.0) × (t ∷ ts ≡ x.1))
    go true h f = let w = with_rest_is (pointer_to (base_of s) s.constant) (past_qualifiers d ts) x.0 x.1 f in inl (record { token = t; rest = ts; star = h; split = refl; is = w.0; past = w.1 })
    go false h f = inr (with_rest_is (base_of s) (t ∷ ts) x.0 x.1 f)

nothing_more : (w : List Token) → w ++ [] ≡ w
nothing_more [] = refl
nothing_more (t ∷ w) = ap (λ x. t ∷ x) (nothing_more w)

joined : (u v w : List Token) → (u ++ v) ++ w ≡ u ++ (v ++ w)
joined [] v w = refl
joined (t ∷ u) v w = ap (λ x. t ∷ x) (joined u v w)

-- the tokens of a type's name in front
pub type_is : (d : Dialect) (ts : List Token) (x : CType × List Token) → type_front d ts ≡ Some x → TypeNamed d ts x.0 x.1
unfolding type_front
type_is d ts x e =
    let r : Specifiers × List Token = specifiers_front d no_specifiers ts in
    let h = specifiers_split d no_specifiers ts in
    elim (type_forms d r x e) [
      | inl f ↦
          let q = qualifiers_split d f.rest in
          let read = h.again (f.token ∷ q.0) (λ s. star_stops d s (symbol_of d f.token) f.star) in
          record {
            words = h.words ++ (f.token ∷ q.0);
            is = rw (read, f.star, q.2, f.is) refl;
            split = h.split ∙ ap (λ y. h.words ++ y) (f.split ∙ ap (λ y. f.token ∷ y) (q.1 ∙ ap (λ y. q.0 ++ y) f.past)) ∙ sym (joined h.words (f.token ∷ q.0) x.1);
          }
      | inr f ↦
          let read = h.again [] (λ s. refl) in
          record {
            words = h.words;
            is = ap (λ w. type_behind d (specifiers_front d no_specifiers w)) (sym (nothing_more h.words)) ∙ rw (read, f.0) refl;
            split = h.split ∙ ap (λ y. h.words ++ y) f.1;
          }
    ]

-- the name of a type with a bracket behind it is read
pub type_read : (d : Dialect) (words : List Token) (ty : CType) (c : Token) (rest : List Token) → IsType d words ty → Is d Close c → type_front d (words ++ c ∷ rest) ≡ Some (ty, c ∷ rest)
unfolding type_front
type_read d words ty c rest is close =
    let r : Specifiers × List Token = specifiers_front d no_specifiers words in
    let h = specifiers_split d no_specifiers words in
    elim (type_forms d r (ty, []) is) [
      | inl f ↦
          let whole : words ++ (c ∷ rest) ≡ h.words ++ (f.token ∷ (f.rest ++ c ∷ rest)) =
          ap (λ y. y ++ (c ∷ rest)) (h.split ∙ ap (λ y. h.words ++ y) f.split) ∙ joined h.words (f.token ∷ f.rest) (c ∷ rest) in
          let read = h.again (f.token ∷ (f.rest ++ c ∷ rest)) (λ s. star_stops d s (symbol_of d f.token) f.star) in
          let past = qualifiers_more d f.rest (c ∷ rest) f.past (rw close refl) in
          ap (λ w. type_behind d (specifiers_front d no_specifiers w)) whole ∙ rw (read, f.star, past, f.is) refl
      | inr f ↦
          let whole : words ++ (c ∷ rest) ≡ h.words ++ (c ∷ rest) =
          ap (λ y. y ++ (c ∷ rest)) (h.split ∙ ap (λ y. h.words ++ y) f.1 ∙ nothing_more h.words) in
          let read = h.again (c ∷ rest) (λ s. rw close refl) in
          ap (λ w. type_behind d (specifiers_front d no_specifiers w)) whole ∙ rw (read, close, f.0) refl
    ]

without_is : (d : Dialect) (s : Sign) (ts us : List Token) → without d s ts ≡ Some us → ts ≡ us
without_is d s ts us e = go (is_sign s (front d ts)) e
  where
    go : (b : Bool) → cond b None (Some ts) ≡ Some us → ts ≡ us
    go true e = absurd (cc)
    go false e = ap (λ (o : Option (List Token)). or_else o (λ x. x) ts) e

-- a type in brackets
pub record Casts (d : Dialect) (ts : List Token) (x : CType × List Token) : Type 0 where
  pub open' : Token
  pub words : List Token
  pub close : Token
  pub is_open : Is d Open open'
  pub is_type : IsType d words x.0
  pub is_close : Is d Close close
  pub split : ts ≡ open' ∷ (words ++ close ∷ x.1)

pub cast_is : (d : Dialect) (ts : List Token) (x : CType × List Token) → cast_front d ts ≡ Some x → Casts d ts x
cast_is d ts x e =
    let (us, p, e1) = bind_some (past d Open ts) _ _ e in
    let (ty, q, e2) = bind_some (type_front d us) _ _ e1 in
    let (vs, r, e3) = bind_some (past d Close ty.1) _ _ e2 in
    let (ws, z, e4) = bind_some (without d OpenBrace vs) _ _ e3 in
    let open' = past_is d Open ts us p in
    let name = type_is d us ty q in
    let close = past_is d Close ty.1 vs r in
    let which : ty.0 ≡ x.0 = ap (λ (o : Option (CType × List Token)). or_else o (λ y. y.0) ty.0) e4 in
    let after : ws ≡ x.1 = ap (λ (o : Option (CType × List Token)). or_else o (λ y. y.1) ws) e4 in
    record {
      open' = open'.token;
      words = name.words;
      close = close.token;
      is_open = open'.is;
      is_type = name.is ∙ ap (λ t. Some (t, [])) which;
      is_close = close.is;
      split = open'.split ∙ ap (λ y. open'.token ∷ y) (name.split ∙ ap (λ y. name.words ++ y) (close.split ∙ ap (λ y. close.token ∷ y) (without_is d OpenBrace vs ws z ∙ after)));
    }

is_pair_is : (m : Symbol) → is_pair m ≡ true → m ≡ symbols.Type (words.Whole ctypes.Pair)
is_pair_is (symbols.Type (words.Whole ctypes.Pair)) e = refl
is_pair_is _ e = absurd (cc)

-- the type of pairs in brackets, and a brace
pub record Pairs (d : Dialect) (ts us : List Token) : Type 0 where
  pub open' : Token
  pub word : Token
  pub close : Token
  pub brace : Token
  pub is_open : Is d Open open'
  pub is_word : IsPair d word
  pub is_close : Is d Close close
  pub is_brace : Is d OpenBrace brace
  pub split : ts ≡ open' ∷ word ∷ close ∷ brace ∷ us

past_pair_is : (d : Dialect) (ts us : List Token) → past_pair d ts ≡ Some us → (t : Token) × IsPair d t × (ts ≡ t ∷ us)
past_pair_is d [] us e = absurd (cc)
past_pair_is d (t ∷ ts) us e = go (is_pair (symbol_of d t)) refl e
  where
    go : (b : Bool) → is_pair (symbol_of d t) ≡ b → cond b (Some ts) None ≡ Some us → (x : Token) × IsPair d x × (t ∷ ts ≡ x ∷ us)
    go true h e = (t, is_pair_is (symbol_of d t) h, ap (λ (o : Option (List Token)). or_else o (λ x. t ∷ x) []) e)
    go false h e = absurd (cc)

pub pair_is : (d : Dialect) (ts us : List Token) → pair_front d ts ≡ Some us → Pairs d ts us
pair_is d ts us e =
    let (vs, p, e1) = bind_some (past d Open ts) _ _ e in
    let (ws, q, e2) = bind_some (past_pair d vs) _ _ e1 in
    let (xs, r, e3) = bind_some (past d Close ws) _ _ e2 in
    let open' = past_is d Open ts vs p in
    let (word, is_word, split) = past_pair_is d vs ws q in
    let close = past_is d Close ws xs r in
    let brace = past_is d OpenBrace xs us e3 in
    record {
      open' = open'.token;
      word = word;
      close = close.token;
      brace = brace.token;
      is_open = open'.is;
      is_word = is_word;
      is_close = close.is;
      is_brace = brace.is;
      split = open'.split ∙ ap (λ y. open'.token ∷ y) (split ∙ ap (λ y. word ∷ y) (close.split ∙ ap (λ y. close.token ∷ y) brace.split));
    }

-- the type of pairs in brackets is a type's name
pub pair_type : (d : Dialect) (w c : Token) (ts : List Token) → IsPair d w → Is d Close c → type_front d (w ∷ c ∷ ts) ≡ Some (ctypes.Pair, c ∷ ts)
unfolding type_front
pair_type d w c ts f g = rw (f, g, g) refl

-- what begins with no specifier begins with no pair's type
pub no_pair : (d : Dialect) (ts : List Token) → NoSpecifier d ts → past_pair d ts ≡ None
no_pair d ts stop = go (is_pair (front d ts)) refl
  where
    go : (b : Bool) → is_pair (front d ts) ≡ b → past_pair d ts ≡ None
    go true h =
        let is : front d ts ≡ symbols.Type (words.Whole ctypes.Pair) = is_pair_is (front d ts) h in
        let none = rw is at (stop no_specifiers) in
        absurd (cc)
    go false h = rw h refl

neon_is : (d : Dialect) → is_neon d ≡ true → d ≡ Neon
neon_is X86 e = absurd (cc)
neon_is Neon e = refl

-- the name `val`, in the Neon dialect
record Vals (d : Dialect) (ts us : List Token) : Type 0 where
  token : Token
  neon : d ≡ Neon
  is : IsName d token
  text : token.text ≡ codes "val"
  split : ts ≡ token ∷ us

val_is : (d : Dialect) (ts us : List Token) → past_val d ts ≡ Some us → Vals d ts us
val_is d ts us e =
    let (x, xe, e1) = bind_some (name_front d ts) _ _ e in
    let name = name_is d ts x xe in
    go x name.0 name.1 (is_neon d) (bytes_eq x.0.text (codes "val")) refl refl e1
  where
    go : (x : Token × List Token) → IsName d x.0 → ts ≡ x.0 ∷ x.1 → (n b : Bool) → is_neon d ≡ n → bytes_eq x.0.text (codes "val") ≡ b → cond (n && b) (Some x.1) None ≡ Some us → Vals d ts us
    go x is split true true n b e = record {
      token = x.0;
      neon = neon_is d n;
      is = is;
      text = (bytes_decides x.0.text (codes "val")).0 b;
      split = split ∙ ap (λ (o : Option (List Token)). or_else o (λ y. x.0 ∷ y) []) e;
    }
    go x is split true false n b e = absurd (cc)
    go x is split false b n c e = absurd (cc)

which_is : (ts : List Token) (x : ℕ × List Token) → which_front ts ≡ Some x → (t : Token) × (half_of t ≡ Some x.0) × (ts ≡ t ∷ x.1)
which_is [] x e = absurd (cc)
which_is (t ∷ ts) x e =
    let (k, ke, e1) = bind_some (half_of t) _ _ e in
    let first : k ≡ x.0 = ap (λ (o : Option (ℕ × List Token)). or_else o (λ p. p.0) k) e1 in
    let rest : ts ≡ x.1 = ap (λ (o : Option (ℕ × List Token)). or_else o (λ p. p.1) ts) e1 in
    (t, ke ∙ ap Some first, ap (λ r. t ∷ r) rest)

-- which half is named
pub record Halves (d : Dialect) (ts : List Token) (x : ℕ × List Token) : Type 0 where
  pub dot : Token
  pub val : Token
  pub square : Token
  pub number : Token
  pub close : Token
  pub neon : d ≡ Neon
  pub is_dot : Is d Dot dot
  pub is_val : IsName d val
  pub text : val.text ≡ codes "val"
  pub is_square : Is d OpenSquare square
  pub which : half_of number ≡ Some x.0
  pub is_close : Is d CloseSquare close
  pub split : ts ≡ dot ∷ val ∷ square ∷ number ∷ close ∷ x.1

pub half_is : (d : Dialect) (ts : List Token) (x : ℕ × List Token) → half_front d ts ≡ Some x → Halves d ts x
half_is d ts x e =
    let (us, p, e1) = bind_some (past d Dot ts) _ _ e in
    let (vs, q, e2) = bind_some (past_val d us) _ _ e1 in
    let (ws, r, e3) = bind_some (past d OpenSquare vs) _ _ e2 in
    let (k, ke, e4) = bind_some (which_front ws) _ _ e3 in
    let (xs, z, e5) = bind_some (past d CloseSquare k.1) _ _ e4 in
    let dot = past_is d Dot ts us p in
    let val = val_is d us vs q in
    let square = past_is d OpenSquare vs ws r in
    let (number, which, split) = which_is ws k ke in
    let close = past_is d CloseSquare k.1 xs z in
    let same : k.0 ≡ x.0 = ap (λ (o : Option (ℕ × List Token)). or_else o (λ y. y.0) k.0) e5 in
    let after : xs ≡ x.1 = ap (λ (o : Option (ℕ × List Token)). or_else o (λ y. y.1) xs) e5 in
    record {
      dot = dot.token;
      val = val.token;
      square = square.token;
      number = number;
      close = close.token;
      neon = val.neon;
      is_dot = dot.is;
      is_val = val.is;
      text = val.text;
      is_square = square.is;
      which = which ∙ ap Some same;
      is_close = close.is;
      split = dot.split ∙ ap (λ y. dot.token ∷ y) (val.split ∙ ap (λ y. val.token ∷ y) (square.split ∙ ap (λ y. square.token ∷ y) (split ∙ ap (λ y. number ∷ y) (close.split ∙ ap (λ y. close.token ∷ y) after))));
    }

pub half_behind_is : (d : Dialect) (c : Option (Tree × List Token)) (ts : List Token) (x : ℕ × List Token) → half_behind d c ts ≡ Some x → (c ≡ None) × (half_front d ts ≡ Some x)
half_behind_is d (Some c) ts x e = absurd (cc)
half_behind_is d None ts x e = (refl, e)
