-- Expressions with the same text are the same, and so alignments are that have the same text.
use Rattle.std.proofs.Common.{◌≡◌, ℕ, List, [], ◌∷◌, ◌++◌, map, Bool, true, false, Option, Some, None, refl, sym, ◌∙◌, ap, subst, arith}
use Rattle.std.proofs.lemmas.List.{append_cancel_left, append_cancel_right}
use Rattle.c_text.proofs.Scans.{both}
use Rattle.c_tree.specs.declared.types.CType.{CType}
use Rattle.std.proofs.lemmas.Slice.Eq.{bytes_eq-Decides}
use Rattle.std.specs.Prelude.{codes, option_map, bytes_eq}
use Rattle.c_text.specs.declared.tokens.Dialect.TheVariants.{Neon}
use Rattle.c_text.specs.declared.tokens.Token.{Token}
use Rattle.c_text.specs.declared.tokens.TokenKind.TheVariants as kinds
use Rattle.c_text.specs.Source.{shown}
use Rattle.c_text.specs.Tokens.{tokens_of}
use Rattle.c_text.proofs.Cuts.{one_cut}
use Rattle.c_tree.specs.Same.{stripped}
use Rattle.c_tree.specs.Tree.{Tree, Object}
use Rattle.c_print.specs.Expressions.{part}
use Rattle.c_print.specs.Declarations.{attribute_opening, attribute_text, have_alignment}
use Rattle.c_parse.specs.Grammar.{End, spell, tree, Expression}
use Rattle.c_parse.proofs.Spelling.{spell_more}
use Rattle.c_parse.proofs.Whole.{one_expression}
use Rattle.round_trip.specs.Words.{Bit, bits_text, words_of, said}
use Rattle.round_trip.specs.Unlimited.{UnlimitedTokens}
use Rattle.round_trip.specs.Good.{Good}
use Rattle.round_trip.specs.GoodUnits.{GoodPart, GoodOthers, GoodDeclaration}
use Rattle.round_trip.proofs.Whole.{words_again}
use Rattle.round_trip.proofs.Bits.{mark, part_bits, part_says}
use Rattle.round_trip.proofs.Cuts.{part_cuts, semicolon_at}
use Rattle.round_trip.proofs.Tokens.{Next, next}
use Rattle.round_trip.proofs.ExpressionsRead.{Read, looser, part_read}
use Rattle.round_trip.proofs.Plain.{part_plain, plain_words}
use Rattle.round_trip.proofs.SpecifiersRead.{AllAligned, AlignedTogether}

-- a text has one list of tokens at most
pub same_tokens : (text : List ℕ) (ts us : List Token) → UnlimitedTokens text ts → UnlimitedTokens text us → ts ≡ us
unfolding UnlimitedTokens
same_tokens text ts us (ps, cut, none, is) (qs, cut', none', is') = is ∙ ap (tokens_of false true) (one_cut (shown text) ps qs cut cut') ∙ sym is'

-- an expression of a level of its own, in front of a `;`
abbrev alone_bits : Tree → List Bit
alone_bits e = part_bits 2 e (mark (codes ";") [])

record Alone (e : Tree) (ts : List Token) : Type 0 where
  pub words : List Token
  pub last : Token
  pub made : Tree
  pub is : Expression Neon words made
  pub same : stripped made ≡ stripped e
  pub split : ts ≡ words ++ last ∷ []

no_more : (ts : List Token) → map said ts ≡ [] → ts ≡ []
no_more [] e = refl
no_more (t ∷ ts) e = absurd (cc)

alone_of : (e : Tree) (ts : List Token) (r : Read 2 (stripped e) ts (mark (codes ";") [])) (n : Next kinds.Mark (codes ";") r.rest []) → Alone e ts
alone_of e ts r n = record {
  words = spell r.written [];
  last = n.token;
  made = tree r.written;
  is = record { first = r.written; others = End; fits = (looser 2 1 r.written (omega arith) r.fits, tt); spelled = refl; means = refl };
  same = r.means;
  split = r.split ∙ ap (spell r.written) (n.split ∙ ap (λ u. n.token ∷ u) (no_more n.rest n.left)) ∙ sym (spell_more r.written [] (n.token ∷ []));
}

alone_read : (e : Tree) (ts : List Token) → Good e → map said ts ≡ words_of (alone_bits e) → Alone e ts
alone_read e ts g q = let r = part_read 2 e (mark (codes ";") []) ts (omega arith) g q in alone_of e ts r (next kinds.Mark (codes ";") r.rest [] r.left)

last_off : (xs ys : List Token) (x y : Token) → xs ++ x ∷ [] ≡ ys ++ y ∷ [] → xs ≡ ys
last_off [] [] x y e = refl
last_off [] (b ∷ []) x y e = absurd (cc)
last_off [] (b ∷ c ∷ ys) x y e = absurd (cc)
last_off (a ∷ []) [] x y e = absurd (cc)
last_off (a ∷ b ∷ xs) [] x y e = absurd (cc)
last_off (a ∷ xs) (b ∷ ys) x y e = let first : a ≡ b = cc in let others : xs ++ x ∷ [] ≡ ys ++ y ∷ [] = cc in rw (first, last_off xs ys x y others) refl

one_alone : (a b : Tree) (ts : List Token) → Alone a ts → Alone b ts → stripped a ≡ stripped b
one_alone a b ts x y =
    let same_words : x.words ≡ y.words = last_off x.words y.words x.last y.last (sym x.split ∙ y.split) in
    sym x.same ∙ ap stripped (one_expression Neon y.words x.made y.made (subst (λ w. Expression Neon w x.made) same_words x.is) y.is) ∙ y.same

alone_again : (e : Tree) → Good e → (ts : List Token) × UnlimitedTokens (bits_text (alone_bits e) []) ts × (map said ts ≡ words_of (alone_bits e))
alone_again e g = words_again (alone_bits e) (part_cuts 2 e (mark (codes ";") []) g (semicolon_at [], tt) refl) (plain_words (alone_bits e) (part_plain 2 e (mark (codes ";") []) g refl))

pub same_text : (a b : Tree) → Good a → Good b → part 2 a ≡ part 2 b → stripped a ≡ stripped b
same_text a b ga gb e =
    let text : bits_text (alone_bits a) [] ≡ bits_text (alone_bits b) [] = part_says 2 a (mark (codes ";") []) ∙ ap (λ t. t ++ codes ";") e ∙ sym (part_says 2 b (mark (codes ";") [])) in
    go text (alone_again a ga) (alone_again b gb)
  where
    go : bits_text (alone_bits a) [] ≡ bits_text (alone_bits b) [] → (ts : List Token) × UnlimitedTokens (bits_text (alone_bits a) []) ts × (map said ts ≡ words_of (alone_bits a)) →
        (us : List Token) × UnlimitedTokens (bits_text (alone_bits b) []) us × (map said us ≡ words_of (alone_bits b)) → stripped a ≡ stripped b
    go text (ts, h, q) (us, k, r) =
        let same : us ≡ ts = same_tokens (bits_text (alone_bits a) []) us ts (subst (λ t. UnlimitedTokens t us) (sym text) k) h in
        one_alone a b ts (alone_read a ts ga q) (alone_read b ts gb (rw (← same) r))

-- alignments
same_alignment : (a b : Option Tree) → GoodPart a → GoodPart b → attribute_text a ≡ attribute_text b → option_map stripped a ≡ option_map stripped b
unfolding attribute_opening
same_alignment None None ga gb e = refl
same_alignment None (Some b) ga gb e = absurd (cc)
same_alignment (Some a) None ga gb e = absurd (cc)
same_alignment (Some a) (Some b) ga gb e = ap Some (same_text a b ga gb (append_cancel_right (part 2 a) (part 2 b) (codes ")))") (append_cancel_left attribute_opening (part 2 a ++ codes ")))") (part 2 b ++ codes ")))") e)))

same_bytes : (xs ys : List ℕ) → bytes_eq xs ys ≡ true → xs ≡ ys
same_bytes xs ys h = (bytes_eq-Decides xs ys).0 h

all_alike : (t : CType) (constant : Bool) (align : Option Tree) (ds : List Object) → GoodPart align → GoodOthers t constant ds → have_alignment (attribute_text align) ds ≡ true → AllAligned align ds
all_alike t constant align [] a g h = tt
all_alike t constant align (d ∷ ds) a g h =
    let parts = both (bytes_eq (attribute_text d.align) (attribute_text align)) (have_alignment (attribute_text align) ds) h in
    (same_alignment d.align align g.0.align a (same_bytes (attribute_text d.align) (attribute_text align) parts.0), all_alike t constant align ds a g.3 parts.1)

-- objects that share an alignment by its text have the same
pub alike : (ds : List Object) → GoodDeclaration ds → AlignedTogether ds
alike [] g = tt
alike (d ∷ ds) g = λ h. all_alike _ _ d.align ds g.0.align g.1 h
