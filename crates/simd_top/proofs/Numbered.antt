-- Refusals have numbers from 1 to 22.
use Rattle.std.proofs.Common.{◌≡◌, ℕ, ◌≤◌, List, [], ◌∷◌, ◌++◌, length, drop, Bool, true, false, cond, not, Option, Some, None, refl, subst, arith, inl, inr}
use Rattle.std.specs.Prelude.{nat_lt, nat_le, codes, ◌==◌, ◌||◌}
use Rattle.std.proofs.lemmas.Bool.Decides.{nat_tests}
use Rattle.std.proofs.lemmas.Bool.{eqb-true}
use Rattle.c_text.specs.declared.tokens.Dialect.{Dialect}
use Rattle.c_text.specs.declared.tokens.Place.{Place}
use Rattle.c_text.specs.declared.tokens.Token.{Token}
use Rattle.c_text.specs.declared.tokens.TokenKind.{TokenKind}
use Rattle.c_text.specs.declared.tokens.TokenKind.TheVariants as kinds
use Rattle.c_text.specs.declared.source.Placed.{Placed}
use Rattle.c_text.specs.declared.pieces.Sort.{Sort}
use Rattle.c_text.specs.declared.pieces.Sort.TheVariants as sorts
use Rattle.c_text.specs.Forms.{is_bad}
use Rattle.c_text.specs.declared.refusals.Refusal.{Refusal}
use Rattle.c_text.specs.Tokens.{Piece, bytes_in, bad_bytes, bad_byte, long_name, long_names, faults_in, faults_of, first_of, FirstFault}
use Rattle.c_tree.specs.Tree.{External}
use Rattle.c_constants.specs.Constant.{is_c_token}
use Rattle.c_macros.specs.Expansion as macros
use Rattle.c_macros.specs.Numbers.{is_macro_number}
use Rattle.c_directives.specs.Definitions.{bad_directive}
use Rattle.c_directives.specs.Headers.{unknown_header}
use Rattle.c_directives.specs.Directives.{open_condition}
use Rattle.c_directives.specs.Numbers.{is_expansion_number, ExpansionNumbers}
use Rattle.c_preproc.specs.ExcludedWord.{is_excluded}
use Rattle.c_preproc.specs.Role.{next_role}
use Rattle.c_preproc.specs.Nesting.{contexts_behind, is_too_deep, limits_of}
use Rattle.c_preproc.specs.Scan.{bad_token, outside_profile, too_deep, refusal_at, earlier, first_refusal_behind, first_refusal}
use Rattle.c_text.specs.Details.{refusal_of}
use Rattle.c_parse.specs.Limits.{syntax_at, end_place, too_many, Refused}
use Rattle.simd_top.specs.Form.{is_item, item_name, first_outside, outside}
use Rattle.simd_top.specs.Source.{AreRefused, Scanned, Parsed, IsUnparsed, Lexed, Expanded, Behind, AreFirst, Alone, Checked}
use Rattle.simd_top.specs.Refusals.{at_the_start, IsRefusedUnit, Outside, Nameless, Unfit, OutsideBoth, NamelessBoth, UnfitBoth, IsRefused, TooLong, First, Beyond, AreNumbered, AreLines}
use Rattle.simd_top.specs.TopCall.{Refuses}
use Rattle.simd_top.specs.Words.{Command, dialect_of}
use Rattle.simd_top.proofs.Conjunction.{split_and}
use Rattle.simd_top.proofs.Numbers.{is_known, AllKnown, unit_known}

-- a refusal that may be there
abbrev MaybeKnown : Option Refusal → Type 0
MaybeKnown None = Unit {0}
MaybeKnown (Some r) = is_known r.number ≡ true

known_if : (b : Bool) (o p : Option Refusal) → MaybeKnown o → MaybeKnown p → MaybeKnown (cond b o p)
known_if true o p h k = h
known_if false o p h k = k

of_some : (o : Option Refusal) (r : Refusal) → MaybeKnown o → o ≡ Some r → is_known r.number ≡ true
of_some None r h e = absurd (cc)
of_some (Some q) r h e = let same : q ≡ r = cc in subst (λ x. is_known x.number ≡ true) same h

-- ---- the lexer

both_known : (rs qs : List Refusal) → AllKnown rs → AllKnown qs → AllKnown (rs ++ qs)
both_known [] qs h k = k
both_known (r ∷ rs) qs h k = (h.0, both_known rs qs h.1 k)

bytes_known : (cs : List Placed) → AllKnown (bad_bytes cs)
bytes_known [] = tt
bytes_known (c ∷ cs) = go (is_bad c.byte) (bytes_known cs)
  where
    go : (v : Bool) → AllKnown (bad_bytes cs) → AllKnown (cond v (bad_byte c ∷ bad_bytes cs) (bad_bytes cs))
    go true rest = (refl, rest)
    go false rest = rest

names_known : (kind : TokenKind) (c : Placed) (bytes : List ℕ) → AllKnown (long_names (sorts.Lexeme kind) c bytes)
names_known kinds.Name c bytes = go (nat_lt 255 (length bytes))
  where
    go : (v : Bool) → AllKnown (cond v (long_name c bytes ∷ []) [])
    go true = (refl, tt)
    go false = tt
names_known kinds.Number c bytes = tt
names_known kinds.Quote c bytes = tt
names_known kinds.Str c bytes = tt
names_known kinds.Mark c bytes = tt
names_known kinds.Lone c bytes = tt

piece_known : (s : Sort) (p : Piece) → AllKnown (faults_in s p)
piece_known (sorts.Lexeme kind) p = both_known (bad_bytes (p.begin ∷ p.others)) (long_names (sorts.Lexeme kind) p.begin (bytes_in p)) (bytes_known (p.begin ∷ p.others)) (names_known kind p.begin (bytes_in p))
piece_known sorts.Blank p = both_known (bad_bytes (p.begin ∷ p.others)) [] (bytes_known (p.begin ∷ p.others)) tt
piece_known sorts.LineEnd p = both_known (bad_bytes (p.begin ∷ p.others)) [] (bytes_known (p.begin ∷ p.others)) tt
piece_known sorts.Bad p = both_known (bad_bytes (p.begin ∷ p.others)) [] (bytes_known (p.begin ∷ p.others)) tt
piece_known sorts.Comment p = tt
piece_known sorts.Open p = (refl, tt)

pieces_known : (ps : List Piece) → AllKnown (faults_of ps)
pieces_known [] = tt
pieces_known (p ∷ ps) = both_known (faults_in p.sort p) (faults_of ps) (piece_known p.sort p) (pieces_known ps)

first_known : (rs : List Refusal) (r : Refusal) → AllKnown rs → first_of rs ≡ Some r → is_known r.number ≡ true
first_known [] r h e = absurd (cc)
first_known (q ∷ rs) r h e = let same : q ≡ r = cc in subst (λ x. is_known x.number ≡ true) same h.0

lexed_known : (source : List ℕ) (r : Refusal) → FirstFault source r → is_known r.number ≡ true
unfolding FirstFault
lexed_known source r (ps, cut, first) = first_known (faults_of ps) r (pieces_known ps) first

-- ---- the scan

one_of_three : (a b c : Bool) (t : Token) → MaybeKnown (cond a (Some (refusal_of bad_token t)) (cond b (Some (refusal_of outside_profile t)) (cond c (Some (refusal_of too_deep t)) None)))
one_of_three true b c t = refl
one_of_three false true c t = refl
one_of_three false false true t = refl
one_of_three false false false t = tt

at_known : (x : Dialect) (before : List Token) (t : Token) (after : List Token) → MaybeKnown (refusal_at x before t after)
unfolding refusal_at
at_known x before t after = one_of_three (not (is_c_token t.kind t.text)) (is_excluded x t.kind t.text) (is_too_deep (limits_of x) (contexts_behind (t ∷ before) (next_role after))) t

earlier_known : (o p : Option Refusal) → MaybeKnown o → MaybeKnown p → MaybeKnown (earlier o p)
earlier_known None p h k = k
earlier_known (Some r) p h k = h

behind_known : (x : Dialect) (before ts : List Token) → MaybeKnown (first_refusal_behind x before ts)
behind_known x before [] = tt
behind_known x before (t ∷ after) = earlier_known (refusal_at x before t after) (first_refusal_behind x (t ∷ before) after) (at_known x before t after) (behind_known x (t ∷ before) after)

scanned_known : (x : Dialect) (ts : List Token) → MaybeKnown (first_refusal x ts)
unfolding first_refusal
scanned_known x ts = behind_known x [] ts

-- ---- the phases

syntax_known : (end : Place) (ts : List Token) → is_known (syntax_at end ts).number ≡ true
syntax_known end [] = refl
syntax_known end (t ∷ ts) = refl

same_known : (r q : Refusal) → r ≡ q → is_known q.number ≡ true → is_known r.number ≡ true
same_known r q e h = rw e h

parsed_known : (x : Dialect) (ts : List Token) (r : Refusal) → Refused x ts r → is_known r.number ≡ true
parsed_known x ts r (inl none) = same_known r (syntax_at (end_place ts) (drop none.before ts)) none.shows (syntax_known (end_place ts) (drop none.before ts))
parsed_known x ts r (inr many) = same_known r (too_many many.function) many.shows refl

tokens_known : (x : Dialect) (left : List Token) (r : Refusal) → AreRefused x left r → is_known r.number ≡ true
tokens_known x left r (Scanned e) = of_some (first_refusal x left) r (scanned_known x left) e
tokens_known x left r (Parsed s refused) = parsed_known x left r refused

-- ---- the expansion

among : (n m : ℕ) (rest : Bool) → is_known m ≡ true → (rest ≡ true → is_known n ≡ true) → ((n == m) || rest) ≡ true → is_known n ≡ true
among n m rest k other h = go (n == m) refl h
  where
    go : (v : Bool) → (n == m) ≡ v → (v || rest) ≡ true → is_known n ≡ true
    go true e h = rw (eqb-true n m e) k
    go false e h = other h

macros_known : (n : ℕ) → is_macro_number n ≡ true → is_known n ≡ true
macros_known n h = among n macros.bad_macro _ refl (among n macros.too_deep _ refl (λ e. rw (eqb-true n macros.too_many e) refl)) h

expansion_known : (n : ℕ) → is_expansion_number n ≡ true → is_known n ≡ true
expansion_known n h = go (is_macro_number n) refl h
  where
    go : (v : Bool) → is_macro_number n ≡ v → (v || (n == bad_directive || (n == unknown_header || n == open_condition))) ≡ true → is_known n ≡ true
    go true e h = macros_known n e
    go false e h = among n bad_directive _ refl (among n unknown_header _ refl (λ e. rw (eqb-true n open_condition e) refl)) h

module _ (law : ExpansionNumbers) where
  unparsed_known : (x : Dialect) (source : List ℕ) (r : Refusal) → IsUnparsed x source r → is_known r.number ≡ true
  unparsed_known x source r (Lexed f) = lexed_known source r f
  unparsed_known x source r (Expanded ts t e) = expansion_known r.number (law x ts r e)
  unparsed_known x source r (Behind left has refused) = tokens_known x left r refused

  first_list : (x : Dialect) (source : List ℕ) (list : List Refusal) → AreFirst x source list → AllKnown list
  first_list x source list (Alone r is e) = rw e (unparsed_known x source r is, tt)
  first_list x source list (Checked u is e) = unit_known x u list e

outside_known : (seen : List (List ℕ)) (us : List External) → MaybeKnown (first_outside seen us)
outside_known seen [] = tt
outside_known seen (u ∷ us) = known_if (is_item seen u) (first_outside (seen ++ item_name u ∷ []) us) (Some (outside u)) (outside_known (seen ++ item_name u ∷ []) us) refl

beyond_known : (c : Command) (unit : List External) (r : Refusal) → IsRefusedUnit c unit r → is_known r.number ≡ true
beyond_known c unit r (Outside u q e) = of_some (first_outside [] u) q (outside_known [] u) e
beyond_known c unit r (Nameless name turns items u e) = refl
beyond_known c unit r (Unfit name turns items u e) = refl
beyond_known c unit r (OutsideBoth name turns items u q e) = of_some (first_outside [] u) q (outside_known [] u) e
beyond_known c unit r (NamelessBoth name turns items u h e) = refl
beyond_known c unit r (UnfitBoth name turns items u h e) = refl

-- ---- the lines

in_range : (n : ℕ) → is_known n ≡ true → (1 ≤ n) × (n ≤ 22)
in_range n h =
    let a = split_and (nat_le 1 n) (nat_le n 22) h in
    (grind (arith, nat_tests, a.0), grind (arith, nat_tests, a.1))

numbered : (list : List Refusal) → AllKnown list → AreNumbered list
numbered [] h = tt
numbered (r ∷ rest) h = let range = in_range r.number h.0 in (range.0, range.1, numbered rest h.1)

lines_numbered : ExpansionNumbers → (c : Command) (source lines : List ℕ) → IsRefused c source lines → AreLines lines
lines_numbered law c source lines (TooLong long is) = (at_the_start 1 (codes "source") ∷ [], is, numbered (at_the_start 1 (codes "source") ∷ []) (refl, tt))
lines_numbered law c source lines (First within list first is) = (list, is, numbered list (first_list law (dialect_of c) source list first))
lines_numbered law c source lines (Beyond within unit has r refused is) = (r ∷ [], is, numbered (r ∷ []) (beyond_known c unit r refused, tt))

pub refuses_lines : ExpansionNumbers → (c : Command) (before : Option (List ℕ)) (lines : List ℕ) → Refuses c before lines → AreLines lines
refuses_lines law c None lines (source, is) = lines_numbered law c source lines is
refuses_lines law c (Some source) lines is = lines_numbered law c source lines is
