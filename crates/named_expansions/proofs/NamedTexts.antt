-- The names among the tokens that directives leave (C11 6.10): each comes from the text or from a body that is defined in it or before it.
use Rattle.std.proofs.Common.{◌≡◌, refl, subst, ℕ, zero, suc, Bool, true, false, cond, not, ◌&&◌, ◌||◌, List, [], ◌∷◌, length, drop, map, Option, Some, None, Result, Ok, Err, slice_get}
use Rattle.std.specs.Prelude.{bytes_eq, codes}
use Rattle.std.specs.List.{list_any}
use Rattle.c_text.specs.declared.tokens.Dialect.{Dialect}
use Rattle.c_text.specs.declared.tokens.Dialect.TheVariants.{X86, Neon}
use Rattle.c_text.specs.declared.tokens.Token.{Token}
use Rattle.c_text.specs.declared.refusals.Refusal.{Refusal}
use Rattle.c_text.specs.Details.{refusal_of}
use Rattle.c_text.specs.Forms.{is_name}
use Rattle.c_text.specs.PredefinedNames.{Macro, predefined_names}
use Rattle.c_text.specs.Tokens.{AllNamed}
use Rattle.c_macros.specs.Definition.{Definition, Macros, no_macros, with_macro}
use Rattle.c_macros.specs.Arguments.{is_name_kind, is_mark}
use Rattle.c_macros.specs.Expansion.{Made, behind, bad_macro, expand_in}
use Rattle.c_conditions.specs.Value.{holds}
use Rattle.c_directives.specs.declared.rules.Rules.{Rules}
use Rattle.c_directives.specs.declared.conditions.Condition.{Condition}
use Rattle.c_directives.specs.declared.definitions.Fault.{Fault}
use Rattle.c_directives.specs.declared.definitions.Fault.TheVariants.{Malformed, Against}
use Rattle.c_directives.specs.declared.operands.Waits.TheVariants.{Nothing}
use Rattle.c_directives.specs.declared.words.Word.{Word}
use Rattle.c_directives.specs.declared.words.Word.TheVariants.{If, Ifdef, Ifndef, Elif, Else, Endif, Include, Define, Undef, Pragma, Unknown}
use Rattle.c_directives.specs.Parts.{Part, Text, Line, begins_directive, line_length, text_length, part_length, part_of, parts_most, parts_of}
use Rattle.c_directives.specs.Definitions.{bad_directive, Heading, behind_name, parameter, parameters, heading, number_of, piece, bare, pieces, definition_of, has_twice, is_odd, made, made_with, definition, same, defined_again, defined_as, is_defined_word, define, undef}
use Rattle.c_directives.specs.Headers.{included}
use Rattle.c_directives.specs.Predefined.{body_of, predefinition, predefined_in, predefined}
use Rattle.c_directives.specs.Words.{word_of}
use Rattle.c_directives.specs.Operands.{resolved}
use Rattle.c_directives.specs.Directives.{State, Then, go_on, unless, with_macros, is_live, within, turned, is_defined, alone, else_group, in_innermost, unclosed, pragma}
use Rattle.c_directives.specs.Directives.{tested, valued, counted, ended, expanded, expression, condition, first_test, begin, elif, later, obeyed, other}
use Rattle.c_directives.specs.Directives.{by_word, directive, made_of, text}
use Rattle.c_directives.specs.Directives.{part_passed, expand_parts, rules_of, expansion}
use Rattle.named_expansions.specs.Claims.{ExpansionsHaveNames}
use Rattle.named_expansions.proofs.NamedMacros.{TokenNamed, PiecesNamed, MacrosNamed, joined, taken, dropped, Makes, makes_then, in_named}

-- ---- what is answered

abbrev Gives : {X : Type 0} → (X → Type 0) → Then X → Type 0
Gives P (Ok x) = P x
Gives P (Err r) = Unit {0}

gives_then : {A B : Type 0} (P : A → Type 0) (Q : B → Type 0) (t : Then A) (f : A → Then B) → Gives P t → ((x : A) → P x → Gives Q (f x)) → Gives Q (go_on t f)
gives_then P Q (Ok x) f h g = g x h
gives_then P Q (Err r) f h g = tt

gives_if : {A : Type 0} (P : A → Type 0) (b : Bool) (t u : Then A) → Gives P t → Gives P u → Gives P (cond b t u)
gives_if P true t u h g = h
gives_if P false t u h g = g

-- ---- definitions

bare_named : (ts : List Token) → AllNamed ts → AllNamed (bare ts)
bare_named [] h = tt
bare_named (t ∷ ts) h = h

each_piece : (number : List ℕ → Option ℕ) (ts : List Token) → AllNamed ts → PiecesNamed (map (piece number) ts)
each_piece number [] h = tt
each_piece number (t ∷ ts) h = (h.0, each_piece number ts h.1)

pieces_named : (number : List ℕ → Option ℕ) (ts : List Token) → AllNamed ts → PiecesNamed (pieces number ts)
pieces_named number ts h = each_piece number (bare ts) (bare_named ts h)

abbrev HeadingNamed : Option Heading → Type 0
HeadingNamed None = Unit {0}
HeadingNamed (Some (names, (dots, rest))) = AllNamed rest

heading_if : (b : Bool) (o p : Option Heading) → HeadingNamed o → HeadingNamed p → HeadingNamed (cond b o p)
heading_if true o p h g = h
heading_if false o p h g = g

behind_named : (name : List ℕ) (o : Option Heading) → HeadingNamed o → HeadingNamed (behind_name name o)
behind_named name None h = tt
behind_named name (Some (names, (dots, rest))) h = h

parameter_named : (t mark : Token) (ts : List Token) (more : Option Heading) → AllNamed ts → HeadingNamed more → HeadingNamed (parameter t mark ts more)
parameter_named t mark ts more h g =
    heading_if (is_mark (codes "...") t) _ _ (heading_if (is_mark (codes ")") mark) (Some ([], (true, ts))) None h tt)
    (heading_if (not (is_name_kind t.kind)) None _ tt
    (heading_if (is_mark (codes ")") mark) (Some (t.text ∷ [], (false, ts))) _ h
    (heading_if (is_mark (codes ",") mark) (behind_name t.text more) None (behind_named t.text more g) tt)))

parameters_named : (ts : List Token) → AllNamed ts → HeadingNamed (parameters ts)
parameters_named [] h = tt
parameters_named (t ∷ []) h = tt
parameters_named (t ∷ mark ∷ ts) h = parameter_named t mark ts (parameters ts) h.1.1 (parameters_named ts h.1.1)

heading_named : (ts : List Token) → AllNamed ts → HeadingNamed (heading ts)
heading_named [] h = tt
heading_named (t ∷ ts) h = heading_if (is_mark (codes ")") t) (Some ([], (false, ts))) (parameters (t ∷ ts)) h.1 (parameters_named (t ∷ ts) h)

abbrev MadeNamed : Result Definition Fault → Type 0
MadeNamed (Ok m) = PiecesNamed m.body
MadeNamed (Err f) = Unit {0}

made_if : (b : Bool) (o p : Result Definition Fault) → MadeNamed o → MadeNamed p → MadeNamed (cond b o p)
made_if true o p h g = h
made_if false o p h g = g

made_named : (function_like : Bool) (ps : List (List ℕ)) (ts : List Token) → AllNamed ts → MadeNamed (made function_like ps ts)
made_named function_like ps ts h = made_if (has_twice [] ps || list_any is_odd ts) (Err Against) (Ok (definition_of function_like ps ts)) tt (pieces_named (λ x. number_of x 0 ps) ts h)

with_named : (o : Option Heading) → HeadingNamed o → MadeNamed (made_with o)
with_named None h = tt
with_named (Some (ps, (true, ts))) h = tt
with_named (Some (ps, (false, ts))) h = made_named true ps ts h

definition_named : (ts : List Token) → AllNamed ts → MadeNamed (definition ts)
definition_named [] h = made_named false [] [] tt
definition_named (t ∷ ts) h =
    made_if t.spaced (made false [] (t ∷ ts)) _ (made_named false [] (t ∷ ts) h)
    (made_if (is_mark (codes "(") t) (made_with (heading ts)) (Err Malformed) (with_named (heading ts) (heading_named ts h.1)) tt)

-- ---- macros

same_definition : (a b : Definition) → Some a ≡ Some b → a ≡ b
same_definition a b e = cc

known_named : (name : List ℕ) (o : Option Definition) (macros : Macros) → ((m : Definition) → o ≡ Some m → PiecesNamed m.body) → MacrosNamed macros → MacrosNamed (with_macro name o macros)
known_named name o macros h g x d e = go (bytes_eq x name) e
  where
    go : (b : Bool) → cond b o (macros x) ≡ Some d → PiecesNamed d.body
    go true e = h d e
    go false e = g x d e

one_named : (name : List ℕ) (m : Definition) (macros : Macros) → PiecesNamed m.body → MacrosNamed macros → MacrosNamed (with_macro name (Some m) macros)
one_named name m macros h g = known_named name (Some m) macros (λ d e. subst (λ d. PiecesNamed d.body) (same_definition m d e) h) g

none_named : (name : List ℕ) (macros : Macros) → MacrosNamed macros → MacrosNamed (with_macro name None macros)
none_named name macros g = known_named name None macros (λ d e. absurd (cc)) g

again_named : (t : Token) (m : Definition) (o : Option Definition) (macros : Macros) → PiecesNamed m.body → MacrosNamed macros → Gives MacrosNamed (defined_again t m o macros)
again_named t m None macros h g = one_named t.text m macros h g
again_named t m (Some old) macros h g = gives_if MacrosNamed (same old m) (Ok macros) (Err (refusal_of bad_macro t)) g tt

as_named : (word t : Token) (d : Result Definition Fault) (macros : Macros) → MadeNamed d → MacrosNamed macros → Gives MacrosNamed (defined_as word t d macros)
as_named word t (Ok m) macros h g = again_named t m (macros t.text) macros h g
as_named word t (Err Malformed) macros h g = tt
as_named word t (Err Against) macros h g = tt

define_named : (word : Token) (ts : List Token) (macros : Macros) → AllNamed ts → MacrosNamed macros → Gives MacrosNamed (define word ts macros)
define_named word [] macros h g = tt
define_named word (t ∷ ts) macros h g =
    gives_if MacrosNamed (not (is_name_kind t.kind)) (Err (refusal_of bad_directive word)) _ tt
    (gives_if MacrosNamed (is_defined_word t) (Err (refusal_of bad_macro t)) (defined_as word t (definition ts) macros) tt (as_named word t (definition ts) macros (definition_named ts h.1) g))

undef_named : (word : Token) (ts : List Token) (macros : Macros) → MacrosNamed macros → Gives MacrosNamed (undef word ts macros)
undef_named word [] macros g = tt
undef_named word (t ∷ []) macros g =
    gives_if MacrosNamed (not (is_name_kind t.kind)) (Err (refusal_of bad_directive word)) _ tt
    (gives_if MacrosNamed (is_defined_word t) (Err (refusal_of bad_macro t)) (Ok (with_macro t.text None macros)) tt (none_named t.text macros g))
undef_named word (t ∷ u ∷ ts) macros g = tt

-- ---- lines

abbrev StateNamed : State → Type 0
StateNamed s = MacrosNamed s.macros × AllNamed s.made

abbrev BothNamed : Bool × State → Type 0
BothNamed x = StateNamed x.1

unless_named : (o : Option Refusal) (s : State) → StateNamed s → Gives StateNamed (unless o s)
unless_named None s h = h
unless_named (Some r) s h = tt

macros_named : (s : State) (t : Then Macros) → StateNamed s → Gives MacrosNamed t → Gives StateNamed (with_macros s t)
macros_named s (Ok m) h g = (g, h.1)
macros_named s (Err r) h g = tt

else_named : (word : Token) (ts : List Token) (c : Condition) (s : State) (b : Bool) → c.last ≡ b → StateNamed s → Gives StateNamed (else_group word ts c s)
else_named word ts c s true e h = rw (Gives, e) tt
else_named word ts c s false e h = rw (Gives, e) (unless_named (alone word ts s.conditions) (within (turned c (not c.spent) true) s) h)

innermost_named : (word : Token) (f : Condition → State → Then State) (s : State) (cs : List Condition) → StateNamed s → ((c : Condition) (u : State) → StateNamed u → Gives StateNamed (f c u)) → Gives StateNamed (in_innermost word f s cs)
innermost_named word f s [] h g = tt
innermost_named word f s (c ∷ cs) h g = g c (record s { conditions = cs }) h

tested_named : (word : Token) (s : State) (o : Option Bool) → StateNamed s → Gives BothNamed (tested word s o)
tested_named word s None h = tt
tested_named word s (Some b) h = h

valued_named : (word : Token) (s : State) (m : Made (List Token)) → StateNamed s → Gives BothNamed (valued word s m)
valued_named word s (Err r) h = tt
valued_named word s (Ok (ts, work)) h = tested_named word (record s { work = work }) (holds ts) h

counted_named : (s : State) (made : List Token) (work : ℕ) (o : Option Token) → StateNamed s → AllNamed made → Gives StateNamed (counted s made work o)
counted_named s made work None h g = (h.0, g)
counted_named s made work (Some t) h g = tt

ended_named : (made : List Token) (o : Option Refusal) → AllNamed made → Gives AllNamed (ended made o)
ended_named made None h = h
ended_named made (Some r) h = tt

-- ---- parts

abbrev PartNamed : Part → Type 0
PartNamed (Text ts) = AllNamed ts
PartNamed (Line hash ts) = AllNamed ts

abbrev PartsNamed : List Part → Type 0
PartsNamed [] = Unit {0}
PartsNamed (p ∷ ps) = PartNamed p × PartsNamed ps

part_of_named : (t : Token) (ts : List Token) (b : Bool) → begins_directive t ≡ b → TokenNamed t → AllNamed ts → PartNamed (part_of t ts)
part_of_named t ts true e h k = rw (PartNamed, e) (taken (line_length ts) ts k)
part_of_named t ts false e h k = rw (PartNamed, e) (h, taken (text_length ts) ts k)

parts_named : (n : ℕ) (ts : List Token) → AllNamed ts → PartsNamed (parts_most n ts)
parts_named n [] h = tt
parts_named zero (t ∷ ts) h = tt
parts_named (suc n) (t ∷ ts) h = (part_of_named t ts (begins_directive t) refl h.0 h.1, parts_named n (drop (part_length t ts) ts) (dropped (part_length t ts) ts h.1))

-- ---- the text and its directives, by rules

module _ (rules : Rules) where
  expanded_named : (macros : Macros) (front ts : List Token) (work : ℕ) → MacrosNamed macros → AllNamed front → AllNamed ts → Makes AllNamed (expanded rules macros front ts work)
  expanded_named macros front ts work m h g =
      makes_then AllNamed AllNamed (expand_in rules.work macros 64 [] None ts work) (behind front) (in_named rules.work macros 64 [] None ts work m g) (λ ys w k. joined front ys h k)

  expression_named : (word : Token) (s : State) (o : Option (List Token)) → StateNamed s → Gives BothNamed (expression rules word s o)
  expression_named word s None h = tt
  expression_named word s (Some ts) h = valued_named word s (expanded rules s.macros [] ts s.work) h

  condition_named : (word : Token) (ts : List Token) (s : State) → StateNamed s → Gives BothNamed (condition rules word ts s)
  condition_named word ts s h = expression_named word s (resolved s.macros Nothing ts) h

  defined_named : (s : State) (t : Then Bool) (f : Bool → Bool) → StateNamed s → Gives BothNamed (go_on t (λ b. Ok (f b, s)))
  defined_named s (Ok b) f h = h
  defined_named s (Err r) f h = tt

  first_named : (word : Token) (w : Word) (ts : List Token) (s : State) → StateNamed s → Gives BothNamed (first_test rules word w ts s)
  first_named word Ifdef ts s h = defined_named s (is_defined word ts s.macros) (λ b. b) h
  first_named word Ifndef ts s h = defined_named s (is_defined word ts s.macros) (λ b. not b) h
  first_named word If ts s h = condition_named word ts s h
  first_named word Elif ts s h = condition_named word ts s h
  first_named word Else ts s h = condition_named word ts s h
  first_named word Endif ts s h = condition_named word ts s h
  first_named word Include ts s h = condition_named word ts s h
  first_named word Define ts s h = condition_named word ts s h
  first_named word Undef ts s h = condition_named word ts s h
  first_named word Pragma ts s h = condition_named word ts s h
  first_named word Unknown ts s h = condition_named word ts s h

  begin_named : (word : Token) (w : Word) (ts : List Token) (s : State) (b : Bool) → is_live s.conditions ≡ b → StateNamed s → Gives StateNamed (begin rules word w ts s)
  begin_named word w ts s true e h = rw (Gives, e) (gives_then BothNamed StateNamed (first_test rules word w ts s) _ (first_named word w ts s h) (λ x k. k))
  begin_named word w ts s false e h = rw (Gives, e) h

  elif_named : (word : Token) (ts : List Token) (c : Condition) (s : State) (last spent : Bool) → c.last ≡ last → c.spent ≡ spent → StateNamed s → Gives StateNamed (elif rules word ts c s)
  elif_named word ts c s true spent e g h = rw (Gives, e) tt
  elif_named word ts c s false true e g h = rw (Gives, e, g) h
  elif_named word ts c s false false e g h = rw (Gives, e, g) (gives_then BothNamed StateNamed (condition rules word ts s) _ (condition_named word ts s h) (λ x k. k))

  obeyed_named : (hash word : Token) (w : Word) (ts : List Token) (s : State) → StateNamed s → AllNamed ts → Gives StateNamed (obeyed rules hash word w ts s)
  obeyed_named hash word Include ts s h k = unless_named (included rules.dialect word ts) s h
  obeyed_named hash word Define ts s h k = macros_named s (define word ts s.macros) h (define_named word ts s.macros k h.0)
  obeyed_named hash word Undef ts s h k = macros_named s (undef word ts s.macros) h (undef_named word ts s.macros h.0)
  obeyed_named hash word Pragma ts s h k = unless_named (pragma word ts) s h
  obeyed_named hash word If ts s h k = tt
  obeyed_named hash word Ifdef ts s h k = tt
  obeyed_named hash word Ifndef ts s h k = tt
  obeyed_named hash word Elif ts s h k = tt
  obeyed_named hash word Else ts s h k = tt
  obeyed_named hash word Endif ts s h k = tt
  obeyed_named hash word Unknown ts s h k = tt

  other_named : (hash word : Token) (w : Word) (ts : List Token) (s : State) (b : Bool) → is_live s.conditions ≡ b → StateNamed s → AllNamed ts → Gives StateNamed (other rules hash word w ts s)
  other_named hash word w ts s true e h k = rw (Gives, e) (obeyed_named hash word w ts s h k)
  other_named hash word w ts s false e h k = rw (Gives, e) h

  word_named : (hash word : Token) (w : Word) (ts : List Token) (s : State) → StateNamed s → AllNamed ts → Gives StateNamed (by_word rules hash word w ts s)
  word_named hash word If ts s h k = begin_named word If ts s (is_live s.conditions) refl h
  word_named hash word Ifdef ts s h k = begin_named word Ifdef ts s (is_live s.conditions) refl h
  word_named hash word Ifndef ts s h k = begin_named word Ifndef ts s (is_live s.conditions) refl h
  word_named hash word Elif ts s h k = innermost_named word (later rules word Elif ts) s s.conditions h (λ c u g. elif_named word ts c u c.last c.spent refl refl g)
  word_named hash word Else ts s h k = innermost_named word (later rules word Else ts) s s.conditions h (λ c u g. else_named word ts c u c.last refl g)
  word_named hash word Endif ts s h k = innermost_named word (later rules word Endif ts) s s.conditions h (λ c u g. unless_named (alone word ts u.conditions) u g)
  word_named hash word Include ts s h k = other_named hash word Include ts s (is_live s.conditions) refl h k
  word_named hash word Define ts s h k = other_named hash word Define ts s (is_live s.conditions) refl h k
  word_named hash word Undef ts s h k = other_named hash word Undef ts s (is_live s.conditions) refl h k
  word_named hash word Pragma ts s h k = other_named hash word Pragma ts s (is_live s.conditions) refl h k
  word_named hash word Unknown ts s h k = other_named hash word Unknown ts s (is_live s.conditions) refl h k

  directive_named : (hash : Token) (ts : List Token) (s : State) → StateNamed s → AllNamed ts → Gives StateNamed (directive rules hash ts s)
  unfolding directive
  directive_named hash [] s h k = h
  directive_named hash (word ∷ ts) s h k = word_named hash word (word_of word) ts s h k.1

  made_of_named : (s : State) (m : Made (List Token)) → StateNamed s → Makes AllNamed m → Gives StateNamed (made_of rules s m)
  made_of_named s (Err r) h g = tt
  made_of_named s (Ok (made, work)) h g = counted_named s made work (slice_get made rules.tokens) h g

  text_named : (ts : List Token) (s : State) (b : Bool) → is_live s.conditions ≡ b → StateNamed s → AllNamed ts → Gives StateNamed (text rules ts s)
  unfolding text
  text_named ts s true e h k = rw (Gives, e) (made_of_named s (expanded rules s.macros s.made ts s.work) h (expanded_named s.macros s.made ts s.work h.0 h.1 k))
  text_named ts s false e h k = rw (Gives, e) h

  part_named : (p : Part) (s : State) → StateNamed s → PartNamed p → Gives StateNamed (part_passed rules p s)
  part_named (Text ts) s h k = text_named ts s (is_live s.conditions) refl h k
  part_named (Line hash ts) s h k = directive_named hash ts s h k

  all_named : (ps : List Part) (s : State) → StateNamed s → PartsNamed ps → Gives AllNamed (expand_parts rules ps s)
  all_named [] s h k = ended_named s.made (unclosed s.conditions) h.1
  all_named (p ∷ ps) s h k = gives_then StateNamed AllNamed (part_passed rules p s) (λ t. expand_parts rules ps t) (part_named p s h k.0) (λ t g. all_named ps t g k.1)

-- ---- macros that are defined before a text begins

abbrev named_token : Token → Bool
named_token t = cond (is_name_kind t.kind) (is_name t.text) true

abbrev named_tokens : List Token → Bool
named_tokens [] = true
named_tokens (t ∷ ts) = named_token t && named_tokens ts

abbrev named_macros : List Macro → Bool
named_macros [] = true
named_macros (m ∷ ms) = named_tokens (body_of m) && named_macros ms

parts_true : (a b : Bool) → (a && b) ≡ true → (a ≡ true) × (b ≡ true)
parts_true true b e = (refl, e)
parts_true false b e = absurd (cc)

token_told : (t : Token) → named_token t ≡ true → TokenNamed t
token_told t h e = subst (λ k. cond (is_name_kind k) (is_name t.text) true ≡ true) e h

tokens_told : (ts : List Token) → named_tokens ts ≡ true → AllNamed ts
tokens_told [] h = tt
tokens_told (t ∷ ts) h = let both = parts_true (named_token t) (named_tokens ts) h in (token_told t both.0, tokens_told ts both.1)

nothing_named : MacrosNamed no_macros
nothing_named x d e = absurd (cc)

macros_told : (ms : List Macro) → named_macros ms ≡ true → MacrosNamed (predefined_in ms)
macros_told [] h = nothing_named
macros_told (m ∷ ms) h =
    let both = parts_true (named_tokens (body_of m)) (named_macros ms) h in
    one_named m.name (predefinition m) (predefined_in ms) (pieces_named (λ x. number_of x 0 m.parameters) (body_of m) (tokens_told (body_of m) both.0)) (macros_told ms both.1)

predefined_named : (dialect : Dialect) → MacrosNamed (predefined dialect)
unfolding predefined
predefined_named X86 = macros_told (predefined_names X86) refl
predefined_named Neon = macros_told (predefined_names Neon) refl

-- ---- the whole

pub expansions_named : ExpansionsHaveNames
unfolding expansion parts_of
expansions_named dialect tokens items e h =
    subst (Gives AllNamed) e (all_named (rules_of dialect) (parts_of tokens) (record { macros = predefined dialect; conditions = []; made = []; work = 0 }) (predefined_named dialect, tt) (parts_named (length tokens) tokens h))
