-- What ends an expression, and what begins none.
use Rattle.std.proofs.Common.{◌≡◌, List, [], ◌∷◌, Option, Some, None, refl, ◌∙◌, ap, Bool, true, false}
use Rattle.c_text.specs.declared.tokens.Dialect.{Dialect}
use Rattle.c_text.specs.declared.tokens.Token.{Token}
use Rattle.lane_core.specs.declared.number.BinOp.TheVariants as ops
use Rattle.c_parse.specs.declared.symbols.Infix.TheVariants as infixes
use Rattle.c_parse.specs.declared.symbols.Sign.{Sign}
use Rattle.c_parse.specs.declared.symbols.Sign.TheVariants as signs
use Rattle.c_parse.specs.declared.symbols.Symbol.{Symbol}
use Rattle.c_parse.specs.declared.symbols.Symbol.TheVariants as symbols
use Rattle.c_parse.specs.Symbols.{symbol_of}
use Rattle.c_parse.specs.Reading.{front, is_sign, past, step_of, prefix_of, is_name, name_front, constant_front, Assignment, Operand, Prefixed, Base, expression_with, read}
use Rattle.c_parse.specs.Grammar.{Written, Fits, spell}
use Rattle.c_parse.specs.Objects.{begins_declaration}
use Rattle.c_parse.proofs.Fronts.{past_is}
use Rattle.c_parse.proofs.Complete.{Ends, Closed, assignment_complete, no_value}
use Rattle.c_parse.proofs.Equations.{assignment_eq, operand_eq, prefixed_eq, base_eq}

-- the marks behind which no expression goes on
abbrev pub closes : Sign → Bool
closes signs.Close = true
closes signs.CloseSquare = true
closes signs.Comma = true
closes signs.Colon = true
closes signs.CloseBrace = true
closes signs.Semicolon = true
closes _ = false

-- a sign that closes an expression ends it, whatever follows
pub sign_ends : (d : Dialect) (s : Sign) (ts : List Token) → closes s ≡ true → front d ts ≡ symbols.Sign s → Ends d ts
sign_ends d signs.Close ts c e = record { stops = record { call = rw e refl; index = rw e refl; step = rw e refl; dot = rw e refl }; operator = rw e refl; question = rw e refl; assign = rw e refl }
sign_ends d signs.CloseSquare ts c e = record { stops = record { call = rw e refl; index = rw e refl; step = rw e refl; dot = rw e refl }; operator = rw e refl; question = rw e refl; assign = rw e refl }
sign_ends d signs.Comma ts c e = record { stops = record { call = rw e refl; index = rw e refl; step = rw e refl; dot = rw e refl }; operator = rw e refl; question = rw e refl; assign = rw e refl }
sign_ends d signs.Colon ts c e = record { stops = record { call = rw e refl; index = rw e refl; step = rw e refl; dot = rw e refl }; operator = rw e refl; question = rw e refl; assign = rw e refl }
sign_ends d signs.CloseBrace ts c e = record { stops = record { call = rw e refl; index = rw e refl; step = rw e refl; dot = rw e refl }; operator = rw e refl; question = rw e refl; assign = rw e refl }
sign_ends d signs.Semicolon ts c e = record { stops = record { call = rw e refl; index = rw e refl; step = rw e refl; dot = rw e refl }; operator = rw e refl; question = rw e refl; assign = rw e refl }
sign_ends d _ ts c e = absurd (cc)

-- one that is no comma ends one with commas too
pub sign_closed : (d : Dialect) (s : Sign) (ts : List Token) → closes s ≡ true → is_sign signs.Comma (symbols.Sign s) ≡ false → front d ts ≡ symbols.Sign s → Closed d ts
sign_closed d s ts c n e = record { ends = sign_ends d s ts c e; comma = rw (e, n) refl }

-- what an expression may begin with
abbrev pub begins_expression : Symbol → Bool
begins_expression (symbols.Sign signs.Open) = true
begins_expression (symbols.Sign signs.SizeOf) = true
begins_expression (symbols.Infix (infixes.Operator ops.Add)) = true
begins_expression (symbols.Infix (infixes.Operator ops.Sub)) = true
begins_expression (symbols.Infix (infixes.Operator ops.Mul)) = true
begins_expression (symbols.Infix (infixes.Operator ops.BitAnd)) = true
begins_expression (symbols.Step up) = true
begins_expression symbols.Tilde = true
begins_expression symbols.Exclamation = true
begins_expression symbols.Name = true
begins_expression symbols.Constant = true
begins_expression _ = false

record Hopeless (m : Symbol) : Type 0 where
  bracket : is_sign signs.Open m ≡ false
  size : is_sign signs.SizeOf m ≡ false
  prefix : prefix_of m ≡ None
  step : step_of m ≡ None
  name : is_name m ≡ false
  constant : m ≡ symbols.Constant → ⊥

hopeless : (m : Symbol) → begins_expression m ≡ false → Hopeless m
hopeless (symbols.Sign signs.Open) e = absurd (cc)
hopeless (symbols.Sign signs.SizeOf) e = absurd (cc)
hopeless (symbols.Infix (infixes.Operator ops.Add)) e = absurd (cc)
hopeless (symbols.Infix (infixes.Operator ops.Sub)) e = absurd (cc)
hopeless (symbols.Infix (infixes.Operator ops.Mul)) e = absurd (cc)
hopeless (symbols.Infix (infixes.Operator ops.BitAnd)) e = absurd (cc)
hopeless (symbols.Step up) e = absurd (cc)
hopeless symbols.Tilde e = absurd (cc)
hopeless symbols.Exclamation e = absurd (cc)
hopeless symbols.Name e = absurd (cc)
hopeless symbols.Constant e = absurd (cc)
hopeless (symbols.Sign _) e = record { bracket = refl; size = refl; prefix = refl; step = refl; name = refl; constant = λ h. cc }
hopeless (symbols.Infix (infixes.Operator _)) e = record { bracket = refl; size = refl; prefix = refl; step = refl; name = refl; constant = λ h. cc }
hopeless _ e = record { bracket = refl; size = refl; prefix = refl; step = refl; name = refl; constant = λ h. cc }

constant_none : (d : Dialect) (ts : List Token) → Hopeless (front d ts) → constant_front ts ≡ None
constant_none d [] h = refl
constant_none d (t ∷ ts) h = rw (no_value d t (symbol_of d t) refl h.constant) refl

name_none : (d : Dialect) (ts : List Token) → Hopeless (front d ts) → name_front d ts ≡ None
name_none d [] h = refl
name_none d (t ∷ ts) h = rw (h.name) refl

-- no expression begins with another token
pub no_expression : (d : Dialect) (ts : List Token) → begins_expression (front d ts) ≡ false → read d Assignment ts ≡ None
no_expression d ts e =
    let h = hopeless (front d ts) e in
    let base : read d Base ts ≡ None = base_eq d ts ∙ rw (constant_none d ts h, name_none d ts h, h.bracket) refl in
    let prefixed : read d Prefixed ts ≡ None = prefixed_eq d ts ∙ rw (h.prefix, h.step, h.size, base) refl in
    let operand : read d Operand ts ≡ None = operand_eq d ts ∙ rw (h.bracket, prefixed) refl in
    assignment_eq d ts ∙ rw operand refl

-- an expression begins with what one may begin with
pub expression_begins : (d : Dialect) (a : Written) (ts : List Token) → Fits d 1 a → Ends d ts → begins_expression (front d (spell a ts)) ≡ true
expression_begins d a ts f h = go (begins_expression (front d (spell a ts))) refl
  where
    go : (b : Bool) → begins_expression (front d (spell a ts)) ≡ b → begins_expression (front d (spell a ts)) ≡ true
    go true e = e
    go false e = let none = no_expression d (spell a ts) e in let some = assignment_complete d a ts f h in absurd (cc)

-- a declaration begins with a token that begins no expression
pub declaration_begins_none : (m : Symbol) → begins_declaration m ≡ true → begins_expression m ≡ false
declaration_begins_none (symbols.Type w) e = refl
declaration_begins_none symbols.Const e = refl
declaration_begins_none (symbols.Word w) e = refl
declaration_begins_none _ e = absurd (cc)

-- no expression begins where a declaration may
pub declaration_no_expression : (d : Dialect) (ts : List Token) → begins_declaration (front d ts) ≡ true → expression_with (read d) ts ≡ None
declaration_no_expression d ts e = rw (no_expression d ts (declaration_begins_none (front d ts) e)) refl

closes_none : (s : Sign) → closes s ≡ true → begins_expression (symbols.Sign s) ≡ false
closes_none signs.Open e = absurd (cc)
closes_none signs.SizeOf e = absurd (cc)
closes_none _ e = refl

-- and no closing mark stands where one begins
pub begins_no_sign : (d : Dialect) (s : Sign) (ts : List Token) → closes s ≡ true → begins_expression (front d ts) ≡ true → past d s ts ≡ None
begins_no_sign d s ts c e = go (past d s ts) refl
  where
    go : (o : Option (List Token)) → past d s ts ≡ o → past d s ts ≡ None
    go (Some us) h =
        let b = past_is d s ts us h in
        let same : front d ts ≡ symbols.Sign s = ap (front d) b.split ∙ b.is in
        let none = closes_none s c in
        absurd (cc (same, none, e))
    go None h = h
