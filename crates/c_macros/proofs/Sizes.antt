-- How long the parts of a use are.
use Rattle.std.proofs.Common.{◌≡◌, ℕ, zero, suc, ◌+◌, ◌≤◌, Bool, true, false, cond, List, [], ◌∷◌, length, codes, Option, Some, None, arith}
use Rattle.c_text.specs.declared.tokens.Token.{Token}
use Rattle.c_macros.specs.declared.roles.Role.{Role}
use Rattle.c_macros.specs.declared.roles.Role.TheVariants.{Opens, Closes, Parts, Other}
use Rattle.c_macros.specs.Definition.{Definition, Macros}
use Rattle.c_macros.specs.Arguments.{Cut, onto, before, role, cut_at, arguments, is_name_kind, Sight, Plain, Wrong, Use, fits, closed, called, named, found, among, sight, is_mark}
use Rattle.c_macros.specs.Stack.{size}

-- what is cut out of so many tokens
abbrev pub Sized : ℕ → Cut → Type 0
Sized k None = Unit {0}
Sized k (Some (first, (others, rest))) = size (first ∷ others) + length rest ≡ k

onto_sized : (k : ℕ) (t : Token) (c : Cut) → Sized k c → Sized (suc k) (onto t c)
onto_sized k t None h = tt
onto_sized k t (Some (first, (others, rest))) h = omega (arith, h)

before_sized : (k : ℕ) (c : Cut) → Sized k c → Sized (suc k) (before c)
before_sized k None h = tt
before_sized k (Some (first, (others, rest))) h = omega (arith, h)

cut_sized : (r : Role) (n : ℕ) (t : Token) (go : ℕ → Cut) (ts : List Token) → ((m : ℕ) → Sized (length ts) (go m)) → Sized (suc (length ts)) (cut_at r n t go ts)
cut_sized Opens n t go ts h = onto_sized (length ts) t (go (n + 1)) (h (n + 1))
cut_sized Closes zero t go ts h = omega arith
cut_sized Closes (suc n) t go ts h = onto_sized (length ts) t (go n) (h n)
cut_sized Parts zero t go ts h = before_sized (length ts) (go 0) (h 0)
cut_sized Parts (suc n) t go ts h = onto_sized (length ts) t (go (suc n)) (h (suc n))
cut_sized Other n t go ts h = onto_sized (length ts) t (go n) (h n)

pub sized : (ts : List Token) (n : ℕ) → Sized (length ts) (arguments n ts)
sized [] n = tt
sized (t ∷ ts) n = cut_sized (role t) n t (λ m. arguments m ts) ts (λ m. sized ts m)

-- a use among so many tokens behind its name
abbrev pub Short : ℕ → Sight → Type 0
Short k Plain = Unit {0}
Short k Wrong = Unit {0}
Short k (Use m args rest) = size args + length rest ≤ k

short_if : (b : Bool) (k : ℕ) (s u : Sight) → Short k s → Short k u → Short k (cond b s u)
short_if true k s u h g = h
short_if false k s u h g = g

closed_short : (m : Definition) (k : ℕ) (c : Cut) → Sized k c → Short (suc k) (closed m c)
closed_short m k None h = tt
closed_short m k (Some (first, (others, rest))) h =
    short_if (fits m.used (first ∷ others)) (suc k) (Use m (first ∷ others) rest) Wrong (omega (arith, h)) tt

called_short : (m : Definition) (ts : List Token) → Short (length ts) (called m ts)
called_short m [] = tt
called_short m (t ∷ ts) = short_if (is_mark (codes "(") t) (suc (length ts)) (closed m (arguments 0 ts)) Wrong (closed_short m (length ts) (arguments 0 ts) (sized ts 0)) tt

found_short : (o : Option Definition) (b : Bool) (ts : List Token) → Short (length ts) (found o b ts)
found_short None b ts = tt
found_short (Some m) b ts =
    short_if b (length ts) Wrong (named m ts) tt
    (short_if m.function_like (length ts) (called m ts) (Use m [] ts) (called_short m ts) (omega arith))

pub short : (macros : Macros) (uses : List Token) (t : Token) (ts : List Token) → Short (length ts) (sight macros uses t ts)
unfolding sight
short macros uses t ts =
    short_if (is_name_kind t.kind) (length ts) (found (macros t.text) (among t.text uses) ts) Plain (found_short (macros t.text) (among t.text uses) ts) tt
