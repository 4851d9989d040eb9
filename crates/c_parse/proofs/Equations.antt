-- Reading, one step at a time, and lists of trees that grow by one at their end.
use Rattle.std.proofs.Common.{◌≡◌, ℕ, List, [], ◌∷◌, ◌++◌, Option, Some, None, refl, sym, ◌∙◌, ap, map}
use Rattle.std.proofs.lemmas.List.{map-append}
use Rattle.c_text.specs.declared.tokens.Dialect.{Dialect}
use Rattle.c_text.specs.declared.tokens.Token.{Token}
use Rattle.c_tree.specs.declared.expressions.Expr.{Expr}
use Rattle.c_tree.specs.Tree.{Tree, Trees, More, Comma}
use Rattle.c_tree.specs.View.{view, and_more}
use Rattle.c_parse.specs.declared.symbols.Sign.TheVariants as signs
use Rattle.c_parse.specs.Reading.{◌>>=◌, past, place_at, node, Assignment, Conditional, Operators, Operand, Prefixed, Base, Others, read, expression_with, arguments_with, others_with, conditional_with, assignment_with, operators_with, operand_with, prefixed_with, base_with, with_front}
use Rattle.c_parse.proofs.Fronts.{bind_some}
use Rattle.c_parse.proofs.Stable.{read_eq}

pub assignment_eq : (d : Dialect) (ts : List Token) → read d Assignment ts ≡ assignment_with d (read d) ts
assignment_eq d ts = read_eq d Assignment ts

pub conditional_eq : (d : Dialect) (ts : List Token) → read d Conditional ts ≡ conditional_with d (read d) ts
conditional_eq d ts = read_eq d Conditional ts

pub operators_eq : (d : Dialect) (l : ℕ) (a : Tree) (ts : List Token) → read d (Operators l a) ts ≡ operators_with d (read d) l a ts
operators_eq d l a ts = read_eq d (Operators l a) ts

pub operand_eq : (d : Dialect) (ts : List Token) → read d Operand ts ≡ operand_with d (read d) ts
operand_eq d ts = read_eq d Operand ts

pub prefixed_eq : (d : Dialect) (ts : List Token) → read d Prefixed ts ≡ prefixed_with d (read d) ts
prefixed_eq d ts = read_eq d Prefixed ts

pub base_eq : (d : Dialect) (ts : List Token) → read d Base ts ≡ base_with d (read d) ts
base_eq d ts = read_eq d Base ts

pub others_eq : (d : Dialect) (ts : List Token) → read d Others ts ≡ others_with d (read d) ts
others_eq d ts = read_eq d Others ts

-- nothing stands behind a comma
pub no_others : (d : Dialect) (ts us : List Token) (a : Tree) → read d Assignment ts ≡ Some (a, us) → past d signs.Comma us ≡ None → expression_with (read d) ts ≡ Some (a, us)
no_others d ts us a e none = rw (e, others_eq d us, none) refl

-- something stands behind a comma
comma_more : (d : Dialect) (us ws : List Token) (x : Trees × List Token) → past d signs.Comma us ≡ Some ws → read d Others us ≡ Some x →
    (a : Tree) × (r : Trees) × (vs : List Token) × (read d Others us ≡ Some (More a r, vs))
comma_more d us ws x comma e =
    let (a, ae, e1) = bind_some (read d Assignment ws) _ _ (rw comma at (sym (others_eq d us) ∙ e)) in
    let (r, re, e2) = bind_some (read d Others a.1) _ _ e1 in
    (a.0, r.0, r.1, e ∙ sym e2)

front_some : (es : List Expr) (o : Option (Trees × List Token)) (x : Trees × List Token) → with_front es o ≡ Some x → (y : Trees × List Token) × (o ≡ Some y)
front_some es (Some y) x e = (y, refl)
front_some es None x e = absurd (cc)

front_none : (es : List Expr) (o : Option (Trees × List Token)) → with_front es o ≡ None → o ≡ None
front_none es (Some y) e = absurd (cc)
front_none es None e = refl

pub some_others : (d : Dialect) (ts us ws vs : List Token) (es : List Expr) (e : Expr) (all : Trees) → read d Assignment ts ≡ Some (view e, us) → past d signs.Comma us ≡ Some ws → es ≡ e ∷ [] →
    with_front es (read d Others us) ≡ Some (all, vs) → expression_with (read d) ts ≡ Some (node (place_at us) (Comma all), vs)
some_others d ts us ws vs es e all first comma one more =
    let (x, xe) = front_some es (read d Others us) (all, vs) more in
    let (a, r, rest, h) = comma_more d us ws x comma xe in
    let whole : Some (More (view e) (More a r), rest) ≡ Some (all, vs) =
    sym (ap (with_front (e ∷ [])) h) ∙ sym (ap (λ l. with_front l (read d Others us)) one) ∙ more in
    rw (first, h) (ap (λ (o : Option (Trees × List Token)). o >>= λ p. Some (node (place_at us) (Comma p.0), p.1)) whole)

pub stuck_others : (d : Dialect) (ts us : List Token) (es : List Expr) (a : Tree) → read d Assignment ts ≡ Some (a, us) → with_front es (read d Others us) ≡ None → expression_with (read d) ts ≡ None
stuck_others d ts us es a first none = rw (first, front_none es (read d Others us) none) refl

-- arguments, of which there is one at least
pub some_arguments : (d : Dialect) (ts us vs : List Token) (es : List Expr) (e : Expr) (all : Trees) → past d signs.Close ts ≡ None → read d Assignment ts ≡ Some (view e, us) → es ≡ e ∷ [] →
    with_front es (read d Others us) ≡ Some (all, vs) → arguments_with d (read d) ts ≡ (past d signs.Close vs >>= λ ws. Some (all, ws))
some_arguments d ts us vs es e all close first one more =
    let (x, h) = front_some es (read d Others us) (all, vs) more in
    let whole : Some (More (view e) x.0, x.1) ≡ Some (all, vs) =
    sym (ap (with_front (e ∷ [])) h) ∙ sym (ap (λ l. with_front l (read d Others us)) one) ∙ more in
    rw (close, first, h) (ap (λ (o : Option (Trees × List Token)). o >>= λ p. past d signs.Close p.1 >>= λ ws. Some (p.0, ws)) whole)

pub stuck_arguments : (d : Dialect) (ts us : List Token) (es : List Expr) (a : Tree) → past d signs.Close ts ≡ None → read d Assignment ts ≡ Some (a, us) → with_front es (read d Others us) ≡ None →
    arguments_with d (read d) ts ≡ None
stuck_arguments d ts us es a close first none = rw (close, first, front_none es (read d Others us) none) refl

and_more-append : (all : List Tree) (a : Tree) (more : Trees) → and_more (all ++ a ∷ []) more ≡ and_more all (More a more)
and_more-append [] a more = refl
and_more-append (x ∷ all) a more = ap (More x) (and_more-append all a more)

front_grows : (es : List Expr) (e : Expr) (o : Option (Trees × List Token)) → with_front es (o >>= λ r. Some (More (view e) r.0, r.1)) ≡ with_front (es ++ e ∷ []) o
front_grows es e (Some x) =
    ap (λ t. Some (t, x.1)) (sym (and_more-append (map view es) (view e) x.0) ∙ ap (λ l. and_more l x.0) (sym (map-append view es (e ∷ []))))
front_grows es e None = refl

-- a turn of the loop: one more is read
pub other_read : (d : Dialect) (ts ws us : List Token) (es es' : List Expr) (e : Expr) (whole : Option (Trees × List Token)) → whole ≡ with_front es (read d Others ts) → past d signs.Comma ts ≡ Some ws →
    read d Assignment ws ≡ Some (view e, us) → es' ≡ es ++ e ∷ [] → whole ≡ with_front es' (read d Others us)
other_read d ts ws us es es' e whole so_far comma first grown =
    let here : read d Others ts ≡ (read d Others us >>= λ r. Some (More (view e) r.0, r.1)) = others_eq d ts ∙ rw (comma, first) refl in
    so_far ∙ ap (with_front es) here ∙ front_grows es e (read d Others us) ∙ ap (λ l. with_front l (read d Others us)) (sym grown)
