-- Steps of the code, as what is still to be read around the innermost part.
use Rattle.std.proofs.Common.{◌≡◌, ◌∙◌, ℕ, ◌+◌, ◌-◌, ◌≤◌, false, List, [], ◌∷◌, ◌++◌, codes, Option, Some, None, option_and_then, refl, ap, sym}
use Rattle.lane_core.specs.declared.number.UnOp.{UnOp}
use Rattle.c_text.specs.declared.tokens.Token.{Token}
use Rattle.c_conditions.specs.declared.worths.Worth.{Worth}
use Rattle.c_conditions.specs.declared.signs.Infix.{Infix}
use Rattle.c_conditions.specs.declared.signs.Link.TheVariants as links
use Rattle.c_conditions.specs.declared.signs.Start.{Start}
use Rattle.c_conditions.specs.declared.signs.Start.TheVariants as starts
use Rattle.c_conditions.specs.declared.reading.Pending.{Pending}
use Rattle.c_conditions.specs.declared.reading.Pending.TheVariants as pending
use Rattle.c_conditions.specs.Signs.{link_of, start}
use Rattle.c_conditions.specs.Levels.{goes_on, first_link}
use Rattle.c_conditions.specs.Value.{Level, Read, and_read, after_mark, begun, read, whole}
use Rattle.c_conditions.specs.Stack.{behind_operand, left, around, resumed}
use Rattle.c_conditions.proofs.Levels.{split, stays, takes-joint, takes-question, and_read-assoc}

-- one more part, the innermost
pub resumed-push : (ps : List Pending) (p : Pending) (r : Read) → resumed (ps ++ p ∷ []) r ≡ resumed ps (around p r)
resumed-push [] p r = refl
resumed-push (q ∷ ps) p r = ap (around q) (resumed-push ps p r)

-- where nothing is read of the innermost part, nothing is read of all
around-none : (p : Pending) → around p None ≡ None
around-none (pending.Joint outside op a) = refl
around-none (pending.Prefix outside op) = refl
around-none (pending.Bracket outside) = refl
around-none (pending.Condition c) = refl
around-none (pending.Choice c a) = refl

pub resumed-none : (ps : List Pending) → resumed ps None ≡ None
resumed-none [] = refl
resumed-none (p ∷ ps) = ap (around p) (resumed-none ps) ∙ around-none p

-- an operand is to be read

begun-is : (k : ℕ) (t : Token) (ts : List Token) (s : Start) → s ≡ start t →
    left k None (t ∷ ts) ≡ and_read (begun s ts read) (λ v rest. behind_operand k v rest)
begun-is k t ts s e = split k (t ∷ ts) ∙ ap (λ x. and_read (begun x ts read) (λ v rest. behind_operand k v rest)) (sym e)

pub starts-nowhere : (ps : List Pending) (k : ℕ) → whole (resumed ps (left k None [])) ≡ None
starts-nowhere ps k = ap (λ r. whole (resumed ps r)) (split k []) ∙ ap whole (resumed-none ps)

pub starts-nothing : (ps : List Pending) (k : ℕ) (t : Token) (ts : List Token) → starts.Nothing ≡ start t → whole (resumed ps (left k None (t ∷ ts))) ≡ None
starts-nothing ps k t ts e = ap (λ r. whole (resumed ps r)) (begun-is k t ts starts.Nothing e) ∙ ap whole (resumed-none ps)

pub starts-operand : (ps : List Pending) (k : ℕ) (v : Worth) (t : Token) (ts : List Token) → starts.Operand v ≡ start t →
    whole (resumed ps (left k None (t ∷ ts))) ≡ whole (resumed ps (left k (Some v) ts))
starts-operand ps k v t ts e = ap (λ r. whole (resumed ps r)) (begun-is k t ts (starts.Operand v) e)

pub starts-prefix : (ps : List Pending) (k : ℕ) (op : UnOp) (t : Token) (ts : List Token) → starts.Prefix op ≡ start t →
    whole (resumed ps (left k None (t ∷ ts))) ≡ whole (resumed (ps ++ pending.Prefix k op ∷ []) (left 11 None ts))
starts-prefix ps k op t ts e =
    ap (λ r. whole (resumed ps r)) (begun-is k t ts (starts.Prefix op) e ∙ and_read-assoc (read (Level 11) ts) _ _) ∙
    ap whole (sym (resumed-push ps (pending.Prefix k op) (read (Level 11) ts)))

cut-assoc : (o : Option (List Token)) (v : Worth) (f : Worth → List Token → Read) →
    and_read (option_and_then (λ after. Some (v, after)) o) f ≡ option_and_then (λ after. f v after) o
cut-assoc None v f = refl
cut-assoc (Some ts) v f = refl

bracket_same : (k : ℕ) (r : Read) →
    and_read (and_read r (λ v rest. option_and_then (λ after. Some (v, after)) (after_mark (codes ")") rest))) (λ v rest. behind_operand k v rest) ≡
    around (pending.Bracket k) r
bracket_same k None = refl
bracket_same k (Some (v, ts)) = cut-assoc (after_mark (codes ")") ts) v (λ w rest. behind_operand k w rest)

pub starts-bracket : (ps : List Pending) (k : ℕ) (t : Token) (ts : List Token) → starts.Bracket ≡ start t →
    whole (resumed ps (left k None (t ∷ ts))) ≡ whole (resumed (ps ++ pending.Bracket k ∷ []) (left 0 None ts))
starts-bracket ps k t ts e =
    ap (λ r. whole (resumed ps r)) (begun-is k t ts starts.Bracket e ∙ bracket_same k (read (Level 0) ts)) ∙
    ap whole (sym (resumed-push ps (pending.Bracket k) (read (Level 0) ts)))

-- an operand is read

pub goes-joint : (ps : List Pending) (k l : ℕ) (op : Infix) (v : Worth) (t : Token) (ts : List Token) → links.Infix l op ≡ link_of t → k ≤ l →
    whole (resumed ps (behind_operand k v (t ∷ ts))) ≡ whole (resumed (ps ++ pending.Joint k op v ∷ []) (left (l + 1) None ts))
goes-joint ps k l op v t ts e h =
    ap (λ r. whole (resumed ps r)) (takes-joint k l v op t ts (sym e) h) ∙
    ap whole (sym (resumed-push ps (pending.Joint k op v) (read (Level (l + 1)) ts)))

pub goes-question : (ps : List Pending) (k : ℕ) (v : Worth) (t : Token) (ts : List Token) → links.Question ≡ link_of t → k ≡ 0 →
    whole (resumed ps (behind_operand k v (t ∷ ts))) ≡ whole (resumed (ps ++ pending.Condition v ∷ []) (left 0 None ts))
goes-question ps k v t ts e h =
    ap (λ n. whole (resumed ps (behind_operand n v (t ∷ ts)))) h ∙
    ap (λ r. whole (resumed ps r)) (takes-question v t ts (sym e)) ∙
    ap whole (sym (resumed-push ps (pending.Condition v) (read (Level 0) ts)))

pub goes-nowhere : (ps : List Pending) (k : ℕ) (v : Worth) (ts : List Token) → goes_on k (first_link ts) ≡ false →
    whole (resumed ps (behind_operand k v ts)) ≡ whole (resumed ps (Some (v, ts)))
goes-nowhere ps k v ts h = ap (λ r. whole (resumed ps r)) (stays (11 - k) k v ts h)

-- a part is read

pub unmarked : (ps : List Pending) (text : List ℕ) (ts : List Token) (f : List Token → Read) → after_mark text ts ≡ None →
    whole (resumed ps (option_and_then f (after_mark text ts))) ≡ None
unmarked ps text ts f e = ap (λ o. whole (resumed ps (option_and_then f o))) e ∙ ap whole (resumed-none ps)

pub marked : (ps : List Pending) (text : List ℕ) (ts us : List Token) (f : List Token → Read) → after_mark text ts ≡ Some us →
    whole (resumed ps (option_and_then f (after_mark text ts))) ≡ whole (resumed ps (f us))
marked ps text ts us f e = ap (λ o. whole (resumed ps (option_and_then f o))) e
