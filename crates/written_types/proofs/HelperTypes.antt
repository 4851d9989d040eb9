-- The heading of the function that is written for a sequence: its result is the sequence's type, and its parameters are the sequence's.
use Rattle.std.proofs.Common.{◌≡◌, refl, sym, ap, ◌∙◌, subst, ℕ, zero, suc, ◌+◌, Bool, true, false, List, [], ◌∷◌, ◌++◌, map, Option, Some, None, if◌then◌else◌}
use Rattle.std.specs.Prelude.{get_or, slice_get, replicate}
use Rattle.std.specs.Option.{unwrap_or}
use Rattle.std.specs.Str.{bytes_eq}
use Rattle.c_text.specs.declared.tokens.Dialect.TheVariants.{Neon}
use Rattle.c_text.specs.declared.tokens.Place.{Place}
use Rattle.c_tree.specs.declared.types.CType.{CType}
use Rattle.c_tree.specs.Tree as tree
use Rattle.c_tree.specs.Tree.{Tree, Node}
use Rattle.c_memory.specs.Matching.{written_type}
use Rattle.c_memory.specs.Meaning as meaning
use Rattle.lane_core.specs.Register.{lane}
use Rattle.type_rules.specs.declared.passing.Parameter.{Parameter}
use Rattle.type_rules.specs.declared.passing.Parameter.TheVariants as passing
use Rattle.type_rules.specs.Types.{read_type}
use Rattle.type_rules.specs.Passing.{Heading}
use Rattle.vector_types.specs.Functions.{parameter_of, heading_of}
use Rattle.seq_core.specs.Rows.{combine}
use Rattle.seq_core.specs.Terms as term
use Rattle.seq_core.specs.Terms.{Term, Sequence}
use Rattle.seq_core.specs.Formed.{vector, type_of, operator_type, to_bytes, given_type, type_behind, sequence_type}
use Rattle.seq_core.specs.Written.{Pen, pen, nothing, zeros, eight, call, constant, written}
use Rattle.seq_core.specs.Functions.{Variable, variable, param_name, params_from, named, pen_over, object_of, step_variable, steps_after, result_type, start, function_of}
use Rattle.written_types.proofs.Types.{read_type_written}

abbrev types : List Tree → List CType
types all = map meaning.type_of all

abbrev variables : List Variable → List CType
variables all = map (λ v. v.ty) all

-- the type of the expression that stands for a parameter or a step
found : (place : Place) (all : List Tree) (n : ℕ) → meaning.type_of (get_or all n (nothing place)) ≡ unwrap_or (slice_get (types all) n) CType.Void
found place [] n = refl
found place (a ∷ rest) zero = refl
found place (a ∷ rest) (suc n) = found place rest n

constant_type : (place : Place) (r : List ℕ) (b : Bool) → meaning.type_of (if b then zeros place else call place combine (tree.More (eight place (lane 8 r 0)) (tree.More (eight place (lane 8 r 1)) tree.NoTrees))) ≡ vector
constant_type place r true = refl
constant_type place r false = refl

-- the type of what is written for a term is the term's
term_type : (place : Place) (ps ss : List Tree) (t : Term) → meaning.type_of (written (pen place ps ss) t) ≡ type_of (types ps) (types ss) t
term_type place ps ss (term.Param n) = found place ps n
term_type place ps ss (term.Step n) = found place ss n
term_type place ps ss (term.Const r) = constant_type place r (bytes_eq r (replicate 16 0))
term_type place ps ss (term.Int n) = refl
term_type place ps ss (term.Call op all imm) = refl
term_type place ps ss (term.PairOf a b) = refl
term_type place ps ss (term.Half a k) = refl
term_type place ps ss (term.Scalar o a b) = ap (operator_type o) (term_type place ps ss a)
term_type place ps ss (term.Convert t a) = refl
term_type place ps ss (term.Choice c a b) = term_type place ps ss a
term_type place ps ss (term.Shifted a b) = ap to_bytes (term_type place ps ss a)
term_type place ps ss (term.ByteAt a) = refl
term_type place ps ss (term.SetByte a b) = refl

named_types : (place : Place) (all : List Variable) → types (map (named place) all) ≡ variables all
named_types place [] = refl
named_types place (v ∷ rest) = ap (λ z. v.ty ∷ z) (named_types place rest)

over_type : (place : Place) (ps ss : List Variable) (t : Term) → meaning.type_of (written (pen_over place ps ss) t) ≡ type_of (variables ps) (variables ss) t
over_type place ps ss t =
    term_type place (map (named place) ps) (map (named place) ss) t ∙ ap (λ z. type_of z (types (map (named place) ss)) t) (named_types place ps) ∙ ap (λ z. type_of (variables ps) z t) (named_types place ss)

one_more : (all : List Variable) (v : Variable) → variables (all ++ v ∷ []) ≡ variables all ++ v.ty ∷ []
one_more [] v = refl
one_more (u ∷ rest) v = ap (λ z. u.ty ∷ z) (one_more rest v)

given : (place : Place) (ps ss : List Variable) (r : Option Term) → result_type (pen_over place ps ss) r ≡ given_type (variables ps) (variables ss) r
given place ps ss None = refl
given place ps ss (Some t) = over_type place ps ss t

behind : (place : Place) (ps ss : List Variable) (steps : List Term) (r : Option Term) → result_type (pen_over place ps (steps_after place ps ss steps)) r ≡ type_behind (variables ps) (variables ss) steps r
behind place ps ss [] r = given place ps ss r
behind place ps ss (t ∷ rest) r =
    let v = step_variable place ps ss t in
    behind place ps (ss ++ v ∷ []) rest r ∙ ap (λ z. type_behind (variables ps) z rest r) (one_more ss v ∙ ap (λ z. variables ss ++ z ∷ []) (over_type place ps ss t))

params_types : (k : ℕ) (ts : List CType) → variables (params_from k ts) ≡ ts
params_types k [] = refl
params_types k (t ∷ ts) = ap (λ z. t ∷ z) (params_types (k + 1) ts)

pub result_is : (place : Place) (x : List ℕ) (q : Sequence) → (function_of place x q).result ≡ sequence_type q
result_is place x q = behind place (params_from 0 q.params) [] q.steps q.result ∙ ap (λ z. type_behind z [] q.steps q.result) (params_types 0 q.params)

-- parameters of written types are read as they are
params_read : (k : ℕ) (ts : List CType) → map (parameter_of Neon) (map (λ v. object_of start v None) (params_from k (map written_type ts))) ≡ map passing.Object (map written_type ts)
params_read k [] = refl
params_read k (t ∷ ts) = ap (λ z. passing.Object z ∷ map (parameter_of Neon) (map (λ v. object_of start v None) (params_from (k + 1) (map written_type ts)))) (read_type_written t)
    ∙ ap (λ z. passing.Object (written_type t) ∷ z) (params_read (k + 1) ts)

abbrev heading_with : CType → List Parameter → Heading
heading_with t ps = record { result = t; params = ps }

abbrev pub heading_made : CType → List CType → Heading
heading_made t ts = record { result = t; params = map passing.Object ts }

pub helper_heading : (x : List ℕ) (q : Sequence) (ts : List CType) (t : CType) → q.params ≡ map written_type ts → sequence_type q ≡ written_type t
    → heading_of Neon (function_of start x q) ≡ heading_made (written_type t) (map written_type ts)
helper_heading x q ts t h g =
    let params : (heading_of Neon (function_of start x q)).params ≡ map passing.Object (map written_type ts) =
    ap (λ z. map (parameter_of Neon) (map (λ v. object_of start v None) (params_from 0 z))) h ∙ params_read 0 ts in
    let result : (heading_of Neon (function_of start x q)).result ≡ written_type t = ap (read_type Neon) (result_is start x q ∙ g) ∙ read_type_written t in
    ap (λ z. heading_with z (heading_of Neon (function_of start x q)).params) result ∙ ap (heading_with (written_type t)) params
