-- What contracts see of the code's terms, one line a form.
use Rattle.std.specs.Prelude.{List, [], ◌∷◌, map, option_map}
use Rattle.seq_core.specs.declared.terms.Term.{Term as CodeTerm, fold-Term}
use Rattle.seq_core.specs.declared.terms.Term.TheOpen.{Term-F}
use Rattle.seq_core.specs.declared.terms.Seq.{Seq}
use Rattle.seq_core.specs.Terms.{Term, Terms, Param, Step, Const, Int, Call, PairOf, Half, Scalar, Convert, Choice, Shifted, ByteAt, SetByte, NoTerms, More, Sequence}

abbrev pub in_row : List Term → Terms
in_row [] = NoTerms
in_row (t ∷ rest) = More t (in_row rest)

abbrev pub term_step : Term-F Term → Term
term_step (Term-F.Param n) = Param n
term_step (Term-F.Step n) = Step n
term_step (Term-F.Const r) = Const r
term_step (Term-F.Int n) = Int n
term_step (Term-F.Call op all imm) = Call op (in_row all.items) imm
term_step (Term-F.PairOf a b) = PairOf a.value b.value
term_step (Term-F.Half a k) = Half a.value k
term_step (Term-F.Scalar o a b) = Scalar o a.value b.value
term_step (Term-F.Convert t a) = Convert t a.value
term_step (Term-F.Choice c a b) = Choice c.value a.value b.value
term_step (Term-F.Shifted a b) = Shifted a.value b.value
term_step (Term-F.ByteAt a) = ByteAt a.value
term_step (Term-F.SetByte a b) = SetByte a.value b.value

-- a term
abbrev pub view : CodeTerm → Term
view = fold-Term Term term_step

-- terms in a row
abbrev pub view_all : List CodeTerm → Terms
view_all all = in_row (map view all)

-- a sequence
abbrev pub view_seq : Seq → Sequence
view_seq s = record { params = s.params.items; steps = map view s.steps.items; result = option_map view s.result }
