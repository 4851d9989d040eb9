use Rattle.std.proofs.Common.{◌≡◌, length}
use Rattle.c_text.specs.Source.{bytes_of}
use Rattle.c_text.specs.AloneQuotes.{AreAlone}
use Rattle.c_text.proofs.Steps.{SoFar}
use Rattle.c_text.proofs.lexer.lex_pieces.Given as goal

abbrev pub invariant-loop-begin : goal.invariant-loop-begin
invariant-loop-begin l = record { bytes : l.text ≡ bytes_of l.rest; alone : AreAlone l.alone l.text; so_far : SoFar l.chars l.out.items l.spaced l.first l.rest }

abbrev pub decreases-loop-begin : goal.decreases-loop-begin
decreases-loop-begin l = length l.rest
