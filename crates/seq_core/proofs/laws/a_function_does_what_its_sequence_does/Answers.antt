use Rattle.seq_core.proofs.Bodies.{call_leads}
use Rattle.seq_core.proofs.laws.a_function_does_what_its_sequence_does.Goals as goal

pub returns : goal.returns
returns c = λ place name q h calls rows tables vs s o k same e. call_leads calls rows tables place name q h.0 h.1 h.2 vs same s o k e
