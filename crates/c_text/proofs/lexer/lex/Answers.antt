use Rattle.std.proofs.Common.{List, subst, ◌∙◌}
use Rattle.c_text.specs.declared.source.Placed.{Placed}
use Rattle.c_text.specs.Reading.{pieces}
use Rattle.c_text.specs.Answers.{Gives}
use Rattle.c_text.proofs.Cuts.{found, only, names, clean, refused, first, none}
use Rattle.c_text.proofs.lexer.lex.Goals as goal

pub returns : goal.returns
returns c =
    let is = c.deref-2.ensures.value ∙ c.in_ok-chars.ensures in
    let gives = subst (λ (chars : List Placed). Gives c.lex_pieces.result (pieces 0 chars)) is c.lex_pieces.ensures in
    record {
      found = found c.args.source.now c.lex_pieces.result gives;
      only = only c.args.source.now c.lex_pieces.result gives;
      names = names c.args.source.now c.lex_pieces.result gives;
      clean = clean c.args.source.now c.lex_pieces.result gives;
      refused = refused c.args.source.now c.lex_pieces.result gives;
      first = first c.args.source.now c.lex_pieces.result gives;
      none = none c.args.source.now c.lex_pieces.result gives;
    }
