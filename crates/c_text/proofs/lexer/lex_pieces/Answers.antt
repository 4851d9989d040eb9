use Rattle.std.proofs.Common.{◌+◌, length, ap, sym, ◌∙◌, arith}
use Rattle.c_text.proofs.Quotes.{alone_first, alone_next, text_begins, joined_at}
use Rattle.c_text.proofs.Steps.{length-bytes_of, bytes_behind, spelled, bytes_after, pieces_next, so_far_next, so_far_end, so_far_fault, no_first}
use Rattle.c_text.proofs.lexer.lex_pieces.Goals as goal

pub piece_at-sort-requires : goal.piece_at-sort-requires
piece_at-sort-requires c =
    let is = c.in-Some.ensures.cases.0 in
    let behind = bytes_behind c.loop-begin.text.now _ c.loop-begin.rest.now c.in-Some.behind.now _ c.loop-begin.invariant.bytes is c.behind_first-bytes_behind.ensures in
    let begins = text_begins c.loop-begin.text.now _ c.loop-begin.rest.now c.in-Some.behind.now c.in-Some.begin.now c.loop-begin.invariant.bytes is behind in
    λ known. alone_first c.loop-begin.alone c.loop-begin.text.now _ c.in-Some.begin.now.byte c.loop-begin.invariant.alone begins (sym c.is_alone-is_alone.ensures ∙ known)

pub split_at-requires : goal.split_at-requires
split_at-requires c =
    let behind = bytes_behind c.loop-begin.text.now _ c.loop-begin.rest.now c.in-Some.behind.now _ c.loop-begin.invariant.bytes c.in-Some.ensures.cases.0 c.behind_first-bytes_behind.ensures in
    omega (arith, c.piece_at-sort.ensures.within, ap length behind, length-bytes_of c.in-Some.behind.now)

pub loop-begin-preserved : goal.loop-begin-preserved
loop-begin-preserved c =
    let is = c.in-Some.ensures.cases.0 in
    let behind = bytes_behind c.loop-begin.text.now _ c.loop-begin.rest.now c.in-Some.behind.now _ c.loop-begin.invariant.bytes is c.behind_first-bytes_behind.ensures in
    let begins = text_begins c.loop-begin.text.now _ c.loop-begin.rest.now c.in-Some.behind.now c.in-Some.begin.now c.loop-begin.invariant.bytes is behind in
    let parts = joined_at (c.piece_at-sort.result.1 + 1) c.loop-begin.text.now c.split_at-in-Some.result.0.now c.split_at-in-Some.result.1.now c.split_at-in-Some.ensures.front c.split_at-in-Some.ensures.back in
    let alone = alone_next c.loop-begin.alone c.loop-begin.text.now _ c.split_at-in-Some.result.0.now c.split_at-in-Some.result.1.now c.in-Some.begin.now.byte c.piece_at-sort.result c.loop-begin.invariant.alone begins c.piece_at-sort.ensures.value parts in
    let next = pieces_next c.loop-begin.rest.now c.in-Some.behind.now c.split_at.result.0.now c.split_at.result.1.now _ c.in-Some.begin.now c.piece_at-sort.result is behind c.piece_at-sort.ensures.value c.split_at.ensures.front c.split_at.ensures.back in
    let bytes = spelled c.loop-begin.text.now c.split_at-in-Some.result.0.now c.loop-begin.rest.now c.in-Some.behind.now c.split_at.result.0.now c.in-Some.begin.now c.piece_at-sort.result.1 c.loop-begin.invariant.bytes is c.split_at-in-Some.ensures.front c.split_at.ensures.front in
    record {
      bytes = bytes_after c.loop-begin.text.now _ c.loop-begin.rest.now c.in-Some.behind.now c.split_at.result.1.now c.in-Some.begin.now c.piece_at-sort.result.1 c.loop-begin.invariant.bytes is c.split_at-in-Some.ensures.back c.split_at.ensures.back;
      alone = rw c.alone_behind-alone.ensures alone;
      so_far = so_far_next c.args.chars.now c.loop-begin.rest.now c.split_at.result.1.now c.split_at.result.0.now c.in-Some.begin.now c.piece_at-sort.result.0 c.split_at-in-Some.result.0.now c.loop-begin.out.items c.push_token.new.out.items c.loop-begin.spaced c.loop-begin.first _ _
          c.loop-begin.invariant.so_far next (no_first _ c.in_default-fault_in.ensures) bytes c.in_ok-push_token.ensures c.is_white-spaced.ensures c.first_behind-first.ensures;
    }

pub returns-in-Some-fault_in : goal.returns-in-Some-fault_in
returns-in-Some-fault_in c =
    let is = c.in-Some.ensures.cases.0 in
    let behind = bytes_behind c.loop-begin.text.now _ c.loop-begin.rest.now c.in-Some.behind.now _ c.loop-begin.invariant.bytes is c.behind_first-bytes_behind.ensures in
    let next = pieces_next c.loop-begin.rest.now c.in-Some.behind.now c.split_at.result.0.now c.split_at.result.1.now _ c.in-Some.begin.now c.piece_at-sort.result is behind c.piece_at-sort.ensures.value c.split_at.ensures.front c.split_at.ensures.back in
    let bytes = spelled c.loop-begin.text.now c.split_at-in-Some.result.0.now c.loop-begin.rest.now c.in-Some.behind.now c.split_at.result.0.now c.in-Some.begin.now c.piece_at-sort.result.1 c.loop-begin.invariant.bytes is c.split_at-in-Some.ensures.front c.split_at.ensures.front in
    so_far_fault c.args.chars.now c.loop-begin.rest.now c.split_at.result.1.now c.split_at.result.0.now c.in-Some.begin.now c.piece_at-sort.result.0 c.loop-begin.out.items c.loop-begin.spaced c.loop-begin.first _ c.refuse.result
    c.loop-begin.invariant.so_far next c.in-Some-fault_in.ensures (rw (← bytes) c.refuse.ensures)

pub returns : goal.returns
returns c = so_far_end c.args.chars.now _ _ _ _ c.loop-begin.invariant.so_far c.in_default.ensures.cases
