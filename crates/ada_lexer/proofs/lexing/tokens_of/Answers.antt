use Rattle.std.proofs.Common.{◌≡◌, ◌+◌, length, drop, false, length-take, ap, sym, subst, ◌∙◌, arith}
use Rattle.ada_lexer.specs.Cut.{piece_at, cut_from, after_tokens, place}
use Rattle.ada_lexer.specs.Answer.{Fails}
use Rattle.ada_lexer.proofs.Cuts.{one_piece, one_fault, place_step, some_left, piece_within, spanned, place_end}
use Rattle.ada_lexer.proofs.lexing.tokens_of.Goals as goal

pub loop-at-preserved : goal.loop-at-preserved
loop-at-preserved c =
    let stepped : c.moved-end.result ≡ place c.args.bytes.now (c.loop-at.at + c.in-Ok.piece.len) = place_step c.args.bytes.now c.loop-at.at c.in-Ok.piece.len c.loop-at.place c.moved-end.result c.after-rest.result.now c.front.result.now
    c.moved-end.ensures.place c.front.ensures c.after-rest.ensures c.loop-at.invariant.place in
    record {
      within = piece_within c.args.bytes.now c.after-rest.result.now c.loop-at.at c.in-Ok.piece.len c.loop-at.invariant.within c.after-rest.ensures c.in-Ok.ensures.within.1;
      cut = ap (λ t. after_tokens c.add.new.tokens (cut_from c.args.file c.args.bytes.now (c.loop-at.at + c.in-Ok.piece.len) 0 t (drop (c.loop-at.at + c.in-Ok.piece.len) c.args.bytes.now))) c.ticks-ticked.ensures
          ∙ one_piece c.args.file c.args.bytes.now c.loop-at.at c.loop-at.ticked c.loop-at.tokens c.add.new.tokens c.in-Ok.piece _ (cut_from c.args.file c.args.bytes.now 0 0 false c.args.bytes.now)
          (some_left c.args.bytes.now c.loop-at.at c.loop-at-test.true) (ap (piece_at c.loop-at.ticked) (sym c.after-rest.ensures) ∙ sym c.in-Ok.ensures.piece) c.in-Ok.ensures.within.0 c.loop-at.invariant.cut
          (spanned c.args.file c.args.bytes.now c.loop-at.at c.in-Ok.piece.len c.loop-at.place c.moved-end.result c.loop-at.invariant.place stepped) c.in_ok-add-in-Ok.ensures;
      place = stepped;
      line = omega (arith, length-take c.in-Ok.piece.len c.after-rest.result.now, ap length c.front.ensures, c.moved-end.ensures.line, c.in-Ok.ensures.within.1, c.loop-at.invariant.line);
      col = omega (arith, length-take c.in-Ok.piece.len c.after-rest.result.now, ap length c.front.ensures, c.moved-end.ensures.col, c.in-Ok.ensures.within.1, c.loop-at.invariant.col);
    }

pub returns-in-Err-clause-err : goal.returns-in-Err-clause-err
returns-in-Err-clause-err c = subst (Fails c.args.file c.refused.result) (sym (one_fault c.args.file c.args.bytes.now c.loop-at.at c.loop-at.ticked c.loop-at.tokens c.in-Err.fault (cut_from c.args.file c.args.bytes.now 0 0 false c.args.bytes.now) c.moved.result
    (some_left c.args.bytes.now c.loop-at.at c.loop-at-test.true) (ap (piece_at c.loop-at.ticked) (sym c.after-rest.ensures) ∙ sym c.in-Err.ensures.piece) c.loop-at.invariant.cut
    (place_step c.args.bytes.now c.loop-at.at c.in-Err.fault.at c.loop-at.place c.moved.result c.after-rest.result.now c.front-in-Err.result.now c.moved.ensures.place c.front-in-Err.ensures c.after-rest.ensures c.loop-at.invariant.place))) c.refused.ensures

pub returns-clause-end : goal.returns-clause-end
returns-clause-end c = place_end c.args.bytes.now c.loop-at.at c.loop-at.place c.loop-at.invariant.place c.loop-at.invariant.within c.loop-at-test.false
