use Rattle.std.proofs.Common.{false, None, Some, ap, sym, ◌∙◌}
use Rattle.ada_lexer.specs.Runs.{close, text_made}
use Rattle.ada_lexer.proofs.Here.{text_here, text_ends}
use Rattle.ada_lexer.proofs.pieces.text_piece.Goals as goal

pub returns-in-None-clause-piece : goal.returns-in-None-clause-piece
returns-in-None-clause-piece c ticked = sym (text_here c.args.bytes.now c.requires.some c.requires.quote ticked ∙ ap (text_made c.args.bytes.now) (ap (close false) (sym c.after.ensures) ∙ sym c.in-None.ensures.end))

pub returns-in-None-first_high-clause-piece : goal.returns-in-None-first_high-clause-piece
returns-in-None-first_high-clause-piece c ticked = sym (text_ends c.args.bytes.now c.requires.some c.requires.quote c.in-Some.n None (ap (close false) (sym c.after.ensures) ∙ sym c.in-Some.ensures.end) (sym c.in-None-first_high.ensures.first) ticked)

pub returns-in-Some-first_high-clause-piece : goal.returns-in-Some-first_high-clause-piece
returns-in-Some-first_high-clause-piece c ticked = sym (text_ends c.args.bytes.now c.requires.some c.requires.quote c.in-Some.n (Some c.in-Some-first_high.at) (ap (close false) (sym c.after.ensures) ∙ sym c.in-Some.ensures.end) (sym c.in-Some-first_high.ensures.first) ticked)
