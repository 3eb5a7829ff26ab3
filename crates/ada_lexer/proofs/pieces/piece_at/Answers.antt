use Rattle.std.proofs.Common.{sym, ◌∙◌, arith}
use Rattle.ada_lexer.proofs.Here.{other_here}
use Rattle.ada_lexer.proofs.pieces.piece_at.Goals as goal

pub returns-else-is_comment-clause-piece : goal.returns-else-is_comment-clause-piece
returns-else-is_comment-clause-piece c = c.other_piece.ensures.piece ∙ sym (other_here c.args.bytes.now c.requires
    (record { white = sym c.is_white.ensures ∙ c.if-is_white.false; letter = sym c.is_letter.ensures ∙ c.if-is_letter.false; digit = sym c.is_digit.ensures ∙ c.if-is_digit.false; quote = omega arith })
    (c.is_comment.ensures.no c.if-is_comment.false) c.args.ticked)
