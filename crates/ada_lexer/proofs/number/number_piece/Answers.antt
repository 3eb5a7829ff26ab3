use Rattle.ada_lexer.proofs.Numbers.{number_found}
use Rattle.ada_lexer.proofs.number.number_piece.Goals as goal

pub returns-clause-piece : goal.returns-clause-piece
returns-clause-piece c = number_found c.args.bytes.now c.after-first.result.now c.front-digits.result.now c.after-tail.result.now c.front-number.result.now c.after-rest.result.now c.parted_len-k.result c.base_of-base.result c.tail_len.result c.judged.result c.requires.some c.requires.digit c.after-first.ensures c.parted_len-k.ensures.len c.front-digits.ensures c.base_of-base.ensures.base c.after-tail.ensures c.tail_len.ensures.len c.front-number.ensures c.after-rest.ensures c.judged.ensures.piece
