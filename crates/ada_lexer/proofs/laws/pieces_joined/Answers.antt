use Rattle.ada_lexer.proofs.CutLaws.{lexed_cut, cut_lexed}
use Rattle.ada_lexer.proofs.laws.pieces_joined.Goals as goal

pub returns : goal.returns
returns c file source tokens = (lexed_cut file source tokens, cut_lexed file source tokens)
