use Rattle.ada_tree.proofs.WordLaws as laws
use Rattle.ada_tree.proofs.laws.spelled_words.Goals as goal

pub returns : goal.returns
returns c = laws.spelled_words
