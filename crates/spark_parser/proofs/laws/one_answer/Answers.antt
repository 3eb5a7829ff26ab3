use Rattle.spark_parser.proofs.OneAnswer.{one_told}
use Rattle.spark_parser.proofs.laws.one_answer.Goals as goal

pub returns : goal.returns
returns c = λ all us vs ms ns a b. one_told a b
