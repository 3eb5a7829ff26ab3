use Rattle.std.proofs.Common.{refl}
use Rattle.ada_grammar.specs.Lexemes.{lexemes}
use Rattle.ada_grammar.proofs.Steps.{opened, done}
use Rattle.ada_grammar.proofs.Answering.{refuses}
use Rattle.spark_parser.proofs.FoundFiles.{fault_item}
use Rattle.spark_parser.proofs.files.file_pragma.Goals as goal

pub returns-in_err-next-clause-reads : goal.returns-in_err-next-clause-reads
returns-in_err-next-clause-reads c = λ first start old now os ds ho ha a. fault_item (lexemes c.args.tokens.now) start old now _ _ (refuses (lexemes c.args.tokens.now) start c.args.cursor _ (opened a) (λ b. refl) c.in_err-next.ensures) c.from_residual.ensures.1

pub returns-clause-reads : goal.returns-clause-reads
returns-clause-reads c = λ first start old now os ds ho ha a. record { own = os; read = ds; holds = ho; adds = ha; awaits = done (opened a) c.in_ok-next.ensures.reads (λ b. refl) }
