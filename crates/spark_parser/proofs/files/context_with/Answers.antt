use Rattle.std.proofs.Common.{refl}
use Rattle.ada_grammar.specs.Lexemes.{lexemes}
use Rattle.ada_grammar.proofs.Steps.{opened, done}
use Rattle.ada_grammar.proofs.Answering.{refuses}
use Rattle.spark_parser.proofs.FoundFiles.{adds_on, fault_item}
use Rattle.spark_parser.proofs.files.context_with.Goals as goal

pub returns-in_err-next-clause-reads : goal.returns-in_err-next-clause-reads
returns-in_err-next-clause-reads c = λ start old os ds ho ha a. fault_item (lexemes c.args.tokens.now) start old _ _ _ (refuses (lexemes c.args.tokens.now) start c.args.cursor _ (opened a) (λ b. refl) (c.in_err-next.ensures.reads _ ho)) c.from_residual.ensures.1

pub returns-clause-reads : goal.returns-clause-reads
returns-clause-reads c = λ start old os ds ho ha a. let f = c.in_ok-next.ensures.reads _ ho in record { own = f.children; read = ds; holds = f.holds; adds = adds_on c.in_ok-next.ensures.grows ha; awaits = done (opened a) f.reads (λ b. refl) }
