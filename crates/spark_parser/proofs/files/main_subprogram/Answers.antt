use Rattle.std.proofs.Common.{refl}
use Rattle.ada_grammar.specs.Lexemes.{lexemes}
use Rattle.ada_grammar.specs.Phrases as phrases
use Rattle.ada_grammar.proofs.Steps.{opened, done}
use Rattle.ada_grammar.proofs.Answering.{refuses}
use Rattle.spark_parser.proofs.FoundFiles.{adds_unit, fault_item}
use Rattle.spark_parser.proofs.files.main_subprogram.Goals as goal

pub returns-in_err-next-clause-reads : goal.returns-in_err-next-clause-reads
returns-in_err-next-clause-reads c = λ first start old os ds ho ha a. fault_item (lexemes c.args.tokens.now) start old _ _ _ (refuses (lexemes c.args.tokens.now) start c.args.cursor _ (opened a) (λ b. refl) (c.in_err-next.ensures.reads _ _ ho)) c.from_residual.ensures.1

pub returns-clause-reads : goal.returns-clause-reads
returns-clause-reads c = λ first start old os ds ho ha a. let f = c.in_ok-next.ensures.reads _ ds ho in record { own = phrases.none; read = phrases.with_unit ds f.tree; holds = c.new.ensures _ f.ordered; adds = adds_unit c.in_ok-next.ensures.widens c.in_ok-next.ensures.one f.stands ha; awaits = done (opened a) f.reads (λ b. refl) }
