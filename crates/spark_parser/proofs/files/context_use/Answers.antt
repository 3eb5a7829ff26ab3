use Rattle.std.proofs.Common.{refl, arith}
use Rattle.ada_tree.specs.declared.words.Reserved.TheVariants as words
use Rattle.ada_grammar.specs.Lexemes.{lexeme, lexemes}
use Rattle.ada_grammar.specs.Parts.{word}
use Rattle.ada_grammar.proofs.Steps.{opened, seen, unseen, done}
use Rattle.ada_grammar.proofs.Answering.{passes_here, refuses}
use Rattle.ada_grammar.proofs.Joining.{absent, present}
use Rattle.spark_parser.proofs.FoundFiles.{adds_on, fault_item}
use Rattle.spark_parser.proofs.files.context_use.Goals as goal

pub returns-in_err-behind_keyword-clause-reads : goal.returns-in_err-behind_keyword-clause-reads
returns-in_err-behind_keyword-clause-reads c = λ start old os ds ho ha a. fault_item (lexemes c.args.tokens.now) start old _ _ _ (passes_here (lexemes c.args.tokens.now) start c.args.cursor (word words.Type) _ (opened a) (λ t. refl) c.in_err-behind_keyword.ensures) c.from_residual.ensures.1

pub returns-in_err-next-clause-reads : goal.returns-in_err-next-clause-reads
returns-in_err-next-clause-reads c = λ start old os ds ho ha a. fault_item (lexemes c.args.tokens.now) start old _ _ _ (refuses (lexemes c.args.tokens.now) start c.in-Some.behind_keyword _ (seen (opened a) (present (word words.Type) (lexeme c.args.tokens.now.source) (lexemes c.args.tokens.now) c.args.cursor c.in_ok-behind_keyword.ensures c.in-Some.is).takes refl) (λ b. refl) (c.in_err-next.ensures.reads _ ho)) c.from_residual-in_err-next.ensures.1

pub returns-in-Some-clause-reads : goal.returns-in-Some-clause-reads
returns-in-Some-clause-reads c = λ start old os ds ho ha a. let f = c.in_ok-next.ensures.reads _ ho in record { own = f.children; read = ds; holds = f.holds; adds = adds_on c.in_ok-next.ensures.grows ha; awaits = done (seen (opened a) (present (word words.Type) (lexeme c.args.tokens.now.source) (lexemes c.args.tokens.now) c.args.cursor c.in_ok-behind_keyword.ensures c.in-Some.is).takes refl) f.reads (λ b. refl) }

pub returns-in-Some-clause-goes : goal.returns-in-Some-clause-goes
returns-in-Some-clause-goes c = record { forward = omega (arith, (present (word words.Type) (lexeme c.args.tokens.now.source) (lexemes c.args.tokens.now) c.args.cursor c.in_ok-behind_keyword.ensures c.in-Some.is).place, c.in_ok-next.ensures.goes.forward); ends = c.in_ok-next.ensures.goes.ends }

pub returns-in_err-next-2-clause-reads : goal.returns-in_err-next-2-clause-reads
returns-in_err-next-2-clause-reads c = λ start old os ds ho ha a. fault_item (lexemes c.args.tokens.now) start old _ _ _ (refuses (lexemes c.args.tokens.now) start c.args.cursor _ (unseen (opened a) (absent (word words.Type) (lexeme c.args.tokens.now.source) (lexemes c.args.tokens.now) c.args.cursor c.in_ok-behind_keyword.ensures c.in_default.is)) (λ b. refl) (c.in_err-next-2.ensures.reads _ ho)) c.from_residual-in_err-next-2.ensures.1

pub returns-clause-reads : goal.returns-clause-reads
returns-clause-reads c = λ start old os ds ho ha a. let f = c.in_ok-next-2.ensures.reads _ ho in record { own = f.children; read = ds; holds = f.holds; adds = adds_on c.in_ok-next-2.ensures.grows ha; awaits = done (unseen (opened a) (absent (word words.Type) (lexeme c.args.tokens.now.source) (lexemes c.args.tokens.now) c.args.cursor c.in_ok-behind_keyword.ensures c.in_default.is)) f.reads (λ b. refl) }

pub returns-clause-goes : goal.returns-clause-goes
returns-clause-goes c = c.in_ok-next-2.ensures.goes
