use Rattle.std.proofs.Common.{refl, arith}
use Rattle.ada_grammar.specs.declared.tokens.Class.TheVariants as classes
use Rattle.ada_grammar.specs.Lexemes.{lexemes}
use Rattle.ada_grammar.specs.Parts as parts
use Rattle.ada_grammar.specs.Parts.{mark, word, Gives, Call, Rest}
use Rattle.ada_grammar.proofs.Steps.{start, seen}
use Rattle.ada_grammar.proofs.Answering.{misses_here}
use Rattle.ada_grammar.proofs.Joining.{fault_found, finds_last, goes_on}
use Rattle.ada_aspects.proofs.readers.aspect.Goals as goal

pub returns-in_err-name-clause-reads : goal.returns-in_err-name-clause-reads
returns-in_err-name-clause-reads c = λ ds hd. fault_found (parts.Aspect ds) (lexemes c.args.tokens.now) c.args.cursor _ _ _ _ (misses_here (lexemes c.args.tokens.now) c.args.cursor c.args.cursor classes.Word _ c.requires.at (start (parts.Aspect ds) _) refl (λ t. refl) c.in_err-name.ensures) c.from_residual.ensures.1

pub returns-clause-reads : goal.returns-clause-reads
returns-clause-reads c = λ ds hd. finds_last (lexemes c.args.tokens.now) c.args.cursor c.in_ok-name.behind_name _ _ _ (seen (start (parts.Aspect ds) _) c.in_ok-name.ensures.takes refl) (omega (arith, c.in_ok-name.ensures.place)) refl (c.aspect_of.ensures.reads _ hd)

pub returns-clause-goes : goal.returns-clause-goes
returns-clause-goes c = goes_on (lexemes c.args.tokens.now) c.args.cursor c.in_ok-name.behind_name _ (omega (arith, c.in_ok-name.ensures.place)) c.aspect_of.ensures.goes
