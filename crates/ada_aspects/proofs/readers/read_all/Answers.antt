use Rattle.std.proofs.Common.{refl, arith}
use Rattle.ada_tree.specs.declared.words.Reserved.TheVariants as words
use Rattle.ada_grammar.specs.Lexemes.{lexemes}
use Rattle.ada_grammar.specs.Parts as parts
use Rattle.ada_grammar.specs.Parts.{mark, word, Gives, Call, Rest}
use Rattle.ada_grammar.proofs.Steps.{start, seen}
use Rattle.ada_grammar.proofs.Answering.{misses_here}
use Rattle.ada_grammar.proofs.Joining.{fault_found, finds_last, goes_on}
use Rattle.ada_aspects.proofs.readers.read_all.Goals as goal

pub returns-in_err-behind_keyword-clause-reads : goal.returns-in_err-behind_keyword-clause-reads
returns-in_err-behind_keyword-clause-reads c = λ ds hd. fault_found (parts.Aspects ds) (lexemes c.args.tokens.now) c.args.cursor _ _ _ _ (misses_here (lexemes c.args.tokens.now) c.args.cursor c.args.cursor (word words.With) _ c.requires.at (start (parts.Aspects ds) _) refl (λ t. refl) c.in_err-behind_keyword.ensures) c.from_residual.ensures.1

pub returns-clause-reads : goal.returns-clause-reads
returns-clause-reads c = λ ds hd. finds_last (lexemes c.args.tokens.now) c.args.cursor c.in_ok-behind_keyword.behind_keyword _ _ _ (seen (start (parts.Aspects ds) _) c.in_ok-behind_keyword.ensures.takes refl) (omega (arith, c.in_ok-behind_keyword.ensures.place)) refl (c.behind_with.ensures.reads _ hd)

pub returns-clause-goes : goal.returns-clause-goes
returns-clause-goes c = goes_on (lexemes c.args.tokens.now) c.args.cursor c.in_ok-behind_keyword.behind_keyword _ (omega (arith, c.in_ok-behind_keyword.ensures.place)) c.behind_with.ensures.goes
