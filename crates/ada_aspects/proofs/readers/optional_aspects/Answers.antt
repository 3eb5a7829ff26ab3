use Rattle.std.proofs.Common.{refl, arith}
use Rattle.ada_tree.specs.declared.words.Reserved.TheVariants as words
use Rattle.ada_grammar.specs.Lexemes.{lexeme, lexemes}
use Rattle.ada_grammar.specs.Parts as parts
use Rattle.ada_grammar.specs.Parts.{mark, word, Gives, Call, Rest}
use Rattle.ada_grammar.proofs.Steps.{start, seen, unseen}
use Rattle.ada_grammar.proofs.Answering.{passes_here}
use Rattle.ada_grammar.proofs.Joining.{absent, present, fault_found, found, finds_last, goes_on}
use Rattle.ada_aspects.proofs.readers.optional_aspects.Goals as goal

pub returns-in_err-behind_keyword-clause-reads : goal.returns-in_err-behind_keyword-clause-reads
returns-in_err-behind_keyword-clause-reads c = λ ds hd. fault_found (parts.OptionalAspects ds) (lexemes c.args.tokens.now) c.args.cursor _ _ _ _ (passes_here (lexemes c.args.tokens.now) c.args.cursor c.args.cursor (word words.With) _ (start (parts.OptionalAspects ds) _) (λ t. refl) c.in_err-behind_keyword.ensures) c.from_residual.ensures.1

pub returns-in-Some-clause-reads : goal.returns-in-Some-clause-reads
returns-in-Some-clause-reads c = λ ds hd. finds_last (lexemes c.args.tokens.now) c.args.cursor c.in-Some.behind_keyword _ _ _ (seen (start (parts.OptionalAspects ds) _) (present (word words.With) (lexeme c.args.tokens.now.source) (lexemes c.args.tokens.now) c.args.cursor c.in_ok-behind_keyword.ensures c.in-Some.is).takes refl) (omega (arith, (present (word words.With) (lexeme c.args.tokens.now.source) (lexemes c.args.tokens.now) c.args.cursor c.in_ok-behind_keyword.ensures c.in-Some.is).place)) refl (c.behind_with.ensures.reads _ hd)

pub returns-in-Some-clause-goes : goal.returns-in-Some-clause-goes
returns-in-Some-clause-goes c = goes_on (lexemes c.args.tokens.now) c.args.cursor c.in-Some.behind_keyword _ (omega (arith, (present (word words.With) (lexeme c.args.tokens.now.source) (lexemes c.args.tokens.now) c.args.cursor c.in_ok-behind_keyword.ensures c.in-Some.is).place)) c.behind_with.ensures.goes

pub returns-clause-reads : goal.returns-clause-reads
returns-clause-reads c = λ ds hd. found (lexemes c.args.tokens.now) c.args.cursor c.args.cursor hd (omega arith) c.requires.at (unseen (start (parts.OptionalAspects ds) _) (absent (word words.With) (lexeme c.args.tokens.now.source) (lexemes c.args.tokens.now) c.args.cursor c.in_ok-behind_keyword.ensures c.in_default.is))

pub returns-clause-goes : goal.returns-clause-goes
returns-clause-goes c = record { forward = omega arith; ends = c.requires.at }
