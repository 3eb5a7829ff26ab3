use Rattle.std.proofs.Common.{refl, arith}
use Rattle.ada_tree.specs.declared.token.Mark.TheVariants as marks
use Rattle.ada_grammar.specs.Lexemes.{lexeme, lexemes}
use Rattle.ada_grammar.specs.Parts as parts
use Rattle.ada_grammar.specs.Parts.{mark, word, Gives, Call, Rest}
use Rattle.ada_grammar.proofs.Steps.{start, seen, unseen, done}
use Rattle.ada_grammar.proofs.Answering.{passes_here, refuses}
use Rattle.ada_grammar.proofs.Joining.{absent, present, fault_found, found}
use Rattle.ada_aspects.proofs.readers.skipped_aspect.Goals as goal

pub returns-in_err-behind_arrow-clause-reads : goal.returns-in_err-behind_arrow-clause-reads
returns-in_err-behind_arrow-clause-reads c = λ ds hd. fault_found (parts.SkippedAspect c.args.defined c.args.alone (lexeme c.args.tokens.now.source c.args.name) ds) (lexemes c.args.tokens.now) c.args.cursor _ _ _ _ (passes_here (lexemes c.args.tokens.now) c.args.cursor c.args.cursor (mark marks.Arrow) _ (start (parts.SkippedAspect c.args.defined c.args.alone (lexeme c.args.tokens.now.source c.args.name) ds) _) (λ t. refl) c.in_err-behind_arrow.ensures) c.from_residual.ensures.1

pub returns-in_err-behind_skipped_tokens-clause-reads : goal.returns-in_err-behind_skipped_tokens-clause-reads
returns-in_err-behind_skipped_tokens-clause-reads c = λ ds hd. fault_found (parts.SkippedAspect c.args.defined c.args.alone (lexeme c.args.tokens.now.source c.args.name) ds) (lexemes c.args.tokens.now) c.args.cursor _ _ _ _ (refuses (lexemes c.args.tokens.now) c.args.cursor c.in-Some.behind_arrow _ (seen (start (parts.SkippedAspect c.args.defined c.args.alone (lexeme c.args.tokens.now.source c.args.name) ds) _) (present (mark marks.Arrow) (lexeme c.args.tokens.now.source) (lexemes c.args.tokens.now) c.args.cursor c.in_ok-behind_arrow.ensures c.in-Some.is).takes refl) (λ b. refl) c.in_err-behind_skipped_tokens.ensures) c.from_residual-in_err-behind_skipped_tokens.ensures.1

pub returns-in-Some-clause-reads : goal.returns-in-Some-clause-reads
returns-in-Some-clause-reads c = λ ds hd. found (lexemes c.args.tokens.now) c.args.cursor c.in_ok-behind_skipped_tokens.behind_skipped_tokens (c.in_ok-add_named_aspect.ensures.builds _ _ (c.new.ensures _ hd.ordered) hd) (omega (arith, (present (mark marks.Arrow) (lexeme c.args.tokens.now.source) (lexemes c.args.tokens.now) c.args.cursor c.in_ok-behind_arrow.ensures c.in-Some.is).place, c.in_ok-behind_skipped_tokens.ensures.forward)) c.in_ok-behind_skipped_tokens.ensures.ends (done (seen (start (parts.SkippedAspect c.args.defined c.args.alone (lexeme c.args.tokens.now.source c.args.name) ds) _) (present (mark marks.Arrow) (lexeme c.args.tokens.now.source) (lexemes c.args.tokens.now) c.args.cursor c.in_ok-behind_arrow.ensures c.in-Some.is).takes refl) c.in_ok-behind_skipped_tokens.ensures.reads (λ b. refl))

pub returns-in-Some-clause-goes : goal.returns-in-Some-clause-goes
returns-in-Some-clause-goes c = record { forward = omega (arith, (present (mark marks.Arrow) (lexeme c.args.tokens.now.source) (lexemes c.args.tokens.now) c.args.cursor c.in_ok-behind_arrow.ensures c.in-Some.is).place, c.in_ok-behind_skipped_tokens.ensures.forward); ends = c.in_ok-behind_skipped_tokens.ensures.ends }

pub returns-clause-reads : goal.returns-clause-reads
returns-clause-reads c = λ ds hd. found (lexemes c.args.tokens.now) c.args.cursor c.args.cursor (c.in_ok-add_named_aspect-2.ensures.builds _ _ (c.new-2.ensures _ hd.ordered) hd) (omega arith) c.requires.at (unseen (start (parts.SkippedAspect c.args.defined c.args.alone (lexeme c.args.tokens.now.source c.args.name) ds) _) (absent (mark marks.Arrow) (lexeme c.args.tokens.now.source) (lexemes c.args.tokens.now) c.args.cursor c.in_ok-behind_arrow.ensures c.in_default.is))

pub returns-clause-goes : goal.returns-clause-goes
returns-clause-goes c = record { forward = omega arith; ends = c.requires.at }
