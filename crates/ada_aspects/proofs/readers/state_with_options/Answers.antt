use Rattle.std.proofs.Common.{refl, arith}
use Rattle.ada_tree.specs.declared.words.Reserved.TheVariants as words
use Rattle.ada_grammar.specs.declared.tokens.Class.TheVariants as classes
use Rattle.ada_grammar.specs.Lexemes.{lexemes}
use Rattle.ada_grammar.specs.Parts as parts
use Rattle.ada_grammar.specs.Parts.{mark, word, Gives, Call, Rest}
use Rattle.ada_grammar.proofs.Steps.{start, seen, done}
use Rattle.ada_grammar.proofs.Answering.{misses_here, refuses}
use Rattle.ada_grammar.proofs.Joining.{fault_found, found}
use Rattle.ada_aspects.proofs.readers.state_with_options.Goals as goal

pub returns-in_err-name-clause-reads : goal.returns-in_err-name-clause-reads
returns-in_err-name-clause-reads c = λ ds hd. fault_found (parts.StateWithOptions ds) (lexemes c.args.tokens.now) c.args.cursor _ _ _ _ (misses_here (lexemes c.args.tokens.now) c.args.cursor c.args.cursor classes.Word _ c.requires.at (start (parts.StateWithOptions ds) _) refl (λ t. refl) c.in_err-name.ensures) c.from_residual.ensures.1

pub returns-in_err-behind_keyword-clause-reads : goal.returns-in_err-behind_keyword-clause-reads
returns-in_err-behind_keyword-clause-reads c = λ ds hd. fault_found (parts.StateWithOptions ds) (lexemes c.args.tokens.now) c.args.cursor _ _ _ _ (misses_here (lexemes c.args.tokens.now) c.args.cursor c.in_ok-name.behind_name (word words.With) _ (omega (arith, c.in_ok-name.ensures.place, c.in_ok-name.ensures.within)) (seen (start (parts.StateWithOptions ds) _) c.in_ok-name.ensures.takes refl) refl (λ t. refl) c.in_err-behind_keyword.ensures) c.from_residual-in_err-behind_keyword.ensures.1

pub returns-in_err-behind_balanced-clause-reads : goal.returns-in_err-behind_balanced-clause-reads
returns-in_err-behind_balanced-clause-reads c = λ ds hd. fault_found (parts.StateWithOptions ds) (lexemes c.args.tokens.now) c.args.cursor _ _ _ _ (refuses (lexemes c.args.tokens.now) c.args.cursor c.in_ok-behind_keyword.behind_keyword _ (seen (seen (start (parts.StateWithOptions ds) _) c.in_ok-name.ensures.takes refl) c.in_ok-behind_keyword.ensures.takes refl) (λ b. refl) c.in_err-behind_balanced.ensures) c.from_residual-in_err-behind_balanced.ensures.1

pub returns-clause-reads : goal.returns-clause-reads
returns-clause-reads c = λ ds hd. found (lexemes c.args.tokens.now) c.args.cursor c.in_ok-behind_balanced.behind_balanced (c.in_ok-declare.ensures.builds _ _ (c.new.ensures _ hd.ordered) hd) (omega (arith, c.in_ok-name.ensures.place, c.in_ok-behind_keyword.ensures.place, c.in_ok-behind_balanced.ensures.forward)) c.in_ok-behind_balanced.ensures.ends (done (seen (seen (start (parts.StateWithOptions ds) _) c.in_ok-name.ensures.takes refl) c.in_ok-behind_keyword.ensures.takes refl) c.in_ok-behind_balanced.ensures.reads (λ b. refl))

pub returns-clause-goes : goal.returns-clause-goes
returns-clause-goes c = record { forward = omega (arith, c.in_ok-name.ensures.place, c.in_ok-behind_keyword.ensures.place, c.in_ok-behind_balanced.ensures.forward); ends = c.in_ok-behind_balanced.ensures.ends }
