use Rattle.std.proofs.Common.{refl, arith}
use Rattle.ada_grammar.specs.declared.tokens.Class.TheVariants as classes
use Rattle.ada_grammar.specs.Lexemes.{lexemes}
use Rattle.ada_grammar.specs.Parts as parts
use Rattle.ada_grammar.specs.Parts.{mark, word, Gives, Call, Rest}
use Rattle.ada_grammar.proofs.Steps.{start, seen, done}
use Rattle.ada_grammar.proofs.Answering.{misses_here, refuses}
use Rattle.ada_grammar.proofs.Joining.{fault_found, found}
use Rattle.ada_aspects.proofs.readers.part_of.Goals as goal

pub returns-in_err-name-clause-reads : goal.returns-in_err-name-clause-reads
returns-in_err-name-clause-reads c = λ ds hd. fault_found (parts.PartOf ds) (lexemes c.args.tokens.now) c.args.cursor _ _ _ _ (misses_here (lexemes c.args.tokens.now) c.args.cursor c.args.cursor classes.Word _ c.requires.at (start (parts.PartOf ds) _) refl (λ t. refl) c.in_err-name.ensures) c.from_residual.ensures.1

pub returns-in_err-behind_whole_name-clause-reads : goal.returns-in_err-behind_whole_name-clause-reads
returns-in_err-behind_whole_name-clause-reads c = λ ds hd. fault_found (parts.PartOf ds) (lexemes c.args.tokens.now) c.args.cursor _ _ _ _ (refuses (lexemes c.args.tokens.now) c.args.cursor c.in_ok-name.behind_name _ (seen (start (parts.PartOf ds) _) c.in_ok-name.ensures.takes refl) (λ b. refl) (c.in_err-behind_whole_name.ensures.reads _ hd)) c.from_residual-in_err-behind_whole_name.ensures.1

pub returns-clause-reads : goal.returns-clause-reads
returns-clause-reads c = λ ds hd. let f1 = c.in_ok-behind_whole_name.ensures.reads _ hd in found (lexemes c.args.tokens.now) c.args.cursor c.in_ok-behind_whole_name.behind_whole_name f1.holds (omega (arith, c.in_ok-name.ensures.place, c.in_ok-behind_whole_name.ensures.goes.forward)) c.in_ok-behind_whole_name.ensures.goes.ends (done (seen (start (parts.PartOf ds) _) c.in_ok-name.ensures.takes refl) f1.reads (λ b. refl))

pub returns-clause-goes : goal.returns-clause-goes
returns-clause-goes c = record { forward = omega (arith, c.in_ok-name.ensures.place, c.in_ok-behind_whole_name.ensures.goes.forward); ends = c.in_ok-behind_whole_name.ensures.goes.ends }
