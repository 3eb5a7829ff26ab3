use Rattle.std.proofs.Common.{refl, map, arith}
use Rattle.ada_grammar.specs.Lexemes.{lexeme, lexemes}
use Rattle.ada_grammar.specs.Parts as parts
use Rattle.ada_grammar.specs.Parts.{mark, word, Gives, Call, Rest}
use Rattle.ada_grammar.proofs.Steps.{start, done}
use Rattle.ada_grammar.proofs.Answering.{refuses}
use Rattle.ada_grammar.proofs.Joining.{fault_found, found}
use Rattle.ada_grammar.proofs.Standing.{grows_on, holds_on}
use Rattle.ada_stmts.proofs.declarations.formal_mark.Goals as goal

pub returns-in_err-behind_mark-clause-reads : goal.returns-in_err-behind_mark-clause-reads
returns-in_err-behind_mark-clause-reads c = λ ds hd. fault_found (parts.FormalMark c.args.kind (map (lexeme c.args.tokens.now.source) c.args.names.now) ds) (lexemes c.args.tokens.now) c.args.cursor _ _ _ _ (refuses (lexemes c.args.tokens.now) c.args.cursor c.args.cursor _ (start (parts.FormalMark c.args.kind (map (lexeme c.args.tokens.now.source) c.args.names.now) ds) _) (λ b. refl) (c.in_err-behind_mark.ensures.reads _ (c.new-own.ensures _ hd.ordered))) c.from_residual.ensures.1

pub returns-in_err-declare_all-clause-grows : goal.returns-in_err-declare_all-clause-grows
returns-in_err-declare_all-clause-grows c = (grows_on c.in_ok-behind_mark.ensures.grows c.in_err-declare_all.ensures.grows)

pub returns-clause-reads : goal.returns-clause-reads
returns-clause-reads c = λ ds hd. let f1 = c.in_ok-behind_mark.ensures.reads _ (c.new-own.ensures _ hd.ordered) in found (lexemes c.args.tokens.now) c.args.cursor c.in_ok-behind_mark.behind_mark (c.in_ok-declare_all.ensures.builds _ _ f1.holds (holds_on f1.holds.ordered c.in_ok-behind_mark.ensures.grows hd)) (omega (arith, c.in_ok-behind_mark.ensures.goes.forward)) c.in_ok-behind_mark.ensures.goes.ends (done (start (parts.FormalMark c.args.kind (map (lexeme c.args.tokens.now.source) c.args.names.now) ds) _) f1.reads (λ b. refl))

pub returns-clause-goes : goal.returns-clause-goes
returns-clause-goes c = record { forward = omega (arith, c.in_ok-behind_mark.ensures.goes.forward); ends = c.in_ok-behind_mark.ensures.goes.ends }

pub returns-clause-grows : goal.returns-clause-grows
returns-clause-grows c = (grows_on c.in_ok-behind_mark.ensures.grows c.in_ok-declare_all.ensures.grows)
