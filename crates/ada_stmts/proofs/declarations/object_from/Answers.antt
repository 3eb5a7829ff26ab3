use Rattle.std.proofs.Common.{refl, map, arith}
use Rattle.ada_tree.specs.declared.token.Mark.TheVariants as marks
use Rattle.ada_grammar.specs.Lexemes.{lexeme, lexemes}
use Rattle.ada_grammar.specs.Parts as parts
use Rattle.ada_grammar.specs.Parts.{mark, word, Gives, Call, Rest}
use Rattle.ada_grammar.proofs.Steps.{start, seen, unseen, done}
use Rattle.ada_grammar.proofs.Answering.{passes_here, refuses}
use Rattle.ada_grammar.proofs.Joining.{absent, present, fault_found, finds_last, goes_on}
use Rattle.ada_grammar.proofs.Standing.{grows_on, holds_on}
use Rattle.ada_stmts.proofs.declarations.object_from.Goals as goal

pub returns-in_err-behind_subtype-clause-reads : goal.returns-in_err-behind_subtype-clause-reads
returns-in_err-behind_subtype-clause-reads c = λ ds hd. fault_found (parts.ObjectFrom c.args.constant (map (lexeme c.args.tokens.now.source) c.args.names.now) ds) (lexemes c.args.tokens.now) c.args.cursor _ _ _ _ (refuses (lexemes c.args.tokens.now) c.args.cursor c.args.cursor _ (start (parts.ObjectFrom c.args.constant (map (lexeme c.args.tokens.now.source) c.args.names.now) ds) _) (λ b. refl) (c.in_err-behind_subtype.ensures.reads _ (c.new-own.ensures _ hd.ordered))) c.from_residual.ensures.1

pub returns-in_err-behind_becomes-clause-reads : goal.returns-in_err-behind_becomes-clause-reads
returns-in_err-behind_becomes-clause-reads c = λ ds hd. let f1 = c.in_ok-behind_subtype.ensures.reads _ (c.new-own.ensures _ hd.ordered) in fault_found (parts.ObjectFrom c.args.constant (map (lexeme c.args.tokens.now.source) c.args.names.now) ds) (lexemes c.args.tokens.now) c.args.cursor _ _ _ _ (passes_here (lexemes c.args.tokens.now) c.args.cursor c.in_ok-behind_subtype.behind_subtype (mark marks.Becomes) _ (done (start (parts.ObjectFrom c.args.constant (map (lexeme c.args.tokens.now.source) c.args.names.now) ds) _) f1.reads (λ b. refl)) (λ t. refl) c.in_err-behind_becomes.ensures) c.from_residual-in_err-behind_becomes.ensures.1

pub returns-in_err-behind_value-clause-reads : goal.returns-in_err-behind_value-clause-reads
returns-in_err-behind_value-clause-reads c = λ ds hd. let f1 = c.in_ok-behind_subtype.ensures.reads _ (c.new-own.ensures _ hd.ordered) in fault_found (parts.ObjectFrom c.args.constant (map (lexeme c.args.tokens.now.source) c.args.names.now) ds) (lexemes c.args.tokens.now) c.args.cursor _ _ _ _ (refuses (lexemes c.args.tokens.now) c.args.cursor c.in-Some.behind_becomes _ (seen (done (start (parts.ObjectFrom c.args.constant (map (lexeme c.args.tokens.now.source) c.args.names.now) ds) _) f1.reads (λ b. refl)) (present (mark marks.Becomes) (lexeme c.args.tokens.now.source) (lexemes c.args.tokens.now) c.in_ok-behind_subtype.behind_subtype c.in_ok-behind_becomes.ensures c.in-Some.is).takes refl) (λ b. refl) (c.in_err-behind_value.ensures.reads _ f1.holds)) c.from_residual-in_err-behind_value.ensures.1

pub returns-in_err-behind_value-clause-grows : goal.returns-in_err-behind_value-clause-grows
returns-in_err-behind_value-clause-grows c = (grows_on c.in_ok-behind_subtype.ensures.grows c.in_err-behind_value.ensures.grows)

pub returns-in-Some-clause-reads : goal.returns-in-Some-clause-reads
returns-in-Some-clause-reads c = λ ds hd. let f1 = c.in_ok-behind_subtype.ensures.reads _ (c.new-own.ensures _ hd.ordered) in let f2 = c.in_ok-behind_value.ensures.reads _ f1.holds in finds_last (lexemes c.args.tokens.now) c.args.cursor c.in_ok-behind_value.behind_value _ _ _ (done (seen (done (start (parts.ObjectFrom c.args.constant (map (lexeme c.args.tokens.now.source) c.args.names.now) ds) _) f1.reads (λ b. refl)) (present (mark marks.Becomes) (lexeme c.args.tokens.now.source) (lexemes c.args.tokens.now) c.in_ok-behind_subtype.behind_subtype c.in_ok-behind_becomes.ensures c.in-Some.is).takes refl) f2.reads (λ b. refl)) (omega (arith, c.in_ok-behind_subtype.ensures.goes.forward, (present (mark marks.Becomes) (lexeme c.args.tokens.now.source) (lexemes c.args.tokens.now) c.in_ok-behind_subtype.behind_subtype c.in_ok-behind_becomes.ensures c.in-Some.is).place, c.in_ok-behind_value.ensures.goes.forward)) refl (c.closing.ensures.reads _ _ f2.holds (holds_on f2.holds.ordered c.in_ok-behind_value.ensures.grows (holds_on f1.holds.ordered c.in_ok-behind_subtype.ensures.grows hd)))

pub returns-in-Some-clause-goes : goal.returns-in-Some-clause-goes
returns-in-Some-clause-goes c = goes_on (lexemes c.args.tokens.now) c.args.cursor c.in_ok-behind_value.behind_value _ (omega (arith, c.in_ok-behind_subtype.ensures.goes.forward, (present (mark marks.Becomes) (lexeme c.args.tokens.now.source) (lexemes c.args.tokens.now) c.in_ok-behind_subtype.behind_subtype c.in_ok-behind_becomes.ensures c.in-Some.is).place, c.in_ok-behind_value.ensures.goes.forward)) c.closing.ensures.goes

pub returns-in-Some-clause-grows : goal.returns-in-Some-clause-grows
returns-in-Some-clause-grows c = (grows_on (grows_on c.in_ok-behind_subtype.ensures.grows c.in_ok-behind_value.ensures.grows) c.closing.ensures.grows)

pub returns-clause-reads : goal.returns-clause-reads
returns-clause-reads c = λ ds hd. let f1 = c.in_ok-behind_subtype.ensures.reads _ (c.new-own.ensures _ hd.ordered) in finds_last (lexemes c.args.tokens.now) c.args.cursor c.in_ok-behind_subtype.behind_subtype _ _ _ (unseen (done (start (parts.ObjectFrom c.args.constant (map (lexeme c.args.tokens.now.source) c.args.names.now) ds) _) f1.reads (λ b. refl)) (absent (mark marks.Becomes) (lexeme c.args.tokens.now.source) (lexemes c.args.tokens.now) c.in_ok-behind_subtype.behind_subtype c.in_ok-behind_becomes.ensures c.in_default.is)) (omega (arith, c.in_ok-behind_subtype.ensures.goes.forward)) refl (c.closing-2.ensures.reads _ _ f1.holds (holds_on f1.holds.ordered c.in_ok-behind_subtype.ensures.grows hd))

pub returns-clause-goes : goal.returns-clause-goes
returns-clause-goes c = goes_on (lexemes c.args.tokens.now) c.args.cursor c.in_ok-behind_subtype.behind_subtype _ (omega (arith, c.in_ok-behind_subtype.ensures.goes.forward)) c.closing-2.ensures.goes

pub returns-clause-grows : goal.returns-clause-grows
returns-clause-grows c = (grows_on c.in_ok-behind_subtype.ensures.grows c.closing-2.ensures.grows)
