use Rattle.std.proofs.Common.{refl, arith}
use Rattle.ada_grammar.specs.declared.tokens.Class.TheVariants as classes
use Rattle.ada_grammar.specs.Lexemes.{lexeme, lexemes}
use Rattle.ada_grammar.specs.Parts as parts
use Rattle.ada_grammar.specs.Parts.{mark, word, Gives, Call, Rest}
use Rattle.ada_grammar.proofs.Steps.{whole, opened, seen, unseen, done}
use Rattle.ada_grammar.proofs.Answering.{passes_here, refuses}
use Rattle.ada_grammar.proofs.Joining.{absent, present, fault_found, found}
use Rattle.ada_grammar.proofs.Standing.{grows_same, grows_on}
use Rattle.spark_parser.proofs.declarations.declarations.Goals as goal

pub loop-first-init : goal.loop-first-init
loop-first-init c = record { forward = omega arith; ends = c.requires.at; grows = (grows_same _); awaits = λ ds hd. (ds, hd, (whole (parts.Declarations c.args.region ds) _)) }

pub returns-in_err-first-clause-reads : goal.returns-in_err-first-clause-reads
returns-in_err-first-clause-reads c = λ ds hd. let y = c.loop-first.invariant.awaits ds hd in fault_found (parts.Declarations c.args.region ds) (lexemes c.args.tokens.now) c.args.cursor _ _ _ _ (passes_here (lexemes c.args.tokens.now) c.args.cursor c.loop-first.next classes.Declaration _ (opened y.2) (λ t. refl) c.in_err-first.ensures) c.from_residual.ensures.1

pub returns-in_err-next-clause-reads : goal.returns-in_err-next-clause-reads
returns-in_err-next-clause-reads c = λ ds hd. let y = c.loop-first.invariant.awaits ds hd in fault_found (parts.Declarations c.args.region ds) (lexemes c.args.tokens.now) c.args.cursor _ _ _ _ (refuses (lexemes c.args.tokens.now) c.args.cursor c.in-Some.behind_first _ (seen (opened y.2) (present classes.Declaration (lexeme c.args.tokens.now.source) (lexemes c.args.tokens.now) c.loop-first.next c.in_ok-first.ensures c.in-Some.is).takes refl) (λ b. refl) (c.in_err-next.ensures.reads _ y.1)) c.from_residual-in_err-next.ensures.1

pub returns-in_err-next-clause-grows : goal.returns-in_err-next-clause-grows
returns-in_err-next-clause-grows c = (grows_on c.loop-first.invariant.grows c.in_err-next.ensures.grows)

pub loop-first-preserved : goal.loop-first-preserved
loop-first-preserved c = record { forward = omega (arith, c.loop-first.invariant.forward, (present classes.Declaration (lexeme c.args.tokens.now.source) (lexemes c.args.tokens.now) c.loop-first.next c.in_ok-first.ensures c.in-Some.is).place, c.in_ok-next.ensures.goes.forward); ends = c.in_ok-next.ensures.goes.ends; grows = (grows_on c.loop-first.invariant.grows c.in_ok-next.ensures.grows); awaits = λ ds hd. let y = c.loop-first.invariant.awaits ds hd in let f2 = c.in_ok-next.ensures.reads _ y.1 in (f2.children, f2.holds, (done (seen (opened y.2) (present classes.Declaration (lexeme c.args.tokens.now.source) (lexemes c.args.tokens.now) c.loop-first.next c.in_ok-first.ensures c.in-Some.is).takes refl) f2.reads (λ b. refl))) }

pub loop-first-smaller : goal.loop-first-smaller
loop-first-smaller c = omega (arith, (present classes.Declaration (lexeme c.args.tokens.now.source) (lexemes c.args.tokens.now) c.loop-first.next c.in_ok-first.ensures c.in-Some.is).place, c.in_ok-next.ensures.goes.forward, (present classes.Declaration (lexeme c.args.tokens.now.source) (lexemes c.args.tokens.now) c.loop-first.next c.in_ok-first.ensures c.in-Some.is).within)

pub returns-clause-reads : goal.returns-clause-reads
returns-clause-reads c = λ ds hd. let y = c.loop-first.invariant.awaits ds hd in found (lexemes c.args.tokens.now) c.args.cursor c.loop-first.next y.1 (omega (arith, c.loop-first.invariant.forward)) c.loop-first.invariant.ends (unseen (opened y.2) (absent classes.Declaration (lexeme c.args.tokens.now.source) (lexemes c.args.tokens.now) c.loop-first.next c.in_ok-first.ensures c.in_default.is))

pub returns-clause-goes : goal.returns-clause-goes
returns-clause-goes c = record { forward = omega (arith, c.loop-first.invariant.forward); ends = c.loop-first.invariant.ends }
