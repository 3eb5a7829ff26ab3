use Rattle.std.proofs.Common.{refl, arith}
use Rattle.ada_tree.specs.declared.token.Mark.TheVariants as marks
use Rattle.ada_grammar.specs.declared.tokens.Class.TheVariants as classes
use Rattle.ada_grammar.specs.Lexemes.{lexeme, lexemes}
use Rattle.ada_grammar.specs.Parts as parts
use Rattle.ada_grammar.specs.Parts.{mark, word, Gives, Call, Rest}
use Rattle.ada_grammar.proofs.Steps.{whole, opened, seen, unseen, done}
use Rattle.ada_grammar.proofs.Answering.{passes_here, refuses}
use Rattle.ada_grammar.proofs.Joining.{absent, present, fault_skipped}
use Rattle.ada_aspects.proofs.readers.skipped_tokens.Goals as goal

pub loop-behind-init : goal.loop-behind-init
loop-behind-init c = record { forward = omega arith; ends = c.requires.at; awaits = whole parts.SkippedTokens _ }

pub returns-in_err-behind : goal.returns-in_err-behind
returns-in_err-behind c = fault_skipped parts.SkippedTokens (lexemes c.args.tokens.now) c.args.cursor _ _ (passes_here (lexemes c.args.tokens.now) c.args.cursor c.loop-behind.next classes.Skipped _ (opened c.loop-behind.invariant.awaits) (λ t. refl) c.in_err-behind.ensures) c.from_residual.ensures.1

pub loop-behind-preserved-in-Some : goal.loop-behind-preserved-in-Some
loop-behind-preserved-in-Some c = let t = (present classes.Skipped (lexeme c.args.tokens.now.source) (lexemes c.args.tokens.now) c.loop-behind.next c.in_ok-behind.ensures c.in-Some.is) in record { forward = omega (arith, c.loop-behind.invariant.forward, t.place); ends = omega (arith, t.place, t.within); awaits = seen (opened c.loop-behind.invariant.awaits) t.takes refl }

pub returns-in_err-behind-2 : goal.returns-in_err-behind-2
returns-in_err-behind-2 c = fault_skipped parts.SkippedTokens (lexemes c.args.tokens.now) c.args.cursor _ _ (passes_here (lexemes c.args.tokens.now) c.args.cursor c.loop-behind.next (mark marks.Open) _ (unseen (opened c.loop-behind.invariant.awaits) (absent classes.Skipped (lexeme c.args.tokens.now.source) (lexemes c.args.tokens.now) c.loop-behind.next c.in_ok-behind.ensures c.in_default.is)) (λ t. refl) c.in_err-behind-2.ensures) c.from_residual-in_err-behind-2.ensures.1

pub returns-in_default-2 : goal.returns-in_default-2
returns-in_default-2 c = record { forward = c.loop-behind.invariant.forward; ends = c.loop-behind.invariant.ends; reads = unseen (unseen (opened c.loop-behind.invariant.awaits) (absent classes.Skipped (lexeme c.args.tokens.now.source) (lexemes c.args.tokens.now) c.loop-behind.next c.in_ok-behind.ensures c.in_default.is)) (absent (mark marks.Open) (lexeme c.args.tokens.now.source) (lexemes c.args.tokens.now) c.loop-behind.next c.in_ok-behind-2.ensures c.in_default-2.is) }

pub returns-in_err-next : goal.returns-in_err-next
returns-in_err-next c = fault_skipped parts.SkippedTokens (lexemes c.args.tokens.now) c.args.cursor _ _ (refuses (lexemes c.args.tokens.now) c.args.cursor c.in-Some-2.behind _ (seen (unseen (opened c.loop-behind.invariant.awaits) (absent classes.Skipped (lexeme c.args.tokens.now.source) (lexemes c.args.tokens.now) c.loop-behind.next c.in_ok-behind.ensures c.in_default.is)) (present (mark marks.Open) (lexeme c.args.tokens.now.source) (lexemes c.args.tokens.now) c.loop-behind.next c.in_ok-behind-2.ensures c.in-Some-2.is).takes refl) (λ b. refl) c.in_err-next.ensures) c.from_residual-in_err-next.ensures.1

pub loop-behind-preserved : goal.loop-behind-preserved
loop-behind-preserved c = let t = (present (mark marks.Open) (lexeme c.args.tokens.now.source) (lexemes c.args.tokens.now) c.loop-behind.next c.in_ok-behind-2.ensures c.in-Some-2.is) in record { forward = omega (arith, c.loop-behind.invariant.forward, t.place, c.in_ok-next.ensures.forward); ends = c.in_ok-next.ensures.ends; awaits = done (seen (unseen (opened c.loop-behind.invariant.awaits) (absent classes.Skipped (lexeme c.args.tokens.now.source) (lexemes c.args.tokens.now) c.loop-behind.next c.in_ok-behind.ensures c.in_default.is)) t.takes refl) c.in_ok-next.ensures.reads (λ b. refl) }

pub balanced-requires : goal.balanced-requires
balanced-requires c = record { at = let t = (present (mark marks.Open) (lexeme c.args.tokens.now.source) (lexemes c.args.tokens.now) c.loop-behind.next c.in_ok-behind-2.ensures c.in-Some-2.is) in omega (arith, t.place, t.within) }
