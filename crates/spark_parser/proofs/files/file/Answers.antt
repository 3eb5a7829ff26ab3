use Rattle.std.proofs.Common.{refl, arith}
use Rattle.ada_grammar.specs.declared.tokens.Class.TheVariants as classes
use Rattle.ada_grammar.specs.Lexemes.{lexeme, lexemes}
use Rattle.ada_grammar.specs.Phrases as phrases
use Rattle.ada_grammar.specs.Parts as parts
use Rattle.ada_grammar.specs.Parts.{word}
use Rattle.ada_grammar.proofs.Steps.{start, opened, seen, unseen, decided, declined}
use Rattle.ada_grammar.proofs.Answering.{passes_here}
use Rattle.ada_grammar.proofs.Joining.{absent, present}
use Rattle.spark_parser.proofs.FoundFiles.{fault_file, adds_none}
use Rattle.spark_parser.proofs.files.file.Goals as goal

pub loop-so_far-init : goal.loop-so_far-init
loop-so_far-init c = record { ends = c.requires.at; so_far = record { own = phrases.none; read = phrases.none; holds = c.new.ensures _ c.requires.ordered; adds = adds_none _; awaits = start parts.File _ } }

pub loop-so_far-preserved : goal.loop-so_far-preserved
loop-so_far-preserved c = let s = c.loop-so_far.invariant.so_far in record { ends = c.in_ok-so_far.ensures.goes.ends; so_far = c.in_ok-so_far.ensures.reads c.args.cursor _ s.own s.read s.holds s.adds (seen (opened s.awaits) (present classes.FileItem (lexeme c.args.tokens.now.source) (lexemes c.args.tokens.now) c.loop-so_far.so_far.next c.in_ok-first.ensures c.in-Some.is).takes refl) }

pub loop-so_far-smaller : goal.loop-so_far-smaller
loop-so_far-smaller c = omega (arith, (present classes.FileItem (lexeme c.args.tokens.now.source) (lexemes c.args.tokens.now) c.loop-so_far.so_far.next c.in_ok-first.ensures c.in-Some.is).place, (present classes.FileItem (lexeme c.args.tokens.now.source) (lexemes c.args.tokens.now) c.loop-so_far.so_far.next c.in_ok-first.ensures c.in-Some.is).within, c.in_ok-so_far.ensures.goes.forward)

pub returns-in_err-first : goal.returns-in_err-first
returns-in_err-first c = let s = c.loop-so_far.invariant.so_far in fault_file (lexemes c.args.tokens.now) c.args.cursor _ _ _ _ (passes_here (lexemes c.args.tokens.now) c.args.cursor c.loop-so_far.so_far.next classes.FileItem _ (opened s.awaits) (λ t. refl) c.in_err-first.ensures) c.from_residual.ensures.1

pub returns-in_err-so_far : goal.returns-in_err-so_far
returns-in_err-so_far c = let s = c.loop-so_far.invariant.so_far in fault_file (lexemes c.args.tokens.now) c.args.cursor _ _ _ _ (c.in_err-so_far.ensures.reads c.args.cursor _ s.own s.read s.holds s.adds (seen (opened s.awaits) (present classes.FileItem (lexeme c.args.tokens.now.source) (lexemes c.args.tokens.now) c.loop-so_far.so_far.next c.in_ok-first.ensures c.in-Some.is).takes refl)) c.from_residual-in_err-so_far.ensures.1

pub returns : goal.returns
returns c = let s = c.loop-so_far.invariant.so_far in record { ends = c.loop-so_far.invariant.ends; level = c.loop-so_far.so_far.next.nesting; sticks = declined (unseen (opened s.awaits) (absent classes.FileItem (lexeme c.args.tokens.now.source) (lexemes c.args.tokens.now) c.loop-so_far.so_far.next c.in_ok-first.ensures c.in_default.is)) c.if-so_far.false }

pub returns-then-so_far : goal.returns-then-so_far
returns-then-so_far c = let s = c.loop-so_far.invariant.so_far in record { read = s.read; adds = s.adds; ordered = s.holds.ordered; ends = c.loop-so_far.invariant.ends; reads = decided (unseen (opened s.awaits) (absent classes.FileItem (lexeme c.args.tokens.now.source) (lexemes c.args.tokens.now) c.loop-so_far.so_far.next c.in_ok-first.ensures c.in_default.is)) c.if-so_far.true }
