use Rattle.std.proofs.Common.{refl, arith}
use Rattle.ada_grammar.specs.Parts.{File}
use Rattle.spark_parser.proofs.ToldFiles.{told_beyond, told_fault, whole_file}
use Rattle.spark_parser.proofs.calls.parse_file.Goals as goal

pub returns-then-next-len : goal.returns-then-next-len
returns-then-next-len c = told_beyond c.args.tokens.now _ refl c.new.ensures (omega (arith, c.if-next-len.true, c.len.ensures)) c.in-Ok.ensures c.syntax_fault.ensures

pub returns-else-next-len : goal.returns-else-next-len
returns-else-next-len c = whole_file c.args.tokens.now refl c.new.ensures (omega (arith, c.if-next-len.false, c.len.ensures)) c.in-Ok.ensures

pub returns-in-Err : goal.returns-in-Err
returns-in-Err c = told_fault c.args.tokens.now c.args.units.now c.file.new.units _ _ c.new.ensures (c.phase_fault.ensures File (record { at = 0; nesting = c.new.result }) c.in-Err.ensures)
