use Rattle.std.proofs.Common.{◌≡◌, [], drop}
use Rattle.first_lower.specs.Known.{Each, KnownLine}
use Rattle.first_lower.specs.Levels.{IsWithin, codes_of, ends, levels_of}
use Rattle.first_lower.specs.Steps.{Adds}
use Rattle.first_lower.proofs.code.add_lines.Given as goal

-- what is unfinished, with the lines that are left, gives the code of all
abbrev pub invariant-loop-line : goal.invariant-loop-line
invariant-loop-line l = record {
  adds : Adds l.fn.nodes l.nodes;
  within : IsWithin l.nodes l.unfinished;
  known : Each (KnownLine l.table) (drop l.line-index l.lines);
  code : ends l.table (levels_of l.nodes l.unfinished.ifs.items) (codes_of l.nodes l.unfinished.list) (drop l.line-index l.lines) ≡ ends l.table [] [] l.lines;
}
