use Rattle.std.proofs.Common.{length}
use Rattle.name_marks.specs.Prefixes.{reversed}
use Rattle.name_marks.proofs.Spines.{IsRead}
use Rattle.seen_names.specs.Contexts.{context}
use Rattle.name_marks.proofs.marks.read_unit.Given as goal

abbrev pub invariant-loop-next : goal.invariant-loop-next
invariant-loop-next l = IsRead (context l.tables l.place) l.units.exprs l.fn.e l.fn.found (reversed l.descent.above.items) l.entity l.found

abbrev pub decreases-loop-next : goal.decreases-loop-next
decreases-loop-next l = length l.descent.above.items
