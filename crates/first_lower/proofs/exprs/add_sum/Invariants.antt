use Rattle.std.proofs.Common.{◌≡◌, ◌<◌, length, drop}
use Rattle.core_form.specs.Code.{expr_of}
use Rattle.first_lower.specs.Known.{Each, KnownTerm}
use Rattle.first_lower.specs.Lowered.{low_terms, low_sum}
use Rattle.first_lower.specs.Steps.{Adds}
use Rattle.first_lower.proofs.exprs.add_sum.Given as goal

-- the value so far, with the terms that are left, is that of the sum
abbrev pub invariant-loop-term : goal.invariant-loop-term
invariant-loop-term l = record {
  adds : Adds l.fn.nodes l.nodes;
  within : l.value.0 < length l.nodes.exprs;
  known : Each (KnownTerm l.table) (drop l.term-index l.term-items);
  tree : low_terms l.table (expr_of l.nodes.exprs l.value) (drop l.term-index l.term-items) ≡ low_sum l.table l.sum;
}
