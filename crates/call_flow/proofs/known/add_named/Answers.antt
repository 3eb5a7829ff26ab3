use Rattle.std.proofs.Common.{◌≡◌, ℕ, arith}
use Rattle.flow_bits.specs.Sets.{Has}
use Rattle.flow_facts.proofs.Within.{has_within}
use Rattle.call_flow.specs.Told.{name_in}
use Rattle.call_flow.proofs.Ranges.{joined_all, joined_more}
use Rattle.call_flow.proofs.known.add_named.Goals as goal

pub loop-i-preserved : goal.loop-i-preserved
loop-i-preserved c = record {
  size = search c.add_one.ensures.size;
  set = λ x. joined_more (λ f. (name_in c.args.names.now f ≡ x) × Has c.args.«from».now f) c.loop-i.i (c.loop-i.invariant.set x) (c.add_one.ensures.set x);
}

pub returns-clause-set : goal.returns-clause-set
returns-clause-set c = λ x.
    joined_all (λ f. (name_in c.args.names.now f ≡ x) × Has c.args.«from».now f) _ c.loop-i.i (omega arith)
    (λ f h. has_within c.args.«from».now f h.1) (c.loop-i.invariant.set x)
