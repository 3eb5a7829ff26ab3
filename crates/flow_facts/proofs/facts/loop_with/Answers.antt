use Rattle.std.proofs.Common.{◌≡◌, ◌+◌, ℕ, length, arith, ◌∙◌}
use Rattle.std.specs.Prelude.{All}
use Rattle.flow_bits.specs.Sets.{Has}
use Rattle.flow_facts.specs.Told.{IsSideSized}
use Rattle.flow_facts.proofs.Rounds.{round_same}
use Rattle.flow_facts.proofs.facts.loop_with.Goals as goal

pub returns-clause-size : goal.returns-clause-size
returns-clause-size c =
    let size = c.requires.size.decides in
    let sides = rw size at c.in_ok-round_leaves.ensures.size in
    record {
      reads = c.requires.size.reads;
      writes = c.requires.size.writes;
      decides = c.choose.ensures.size ∙ (c.back_into.ensures.size ∙ c.in_ok-decides.ensures.size);
      next = c.first_leave.ensures.first_size (c.args.void + 1) sides;
      back = rw size at c.in_ok-round_side.ensures.size;
      leaves = c.first_leave.ensures.size (c.args.void + 1) sides;
    }

pub returns-clause-flow : goal.returns-clause-flow
returns-clause-flow c =
    let old = c.args.a.now in
    round_same c.args.void (c.args.void + 1) old _ _ _ _ c.requires.size c.in_ok-star.star c.in_ok-star.ensures.set
    c.round_leaves.new.leaves.items c.in_ok-round_leaves.ensures.round c.first_leave.ensures.first c.first_leave.ensures.others c.in_ok-round_side.ensures.round
    (Has c.back_into.new.into) c.requires.narrow
    (λ v. grind (arith, c.in_ok-decides.ensures.empty v, c.back_into.ensures.set v))
    c.choose.ensures.set
