use Rattle.std.proofs.Common.{◌≡◌, ◌<◌, ℕ, length, subst, arith}
use Rattle.flow_bits.specs.Sets.{Has}
use Rattle.core_form.specs.declared.program.Item.{Item}
use Rattle.used_modes.specs.Added.{Adds}
use Rattle.depends_check.specs.DependsCheck.{IsSource}
use Rattle.depends_check.proofs.Grown.{below_more, below_none}
use Rattle.depends_check.proofs.used.note_all_sources.Goals as goal

pub loop-leaf-init : goal.loop-leaf-init
loop-leaf-init c = record {
  within = omega arith;
  added = below_none (λ (leaf : ℕ) (i : Item). Has c.args.leaves.now leaf × IsSource c.args.program.now c.args.rows.now c.args.number.0
      c.args.body.now leaf i) c.args.items.now;
}

pub loop-leaf-preserved : goal.loop-leaf-preserved
loop-leaf-preserved c = record {
  within = omega arith;
  added = below_more (λ (leaf : ℕ) (i : Item). Has c.args.leaves.now leaf × IsSource c.args.program.now c.args.rows.now c.args.number.0
      c.args.body.now leaf i)
      c.args.items.now c.loop-leaf.items c.note_sources_in.new.items c.loop-leaf.leaf c.loop-leaf.invariant.added
      c.in_ok-note_sources_in.ensures;
}

pub returns : goal.returns
returns c =
    let all : c.loop-leaf.leaf ≡ length c.args.leaves.now = omega arith in
    subst (λ n. Adds c.args.items.now c.loop-leaf.items (λ i. (leaf : ℕ) × ((leaf < n) × (Has c.args.leaves.now leaf × IsSource
    c.args.program.now c.args.rows.now c.args.number.0 c.args.body.now leaf i)))) all c.loop-leaf.invariant.added
