use Rattle.std.proofs.Common.{◌+◌, ◌∙◌, ap, drop}
use Rattle.std.specs.List.{flat_map}
use Rattle.first_conditions.specs.Checks.{are_items}
use Rattle.first_conditions.specs.Conditions.{words_of}
use Rattle.first_path.specs.declared.source.Entry.{Entry}
use Rattle.first_conditions.proofs.Items.{items_step, stops, goes_on}
use Rattle.first_conditions.proofs.known.add_entries.Goals as goal

pub returns-then-not-branch : goal.returns-then-not-branch
returns-then-not-branch c = record {
  items = stops _ _ _ _ _
      (items_step c.args.known.now c.loop-entry.seen c.args.entries.now c.loop-entry.entry-index c.entry-item.result c.loop-entry-test.true c.entry-item.is)
      c.in_ok-add_names.ensures.items c.if-not-branch.true c.loop-entry.invariant;
}

pub loop-entry-preserved : goal.loop-entry-preserved
loop-entry-preserved c =
    ap (λ seen. are_items c.args.known.now seen (flat_map (λ (e : Entry). words_of e.names) (drop (c.loop-entry.entry-index + 1) c.args.entries.now)))
    (c.in_ok-add_names.ensures.seen c.if-not-branch.false)
    ∙ goes_on _ _ _ _ _
    (items_step c.args.known.now c.loop-entry.seen c.args.entries.now c.loop-entry.entry-index c.entry-item.result c.loop-entry-test.true c.entry-item.is)
    c.in_ok-add_names.ensures.items c.if-not-branch.false c.loop-entry.invariant
