use Rattle.std.proofs.Common.{◌≡◌, drop}
use Rattle.seen_names.specs.Contexts.{context}
use Rattle.value_rules.specs.Attributes.{all_sure}
use Rattle.value_rules.proofs.attributes.all_sure.Given as goal

abbrev pub invariant-loop-part : goal.invariant-loop-part
invariant-loop-part l =
    all_sure (context l.tables l.place) l.gift (drop l.part-index l.parts) ≡ all_sure (context l.tables l.place) l.gift l.parts
