-- How the components that have their values are kept.
use Rattle.expr_rules.specs.declared.components.Components.{Components}
use Rattle.part_slots.specs.Records.{Taken}

abbrev pub taken_of : Components → Taken
taken_of kept = record { places = kept.places.keys; is_closed = kept.is_closed; is_clear = kept.is_clear }
