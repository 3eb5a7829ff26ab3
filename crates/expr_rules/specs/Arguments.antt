-- What attributes give, and what arguments make of a prefix, by the trees of the arguments.
use Rattle.std.specs.Prelude.{List}
use Rattle.ada_forms.specs.AttributeWords.{property_of}
use Rattle.ada_forms.specs.Forms.{Expr, Exprs}
use Rattle.expr_outlines.specs.Outlines.{count_of}
use Rattle.part_slots.specs.Calls.{are_unfit, has_value}
use Rattle.seen_names.specs.Attributes.{gift}
use Rattle.seen_names.specs.Contexts.{Context}
use Rattle.seen_names.specs.declared.applications.Application.{Application}
use Rattle.seen_names.specs.declared.attributes.Gift.{Gift}
use Rattle.seen_names.specs.declared.entities.Entity.{Entity}
use Rattle.spark_base.specs.declared.name.Name.{Name}
use Rattle.value_rules.specs.Applications.{applied_by, only_entity}

-- what an attribute gives
abbrev pub given_by : Context → Name → Exprs → Entity → Gift
given_by c name arguments prefix = gift c (property_of name.written) prefix (count_of arguments)

-- what a prefix with arguments stands for
abbrev pub applied_to : Context → List Expr → List Entity → Application → Entity
applied_to c arguments parts a = applied_by c (has_value arguments) (are_unfit c.tables a arguments) (only_entity parts) a
