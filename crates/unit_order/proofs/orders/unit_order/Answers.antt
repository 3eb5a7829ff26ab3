use Rattle.std.proofs.Common.{ap, sym, ◌∙◌}
use Rattle.unit_names.specs.Names.{name_fault_of}
use Rattle.unit_order.specs.Orders.{ByNames}
use Rattle.unit_order.proofs.orders.unit_order.Goals as goal

pub returns-in-Some : goal.returns-in-Some
returns-in-Some c =
    ByNames c.in-Some.fault (ap name_fault_of (sym (c.as_slice.ensures.value ∙ c.in_ok-heads.ensures)) ∙ sym c.in_ok-fault.ensures ∙ c.in-Some.is)
    c.in_ok-name_message-in-Some.ensures
