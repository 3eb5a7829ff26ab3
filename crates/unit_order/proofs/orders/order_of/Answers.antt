use Rattle.std.proofs.Common.{ℕ, List, Option, ap, ap₂, sym, subst, ◌∙◌}
use Rattle.spark_messages.specs.MessageTexts.{refusal_text}
use Rattle.spark_messages.specs.declared.messages.Code.TheVariants as codes
use Rattle.unit_names.specs.declared.heads.Part.TheVariants as parts
use Rattle.unit_names.specs.Names.{name_fault_of}
use Rattle.package_order.specs.Packages.{IsElaboration}
use Rattle.unit_order.specs.Heads.{heads_of}
use Rattle.unit_order.specs.Orders.{ByCircle, refused_at, unit_by}
use Rattle.unit_order.specs.Packages.{main_of, packages_of, unit_of, units_of}
use Rattle.unit_order.specs.declared.orders.Order.{Order}
use Rattle.unit_order.proofs.orders.order_of.Goals as goal

abbrev made : List ℕ → Option ℕ → Order
made units main = record { units = units; main = main }

pub returns-in-Circle : goal.returns-in-Circle
returns-in-Circle c =
    let u = c.args.units.now in
    let same = c.requires.heads in
    let name = c.in-Circle.name in
    ByCircle name (ap name_fault_of (sym same) ∙ c.requires.names)
    (subst (λ a. IsElaboration (packages_of (heads_of u)) a) c.in-Circle.is (subst (λ h. IsElaboration (packages_of h) c.in_ok-name.field-0) same c.in_ok-name.ensures))
    (c.in_ok-circle_message-in-Circle.ensures ∙ ap (λ p. refused_at (unit_by u p) codes.N03 (refusal_text codes.N03))
    (c.place_in-place.ensures ∙ c.in_ok-tables.ensures.specs name ∙ ap (λ h. unit_of h parts.Spec name) same))

pub returns : goal.returns
returns c =
    let u = c.args.units.now in
    let same = c.requires.heads in
    let items = c.in-Order.items in
    record {
      names = ap name_fault_of (sym same) ∙ c.requires.names;
      items = items;
      elaboration = subst (λ a. IsElaboration (packages_of (heads_of u)) a) c.in-Order.is (subst (λ h. IsElaboration (packages_of h) c.in_ok-name.field-0) same c.in_ok-name.ensures);
      order = ap₂ made (c.in_ok-units_of-in-Order.ensures ∙ ap₂ units_of same c.as_slice.ensures) (c.main_of.ensures ∙ ap main_of same);
    }
