use Rattle.std.proofs.Common.{ap}
use Rattle.unit_names.specs.declared.heads.Part.TheVariants as parts
use Rattle.unit_names.specs.Names.{is_part}
use Rattle.unit_names.proofs.Noting.{noted, kept}
use Rattle.unit_names.proofs.seen.Seen.note.Goals as goal

pub returns-in_ok-add-in-Spec : goal.returns-in_ok-add-in-Spec
returns-in_ok-add-in-Spec c = λ units s. let h = c.args.head.now in let q = c.args.self.now in record {
  specs = noted q.specs c.add.new.set units h parts.Spec (ap (is_part parts.Spec) c.in-Spec.is) c.in_ok-add-in-Spec.ensures s.specs;
  bodies = kept q.bodies units h parts.Body (ap (is_part parts.Body) c.in-Spec.is) s.bodies;
  mains = kept q.mains units h parts.Main (ap (is_part parts.Main) c.in-Spec.is) s.mains;
}

pub returns-in_ok-add-in-Body : goal.returns-in_ok-add-in-Body
returns-in_ok-add-in-Body c = λ units s. let h = c.args.head.now in let q = c.args.self.now in record {
  specs = kept q.specs units h parts.Spec (ap (is_part parts.Spec) c.in-Body.is) s.specs;
  bodies = noted q.bodies c.add-in-Body.new.set units h parts.Body (ap (is_part parts.Body) c.in-Body.is) c.in_ok-add-in-Body.ensures s.bodies;
  mains = kept q.mains units h parts.Main (ap (is_part parts.Main) c.in-Body.is) s.mains;
}

pub returns-in_ok-add-in-Main : goal.returns-in_ok-add-in-Main
returns-in_ok-add-in-Main c = λ units s. let h = c.args.head.now in let q = c.args.self.now in record {
  specs = kept q.specs units h parts.Spec (ap (is_part parts.Spec) c.in-Main.is) s.specs;
  bodies = kept q.bodies units h parts.Body (ap (is_part parts.Body) c.in-Main.is) s.bodies;
  mains = noted q.mains c.add-in-Main.new.set units h parts.Main (ap (is_part parts.Main) c.in-Main.is) c.in_ok-add-in-Main.ensures s.mains;
}
