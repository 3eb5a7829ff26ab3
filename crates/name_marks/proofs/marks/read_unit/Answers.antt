use Rattle.ada_forms.specs.Forms.{expr_of}
use Rattle.name_marks.specs.Prefixes.{reversed}
use Rattle.name_marks.proofs.Spines.{read_at, read_pop, step}
use Rattle.seen_names.specs.Contexts.{context}
use Rattle.name_marks.proofs.marks.read_unit.Goals as goal

pub read_over-entity-requires-in-Some : goal.read_over-entity-requires-in-Some
read_over-entity-requires-in-Some c =
    let way = read_pop (context c.args.tables.now c.args.place) c.args.units.now.exprs c.args.e c.in-Some.next c.args.found.now c.pop.new.self.items
    c.loop-next.descent.above.items c.loop-next.entity c.loop-next.found c.in-Some.ensures.items c.loop-next.invariant in
    record { prefix = way.0 }

pub loop-next-preserved : goal.loop-next-preserved
loop-next-preserved c =
    let here = context c.args.tables.now c.args.place in
    let way = read_pop here c.args.units.now.exprs c.args.e c.in-Some.next c.args.found.now c.pop.new.self.items
    c.loop-next.descent.above.items c.loop-next.entity c.loop-next.found c.in-Some.ensures.items c.loop-next.invariant in
    let more = step here c.args.found.now c.loop-next.found c.read_over-entity-in-Some.new.found (expr_of c.args.units.now.exprs c.in-Some.next) way.1
    c.read_over-entity-in-Some.ensures.found in
    read_at here c.args.units.now.exprs c.args.e c.in-Some.next c.args.found.now (reversed c.pop.new.self.items)
    c.read_over-entity-in-Some.result c.read_over-entity-in-Some.new.found way.2 c.read_over-entity-in-Some.ensures.entity more
