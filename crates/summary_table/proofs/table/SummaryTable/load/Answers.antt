use Rattle.std.proofs.Common.{◌≡◌, ℕ, ◌+◌, ap, ◌∙◌, arith}
use Rattle.atomic_table.specs.Table.{Me}
use Rattle.claim_core.specs.System.{in_callee}
use Rattle.claim_core.proofs.Systems as systems
use Rattle.summary_table.specs.declared.view.View.{View}
use Rattle.summary_table.proofs.Moves as moves
use Rattle.summary_table.proofs.table.SummaryTable.load.Goals as goal

pub load-requires : goal.load-requires
load-requires g c =
    let table = c.args.self.now in
    let size : table.table.shared.table_id.words ≡ 1 + g.E.Equations.system.bodies + g.E.Equations.system.words = table.size ∙ (λ i. 1 + table.extent.bodies_are i + table.extent.words_are i) in
    let seat = c.args.seat.now in
    let sys = g.E.Equations.system in
    let o = systems.owned (λ b. in_callee sys b c.args.at.0) seat.holds c.requires.callee in
    let row = systems.owned (λ b. sys.calls o.0 b) (sys.owner c.args.at.0) o.2 in
    let l = (g.E.Equations.lawful.has_words c.args.at.0 row.0 row.1).0 in (
      c.requires.of.0,
      rw size (omega arith),
      rw table.extent.bodies_are
          (moves.load_moves sys g.E.Equations.lawful table.table.shared.key _ seat.token.id seat.token.me c.requires.of.1 c.args.at.0 o.0 (seat.held ∙ o.1) o.2),
    )

pub invariant_of-seat : goal.invariant_of-seat
invariant_of-seat g c =
    let seat = c.args.seat.now in
    let told = (c.load.ensures.2 c.args.at.0 (ap (λ n. 1 + n + c.args.at.0) c.args.self.now.extent.bodies_are)).0 in record {
      held = ap (λ (m : Me ℕ View). (m.0).holds) told ∙ seat.held;
      bare = ap (λ (m : Me ℕ View). m.1) told ∙ seat.bare;
      in_range = λ b e. rw (c.load.ensures.0) (seat.in_range b e);
    }

pub returns-clause-view : goal.returns-clause-view
returns-clause-view g c = ap (λ (m : Me ℕ View). m.0) ((c.load.ensures.2 c.args.at.0 (ap (λ n. 1 + n + c.args.at.0) c.args.self.now.extent.bodies_are)).0)

pub returns-clause-seen : goal.returns-clause-seen
returns-clause-seen g c = (c.load.ensures.2 c.args.at.0 (ap (λ n. 1 + n + c.args.at.0) c.args.self.now.extent.bodies_are)).1
