use Rattle.std.proofs.Common.{◌≡◌, ◌⊎◌, inl, inr, ⊎_elim, ℕ, ◌+◌, Bool, ◌||◌, Some, Option, ap, ◌∙◌, refl, arith}
use Rattle.std.specs.Prelude.{IsTrue, ◌==◌}
use Rattle.std.proofs.lemmas.Bool.{or_cases, eqb-true}
use Rattle.atomic_table.specs.Table.{Me}
use Rattle.claim_core.specs.System.{owned_by}
use Rattle.claim_core.proofs.Systems as systems
use Rattle.summary_table.specs.declared.view.View.{View}
use Rattle.summary_table.specs.Views.{owed_in}
use Rattle.summary_table.proofs.Moves as moves
use Rattle.summary_table.proofs.table.SummaryTable.wake.Goals as goal

held_one : (o : Option ℕ) (b : ℕ) → IsTrue (owned_by (λ h. h == b) o) → o ≡ Some b
held_one o b h = let t = systems.owned (λ h. h == b) o h in t.1 ∙ ap Some (eqb-true t.0 b t.2)

why : (p : Bool) (o view : Option ℕ) (b : ℕ) → view ≡ o → IsTrue (p || owned_by (λ h. h == b) o) → IsTrue p ⊎ (view ≡ Some b)
why p o view b same h =
    ⊎_elim (λ (t : IsTrue p). inl t) (λ (t : IsTrue (owned_by (λ h. h == b) o)). inr (same ∙ held_one o b t)) (or_cases p (owned_by (λ h. h == b) o) h)

pub fetch_or-requires : goal.fetch_or-requires
fetch_or-requires g c =
    let table = c.args.self.now in
    let size : table.table.shared.table_id.words ≡ 1 + g.E.Equations.system.bodies + g.E.Equations.system.words = table.size ∙ (λ i. 1 + table.extent.bodies_are i + table.extent.words_are i) in
    let seat = c.args.seat.now in
    let sys = g.E.Equations.system in
    let cause = why (owed_in sys c.args.b.0 (seat.token.me.0).debts) seat.holds (seat.token.me.0).holds c.args.b.0 seat.held c.requires.owed in (
      c.requires.of.0,
      rw size (let l = c.requires.in_range in omega arith),
      moves.wake_moves sys g.E.Equations.lawful table.table.shared.key _ seat.token.id seat.token.me c.requires.of.1 c.args.b.0 c.requires.in_range cause,
    )

pub invariant_of-seat : goal.invariant_of-seat
invariant_of-seat g c =
    let seat = c.args.seat.now in
    let told = c.fetch_or.ensures.2 c.args.b.0 refl in record {
      held = ap (λ (m : Me ℕ View). (m.0).holds) told ∙ seat.held;
      bare = ap (λ (m : Me ℕ View). m.1) told ∙ seat.bare;
      in_range = λ b e. rw (c.fetch_or.ensures.0) (seat.in_range b e);
    }

pub returns-clause-view : goal.returns-clause-view
returns-clause-view g c = ap (λ (m : Me ℕ View). m.0) (c.fetch_or.ensures.2 c.args.b.0 refl)
