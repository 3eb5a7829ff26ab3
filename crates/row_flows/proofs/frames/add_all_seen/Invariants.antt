use Rattle.std.proofs.Common.{◌≡◌, ℕ, ◌⊎◌, ◌↔◌, length, drop}
use Rattle.flow_bits.specs.Sets.{Has}
use Rattle.row_flows.specs.Frames.{IsSeenOfSome}
use Rattle.row_flows.proofs.frames.add_all_seen.Given as goal

abbrev pub invariant-loop-callee : goal.invariant-loop-callee
invariant-loop-callee l = record {
  size : length l.into ≡ length l.initial.into;
  set : (v : ℕ) → (Has l.into v ⊎ IsSeenOfSome l.program l.rows.layout l.body.0 (drop l.callee-index l.callees) v)
      ↔ (Has l.initial.into v ⊎ IsSeenOfSome l.program l.rows.layout l.body.0 l.callees v);
}
