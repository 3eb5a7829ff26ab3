use Rattle.std.proofs.Common.{◌≡◌, ℕ, length, ◌∙◌, refl, arith}
use Rattle.std.specs.Prelude.{slice_index_or}
use Rattle.flow_bits.specs.Sets.{Relates}
use Rattle.flow_facts.specs.Told.{no_side}
use Rattle.flow_facts.proofs.Outcomes.{last_only, no_pair}
use Rattle.flow_facts.proofs.sides.leave_sides.Goals as goal

pub returns-clause-kept : goal.returns-clause-kept
returns-clause-kept c = λ n v w.
    let count : length c.pad.new.sides.items ≡ c.args.loops = c.in_ok-pad.ensures.least (omega arith) in
    let all = rw c.new-sides.ensures.items at c.pad.ensures.same in
    let is = last_only (λ s. Relates s.kept v w) (no_pair v w) c.pad.new.sides.items c.in_ok-same_side.field-0 c.args.loops count all n in
    let same = c.in_ok-same_side.ensures.kept v w in
    rw c.in_ok-push.ensures.items (λ h. (let i = is.0 h in (i.0, same.0 i.1)), λ h. is.1 (h.0, same.1 h.1))

pub returns-clause-dep : goal.returns-clause-dep
returns-clause-dep c = λ n v w.
    let count : length c.pad.new.sides.items ≡ c.args.loops = c.in_ok-pad.ensures.least (omega arith) in
    let all = rw c.new-sides.ensures.items at c.pad.ensures.same in
    let is = last_only (λ s. Relates s.dep v w) (no_pair v w) c.pad.new.sides.items c.in_ok-same_side.field-0 c.args.loops count all n in
    let same = c.in_ok-same_side.ensures.dep v w in
    rw c.in_ok-push.ensures.items (λ h. (let i = is.0 h in (i.0, same.0 i.1)), λ h. is.1 (h.0, same.1 h.1))
