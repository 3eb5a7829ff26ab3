use Rattle.std.proofs.Common.{◌∙◌, ap, rules}
use Rattle.std.proofs.lemmas.Int.{to_z-of_z}
use Rattle.choice_covers.specs.Parts.{has_gap}
use Rattle.choice_covers.proofs.Kept.{incomplete_by}
use Rattle.choice_covers.proofs.covers.Covered.is_incomplete.Goals as goal
use mir.Syntax.{w128}
use mir.Val.{SFits, of_z, to_z}

pub returns-then-not-self : goal.returns-then-not-self
returns-then-not-self c = λ s st.
    let low : SFits w128 c.args.bounds.low = search rules in
    let high : SFits w128 c.args.bounds.high = search rules in
    incomplete_by c.args.self.now s c.args.bounds c.has_gap.result st c.if-self.true c.if-not-self.true
    (c.has_gap.ensures s.parts st.hold
    ∙ (ap (λ n. has_gap s.parts n (to_z w128 (of_z w128 c.args.bounds.high))) (to_z-of_z w128 c.args.bounds.low low)
    ∙ ap (λ n. has_gap s.parts c.args.bounds.low n) (to_z-of_z w128 c.args.bounds.high high)))
