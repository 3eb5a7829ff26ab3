use Rattle.std.proofs.Common.{◌≡◌, ◌↔◌, ℕ, length, arith, ◌∙◌}
use Rattle.flow_bits.specs.Sets.{Relates}
use Rattle.flow_facts.proofs.Outcomes.{reached_dep}
use Rattle.flow_facts.proofs.Rounds.{steps_same}
use Rattle.flow_facts.proofs.facts.star_of.Goals as goal

pub returns-clause-set : goal.returns-clause-set
returns-clause-set c = λ v w.
    let next = c.args.next.now in
    let same : (x y : ℕ) → Relates c.add_pairs.new.into x y ↔ Relates next.dep x y = λ x y. grind (arith, c.in_ok-star.ensures.empty x y, c.add_pairs.ensures.set x y, reached_dep _ next c.requires x y) in
    let size : length c.add_pairs.new.into ≡ c.args.size = c.add_pairs.ensures.size ∙ c.in_ok-star.ensures.size in
    let is = rw size at c.close.ensures.set v w in
    let steps = steps_same (Relates c.add_pairs.new.into) (Relates next.dep) same in
    (λ r. (let x = is.0 r in (x.0, (x.1.0, (steps x.1.0 v w).0 x.1.1))), λ x. is.1 (x.0, (x.1.0, (steps x.1.0 v w).1 x.1.1)))
