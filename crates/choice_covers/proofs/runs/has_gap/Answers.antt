use Rattle.std.proofs.Common.{◌≡◌, ◌<ℤ◌, ◌≤ℤ◌, ◌+ℤ◌, ◌∙◌, pos, sym, arith, rules}
use Rattle.std.proofs.lemmas.Int.{ints, by_lt_z, to_z-of_z}
use Rattle.choice_covers.proofs.Apart.{run_meets}
use Rattle.choice_covers.proofs.Parts.{gap_at, no_gap}
use Rattle.choice_covers.proofs.runs.has_gap.Goals as goal
use mir.Syntax.{w128}
use mir.Val.{SFits, to_z}

pub returns-then-high-low : goal.returns-then-high-low
returns-then-high-low c = λ ps h. sym (no_gap ps c.args.low c.args.high (λ n a b. let x : ⊥ = grind (arith, ints, c.if-high-low.true, a, b) in elim x [ ]))

pub returns-then-last-high : goal.returns-then-last-high
returns-then-last-high c = λ ps h.
    let low : SFits w128 c.args.low = c.ranges.low in
    let next : c.loop-last.next ≡ to_z w128 c.loop-last.next-bits = grind (arith, c.loop-last.next-is) in
    let l : c.args.high ≤ℤ c.in-Some.last = grind (arith, ints, c.if-last-high.true) in
    let m = c.in-Some.ensures.meets in
    sym (no_gap ps c.args.low c.args.high (λ n a b. sym (h n) ∙ by_lt_z n c.loop-last.next
    (λ k. c.loop-last.invariant.2 n (omega (arith, ints, a)) (omega (arith, ints, k, next)))
    (λ k. run_meets c.args.runs.now n n c.in-Some.field-0-0 c.in-Some.last c.in-Some.ensures.run
    (omega (arith, ints, m.0, k, next)) (omega (arith, ints, b, l)))))

pub loop-last-preserved : goal.loop-last-preserved
loop-last-preserved c =
    let l : c.in-Some.last <ℤ c.args.high = grind (arith, ints, c.if-last-high.false) in
    let m = c.in-Some.ensures.meets in
    let i = c.loop-last.invariant in
    let next : c.loop-last.next ≡ to_z w128 c.loop-last.next-bits = grind (arith, c.loop-last.next-is) in
    let f : SFits w128 c.in-Some.last = search rules in
    let high : SFits w128 c.args.high = c.ranges.high in
    let low : SFits w128 c.args.low = c.ranges.low in
    let g : SFits w128 (c.in-Some.last +ℤ pos 1) = grind (arith, ints, l, f, high) in
    rw (to_z-of_z w128 c.in-Some.last f, to_z-of_z w128 (c.in-Some.last +ℤ pos 1) g, to_z-of_z w128 c.args.high high, to_z-of_z w128 c.args.low low) (
      omega (arith, ints, m.1, i.0, next),
      omega (arith, ints, l),
      λ n a b. by_lt_z n c.loop-last.next
          (λ k. i.2 n (omega (arith, ints, a)) (omega (arith, ints, k, next)))
          (λ k. run_meets c.args.runs.now n n c.in-Some.field-0-0 c.in-Some.last c.in-Some.ensures.run
          (omega (arith, ints, m.0, k, next)) (omega (arith, ints, b))),
    )

pub returns : goal.returns
returns c = λ ps h.
    let i = c.loop-last.invariant in
    let high : SFits w128 c.args.high = c.ranges.high in
    let low : SFits w128 c.args.low = c.ranges.low in
    let next = to_z w128 c.loop-last.next-bits in
    sym (gap_at ps c.args.low c.args.high next (omega (arith, ints, i.0)) (omega (arith, ints, i.1))
    (sym (h next) ∙ c.in_default.ensures.none)
    (λ n a b. sym (h n) ∙ i.2 n (omega (arith, ints, a)) b))
