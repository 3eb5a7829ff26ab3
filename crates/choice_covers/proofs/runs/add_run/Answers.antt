use Rattle.std.proofs.Common.{◌≡◌, ◌∙◌, refl, sym, ap, arith, rules}
use Rattle.std.specs.BTreeMap.{get}
use Rattle.std.specs.Int.{int_max, int_min}
use Rattle.std.specs.Ordering.{int_cmp}
use Rattle.std.proofs.lemmas.Int.{ints, to_z-of_z}
use Rattle.choice_covers.proofs.Apart.{added_apart, added_hold, hold_at, taken_in}
use Rattle.choice_covers.proofs.runs.add_run.Goals as goal
use mir.Syntax.{w128}
use mir.Val.{SFits, of_z, to_z}

pub loop-first-preserved : goal.loop-first-preserved
loop-first-preserved c =
    let low : SFits w128 c.args.low = c.ranges.low in
    let high : SFits w128 c.args.high = c.ranges.high in
    let a = to_z w128 c.loop-first.least-bits in
    let b = to_z w128 c.loop-first.greatest-bits in
    let r : SFits w128 c.in-Some.first = search rules in
    let k = to_z w128 (of_z w128 c.in-Some.first) in
    let e : k ≡ c.in-Some.first = to_z-of_z w128 c.in-Some.first r in
    let l = c.in-Some.ensures.meets.0 in
    let t = taken_in c.loop-first.runs c.remove.new.self a b k c.in-Some.last
    c.loop-first.invariant.0 c.loop-first.invariant.1 (ap (get int_cmp c.loop-first.runs) e ∙ c.in-Some.ensures.run)
    (omega (arith, ints, l)) c.in-Some.ensures.meets.1
    c.remove.ensures.updates c.remove.ensures.entries in
    let f : SFits w128 c.min-least.result = search rules in
    let g : SFits w128 c.max-greatest.result = search rules in
    let v : c.min-least.result ≡ int_min a c.in-Some.first =
    grind (arith, to_z-of_z, c.min-least.ensures.value) in
    let w : c.max-greatest.result ≡ int_max b c.in-Some.last =
    grind (arith, to_z-of_z, c.max-greatest.ensures.value) in
    let p : to_z w128 (of_z w128 c.min-least.result) ≡ int_min a k = to_z-of_z w128 c.min-least.result f ∙ (v ∙ ap (int_min a) (sym e)) in
    let q : to_z w128 (of_z w128 c.max-greatest.result) ≡ int_max b c.in-Some.last = to_z-of_z w128 c.max-greatest.result g ∙ w in (
      t.apart,
      rw (p, q) (t.filled),
      hold_at (to_z w128 (of_z w128 c.min-least.result)) (to_z w128 (of_z w128 c.max-greatest.result))
          (to_z w128 (of_z w128 c.args.low)) (to_z w128 (of_z w128 c.args.high)) c.remove.new.self.entries c.args.runs.now.entries
          p q (sym (to_z-of_z w128 c.args.low low)) (sym (to_z-of_z w128 c.args.high high))
          (λ n. t.hold n ∙ hold_at a b c.args.low c.args.high c.loop-first.runs.entries c.args.runs.now.entries
          refl refl (to_z-of_z w128 c.args.low low) (to_z-of_z w128 c.args.high high) c.loop-first.invariant.2 n),
    )

pub returns-clause-apart : goal.returns-clause-apart
returns-clause-apart c =
    let a = to_z w128 c.loop-first.least-bits in
    let b = to_z w128 c.loop-first.greatest-bits in
    added_apart c.loop-first.runs c.insert.new.self a b c.loop-first.invariant.0 c.loop-first.invariant.1
    c.in_default.ensures.none c.in_ok-insert.ensures.updates

pub returns-clause-hold : goal.returns-clause-hold
returns-clause-hold c =
    let low : SFits w128 c.args.low = c.ranges.low in
    let high : SFits w128 c.args.high = c.ranges.high in
    let a = to_z w128 c.loop-first.least-bits in
    let b = to_z w128 c.loop-first.greatest-bits in
    λ n. added_hold c.loop-first.runs c.insert.new.self a b c.loop-first.invariant.0 c.loop-first.invariant.1
    c.in_default.ensures.none c.in_ok-insert.ensures.entries n
    ∙ hold_at a b c.args.low c.args.high c.loop-first.runs.entries c.args.runs.now.entries
    refl refl (to_z-of_z w128 c.args.low low) (to_z-of_z w128 c.args.high high) c.loop-first.invariant.2 n
