use Rattle.std.proofs.Common.{ℕ, ◌+◌, ◌*◌, ◌<◌, inl, inr, length, arith}
use Rattle.flow_bits.specs.Sets.{Relates}
use Rattle.row_equations.specs.Packing.{AtNumber}
use Rattle.row_equations.proofs.First.{number_within}
use Rattle.row_equations.proofs.setting.add_pairs.Goals as goal

pub returns : goal.returns
returns c n =
    let numbers = c.args.numbers.now in
    let last : (i : ℕ) → i < length numbers → i < c.loop-i.i = λ i h. (let l = c.loop-i-test.false in omega (arith, l, h)) in (
      λ h. elim ((c.loop-i.invariant n).0 h) [ inl o ↦ inl o | inr s ↦ inr (s.0, s.1.1) ],
      λ s. elim s [
        | inl o ↦ (c.loop-i.invariant n).1 (inl o)
        | inr t ↦ (c.loop-i.invariant n).1 (inr (
          t.0,
          (
            last t.0 (number_within numbers t.0 (λ k. AtNumber numbers (c.args.first + t.0 * length numbers) (Relates c.args.depends.now k) n) t.1),
            t.1,
          ),
        ))
      ],
    )
