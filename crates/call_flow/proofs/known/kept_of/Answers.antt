use Rattle.std.proofs.Common.{◌≡◌, ℕ, ◌+◌, ◌<◌, ◌≤◌, ◌⊎◌, inl, inr, length, arith}
use Rattle.flow_bits.specs.Sets.{Has, Relates}
use Rattle.call_flow.specs.Calls.{IsAside, Standing}
use Rattle.call_flow.specs.Told.{known_told, name_in}
use Rattle.call_flow.proofs.Named.{named_below}
use Rattle.call_flow.proofs.known.kept_of.Goals as goal

pub returns-clause-set : goal.returns-clause-set
returns-clause-set c = λ v w. (there v w, back v w)
  where
    there : (v w : ℕ) → Relates c.add_diagonal.new.into v w → (v ≤ c.args.big) × ((v ≡ w)
        × (Standing (name_in c.args.known.now.names.items) (Has c.args.known.now.keeps) v ⊎ IsAside (name_in c.args.known.now.names.items) (known_told c.args.known.now) v))
    there v w r = elim ((c.add_diagonal.ensures.set v w).0 r) [
      | inl old ↦ absurd ((c.in_ok-kept.ensures.empty v w).0 old)
      | inr x ↦ (elim ((c.add_known.ensures.set v).0 x.1) [
        | inl p ↦ (let q = (c.remove_known.ensures.set v).0 p in let l : v < c.args.big + 1 = (c.in_ok-row.ensures.set v).0 q.0 in (omega (arith, l), (x.0, inr q.1)))
        | inr s ↦ (let l : v < c.args.big = named_below c.args.big c.args.known.now.names.items c.args.known.now.keeps c.requires.known.names c.requires.known.keeps v s in
            (omega (arith, l), (x.0, inl s)))
      ])
    ]

    back : (v w : ℕ) → ((v ≤ c.args.big) × ((v ≡ w)
        × (Standing (name_in c.args.known.now.names.items) (Has c.args.known.now.keeps) v ⊎ IsAside (name_in c.args.known.now.names.items) (known_told c.args.known.now) v)))
        → Relates c.add_diagonal.new.into v w
    back v w (l, (e, inl s)) = (c.add_diagonal.ensures.set v w).1 (inr (e, (c.add_known.ensures.set v).1 (inr s)))
    back v w (l, (e, inr n)) =
        let m : v < c.args.big + 1 = omega (arith, l) in
        (c.add_diagonal.ensures.set v w).1 (inr (e, (c.add_known.ensures.set v).1 (inl ((c.remove_known.ensures.set v).1 ((c.in_ok-row.ensures.set v).1 m, n)))))
