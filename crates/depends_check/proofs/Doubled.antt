-- Mentions, one behind another.
use Rattle.std.proofs.Common.{◌≡◌, ℕ, ◌+◌, ◌<◌, ◌≤◌, ◌↔◌, inl, inr, List, [], Some, length, take, sym, subst, arith}
use Rattle.std.specs.Prelude.{IsSomeAnd, slice_get}
use Rattle.std.specs.List.{Contains}
use Rattle.core_form.specs.declared.contract.DependsPair.{DependsPair}
use Rattle.core_form.specs.declared.program.Body.{Body}
use Rattle.core_form.specs.declared.program.Item.{Item}
use Rattle.core_form.specs.declared.program.Program.{Program}
use Rattle.spark_messages.specs.declared.messages.Message.{Message}
use Rattle.used_modes.specs.Added.{Adds}
use Rattle.used_modes.proofs.Adding.{adds_same}
use Rattle.depends_check.specs.DependsCheck.{IsDoubled, IsMentioned, TellsFault, mention}
use Rattle.depends_check.specs.declared.faults.Fault.{Fault}
use Rattle.depends_check.specs.declared.sides.Side.{Side}
use Rattle.depends_check.proofs.Grown.{all_below, and_at, and_map, some_taken, within}

module _ (p : Program) (body : Body) (pairs : List DependsPair) where
  none_at : (o : Item) → Contains [] o ↔ IsMentioned p Side.Output (take 0 pairs) o
  none_at o = (λ h. let l : h.0 < 0 = h.1 in absurd (omega (arith, l)), λ h. absurd h)

  pub none_before : (items : List Item) → items ≡ [] → (o : Item) → Contains items o ↔ IsMentioned p Side.Output (take 0 pairs) o
  none_before items is = subst (λ xs. (o : Item) → Contains xs o ↔ IsMentioned p Side.Output (take 0 pairs) o) (sym is) none_at

  module _ (k : ℕ) (pair : DependsPair) (is : slice_get pairs k ≡ Some pair) (items : List Item)
      (before : (o : Item) → Contains items o ↔ IsMentioned p Side.Output (take k pairs) o) where
    pub one_before : (new : List Item) → Adds items new (λ o. mention p Side.Output pair ≡ Some o) → (o : Item) → Contains new o ↔
        IsMentioned p Side.Output (take (k + 1) pairs) o
    one_before new a o =
        let t = some_taken (λ (q : DependsPair). mention p Side.Output q ≡ Some o) pairs k pair is in (
          λ h. t.0 (elim ((a.same o).0 h) [ inl c ↦ inl ((before o).0 c) | inr e ↦ inr e ]),
          λ h. (a.same o).1 (elim (t.1 h) [ inl s ↦ inl ((before o).1 s) | inr e ↦ inr e ]),
        )

    pub doubled_at : (old new : List Message) → Adds old new (λ m. IsSomeAnd (mention p Side.Output pair) (λ o. Contains items o ×
        TellsFault p body Fault.Doubled pair.place o m))
        → Adds old new (IsDoubled p body pairs k)
    doubled_at old new a = adds_same old new (λ m. IsSomeAnd (mention p Side.Output pair) (λ o. Contains items o × TellsFault p body
        Fault.Doubled pair.place o m))
        (IsDoubled p body pairs k) a (λ m.
        let at = and_at (λ (q : DependsPair). IsSomeAnd (mention p Side.Output q) (λ o. IsMentioned p Side.Output (take k pairs) o ×
        TellsFault p body Fault.Doubled q.place o m)) (slice_get pairs k) pair is in (
          λ h. at.0 (and_map (λ (o : Item). Contains items o × TellsFault p body Fault.Doubled pair.place o m)
              (λ (o : Item). IsMentioned p Side.Output (take k pairs) o × TellsFault p body Fault.Doubled pair.place o m) (λ o g.
              ((before o).0 g.0, g.1)) (mention p Side.Output pair) h),
          λ h. and_map (λ (o : Item). IsMentioned p Side.Output (take k pairs) o × TellsFault p body Fault.Doubled pair.place o m)
              (λ (o : Item). Contains items o × TellsFault p body Fault.Doubled pair.place o m) (λ o g. ((before o).1 g.0, g.1)) (mention
              p Side.Output pair) (at.1 h),
        ))

  pub all_doubled : (old new : List Message) (n : ℕ) → length pairs ≤ n → Adds old new (λ m. (k : ℕ) × ((k < n) × IsDoubled p body pairs
      k m))
      → Adds old new (λ m. (k : ℕ) × IsDoubled p body pairs k m)
  all_doubled old new n l a = all_below (λ k m. IsDoubled p body pairs k m) old new n (λ k m h.
      let w : k < length pairs = within pairs k (λ (q : DependsPair). IsSomeAnd (mention p Side.Output q) (λ o. IsMentioned p Side.Output
      (take k pairs) o × TellsFault p body Fault.Doubled q.place o m)) h in
      omega (arith, w, l)) a
