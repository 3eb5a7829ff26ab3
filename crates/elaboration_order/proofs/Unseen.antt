-- What stands before any item was seen to.
use Rattle.std.proofs.Common.{◌≡◌, ℕ, zero, suc, true, List, [], take, replicate, get_or, slice_get, refl, ap, sym, ◌∙◌, subst, arith}
use Rattle.std.specs.List.{list_any}
use Rattle.std.specs.Ordering.{nat_cmp}
use Rattle.std.specs.BTreeSet.{BTreeSet}
use Rattle.std.specs.BTreeMap.{is_at}
use Rattle.std.proofs.lemmas.Bool.{false≢true}
use Rattle.elaboration_order.specs.declared.rules.Rule.{Rule}
use Rattle.elaboration_order.specs.declared.queue.Queue.{Queue}
use Rattle.elaboration_order.specs.Order.{are_done}
use Rattle.elaboration_order.specs.Queue.{has, needs_by, Begun}

pub zeros : (n i : ℕ) → (let z : ℕ = 0 in get_or (replicate n z) i 0 ≡ z)
zeros zero i = refl
zeros (suc n) zero = refl
zeros (suc n) (suc i) = zeros n i

has_none : (s : BTreeSet ℕ) (i : ℕ) → s.keys ≡ [] → has s i ≡ true → ⊥
has_none s i e h = false≢true (sym (ap (λ ks. list_any (is_at (nat_cmp i)) ks) e) ∙ h)

pub begun_unseen : (rules : List Rule) (q : Queue) (i : ℕ) → get_or q.passed.items i 0 ≡ 0 → q.possible.keys ≡ [] → q.preferred.keys ≡ [] → Begun rules q i
begun_unseen rules q i z e f = record {
  within = omega (arith, z);
  passed = subst (λ k. are_done q.done.items (take k (needs_by (slice_get rules i))) ≡ true) (sym z) refl;
  possible = λ h. absurd (has_none q.possible i e h);
  preferred = λ h. absurd (has_none q.preferred i f h);
}
