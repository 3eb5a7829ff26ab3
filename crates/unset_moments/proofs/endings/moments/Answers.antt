use Rattle.std.proofs.Common.{◌≡◌, ◌∙◌, ℕ, ◌+◌, ◌<◌, ◌≤◌, [], All, ap, length, get_or, Bool, List, ◌∷◌, ◌++◌, Option, Some, subst, sym, arith}
use Rattle.std.specs.Prelude.{slice_get, slice_index_or}
use Rattle.std.proofs.lemmas.List.{get_or_read, length_push}
use Rattle.std.proofs.lemmas.Option.{slice_get-get_or}
use Rattle.std.proofs.lemmas.List.Elements.{All-push}
use Rattle.flow_bits.specs.Sets.{Tells}
use Rattle.unset_moments.specs.Moments.{loose_before}
use Rattle.unset_moments.specs.declared.endings.Ending.{Ending}
use Rattle.unset_moments.proofs.Behind.{one_moment, pushed}
use Rattle.unset_moments.proofs.endings.moments.Goals as goal

pub loop-n-preserved : goal.loop-n-preserved
loop-n-preserved c =
    let p = c.args.program.now in
    let items = c.args.items.now in
    let n = c.loop-n.n in
    let rows = c.loop-n.rows.items in
    let next = c.in_ok-next.next in
    let inv = c.loop-n.invariant in
    let item = c.index-items-n.result in
    let there : slice_get items n ≡ Some item = slice_get-get_or items n item c.loop-n-test.true ∙ ap (λ (x : Ending). Some x) (sym c.index-items-n.is) in
    let below : n < length rows = omega (arith, inv.count) in
    let here : get_or rows n [] ≡ c.index.result.now = sym (get_or_read rows n c.index.result.now below c.index.ensures []) in
    let now : Tells c.index.result.now (loose_before p items n) =
    subst (λ (r : List Bool). Tells r (loose_before p items n)) here (inv.sets n (omega (arith))) in
    let told : Tells next (loose_before p items (n + 1)) = one_moment p items n item there c.index.result.now now next c.in_ok-next.ensures.set in
    record {
      count = subst (λ (xs : List (List Bool)). length xs ≡ n + 1 + 1) (sym c.in_ok-push.ensures.items)
          (length_push rows next ∙ ap (λ (k : ℕ). k + 1) inv.count);
      sizes = subst (λ (xs : List (List Bool)). All (λ row. length row ≡ length p.leaves) xs) (sym c.in_ok-push.ensures.items)
          (All-push (λ (row : List Bool). length row ≡ length p.leaves) rows next inv.sizes
          (c.in_ok-next.ensures.size ∙ ap length (sym here) ∙ inv.sizes n [] below));
      sets = subst (λ (xs : List (List Bool)). (k : ℕ) → k ≤ n + 1 → Tells (slice_index_or xs k []) (loose_before p items k)) (sym c.in_ok-push.ensures.items) (pushed p items rows n inv.count inv.sets next told);
    }
