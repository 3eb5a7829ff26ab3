use Rattle.std.proofs.Common.{◌≡◌, ◌+◌, ◌<◌, All, List, [], ◌∷◌, ◌++◌, length, length-append, get_or, ap, arith, subst, sym, ◌∙◌}
use Rattle.std.proofs.lemmas.List.Elements.{All-push}
use Rattle.spark_base.specs.declared.numbers.BodyNo.{BodyNo}
use Rattle.call_lists.specs.Lists.{Names}
use Rattle.call_lists.proofs.Names.{empty_step}
use Rattle.program_layout.proofs.holders.no_bodies.Goals as goal

pub loop-k-preserved : goal.loop-k-preserved
loop-k-preserved c =
    let items : c.push.new.self.items ≡ c.loop-k.lists.items ++ [] ∷ [] =
    c.in_ok-push.ensures.items ∙ ap (λ (x : List BodyNo). c.loop-k.lists.items ++ x ∷ []) c.new.ensures in
    record {
      size =
          let one : length (c.loop-k.lists.items ++ [] ∷ []) ≡ length c.loop-k.lists.items + 1 = length-append c.loop-k.lists.items
          ([] ∷ []) in
          let e = ap (λ (xs : List (List BodyNo)). length xs) items in let d = c.loop-k.invariant.size in omega (arith, one, e, d);
      below = λ n. subst (λ (xs : List (List BodyNo)). All (λ list. All (λ b. b.0 < n) list) xs) (sym items)
          (All-push (λ (list : List BodyNo). All (λ (b : BodyNo). b.0 < n) list) c.loop-k.lists.items [] (c.loop-k.invariant.below n)
          (λ k d l. absurd (omega (arith, l))));
      empty = λ k b. subst (λ (xs : List (List BodyNo)). Names (get_or xs k []) b → ⊥) (sym items)
          (empty_step c.loop-k.lists.items c.loop-k.invariant.empty k b);
    }
