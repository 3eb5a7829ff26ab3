-- Lists of items that have come.
use Rattle.std.proofs.Common.{◌≡◌, ℕ, ◌+◌, ◌<◌, Bool, true, false, List, length, take, get_or, refl, ◌∙◌}
use Rattle.std.proofs.lemmas.List.Folds.{list_all_more}
use Rattle.elaboration_order.specs.Order.{are_done}

-- one more, which has come
pub one_more : (done : List Bool) (xs : List ℕ) (i : ℕ) → i < length xs → are_done done (take i xs) ≡ true → get_or done (get_or xs i 0) false ≡ true
    → are_done done (take (i + 1) xs) ≡ true
one_more done xs i l h e = list_all_more (λ k. get_or done k false) xs i 0 l ∙ (rw (h, e) refl)
