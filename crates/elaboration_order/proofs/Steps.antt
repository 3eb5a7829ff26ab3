-- One step of the order.
use Rattle.std.proofs.Common.{◌≡◌, ℕ, zero, suc, ◌+◌, ◌<◌, Bool, true, false, List, [], ◌∷◌, ◌++◌, set, Some, None, refl, ap, sym, ◌∙◌, arith, ⊎_elim}
use Rattle.std.proofs.lemmas.Bool.{cases_eq}
use Rattle.std.proofs.lemmas.List.{append_assoc, append-nil}
use Rattle.elaboration_order.specs.declared.rules.Rule.{Rule}
use Rattle.elaboration_order.specs.Order.{first_below, next, order_from, chosen}

-- the first that passes is the first below each greater number
pub first_stays : (p : ℕ → Bool) (i n : ℕ) → first_below p i ≡ None → p i ≡ true → i < n → first_below p n ≡ Some i
first_stays p i zero h t l = absurd (omega arith)
first_stays p i (suc n) h t l =
    ⊎_elim
    (λ e. let f : first_below p n ≡ None = ap (first_below p) (sym e) ∙ h in let q : p n ≡ true = ap p (sym e) ∙ t in rw (f, q) (ap (λ k. Some k) (sym e)))
    (λ ne. let f : first_below p n ≡ Some i = first_stays p i n h t (omega (arith, ne)) in rw f refl)
    (cases_eq i n)

pub none_yet : (p : ℕ → Bool) (i : ℕ) → first_below p i ≡ None → p i ≡ false → first_below p (i + 1) ≡ None
none_yet p i h f = let e : i + 1 ≡ suc i = omega arith in rw e (rw (h, f) refl)

pub goes : (rules : List Rule) (m n : ℕ) (done : List Bool) (i : ℕ) → m ≡ n + 1 → next rules done ≡ Some i → order_from rules m done ≡ i ∷ order_from rules n (set done i true)
goes rules m n done i e h = let f : m ≡ suc n = omega arith in rw f (ap (chosen (λ i. i ∷ order_from rules n (set done i true))) h)

pub stops : (rules : List Rule) (m n : ℕ) (done : List Bool) → m ≡ n + 1 → next rules done ≡ None → order_from rules m done ≡ []
stops rules m n done e h = let f : m ≡ suc n = omega arith in rw f (ap (chosen (λ i. i ∷ order_from rules n (set done i true))) h)

-- what came, the item that comes, and what is still to come
pub comes : (rules : List Rule) (came all : List ℕ) (i count m : ℕ) (done : List Bool) → m ≡ count + 1 → next rules done ≡ Some i
    → came ++ order_from rules m done ≡ all → (came ++ i ∷ []) ++ order_from rules count (set done i true) ≡ all
comes rules came all i count m done e h is =
    append_assoc came (i ∷ []) (order_from rules count (set done i true)) ∙ ap (λ xs. came ++ xs) (sym (goes rules m count done i e h)) ∙ is

pub ends : (rules : List Rule) (came all : List ℕ) (count m : ℕ) (done : List Bool) → m ≡ count + 1 → next rules done ≡ None
    → came ++ order_from rules m done ≡ all → came ≡ all
ends rules came all count m done e h is = sym (append-nil came) ∙ ap (λ xs. came ++ xs) (sym (stops rules m count done e h)) ∙ is
