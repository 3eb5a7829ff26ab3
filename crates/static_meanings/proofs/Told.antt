-- One pair more, at the end.
use Rattle.std.proofs.Common.{◌≡◌, ℕ, ◌<◌, nat_eq, true, false, if◌then◌else◌, List, [], ◌∷◌, ◌++◌, length, set, get_or, Option, Some, None, refl, sym, ⊎_elim}
use Rattle.std.proofs.lemmas.Bool.{cases_eq, eq-eqb, ne_eqb}
use Rattle.std.proofs.lemmas.List.{get_or-set_same, get_or-set_other}
use Rattle.static_meanings.specs.Pairs.{told, told_from}

told_push_from : {V : Type 0} (found : Option V) (ps : List (ℕ × V)) (p : ℕ × V) (n : ℕ)
    → told_from found (ps ++ p ∷ []) n ≡ (if nat_eq p.0 n then Some p.1 else told_from found ps n)
told_push_from found [] p n = refl
told_push_from found (q ∷ ps) p n = told_push_from (if nat_eq q.0 n then Some q.1 else found) ps p n

-- slots that hold what stands for each number
pub told_more : {V : Type 0} (slots : List (Option V)) (ps : List (ℕ × V)) (k : ℕ) (v : V) → k < length slots
    → ((n : ℕ) → get_or slots n None ≡ told ps n) → (n : ℕ) → get_or (set slots k (Some v)) n None ≡ told (ps ++ (k, v) ∷ []) n
told_more slots ps k v l same n =
    let p : told (ps ++ (k, v) ∷ []) n ≡ (if nat_eq k n then Some v else told ps n) = told_push_from None ps (k, v) n in
    ⊎_elim
    (λ e. let q = get_or-set_same slots k (Some v) None l in let t : nat_eq k n ≡ true = eq-eqb k n (sym e) in rw (p, t, e) q)
    (λ d. let q = get_or-set_other slots k n (Some v) None d in let t : nat_eq k n ≡ false = ne_eqb k n (λ e. d (sym e)) in rw (p, t, q) (same n))
    (cases_eq n k)
