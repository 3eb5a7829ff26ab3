-- What a change of one mark, word or worker tells.
use Rattle.std.proofs.Common.{◌≡◌, ◌⊎◌, inl, inr, ℕ, zero, suc, ◌<◌, ◌↔◌, Bool, true, false, not, ◌||◌, List, [], ◌∷◌, ◌++◌, replicate, length, get_or, Option, None, eq-eqb, ne_eqb, refl, sym, ap, ◌∙◌, subst, arith}
use Rattle.std.proofs.Math.ListN.{set}
use Rattle.std.specs.Prelude.{IsTrue, nat_lt, bit_or, slice_index, slice_index_or}
use Rattle.std.proofs.lemmas.Bool.{cases_lt, lt-ltb, le-ltb, or_cases, or_left, or_right}
use Rattle.std.proofs.lemmas.Bool.Decides.{same_from_decides}
use Rattle.std.proofs.lemmas.List.{get_or-set_same, get_or-set_other}
use Rattle.claim_core.specs.Bits.{put, put_at}
use Rattle.claim_core.specs.System.{Ruled, system_of, owned_by}
use Rattle.claim_core.specs.Machine as core
use Rattle.claim_core.proofs.Words.{at_put}
use Rattle.claim_board.specs.declared.worker.Worker.{Worker}
use Rattle.claim_board.specs.Told.{worker_told, workers_told, seen_words}

pub set_at : {A : Type 0} (l : List A) (i : ℕ) (x d : A) → i < length l → (j : ℕ) → slice_index_or (set l i x) j d ≡ put (λ m. slice_index_or l m d) i x j
set_at l i x d lt j = at_put (λ m. get_or l m d) i x j (λ y. get_or (set l i x) j d ≡ y)
    (λ e. subst (λ m. get_or (set l i x) m d ≡ x) (sym e) (get_or-set_same l i x d lt)) (λ n. get_or-set_other l i j x d n)

pub set_tells : {A : Type 0} (l : List A) (i : ℕ) (x d : A) → i < length l
    → ◌≡◌ {A = ℕ → A} (λ j. slice_index_or (set l i x) j d) (put (λ j. slice_index_or l j d) i x)
set_tells l i x d lt = λ k j. set_at l i x d lt j k

here : (ks : List Worker) (i : ℕ) (k : Worker) → i < length ks → workers_told (set ks i k) i ≡ worker_told k
here [] i k lt = absurd (omega arith)
here (x ∷ xs) zero k lt = refl
here (x ∷ xs) (suc i) k lt = here xs i k (omega arith)

else_where : (ks : List Worker) (i j : ℕ) (k : Worker) → (j ≡ i → ⊥) → workers_told (set ks i k) j ≡ workers_told ks j
else_where [] i j k n = refl
else_where (x ∷ xs) zero zero k n = absurd (n refl)
else_where (x ∷ xs) zero (suc j) k n = refl
else_where (x ∷ xs) (suc i) zero k n = refl
else_where (x ∷ xs) (suc i) (suc j) k n = else_where xs i j k (λ e. n (ap suc e))

workers_at : (ks : List Worker) (i j : ℕ) (k : Worker) → i < length ks → workers_told (set ks i k) j ≡ put (workers_told ks) i (worker_told k) j
workers_at ks i j k lt = at_put (workers_told ks) i (worker_told k) j (λ y. workers_told (set ks i k) j ≡ y)
    (λ e. subst (λ m. workers_told (set ks i k) m ≡ worker_told k) (sym e) (here ks i k lt)) (λ n. else_where ks i j k n)

-- the worker that stands at a place
pub told_at : (ks : List Worker) (i : ℕ) (k : Worker) → k ≡ get_or ks i k → i < length ks → workers_told ks i ≡ worker_told k
told_at [] i k e lt = absurd (omega arith)
told_at (x ∷ xs) zero k e lt = ap worker_told (sym e)
told_at (x ∷ xs) (suc i) k e lt = told_at xs i k e (omega arith)

pub workers_tell : (ks : List Worker) (i : ℕ) (k : Worker) → i < length ks → workers_told (set ks i k) ≡ put (workers_told ks) i (worker_told k)
workers_tell ks i k lt = λ n j. workers_at ks i j k lt n

-- a list of one value tells that value everywhere, where it is the default
all_same : {A : Type 0} (n j : ℕ) (x : A) → slice_index_or (replicate n x) j x ≡ x
all_same zero j x = refl
all_same (suc n) zero x = refl
all_same (suc n) (suc j) x = all_same n j x

-- another worker at a place
pub worker_set : (ks : List Worker) (i : ℕ) (k : Worker) (next : core.Worker) → i < length ks → worker_told k ≡ next
    → workers_told (set ks i k) ≡ put (workers_told ks) i next
worker_set ks i k next lt e = workers_tell ks i k lt ∙ ap (put (workers_told ks) i) e

-- one idle worker more
pub idle_more : (ks : List Worker) (k : Worker) → ((i : ℕ) → workers_told ks i ≡ core.begins None) → worker_told k ≡ core.begins None
    → (i : ℕ) → workers_told (ks ++ k ∷ []) i ≡ core.begins None
idle_more [] k h e zero = e
idle_more [] k h e (suc i) = refl
idle_more (x ∷ xs) k h e zero = h zero
idle_more (x ∷ xs) k h e (suc i) = idle_more xs k (λ j. h (suc j)) e i

pub all_marked : (n b : ℕ) → slice_index_or (replicate n true) b false ≡ nat_lt b n
all_marked zero b = sym (le-ltb b zero (omega arith))
all_marked (suc n) zero = sym (lt-ltb zero (suc n) (omega arith))
all_marked (suc n) (suc b) = elim (cases_lt b n) [
  | inl lt ↦ all_marked n b ∙ lt-ltb b n lt ∙ sym (lt-ltb (suc b) (suc n) (omega arith))
  | inr ge ↦ all_marked n b ∙ le-ltb b n ge ∙ sym (le-ltb (suc b) (suc n) (omega arith))
]

pub seen_tells : (reads : List (Option ℕ)) (w : ℕ) → slice_index (seen_words reads) w ≡ core.read_or_zero (slice_index_or reads w None)
seen_tells [] w = refl
seen_tells (x ∷ xs) zero = refl
seen_tells (x ∷ xs) (suc w) = seen_tells xs w

module _ (r : Ruled) (k : core.Worker) (w bits old : ℕ) where
  pub joined_quiet : bit_or old bits ≡ old → record k { joined = put k.joined w (bit_or (k.joined w) bits) } ≡ core.after_join (system_of r) k w bits (core.grows_by old bits)
  joined_quiet e = subst (λ g. record k { joined = put k.joined w (bit_or (k.joined w) bits) } ≡ core.after_join (system_of r) k w bits g)
      (sym (ap not (eq-eqb (bit_or old bits) old e))) refl

  pub joined_loud : (Named : ℕ → Type 0) (owes : ℕ → Bool) → (bit_or old bits ≡ old → ⊥) → ((a : ℕ) → Named a ↔ IsTrue (owned_by (λ b. r.calls a b) k.holds))
      → ((a : ℕ) → IsTrue (owes a) ↔ (IsTrue (k.owes a) ⊎ Named a))
      → record k { joined = put k.joined w (bit_or (k.joined w) bits); owes = owes } ≡ core.after_join (system_of r) k w bits (core.grows_by old bits)
  joined_loud Named owes ne callers added = subst (λ g. record k { joined = put k.joined w (bit_or (k.joined w) bits); owes = owes } ≡ core.after_join (system_of r) k w bits g)
      (sym (ap not (ne_eqb (bit_or old bits) old ne)))
      (λ i. record k { joined = put k.joined w (bit_or (k.joined w) bits); owes = λ a. same a i })
    where
      same : (a : ℕ) → owes a ≡ (owned_by (λ b. r.calls a b) k.holds || k.owes a)
      same a = same_from_decides {P = IsTrue (k.owes a) ⊎ Named a} (owes a) (owned_by (λ b. r.calls a b) k.holds || k.owes a) (added a) (
        (λ t. elim (or_cases (owned_by (λ b. r.calls a b) k.holds) (k.owes a) t) [ inl x ↦ inr ((callers a).1 x) | inr y ↦ inl y ]),
        (λ s. elim s [ inl y ↦ or_right (owned_by (λ b. r.calls a b) k.holds) (k.owes a) y | inr x ↦ or_left (owned_by (λ b. r.calls a b) k.holds) (k.owes a) ((callers a).0 x) ]),
      )

-- a mark that was set at a body, if there is one
pub mark_tells : (old new : List Bool) (b holds : Option ℕ) (mark : Bool) → b ≡ holds
    → ((a : ℕ) → slice_index_or new a false ≡ put_at (λ x. slice_index_or old x false) b mark a)
    → ◌≡◌ {A = ℕ → Bool} (λ a. slice_index_or new a false) (put_at (λ x. slice_index_or old x false) holds mark)
mark_tells old new b holds mark h each = λ n a. (each a ∙ ap (λ (o : Option ℕ). put_at (λ x. slice_index_or old x false) o mark a) h) n

pub opened : (bodies words : ℕ) (ws : List ℕ) (dirty held : List Bool) (ks : List Worker) → ws ≡ replicate words 0 → dirty ≡ replicate bodies true
    → held ≡ replicate bodies false → ((i : ℕ) → workers_told ks i ≡ core.begins None)
    → ◌≡◌ {A = core.Claims} (record { words = λ w. slice_index ws w; dirty = λ b. slice_index_or dirty b false; held = λ b. slice_index_or held b false; workers = workers_told ks })
    (core.resumed (λ w. 0) (λ b. nat_lt b bodies))
opened bodies words ws dirty held ks w d h idle = λ n. record {
  words = λ j. (ap (λ (l : List ℕ). slice_index l j) w ∙ all_same words j 0) n;
  dirty = λ b. (ap (λ (l : List Bool). slice_index_or l b false) d ∙ all_marked bodies b) n;
  held = λ b. (ap (λ (l : List Bool). slice_index_or l b false) h ∙ all_same bodies b false) n;
  workers = λ i. idle i n;
}
