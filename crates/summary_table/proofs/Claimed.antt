-- What a step on one word does to the claim state that words and views stand for.
use Rattle.std.proofs.Common.{◌≡◌, ℕ, ◌+◌, ◌<◌, Bool, true, false, ◌&&◌, List, length, set, refl, sym, ap, ◌∙◌, subst, arith}
use Rattle.std.specs.Prelude.{slice_index, ◌==◌, nat_lt}
use Rattle.std.specs.Int.{bit_at}
use Rattle.std.proofs.lemmas.List.{get_or-set_same, get_or-set_other}
use Rattle.std.proofs.lemmas.Bool.{ltb-true, lt-ltb}
use mathlib.Core.Option.{some}
use lib.ListN.{get_elem?}
use Rattle.claim_core.specs.Bits.{put}
use Rattle.claim_core.specs.System.{System}
use Rattle.claim_core.proofs.Words.{at_put, put_here, put_else}
use Rattle.summary_table.specs.declared.view.View.{View}
use Rattle.summary_table.specs.Views.{worker_of, spent}
use Rattle.summary_table.specs.Kept.{gate_at, word_at, has_mark, view_at, claims_of}
use Rattle.summary_table.proofs.Lists.{at_elem, set_is_put}

module _ (sys : System) (words : List ℕ) (views : List View) (id : ℕ) (v : View) (there : get_elem? views id ≡ some v) (k : View) where
  pub mine : view_at views id ≡ v
  mine = (at_elem spent views id v there).0

  pub views_put : (i : ℕ) → view_at (set views id k) i ≡ put (view_at views) id k i
  views_put i = set_is_put spent views id k ((at_elem spent views id v there).1) i

  pub workers_put : (i : ℕ) → worker_of sys (view_at (set views id k) i) ≡ put (λ j. worker_of sys (view_at views j)) id (worker_of sys k) i
  workers_put i = ap (worker_of sys) (views_put i) ∙ at_put (view_at views) id k i (λ u. worker_of sys u ≡ put (λ j. worker_of sys (view_at views j)) id (worker_of sys k) i)
      (λ e. sym (subst (λ m. put (λ j. worker_of sys (view_at views j)) id (worker_of sys k) m ≡ worker_of sys k) (sym e) (put_here (λ j. worker_of sys (view_at views j)) id (worker_of sys k))))
      (λ n. sym (put_else (λ j. worker_of sys (view_at views j)) id (worker_of sys k) i n))

  -- a mark is told by the gates of bodies alone
  mark_same : (more : List ℕ) (m b : ℕ) → (b < sys.bodies → slice_index more (gate_at b) ≡ slice_index words (gate_at b)) → has_mark sys more m b ≡ has_mark sys words m b
  mark_same more m b h = go (nat_lt b sys.bodies) refl
    where
      go : (t : Bool) → nat_lt b sys.bodies ≡ t → (t && (bit_at (slice_index more (gate_at b)) m == 1)) ≡ (t && (bit_at (slice_index words (gate_at b)) m == 1))
      go true e = ap (λ x. bit_at x m == 1) (h (ltb-true b sys.bodies e))
      go false e = refl

  module _ (size : length words ≡ 1 + sys.bodies + sys.words) where
    module _ (w x : ℕ) (below : w < sys.words) where
      pub row_words : (u : ℕ) → slice_index (set words (word_at sys w) x) (word_at sys u) ≡ put (λ n. slice_index words (word_at sys n)) w x u
      row_words u = at_put (λ n. slice_index words (word_at sys n)) w x u (λ y. slice_index (set words (word_at sys w) x) (word_at sys u) ≡ y)
          (λ e. subst (λ m. slice_index (set words (word_at sys w) x) (word_at sys m) ≡ x) (sym e) (get_or-set_same words (word_at sys w) x 0 (omega arith)))
          (λ n. get_or-set_other words (word_at sys w) (word_at sys u) x 0 (λ e. n (omega arith)))

      row_marks : (m b : ℕ) → has_mark sys (set words (word_at sys w) x) m b ≡ has_mark sys words m b
      row_marks m b = mark_same (set words (word_at sys w) x) m b (λ lt. get_or-set_other words (word_at sys w) (gate_at b) x 0 (λ e. absurd (omega arith)))

      pub row_step : claims_of sys (set words (word_at sys w) x) (set views id k)
          ≡ record { words = put (claims_of sys words views).words w x; dirty = has_mark sys words 0; held = has_mark sys words 1; workers = put (claims_of sys words views).workers id (worker_of sys k) }
      row_step = λ i. record { words = λ u. row_words u i; dirty = λ b. row_marks 0 b i; held = λ b. row_marks 1 b i; workers = λ j. workers_put j i }

    module _ (b x : ℕ) (below : b < sys.bodies) where
      gate_words : (u : ℕ) → slice_index (set words (gate_at b) x) (word_at sys u) ≡ slice_index words (word_at sys u)
      gate_words u = get_or-set_other words (gate_at b) (word_at sys u) x 0 (λ e. absurd (omega arith))

      gate_marks : (m : ℕ) (t : Bool) → (bit_at x m == 1) ≡ t → (a : ℕ) → has_mark sys (set words (gate_at b) x) m a ≡ put (has_mark sys words m) b t a
      gate_marks m t is a = at_put (has_mark sys words m) b t a (λ y. has_mark sys (set words (gate_at b) x) m a ≡ y)
          (λ e. subst (λ n. has_mark sys (set words (gate_at b) x) m n ≡ t) (sym e) (ap (λ p. p && (bit_at (slice_index (set words (gate_at b) x) (gate_at b)) m == 1)) (lt-ltb b sys.bodies below) ∙ ap (λ y. bit_at y m == 1) (get_or-set_same words (gate_at b) x 0 (omega arith)) ∙ is))
          (λ n. mark_same (set words (gate_at b) x) m a (λ lt. get_or-set_other words (gate_at b) (gate_at a) x 0 (λ e. n (omega arith))))

      pub gate_step : (dirty held : Bool) → (bit_at x 0 == 1) ≡ dirty → (bit_at x 1 == 1) ≡ held
          → claims_of sys (set words (gate_at b) x) (set views id k)
          ≡ record { words = (claims_of sys words views).words; dirty = put (has_mark sys words 0) b dirty; held = put (has_mark sys words 1) b held; workers = put (claims_of sys words views).workers id (worker_of sys k) }
      gate_step dirty held is_dirty is_held = λ i. record { words = λ u. gate_words u i; dirty = λ a. gate_marks 0 dirty is_dirty a i; held = λ a. gate_marks 1 held is_held a i; workers = λ j. workers_put j i }
