-- Each accepted event keeps the invariant.
use Rattle.std.proofs.Common.{◌≡◌, ◌⊎◌, inl, inr, ⊎_elim, ℕ, Bool, true, false, not, ◌&&◌, List, [], ◌∷◌, length, Option, None, Some, refl, sym, ap, ◌∙◌, subst}
use Rattle.std.specs.Prelude.{IsTrue, is_some, bit_or, ◌==◌, nat_lt}
use Rattle.std.proofs.lemmas.Bool.{false≢true, both_ways, cases_eq, cases_Bool, eqb-true, and_parts, or_cases, or_left, or_right, not-true, not-false, lt-ltb}
use Rattle.std.proofs.lemmas.Option.{none-some}
use Rattle.least_solution.proofs.Applied.{applied_within}
use Rattle.claim_core.specs.Bits.{Within, HasBit, Below, Bit, IsSetIn, put, put_at}
use Rattle.claim_core.specs.System.{System, IsSystem, in_row, in_callee, owned_by, Meets, InLeast, IsWithinLeast, IsLeast}
use Rattle.claim_core.specs.Machine.{Worker, begins, seen, read_or_zero, Claims, opening, resumed, Event, Claim, Read, Join, Wake, Release, Drop, grows_by, after_read, after_join, after_wake, after_drop, act}
use Rattle.claim_core.specs.Guards.{owes_none, IsFinished, Reaches}
use Rattle.claim_core.specs.Invariant.{Cause, is_dirty, is_owed, is_current, is_met, IsAtWork, Inv}
use Rattle.claim_core.proofs.Guards.{some_one, Passes, passes}
use Rattle.claim_core.proofs.Systems.{owned, row_owner, owner_row, equation_grows, words_grow, words_see, least_closed}
use Rattle.claim_core.proofs.Words.{within_refl, within_trans, within_left, within_right, both_within, within_has, or_has, below_zero, below_or, at_put, put_here, put_else, put_same, all_below-at}

zero_within : (a : ℕ) → Within 0 a
zero_within a = refl

-- a word of the body's row that is one of a callee's: the body is called
pub row_callee : (sys : System) (a b w : ℕ) → IsTrue (in_row sys b w) → IsTrue (in_callee sys a w) → IsTrue (sys.calls a b)
row_callee sys a b w row callee = let o = owned (λ c. sys.calls a c) (sys.owner w) callee in
    let same : o.0 ≡ b = some_one o.0 b (sym o.1 ∙ row_owner sys b w row) in subst (λ c. IsTrue (sys.calls a c)) same o.2

pub one_row : (sys : System) (a b w : ℕ) → IsTrue (in_row sys a w) → IsTrue (in_row sys b w) → a ≡ b
one_row sys a b w h k = some_one a b (sym (row_owner sys a w h) ∙ row_owner sys b w k)

pub seen_some : (o : Option ℕ) (x : ℕ) → o ≡ Some x → read_or_zero o ≡ x
seen_some o x e = ap read_or_zero e

module _ (sys : System) (laws : IsSystem sys) (c : Claims) (inv : Inv sys c) where
  -- what a worker saw is within the present words
  pub seen_within : (i u : ℕ) → Within (seen (c.workers i) u) (c.words u)
  seen_within i u = go ((c.workers i).reads u) refl
    where
      go : (o : Option ℕ) → (c.workers i).reads u ≡ o → Within (read_or_zero o) (c.words u)
      go None e = zero_within _
      go (Some x) e = inv.read_is_there i u x e

  busy_is_held : (i b : ℕ) → (c.workers i).holds ≡ Some b → IsTrue (c.held b)
  busy_is_held i b h = (inv.at_work i b h).marked

  idle_owes_none : (i a : ℕ) → (c.workers i).holds ≡ None → IsTrue ((c.workers i).owes a) → ⊥
  idle_owes_none i a h o = false≢true (subst (λ (k : Worker). IsTrue (k.owes a)) (inv.idle i h) o)

  module _ (i b : ℕ) (idle : (c.workers i).holds ≡ None) (dirty : IsTrue (c.dirty b)) (free : c.held b ≡ false) where
    abbrev claimed : Claims
    claimed = act sys (Claim i b) c

    apart : (j a : ℕ) → (c.workers j).holds ≡ Some a → j ≡ i → ⊥
    apart j a h e = none-some a (sym idle ∙ ap (λ n. (c.workers n).holds) (sym e) ∙ h)

    other : (j a : ℕ) → (c.workers j).holds ≡ Some a → claimed.workers j ≡ c.workers j
    other j a h = put_else c.workers i (begins (Some b)) j (apart j a h)

    mine : claimed.workers i ≡ begins (Some b)
    mine = put_here c.workers i (begins (Some b))

    not_held : (a : ℕ) → IsTrue (c.held a) → Some b ≡ Some a → ⊥
    not_held a h e = both_ways (c.held b) free (subst (λ n. IsTrue (c.held n)) (sym (some_one b a e)) h)

    claimed_caused : (a : ℕ) → a ≡ b ⊎ (a ≡ b → ⊥) → Cause sys c a → Cause sys claimed a
    claimed_caused a (inl e) h = is_current i (ap (λ (k : Worker). k.holds) mine ∙ ap Some (sym e)) (λ w x r. absurd (none-some x (subst (λ (k : Worker). k.reads w ≡ Some x) mine r)))
    claimed_caused a (inr n) (is_dirty d) = is_dirty (put_else c.dirty b false a n ∙ d)
    claimed_caused a (inr n) (is_owed j o) = is_owed j (subst (λ (k : Worker). IsTrue (k.owes a)) (sym (put_else c.workers i (begins (Some b)) j (λ e. idle_owes_none i a idle (subst (λ m. IsTrue ((c.workers m).owes a)) e o)))) o)
    claimed_caused a (inr n) (is_current j h r) = is_current j (ap (λ (k : Worker). k.holds) (other j a h) ∙ h) (λ w x e. r w x (subst (λ (k : Worker). k.reads w ≡ Some x) (other j a h) e))
    claimed_caused a (inr n) (is_met f m) = is_met (put_else c.held b true a n ∙ f) m

    pub claim_keeps : Inv sys claimed
    claim_keeps = record {
      within = inv.within;
      holder = λ a. at_put c.held b true a (λ h. IsTrue h → (j : ℕ) × ((claimed.workers j).holds ≡ Some a))
          (λ e _. (i, ap (λ (k : Worker). k.holds) mine ∙ ap Some (sym e)))
          (λ n h. let o = inv.holder a h in (o.0, ap (λ (k : Worker). k.holds) (other o.0 a o.1) ∙ o.1));
      alone = λ j l a. at_put c.workers i (begins (Some b)) j (λ k. k.holds ≡ Some a → (claimed.workers l).holds ≡ Some a → j ≡ l)
          (λ e h. at_put c.workers i (begins (Some b)) l (λ k. k.holds ≡ Some a → j ≡ l) (λ f _. e ∙ sym f) (λ _ g. absurd (not_held a (busy_is_held l a g) h)))
          (λ n h. at_put c.workers i (begins (Some b)) l (λ k. k.holds ≡ Some a → j ≡ l) (λ f g. absurd (not_held a (busy_is_held j a h) g)) (λ _ g. inv.alone j l a h g));
      at_work = λ j a. at_put c.workers i (begins (Some b)) j (λ k. k.holds ≡ Some a → IsAtWork sys claimed k a)
          (λ e h. record {
            marked = at_put c.held b true a (λ x. IsTrue x) (λ _. refl) (λ n. absurd (n (sym (some_one b a h))));
            of_callees = λ w x r. absurd (none-some x r);
            covered = λ w. below_zero (λ j. sys.equation (IsSetIn (λ u. 0)) (record { word = w; place = j }));
            owes_callers = λ y o. absurd (false≢true o);
            dropped_is_dirty = λ d. absurd (false≢true d);
          })
          (λ n h. let old = inv.at_work j a h in record {
            marked = at_put c.held b true a (λ x. IsTrue x) (λ _. refl) (λ _. old.marked);
            of_callees = old.of_callees;
            covered = old.covered;
            owes_callers = old.owes_callers;
            dropped_is_dirty = λ d. at_put c.dirty b false a (λ x. IsTrue x) (λ e. absurd (not_held a old.marked (ap Some (sym e)))) (λ _. old.dropped_is_dirty d);
          });
      idle = λ j. at_put c.workers i (begins (Some b)) j (λ k. k.holds ≡ None → k ≡ begins None) (λ e h. absurd (none-some b (sym h))) (λ n h. inv.idle j h);
      read_is_there = λ j w x. at_put c.workers i (begins (Some b)) j (λ k. k.reads w ≡ Some x → Within x (c.words w)) (λ e h. absurd (none-some x h)) (λ n h. inv.read_is_there j w x h);
      joined_is_there = λ j w. at_put c.workers i (begins (Some b)) j (λ k. Within (k.joined w) (c.words w)) (λ e. zero_within _) (λ n. inv.joined_is_there j w);
      caused = λ a. claimed_caused a (cases_eq a b) (inv.caused a);
    }

  -- one worker goes on with its body, and no mark on a body is taken away
  module _ (words : ℕ → ℕ) (dirty : ℕ → Bool) (i b : ℕ) (k : Worker) (holds : (c.workers i).holds ≡ Some b) (same : k.holds ≡ Some b) where
    abbrev gone_on : Claims
    gone_on = record { words = words; dirty = dirty; held = c.held; workers = put c.workers i k }

    pub goes_on : IsWithinLeast sys words → ((w : ℕ) → Within (c.words w) (words w)) → ((a : ℕ) → IsTrue (c.dirty a) → IsTrue (dirty a))
        → IsAtWork sys gone_on k b → ((w x : ℕ) → k.reads w ≡ Some x → Within x (words w)) → ((w : ℕ) → Within (k.joined w) (words w)) → ((a : ℕ) → Cause sys gone_on a) → Inv sys gone_on
    goes_on within more dirtier work reads joined causes = record {
      within = within;
      holder = λ a h. let o = inv.holder a h in (o.0, at_put c.workers i k o.0 (λ x. x.holds ≡ Some a) (λ e. same ∙ sym holds ∙ ap (λ n. (c.workers n).holds) (sym e) ∙ o.1) (λ _. o.1));
      alone = λ j l a. let back : (m : ℕ) → (gone_on.workers m).holds ≡ Some a → (c.workers m).holds ≡ Some a =
          λ m. at_put c.workers i k m (λ x. x.holds ≡ Some a → (c.workers m).holds ≡ Some a) (λ e h. ap (λ n. (c.workers n).holds) e ∙ holds ∙ sym same ∙ h) (λ _ h. h) in
          λ h g. inv.alone j l a (back j h) (back l g);
      at_work = λ j a. at_put c.workers i k j (λ x. x.holds ≡ Some a → IsAtWork sys gone_on x a)
          (λ e h. subst (λ n. IsAtWork sys gone_on k n) (some_one b a (sym same ∙ h)) work)
          (λ n h. let old = inv.at_work j a h in record { marked = old.marked; of_callees = old.of_callees; covered = old.covered; owes_callers = old.owes_callers; dropped_is_dirty = λ d. dirtier a (old.dropped_is_dirty d) });
      idle = λ j. at_put c.workers i k j (λ x. x.holds ≡ None → x ≡ begins None) (λ e h. absurd (none-some b (sym h ∙ same))) (λ n h. inv.idle j h);
      read_is_there = λ j w x. at_put c.workers i k j (λ y. y.reads w ≡ Some x → Within x (words w)) (λ e h. reads w x h) (λ n h. within_trans x (c.words w) (words w) (inv.read_is_there j w x h) (more w));
      joined_is_there = λ j w. at_put c.workers i k j (λ y. Within (y.joined w) (words w)) (λ e. joined w) (λ n. within_trans ((c.workers j).joined w) (c.words w) (words w) (inv.joined_is_there j w) (more w));
      caused = causes;
    }

  module _ (i b : ℕ) (holds : (c.workers i).holds ≡ Some b) where
    abbrev now : Worker
    now = c.workers i

    work : IsAtWork sys c (c.workers i) b
    work = inv.at_work i b holds

    -- the holder of the worker's body
    at_i : (j : ℕ) → j ≡ i → (c.workers j).holds ≡ Some b
    at_i j e = ap (λ n. (c.workers n).holds) e ∙ holds

    module _ (w : ℕ) (callee : IsTrue (in_callee sys b w)) where
      abbrev read : Claims
      read = act sys (Read i w) c

      abbrev reader : Worker
      reader = after_read now w (c.words w)

      reads_more : (u : ℕ) → Within (seen now u) (seen reader u)
      reads_more u = at_put now.reads w (Some (c.words w)) u (λ o. Within (seen now u) (read_or_zero o)) (λ e. subst (λ v. Within (seen now u) (c.words v)) e (seen_within i u)) (λ _. within_refl _)

      read_caused : (a : ℕ) → Cause sys c a → Cause sys read a
      read_caused a (is_dirty d) = is_dirty d
      read_caused a (is_owed j o) = is_owed j (at_put c.workers i reader j (λ k. IsTrue (k.owes a)) (λ e. subst (λ n. IsTrue ((c.workers n).owes a)) e o) (λ _. o))
      read_caused a (is_current j h r) = is_current j (at_put c.workers i reader j (λ k. k.holds ≡ Some a) (λ e. ap (λ n. (c.workers n).holds) (sym e) ∙ h) (λ _. h))
          (λ u x. at_put c.workers i reader j (λ k. k.reads u ≡ Some x → x ≡ c.words u)
          (λ e. at_put now.reads w (Some (c.words w)) u (λ o. o ≡ Some x → x ≡ c.words u) (λ f g. sym (some_one (c.words w) x g) ∙ ap c.words (sym f)) (λ _ g. r u x (ap (λ n. (c.workers n).reads u) e ∙ g)))
          (λ _ g. r u x g))
      read_caused a (is_met f m) = is_met f m

      pub read_keeps : Inv sys read
      read_keeps = goes_on c.words c.dirty i b reader holds holds inv.within (λ u. within_refl _) (λ a d. d)
          (record {
            marked = work.marked;
            of_callees = λ u x. at_put now.reads w (Some (c.words w)) u (λ o. o ≡ Some x → IsTrue (in_callee sys b u)) (λ e _. subst (λ v. IsTrue (in_callee sys b v)) (sym e) callee) (λ _ g. work.of_callees u x g);
            covered = λ u n h. words_grow sys laws (seen now) (seen reader) reads_more (record { word = u; place = n }) (work.covered u n h);
            owes_callers = work.owes_callers;
            dropped_is_dirty = work.dropped_is_dirty;
          })
          (λ u x. at_put now.reads w (Some (c.words w)) u (λ o. o ≡ Some x → Within x (c.words u)) (λ f g. subst (λ y. Within y (c.words u)) (ap c.words f ∙ some_one (c.words w) x g) (within_refl _)) (λ _ g. inv.read_is_there i u x g))
          (inv.joined_is_there i)
          (λ a. read_caused a (inv.caused a))

    module _ (a : ℕ) (owes : IsTrue (now.owes a)) where
      abbrev woken : Claims
      woken = act sys (Wake i a) c

      abbrev waker : Worker
      waker = after_wake now a

      wake_caused : (d : ℕ) → d ≡ a ⊎ (d ≡ a → ⊥) → Cause sys c d → Cause sys woken d
      wake_caused d (inl e) h = is_dirty (at_put c.dirty a true d (λ x. IsTrue x) (λ _. refl) (λ n. absurd (n e)))
      wake_caused d (inr n) (is_dirty y) = is_dirty (put_else c.dirty a true d n ∙ y)
      wake_caused d (inr n) (is_owed j o) = is_owed j (at_put c.workers i waker j (λ k. IsTrue (k.owes d)) (λ e. put_else now.owes a false d n ∙ subst (λ m. IsTrue ((c.workers m).owes d)) e o) (λ _. o))
      wake_caused d (inr n) (is_current j h r) = is_current j (at_put c.workers i waker j (λ k. k.holds ≡ Some d) (λ e. ap (λ m. (c.workers m).holds) (sym e) ∙ h) (λ _. h))
          (λ u x. at_put c.workers i waker j (λ k. k.reads u ≡ Some x → x ≡ c.words u) (λ e g. r u x (ap (λ m. (c.workers m).reads u) e ∙ g)) (λ _ g. r u x g))
      wake_caused d (inr n) (is_met f m) = is_met f m

      dirtier : (d : ℕ) → IsTrue (c.dirty d) → IsTrue (woken.dirty d)
      dirtier d h = at_put c.dirty a true d (λ x. IsTrue x) (λ _. refl) (λ _. h)

      wakes_own : IsTrue (owned_by (λ h. h == a) now.holds) ⊎ IsTrue now.dropped → IsTrue (woken.dirty b)
      wakes_own (inl h) = let o = owned (λ h. h == a) now.holds h in
          let e : b ≡ a = some_one b o.0 (sym holds ∙ o.1) ∙ eqb-true o.0 a o.2 in at_put c.dirty a true b (λ x. IsTrue x) (λ _. refl) (λ n. absurd (n e))
      wakes_own (inr h) = dirtier b (work.dropped_is_dirty h)

      pub wake_keeps : Inv sys woken
      wake_keeps = goes_on c.words woken.dirty i b waker holds holds inv.within (λ u. within_refl _) dirtier
          (record {
            marked = work.marked;
            of_callees = work.of_callees;
            covered = work.covered;
            owes_callers = λ d. at_put now.owes a false d (λ x. IsTrue x → IsTrue (sys.calls d b)) (λ _ f. absurd (false≢true f)) (λ _ f. work.owes_callers d f);
            dropped_is_dirty = λ h. wakes_own (or_cases _ _ h);
          })
          (inv.read_is_there i) (inv.joined_is_there i)
          (λ d. wake_caused d (cases_eq d a) (inv.caused d))

    abbrev dropped : Claims
    dropped = record { words = c.words; dirty = put c.dirty b true; held = c.held; workers = put c.workers i (after_drop now) }

    drop_caused : (d : ℕ) → Cause sys c d → Cause sys dropped d
    drop_caused d (is_dirty y) = is_dirty (at_put c.dirty b true d (λ x. IsTrue x) (λ _. refl) (λ _. y))
    drop_caused d (is_owed j o) = is_owed j (at_put c.workers i (after_drop now) j (λ k. IsTrue (k.owes d)) (λ e. subst (λ m. IsTrue ((c.workers m).owes d)) e o) (λ _. o))
    drop_caused d (is_current j h r) = is_current j (at_put c.workers i (after_drop now) j (λ k. k.holds ≡ Some d) (λ e. ap (λ m. (c.workers m).holds) (sym e) ∙ h) (λ _. h))
        (λ u x. at_put c.workers i (after_drop now) j (λ k. k.reads u ≡ Some x → x ≡ c.words u) (λ e g. r u x (ap (λ m. (c.workers m).reads u) e ∙ g)) (λ _ g. r u x g))
    drop_caused d (is_met f m) = is_met f m

    pub drop_keeps : Inv sys dropped
    drop_keeps = goes_on c.words dropped.dirty i b (after_drop now) holds holds inv.within (λ u. within_refl _) (λ d h. at_put c.dirty b true d (λ x. IsTrue x) (λ _. refl) (λ _. h))
        (record { marked = work.marked; of_callees = work.of_callees; covered = work.covered; owes_callers = work.owes_callers; dropped_is_dirty = λ h. put_here c.dirty b true })
        (inv.read_is_there i) (inv.joined_is_there i)
        (λ d. drop_caused d (inv.caused d))

    module _ (w bits : ℕ) (row : IsTrue (in_row sys b w)) (covered : Below bits (λ j. sys.equation (IsSetIn (seen now)) (record { word = w; place = j }))) where
      abbrev word : ℕ
      word = bit_or (c.words w) bits

      abbrev joined : Claims
      joined = act sys (Join i w bits) c

      abbrev joiner : Worker
      joiner = after_join sys now w bits (grows_by (c.words w) bits)

      more : (u : ℕ) → Within (c.words u) (joined.words u)
      more u = at_put c.words w word u (λ x. Within (c.words u) x) (λ e. subst (λ v. Within (c.words v) word) (sym e) (within_left (c.words w) bits)) (λ _. within_refl _)

      mine_within : (u : ℕ) → Within (put now.joined w (bit_or (now.joined w) bits) u) (joined.words u)
      mine_within u = at_put now.joined w (bit_or (now.joined w) bits) u (λ x. Within x (joined.words u))
          (λ e. subst (λ v. Within (bit_or (now.joined w) bits) v) (sym (ap joined.words e ∙ put_here c.words w word))
          (both_within (now.joined w) bits word (within_trans _ _ _ (inv.joined_is_there i w) (within_left (c.words w) bits)) (within_right (c.words w) bits)))
          (λ _. within_trans _ _ _ (inv.joined_is_there i u) (more u))

      still_owed : (j a : ℕ) → IsTrue ((c.workers j).owes a) → IsTrue ((joined.workers j).owes a)
      still_owed j a o = at_put c.workers i joiner j (λ k. IsTrue (k.owes a)) (λ e. or_right _ _ (subst (λ m. IsTrue ((c.workers m).owes a)) e o)) (λ _. o)

      still_holds : (j a : ℕ) → (c.workers j).holds ≡ Some a → (joined.workers j).holds ≡ Some a
      still_holds j a h = at_put c.workers i joiner j (λ k. k.holds ≡ Some a) (λ e. ap (λ m. (c.workers m).holds) (sym e) ∙ h) (λ _. h)

      were_read : (j u x : ℕ) → (joined.workers j).reads u ≡ Some x → (c.workers j).reads u ≡ Some x
      were_read j u x = at_put c.workers i joiner j (λ k. k.reads u ≡ Some x → (c.workers j).reads u ≡ Some x) (λ e g. ap (λ m. (c.workers m).reads u) e ∙ g) (λ _ g. g)

      -- where the word did not grow, nothing changed in the rows
      same_words : grows_by (c.words w) bits ≡ false → joined.words ≡ c.words
      same_words g = put_same c.words w word (sym (eqb-true _ _ (not-false _ g)))

      quiet_caused : joined.words ≡ c.words → (a : ℕ) → Cause sys c a → Cause sys joined a
      quiet_caused s a (is_dirty y) = is_dirty y
      quiet_caused s a (is_owed j o) = is_owed j (still_owed j a o)
      quiet_caused s a (is_current j h r) = is_current j (still_holds j a h) (λ u x g. subst (λ f. x ≡ f u) (sym s) (r u x (were_read j u x g)))
      quiet_caused s a (is_met f m) = is_met f (subst (λ rows. Meets sys rows a) (sym s) m)

      -- the body does not read the row that grew
      unread : (a u : ℕ) → sys.calls a b ≡ false → IsTrue (in_callee sys a u) → u ≡ w → ⊥
      unread a u n callee e = both_ways _ n (row_callee sys a b w row (subst (λ v. IsTrue (in_callee sys a v)) e callee))

      other_row : (a u : ℕ) → c.held a ≡ false → IsTrue (in_row sys a u) → u ≡ w → ⊥
      other_row a u f r e = let same : a ≡ b = one_row sys a b w (subst (λ v. IsTrue (in_row sys a v)) e r) row in both_ways _ f (subst (λ n. IsTrue (c.held n)) (sym same) work.marked)

      apart_caused : (a : ℕ) → sys.calls a b ≡ false → Cause sys c a → Cause sys joined a
      apart_caused a n (is_dirty y) = is_dirty y
      apart_caused a n (is_owed j o) = is_owed j (still_owed j a o)
      apart_caused a n (is_current j h r) = is_current j (still_holds j a h) (λ u x g.
          let old = were_read j u x g in r u x old ∙ sym (put_else c.words w word u (unread a u n ((inv.at_work j a h).of_callees u x old))))
      apart_caused a n (is_met f m) = is_met f (λ x r e.
          subst (λ v. HasBit v x.place) (sym (put_else c.words w word x.word (other_row a x.word f r)))
          (m x r (words_see sys laws a joined.words c.words (λ v callee. put_else c.words w word v (unread a v n callee)) x r e)))

      owes_caller : (a : ℕ) → grows_by (c.words w) bits ≡ true → IsTrue (sys.calls a b) → IsTrue (joiner.owes a)
      owes_caller a g h = or_left _ _ (ap (λ x. x && owned_by (λ n. sys.calls a n) now.holds) g ∙ ap (owned_by (λ n. sys.calls a n)) holds ∙ h)

      join_caused : (a : ℕ) → Cause sys c a → Cause sys joined a
      join_caused a h =
          ⊎_elim
          (λ (g : grows_by (c.words w) bits ≡ true). ⊎_elim
          (λ (y : sys.calls a b ≡ true). is_owed i (subst (λ (k : Worker). IsTrue (k.owes a)) (sym (put_here c.workers i joiner)) (owes_caller a g y)))
          (λ (n : sys.calls a b ≡ false). apart_caused a n h) (cases_Bool (sys.calls a b)))
          (λ (g : grows_by (c.words w) bits ≡ false). quiet_caused (same_words g) a h)
          (cases_Bool (grows_by (c.words w) bits))

      -- what the worker joined is within the equation over what it read
      covers : (u : ℕ) → Below (joiner.joined u) (λ j. sys.equation (IsSetIn (seen now)) (record { word = u; place = j }))
      covers u = at_put now.joined w (bit_or (now.joined w) bits) u (λ x. Below x (λ j. sys.equation (IsSetIn (seen now)) (record { word = u; place = j })))
          (λ e. subst (λ v. Below (bit_or (now.joined w) bits) (λ j. sys.equation (IsSetIn (seen now)) (record { word = v; place = j }))) (sym e)
          (below_or (λ j. sys.equation (IsSetIn (seen now)) (record { word = w; place = j })) (now.joined w) bits (work.covered w) covered))
          (λ _. work.covered u)

      -- what follows from bits of the least solution is in it
      joins_least : (x : Bit) → x.word ≡ w → HasBit bits x.place → InLeast sys x
      joins_least x e h = least_closed sys laws x
          (equation_grows sys laws (IsSetIn (seen now)) (InLeast sys) x
          (λ y g. inv.within y (within_has (seen now y.word) (c.words y.word) y.place (seen_within i y.word) g))
          (subst (λ u. sys.equation (IsSetIn (seen now)) (record { word = u; place = x.place })) (sym e) (covered x.place h)))

      least_joined : IsWithinLeast sys joined.words
      least_joined x = at_put c.words w word x.word (λ v. HasBit v x.place → InLeast sys x)
          (λ e h. ⊎_elim (λ (g : HasBit (c.words w) x.place). inv.within x (subst (λ u. HasBit (c.words u) x.place) (sym e) g))
          (λ (g : HasBit bits x.place). joins_least x e g) (or_has (c.words w) bits x.place h))
          (λ _ h. inv.within x h)

      bits_owe : (a : ℕ) → IsTrue (grows_by (c.words w) bits && owned_by (λ n. sys.calls a n) now.holds) ⊎ IsTrue (now.owes a) → IsTrue (sys.calls a b)
      bits_owe a (inl h) = let o = owned (λ n. sys.calls a n) now.holds ((and_parts _ _ h).1) in subst (λ n. IsTrue (sys.calls a n)) (some_one o.0 b (sym o.1 ∙ holds)) o.2
      bits_owe a (inr h) = work.owes_callers a h

      pub join_keeps : Inv sys joined
      join_keeps = goes_on joined.words c.dirty i b joiner holds holds
          least_joined
          more (λ a d. d)
          (record { marked = work.marked; of_callees = work.of_callees; covered = covers; owes_callers = λ a h. bits_owe a (or_cases _ _ h); dropped_is_dirty = work.dropped_is_dirty })
          (λ u x g. within_trans _ _ _ (inv.read_is_there i u x g) (more u))
          mine_within
          (λ a. join_caused a (inv.caused a))

    module _ (paid : IsTrue (owes_none sys now)) (done : IsFinished sys b now ⊎ IsTrue (c.dirty b)) where
      abbrev released : Claims
      released = record { words = c.words; dirty = c.dirty; held = put c.held b false; workers = put c.workers i (begins None) }

      owes_nothing : (a : ℕ) → IsTrue (now.owes a) → ⊥
      owes_nothing a o = both_ways _ (not-true _ (all_below-at sys.bodies (λ x. not (now.owes x)) paid a (laws.has_callers a b (work.owes_callers a o)))) o

      stays : (j a : ℕ) → (c.workers j).holds ≡ Some a → (a ≡ b → ⊥) → j ≡ i → ⊥
      stays j a h n e = n (some_one a b (sym h ∙ at_i j e))

      still : (j : ℕ) → (j ≡ i → ⊥) → released.workers j ≡ c.workers j
      still j n = put_else c.workers i (begins None) j n

      -- the holder of a released body is idle
      other_body : (j a : ℕ) → (c.workers j).holds ≡ Some a → (j ≡ i → ⊥) → a ≡ b → ⊥
      other_body j a h n e = n (inv.alone j i b (subst (λ m. (c.workers j).holds ≡ Some m) e h) holds)

      present : (u : ℕ) (o : Option ℕ) → now.reads u ≡ o → IsTrue (is_some o) → ((x : ℕ) → now.reads u ≡ Some x → x ≡ c.words u) → seen now u ≡ c.words u
      present u None e s r = absurd (false≢true s)
      present u (Some x) e s r = seen_some (now.reads u) x e ∙ r x e

      met : IsFinished sys b now → ((u x : ℕ) → now.reads u ≡ Some x → x ≡ c.words u) → Meets sys c.words b
      met f r x row e = within_has (now.joined x.word) (c.words x.word) x.place (inv.joined_is_there i x.word)
          (f.joined x row (words_see sys laws b c.words (seen now) (λ v callee. sym (present v (now.reads v) refl (f.read v callee) (r v))) x row e))

      ends : IsFinished sys b now ⊎ IsTrue (c.dirty b) → ((u x : ℕ) → now.reads u ≡ Some x → x ≡ c.words u) → Cause sys released b
      ends (inl f) r = is_met (put_here c.held b false) (met f r)
      ends (inr d) r = is_dirty d

      current : (a j : ℕ) → (j ≡ i) ⊎ (j ≡ i → ⊥) → (c.workers j).holds ≡ Some a → ((u x : ℕ) → (c.workers j).reads u ≡ Some x → x ≡ c.words u) → Cause sys released a
      current a j (inl e) h r = subst (Cause sys released) (some_one b a (sym (at_i j e) ∙ h)) (ends done (λ u x g. r u x (ap (λ m. (c.workers m).reads u) e ∙ g)))
      current a j (inr n) h r = is_current j (ap (λ (k : Worker). k.holds) (still j n) ∙ h) (λ u x g. r u x (subst (λ (k : Worker). k.reads u ≡ Some x) (still j n) g))

      release_caused : (a : ℕ) → Cause sys c a → Cause sys released a
      release_caused a (is_dirty d) = is_dirty d
      release_caused a (is_owed j o) = is_owed j (subst (λ (k : Worker). IsTrue (k.owes a)) (sym (still j (λ e. owes_nothing a (subst (λ m. IsTrue ((c.workers m).owes a)) e o)))) o)
      release_caused a (is_current j h r) = current a j (cases_eq j i) h r
      release_caused a (is_met f m) = is_met (at_put c.held b false a (λ x. x ≡ false) (λ _. refl) (λ _. f)) m

      pub release_keeps : Inv sys released
      release_keeps = record {
        within = inv.within;
        holder = λ a. at_put c.held b false a (λ h. IsTrue h → (j : ℕ) × ((released.workers j).holds ≡ Some a))
            (λ e h. absurd (false≢true h))
            (λ n h. let o = inv.holder a h in (o.0, ap (λ (k : Worker). k.holds) (still o.0 (stays o.0 a o.1 n)) ∙ o.1));
        alone = λ j l a. at_put c.workers i (begins None) j (λ k. k.holds ≡ Some a → (released.workers l).holds ≡ Some a → j ≡ l)
            (λ e h. absurd (none-some a h))
            (λ n h. at_put c.workers i (begins None) l (λ k. k.holds ≡ Some a → j ≡ l) (λ f g. absurd (none-some a g)) (λ _ g. inv.alone j l a h g));
        at_work = λ j a. at_put c.workers i (begins None) j (λ k. k.holds ≡ Some a → IsAtWork sys released k a)
            (λ e h. absurd (none-some a h))
            (λ n h. let old = inv.at_work j a h in record {
              marked = at_put c.held b false a (λ x. IsTrue x) (λ e. absurd (other_body j a h n e)) (λ _. old.marked);
              of_callees = old.of_callees;
              covered = old.covered;
              owes_callers = old.owes_callers;
              dropped_is_dirty = old.dropped_is_dirty;
            });
        idle = λ j. at_put c.workers i (begins None) j (λ k. k.holds ≡ None → k ≡ begins None) (λ e h. refl) (λ n h. inv.idle j h);
        read_is_there = λ j w x. at_put c.workers i (begins None) j (λ k. k.reads w ≡ Some x → Within x (c.words w)) (λ e h. absurd (none-some x h)) (λ n h. inv.read_is_there j w x h);
        joined_is_there = λ j w. at_put c.workers i (begins None) j (λ k. Within (k.joined w) (c.words w)) (λ e. zero_within _) (λ n. inv.joined_is_there j w);
        caused = λ a. release_caused a (inv.caused a);
      }

  pub act_keeps : (e : Event) → Passes sys e c → Inv sys (act sys e c)
  act_keeps (Claim i b) g = claim_keeps i b g.0 g.1 g.2
  act_keeps (Read i w) g = read_keeps i g.0 g.1 w g.2
  act_keeps (Join i w bits) g = join_keeps i g.0 g.1 w bits g.2 g.3
  act_keeps (Wake i a) g = wake_keeps i g.0 g.1 a g.2
  act_keeps (Release i) g = subst (λ o. Inv sys record { words = c.words; dirty = c.dirty; held = put_at c.held o false; workers = put c.workers i (begins None) }) (sym g.1) (release_keeps i g.0 g.1 g.2 g.3)
  act_keeps (Drop i) g = subst (λ o. Inv sys record { words = c.words; dirty = put_at c.dirty o true; held = c.held; workers = put c.workers i (after_drop (c.workers i)) }) (sym g.1) (drop_keeps i g.0 g.1)

module _ (sys : System) (laws : IsSystem sys) where
  pub opens : Inv sys (opening sys)
  opens = record {
    within = λ x h. below_zero (λ k. InLeast sys x) x.place h;
    holder = λ b h. absurd (false≢true h);
    alone = λ i j b h. absurd (none-some b h);
    at_work = λ i b h. absurd (none-some b h);
    idle = λ i h. refl;
    read_is_there = λ i w x h. absurd (none-some x h);
    joined_is_there = λ i w. zero_within _;
    caused = λ b. ⊎_elim (λ (t : nat_lt b sys.bodies ≡ true). is_dirty t)
        (λ (f : nat_lt b sys.bodies ≡ false). is_met refl (λ x r. absurd (both_ways _ f (lt-ltb _ _ ((laws.has_words x.word b (row_owner sys b x.word r)).1))))) (cases_Bool (nat_lt b sys.bodies));
  }

  pub all_keep : (n : ℕ) (events : List Event) (c d : Claims) → Inv sys c → Reaches sys n events c d → Inv sys d
  all_keep n [] c d h r = subst (Inv sys) (sym r) h
  all_keep n (e ∷ es) c d h (inl r) = all_keep n es (act sys e c) d (act_keeps sys laws c h e (passes sys n e c r.0)) r.1
  all_keep n (e ∷ es) c d h (inr r) = all_keep n es c d h r.1

  -- rows within the least solution, each body of which is dirty or has its equation, are a state to go on from
  pub resumes : (rows : ℕ → ℕ) (dirty : ℕ → Bool) → IsWithinLeast sys rows → ((b : ℕ) → IsTrue (dirty b) ⊎ Meets sys rows b) → Inv sys (resumed rows dirty)
  resumes rows dirty within each = record {
    within = within;
    holder = λ b h. absurd (false≢true h);
    alone = λ i j b h. absurd (none-some b h);
    at_work = λ i b h. absurd (none-some b h);
    idle = λ i h. refl;
    read_is_there = λ i w x h. absurd (none-some x h);
    joined_is_there = λ i w. zero_within _;
    caused = λ b. ⊎_elim (λ (t : IsTrue (dirty b)). is_dirty t) (λ (m : Meets sys rows b). is_met refl m) (each b);
  }

  -- where no body has another cause, each has its equation
  module _ (c : Claims) (inv : Inv sys c) (clean : (b : ℕ) → c.dirty b ≡ false) (free : (b : ℕ) → c.held b ≡ false)
      (paid : (i b : ℕ) → (c.workers i).owes b ≡ false) where
    all_met : (b : ℕ) → Cause sys c b → Meets sys c.words b
    all_met b (is_dirty d) = absurd (both_ways _ (clean b) d)
    all_met b (is_owed i o) = absurd (both_ways _ (paid i b) o)
    all_met b (is_current i h r) = absurd (both_ways _ (free b) (inv.at_work i b h).marked)
    all_met b (is_met f m) = m

    holds : (x : Bit) → sys.equation (IsSetIn c.words) x → IsSetIn c.words x
    holds x e = let o = laws.has_owner x (laws.listed (IsSetIn c.words) x e) in all_met o.0 (inv.caused o.0) x (owner_row sys o.0 x.word o.1) e

    pub at_rest : IsLeast sys c.words
    at_rest x = (inv.within x, applied_within sys.equation (equation_grows sys laws) (IsSetIn c.words) holds (length sys.facts) x)
