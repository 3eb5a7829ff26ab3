-- Each accepted event keeps the bound on claims.
use Rattle.std.proofs.Common.{◌≡◌, ⊎_elim, ℕ, zero, suc, ◌+◌, ◌*◌, ◌^◌, ◌<◌, ◌≤◌, Bool, true, false, ◌&&◌, ◌||◌, cond, List, [], ◌∷◌, Option, None, Some, eq-eqb, refl, sym, ap, subst, arith, le_refl, zero-le, mul-le-mul_right, suc-mul}
use Rattle.std.proofs.lemmas.Nat.{or_lt}
use Rattle.std.specs.Prelude.{IsTrue, bit_or, nat_lt}
use Rattle.std.proofs.lemmas.Bool.{false≢true, both_ways, cases_Bool, and_parts, or_cases, not-true, ltb-true}
use Rattle.std.proofs.lemmas.Option.{none-some}
use Rattle.claim_core.specs.Bits.{Within, put, put_at}
use Rattle.claim_core.specs.System.{System, IsSystem, in_row, owned_by}
use Rattle.claim_core.specs.Machine.{Worker, begins, Claims, opening, Event, Claim, Read, Join, Wake, Release, Drop, worker_of, grows_by, after_read, after_join, after_wake, after_drop, act}
use Rattle.claim_core.specs.Guards.{NoWorker, Fits, AllAccepted}
use Rattle.claim_core.specs.Invariant.{Inv}
use Rattle.claim_core.specs.Counts.{total, one, set_bits, row_bits, caller_count, growth, dirty_count, debt_count, claims_in, drops_in, AreBounded}
use Rattle.claim_core.proofs.Guards.{some_one, Passes, passes}
use Rattle.claim_core.proofs.Systems.{row_owner}
use Rattle.claim_core.proofs.Words.{within_refl, within_left, at_put, put_here, put_else}
use Rattle.claim_core.proofs.Totals.{total_le, total_rise, total_bump, total_add, set_bits-le, set_bits-lt, one-le, one_mono}
use Rattle.claim_core.proofs.Keeps as keeps

-- numbers are in range, and words fit
pub record IsInRange (sys : System) (c : Claims) : Type 0 where
  pub dirty : (b : ℕ) → IsTrue (c.dirty b) → b < sys.bodies
  pub held : (i b : ℕ) → (c.workers i).holds ≡ Some b → b < sys.bodies
  pub words : (w : ℕ) → c.words w < 2 ^ 64

-- what is still to be claimed
abbrev due : System → ℕ → Claims → ℕ
due sys n c = dirty_count sys c + debt_count sys n c

pub row_le : (sys : System) (rows more : ℕ → ℕ) → ((w : ℕ) → Within (rows w) (more w)) → (b : ℕ) → row_bits sys rows b ≤ row_bits sys more b
row_le sys rows more h b = total_le sys.words _ _ (λ w. go (in_row sys b w) w)
  where
    go : (t : Bool) (w : ℕ) → cond t (set_bits (rows w)) 0 ≤ cond t (set_bits (more w)) 0
    go true w = set_bits-le _ _ (h w)
    go false w = zero-le

module _ (sys : System) (laws : IsSystem sys) (n : ℕ) (c : Claims) (inv : Inv sys c) (range : IsInRange sys c) where
  -- debts do not rise where no worker owes more
  debts_le : (workers : ℕ → Worker) → ((i a : ℕ) → IsTrue ((workers i).owes a) → IsTrue ((c.workers i).owes a))
      → total n (λ i. total sys.bodies (λ a. one ((workers i).owes a))) ≤ debt_count sys n c
  debts_le workers h = total_le n _ _ (λ i. total_le sys.bodies _ _ (λ a. one_mono _ _ (h i a)))

  owes_at : (i : ℕ) (k : Worker) → ((a : ℕ) → IsTrue (k.owes a) → IsTrue ((c.workers i).owes a)) → (j a : ℕ) → IsTrue ((put c.workers i k j).owes a) → IsTrue ((c.workers j).owes a)
  owes_at i k h j a = at_put c.workers i k j (λ x. IsTrue (x.owes a) → IsTrue ((c.workers j).owes a)) (λ e o. subst (λ m. IsTrue ((c.workers m).owes a)) (sym e) (h a o)) (λ _ o. o)

  dirty_le : (b : ℕ) → total sys.bodies (λ a. one (put c.dirty b true a)) ≤ dirty_count sys c + 1
  dirty_le b = total_bump sys.bodies b 1 (λ a. one (c.dirty a)) (λ a. one (put c.dirty b true a))
      (λ j ne. subst (λ x. one x ≤ one (c.dirty j)) (sym (put_else c.dirty b true j ne)) (le_refl _))
      (let x = one-le (put c.dirty b true b) in omega arith)

  module _ (i b : ℕ) (dirty : IsTrue (c.dirty b)) where
    claim_pays : due sys n (act sys (Claim i b) c) + 1 ≤ due sys n c
    claim_pays =
        let d : total sys.bodies (λ a. one (put c.dirty b false a)) + 1 ≤ dirty_count sys c = total_rise sys.bodies b 1 (λ a. one (put c.dirty b false a)) (λ a. one (c.dirty a)) (range.dirty b dirty)
        (λ j. at_put c.dirty b false j (λ x. one x ≤ one (c.dirty j)) (λ _. zero-le) (λ _. le_refl _))
        (subst (λ x. one x + 1 ≤ one (c.dirty b)) (sym (put_here c.dirty b false)) (subst (λ x. one false + 1 ≤ one x) (sym dirty) (le_refl _))) in
        let o = debts_le (put c.workers i (begins (Some b))) (owes_at i (begins (Some b)) (λ a f. absurd (false≢true f))) in omega arith

  module _ (i w bits b : ℕ) (holds : (c.workers i).holds ≡ Some b) (row : IsTrue (in_row sys b w)) (fits : bits < 2 ^ 64) where
    abbrev joined : Claims
    joined = act sys (Join i w bits) c

    abbrev joiner : Worker
    joiner = after_join sys (c.workers i) w bits (grows_by (c.words w) bits)

    grown : (u : ℕ) → Within (c.words u) (joined.words u)
    grown u = at_put c.words w (bit_or (c.words w) bits) u (λ x. Within (c.words u) x) (λ e. subst (λ v. Within (c.words v) (bit_or (c.words w) bits)) (sym e) (within_left (c.words w) bits)) (λ _. within_refl _)

    growth_le : growth sys c.words ≤ growth sys joined.words
    growth_le = total_le sys.bodies _ _ (λ a. mul-le-mul_right (caller_count sys a) (row_le sys c.words joined.words grown a))

    owned_calls : (a : ℕ) → owned_by (λ m. sys.calls a m) (c.workers i).holds ≡ sys.calls a b
    owned_calls a = ap (owned_by (λ m. sys.calls a m)) holds

    one_or : (x y z : Bool) → one ((z && x) || y) ≤ one y + one x
    one_or true true true = omega arith
    one_or true false true = omega arith
    one_or false true true = omega arith
    one_or false false true = omega arith
    one_or x true false = omega arith
    one_or x false false = omega arith

    debts_bump : total n (λ j. total sys.bodies (λ a. one ((joined.workers j).owes a))) ≤ debt_count sys n c + caller_count sys b
    debts_bump = total_bump n i (caller_count sys b) (λ j. total sys.bodies (λ a. one ((c.workers j).owes a))) (λ j. total sys.bodies (λ a. one ((joined.workers j).owes a)))
        (λ j ne. total_le sys.bodies _ _ (λ a. subst (λ (k : Worker). one (k.owes a) ≤ one ((c.workers j).owes a)) (sym (put_else c.workers i joiner j ne)) (le_refl _)))
        (total_add sys.bodies (λ a. one ((c.workers i).owes a)) (λ a. one (sys.calls a b)) (λ a. one ((joined.workers i).owes a))
        (λ a. subst (λ (k : Worker). one (k.owes a) ≤ one ((c.workers i).owes a) + one (sys.calls a b)) (sym (put_here c.workers i joiner))
        (subst (λ x. one ((grows_by (c.words w) bits && x) || (c.workers i).owes a) ≤ one ((c.workers i).owes a) + one (sys.calls a b)) (sym (owned_calls a)) (one_or (sys.calls a b) ((c.workers i).owes a) (grows_by (c.words w) bits)))))

    row_rise : grows_by (c.words w) bits ≡ true → row_bits sys c.words b + 1 ≤ row_bits sys joined.words b
    row_rise g = total_rise sys.words w 1 (λ u. cond (in_row sys b u) (set_bits (c.words u)) 0) (λ u. cond (in_row sys b u) (set_bits (joined.words u)) 0) ((laws.has_words w b (row_owner sys b w row)).0)
        (λ u. go (in_row sys b u) u)
        (subst (λ t. cond t (set_bits (c.words w)) 0 + 1 ≤ cond t (set_bits (joined.words w)) 0) (sym row)
        (subst (λ x. set_bits (c.words w) + 1 ≤ set_bits x) (sym (put_here c.words w (bit_or (c.words w) bits)))
        (set_bits-lt (c.words w) (bit_or (c.words w) bits) (range.words w) (or_lt 64 _ _ (range.words w) fits) (within_left (c.words w) bits)
        (λ e. both_ways _ (not-true _ g) (eq-eqb _ _ (sym e))))))
      where
        go : (t : Bool) (u : ℕ) → cond t (set_bits (c.words u)) 0 ≤ cond t (set_bits (joined.words u)) 0
        go true u = set_bits-le _ _ (grown u)
        go false u = zero-le

    product : (x y k : ℕ) → x + 1 ≤ y → x * k + k ≤ y * k
    product x y k l = let p : (x + 1) * k ≤ y * k = mul-le-mul_right k l in let q = suc-mul x k in let r : (x + 1) * k ≡ suc x * k = ap (λ m. m * k) (omega arith) in omega arith

    growth_rise : grows_by (c.words w) bits ≡ true → growth sys c.words + caller_count sys b ≤ growth sys joined.words
    growth_rise g = total_rise sys.bodies b (caller_count sys b) (λ a. row_bits sys c.words a * caller_count sys a) (λ a. row_bits sys joined.words a * caller_count sys a) ((laws.has_words w b (row_owner sys b w row)).1)
        (λ a. mul-le-mul_right (caller_count sys a) (row_le sys c.words joined.words grown a))
        (product (row_bits sys c.words b) (row_bits sys joined.words b) (caller_count sys b) (row_rise g))

    no_more : grows_by (c.words w) bits ≡ false → (a : ℕ) → IsTrue (joiner.owes a) → IsTrue ((c.workers i).owes a)
    no_more g a o = ⊎_elim (λ (h : (grows_by (c.words w) bits && owned_by (λ m. sys.calls a m) (c.workers i).holds) ≡ true). absurd (both_ways _ g ((and_parts _ _ h).0))) (λ (h : (c.workers i).owes a ≡ true). h) (or_cases _ _ o)

    join_pays : due sys n joined + growth sys c.words ≤ due sys n c + growth sys joined.words
    join_pays = ⊎_elim
        (λ (g : grows_by (c.words w) bits ≡ true). let x = debts_bump in let y = growth_rise g in omega arith)
        (λ (g : grows_by (c.words w) bits ≡ false). let x = debts_le joined.workers (owes_at i joiner (no_more g)) in let y = growth_le in omega arith)
        (cases_Bool (grows_by (c.words w) bits))

  module _ (i a : ℕ) (lt : i < n) (below : a < sys.bodies) (owes : IsTrue ((c.workers i).owes a)) where
    abbrev waker : Worker
    waker = after_wake (c.workers i) a

    less : (d : ℕ) → IsTrue (waker.owes d) → IsTrue ((c.workers i).owes d)
    less d = at_put (c.workers i).owes a false d (λ x. IsTrue x → IsTrue ((c.workers i).owes d)) (λ _ f. absurd (false≢true f)) (λ _ o. o)

    paid : debt_count sys n (act sys (Wake i a) c) + 1 ≤ debt_count sys n c
    paid = total_rise n i 1 (λ j. total sys.bodies (λ d. one ((put c.workers i waker j).owes d))) (λ j. total sys.bodies (λ d. one ((c.workers j).owes d))) lt
        (λ j. total_le sys.bodies _ _ (λ d. one_mono _ _ (owes_at i waker less j d)))
        (subst (λ (k : Worker). total sys.bodies (λ d. one (k.owes d)) + 1 ≤ total sys.bodies (λ d. one ((c.workers i).owes d))) (sym (put_here c.workers i waker))
        (total_rise sys.bodies a 1 (λ d. one (waker.owes d)) (λ d. one ((c.workers i).owes d)) below (λ d. one_mono _ _ (less d))
        (subst (λ x. one x + 1 ≤ one ((c.workers i).owes a)) (sym (put_here (c.workers i).owes a false)) (subst (λ x. one false + 1 ≤ one x) (sym owes) (le_refl _)))))

    wake_pays : due sys n (act sys (Wake i a) c) ≤ due sys n c
    wake_pays = let x = paid in let y = dirty_le a in omega arith

  -- what the events of a list pay and are paid
  abbrev claim_one : Event → ℕ
  claim_one e = claims_in (e ∷ [])

  abbrev drop_one : Event → ℕ
  drop_one e = drops_in (e ∷ [])

  -- debts where the worker owes what it owed
  same_debts : (i : ℕ) (k : Worker) → ((a : ℕ) → IsTrue (k.owes a) → IsTrue ((c.workers i).owes a)) → total n (λ j. total sys.bodies (λ a. one ((put c.workers i k j).owes a))) ≤ debt_count sys n c
  same_debts i k h = debts_le (put c.workers i k) (owes_at i k h)

  drop_dirty : (o : Option ℕ) → total sys.bodies (λ a. one (put_at c.dirty o true a)) ≤ dirty_count sys c + 1
  drop_dirty None = let x : dirty_count sys c ≤ dirty_count sys c = le_refl _ in omega arith
  drop_dirty (Some b) = dirty_le b

  pays : (e : Event) → worker_of e < n → Fits e → Passes sys e c → claim_one e + due sys n (act sys e c) + growth sys c.words ≤ due sys n c + drop_one e + growth sys (act sys e c).words
  pays (Claim i b) lt fit e = let g = e in let x = claim_pays i b g.1 in omega arith
  pays (Read i w) lt fit e = let x = same_debts i (after_read (c.workers i) w (c.words w)) (λ a o. o) in omega arith
  pays (Join i w bits) lt fit e = let g = e in let x = join_pays i w bits g.0 g.1 g.2 fit in omega arith
  pays (Wake i a) lt fit e = let g = e in let x = wake_pays i a lt (laws.has_callers a g.0 ((inv.at_work i g.0 g.1).owes_callers a g.2)) g.2 in omega arith
  pays (Release i) lt fit e = let x = same_debts i (begins None) (λ a o. absurd (false≢true o)) in omega arith
  pays (Drop i) lt fit e = let x = same_debts i (after_drop (c.workers i)) (λ a o. o) in let y = drop_dirty (c.workers i).holds in omega arith

  dirty_put : (a : ℕ) → a < sys.bodies → (b : ℕ) → IsTrue (put c.dirty a true b) → b < sys.bodies
  dirty_put a l b = at_put c.dirty a true b (λ x. IsTrue x → b < sys.bodies) (λ e _. subst (λ m. m < sys.bodies) (sym e) l) (λ _ h. range.dirty b h)

  held_put : (i : ℕ) (k : Worker) → ((b : ℕ) → k.holds ≡ Some b → b < sys.bodies) → (j b : ℕ) → (put c.workers i k j).holds ≡ Some b → b < sys.bodies
  held_put i k h j b = at_put c.workers i k j (λ x. x.holds ≡ Some b → b < sys.bodies) (λ _ g. h b g) (λ _ g. range.held j b g)

  ranges : (e : Event) → Fits e → Passes sys e c → IsInRange sys (act sys e c)
  ranges (Claim i b) fit e = let g = e in record {
    dirty = λ a. at_put c.dirty b false a (λ x. IsTrue x → a < sys.bodies) (λ _ f. absurd (false≢true f)) (λ _ h. range.dirty a h);
    held = held_put i (begins (Some b)) (λ a h. subst (λ m. m < sys.bodies) (some_one b a h) (range.dirty b g.1));
    words = range.words;
  }
  ranges (Read i w) fit e = record { dirty = range.dirty; held = held_put i (after_read (c.workers i) w (c.words w)) (range.held i); words = range.words }
  ranges (Join i w bits) fit e = let g = e in record {
    dirty = range.dirty;
    held = held_put i (after_join sys (c.workers i) w bits (grows_by (c.words w) bits)) (range.held i);
    words = λ u. at_put c.words w (bit_or (c.words w) bits) u (λ x. x < 2 ^ 64) (λ _. or_lt 64 (c.words w) bits (range.words w) fit) (λ _. range.words u);
  }
  ranges (Wake i a) fit e = let g = e in record {
    dirty = dirty_put a (laws.has_callers a g.0 ((inv.at_work i g.0 g.1).owes_callers a g.2));
    held = held_put i (after_wake (c.workers i) a) (range.held i);
    words = range.words;
  }
  ranges (Release i) fit e = record { dirty = range.dirty; held = held_put i (begins None) (λ b h. absurd (none-some b h)); words = range.words }
  ranges (Drop i) fit e = let g = e in record {
    dirty = subst (λ o. (b : ℕ) → IsTrue (put_at c.dirty o true b) → b < sys.bodies) (sym g.1) (dirty_put g.0 (range.held i g.0 g.1));
    held = held_put i (after_drop (c.workers i)) (range.held i);
    words = range.words;
  }

module _ (sys : System) (laws : IsSystem sys) (n : ℕ) where
  split_claims : (e : Event) (es : List Event) → claims_in (e ∷ es) ≡ claims_in (e ∷ []) + claims_in es
  split_claims (Claim i b) es = omega arith
  split_claims (Read i w) es = omega arith
  split_claims (Join i w bits) es = omega arith
  split_claims (Wake i a) es = omega arith
  split_claims (Release i) es = omega arith
  split_claims (Drop i) es = omega arith

  split_drops : (e : Event) (es : List Event) → drops_in (e ∷ es) ≡ drops_in (e ∷ []) + drops_in es
  split_drops (Claim i b) es = omega arith
  split_drops (Read i w) es = omega arith
  split_drops (Join i w bits) es = omega arith
  split_drops (Wake i a) es = omega arith
  split_drops (Release i) es = omega arith
  split_drops (Drop i) es = omega arith

  chain : (ce c1 cs de d1 ds due0 due1 due2 g0 g1 g2 : ℕ) → ce ≡ c1 + cs → de ≡ d1 + ds → c1 + due1 + g0 ≤ due0 + d1 + g1 → cs + due2 + g1 ≤ due1 + ds + g2 → ce + due2 + g0 ≤ due0 + de + g2
  chain ce c1 cs de d1 ds due0 due1 due2 g0 g1 g2 a b x y = omega arith

  base : (a g : ℕ) → 0 + a + g ≤ a + 0 + g
  base a g = omega arith

  pub pays_all : (es : List Event) (c d : Claims) → Inv sys c → IsInRange sys c → AllAccepted sys n es c d
      → claims_in es + due sys n d + growth sys c.words ≤ due sys n c + drops_in es + growth sys d.words
  pays_all [] c d inv range t = subst (λ (x : Claims). 0 + due sys n x + growth sys c.words ≤ due sys n c + 0 + growth sys x.words) (sym t) (base (due sys n c) (growth sys c.words))
  pays_all (e ∷ es) c d inv range t =
      let one_more = pays sys laws n c inv range e (t.0.allowed NoWorker) t.0.fits (passes sys n e c t.0) in
      let rest = pays_all es (act sys e c) d (keeps.act_keeps sys laws c inv e (passes sys n e c t.0)) (ranges sys laws n c inv range e t.0.fits (passes sys n e c t.0)) t.1 in
      chain (claims_in (e ∷ es)) (claims_in (e ∷ [])) (claims_in es) (drops_in (e ∷ es)) (drops_in (e ∷ [])) (drops_in es) _ _ _ _ _ _ (split_claims e es) (split_drops e es) one_more rest

  opening_range : IsInRange sys (opening sys)
  opening_range = record { dirty = λ b h. ltb-true _ _ h; held = λ i b h. absurd (none-some b h); words = λ w. omega arith }

  total_none : (m : ℕ) → total m (λ j. 0) ≡ 0
  total_none zero = refl
  total_none (suc m) = let x = total_none m in omega arith

  no_debts : total n (λ i. total sys.bodies (λ a. one false)) ≤ 0
  no_debts = let x = total_le n (λ i. total sys.bodies (λ a. one false)) (λ i. 0) (λ i. let y = total_none sys.bodies in omega arith) in let z = total_none n in omega arith

  total_ones : (m : ℕ) (f : ℕ → Bool) → total m (λ j. one (f j)) ≤ m
  total_ones zero f = zero-le
  total_ones (suc m) f = let x = one-le (f m) in let y = total_ones m f in omega arith

  last : (cs d1 o1 g0 d0 o0 b ds g1 : ℕ) → cs + (d1 + o1) + g0 ≤ (d0 + o0) + ds + g1 → o0 ≤ 0 → d0 ≤ b → cs + d1 + o1 ≤ b + ds + g1
  last cs d1 o1 g0 d0 o0 b ds g1 x y z = omega arith

  pub bounded : (es : List Event) (d : Claims) → AllAccepted sys n es (opening sys) d → AreBounded sys n es d
  bounded es d t = let x = pays_all es (opening sys) d (keeps.opens sys laws) opening_range t in let y = no_debts in let z = total_ones sys.bodies (λ b. nat_lt b sys.bodies) in
      last (claims_in es) (dirty_count sys d) (debt_count sys n d) _ _ _ sys.bodies _ _ x y z
