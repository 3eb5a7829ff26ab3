-- What is kept of choices.
use Rattle.std.proofs.Common.{◌≡◌, ℕ, ◌+◌, ◌<◌, ◌≤◌, Bool, true, false, ◌||◌, ◌&&◌, if◌then◌else◌, Option, Some, None, is_some, List, [], ◌∷◌, ◌++◌, length, take, drop, get_or, ℤ, ◌≤ℤ◌, ◌<ℤ◌, refl, sym, ap, ◌∙◌, arith}
use Rattle.std.specs.BTreeMap.{BTreeMap, is_at}
use Rattle.std.specs.List.{list_any}
use Rattle.std.specs.Map.{lookup}
use Rattle.std.specs.Ordering.{int_cmp}
use Rattle.std.specs.Option.{IfSome, IfNone}
use Rattle.std.specs.Prelude.{int_le, not}
use Rattle.std.proofs.lemmas.Int.{ints, by_lt_z}
use Rattle.std.proofs.lemmas.List.{drop_all, drop_more, take_all, take_more}
use Rattle.std.proofs.lemmas.Option.{none-some}
use Rattle.name_findings.proofs.Joined.{add_append}
use Rattle.name_findings.specs.Findings.{Told, add_all, refuse_silent}
use Rattle.spark_messages.specs.declared.messages.Code.{Code}
use Rattle.choice_covers.specs.declared.choices.Placed.{Placed}
use Rattle.choice_covers.specs.declared.covers.Covered.{Covered}
use Rattle.choice_covers.specs.Covers.{Cover, cover_of, coverage_found, doubled_found, gap_found, is_doubled, is_incomplete, nothing_covered, with_choice, with_part}
use Rattle.choice_covers.specs.declared.choices.Bounds.{Bounds}
use Rattle.spark_base.specs.declared.numbers.Pos.{Pos}
use Rattle.choice_covers.specs.Kept.{Stands}
use Rattle.choice_covers.specs.Parts.{AreFilled, do_meet, has_gap, meets}
use Rattle.choice_covers.specs.Runs.{AreApart, Hold, IsRun}
use Rattle.choice_covers.proofs.Parts.{by_bool, clash, covered_meets, others_meet}
use Rattle.choice_covers.proofs.Apart.{run_meets}

module _ (runs : BTreeMap ℤ ℤ) (ps : List (ℤ × ℤ)) (hold : Hold runs ps) (low high : ℤ) (o : low ≤ℤ high) where
  -- a run that has a value between two bounds tells that a part has one
  pub met : AreApart runs → (a b : ℤ) → IsRun runs a b → a ≤ℤ high → low ≤ℤ b → do_meet ps low high ≡ true
  met ok a b is l r = by_lt_z low a
      (λ m. covered_meets ps a low high (omega (arith, ints, m)) l
      (sym (hold a) ∙ run_meets runs a a a b is (omega (arith, ints)) (ok.filled a b is)))
      (λ m. covered_meets ps low low high (omega (arith, ints)) o (sym (hold low) ∙ run_meets runs low low a b is m r))

  pub unmet : AreFilled ps → do_meet runs.entries low high ≡ false → do_meet ps low high ≡ false
  unmet filled free = by_bool (do_meet ps low high)
      (λ t. clash (do_meet runs.entries low high) (others_meet ps runs.entries low high filled (λ n c. hold n ∙ c) o t) free) (λ f. f)

-- one part more
pub hold_more : (old new : BTreeMap ℤ ℤ) (ps : List (ℤ × ℤ)) (low high : ℤ) → Hold old ps → Hold new ((low, high) ∷ old.entries)
    → Hold new ((low, high) ∷ ps)
hold_more old new ps low high h k n = k n ∙ ap (λ b. meets n n (low, high) || b) (h n)

-- one choice more

cover_append : (s : Cover) (ps : List Placed) (p : Placed) → cover_of s (ps ++ p ∷ []) ≡ with_choice (cover_of s ps) p.covering
cover_append s [] p = refl
cover_append s (q ∷ qs) p = cover_append (with_choice s q.covering) qs p

-- What stands

pub stands_first : (kept : Covered) → kept.runs.entries ≡ [] → kept.is_closed ≡ false → kept.is_clear ≡ true → Stands kept nothing_covered
stands_first kept h closed clear = record {
  apart = record {
    filled = λ a b r. elim (none-some b (sym (ap (lookup (is_at (int_cmp a))) h) ∙ r)) [ ];
    apart = λ a b c d r s l. elim (none-some b (sym (ap (lookup (is_at (int_cmp a))) h) ∙ r)) [ ];
  };
  hold = λ n. ap (list_any (meets n n)) h;
  filled = tt;
  closed = closed;
  clear = clear;
}

le_true : (a b : ℤ) → a ≤ℤ b → int_le a b ≡ true
le_true a b h = grind (arith, ints)

le_false : (a b : ℤ) → b <ℤ a → int_le a b ≡ false
le_false a b h = grind (arith, ints)

-- a choice without values
pub none_doubled : (s : Cover) (low high : ℤ) → high <ℤ low → false ≡ (int_le low high && do_meet s.parts low high)
none_doubled s low high h = sym (ap (λ b. b && do_meet s.parts low high) (le_false low high h))

stands_else : (kept : Covered) (s t : Cover) (b : Bool) → b ≡ false → Stands kept s → Stands kept (if b then t else s)
stands_else kept s t true e h = clash true refl e
stands_else kept s t false e h = h

pub stands_without : (kept : Covered) (s : Cover) (low high : ℤ) → high <ℤ low → Stands kept s → Stands kept (with_part s low high)
stands_without kept s low high h st = stands_else kept s (record s { parts = (low, high) ∷ s.parts }) (int_le low high) (le_false low high h) st

-- one with values
pub is_doubled_by : (kept : Covered) (s : Cover) (low high : ℤ) → low ≤ℤ high → Stands kept s → (x : Option (ℤ × ℤ)) → IfSome x (λ r. IsRun kept.runs r.0 r.1)
    → IfSome x (λ r. (r.0 ≤ℤ high) × (low ≤ℤ r.1)) → IfNone x (do_meet kept.runs.entries low high ≡ false) → is_some x ≡ (int_le low high && do_meet s.parts low high)
is_doubled_by kept s low high o st (Some r) run meet none =
    sym (ap (λ b. b && do_meet s.parts low high) (le_true low high o) ∙ met kept.runs s.parts st.hold low high o st.apart r.0 r.1 run meet.0 meet.1)
is_doubled_by kept s low high o st None run meet none =
    sym (ap (λ b. b && do_meet s.parts low high) (le_true low high o) ∙ unmet kept.runs s.parts st.hold low high o st.filled none)

stands_then : (kept : Covered) (s t : Cover) (b : Bool) → b ≡ true → Stands kept t → Stands kept (if b then t else s)
stands_then kept s t true e h = h
stands_then kept s t false e h = clash true refl (sym e)

pub stands_with : (old new : Covered) (s : Cover) (low high : ℤ) → low ≤ℤ high → Stands old s → AreApart new.runs → Hold new.runs ((low, high) ∷ old.runs.entries)
    → new.is_closed ≡ old.is_closed → new.is_clear ≡ old.is_clear → Stands new (with_part s low high)
stands_with old new s low high o st apart hold closed clear =
    stands_then new s (record s { parts = (low, high) ∷ s.parts }) (int_le low high) (le_true low high o) (record {
      apart = apart;
      hold = hold_more old.runs new.runs s.parts low high st.hold hold;
      filled = (o, st.filled);
      closed = closed ∙ st.closed;
      clear = clear ∙ st.clear;
    })

-- with what the loop reads

pub stands_next : (kept : Covered) (ps : List Placed) (k : ℕ) (d : Placed) → k < length ps
    → Stands kept (with_choice (cover_of nothing_covered (take k ps)) (get_or ps k d).covering) → Stands kept (cover_of nothing_covered (take (k + 1) ps))
stands_next kept ps k d l st = rw (take_more ps k d l, cover_append nothing_covered (take k ps) (get_or ps k d)) st

pub found_next : (t u : Told) (code : Code) (ps : List Placed) (k : ℕ) (d : Placed) (b : Bool) → k < length ps
    → b ≡ is_doubled (cover_of nothing_covered (take k ps)) (get_or ps k d).covering → u ≡ add_all t (refuse_silent b code (get_or ps k d).at)
    → add_all u (doubled_found code (cover_of nothing_covered (take (k + 1) ps)) (drop (k + 1) ps))
    ≡ add_all t (doubled_found code (cover_of nothing_covered (take k ps)) (drop k ps))
found_next t u code ps k d b l is e =
    rw (take_more ps k d l, cover_append nothing_covered (take k ps) (get_or ps k d), drop_more ps k d l, e, is)
    (sym (add_append t (refuse_silent (is_doubled (cover_of nothing_covered (take k ps)) (get_or ps k d).covering) code (get_or ps k d).at)
    (doubled_found code (with_choice (cover_of nothing_covered (take k ps)) (get_or ps k d).covering) (drop (k + 1) ps))))

-- behind the loop
pub found_at_last : (t u v : Told) (code : Code) (at : Pos) (bounds : Bounds) (ps : List Placed) (k : ℕ) (b : Bool) → length ps ≤ k
    → b ≡ is_incomplete (cover_of nothing_covered (take k ps)) bounds → v ≡ add_all u (refuse_silent b code at)
    → add_all u (doubled_found code (cover_of nothing_covered (take k ps)) (drop k ps)) ≡ add_all t (doubled_found code nothing_covered ps)
    → v ≡ add_all t (coverage_found code at bounds ps)
found_at_last t u v code at bounds ps k b l is e h =
    let same : u ≡ add_all t (doubled_found code nothing_covered ps) =
    sym (ap (λ qs. add_all u (doubled_found code (cover_of nothing_covered (take k ps)) qs)) (drop_all k ps l)) ∙ h in
    let last : b ≡ is_incomplete (cover_of nothing_covered ps) bounds =
    is ∙ ap (λ qs. is_incomplete (cover_of nothing_covered qs) bounds) (take_all k ps l) in
    e ∙ (ap (λ x. add_all x (refuse_silent b code at)) same
    ∙ (ap (λ x. add_all (add_all t (doubled_found code nothing_covered ps)) (refuse_silent x code at)) last
    ∙ sym (add_append t (doubled_found code nothing_covered ps) (gap_found code at bounds ps))))

-- what is missing
pub incomplete_by : (kept : Covered) (s : Cover) (bounds : Bounds) (r : Bool) → Stands kept s → kept.is_clear ≡ true → kept.is_closed ≡ false
    → r ≡ has_gap s.parts bounds.low bounds.high → r ≡ is_incomplete s bounds
incomplete_by kept s bounds r st clear closed is =
    is ∙ sym (ap (λ b. b && not s.is_closed && has_gap s.parts bounds.low bounds.high) (sym st.clear ∙ clear)
    ∙ ap (λ b. not b && has_gap s.parts bounds.low bounds.high) (sym st.closed ∙ closed))
