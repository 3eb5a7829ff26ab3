-- Runs of values, and the parts that they hold.
use Rattle.std.proofs.Common.{◌≡◌, ◌⊎◌, inl, inr, Bool, true, false, ◌||◌, cond, List, [], ◌∷◌, Option, Some, None, ℤ, ◌≤ℤ◌, ◌<ℤ◌, refl, sym, ap, ◌∙◌, arith}
use Rattle.std.specs.BTreeMap.{BTreeMap, get, insert_entry, is_at, IsOrdered, Updates}
use Rattle.std.specs.Int.{int_max, int_min}
use Rattle.std.specs.List.{list_any, slice_index_or}
use Rattle.std.specs.Map.{lookup, remove_entry}
use Rattle.std.specs.Ordering.{int_cmp, is_eq, is_gt, is_lt, match_ordering}
use Rattle.std.specs.declared.cmp.Ordering.{Ordering}
use Rattle.std.specs.declared.cmp.Ordering.TheVariants.{Less, Equal, Greater}
use Rattle.std.proofs.lemmas.Int.{ints, clamps, by_lt_z}
use Rattle.std.proofs.lemmas.Cmp.{int_cmp_total}
use Rattle.std.proofs.lemmas.List.Folds.{list_any_none}
use Rattle.std.proofs.lemmas.Map.Entries.{btree_map_get_place}
use Rattle.std.proofs.lemmas.Map.Lookups.{exact_signed}
use Rattle.std.proofs.lemmas.Option.{none-some, same_Some, slice_get-get_or}
use Rattle.choice_covers.specs.Parts.{do_meet, is_covered, meets}
use Rattle.choice_covers.specs.Runs.{AreApart, Hold, IsRun}
use Rattle.choice_covers.proofs.Parts.{by_bool, clash, meets_begins, meets_ends, meets_from, merged}

or_swap : (a b c : Bool) → (a || (b || c)) ≡ (b || (a || c))
or_swap true true c = refl
or_swap true false c = refl
or_swap false b c = refl

equal_from : (o : Ordering) → is_eq o ≡ true → o ≡ Equal
equal_from Less h = grind (arith, h)
equal_from Equal h = refl
equal_from Greater h = grind (arith, h)

module _ (f : ℤ × ℤ → Bool) (k v : ℤ) where
  insert_case : (o : Ordering) (e : ℤ × ℤ) (es : List (ℤ × ℤ)) → cond (is_eq o) (Some e.1) (lookup (is_at (int_cmp k)) es) ≡ None
      → (lookup (is_at (int_cmp k)) es ≡ None → list_any f (insert_entry int_cmp es k v) ≡ (f (k, v) || list_any f es))
      → list_any f (match_ordering o ((k, v) ∷ e ∷ es) ((e.0, v) ∷ es) (e ∷ insert_entry int_cmp es k v)) ≡ (f (k, v) || (f e || list_any f es))
  insert_case Less e es h more = refl
  insert_case Equal e es h more = elim (none-some e.1 (sym h)) [ ]
  insert_case Greater e es h more = ap (λ b. f e || b) (more h) ∙ or_swap (f e) (f (k, v)) (list_any f es)

  -- of a run that is added
  pub any_insert : (es : List (ℤ × ℤ)) → lookup (is_at (int_cmp k)) es ≡ None → list_any f (insert_entry int_cmp es k v) ≡ (f (k, v) || list_any f es)
  any_insert [] h = refl
  any_insert (e ∷ es) h = insert_case (int_cmp k e.0) e es h (any_insert es)

  remove_case : (b : Bool) (e : ℤ × ℤ) (es : List (ℤ × ℤ)) → (b ≡ true → e.0 ≡ k) → cond b (Some e.1) (lookup (is_at (int_cmp k)) es) ≡ Some v
      → (lookup (is_at (int_cmp k)) es ≡ Some v → list_any f es ≡ (f (k, v) || list_any f (remove_entry (is_at (int_cmp k)) es)))
      → (f e || list_any f es) ≡ (f (k, v) || list_any f (cond b es (e ∷ remove_entry (is_at (int_cmp k)) es)))
  remove_case true e es same h more = ap (λ x. f (x, e.1) || list_any f es) (same refl) ∙ ap (λ y. f (k, y) || list_any f es) (same_Some e.1 v h)
  remove_case false e es same h more = ap (λ b. f e || b) (more h) ∙ or_swap (f e) (f (k, v)) (list_any f (remove_entry (is_at (int_cmp k)) es))

  -- of one that is taken out
  pub any_remove : (es : List (ℤ × ℤ)) → lookup (is_at (int_cmp k)) es ≡ Some v → list_any f es ≡ (f (k, v) || list_any f (remove_entry (is_at (int_cmp k)) es))
  any_remove [] h = elim (none-some v h) [ ]
  any_remove (e ∷ es) h = remove_case (is_at (int_cmp k) e.0) e es (λ t. sym (exact_signed k e.0 (equal_from (int_cmp k e.0) t))) h (any_remove es)

  -- of one that is there
  pub any_found : (es : List (ℤ × ℤ)) → lookup (is_at (int_cmp k)) es ≡ Some v → f (k, v) ≡ true → list_any f es ≡ true
  any_found es h t = any_remove es h ∙ ap (λ b. b || list_any f (remove_entry (is_at (int_cmp k)) es)) t

-- a run that meets what is between two bounds
pub run_meets : (runs : BTreeMap ℤ ℤ) (low high a b : ℤ) → IsRun runs a b → a ≤ℤ high → low ≤ℤ b → do_meet runs.entries low high ≡ true
run_meets runs low high a b is l r = any_found (meets low high) a b runs.entries is (meets_from low high a b l r)

pub le_from_cmp : (a b : ℤ) → is_gt (int_cmp a b) ≡ false → a ≤ℤ b
le_from_cmp a b h = grind (arith, ints)

pub cmp_from_le : (a b : ℤ) → a ≤ℤ b → is_gt (int_cmp a b) ≡ false
cmp_from_le a b h = grind (arith, ints)

pub ge_from_cmp : (a b : ℤ) → is_lt (int_cmp a b) ≡ false → b ≤ℤ a
ge_from_cmp a b h = grind (arith, ints)

-- where no run up to the high bound reaches the low one, none meets what is between them
pub none_meet : (runs : BTreeMap ℤ ℤ) → IsOrdered int_cmp runs → (low high : ℤ) → ((a b : ℤ) → IsRun runs a b → a ≤ℤ high → b <ℤ low) → do_meet runs.entries low high ≡ false
none_meet runs o low high free = list_any_none (meets low high) runs.entries (λ k d l.
    let e = slice_index_or runs.entries k d in
    by_bool (meets low high e) (λ t. let m = meets_begins low high e t in let n = meets_ends low high e t in
    let f = free e.0 e.1 (btree_map_get_place int_cmp_total runs k e.0 e.1 o (slice_get-get_or runs.entries k d l)) m in
    let x : ⊥ = omega (arith, ints, f, n) in elim x [ ]) (λ f. f))

-- the last run that begins up to a value is the last that can meet what ends there
pub last_free : (runs : BTreeMap ℤ ℤ) → AreApart runs → (first last low high : ℤ) → IsRun runs first last → last <ℤ low
    → ((q v : ℤ) → IsRun runs q v → q ≤ℤ high → q ≤ℤ first) → (a b : ℤ) → IsRun runs a b → a ≤ℤ high → b <ℤ low
last_free runs ok first last low high is l up a b r h = by_lt_z a first
    (λ k. let p = ok.apart a b first last r is k in let q = ok.filled first last is in omega (arith, ints, p, q, l))
    (λ k. let u = up a b r h in let e : a ≡ first = omega (arith, ints, k, u) in
    let s : b ≡ last = same_Some b last (sym r ∙ (ap (get int_cmp runs) e ∙ is)) in omega (arith, ints, s, l))

-- where a run is taken out, those that stay are apart
pub apart_without : (old new : BTreeMap ℤ ℤ) → AreApart old → ((a b : ℤ) → IsRun new a b → IsRun old a b) → AreApart new
apart_without old new ok kept = record {
  filled = λ a b r. ok.filled a b (kept a b r);
  apart = λ a b c d r s l. ok.apart a b c d (kept a b r) (kept c d s) l;
}

-- a run that none meets is apart from all

module _ (old new : BTreeMap ℤ ℤ) (ok : AreApart old) (low high : ℤ) (o : low ≤ℤ high) (free : do_meet old.entries low high ≡ false) where
  is_free : (a b : ℤ) → IsRun old a b → a ≤ℤ high → b <ℤ low
  is_free a b r l = by_lt_z b low (λ k. k) (λ k. clash (do_meet old.entries low high) (run_meets old low high a b r l k) free)

  abbrev pub Kept : ℤ → ℤ → Type 0
  Kept a b = ((a ≡ low) × (b ≡ high)) ⊎ IsRun old a b

  filled_with : (a b : ℤ) → Kept a b → a ≤ℤ b
  filled_with a b (inl e) = let p = e.0 in let q = e.1 in omega (arith, ints, p, q, o)
  filled_with a b (inr r) = ok.filled a b r

  apart_kept : (a b c d : ℤ) → Kept a b → Kept c d → a <ℤ c → b <ℤ c
  apart_kept a b c d (inl e) (inl f) l = let p = e.0 in let q = f.0 in omega (arith, ints, p, q, l)
  apart_kept a b c d (inl e) (inr s) l = let p = e.0 in let q = e.1 in by_lt_z b c (λ k. k)
      (λ k. let m = is_free c d s (omega (arith, ints, k, q)) in let n = ok.filled c d s in omega (arith, ints, m, n, l, p))
  apart_kept a b c d (inr r) (inl f) l = let p = f.0 in let m = is_free a b r (omega (arith, ints, l, p, o)) in omega (arith, ints, m, p)
  apart_kept a b c d (inr r) (inr s) l = ok.apart a b c d r s l

  pub apart_with : ((a b : ℤ) → IsRun new a b → Kept a b) → AreApart new
  apart_with kept = record {
    filled = λ a b r. filled_with a b (kept a b r);
    apart = λ a b c d r s l. apart_kept a b c d (kept a b r) (kept c d s) l;
  }

  none_at : (x : Option ℤ) → ((b : ℤ) → x ≡ Some b → ⊥) → x ≡ None
  none_at None h = refl
  none_at (Some b) h = elim (h b refl) [ ]

  -- so its low bound is no key
  pub is_absent : get int_cmp old low ≡ None
  is_absent = none_at (get int_cmp old low) (λ b r. let m = is_free low b r o in let n = ok.filled low b r in let x : ⊥ = omega (arith, ints, m, n) in x)

-- what a look-up finds behind a change

kept_without : (t : Bool) (x : Option ℤ) (b : ℤ) → cond t None x ≡ Some b → x ≡ Some b
kept_without true x b h = elim (none-some b h) [ ]
kept_without false x b h = h

kept_with : (t : Bool) (x : Option ℤ) (a b low high : ℤ) → (t ≡ true → a ≡ low) → cond t (Some high) x ≡ Some b → ((a ≡ low) × (b ≡ high)) ⊎ (x ≡ Some b)
kept_with true x a b low high e h = inl (e refl, sym (same_Some high b h))
kept_with false x a b low high e h = inr h

or_assoc : (a b c : Bool) → ((a || b) || c) ≡ (a || (b || c))
or_assoc true b c = refl
or_assoc false b c = refl

pub record IsTakenIn (old new : BTreeMap ℤ ℤ) (least greatest first last : ℤ) : Type 0 where
  pub apart : AreApart new
  pub filled : int_min least first ≤ℤ int_max greatest last
  pub hold : (n : ℤ) → is_covered ((int_min least first, int_max greatest last) ∷ new.entries) n ≡ is_covered ((least, greatest) ∷ old.entries) n

-- a run that meets one that is added is taken out, and the one that is added covers it too
pub taken_in : (old new : BTreeMap ℤ ℤ) (least greatest first last : ℤ) → AreApart old → least ≤ℤ greatest → IsRun old first last → first ≤ℤ greatest → least ≤ℤ last
    → Updates int_cmp old new first None → new.entries ≡ remove_entry (is_at (int_cmp first)) old.entries → IsTakenIn old new least greatest first last
taken_in old new least greatest first last ok o is l r u e =
    let f = ok.filled first last is in
    record {
      apart = apart_without old new ok (λ a b k. kept_without (is_at (int_cmp first) a) (get int_cmp old a) b (sym (u.0 a) ∙ k));
      filled = omega (arith, ints, clamps, o, f, l, r);
      hold = λ n.
          ap (λ es. meets n n (int_min least first, int_max greatest last) || list_any (meets n n) es) e
          ∙ (ap (λ b. b || list_any (meets n n) (remove_entry (is_at (int_cmp first)) old.entries)) (merged least greatest first last n o f l r)
          ∙ (or_assoc (meets n n (least, greatest)) (meets n n (first, last)) (list_any (meets n n) (remove_entry (is_at (int_cmp first)) old.entries))
          ∙ ap (λ b. meets n n (least, greatest) || b) (sym (any_remove (meets n n) first last old.entries is))));
    }

pub added_apart : (old new : BTreeMap ℤ ℤ) (low high : ℤ) → AreApart old → low ≤ℤ high → do_meet old.entries low high ≡ false → Updates int_cmp old new low (Some high) → AreApart new
added_apart old new low high ok o free u = apart_with old new ok low high o free
    (λ a b k. kept_with (is_at (int_cmp low) a) (get int_cmp old a) a b low high (λ t. sym (exact_signed low a (equal_from (int_cmp low a) t))) (sym (u.0 a) ∙ k))

pub added_hold : (old new : BTreeMap ℤ ℤ) (low high : ℤ) → AreApart old → low ≤ℤ high → do_meet old.entries low high ≡ false
    → new.entries ≡ insert_entry int_cmp old.entries low high → Hold new ((low, high) ∷ old.entries)
added_hold old new low high ok o free e n =
    ap (list_any (meets n n)) e ∙ any_insert (meets n n) low high old.entries (is_absent old new ok low high o free)

-- at other names of the bounds
pub hold_at : {a b c d : ℤ} (x y z w : ℤ) (ps qs : List (ℤ × ℤ)) → x ≡ a → y ≡ b → c ≡ z → d ≡ w
    → ((n : ℤ) → is_covered ((a, b) ∷ ps) n ≡ is_covered ((c, d) ∷ qs) n) → (n : ℤ) → is_covered ((x, y) ∷ ps) n ≡ is_covered ((z, w) ∷ qs) n
hold_at {a} {b} {c} {d} x y z w ps qs e f g h same n =
    ap (λ k. is_covered ((k, y) ∷ ps) n) e ∙ (ap (λ k. is_covered ((a, k) ∷ ps) n) f ∙ (same n
    ∙ (ap (λ k. is_covered ((k, d) ∷ qs) n) g ∙ ap (λ k. is_covered ((z, k) ∷ qs) n) h)))
