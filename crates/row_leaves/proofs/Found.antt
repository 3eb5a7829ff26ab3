-- What a search along callers has found.
use Rattle.std.proofs.Common.{◌≡◌, ℕ, zero, suc, ◌+◌, ◌<◌, ◌≤◌, ◌⊎◌, ◌↔◌, All, Bool, true, false, List, [], ◌∷◌, ◌++◌, Some, length, length-append, get_or, get_or-set_same, get_or-set_other, refl, inl, inr, arith, subst, sym, ap, ◌∙◌}
use Rattle.std.proofs.Math.ListN.{set}
use Rattle.std.proofs.lemmas.List.{length-set}
use Rattle.std.specs.Prelude.{slice_get, slice_index_or}
use Rattle.std.proofs.lemmas.Bool.{false≢true, cases_Bool, cases_lt, cases_eq}
use Rattle.std.proofs.lemmas.List.{get_or_past}
use Rattle.std.proofs.lemmas.List.Elements.{All-push}
use Rattle.spark_base.specs.declared.numbers.BodyNo.{BodyNo}
use Rattle.call_lists.specs.Lists.{NamesBelow, Names, Has}
use Rattle.call_lists.proofs.Names.{names_step, push_names}
use Rattle.row_leaves.specs.Search.{Leads, LeadsTo, clear, IsFound, IsSearching}

pub marked_below : (marks : List Bool) (b : ℕ) → Has marks b → b < length marks
marked_below marks b h = elim (cases_lt b (length marks)) [ inl l ↦ l | inr g ↦ absurd (false≢true (sym (get_or_past marks b false g) ∙ h)) ]

-- a mark that is set
pub marked_one : (marks : List Bool) (b : ℕ) → b < length marks → (c : ℕ) → Has (set marks b true) c ↔ (Has marks c ⊎ (b ≡ c))
marked_one marks b l c = elim (cases_eq c b) [
  | inl e ↦ (λ h. inr (sym e), λ s. ap (λ (k : ℕ). get_or (set marks b true) k false) e ∙ get_or-set_same marks b true false l)
  | inr n ↦ (
      let other : get_or (set marks b true) c false ≡ get_or marks c false = get_or-set_other marks b c true false n in (
        λ h. inl (sym other ∙ h),
        λ s. elim s [ inl h ↦ other ∙ h | inr e ↦ absurd (n (sym e)) ],
      ))
]

clear_one : (marks : List Bool) (b : ℕ) → b < length marks → get_or marks b false ≡ false → clear (set marks b true) + 1 ≡ clear marks
clear_one [] b l e = absurd (omega (arith, l))
clear_one (m ∷ ms) zero l e = rw e (omega arith)
clear_one (m ∷ ms) (suc b) l e = let h = clear_one ms b (omega (arith, l)) e in omega (arith, h)

-- nothing is marked
clear_all : (marks : List Bool) → ((b : ℕ) → Has marks b → ⊥) → clear marks ≡ length marks
clear_all [] h = refl
clear_all (m ∷ ms) h =
    let rest = clear_all ms (λ b. h (suc b)) in
    elim (cases_Bool m) [ inl e ↦ absurd (h 0 e) | inr e ↦ rw e (omega (arith, rest)) ]

pub found_none : (marks : List Bool) → ((b : ℕ) → Has marks b → ⊥) → IsFound marks []
found_none marks h = record {
  names = λ c. (λ m. absurd (let l = m.1.0 in omega (arith, l)), λ m. absurd (h c m));
  below = λ k d l. absurd (omega (arith, l));
  count = let all = clear_all marks h in omega (arith, all);
}

pub found_one : (marks : List Bool) (found new : List BodyNo) (b : BodyNo) → b.0 < length marks → get_or marks b.0 false ≡ false → IsFound marks found
    → new ≡ found ++ b ∷ [] → IsFound (set marks b.0 true) new
found_one marks found new b l e is n =
    let size : length (set marks b.0 true) ≡ length marks = length-set marks b.0 true in
    subst (λ (list : List BodyNo). IsFound (set marks b.0 true) list) (sym n) (record {
      names = λ c. (
          let one = marked_one marks b.0 l c in
          let push = push_names found b c in (
            λ m. one.1 (elim (push.0 m) [ inl x ↦ inl ((is.names c).0 x) | inr x ↦ inr x ]),
            λ m. push.1 (elim (one.0 m) [ inl x ↦ inl ((is.names c).1 x) | inr x ↦ inr x ]),
          ));
      below = subst (λ (n : ℕ). All (λ (x : BodyNo). x.0 < n) (found ++ b ∷ [])) (sym size) (All-push (λ (x : BodyNo). x.0 < length marks) found b is.below l);
      count =
          let more : length (found ++ b ∷ []) ≡ length found + 1 = length-append found (b ∷ []) in
          let less = clear_one marks b.0 l e in
          let before = is.count in
          omega (arith, size, more, less, before);
    })

pub get_before : (xs ys : List BodyNo) (k : ℕ) → k < length xs → slice_get (xs ++ ys) k ≡ slice_get xs k
get_before [] ys k l = absurd (omega (arith, l))
get_before (x ∷ xs) ys zero l = refl
get_before (x ∷ xs) ys (suc k) l = get_before xs ys k (omega (arith, l))

-- a place of a list that keeps its elements
pub named_before : (old new : List BodyNo) (n : ℕ) (c : ℕ) → n ≤ length old → ((k : ℕ) → k < length old → slice_get new k ≡ slice_get old k)
    → NamesBelow n new c → NamesBelow n old c
named_before old new n c l kept m = (m.0, (m.1.0, (m.1.1.0, (sym (kept m.0 (let h = m.1.0 in omega (arith, h, l))) ∙ m.1.1.1.0, m.1.1.1.1))))

-- where all callers of what was found are marked, all that lead to it are
pub leads_marked : (callers : List (List BodyNo)) (starts : List BodyNo) (marks : List Bool) → ((b : ℕ) → Names starts b → Has marks b)
    → ((c b : ℕ) → Has marks c → Names (slice_index_or callers c []) b → Has marks b) → (n b : ℕ) → Leads callers starts n b → Has marks b
leads_marked callers starts marks first more zero b h = first b h
leads_marked callers starts marks first more (suc n) b h = more h.0 b (leads_marked callers starts marks first more n h.0 h.1.1) h.1.0

next_named : (found : List BodyNo) (i : ℕ) (item : BodyNo) → slice_get found i ≡ Some item → (c : ℕ) → NamesBelow (i + 1) found c → NamesBelow i found c ⊎ (item.0 ≡ c)
next_named found i item e c m =
    let before : NamesBelow i found c ↔ (⊥ ⊎ NamesBelow i found c) = (λ x. inr x, λ s. elim s [ inl z ↦ absurd z | inr x ↦ x ]) in
    let one : (NamesBelow i found c ⊎ (item.0 ≡ c)) ↔ (NamesBelow i found c ⊎ (item.0 ≡ c)) = (λ x. x, λ x. x) in
    (names_step found i item e c before one).1 (inr m)

-- before the first place
pub search_starts : (callers : List (List BodyNo)) (starts : List BodyNo) (old marks : List Bool) (found : List BodyNo) → ((b : ℕ) → Has old b → ⊥)
    → length marks ≡ length callers → IsFound marks found → ((b : ℕ) → Has marks b ↔ (Has old b ⊎ Names starts b)) → IsSearching callers starts marks found 0
search_starts callers starts old marks found none size is has = record {
  within = omega arith;
  size = size;
  lists = is;
  leads = λ b h. elim ((has b).0 h) [ inl o ↦ absurd (none b o) | inr s ↦ (0, s) ];
  first = λ b s. (has b).1 (inr s);
  done = λ c b m n. absurd (let l = m.1.0 in omega (arith, l));
}

-- the callers of one more
pub search_steps : (callers : List (List BodyNo)) (starts : List BodyNo) (marks new : List Bool) (found more : List BodyNo) (at : ℕ) (item : BodyNo) (list : List BodyNo)
    → IsSearching callers starts marks found at → at < length found → slice_get found at ≡ Some item → list ≡ slice_index_or callers item.0 []
    → length new ≡ length marks → IsFound new more → ((b : ℕ) → Has new b ↔ (Has marks b ⊎ Names list b)) → length found ≤ length more
    → ((k : ℕ) → k < length found → slice_get more k ≡ slice_get found k) → IsSearching callers starts new more (at + 1)
search_steps callers starts marks new found more at item list is l e same size lists has longer kept = record {
  within = omega (arith, l, longer);
  size = size ∙ is.size;
  lists = lists;
  leads = λ b h. elim ((has b).0 h) [
    | inl o ↦ is.leads b o
    | inr n ↦ (
        let way = is.leads item.0 ((is.lists.names item.0).0 (at, (l, (item, (e, refl))))) in
        (suc way.0, (item.0, (subst (λ (bs : List BodyNo). Names bs b) same n, way.1))))
  ];
  first = λ b s. (has b).1 (inl (is.first b s));
  done = λ c b m n. elim (next_named found at item e c (named_before found more (at + 1) c (omega (arith, l)) kept m)) [
    | inl o ↦ (has b).1 (inl (is.done c b o n))
    | inr q ↦ (has b).1 (inr (subst (λ (bs : List BodyNo). Names bs b) (sym same) (subst (λ (k : ℕ). Names (slice_index_or callers k []) b) (sym q) n)))
  ];
}

pub search_ends : (callers : List (List BodyNo)) (starts : List BodyNo) (marks : List Bool) (found : List BodyNo) (at : ℕ) → IsSearching callers starts marks found at
    → length found ≤ at → (b : ℕ) → Has marks b ↔ LeadsTo callers starts b
search_ends callers starts marks found at is end b = (
  is.leads b,
  λ h. leads_marked callers starts marks is.first
      (λ c k m n. is.done c k (let t = (is.lists.names c).1 m in (t.0, ((let l = t.1.0 in omega (arith, l, end)), t.1.1))) n) h.0 b h.1,
)
