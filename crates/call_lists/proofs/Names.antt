-- Lists of bodies, read from the front.
use Rattle.std.proofs.Common.{◌≡◌, ℕ, ◌+◌, ◌<◌, ◌≤◌, ◌⊎◌, ◌↔◌, List, [], ◌∷◌, ◌++◌, Some, None, zero, suc, length, length-append, inl, inr, arith, subst, sym, ap, ◌∙◌, refl, get_or, get_or-set_same, get_or-set_other}
use Rattle.std.proofs.Math.ListN.{set}
use Rattle.std.proofs.Math.Seq.{get_or-append_seam}
use Rattle.std.specs.Prelude.{slice_get}
use Rattle.std.proofs.lemmas.Bool.{cases_lt, cases_eq}
use Rattle.std.proofs.lemmas.List.{get_or_default, get_or_past, get_or_append_left}
use Rattle.std.proofs.lemmas.Option.{slice_get_past}
use Rattle.spark_base.specs.declared.numbers.BodyNo.{BodyNo}
use Rattle.call_lists.specs.Lists.{NamesBelow, Names}

at_one : (b x : ℕ) → x < b + 1 → (x < b) ⊎ (x ≡ b)
at_one b x h = elim (cases_lt x b) [ inl l ↦ inl l | inr g ↦ (let e : x ≡ b = omega arith in inr e) ]

-- the names of one place more
names_more : (bs : List BodyNo) (i : ℕ) (item : BodyNo) → slice_get bs i ≡ Some item → (c : ℕ) → NamesBelow (i + 1) bs c ↔ (NamesBelow i bs c ⊎ (item.0 ≡ c))
names_more bs i item e c = (
  λ s. elim (at_one i s.0 s.1.0) [
    | inl l ↦ inl (s.0, (l, s.1.1))
    | inr h ↦ (
        let g = s.1.1.1.0 in
        let p = s.1.1.1.1 in
        let d : slice_get bs s.0 ≡ slice_get bs i = ap (λ (k : ℕ). slice_get bs k) h in
        inr (let q : item ≡ s.1.1.0 = cc in cc))
  ],
  λ s. elim s [
    | inl t ↦ (let l : t.0 < i + 1 = omega (arith, t.1.0) in (t.0, (l, t.1.1)))
    | inr h ↦ (let l : i < i + 1 = omega arith in (i, (l, (item, (e, h)))))
  ],
)

pub names_step : (bs : List BodyNo) (i : ℕ) (item : BodyNo) → slice_get bs i ≡ Some item → (c : ℕ) {old mid new : Type 0}
    → (mid ↔ (old ⊎ NamesBelow i bs c)) → (new ↔ (mid ⊎ (item.0 ≡ c))) → (new ↔ (old ⊎ NamesBelow (i + 1) bs c))
names_step bs i item e c h k =
    let m = names_more bs i item e c in (
      λ n. elim (k.0 n) [ inl a ↦ (elim (h.0 a) [ inl o ↦ inl o | inr s ↦ inr (m.1 (inl s)) ]) | inr p ↦ inr (m.1 (inr p)) ],
      λ s. elim s [
        | inl o ↦ k.1 (inl (h.1 (inl o)))
        | inr t ↦ (elim (m.0 t) [ inl u ↦ k.1 (inl (h.1 (inr u))) | inr p ↦ k.1 (inr p) ])
      ],
    )

-- a list with one element more at its end
get_append : (xs ys : List BodyNo) (k : ℕ) (y : BodyNo) → slice_get xs k ≡ Some y → slice_get (xs ++ ys) k ≡ Some y
get_append [] ys k y e = absurd (let n : slice_get {X = BodyNo} [] k ≡ None = slice_get_past [] k (omega arith) in cc)
get_append (x ∷ xs) ys zero y e = e
get_append (x ∷ xs) ys (suc k) y e = get_append xs ys k y e

get_last : (xs : List BodyNo) (x : BodyNo) → slice_get (xs ++ x ∷ []) (length xs) ≡ Some x
get_last [] x = refl
get_last (y ∷ xs) x = get_last xs x

-- its names
pub push_names : (xs : List BodyNo) (x : BodyNo) (c : ℕ) → Names (xs ++ x ∷ []) c ↔ (Names xs c ⊎ (x.0 ≡ c))
push_names xs x c =
    let size : length (xs ++ x ∷ []) ≡ length xs + 1 = simp length-append (omega arith) in (
      λ m. elim (at_one (length xs) m.0 (let t = m.1.0 in omega (arith, size, t))) [
        | inl l ↦ inl (m.0, (l, (m.1.1.0, (before xs m.0 l m.1.1.0 m.1.1.1.0, m.1.1.1.1))))
        | inr e ↦ inr (
            let last : slice_get (xs ++ x ∷ []) m.0 ≡ Some x = ap (λ (k : ℕ). slice_get (xs ++ x ∷ []) k) e ∙ get_last xs x in
            let g = m.1.1.1.0 in
            let q : x ≡ m.1.1.0 = cc in
            ap (λ (y : BodyNo). y.0) q ∙ m.1.1.1.1)
      ],
      λ s. elim s [
        | inl m ↦ (m.0, ((let t = m.1.0 in omega (arith, size, t)), (m.1.1.0, (get_append xs (x ∷ []) m.0 m.1.1.0 m.1.1.1.0, m.1.1.1.1))))
        | inr e ↦ (length xs, (omega (arith, size), (x, (get_last xs x, e))))
      ],
    )
  where
    before : (ys : List BodyNo) (k : ℕ) → k < length ys → (y : BodyNo) → slice_get (ys ++ x ∷ []) k ≡ Some y → slice_get ys k ≡ Some y
    before [] k l y e = absurd (omega arith)
    before (z ∷ ys) zero l y e = e
    before (z ∷ ys) (suc k) l y e = before ys k (omega (arith, l)) y e

pub pushed_names : (xs ys : List BodyNo) (x : BodyNo) (n : ℕ) → ys ≡ xs ++ x ∷ [] → x.0 ≡ n → ((b : ℕ) → b < n → Names xs b) → (b : ℕ) → b < n + 1 → Names ys b
pushed_names xs ys x n e d h b l = subst (λ (zs : List BodyNo). Names zs b) (sym e)
    ((push_names xs x b).1 (elim (at_one n b l) [ inl k ↦ inl (h b k) | inr k ↦ inr (d ∙ sym k) ]))

-- Lists of callers

-- one caller more of one body
pub one_caller : (lists : List (List BodyNo)) (callee : ℕ) (old new : List BodyNo) (caller : BodyNo) → callee < length lists
    → old ≡ get_or lists callee old → new ≡ old ++ caller ∷ [] → (c b : ℕ)
    → Names (get_or (set lists callee new) c []) b ↔ (Names (get_or lists c []) b ⊎ ((b ≡ caller.0) × (callee ≡ c)))
one_caller lists callee old new caller l is e c b = elim (cases_eq c callee) [
  | inl d ↦ (
      let here : get_or (set lists callee new) c [] ≡ old ++ caller ∷ [] =
      ap (λ (k : ℕ). get_or (set lists callee new) k []) d ∙ get_or-set_same lists callee new [] l ∙ e in
      let was : get_or lists c [] ≡ old = ap (λ (k : ℕ). get_or lists k []) d ∙ sym (is ∙ get_or_default lists callee old [] l) in
      let p = push_names old caller b in (
        λ m. elim (p.0 (subst (λ (bs : List BodyNo). Names bs b) here m)) [
          | inl o ↦ inl (subst (λ (bs : List BodyNo). Names bs b) (sym was) o)
          | inr q ↦ inr (sym q, sym d)
        ],
        λ s. subst (λ (bs : List BodyNo). Names bs b) (sym here) (p.1 (elim s [
          | inl o ↦ inl (subst (λ (bs : List BodyNo). Names bs b) was o)
          | inr q ↦ inr (sym q.0)
        ])),
      ))
  | inr n ↦ (
      let same : get_or (set lists callee new) c [] ≡ get_or lists c [] = get_or-set_other lists callee c new [] n in (
        λ m. inl (subst (λ (bs : List BodyNo). Names bs b) same m),
        λ s. elim s [
          | inl o ↦ subst (λ (bs : List BodyNo). Names bs b) (sym same) o
          | inr q ↦ absurd (n (sym q.1))
        ],
      ))
]

-- the callee at one place more
pub callee_step : (callees : List BodyNo) (i : ℕ) (item : BodyNo) → slice_get callees i ≡ Some item → (c : ℕ) {A old mid new : Type 0}
    → (mid ↔ (old ⊎ (A × NamesBelow i callees c))) → (new ↔ (mid ⊎ (A × (item.0 ≡ c)))) → (new ↔ (old ⊎ (A × NamesBelow (i + 1) callees c)))
callee_step callees i item e c h k =
    let m = names_more callees i item e c in (
      λ n. elim (k.0 n) [
        | inl a ↦ (elim (h.0 a) [ inl o ↦ inl o | inr s ↦ inr (s.0, m.1 (inl s.1)) ])
        | inr p ↦ inr (p.0, m.1 (inr p.1))
      ],
      λ s. elim s [
        | inl o ↦ k.1 (inl (h.1 (inl o)))
        | inr t ↦ (elim (m.0 t.1) [ inl u ↦ k.1 (inl (h.1 (inr (t.0, u)))) | inr p ↦ k.1 (inr (t.0, p)) ])
      ],
    )

-- one body more whose callees were gone through
pub caller_step : (callees : List (List BodyNo)) (i : ℕ) (item : List BodyNo) → i < length callees → item ≡ get_or callees i item → (b c : ℕ) {mid new : Type 0}
    → (mid ↔ ((b < i) × Names (get_or callees b []) c)) → (new ↔ (mid ⊎ ((b ≡ i) × Names item c))) → new ↔ ((b < i + 1) × Names (get_or callees b []) c)
caller_step callees i item l is b c h k =
    let own : b ≡ i → get_or callees b [] ≡ item = λ e. ap (λ (j : ℕ). get_or callees j []) e ∙ sym (is ∙ get_or_default callees i item [] l) in (
      λ n. elim (k.0 n) [
        | inl m ↦ (let r = h.0 m in ((let t = r.0 in omega (arith, t)), r.1))
        | inr p ↦ ((let t = p.0 in omega (arith, t)), subst (λ (bs : List BodyNo). Names bs c) (sym (own p.0)) p.1)
      ],
      λ s. k.1 (elim (at_one i b s.0) [
        | inl t ↦ inl (h.1 (t, s.1))
        | inr e ↦ inr (e, subst (λ (bs : List BodyNo). Names bs c) (own e) s.1)
      ]),
    )

pub no_names : (c : ℕ) → Names [] c → ⊥
no_names c m = let t = m.1.0 in omega (arith, t)

-- a list that names some body is there
pub names_within : (lists : List (List BodyNo)) (b c : ℕ) → Names (get_or lists b []) c → b < length lists
names_within lists b c m = elim (cases_lt b (length lists)) [
  | inl l ↦ l
  | inr g ↦ absurd (no_names c (subst (λ (bs : List BodyNo). Names bs c) (get_or_past lists b [] g) m))
]

-- a list of no names more
pub empty_step : (lists : List (List BodyNo)) → ((c b : ℕ) → Names (get_or lists c []) b → ⊥) → (c b : ℕ) → Names (get_or (lists ++ [] ∷ []) c []) b → ⊥
empty_step lists h c b m = elim (cases_lt c (length lists)) [
  | inl l ↦ h c b (subst (λ (bs : List BodyNo). Names bs b) (get_or_append_left lists ([] ∷ []) [] c l) m)
  | inr g ↦ (elim (cases_eq c (length lists)) [
    | inl e ↦ no_names b (subst (λ (bs : List BodyNo). Names bs b) (ap (λ (k : ℕ). get_or (lists ++ [] ∷ []) k []) e ∙ get_or-append_seam lists [] [] []) m)
    | inr n ↦ (
        let size : length (lists ++ [] ∷ []) ≡ length lists + 1 = simp length-append (omega arith) in
        let p : length (lists ++ [] ∷ []) ≤ c = omega (arith, size, g, n) in
        no_names b (subst (λ (bs : List BodyNo). Names bs b) (get_or_past (lists ++ [] ∷ []) c [] p) m))
  ])
]
