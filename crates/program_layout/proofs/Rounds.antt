-- The least sets of leaves by the lists that a layout is made from, and by the program.
use Rattle.std.proofs.Common.{◌≡◌, ℕ, zero, suc, ◌<◌, ◌⊎◌, ◌↔◌, List, [], ◌∷◌, Option, None, Some, length, inl, inr, arith, refl, subst}
use Rattle.std.specs.Prelude.{IsSomeAnd, slice_get}
use Rattle.spark_base.specs.declared.numbers.BodyNo.{BodyNo}
use Rattle.core_form.specs.declared.contract.Contract.{Contract}
use Rattle.core_form.specs.declared.program.Body.{Body}
use Rattle.core_form.specs.declared.program.Program.{Program}
use Rattle.core_form.specs.Calls.{CallsIn}
use Rattle.core_form.specs.Code.{Code, Skip, Then, Assign, Clear, Branch, Repeat, Exit, Called, Guard, Delay, ReadClock, Stop, code_of}
use Rattle.core_form.specs.Fine.{IsWellFormed}
use Rattle.summary_rows.specs.declared.layout.Layout.{Layout}
use Rattle.body_calls.specs.Callees.{Calls, HasCall}
use Rattle.body_calls.proofs.Added.{within}
use Rattle.callee_view.specs.Seen.{ContractLeaves, contract_seen, known_of, row_told, seen, seen_by}
use Rattle.flow_relations.specs.Equation.{clock_among, code_at_body, code_of_body, names_of}
use Rattle.flow_relations.specs.Summaries.{IsSummaryLeaf, knows_of, row_leaf_of}
use Rattle.row_leaves.specs.declared.leaves.Bodies.{Bodies}
use Rattle.row_leaves.specs.Leaves.{IsRowLeaf, RowLeafWithin}
use Rattle.program_layout.specs.Made.{AreBodiesOf, IsSeenInContract, SeesNoContract}
use Rattle.program_layout.specs.Rows.{IsLeafOver, IsLeastLeaf, LeafWithin, leaves_at, leaves_by, leaves_seen}
use Rattle.program_layout.proofs.Coded.{knows_called}

-- Calls

calls_at : (p : Program) (o : Option Body) (c : ℕ) → IsSomeAnd o (λ body. HasCall (code_of p.exprs p.stmts body.code) c) ↔ HasCall
    (code_at_body p o) c
calls_at p None c = (λ h. h, λ h. h)
calls_at p (Some body) c = (λ h. h, λ h. h)

calls_code : (p : Program) (b c : ℕ) → Calls p b c ↔ HasCall (code_of_body p b) c
calls_code p b c = calls_at p (slice_get p.bodies b) c

callee_within : (p : Program) (code : Code) (c : ℕ) → CallsIn p code → HasCall code c → c < length p.bodies
callee_within p Skip c fine h = absurd h
callee_within p (Then x y) c fine h = elim h [ inl a ↦ callee_within p x c fine.0 a | inr a ↦ callee_within p y c fine.1 a ]
callee_within p (Assign to e at) c fine h = absurd h
callee_within p (Clear leaf) c fine h = absurd h
callee_within p (Branch e x y) c fine h = elim h [ inl a ↦ callee_within p x c fine.0 a | inr a ↦ callee_within p y c fine.1 a ]
callee_within p (Repeat x) c fine h = callee_within p x c fine h
callee_within p (Exit o) c fine h = absurd h
callee_within p (Called b actuals at) c fine h = subst (λ (k : ℕ). k < length p.bodies) h (within p.bodies b.0 _ fine)
callee_within p (Guard o barrier x) c fine h = callee_within p x c fine.1 h
callee_within p (Delay e) c fine h = absurd h
callee_within p (ReadClock to) c fine h = absurd h
callee_within p Stop c fine h = absurd h

calls_within : (p : Program) → IsWellFormed p → (b c : ℕ) → Calls p b c → c < length p.bodies
calls_within p fine b c h = by (slice_get p.bodies b) refl h
  where
    by : (o : Option Body) → slice_get p.bodies b ≡ o → IsSomeAnd o (λ body. HasCall (code_of p.exprs p.stmts body.code) c) → c < length
        p.bodies
    by None e k = absurd k
    by (Some body) e k = callee_within p (code_of p.exprs p.stmts body.code) c (fine.calls b body e) k

-- What is seen: a contract, or the row

by_contract : (p : Program) (c : ℕ) (body : Body) (row : ℕ → Type 0) (k : Option Contract) (v : ℕ)
    → leaves_by p c body row k v ↔ (IsSomeAnd k (λ x. ContractLeaves p c body x v) ⊎ ((k ≡ None) × row v))
by_contract p c body row None v = (λ h. inr (refl, h), λ s. elim s [ inl h ↦ absurd h | inr h ↦ h.1 ])
by_contract p c body row (Some x) v = (λ h. inl h, λ s. elim s [ inl h ↦ h | inr h ↦ absurd (let e = h.0 in cc) ])

by_body : (p : Program) (caller : Option Body) (c : ℕ) (row : ℕ → Type 0) (o : Option Body) (v : ℕ) → IsSomeAnd o (λ body. body ≡ body)
    → leaves_at p caller c row o v ↔ (IsSomeAnd o (λ body. IsSomeAnd (contract_seen caller body) (λ x. ContractLeaves p c body x v))
    ⊎ (IsSomeAnd o (λ body. contract_seen caller body ≡ None) × row v))
by_body p caller c row None v h = absurd h
by_body p caller c row (Some body) v h = by_contract p c body row (contract_seen caller body) v

there : (bodies : List Body) (c : ℕ) → c < length bodies → IsSomeAnd (slice_get bodies c) (λ body. body ≡ body)
there [] c l = absurd (omega (arith, l))
there (body ∷ bodies) zero l = refl
there (body ∷ bodies) (suc c) l = there bodies c (omega (arith, l))

seen_parts : (p : Program) (rows : ℕ → ℕ → Type 0) (caller : Option Body) (c : BodyNo) (v : ℕ) → c.0 < length p.bodies
    → leaves_seen p rows caller c v ↔ (IsSeenInContract p caller c.0 v ⊎ (SeesNoContract p caller c.0 × rows c.0 v))
seen_parts p rows caller c v l = by_body p caller c.0 (rows c.0) (slice_get p.bodies c.0) v (there p.bodies c.0 l)

-- Rounds

module _ (p : Program) (fine : IsWellFormed p) where
  -- of which callees code knows a leaf
  known_parts : (rows : ℕ → ℕ → Type 0) (b v : ℕ) → knows_of (leaves_seen p rows (slice_get p.bodies b)) (code_of_body p b) v
      ↔ ((c : BodyNo) × (Calls p b c.0 × (IsSeenInContract p (slice_get p.bodies b) c.0 v ⊎
      (SeesNoContract p (slice_get p.bodies b) c.0 × rows c.0 v))))
  known_parts rows b v =
      let all = knows_called (leaves_seen p rows (slice_get p.bodies b)) (code_of_body p b) v in (
        λ h.
            let t = all.0 h in
            let calls = (calls_code p b t.0.0).1 t.1.0 in
            (t.0, (calls, (seen_parts p rows (slice_get p.bodies b) t.0 v (calls_within p fine b t.0.0 calls)).0 t.1.1)),
        λ t. all.1 (
          t.0,
          (
            (calls_code p b t.0.0).0 t.1.0,
            (seen_parts p rows (slice_get p.bodies b) t.0 v
                (calls_within p fine b t.0.0 t.1.0)).1 t.1.1,
          ),
        ),
      )

  module _ (d : Bodies) (of : AreBodiesOf p d) where
    pub rounds : (n b v : ℕ) → RowLeafWithin d n b v ↔ LeafWithin p n b v
    rounds zero b v = (λ h. h, λ h. h)
    rounds (suc n) b v =
        let known = known_parts (LeafWithin p n) b v in (
          λ s. elim s [
            | inl own ↦ (elim ((of.own b v).0 own) [
              | inl passed ↦ inr passed
              | inr t ↦ (elim t.1 [
                | inl names ↦ inl (t.0, inl names)
                | inr k ↦ inl (t.0, inr (known.1 (record { 0 = k.0 }, (k.1.0, inl k.1.1))))
              ])
            ])
            | inr t ↦ (
                let sees = (of.sees b t.0).0 t.1.0 in
                inl ((of.library v).0 t.1.1.0, inr (known.1 (record { 0 = t.0 }, (sees.0, inr (sees.1, (rounds n t.0 v).0 t.1.1.1))))))
          ],
          λ s. elim s [
            | inl t ↦ (elim t.1 [
              | inl names ↦ inl ((of.own b v).1 (inr (t.0, inl names)))
              | inr k ↦ (
                  let c = known.0 k in
                  elim c.1.1 [
                    | inl seen ↦ inl ((of.own b v).1 (inr (t.0, inr (c.0.0, (c.1.0, seen)))))
                    | inr row ↦ inr (c.0.0, ((of.sees b c.0.0).1 (c.1.0, row.0), ((of.library v).1 t.0, (rounds n c.0.0 v).1 row.1)))
                  ])
            ])
            | inr passed ↦ inl ((of.own b v).1 (inl passed))
          ],
        )

    pub least : (b v : ℕ) → IsRowLeaf d b v ↔ IsLeastLeaf p b v
    least b v = (λ h. (h.0, (rounds h.0 b v).0 h.1), λ h. (h.0, (rounds h.0 b v).1 h.1))

  -- sets that have the least leaves have those that the rule asks for
  pub closed : (rows : ℕ → ℕ → Type 0) → ((b v : ℕ) → b < length p.bodies → rows b v ↔ IsLeastLeaf p b v) → (b v : ℕ) → IsLeafOver p rows
      b v ↔ IsLeastLeaf p b v
  closed rows same b v = (
    λ s. elim s [
      | inl t ↦ (elim t.1 [
        | inl names ↦ (1, inl (t.0, inl names))
        | inr k ↦ (
            let c = (known_parts rows b v).0 k in
            elim c.1.1 [
              | inl seen ↦ (1, inl (t.0, inr ((known_parts (LeafWithin p 0) b v).1 (c.0, (c.1.0, inl seen)))))
              | inr row ↦ (
                  let w = (same c.0.0 v (calls_within p fine b c.0.0 c.1.0)).0 row.1 in
                  (suc w.0, inl (t.0, inr ((known_parts (LeafWithin p w.0) b v).1 (c.0, (c.1.0, inr (row.0, w.1)))))))
            ])
      ])
      | inr passed ↦ (1, inr passed)
    ],
    λ h. back h.0 h.1,
  )
    where
      back : (n : ℕ) → LeafWithin p n b v → IsLeafOver p rows b v
      back zero h = absurd h
      back (suc n) s = elim s [
        | inl t ↦ (elim t.1 [
          | inl names ↦ inl (t.0, inl names)
          | inr k ↦ (
              let c = (known_parts (LeafWithin p n) b v).0 k in
              elim c.1.1 [
                | inl seen ↦ inl (t.0, inr ((known_parts rows b v).1 (c.0, (c.1.0, inl seen))))
                | inr row ↦ inl (
                  t.0,
                  inr ((known_parts rows b v).1 (
                    c.0,
                    (c.1.0, inr (row.0, (same c.0.0 v (calls_within p fine b c.0.0 c.1.0)).1 (n, row.1))),
                  )),
                )
              ])
        ])
        | inr passed ↦ inr passed
      ]

-- The definition of a row

told_by : (p : Program) (l : Layout) (c : ℕ) (body : Body) (k : Option Contract) (v : ℕ)
    → (known_of p c body (row_told l (λ f. ⊥) c) k).leaves v ↔ leaves_by p c body (row_leaf_of l c) k v
told_by p l c body None v = (λ h. h, λ h. h)
told_by p l c body (Some x) v = (λ h. h, λ h. h)

told_at : (p : Program) (l : Layout) (caller : Option Body) (c : ℕ) (o : Option Body) (v : ℕ)
    → (seen_by p caller c (row_told l (λ f. ⊥) c) o).leaves v ↔ leaves_at p caller c (row_leaf_of l c) o v
told_at p l caller c None v = (λ h. h, λ h. h)
told_at p l caller c (Some body) v = told_by p l c body (contract_seen caller body) v

told_seen : (p : Program) (l : Layout) (caller : Option Body) (c : BodyNo) (v : ℕ) → (seen p l (λ f. ⊥) caller c).leaves v ↔ leaves_seen p
    (row_leaf_of l) caller c v
unfolding seen
told_seen p l caller c v = told_at p l caller c.0 (slice_get p.bodies c.0) v

pub summary_leaf : (p : Program) (l : Layout) (b v : ℕ) → IsSummaryLeaf p l b v ↔ IsLeafOver p (row_leaf_of l) b v
summary_leaf p l b v =
    let caller = slice_get p.bodies b in
    let by_seen = knows_called (λ c. (seen p l (λ f. ⊥) caller c).leaves) (code_of_body p b) v in
    let by_rows = knows_called (leaves_seen p (row_leaf_of l) caller) (code_of_body p b) v in (
      λ s. elim s [
        | inl t ↦ (elim t.1 [
          | inl names ↦ inl (t.0, inl names)
          | inr k ↦ (let c = by_seen.0 k in inl (t.0, inr (by_rows.1 (c.0, (c.1.0, (told_seen p l caller c.0 v).0 c.1.1)))))
        ])
        | inr passed ↦ inr passed
      ],
      λ s. elim s [
        | inl t ↦ (elim t.1 [
          | inl names ↦ inl (t.0, inl names)
          | inr k ↦ (let c = by_rows.0 k in inl (t.0, inr (by_seen.1 (c.0, (c.1.0, (told_seen p l caller c.0 v).1 c.1.1)))))
        ])
        | inr passed ↦ inr passed
      ],
    )
