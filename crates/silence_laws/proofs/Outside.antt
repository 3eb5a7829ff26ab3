-- What the environment sees of a root: at least what this reads by its row.
use Rattle.std.proofs.Common.{◌≡◌, ◌∙◌, ℕ, ◌+◌, ◌<◌, ◌≤◌, inl, inr, true, false, refl, sym, subst, List, [], ◌∷◌, Option, Some, None}
use Rattle.std.specs.Prelude.{IsSomeAnd, IsTrue, slice_get}
use Rattle.spark_base.specs.declared.numbers.ObjectNo.{ObjectNo}
use Rattle.spark_base.specs.declared.numbers.PackageNo.{PackageNo}
use Rattle.core_form.specs.declared.contract.Contract.{Contract}
use Rattle.core_form.specs.declared.contract.GlobalItem.{GlobalItem}
use Rattle.core_form.specs.declared.contract.Mode.{Mode}
use Rattle.core_form.specs.declared.contract.Mode.TheVariants as modes
use Rattle.core_form.specs.declared.program.Body.{Body}
use Rattle.core_form.specs.declared.program.Item.{Item}
use Rattle.core_form.specs.declared.program.Program.{Program}
use Rattle.core_form.specs.declared.program.Sharing.{Sharing}
use Rattle.core_form.specs.Fine.{home_of}
use Rattle.core_form.specs.Leaves.{IsLeafOf}
use Rattle.core_form.specs.Proper.{IsProper}
use Rattle.summary_rows.specs.declared.rows.Rows.{Rows}
use Rattle.summary_rows.specs.Layout.{told}
use Rattle.callee_view.specs.Seen.{IsGlobalLeaf, contract_by, is_read, known_of, row_told, seen, seen_by, sees_inside}
use Rattle.flow_relations.specs.Equation.{IsPassed, equation}
use Rattle.run_model.specs.Machine.{is_library}
use Rattle.run_laws.specs.Clean as clean
use Rattle.run_laws.specs.Clean.{IsGlobalOf, IsOutside, IsOwnPart, is_input, sharing_of}
use Rattle.run_laws.specs.Laws.{IsWithinGlobal}
use Rattle.used_modes.specs.UsedModes.{row_of}
use Rattle.initializes_check.specs.InitializesCheck.{IsOfNoObject, reads_outside}
use Rattle.elaboration_laws.proofs.Covered.{library_home}
use Rattle.silence_laws.specs.Silence.{AreFactsOf, IsPlain}
use Rattle.silence_laws.proofs.Globals.{Found, library_there, var_there}

some_same : {A : Type 0} {a b : A} → Some a ≡ Some b → a ≡ b
some_same e = cc

some_out : {A : Type 0} (P : A → Type 0) (o : Option A) → IsSomeAnd o P → (x : A) × ((o ≡ Some x) × P x)
some_out P None h = absurd h
some_out P (Some x) h = (x, (refl, h))

-- the environment is in no package
outside_all : (k : Option PackageNo) → sees_inside None k ≡ false
outside_all None = refl
outside_all (Some k) = refl

mode_read : (m : Mode) → IsTrue (is_input m) → is_read m ≡ true
mode_read modes.Input h = refl
mode_read modes.Output h = let z : false ≡ true = h in absurd (cc)
mode_read modes.InOut h = refl
mode_read modes.ProofIn h = let z : false ≡ true = h in absurd (cc)

no_component : (s : Sharing) (o : ObjectNo) → IsOfNoObject s → s ≡ Sharing.Component o → ⊥
no_component s o h e = subst IsOfNoObject e h

module _ (p : Program) (proper : IsProper p) (simple : IsPlain p) (rows : Rows) (facts : AreFactsOf p (row_of rows))
    (within : (b : ℕ) (c : Contract) → IsGlobalOf p b c → IsWithinGlobal p b c) (x : ℕ) (f : Found p x) where
  leaf_listed : (o : Option Item) → clean.IsLeafOf p o x → IsSomeAnd o (λ i. IsLeafOf p i x)
  leaf_listed None h = h
  leaf_listed (Some (Item.State s)) h = absurd h
  leaf_listed (Some (Item.Guard o)) h = absurd h
  leaf_listed (Some (Item.Whole v)) h =
      let same : f.0.var.0 ≡ v.0 = subst (λ o. IsSomeAnd o (λ k. k.var.0 ≡ v.0)) f.1.0 h in
      let is : slice_get p.vars v.0 ≡ Some f.1.1.0 = subst (λ n. slice_get p.vars n ≡ Some f.1.1.0) same f.1.1.1 in
      subst (λ q. IsSomeAnd q (λ k. (k.«from».0 ≤ x) × (x < k.«from».0 + k.count))) (sym is) ((proper.leaves x v.0 f.0 f.1.1.0 f.1.0 is).0 same)

  -- what is listed as an input is read by the contract
  global_leaf : (gs : List GlobalItem) → clean.IsListed p is_input gs x → IsGlobalLeaf p is_read gs x
  global_leaf [] h = h
  global_leaf (g ∷ gs) (inl h) = inl (mode_read g.mode h.0, leaf_listed (slice_get p.items g.item.0) h.1)
  global_leaf (g ∷ gs) (inr h) = inr (global_leaf gs h)

  -- it is no component
  sharing_is : sharing_of p x ≡ Some f.1.1.0.sharing
  sharing_is = subst (λ o. elim o [ None ↦ None | Some l ↦ (elim (slice_get p.vars l.var.0) [ None ↦ None | Some v ↦ Some v.sharing ]) ] ≡ Some f.1.1.0.sharing) (sym f.1.0)
      (subst (λ o. elim o [ None ↦ None | Some v ↦ Some v.sharing ] ≡ Some f.1.1.0.sharing) (sym f.1.1.1) refl)

  not_own : (b : ℕ) → IsOwnPart p b x → ⊥
  not_own b h =
      let body = some_out (λ (k : Body). IsSomeAnd k.object (λ o. sharing_of p x ≡ Some (Sharing.Component o))) (slice_get p.bodies b) h in
      let object = some_out (λ o. sharing_of p x ≡ Some (Sharing.Component o)) body.0.object body.1.1 in
      let e : f.1.1.0.sharing ≡ Sharing.Component object.0 = some_same (sym sharing_is ∙ object.1.1) in
      no_component f.1.1.0.sharing object.0 (simple.vars f.0.var.0 f.1.1.0 f.1.1.1).1 e

  module _ (b : ℕ) (library : IsTrue (is_library p x)) (r : (equation p b).reads x) where
    by_contract : (body : Body) → slice_get p.bodies b ≡ Some body → (o : Option Contract) → body.outer ≡ o → (known_of p b body (row_told rows.layout (told rows) b) o).reads x
    by_contract body is None e = (facts.reads b x).1 r
    by_contract body is (Some c) e =
        inl (global_leaf c.globals ((within b c (body, is, inl e)).reads x (record { library = library; other = not_own b }) r))

    by_body : (o : Option Body) → slice_get p.bodies b ≡ o → (seen_by p None b (row_told rows.layout (told rows) b) o).reads x
    by_body None e = (facts.reads b x).1 r
    by_body (Some body) e = subst (λ s. (known_of p b body (row_told rows.layout (told rows) b) (contract_by s body.inner body.outer)).reads x)
        (sym (outside_all body.«package»)) (by_contract body e body.outer refl)

    pub outside_read : reads_outside p rows b x
    unfolding seen
    outside_read = by_body (slice_get p.bodies b) refl

-- of a root, which has no formals and no result
pub root_seen : (p : Program) → IsProper p → IsPlain p → (rows : Rows) → AreFactsOf p (row_of rows) → ((b : ℕ) (c : Contract) → IsGlobalOf p b c → IsWithinGlobal p b c)
    → (b x : ℕ) → (IsSomeAnd (home_of p x) (IsPassed b) → ⊥) → (equation p b).reads x → reads_outside p rows b x
root_seen p proper simple rows facts within b x own r = elim r.0 [
  | inl h ↦ (let library : IsTrue (is_library p x) = library_home (home_of p x) h.0 in
      outside_read p proper simple rows facts within x (var_there p x (library_there (home_of p x) library)) b library r)
  | inr h ↦ absurd (own h)
]
