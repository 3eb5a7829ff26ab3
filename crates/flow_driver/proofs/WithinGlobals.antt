-- Where there is no message on a Global, what the body reads and writes is listed in it.
use Rattle.std.proofs.Common.{◌≡◌, ◌≢◌, ◌⊎◌, inl, inr, ℕ, zero, suc, ◌+◌, ◌<◌, ◌≤◌, Bool, true, false, not, ◌&&◌, ◌||◌, nat_eq, List, [], ◌∷◌, ◌++◌, Option, Some, None, refl, sym, ap, ◌∙◌, subst, arith, if◌then◌else◌}
use Rattle.std.specs.Prelude.{IsSomeAnd, slice_get}
use Rattle.std.proofs.lemmas.Bool.{cases_eq, eqb-true}
use Rattle.core_form.specs.declared.contract.Contract.{Contract}
use Rattle.core_form.specs.declared.contract.GlobalItem.{GlobalItem}
use Rattle.core_form.specs.declared.contract.Mode.{Mode}
use Rattle.core_form.specs.declared.contract.Mode.TheVariants as modes
use Rattle.core_form.specs.declared.program.Body.{Body}
use Rattle.core_form.specs.declared.program.Item.{Item}
use Rattle.core_form.specs.declared.program.Item.TheVariants as item
use Rattle.core_form.specs.declared.program.Leaf.{Leaf}
use Rattle.core_form.specs.declared.program.Program.{Program}
use Rattle.core_form.specs.declared.program.Var.{Var}
use Rattle.flow_relations.specs.declared.equation.BodyRow.{BodyRow}
use Rattle.spark_messages.specs.declared.messages.Message.{Message}
use Rattle.flow_driver.specs.GlobalCheck.{global_messages, input_var, is_left, is_listed, is_proof_in, is_read, is_written, listed_item, listed_messages, mode_used, output_var, some_leaf, unlisted_from, unlisted_item, unlisted_var, var_named, var_of}
use Rattle.run_laws.specs.Clean.{IsLeafOf, IsListed, is_input, is_output}

no_parts : {X : Type 0} → (xs ys : List X) → xs ++ ys ≡ [] → (xs ≡ []) × (ys ≡ [])
no_parts [] ys h = (refl, h)
no_parts {X} (x ∷ xs) ys h = let n : List X = [] in let z : x ∷ (xs ++ ys) ≡ n = h in absurd (cc)

no_one : {X : Type 0} → (x : X) (xs : List X) → x ∷ xs ≡ [] → ⊥
no_one {X} x xs h = let n : List X = [] in let z : x ∷ xs ≡ n = h in cc

if_none : (b : Bool) (m : Message) → (if b then m ∷ [] else []) ≡ [] → b ≡ false
if_none true m h = absurd (no_one m [] h)
if_none false m h = refl

-- some leaf of a row passes
pub found_leaf : (test : ℕ → Bool) (n first leaf : ℕ) → first ≤ leaf → leaf < first + n → test leaf ≡ true → some_leaf test n first ≡ true
found_leaf test zero first leaf l m h = absurd (omega arith)
found_leaf test (suc n) first leaf l m h = cases (cases_eq leaf first) (found_leaf test n (suc first) leaf)
  where
    cases : (leaf ≡ first) ⊎ (leaf ≢ first) → (suc first ≤ leaf → leaf < suc first + n → test leaf ≡ true → some_leaf test n (suc first) ≡ true) → (test first || some_leaf test n (suc first)) ≡ true
    cases (inl i) ih = ap (λ b. b || some_leaf test n (suc first)) (ap test (sym i) ∙ h)
    cases (inr d) ih = last (test first) (ih (omega arith) (omega arith) h)
      where
        last : (b : Bool) → some_leaf test n (suc first) ≡ true → (b || some_leaf test n (suc first)) ≡ true
        last true g = refl
        last false g = g

module _ (p : Program) (row : BodyRow) (body : Body) (i : ℕ) (v : ℕ) (var : Var) (item_is : slice_get p.items i ≡ Some (item.Whole (record { 0 = v }))) (var_is : slice_get p.vars v ≡ Some var) (leaf : ℕ) (l : Leaf) (leaf_is : slice_get p.leaves leaf ≡ Some l) (of : l.var.0 ≡ v) where
  -- the item names the variable
  item_var : (k : ℕ) → k ≡ i → elim (slice_get p.items k) [ None ↦ None | Some x ↦ var_of p x ] ≡ Some var
  item_var k e = ap (λ n. named (slice_get p.items n)) e ∙ (ap named item_is ∙ var_is)
    where
      named : Option Item → Option Var
      named o = elim o [ None ↦ None | Some x ↦ var_of p x ]

  -- and the leaf belongs to it
  item_leaf : (k : ℕ) → k ≡ i → IsLeafOf p (slice_get p.items k) leaf
  item_leaf k e = subst (λ n. IsLeafOf p (slice_get p.items n) leaf) (sym e) (subst (λ o. IsLeafOf p o leaf) (sym item_is) (subst (λ o. IsSomeAnd o (λ (m : Leaf). m.var.0 ≡ v)) (sym leaf_is) of))

  -- no message says that it is not listed
  unlisted_at : (listed : ℕ → Bool) (items : List Item) (first : ℕ) (x : Item) (k : ℕ) → slice_get items k ≡ Some x → unlisted_from p row body listed first items ≡ [] → unlisted_item row body (listed (first + k)) (var_of p x) ≡ []
  unlisted_at listed [] first x k e h = let n : Option Item = None in let z : n ≡ Some x = e in absurd (cc)
  unlisted_at listed (y ∷ ys) first x zero e h =
      let same : y ≡ x = cc in
      subst (λ n. unlisted_item row body (listed n) (var_of p x) ≡ []) (omega arith)
      (subst (λ z. unlisted_item row body (listed first) (var_of p z) ≡ []) same (no_parts (unlisted_item row body (listed first) (var_of p y)) (unlisted_from p row body listed (first + 1) ys) h).0)
  unlisted_at listed (y ∷ ys) first x (suc k) e h =
      subst (λ n. unlisted_item row body (listed n) (var_of p x) ≡ []) (omega arith)
      (unlisted_at listed ys (first + 1) x k e (no_parts (unlisted_item row body (listed first) (var_of p y)) (unlisted_from p row body listed (first + 1) ys) h).1)

  unused : (read written left : Bool) → unlisted_var body var (mode_used read written left) ≡ [] → (read ≡ false) × (written ≡ false)
  unused false false left h = (refl, refl)
  unused true false left h = absurd (no_one _ _ h)
  unused false true false h = absurd (no_one _ _ h)
  unused false true true h = absurd (no_one _ _ h)
  unused true true left h = absurd (no_one _ _ h)

  -- an item that is used is listed
  used_is_listed : (listed : ℕ → Bool) → unlisted_from p row body listed 0 p.items ≡ [] → (is_read row var ≡ true) ⊎ (is_written row var ≡ true) → listed i ≡ true
  used_is_listed listed h u =
      let at = unlisted_at listed p.items 0 (item.Whole (record { 0 = v })) i item_is h in
      let g : unlisted_item row body (listed i) (Some var) ≡ [] = subst (λ o. unlisted_item row body (listed i) o ≡ []) var_is (subst (λ n. unlisted_item row body (listed n) (slice_get p.vars v) ≡ []) (omega arith) at) in
      cases (listed i) g
    where
      which : (is_read row var ≡ true) ⊎ (is_written row var ≡ true) → (is_read row var ≡ false) × (is_written row var ≡ false) → ⊥
      which (inl a) n = let z : true ≡ false = sym a ∙ n.0 in cc
      which (inr a) n = let z : true ≡ false = sym a ∙ n.1 in cc

      cases : (b : Bool) → unlisted_item row body b (Some var) ≡ [] → b ≡ true
      cases true k = refl
      cases false k = absurd (which u (unused (is_read row var) (is_written row var) (is_left row var) k))

  -- The mode in which it is listed

  output_read : (g : GlobalItem) → g.item.0 ≡ i → output_var row body g.place (var_named p g) ≡ [] → is_read row var ≡ true → ⊥
  output_read g e h r =
      let k : output_var row body g.place (Some var) ≡ [] = subst (λ o. output_var row body g.place o ≡ []) (item_var g.item.0 e) h in
      let n = if_none (is_read row var || is_left row var) _ k in
      let z : true ≡ false = sym (ap (λ b. b || is_left row var) r) ∙ n in
      cc

  input_written : (g : GlobalItem) → g.item.0 ≡ i → input_var row body g.place (var_named p g) ≡ [] → is_written row var ≡ true → ⊥
  input_written g e h r =
      let k : input_var row body g.place (Some var) ≡ [] = subst (λ o. input_var row body g.place o ≡ []) (item_var g.item.0 e) h in
      let n = if_none (is_written row var) _ k in
      let z : true ≡ false = sym r ∙ n in
      cc

  read_here : (g : GlobalItem) (mode : Mode) → g.item.0 ≡ i → listed_item p row body g mode ≡ [] → is_proof_in mode ≡ false → is_read row var ≡ true → is_input mode ≡ true
  read_here g modes.Input e h n r = refl
  read_here g modes.Output e h n r = absurd (output_read g e h r)
  read_here g modes.InOut e h n r = refl
  read_here g modes.ProofIn e h n r = let z : true ≡ false = n in absurd (cc)

  written_here : (g : GlobalItem) (mode : Mode) → g.item.0 ≡ i → listed_item p row body g mode ≡ [] → is_proof_in mode ≡ false → is_written row var ≡ true → is_output mode ≡ true
  written_here g modes.Input e h n r = absurd (input_written g e h r)
  written_here g modes.Output e h n r = refl
  written_here g modes.InOut e h n r = refl
  written_here g modes.ProofIn e h n r = let z : true ≡ false = n in absurd (cc)

  this_one : (a b : Bool) → (a && not b) ≡ true → (a ≡ true) × (b ≡ false)
  this_one true false h = (refl, refl)
  this_one true true h = let z : false ≡ true = h in absurd (cc)
  this_one false b h = let z : false ≡ true = h in absurd (cc)

  listed_by : (mode : Mode → Bool) → ((g : GlobalItem) → g.item.0 ≡ i → listed_item p row body g g.mode ≡ [] → is_proof_in g.mode ≡ false → mode g.mode ≡ true)
      → (gs : List GlobalItem) → is_listed gs i ≡ true → listed_messages p row body gs ≡ [] → IsListed p mode gs leaf
  listed_by mode here [] h m = let z : false ≡ true = h in absurd (cc)
  listed_by mode here (g ∷ gs) h m = cases (nat_eq g.item.0 i && not (is_proof_in g.mode)) refl h (listed_by mode here gs)
    where
      cases : (b : Bool) → (nat_eq g.item.0 i && not (is_proof_in g.mode)) ≡ b → (b || is_listed gs i) ≡ true → (is_listed gs i ≡ true → listed_messages p row body gs ≡ [] → IsListed p mode gs leaf) → IsListed p mode (g ∷ gs) leaf
      cases true e k ih =
          let parts = this_one (nat_eq g.item.0 i) (is_proof_in g.mode) e in
          let same = eqb-true g.item.0 i parts.0 in
          inl (here g same (no_parts (listed_item p row body g g.mode) (listed_messages p row body gs) m).0 parts.1, item_leaf g.item.0 same)
      cases false e k ih = inr (ih k (no_parts (listed_item p row body g g.mode) (listed_messages p row body gs) m).1)

  -- what is read is an input, and what is written an output
  pub read_listed : (c : Contract) → global_messages p row body c ≡ [] → is_read row var ≡ true → IsListed p is_input c.globals leaf
  read_listed c h r =
      let parts = no_parts (unlisted_from p row body (is_listed c.globals) 0 p.items) (listed_messages p row body c.globals) h in
      listed_by is_input (λ g e m n. read_here g g.mode e m n r) c.globals (used_is_listed (is_listed c.globals) parts.0 (inl r)) parts.1

  pub written_listed : (c : Contract) → global_messages p row body c ≡ [] → is_written row var ≡ true → IsListed p is_output c.globals leaf
  written_listed c h r =
      let parts = no_parts (unlisted_from p row body (is_listed c.globals) 0 p.items) (listed_messages p row body c.globals) h in
      listed_by is_output (λ g e m n. written_here g g.mode e m n r) c.globals (used_is_listed (is_listed c.globals) parts.0 (inr r)) parts.1
