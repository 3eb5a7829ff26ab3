-- A silent report: no check of the program finds anything.
use Rattle.std.proofs.Common.{◌≡◌, ◌⊎◌, inl, inr, ℕ, zero, suc, ◌+◌, ◌<◌, Bool, true, false, cond, ◌||◌, List, [], ◌∷◌, ◌++◌, length, map, Option, Some, None, refl, sym, ap, ◌∙◌, subst, arith, if◌then◌else◌}
use Rattle.std.specs.Prelude.{IsSomeAnd, IsTrue, slice_get}
use Rattle.std.specs.List.{Contains}
use Rattle.std.specs.Option.{option_to_list}
use Rattle.std.proofs.lemmas.List.Folds.{list_any_at}
use Rattle.spark_base.specs.declared.numbers.BodyNo.{BodyNo}
use Rattle.spark_base.specs.declared.numbers.Span.{Span}
use Rattle.core_form.specs.Code.{At, Outcome, Next, Code, Skip, Then, Assign, Clear, Branch, Repeat, Exit, Called, Guard, Delay, ReadClock, Stop, code_of}
use Rattle.core_form.proofs.Alone.{NamesAlone}
use Rattle.core_form.specs.Calls.{HasNoCalls, IsWithoutCalls}
use Rattle.core_form.specs.Fine.{IsWellFormed, home_of}
use Rattle.core_form.specs.Proper.{Declares, IsDeclared, IsProper, IsProperCode, IsProperList, IsProperMember, MayClear}
use Rattle.core_form.specs.declared.contract.Contract.{Contract}
use Rattle.core_form.specs.declared.contract.GlobalItem.{GlobalItem}
use Rattle.core_form.specs.declared.contract.Mode.{Mode}
use Rattle.core_form.specs.declared.contract.Mode.TheVariants as modes
use Rattle.core_form.specs.declared.program.Body.{Body}
use Rattle.core_form.specs.declared.program.BodyKind.TheVariants as kinds
use Rattle.core_form.specs.declared.program.Home.{Home}
use Rattle.core_form.specs.declared.program.Item.{Item}
use Rattle.core_form.specs.declared.program.Leaf.{Leaf}
use Rattle.core_form.specs.declared.program.Program.{Program}
use Rattle.core_form.specs.declared.program.Var.{Var}
use Rattle.flow_relations.specs.declared.equation.BodyRow.{BodyRow}
use Rattle.flow_relations.specs.Flow.{Summary}
use Rattle.flow_relations.specs.Told.{IsRow}
use Rattle.flow_relations.specs.Equation.{code_at_body, code_of_body, equation, opened, plain_flow, starts_unset, whole_at}
use Rattle.first_path.specs.declared.source.Source.{Source}
use Rattle.first_path.specs.declared.source.Variable.{Variable}
use Rattle.first_lower.specs.Lowered.{IsLowered, elaboration, low_item, low_leaf, low_var, low_variables}
use Rattle.first_lower.proofs.Entries.{entry_here, entry_of, length_entries}
use Rattle.first_lower.proofs.Plain.{lowered_plain}
use Rattle.spark_messages.specs.declared.message_texts.UsedMode.{UsedMode}
use Rattle.spark_messages.specs.declared.message_texts.UsedMode.TheVariants as used
use Rattle.spark_messages.specs.declared.messages.Message.{Message}
use Rattle.spark_messages.specs.Message.{HaveSame, is_grave}
use Rattle.flow_driver.specs.declared.report.Report.{Report}
use Rattle.flow_driver.specs.GlobalCheck.{global_messages, input_var, listed_item, listed_messages, output_var, unlisted_from, unlisted_item, unlisted_var, used_mode, var_named, var_of, is_listed, is_written, is_read, is_left}
use Rattle.flow_driver.specs.Report.{AreFlowMessages, HasReport, IsProgramOf, IsProgram, IsReading, IsReport, IsReportOf}
use Rattle.flow_driver.specs.Run.{has_errors, verdict}
use Rattle.flow_driver.specs.Runs.{HaveCleanRuns}
use Rattle.flow_driver.proofs.OneReport.{contract, found_is, one_equation, one_spelled, procedure}
use Rattle.flow_driver.proofs.SameMessages.{messages_same}
use Rattle.core_form.specs.declared.program.Formal.{Formal}
use Rattle.flow_relations.specs.Equation.{is_unset, is_unset_leaf, is_unset_var}
use Rattle.flow_relations.specs.Flow.{inside, reads_of, reads_of_all, unrolling}
use Rattle.flow_driver.specs.GlobalCheck.{has}
use Rattle.flow_driver.proofs.WithinGlobals.{found_leaf, read_listed, written_listed}
use Rattle.run_laws.specs.Clean.{IsGlobalOf, IsListed, is_input, is_output}
use Rattle.run_laws.specs.Laws.{HasCleanRuns, IsSilent, IsWithinGlobal}
use Rattle.run_laws.specs.Unassigned.{AreElaborated, all, behind, roots_of, sites, sites_of_rounds}
use Rattle.run_laws.proofs.Calls.{clean_runs}
use Rattle.run_laws.proofs.Names.{sound_body}
use Rattle.run_laws.proofs.Rows.{library_below}
use Rattle.run_laws.proofs.Touches.{all_read_named, read_named}
use Rattle.run_laws.proofs.Walks.{Below}

-- Each message on a Global counts

abbrev Graves : List Message → Type 0
Graves [] = Unit {0}
Graves (m ∷ ms) = (is_grave m.kind ≡ true) × Graves ms

graves_both : (xs ys : List Message) → Graves xs → Graves ys → Graves (xs ++ ys)
graves_both [] ys h k = k
graves_both (x ∷ xs) ys h k = (h.0, graves_both xs ys h.1 k)

grave_if : (b : Bool) (m : Message) → is_grave m.kind ≡ true → Graves (if b then m ∷ [] else [])
grave_if true m h = (h, tt)
grave_if false m h = tt

module _ (p : Program) (row : BodyRow) (body : Body) where
  grave_unlisted : (v : Var) (u : UsedMode) → Graves (unlisted_var body v u)
  grave_unlisted v used.Nothing = tt
  grave_unlisted v used.Input = (refl, tt)
  grave_unlisted v used.Output = (refl, tt)
  grave_unlisted v used.InOut = (refl, tt)

  grave_unlisted_item : (b : Bool) (o : Option Var) → Graves (unlisted_item row body b o)
  grave_unlisted_item true o = tt
  grave_unlisted_item false None = tt
  grave_unlisted_item false (Some v) = grave_unlisted v (used_mode row v)

  graves_unlisted : (listed : ℕ → Bool) (i : ℕ) (xs : List Item) → Graves (unlisted_from p row body listed i xs)
  graves_unlisted listed i [] = tt
  graves_unlisted listed i (x ∷ xs) = graves_both (unlisted_item row body (listed i) (var_of p x)) (unlisted_from p row body listed (i + 1) xs) (grave_unlisted_item (listed i) (var_of p x)) (graves_unlisted listed (i + 1) xs)

  grave_input : (place : Span) (o : Option Var) → Graves (input_var row body place o)
  grave_input place None = tt
  grave_input place (Some v) = grave_if (is_written row v) _ refl

  grave_output : (place : Span) (o : Option Var) → Graves (output_var row body place o)
  grave_output place None = tt
  grave_output place (Some v) = grave_if (is_read row v || is_left row v) _ refl

  grave_listed : (g : GlobalItem) (m : Mode) → Graves (listed_item p row body g m)
  grave_listed g modes.Input = grave_input g.place (var_named p g)
  grave_listed g modes.Output = grave_output g.place (var_named p g)
  grave_listed g modes.InOut = tt
  grave_listed g modes.ProofIn = tt

  graves_listed : (gs : List GlobalItem) → Graves (listed_messages p row body gs)
  graves_listed [] = tt
  graves_listed (g ∷ gs) = graves_both (listed_item p row body g g.mode) (listed_messages p row body gs) (grave_listed g g.mode) (graves_listed gs)

  graves_global : (c : Contract) → Graves (global_messages p row body c)
  graves_global c = graves_both (unlisted_from p row body (is_listed c.globals) 0 p.items) (listed_messages p row body c.globals) (graves_unlisted (is_listed c.globals) 0 p.items) (graves_listed c.globals)

-- a list without one is empty, if all would count
none_found : (list found : List Message) → HaveSame list found → has_errors list ≡ false → Graves found → found ≡ []
none_found list [] same quiet_list graves = refl
none_found list (m ∷ ms) same quiet_list graves =
    let here : Contains (m ∷ ms) m = (0, omega arith, refl) in
    let there = (same.same m).1 here in
    let some = list_any_at (λ (x : Message). is_grave x.kind) list there.0 m there.1 (ap (λ (x : Message). is_grave x.kind) there.2 ∙ graves.0) in
    let z : true ≡ false = sym some ∙ quiet_list in
    absurd (cc)

-- Silence

abbrev status : Bool → Bool → ℕ
status refused errors = if refused then 2 else if errors then 1 else 0

silent_by : (refused errors : Bool) → status refused errors ≡ 0 → (refused ≡ false) × (errors ≡ false)
silent_by true errors h = let z : 2 ≡ zero = h in absurd (omega arith)
silent_by false true h = let z : 1 ≡ zero = h in absurd (omega arith)
silent_by false false h = (refl, refl)

-- there is no message on the Global of the procedure
pub record IsQuiet (p : Program) : Type 0 where
  pub source : Source
  pub lowered : IsLowered source p
  pub row : BodyRow
  pub is_row : IsRow row (equation p 2)
  pub none : global_messages p row (procedure source lowered.third) (contract source) ≡ []

quiet_by : (bytes : List ℕ) (r : Report) (p q : Program) → IsProgramOf bytes p → IsProgramOf bytes q → AreFlowMessages q r.messages → has_errors r.messages ≡ false → IsQuiet p
quiet_by bytes r p q k h m errors =
    let same = one_spelled _ bytes k.source h.source k.is_first.spells h.is_first.spells in
    let lowered : IsLowered h.source p = subst (λ (s : Source). IsLowered s p) same k.lowered in
    let a = found_is h.source q h.lowered m.found m.are_found in
    let graves : Graves m.found = subst Graves (sym a.list_is) (graves_global q a.row (procedure h.source h.lowered.third) (contract h.source)) in
    let empty = none_found r.messages m.found m.same errors graves in
    let row : IsRow a.row (equation p 2) = subst (λ (e : Summary). IsRow a.row e) (one_equation h.source q p h.lowered lowered) a.is_row in
    record {
      source = h.source;
      lowered = lowered;
      row = a.row;
      is_row = row;
      none = sym (messages_same q p a.row a.row (equation q 2) (procedure h.source h.lowered.third) lowered.third (contract h.source) (h.lowered.vars ∙ sym lowered.vars) (h.lowered.items ∙ sym lowered.items) a.is_row a.is_row) ∙ (sym a.list_is ∙ empty);
    }

quiet : (bytes : List ℕ) (r : Report) (p : Program) → HasReport bytes r → verdict r ≡ 0 → IsProgramOf bytes p → IsQuiet p
quiet bytes r p h v k =
    let parts = silent_by r.refused (has_errors r.messages) v in
    at_reading h.reading h.is_reading h.is_report parts.0 parts.1
  where
    at_reading : (o : Option Program) → IsReading bytes o → IsReportOf o r → r.refused ≡ false → has_errors r.messages ≡ false → IsQuiet p
    at_reading None reading report accepted errors = let z : true ≡ false = sym (ap (λ (x : Report). x.refused) report) ∙ accepted in absurd (cc)
    at_reading (Some q) reading report accepted errors = quiet_by bytes r p q k reading report.messages errors

some_body : (x y : Body) → Some x ≡ Some y → x ≡ y
some_body x y h = cc

abbrev IsPackaged : Option Home → Type 0
IsPackaged None = Unit {0}
IsPackaged (Some (Home.Package k)) = Unit {0}
IsPackaged (Some (Home.Local c)) = ⊥
IsPackaged (Some (Home.Formal c)) = ⊥
IsPackaged (Some (Home.Outcome c)) = ⊥
IsPackaged (Some (Home.Spare c)) = ⊥
IsPackaged (Some Home.Clock) = ⊥

-- The tables of a lowered program

module _ (s : Source) (p : Program) (h : IsLowered s p) where
  -- a leaf has its variable and its item
  record HasTables (v : ℕ) : Type 0 where
    leaf : Variable
    leaf_is : slice_get p.leaves v ≡ Some (low_leaf s.spec.«package» v leaf)
    var : Variable
    var_is : slice_get p.vars v ≡ Some (low_var s.spec.«package» v var)
    item_of : Variable
    item_is : slice_get p.items v ≡ Some (low_item v item_of)

  tables : (v : ℕ) → v < length p.leaves → HasTables v
  tables v l =
      let count : length p.leaves ≡ length s.spec.variables = ap length h.leaves ∙ length_entries (low_leaf s.spec.«package») 0 s.spec.variables in
      let within : v < length s.spec.variables = omega arith in
      let a = entry_here (low_leaf s.spec.«package») s.spec.variables v within in
      let b = entry_here (low_var s.spec.«package») s.spec.variables v within in
      let c = entry_here low_item s.spec.variables v within in
      record {
        leaf = a.0;
        leaf_is = ap (λ (xs : List Leaf). slice_get xs v) h.leaves ∙ a.1;
        var = b.0;
        var_is = ap (λ (xs : List Var). slice_get xs v) h.vars ∙ b.1;
        item_of = c.0;
        item_is = ap (λ (xs : List Item). slice_get xs v) h.items ∙ c.1;
      }

  -- the one Global is that of the procedure
  one_global : (b : ℕ) (body : Body) (c : Contract) → slice_get p.bodies b ≡ Some body → (body.outer ≡ Some c) ⊎ (body.inner ≡ Some c) → (b ≡ 2) × (c ≡ contract s)
  one_global b body c is which = at b (sym (ap (λ (xs : List Body). slice_get xs b) h.bodies) ∙ is)
    where
      no_contract : (x : Body) → x ≡ body → x.outer ≡ None → x.inner ≡ None → (body.outer ≡ Some c) ⊎ (body.inner ≡ Some c) → ⊥
      no_contract x e o i (inl k) = let n : Option Contract = None in let z : n ≡ Some c = sym o ∙ (ap (λ (y : Body). y.outer) e ∙ k) in cc
      no_contract x e o i (inr k) = let n : Option Contract = None in let z : n ≡ Some c = sym i ∙ (ap (λ (y : Body). y.inner) e ∙ k) in cc

      the_contract : (x : Body) → x ≡ body → x.outer ≡ Some (contract s) → x.inner ≡ None → (body.outer ≡ Some c) ⊎ (body.inner ≡ Some c) → c ≡ contract s
      the_contract x e o i (inl k) = let z : Some (contract s) ≡ Some c = sym o ∙ (ap (λ (y : Body). y.outer) e ∙ k) in cc
      the_contract x e o i (inr k) = let n : Option Contract = None in let z : n ≡ Some c = sym i ∙ (ap (λ (y : Body). y.inner) e ∙ k) in absurd (cc)

      at : (n : ℕ) → slice_get (elaboration s.spec.«package» s.spec.«package» h.first true ∷ elaboration s.spec.«package» s.body.«package» h.second false ∷ procedure s h.third ∷ []) n ≡ Some body → (n ≡ 2) × (c ≡ contract s)
      at zero e = absurd (no_contract (elaboration s.spec.«package» s.spec.«package» h.first true) (some_body _ _ e) refl refl which)
      at (suc zero) e = absurd (no_contract (elaboration s.spec.«package» s.body.«package» h.second false) (some_body _ _ e) refl refl which)
      at (suc (suc zero)) e = (refl, the_contract (procedure s h.third) (some_body _ _ e) refl refl which)
      at (suc (suc (suc n))) e = let z : Option Body = None in let y : z ≡ Some body = e in absurd (cc)

  -- The checks of the program find nothing

  -- no leaf begins unassigned: each is one of a package
  never_unset : (b : ℕ) (formals : List Formal) (v : ℕ) → starts_unset p b formals v ≡ false
  never_unset b formals v = leaf (slice_get p.leaves v)
    where
      var : (n : ℕ) (o : Option Var) → slice_get p.vars n ≡ o → is_unset_var b formals n o ≡ false
      var n None e = refl
      var n (Some x) e =
          let row = entry_of (low_var s.spec.«package») s.spec.variables n x (sym (ap (λ (xs : List Var). slice_get xs n) h.vars) ∙ e) in
          ap (λ (y : Var). is_unset b formals n y.home) row.1

      leaf : (o : Option Leaf) → is_unset_leaf p b formals o ≡ false
      leaf None = refl
      leaf (Some l) = var l.var.0 (slice_get p.vars l.var.0) refl

  -- each leaf is one of a package
  packaged : (v : ℕ) → IsPackaged (home_of p v)
  packaged v = leaf (slice_get p.leaves v)
    where
      var : (n : ℕ) (o : Option Var) → slice_get p.vars n ≡ o → IsPackaged (elim o [ None ↦ None | Some x ↦ Some x.home ])
      var n None e = tt
      var n (Some x) e =
          let row = entry_of (low_var s.spec.«package») s.spec.variables n x (sym (ap (λ (xs : List Var). slice_get xs n) h.vars) ∙ e) in
          subst (λ (y : Var). IsPackaged (Some y.home)) (sym row.1) tt

      leaf : (o : Option Leaf) → IsPackaged (elim o [ None ↦ None | Some l ↦ (elim (slice_get p.vars l.var.0) [ None ↦ None | Some x ↦ Some x.home ]) ])
      leaf None = tt
      leaf (Some l) = var l.var.0 (slice_get p.vars l.var.0) refl

-- no leaf of a package may be cleared within a statement
clears_none : (o : Option Home) → IsPackaged o → MayClear o → ⊥
clears_none None g m = m
clears_none (Some (Home.Package k)) g m = m
clears_none (Some (Home.Local c)) g m = g
clears_none (Some (Home.Formal c)) g m = g
clears_none (Some (Home.Outcome c)) g m = g
clears_none (Some (Home.Spare c)) g m = g
clears_none (Some Home.Clock) g m = g

-- What a code reads

module _ (p : Program) (body : Body) (clears : (x : ℕ) → MayClear (home_of p x) → ⊥) where
  -- a code that clears nothing keeps each name as it is, and so do rounds of it
  rounds_kept : (a : Code) → ((o : Outcome) (v w : ℕ) → (plain_flow p a).kept o v w → v ≡ w)
      → (n : ℕ) (o : Outcome) (v w : ℕ) → (unrolling (length p.leaves) (plain_flow p a) n).kept o v w → v ≡ w
  rounds_kept a h zero o v w k = absurd k
  rounds_kept a h (suc n) o v w (inl k) = h o v w k.1
  rounds_kept a h (suc n) o v w (inr k) = h Next v k.0 k.1.0 ∙ rounds_kept a h n o k.0 w k.1.1

  kept_same : (a : Code) → IsProperCode p body a → IsWithoutCalls a → (o : Outcome) (v w : ℕ) → (plain_flow p a).kept o v w → v ≡ w
  kept_same Skip h n o v w k = k.1.1
  kept_same (Then a b) h n o v w (inl k) = kept_same a h.0 n.0 o v w k.1
  kept_same (Then a b) h n o v w (inr k) = kept_same a h.0 n.0 Next v k.0 k.1.0 ∙ kept_same b h.1 n.1 o k.0 w k.1.1
  kept_same (Assign (At leaf part true count) e at) h n o v w k = k.1.1
  kept_same (Assign (At leaf part false count) e at) h n o v w k = k.1.1
  kept_same (Clear leaf) h n o v w k = absurd (clears leaf h)
  kept_same (Branch e a b) h n o v w (inl k) = kept_same a h.1 n.0 o v w k
  kept_same (Branch e a b) h n o v w (inr k) = kept_same b h.2 n.1 o v w k
  kept_same (Repeat a) h n o v w k = rounds_kept a (kept_same a h n) k.0 (inside o) v w k.1
  kept_same (Exit u) h n o v w k = k.1.1
  kept_same (Called b actuals at) h n o v w k = absurd n
  kept_same (Guard u barrier b) h n o v w k = absurd n
  kept_same (Delay e) h n o v w k = absurd h
  kept_same (ReadClock to) h n o v w k = absurd h
  kept_same Stop h n o v w k = absurd k

  -- and has no site, where nothing is tracked
  abbrev IsUntracked : (ℕ → Type 0) → Type 0
  IsUntracked v = (x : ℕ) → Below p x → v x → ⊥

  behind_untracked : (a : Code) → IsProperCode p body a → IsWithoutCalls a → (v : ℕ → Type 0) → IsUntracked v → IsUntracked (behind all p a Next v)
  behind_untracked a h n v e y l (inl j) = let same : length p.leaves ≡ y = kept_same a h n Next (length p.leaves) y j.0 in let less : y < length p.leaves = l in omega arith
  behind_untracked a h n v e y l (inr j) = e y l j.0

  rounds_no_sites : (a : Code) → IsProperCode p body a → IsWithoutCalls a → ((v : ℕ → Type 0) → IsUntracked v → (x : ℕ) → sites all p a v x → ⊥)
      → (n : ℕ) (v : ℕ → Type 0) → IsUntracked v → (x : ℕ) → sites_of_rounds all p (plain_flow p a) (sites all p a) n v x → ⊥
  rounds_no_sites a h k g zero v e x i = i
  rounds_no_sites a h k g (suc n) v e x (inl i) = g v e x i
  rounds_no_sites a h k g (suc n) v e x (inr i) = rounds_no_sites a h k g n (behind all p a Next v) (behind_untracked a h k v e) x i.1

  no_sites : (a : Code) → IsProperCode p body a → IsWithoutCalls a → NamesAlone (Below p) a → (v : ℕ → Type 0) → IsUntracked v → (x : ℕ) → sites all p a v x → ⊥
  no_sites Skip h n c v e x i = i
  no_sites (Then a b) h n c v e x (inl i) = no_sites a h.0 n.0 c.0 v e x i
  no_sites (Then a b) h n c v e x (inr i) = no_sites b h.1 n.1 c.1 (behind all p a Next v) (behind_untracked a h.0 n.0 v e) x i.1
  no_sites (Assign (At leaf part whole count) k at) h n c v e x i = cases i.1
    where
      cases : reads_of k x ⊎ reads_of_all part x → ⊥
      cases (inl r) = e x (read_named (Below p) k x c.1 r) i.0
      cases (inr r) = e x (all_read_named (Below p) part x c.0.1 r) i.0
  no_sites (Clear leaf) h n c v e x i = i
  no_sites (Branch k a b) h n c v e x (inl i) = e x (read_named (Below p) k x c.0 i.1) i.0
  no_sites (Branch k a b) h n c v e x (inr (inl i)) = no_sites a h.1 n.0 c.1 v e x i
  no_sites (Branch k a b) h n c v e x (inr (inr i)) = no_sites b h.2 n.1 c.2 v e x i
  no_sites (Repeat a) h n c v e x i = rounds_no_sites a h n (λ w f. no_sites a h n c w f) i.0 v e x i.1
  no_sites (Exit u) h n c v e x i = i
  no_sites (Called b actuals at) h n c v e x i = absurd n
  no_sites (Guard u barrier b) h n c v e x i = absurd n
  no_sites (Delay k) h n c v e x i = absurd h
  no_sites (ReadClock to) h n c v e x i = absurd h
  no_sites Stop h n c v e x i = i

  -- a body that declares no library leaf clears none in its own list either
  module _ (kind : body.kind ≡ kinds.Procedure) where
    declares_none : (leaf : ℕ) → IsDeclared p body leaf → ⊥
    declares_none leaf d = declared (slice_get p.leaves leaf) d
      where
        var : (o : Option Var) → IsSomeAnd o (Declares body) → ⊥
        var None d = d
        var (Some v) d = let z : kinds.Elaboration ≡ kinds.Procedure = sym d.kind ∙ kind in absurd (cc)

        declared : (o : Option Leaf) → IsSomeAnd o (λ l. IsSomeAnd (slice_get p.vars l.var.0) (Declares body)) → ⊥
        declared None d = d
        declared (Some l) d = var (slice_get p.vars l.var.0) d

    member_code : (a : Code) → IsProperMember p body a → IsProperCode p body a
    member_code (Clear leaf) (inl h) = h
    member_code (Clear leaf) (inr h) = absurd (declares_none leaf h)
    member_code a h = h

    list_code : (a : Code) → IsProperList p body a → IsProperCode p body a
    list_code (Then a b) h = (member_code a h.0, list_code b h.1)
    list_code a h = member_code a h

-- declarations with initial values that are numbers read nothing
no_initial_sites : (p : Program) (n : ℕ) (vs : List Variable) (v : ℕ → Type 0) (x : ℕ) → sites all p (low_variables n vs) v x → ⊥
no_initial_sites p n [] v x i = i
no_initial_sites p n (w ∷ ws) v x (inl i) = i
no_initial_sites p n (w ∷ ws) v x (inr (c, inl (t, inl r))) = r
no_initial_sites p n (w ∷ ws) v x (inr (c, inl (t, inr r))) = r
no_initial_sites p n (w ∷ ws) v x (inr (c, inr (d, i))) = no_initial_sites p (n + 1) ws _ x i

no_initial_reads : (p : Program) (n : ℕ) (vs : List Variable) (x : ℕ) → (plain_flow p (low_variables n vs)).reads x → ⊥
no_initial_reads p n [] x i = i
no_initial_reads p n (w ∷ ws) x (inl i) = i
no_initial_reads p n (w ∷ ws) x (inr (d, (y, (k, inl (inl i))))) = i
no_initial_reads p n (w ∷ ws) x (inr (d, (y, (k, inl (inr i))))) = i
no_initial_reads p n (w ∷ ws) x (inr (d, (y, (k, inr (e, (z, (l, i))))))) = no_initial_reads p (n + 1) ws z i

-- where no leaf begins unassigned, none is cleared first
opened_none : (unset : ℕ → Bool) → ((v : ℕ) → unset v ≡ false) → (n first : ℕ) (a : Code) → opened unset n first a ≡ a
opened_none unset none zero first a = refl
opened_none unset none (suc n) first a =
    ap (λ b. cond b (Then (Clear first) (opened unset n (suc first) a)) (opened unset n (suc first) a)) (none first) ∙ opened_none unset none n (suc first) a

module _ (p : Program) (fine : IsWellFormed p) (proper : IsProper p) (q : IsQuiet p) where
  plain : HasNoCalls p
  plain = lowered_plain q.source p q.lowered

  body_at : (b : ℕ) (body : Body) → slice_get p.bodies b ≡ Some body → code_of_body p b ≡ code_of p.exprs p.stmts body.code
  body_at b body is = ap (code_at_body p) is

  first_is : code_of_body p 0 ≡ low_variables 0 q.source.spec.variables
  first_is = ap (code_at_body p) (ap (λ (xs : List Body). slice_get xs 0) q.lowered.bodies) ∙ q.lowered.spec_code

  second_is : code_of_body p 1 ≡ Skip
  second_is = ap (code_at_body p) (ap (λ (xs : List Body). slice_get xs 1) q.lowered.bodies) ∙ q.lowered.body_code

  globals : (b : ℕ) (c : Contract) → IsGlobalOf p b c → IsWithinGlobal p b c
  globals b c is =
      let one = one_global q.source p q.lowered b is.0 c is.1 is.2 in
      subst (λ n. IsWithinGlobal p n c) (sym one.0) (subst (IsWithinGlobal p 2) (sym one.1) within)
    where
      read : (v : ℕ) → v < length p.leaves → (equation p 2).reads v → IsListed p is_input (contract q.source).globals v
      read v l r =
          let t = tables q.source p q.lowered v l in
          let var = low_var q.source.spec.«package» v t.var in
          read_listed p q.row (procedure q.source q.lowered.third) v v var t.item_is t.var_is v (low_leaf q.source.spec.«package» v t.leaf) t.leaf_is refl (contract q.source) q.none
          (found_leaf (has q.row.reads) 1 v v (omega arith) (omega arith) ((q.is_row.reads v).1 r))

      written : (v : ℕ) → v < length p.leaves → (equation p 2).writes v → IsListed p is_output (contract q.source).globals v
      written v l r =
          let t = tables q.source p q.lowered v l in
          let var = low_var q.source.spec.«package» v t.var in
          written_listed p q.row (procedure q.source q.lowered.third) v v var t.item_is t.var_is v (low_leaf q.source.spec.«package» v t.leaf) t.leaf_is refl (contract q.source) q.none
          (found_leaf (has q.row.writes) 1 v v (omega arith) (omega arith) ((q.is_row.writes v).1 r))

      within : IsWithinGlobal p 2 (contract q.source)
      within = record {
        reads = λ v out r. read v (library_below p v out.library) r;
        writes = λ v out r. written v (library_below p v out.library) r;
      }

  own : (b : ℕ) (body : Body) → slice_get p.bodies b ≡ Some body → (x : ℕ) → sites all p (code_of_body p b) (λ v. IsTrue (starts_unset p b body.formals v)) x → ⊥
  own b body is x i = at b (sym (ap (λ (xs : List Body). slice_get xs b) q.lowered.bodies) ∙ is) refl
    where
      unset : (v : ℕ) → IsTrue (starts_unset p b body.formals v) → ⊥
      unset v t = let z : true ≡ false = sym t ∙ never_unset q.source p q.lowered b body.formals v in cc

      procedure_is : (y : Body) → y ≡ body → y.kind ≡ kinds.Procedure → body.kind ≡ kinds.Procedure
      procedure_is y e k = ap (λ (z : Body). z.kind) (sym e) ∙ k

      clears : (leaf : ℕ) → MayClear (home_of p leaf) → ⊥
      clears leaf m = clears_none (home_of p leaf) (packaged q.source p q.lowered leaf) m

      at : (n : ℕ) → slice_get (elaboration q.source.spec.«package» q.source.spec.«package» q.lowered.first true ∷ elaboration q.source.spec.«package» q.source.body.«package» q.lowered.second false ∷ procedure q.source q.lowered.third ∷ []) n ≡ Some body → n ≡ b → ⊥
      at zero e f = no_initial_sites p 0 q.source.spec.variables _ x (subst (λ a. sites all p a (λ v. IsTrue (starts_unset p b body.formals v)) x) first_is (subst (λ n. sites all p (code_of_body p n) (λ v. IsTrue (starts_unset p b body.formals v)) x) (sym f) i))
      at (suc zero) e f = let j : sites all p Skip (λ v. IsTrue (starts_unset p b body.formals v)) x = subst (λ a. sites all p a (λ v. IsTrue (starts_unset p b body.formals v)) x) second_is (subst (λ n. sites all p (code_of_body p n) (λ v. IsTrue (starts_unset p b body.formals v)) x) (sym f) i) in j
      at (suc (suc zero)) e f =
          let k = procedure_is (procedure q.source q.lowered.third) (some_body _ _ e) refl in
          let code = list_code p body clears k (code_of_body p b) (subst (IsProperList p body) (sym (body_at b body is)) (proper.code b body is)) in
          no_sites p body clears (code_of_body p b) code (subst IsWithoutCalls (sym (body_at b body is)) (plain b body is)) (sound_body p fine proper plain b).below (λ v. IsTrue (starts_unset p b body.formals v)) (λ v l t. unset v t) x i
      at (suc (suc (suc n))) e f = let z : Option Body = None in let y : z ≡ Some body = e in absurd (cc)

  -- no leaf is cleared first, so the row of a body reads what its code reads
  code_reads : (b x : ℕ) → (equation p b).reads x → (plain_flow p (code_of_body p b)).reads x
  code_reads b x r = subst (λ a. (plain_flow p a).reads x) (body (slice_get p.bodies b)) r.1
    where
      body : (o : Option Body) → whole_at p b o ≡ code_at_body p o
      body None = refl
      body (Some y) = opened_none (starts_unset p b y.formals) (never_unset q.source p q.lowered b y.formals) (length p.leaves) 0 (code_of p.exprs p.stmts y.code)

  elaborations : AreElaborated p (roots_of p) all
  elaborations = subst (λ (o : List BodyNo). AreElaborated p (map (λ (b : BodyNo). b.0) o ++ map (λ (b : BodyNo). b.0) (option_to_list p.main)) all) (sym q.lowered.order)
      (subst (λ (m : Option BodyNo). AreElaborated p (0 ∷ 1 ∷ map (λ (b : BodyNo). b.0) (option_to_list m)) all) (sym q.lowered.main) (
        λ x r o. no_initial_reads p 0 q.source.spec.variables x (subst (λ a. (plain_flow p a).reads x) first_is (code_reads 0 x r)),
        (λ x r o. let j : (plain_flow p Skip).reads x = subst (λ a. (plain_flow p a).reads x) second_is (code_reads 1 x r) in j, tt),
      ))

  pub is_silent : IsSilent p
  is_silent = record { globals = globals; own = record { body = own }; elaborations = elaborations }

-- where the report is silent, the runs of the program are clean
pub silent_runs : (bytes : List ℕ) (r : Report) (p : Program) → HasReport bytes r → verdict r ≡ 0 → IsProgramOf bytes p → HasCleanRuns p
silent_runs bytes r p h v k = clean_runs p k.fine k.proper (lowered_plain k.source p k.lowered) (is_silent p k.fine k.proper (quiet bytes r p h v k))

-- sources whose report has no error have clean runs
pub clean_sources : (sources : List (List ℕ)) (r : Report) → IsReport sources r → verdict r ≡ 0 → HaveCleanRuns sources
unfolding IsReport IsProgram
clean_sources [] r h v = absurd h
clean_sources (bytes ∷ next ∷ more) r h v = absurd h
clean_sources (bytes ∷ []) r h v = at_reading h.reading h.is_reading h.is_report
  where
    at_reading : (o : Option Program) → IsReading bytes o → IsReportOf o r → HaveCleanRuns (bytes ∷ [])
    at_reading None reading report =
        let parts = silent_by r.refused (has_errors r.messages) v in
        let z : true ≡ false = sym (ap (λ (x : Report). x.refused) report) ∙ parts.0 in
        absurd (cc)
    at_reading (Some p) reading report = record {
      program = p;
      is_program = reading;
      clean = λ q k. silent_runs bytes r q h v k;
    }
