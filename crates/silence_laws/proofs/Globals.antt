-- Where G01 to G03 are silent, what a body reads and writes by its row is listed.
use Rattle.std.proofs.Common.{◌≡◌, ◌∙◌, ℕ, ◌+◌, ◌<◌, ◌≤◌, ◌⊎◌, inl, inr, Bool, true, false, refl, sym, ap, subst, List, [], ◌∷◌, Option, Some, None}
use Rattle.std.specs.Prelude.{IsSomeAnd, IsTrue, slice_get}
use Rattle.std.specs.List.{Contains}
use Rattle.std.proofs.lemmas.Bool.{cases_eq}
use Rattle.core_form.specs.declared.contract.Contract.{Contract}
use Rattle.core_form.specs.declared.contract.GlobalItem.{GlobalItem}
use Rattle.core_form.specs.declared.contract.Mode.{Mode}
use Rattle.core_form.specs.declared.contract.Mode.TheVariants as modes
use Rattle.core_form.specs.declared.program.Body.{Body}
use Rattle.core_form.specs.declared.program.Home.{Home}
use Rattle.core_form.specs.declared.program.Item.{Item}
use Rattle.core_form.specs.declared.program.Leaf.{Leaf}
use Rattle.core_form.specs.declared.program.Program.{Program}
use Rattle.core_form.specs.declared.program.Sharing.{Sharing}
use Rattle.core_form.specs.declared.program.Var.{Var}
use Rattle.core_form.specs.Fine.{home_of}
use Rattle.core_form.specs.Leaves.{IsLeafOfVar}
use Rattle.core_form.specs.Proper.{IsProper}
use Rattle.spark_messages.specs.declared.message_texts.UsedMode.{UsedMode}
use Rattle.spark_messages.specs.declared.message_texts.UsedMode.TheVariants as used
use Rattle.spark_messages.specs.declared.messages.Code.TheVariants as code
use Rattle.spark_messages.specs.declared.messages.Message.{Message}
use Rattle.spark_messages.specs.MessageTexts.{unlisted_text, written_input_text, read_output_text}
use Rattle.run_model.specs.Machine.{is_library_home}
use Rattle.run_laws.specs.Clean as clean
use Rattle.run_laws.specs.Clean.{IsGlobalOf, IsOutside, is_input, is_output}
use Rattle.run_laws.specs.Laws.{IsWithinGlobal}
use Rattle.state_map.specs.Views.{IsOwner, is_inside, owner, seen_by_body, shown, shown_by}
use Rattle.used_modes.specs.Added.{SomeOf, error_at}
use Rattle.used_modes.specs.UsedModes.{BodyFacts, HasMode, IsLeft, IsLibrary, IsLibraryHome, SomeLeaf}
use Rattle.used_modes.proofs.Adding.{contained_some, some_contained}
use Rattle.initializes_check.specs.InitializesCheck.{IsOfNoObject}
use Rattle.global_check.specs.declared.listing.Listing.{Listing}
use Rattle.global_check.specs.GlobalCheck.{IsGlobalMessage, IsListed, IsListedWrong, IsUsedAs, IsWrongGlobal, IsWrongMode, checked_contract, checked_of, checked_view, passes}
use Rattle.silence_laws.specs.Silence.{AreFactsOf, IsError, IsPlain}

-- either it holds or not, as far as that is to lead to nothing
either : {A : Type 0} → ((A ⊎ (A → ⊥)) → ⊥) → ⊥
either k = k (inr (λ a. k (inl a)))

-- what has no answer is none
truth : (b : Bool) → (IsTrue b ⊎ (IsTrue b → ⊥))
truth true = inl refl
truth false = inr (λ h. let z : false ≡ true = h in absurd (cc))

pub library_there : (o : Option Home) → IsTrue (is_library_home o) → IsSomeAnd o IsLibraryHome
library_there None h = let z : false ≡ true = h in absurd (cc)
library_there (Some (Home.Package k)) h = tt
library_there (Some (Home.Local b)) h = let z : false ≡ true = h in absurd (cc)
library_there (Some (Home.Formal b)) h = let z : false ≡ true = h in absurd (cc)
library_there (Some (Home.Outcome b)) h = let z : false ≡ true = h in absurd (cc)
library_there (Some (Home.Spare b)) h = let z : false ≡ true = h in absurd (cc)
library_there (Some Home.Clock) h = tt

whole_owner : (v : _) (s : Sharing) → IsOfNoObject s → Item.Whole v ≡ owner v s
whole_owner v Sharing.Plain h = refl
whole_owner v Sharing.Atomic h = refl
whole_owner v (Sharing.Component o) h = absurd h
whole_owner v Sharing.ClockTime h = absurd h

-- Whether a leaf is listed can be told

module _ (p : Program) (x : ℕ) where
  leaf_told : (o : Option Leaf) (v : ℕ) → IsSomeAnd o (λ l. l.var.0 ≡ v) ⊎ (IsSomeAnd o (λ l. l.var.0 ≡ v) → ⊥)
  leaf_told None v = inr (λ h. h)
  leaf_told (Some l) v = cases_eq l.var.0 v

  item_told : (o : Option Item) → clean.IsLeafOf p o x ⊎ (clean.IsLeafOf p o x → ⊥)
  item_told None = inr (λ h. h)
  item_told (Some (Item.Whole v)) = leaf_told (slice_get p.leaves x) v.0
  item_told (Some (Item.State s)) = inr (λ h. h)
  item_told (Some (Item.Guard o)) = inr (λ h. h)

  listed_told : (mode : Mode → Bool) (gs : List GlobalItem) → clean.IsListed p mode gs x ⊎ (clean.IsListed p mode gs x → ⊥)
  listed_told mode [] = inr (λ h. h)
  listed_told mode (g ∷ gs) = cases (truth (mode g.mode)) (item_told (slice_get p.items g.item.0)) (listed_told mode gs)
    where
      cases : (IsTrue (mode g.mode) ⊎ (IsTrue (mode g.mode) → ⊥)) → (clean.IsLeafOf p (slice_get p.items g.item.0) x ⊎ (clean.IsLeafOf p (slice_get p.items g.item.0) x → ⊥))
          → (clean.IsListed p mode gs x ⊎ (clean.IsListed p mode gs x → ⊥)) → clean.IsListed p mode (g ∷ gs) x ⊎ (clean.IsListed p mode (g ∷ gs) x → ⊥)
      cases a b (inl c) = inl (inr c)
      cases (inl a) (inl b) (inr c) = inl (inl (a, b))
      cases (inl a) (inr b) (inr c) = inr (λ h. elim h [ inl k ↦ b k.1 | inr k ↦ c k ])
      cases (inr a) b (inr c) = inr (λ h. elim h [ inl k ↦ a k.0 | inr k ↦ c k ])

  listed_some : (mode : Mode → Bool) (gs : List GlobalItem) → SomeOf (λ g. IsTrue (mode g.mode) × clean.IsLeafOf p (slice_get p.items g.item.0) x) gs → clean.IsListed p mode gs x
  listed_some mode [] h = h
  listed_some mode (g ∷ gs) (inl h) = inl h
  listed_some mode (g ∷ gs) (inr h) = inr (listed_some mode gs h)

-- One leaf of one body

module _ (p : Program) (row : BodyFacts) (body : Body) (c : Contract) (silent : (m : Message) → IsError m → IsWrongGlobal p row body c m → ⊥)
    (x : ℕ) (l : Leaf) (has_leaf : slice_get p.leaves x ≡ Some l) (var : Var) (has_var : slice_get p.vars l.var.0 ≡ Some var)
    (no_state : var.state ≡ None) (no_object : IsOfNoObject var.sharing) (library : IsLibrary p x) (of_var : IsLeafOfVar p l.var.0 x) where
  abbrev item : Item
  item = Item.Whole l.var

  name_is : IsSomeAnd (slice_get p.vars l.var.0) (λ v. var.name ≡ v.name)
  name_is = subst (λ o. IsSomeAnd o (λ v. var.name ≡ v.name)) (sym has_var) refl

  owner_is : IsOwner p x item
  owner_is = subst (λ o. IsSomeAnd o (λ k. IsSomeAnd (slice_get p.vars k.var.0) (λ v. item ≡ owner k.var v.sharing))) (sym has_leaf)
      (subst (λ o. IsSomeAnd o (λ v. item ≡ owner l.var v.sharing)) (sym has_var) (whole_owner l.var var.sharing no_object))

  view_is : item ≡ seen_by_body p body.object (checked_view body) item
  view_is = subst (λ o. item ≡ shown_by (checked_view body) item o) (sym has_var)
      (subst (λ s. item ≡ shown item s (is_inside (checked_view body) var.home)) (sym no_state) refl)

  -- what uses the leaf uses the item
  used_as : row.reads x ⊎ row.writes x → IsUsedAs p row body x item
  used_as h = record { library = library; used = h; view = (item, (owner_is, view_is)); other = refl }

  -- a mode of use, as far as that is to lead to nothing
  some_mode : ((mode : UsedMode) → HasMode p row item mode → ⊥) → ⊥
  some_mode k = either (λ (r : SomeLeaf p item row.reads ⊎ (SomeLeaf p item row.reads → ⊥)). either (λ (w : SomeLeaf p item row.writes ⊎ (SomeLeaf p item row.writes → ⊥)).
      either (λ (s : IsLeft p row item ⊎ (IsLeft p row item → ⊥)). cases r w s)))
    where
      cases : (SomeLeaf p item row.reads ⊎ (SomeLeaf p item row.reads → ⊥)) → (SomeLeaf p item row.writes ⊎ (SomeLeaf p item row.writes → ⊥))
          → (IsLeft p row item ⊎ (IsLeft p row item → ⊥)) → ⊥
      cases (inl r) (inl w) s = k used.InOut (w, inl r)
      cases (inl r) (inr w) s = k used.Input (r, w)
      cases (inr r) (inl w) (inl s) = k used.InOut (w, inr s)
      cases (inr r) (inl w) (inr s) = k used.Output (w, (r, s))
      cases (inr r) (inr w) s = k used.Nothing (r, w)

  -- G01 finds it listed
  is_listed : row.reads x ⊎ row.writes x → (IsListed p Listing.Used c.globals item → ⊥) → ⊥
  is_listed h none = some_mode (λ mode has. silent (error_at body.place code.G01 (unlisted_text var.name mode body.name)) refl
      (inl (item, ((x, (used_as h, inl none)), record { mode = mode; has_mode = has; name = var.name; is_name = name_is; message = refl }))))

  leaf_of : (g : GlobalItem) → slice_get p.items g.item.0 ≡ Some item → clean.IsLeafOf p (slice_get p.items g.item.0) x
  leaf_of g is = subst (λ o. clean.IsLeafOf p o x) (sym is) (subst (λ o. IsSomeAnd o (λ k. k.var.0 ≡ l.var.0)) (sym has_leaf) refl)

  wrong : (g : GlobalItem) → Contains c.globals g → (m : Message) → IsError m → IsListedWrong p row body g m → ⊥
  wrong g there m error w = silent m error (inr (contained_some (λ h. IsListedWrong p row body h m) c.globals g there w))

  -- what is read is an input
  reads_listed : row.reads x → (clean.IsListed p is_input c.globals x → ⊥) → ⊥
  reads_listed r none = is_listed (inl r) (λ h. let s = some_contained (λ g. IsTrue (passes Listing.Used g.mode) × (slice_get p.items g.item.0 ≡ Some item)) c.globals h in
      each s.0 s.1.0 s.0.mode refl s.1.1.0 s.1.1.1)
    where
      listed : (g : GlobalItem) → Contains c.globals g → IsTrue (is_input g.mode) → slice_get p.items g.item.0 ≡ Some item → ⊥
      listed g there t is = none (listed_some p x is_input c.globals (contained_some (λ h. IsTrue (is_input h.mode) × clean.IsLeafOf p (slice_get p.items h.item.0) x) c.globals g there (t, leaf_of g is)))

      each : (g : GlobalItem) → Contains c.globals g → (mode : Mode) → g.mode ≡ mode → IsTrue (passes Listing.Used g.mode) → slice_get p.items g.item.0 ≡ Some item → ⊥
      each g there modes.Input e t is = listed g there (ap is_input e) is
      each g there modes.InOut e t is = listed g there (ap is_input e) is
      each g there modes.ProofIn e t is = let z : false ≡ true = sym (ap (passes Listing.Used) e) ∙ t in absurd (cc)
      each g there modes.Output e t is = wrong g there (error_at g.place code.G03 (read_output_text var.name body.name)) refl (record {
        item = item;
        is_item = is;
        name = var.name;
        is_name = name_is;
        wrong = subst (λ d. IsWrongMode p row body g item var.name d (error_at g.place code.G03 (read_output_text var.name body.name))) (sym e) (inl (x, (of_var, r)), refl);
      })

  -- and what is written an output
  writes_listed : row.writes x → (clean.IsListed p is_output c.globals x → ⊥) → ⊥
  writes_listed r none = is_listed (inr r) (λ h. let s = some_contained (λ g. IsTrue (passes Listing.Used g.mode) × (slice_get p.items g.item.0 ≡ Some item)) c.globals h in
      each s.0 s.1.0 s.0.mode refl s.1.1.0 s.1.1.1)
    where
      listed : (g : GlobalItem) → Contains c.globals g → IsTrue (is_output g.mode) → slice_get p.items g.item.0 ≡ Some item → ⊥
      listed g there t is = none (listed_some p x is_output c.globals (contained_some (λ h. IsTrue (is_output h.mode) × clean.IsLeafOf p (slice_get p.items h.item.0) x) c.globals g there (t, leaf_of g is)))

      each : (g : GlobalItem) → Contains c.globals g → (mode : Mode) → g.mode ≡ mode → IsTrue (passes Listing.Used g.mode) → slice_get p.items g.item.0 ≡ Some item → ⊥
      each g there modes.Output e t is = listed g there (ap is_output e) is
      each g there modes.InOut e t is = listed g there (ap is_output e) is
      each g there modes.ProofIn e t is = let z : false ≡ true = sym (ap (passes Listing.Used) e) ∙ t in absurd (cc)
      each g there modes.Input e t is = wrong g there (error_at g.place code.G02 (written_input_text var.name body.name)) refl (record {
        item = item;
        is_item = is;
        name = var.name;
        is_name = name_is;
        wrong = subst (λ d. IsWrongMode p row body g item var.name d (error_at g.place code.G02 (written_input_text var.name body.name))) (sym e) (inl ((x, (of_var, r)), refl));
      })

-- Every leaf of every body

-- the leaf has a variable
abbrev pub Found : Program → ℕ → Type 0
Found p x = (l : Leaf) × ((slice_get p.leaves x ≡ Some l) × ((var : Var) × (slice_get p.vars l.var.0 ≡ Some var)))

-- so has each leaf of the library
pub var_there : (p : Program) (x : ℕ) → IsLibrary p x → Found p x
var_there p x h = leaf (slice_get p.leaves x) refl h
  where
    var : (l : Leaf) → slice_get p.leaves x ≡ Some l → (o : Option Var) → slice_get p.vars l.var.0 ≡ o → IsSomeAnd (elim o [ None ↦ None | Some v ↦ Some v.home ]) IsLibraryHome
        → Found p x
    var l e None i g = absurd g
    var l e (Some v) i g = (l, (e, (v, i)))

    leaf : (o : Option Leaf) → slice_get p.leaves x ≡ o
        → IsSomeAnd (elim o [ None ↦ None | Some l ↦ (elim (slice_get p.vars l.var.0) [ None ↦ None | Some v ↦ Some v.home ]) ]) IsLibraryHome → Found p x
    leaf None e g = absurd g
    leaf (Some l) e g = var l e (slice_get p.vars l.var.0) refl g

module _ (p : Program) (proper : IsProper p) (simple : IsPlain p) (facts : ℕ → BodyFacts) (told : AreFactsOf p facts)
    (silent : (b : ℕ) (body : Body) → slice_get p.bodies b ≡ Some body → (m : Message) → IsError m → IsGlobalMessage p (facts b) b body m → ⊥) where
  within : (b : ℕ) (body : Body) → slice_get p.bodies b ≡ Some body → (c : Contract) → body.outer ≡ Some c → IsWithinGlobal p b c
  within b body is c outer = record {
    reads = λ x out r. elim (listed_told p x is_input c.globals) [
      | inl h ↦ h
      | inr n ↦ (let v = there x out in absurd (reads_listed p (facts b) body c quiet x v.0 v.1.0 v.1.1.0 v.1.1.1 (state x v) (object x v) (library x out) (of_var x v) ((told.reads b x).1 r) n))
    ];
    writes = λ x out r. elim (listed_told p x is_output c.globals) [
      | inl h ↦ h
      | inr n ↦ (let v = there x out in absurd (writes_listed p (facts b) body c quiet x v.0 v.1.0 v.1.1.0 v.1.1.1 (state x v) (object x v) (library x out) (of_var x v) ((told.writes b x).1 r) n))
    ];
  }
    where
      checked : checked_contract body ≡ Some c
      checked = ap (λ i. checked_of i body.outer) (simple.contracts b body is) ∙ outer

      quiet : (m : Message) → IsError m → IsWrongGlobal p (facts b) body c m → ⊥
      quiet m e w = silent b body is m e (inl (subst (λ o. IsSomeAnd o (λ k. IsWrongGlobal p (facts b) body k m)) (sym checked) w))

      library : (x : ℕ) → IsOutside p b x → IsLibrary p x
      library x out = library_there (home_of p x) out.library

      there : (x : ℕ) → IsOutside p b x → Found p x
      there x out = var_there p x (library x out)

      state : (x : ℕ) (v : Found p x) → v.1.1.0.state ≡ None
      state x v = (simple.vars v.0.var.0 v.1.1.0 v.1.1.1).0

      object : (x : ℕ) (v : Found p x) → IsOfNoObject v.1.1.0.sharing
      object x v = (simple.vars v.0.var.0 v.1.1.0 v.1.1.1).1

      of_var : (x : ℕ) (v : Found p x) → IsLeafOfVar p v.0.var.0 x
      of_var x v = subst (λ o. IsSomeAnd o (λ var. (var.«from».0 ≤ x) × (x < var.«from».0 + var.count))) (sym v.1.1.1)
          ((proper.leaves x v.0.var.0 v.0 v.1.1.0 v.1.0 v.1.1.1).0 refl)

  pub globals_within : (b : ℕ) (c : Contract) → IsGlobalOf p b c → IsWithinGlobal p b c
  globals_within b c h = elim h.2 [
    | inl outer ↦ within b h.0 h.1 c outer
    | inr inner ↦ (let none : Option Contract = None in let z : none ≡ Some c = sym (simple.contracts b h.0 h.1) ∙ inner in absurd (cc))
  ]
