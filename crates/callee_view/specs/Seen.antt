-- What a body knows of its callees: the facts of a contract, or the callee's row.
use Rattle.std.specs.Prelude.{◌≡◌, ℕ, ◌⊎◌, Bool, true, false, cond, ◌&&◌, not, nat_eq, List, [], ◌∷◌, Option, Some, None, IfSome, IsSomeAnd, slice_get, length}
use Rattle.spark_base.specs.declared.numbers.BodyNo.{BodyNo}
use Rattle.spark_base.specs.declared.numbers.ItemNo.{ItemNo}
use Rattle.spark_base.specs.declared.numbers.PackageNo.{PackageNo}
use Rattle.core_form.specs.declared.contract.Contract.{Contract}
use Rattle.core_form.specs.declared.contract.DependsPair.{DependsPair}
use Rattle.core_form.specs.declared.contract.GlobalItem.{GlobalItem}
use Rattle.core_form.specs.declared.contract.Mode.{Mode}
use Rattle.core_form.specs.declared.program.Body.{Body}
use Rattle.core_form.specs.declared.program.BodyKind.{BodyKind}
use Rattle.core_form.specs.declared.program.Formal.{Formal}
use Rattle.core_form.specs.declared.program.Home.{Home}
use Rattle.core_form.specs.declared.program.ParamMode.{ParamMode}
use Rattle.core_form.specs.declared.program.Program.{Program}
use Rattle.core_form.specs.Fine.{home_of}
use Rattle.core_form.specs.Leaves.{IsLeafOf, IsLeafOfVar}
use Rattle.flow_facts.specs.Flow.{Summary}
use Rattle.summary_rows.specs.declared.layout.Layout.{Layout}
use Rattle.summary_rows.specs.Facts.{Fact, Part, Returning, Reading, Writing, Keeping, Depending}
use Rattle.summary_rows.specs.Layout.{IsAt, outer_of}

-- Contracts

-- modes by which the entry value may be read, by which it may be written, and by which it is lost
abbrev pub is_read : Mode → Bool
is_read Mode.Input = true
is_read Mode.Output = false
is_read Mode.InOut = true
is_read Mode.ProofIn = false

abbrev pub is_written : Mode → Bool
is_written Mode.Input = false
is_written Mode.Output = true
is_written Mode.InOut = true
is_written Mode.ProofIn = false

abbrev pub is_lost : Mode → Bool
is_lost Mode.Input = false
is_lost Mode.Output = true
is_lost Mode.InOut = false
is_lost Mode.ProofIn = false

-- a Proof_In item gives no fact, but the contract speaks of it
abbrev pub is_any : Mode → Bool
is_any mode = true

abbrev pub is_moved_in : ParamMode → Bool
is_moved_in ParamMode.In = true
is_moved_in ParamMode.Out = false
is_moved_in ParamMode.InOut = true

abbrev pub is_moved_back : ParamMode → Bool
is_moved_back ParamMode.In = false
is_moved_back ParamMode.Out = true
is_moved_back ParamMode.InOut = true

abbrev pub is_out : ParamMode → Bool
is_out ParamMode.In = false
is_out ParamMode.Out = true
is_out ParamMode.InOut = false

abbrev pub is_formal : ParamMode → Bool
is_formal mode = true

-- the leaf is one of an item, by its number
abbrev pub IsLeafOfItem : Program → ItemNo → ℕ → Type 0
IsLeafOfItem p i v = IsSomeAnd (slice_get p.items i.0) (λ item. IsLeafOf p item v)

-- the leaf is one of some item of a Global whose mode passes
abbrev pub IsGlobalLeaf : Program → (Mode → Bool) → List GlobalItem → ℕ → Type 0
IsGlobalLeaf p passes [] v = ⊥
IsGlobalLeaf p passes (g ∷ gs) v = ((passes g.mode ≡ true) × IsLeafOfItem p g.item v) ⊎ IsGlobalLeaf p passes gs v

-- the leaf is one of some formal whose mode passes
abbrev pub IsFormalLeaf : Program → (ParamMode → Bool) → List Formal → ℕ → Type 0
IsFormalLeaf p passes [] v = ⊥
IsFormalLeaf p passes (f ∷ fs) v = ((passes f.mode ≡ true) × IsLeafOfVar p f.var.0 v) ⊎ IsFormalLeaf p passes fs v

abbrev pub IsOutcomeOf : ℕ → Home → Type 0
IsOutcomeOf b (Home.Package k) = ⊥
IsOutcomeOf b (Home.Local c) = ⊥
IsOutcomeOf b (Home.Formal c) = ⊥
IsOutcomeOf b (Home.Outcome c) = c.0 ≡ b
IsOutcomeOf b (Home.Spare c) = ⊥
IsOutcomeOf b Home.Clock = ⊥

-- the leaf is one of the body's result
abbrev pub IsResultLeaf : Program → ℕ → ℕ → Type 0
IsResultLeaf p b v = IsSomeAnd (home_of p v) (IsOutcomeOf b)

-- the leaf is one of the object to which the operation belongs, which is an implied formal
abbrev pub IsOwnLeaf : Program → Body → ℕ → Type 0
IsOwnLeaf p body v = IsSomeAnd body.object (λ o. IsSomeAnd (slice_get p.objects o.0) (λ object. IsLeafOfVar p object.var.0 v))

-- the leaf is one of an item of some pair
abbrev pub IsPairLeaf : Program → List DependsPair → ℕ → Type 0
IsPairLeaf p [] v = ⊥
IsPairLeaf p (pair ∷ pairs) v = (IsSomeAnd pair.output (λ i. IsLeafOfItem p i v) ⊎ IsSomeAnd pair.input (λ i. IsLeafOfItem p i v)) ⊎ IsPairLeaf p pairs v

-- some pair has a leaf of its input and one of its output
abbrev pub IsExpanded : Program → List DependsPair → ℕ → ℕ → Type 0
IsExpanded p [] v w = ⊥
IsExpanded p (pair ∷ pairs) v w = (IsSomeAnd pair.input (λ i. IsLeafOfItem p i v) × IsSomeAnd pair.output (λ i. IsLeafOfItem p i w)) ⊎ IsExpanded p pairs v w

module _ (p : Program) (b : ℕ) (body : Body) (c : Contract) where
  -- what is read: Input and In_Out items, formals of modes in and in out, the own object
  abbrev pub ContractReads : ℕ → Type 0
  ContractReads v = IsGlobalLeaf p is_read c.globals v ⊎ (IsFormalLeaf p is_moved_in body.formals v ⊎ IsOwnLeaf p body v)

  -- what is written: Output and In_Out items, formals of modes out and in out, the result; the own object but by a function
  abbrev pub ContractWrites : ℕ → Type 0
  ContractWrites v = IsGlobalLeaf p is_written c.globals v
      ⊎ (IsFormalLeaf p is_moved_back body.formals v ⊎ (IsResultLeaf p b v ⊎ (IsOwnLeaf p body v × (body.kind ≡ BodyKind.Function → ⊥))))

  -- what is lost: Output items, formals of mode out, the result
  abbrev pub ContractLoses : ℕ → Type 0
  ContractLoses v = IsGlobalLeaf p is_lost c.globals v ⊎ (IsFormalLeaf p is_out body.formals v ⊎ IsResultLeaf p b v)

  -- of what it speaks
  abbrev pub ContractLeaves : ℕ → Type 0
  ContractLeaves v = (IsGlobalLeaf p is_any c.globals v ⊎ IsSomeAnd c.depends (λ pairs. IsPairLeaf p pairs v))
      ⊎ (IsFormalLeaf p is_formal body.formals v ⊎ (IsResultLeaf p b v ⊎ IsOwnLeaf p body v))

  -- the pairs of its Depends; where there is none, all that is read decides all that is written
  abbrev pub ContractPairs : Option (List DependsPair) → ℕ → ℕ → Type 0
  ContractPairs None v w = ContractReads v × ContractWrites w
  ContractPairs (Some pairs) v w = IsExpanded p pairs v w

  -- the facts of a contract: the body returns, and what is not written depends on itself
  abbrev pub contract_told : Summary
  contract_told = record {
    leaves = ContractLeaves;
    returns = Unit {0};
    reads = ContractReads;
    writes = ContractWrites;
    keeps = λ v. ContractLeaves v × (ContractLoses v → ⊥);
    depends = λ v w. ContractPairs c.depends v w ⊎ ((v ≡ w) × (ContractLeaves v × (ContractWrites v → ⊥)));
  }

-- Rows

abbrev pub of_body : ℕ → Part → Fact
of_body b part = record { owner = b; part = part }

-- the row of a body, by the facts that are told
abbrev pub row_told : Layout → (Fact → Type 0) → ℕ → Summary
row_told l R b = record {
  leaves = λ v. (i : ℕ) × IsAt (outer_of l b) v i;
  returns = R (of_body b Returning);
  reads = λ v. R (of_body b (Reading v));
  writes = λ v. R (of_body b (Writing v));
  keeps = λ v. R (of_body b (Keeping v));
  depends = λ v w. R (of_body b (Depending v w));
}

-- What is seen

-- a package is this one
abbrev pub is_package : Option PackageNo → PackageNo → Bool
is_package None k = false
is_package (Some own) k = nat_eq own.0 k.0

-- the caller stands in the body of this package; the environment stands outside each
abbrev pub stands_in : Option Body → PackageNo → Bool
stands_in None k = false
stands_in (Some caller) k = is_package caller.«package» k && not caller.in_spec

-- whether a caller sees the refined contract of a body of this package
abbrev pub sees_inside : Option Body → Option PackageNo → Bool
sees_inside caller None = false
sees_inside caller (Some k) = stands_in caller k

-- the contract that a caller sees: the refined one from the body of its package, where it is written; else the outer one
abbrev pub contract_by : Bool → Option Contract → Option Contract → Option Contract
contract_by false inner outer = outer
contract_by true None outer = outer
contract_by true (Some inner) outer = Some inner

abbrev pub contract_seen : Option Body → Body → Option Contract
contract_seen caller body = contract_by (sees_inside caller body.«package») body.inner body.outer

abbrev pub known_of : Program → ℕ → Body → Summary → Option Contract → Summary
known_of p b body row None = row
known_of p b body row (Some c) = contract_told p b body c

abbrev pub seen_by : Program → Option Body → ℕ → Summary → Option Body → Summary
seen_by p caller b row None = row
seen_by p caller b row (Some body) = known_of p b body row (contract_seen caller body)

-- what a caller knows of a body, where these facts of rows are told: the environment is no body, and sees each from outside
unfoldable pub seen : Program → Layout → (Fact → Type 0) → Option Body → BodyNo → Summary
seen p l R caller b = seen_by p caller b.0 (row_told l R b.0) (slice_get p.bodies b.0)
