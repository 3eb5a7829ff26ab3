-- The sets of leaves that a contract gives, by the use that is asked for.
use Rattle.std.specs.Prelude.{◌≡◌, ℕ, ◌<◌, ◌⊎◌, Bool, List, Option, Some, None, IsSomeAnd, length}
use Rattle.spark_base.specs.declared.numbers.LeafNo.{LeafNo}
use Rattle.core_form.specs.declared.contract.Contract.{Contract}
use Rattle.core_form.specs.declared.contract.DependsPair.{DependsPair}
use Rattle.core_form.specs.declared.contract.Mode.{Mode}
use Rattle.core_form.specs.declared.program.Body.{Body}
use Rattle.core_form.specs.declared.program.BodyKind.{BodyKind}
use Rattle.core_form.specs.declared.program.ParamMode.{ParamMode}
use Rattle.core_form.specs.declared.program.Program.{Program}
use Rattle.flow_bits.specs.Sets.{Has}
use Rattle.callee_view.specs.Seen.{ContractLeaves, ContractLoses, ContractReads, ContractWrites, IsExpanded, IsOwnLeaf, IsPairLeaf, IsResultLeaf, is_any, is_formal, is_lost, is_moved_back, is_moved_in, is_out, is_read, is_written}
use Rattle.callee_view.specs.Shown.{leaf_at}
use Rattle.contract_facts.specs.declared.uses.Use.{Use}

-- modes of items and of formals that pass
abbrev pub mode_test : Use → Mode → Bool
mode_test Use.Reads mode = is_read mode
mode_test Use.Writes mode = is_written mode
mode_test Use.Loses mode = is_lost mode
mode_test Use.Names mode = is_any mode

abbrev pub formal_test : Use → ParamMode → Bool
formal_test Use.Reads mode = is_moved_in mode
formal_test Use.Writes mode = is_moved_back mode
formal_test Use.Loses mode = is_out mode
formal_test Use.Names mode = is_formal mode

-- the leaves of a contract of a body that it reads, writes or loses, or of which it speaks
abbrev pub UsedBy : Program → ℕ → Body → Contract → Use → ℕ → Type 0
UsedBy p b body c Use.Reads v = ContractReads p b body c v
UsedBy p b body c Use.Writes v = ContractWrites p b body c v
UsedBy p b body c Use.Loses v = ContractLoses p b body c v
UsedBy p b body c Use.Names v = ContractLeaves p b body c v

-- those that are no leaves of items of its Global, and none of formals
abbrev pub UsedBeside : Program → ℕ → Body → Contract → Use → ℕ → Type 0
UsedBeside p b body c Use.Reads v = IsOwnLeaf p body v
UsedBeside p b body c Use.Writes v = IsResultLeaf p b v ⊎ (IsOwnLeaf p body v × (body.kind ≡ BodyKind.Function → ⊥))
UsedBeside p b body c Use.Loses v = IsResultLeaf p b v
UsedBeside p b body c Use.Names v = (IsResultLeaf p b v ⊎ IsOwnLeaf p body v) ⊎ IsSomeAnd c.depends (λ pairs. IsPairLeaf p pairs v)

-- the places of leaves that depend by a contract, where these are the places of what is read and written
abbrev pub PairsBy : Program → List LeafNo → List Bool → List Bool → Option (List DependsPair) → ℕ → ℕ → Type 0
PairsBy p leaves read written None i j = Has read i × Has written j
PairsBy p leaves read written (Some pairs) i j = ((i < length leaves) × (j < length leaves)) × IsExpanded p pairs (leaf_at leaves i) (leaf_at leaves j)
