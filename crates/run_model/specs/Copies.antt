-- Copying the actuals of a call in, and back where it returns: the moves of its flow, in their order.
use Rattle.std.specs.Prelude.{ℕ, zero, suc, ◌+◌, ◌++◌, Bool, true, false, cond, nat_eq, List, [], ◌∷◌, map, Option, Some, None, length, slice_get, slice_set, slice_index_or, ℤ}
use Rattle.core_form.specs.Code.{Exprs, Nothing, And, Spot, At, Spots, NoSpot, AndSpot, Actuals, NoActual, AndActual}
use Rattle.core_form.specs.declared.program.Body.{Body}
use Rattle.core_form.specs.declared.program.Home.{Home}
use Rattle.core_form.specs.declared.program.ParamMode.{ParamMode}
use Rattle.core_form.specs.declared.program.Program.{Program}
use Rattle.core_form.specs.declared.program.Var.{Var}
use Rattle.run_model.specs.Values.{CellNo, then_some, value_of, first_of, number_in, written, cells_from, behind_value, reads_for_all}
use Rattle.run_model.specs.Machine.{Change, cells_seen, change_library, change_own, sized, unmarked}

-- What an actual stands for

abbrev pub leaves_from : ℕ → ℕ → List ℕ
leaves_from first zero = []
leaves_from first (suc n) = first ∷ leaves_from (first + 1) n

abbrev pub leaves_of_var : Program → ℕ → List ℕ
leaves_of_var p v = elim (slice_get p.vars v) [ None ↦ [] | Some x ↦ leaves_from x.«from».0 x.count ]

abbrev pub is_result : ℕ → Home → Bool
is_result b (Home.Package k) = false
is_result b (Home.Local c) = false
is_result b (Home.Formal c) = false
is_result b (Home.Outcome c) = nat_eq c.0 b
is_result b (Home.Spare c) = false
is_result b Home.Clock = false

-- the leaves of the result of a body
abbrev pub leaves_of_result : ℕ → List Var → List ℕ
leaves_of_result b [] = []
leaves_of_result b (v ∷ vs) = cond (is_result b v.home) (leaves_from v.«from».0 v.count) (leaves_of_result b vs)

-- the leaves of the callee, and whether they get values at the call and are copied back at the return
pub record Passing : Type 0 where
  pub leaves : List ℕ
  pub into : Bool
  pub back : Bool

abbrev pub by_mode : List ℕ → ParamMode → Passing
by_mode leaves ParamMode.In = record { leaves = leaves; into = true; back = false }
by_mode leaves ParamMode.Out = record { leaves = leaves; into = false; back = true }
by_mode leaves ParamMode.InOut = record { leaves = leaves; into = true; back = true }

-- the number after the last formal is that of the result
abbrev pub passing_of : Program → ℕ → Body → ℕ → Passing
passing_of p b body n = elim (slice_get body.formals n) [
  | None ↦ record { leaves = leaves_of_result b p.vars; into = false; back = true }
  | Some f ↦ by_mode (leaves_of_var p f.var.0) f.mode
]

abbrev pub passing : Program → ℕ → ℕ → Passing
passing p b n = elim (slice_get p.bodies b) [
  | None ↦ record { leaves = []; into = false; back = false }
  | Some body ↦ passing_of p b body n
]

-- Copying in

-- a leaf gets a value of as many cells
abbrev pub filled : List (List (Option ℤ)) → ℕ → List ℤ → Option (List (List (Option ℤ)))
filled own leaf values =
    cond (nat_eq (length values) (length (slice_index_or own leaf []))) (Some (slice_set own leaf (map (λ n. Some n) values))) None

-- each leaf gets its value
abbrev pub filled_all : (ℕ → List (Option ℤ)) → List (List (Option ℤ)) → List ℕ → Exprs → Option (List (List (Option ℤ)))
filled_all seen own [] Nothing = Some own
filled_all seen own [] (And e es) = None
filled_all seen own (leaf ∷ leaves) Nothing = None
filled_all seen own (leaf ∷ leaves) (And e es) =
    then_some (value_of seen e) (λ v. then_some (filled own leaf v) (λ new. filled_all seen new leaves es))

-- the cells of a callee's own leaves, with the values of the actuals, which the caller sees so; none where a check fails
abbrev pub copy_in : Program → (ℕ → List (Option ℤ)) → ℕ → List (List (Option ℤ)) → Actuals → Option (List (List (Option ℤ)))
copy_in p seen b own NoActual = Some own
copy_in p seen b own (AndActual n values spots at more) =
    cond (passing p b n).into
    (then_some (filled_all seen own (passing p b n).leaves values) (λ new. copy_in p seen b new more))
    (copy_in p seen b own more)

-- the cells that are read for it, up to the first check that fails
abbrev pub reads_in : Program → (ℕ → List (Option ℤ)) → ℕ → List (List (Option ℤ)) → Actuals → List CellNo
reads_in p seen b own NoActual = []
reads_in p seen b own (AndActual n values spots at more) =
    cond (passing p b n).into
    (reads_for_all seen values ++ behind_value (filled_all seen own (passing p b n).leaves values) (reads_in p seen b own more))
    (reads_in p seen b own more)

-- Copying back

-- what was copied so far: the cells of the library and of the caller's own leaves, and what was touched
pub record Back : Type 0 where
  pub library : List (List (Option ℤ))
  pub own : List (List (Option ℤ))
  pub reads : List CellNo
  pub bare : List CellNo
  pub writes : List CellNo

-- all was copied, or a check failed
pub data Copied : Type 0 where
  Whole : Back → Copied
  Broken : Back → Copied

abbrev pub then_copied : Copied → (Back → Copied) → Copied
then_copied (Whole b) on = on b
then_copied (Broken b) on = Broken b

-- the caller sees so
abbrev pub seen_back : Program → Back → ℕ → List (Option ℤ)
seen_back p b = cells_seen p b.library b.own

-- these reads and writes more
abbrev pub touched_more : Back → List CellNo → List CellNo → List CellNo → Back
touched_more b reads bare writes =
    record { library = b.library; own = b.own; reads = b.reads ++ reads; bare = b.bare ++ bare; writes = b.writes ++ writes }

abbrev pub changed_more : Program → Back → Change → Back
changed_more p b c = record {
  library = change_library p (Some c) b.library;
  own = change_own p (Some c) b.own;
  reads = b.reads;
  bare = b.bare;
  writes = b.writes;
}

-- these cells of a leaf of the callee are copied to a place that begins at this cell
abbrev pub copied_to : Program → Back → List CellNo → List CellNo → Spot → List ℤ → Option ℕ → Copied
copied_to p b reads bare (At leaf part whole count) values None = Broken (touched_more b reads bare [])
copied_to p b reads bare (At leaf part whole count) values (Some first) =
    Whole (changed_more p (touched_more b reads bare (cells_from leaf first count))
    (record { leaf = leaf; cells = written (seen_back p b leaf) first values }))

-- where a place begins that takes so many values
abbrev pub place_for : (ℕ → List (Option ℤ)) → Spot → List ℤ → Option ℕ
place_for seen spot values = then_some (sized spot values) (λ v. first_of seen spot)

abbrev pub parts_of : Spot → Exprs
parts_of (At leaf part whole count) = part

-- one leaf of the callee, whose own leaves have these cells
abbrev pub copy_leaf : Program → (ℕ → List (Option ℤ)) → ℕ → Spot → Back → Copied
copy_leaf p callee leaf spot b =
    copied_to p b
    (cells_from leaf 0 (length (callee leaf)) ++ reads_for_all (seen_back p b) (parts_of spot))
    (unmarked callee (cells_from leaf 0 (length (callee leaf))) ++ unmarked (seen_back p b) (reads_for_all (seen_back p b) (parts_of spot)))
    spot (map number_in (callee leaf)) (place_for (seen_back p b) spot (map number_in (callee leaf)))

-- leaf by leaf
abbrev pub copy_leaves : Program → (ℕ → List (Option ℤ)) → List ℕ → Spots → Back → Copied
copy_leaves p callee [] spots b = Whole b
copy_leaves p callee (leaf ∷ leaves) NoSpot b = Whole b
copy_leaves p callee (leaf ∷ leaves) (AndSpot spot spots) b =
    then_copied (copy_leaf p callee leaf spot b) (copy_leaves p callee leaves spots)

-- actual by actual
abbrev pub copy_back : Program → (ℕ → List (Option ℤ)) → ℕ → Actuals → Back → Copied
copy_back p callee body NoActual b = Whole b
copy_back p callee body (AndActual n values spots at more) b =
    then_copied
    (cond (passing p body n).back (copy_leaves p callee (passing p body n).leaves spots b) (Whole b))
    (copy_back p callee body more)
