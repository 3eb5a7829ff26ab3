use Rattle.std.proofs.Common.{◌≡◌, ℕ, ◌⊎◌, ◌↔◌, Bool, false, List, [], get_or, arith, sym, subst}
use Rattle.std.specs.Prelude.{IsTrue}
use Rattle.spark_base.specs.declared.numbers.BodyNo.{BodyNo}
use Rattle.call_lists.specs.Lists.{Names}
use Rattle.flow_relations.specs.Equation.{clock_among, code_of_body, names_of}
use Rattle.program_layout.specs.Made.{AreBodiesOf, KnowsByContract}
use Rattle.program_layout.proofs.Making.{made, owned}
use Rattle.program_layout.proofs.bodies.bodies_of.Goals as goal

pub returns : goal.returns
returns c =
    let p = c.args.program.now in
    let library = c.in_ok-library.library in
    let passed = c.add_passed.new.holders.items in
    let named = c.add_named.new.holders.items in
    let holders = c.add_contracts.new.holders.items in
    let sees = c.in_ok-sees.sees.items in
    let beside = c.in_ok-leaves_beside.field-0 in
    let by_names = subst (λ (flags : List Bool). (v b : ℕ) → Names (get_or named v []) b
    ↔ (Names (get_or passed v []) b ⊎ (IsTrue (get_or flags v false) × names_of (clock_among p.vars) (code_of_body p b) v)))
    c.as_slice.ensures c.in_ok-add_named.ensures.names in
    let by_contracts = subst (λ (flags : List Bool). (v b : ℕ) → Names (get_or holders v []) b
    ↔ (Names (get_or named v []) b ⊎ (IsTrue (get_or flags v false) × KnowsByContract p b v))) c.as_slice-2.ensures
    c.in_ok-add_contracts.ensures.names in
    let first = c.in_ok-add_passed.ensures.size in
    let second = c.in_ok-add_named.ensures.size in
    let third = c.in_ok-add_contracts.ensures.size in
    let all = made p holders sees library beside c.requires.few c.requires.fine.nodes.room.0 c.in_ok-sees.ensures.lists
    c.in_ok-sees.ensures.names
    (omega (arith, first, second, third)) c.in_ok-add_contracts.ensures.below
    (λ v b. owned (c.in_ok-holders.ensures.empty v b) (c.in_ok-add_passed.ensures.names v b) (by_names v b) (by_contracts v b)
    (c.in_ok-library.ensures.flags v))
    c.in_ok-library.ensures.size c.in_ok-library.ensures.flags c.in_ok-leaves_beside.ensures.size c.in_ok-leaves_beside.ensures.counts in
    subst (λ (flags : List Bool). AreBodiesOf p (record {
      holders = c.from_vec.result;
      library = flags;
      sees = c.from_vec-2.result;
      beside
          = beside;
    })) (sym c.library.view_is)
    (subst (λ (lists : List (List BodyNo)). AreBodiesOf p (record {
      holders = lists;
      library = library;
      sees = c.from_vec-2.result;
      beside
          = beside;
    })) (sym c.from_vec.ensures)
    (subst (λ (lists : List (List BodyNo)). AreBodiesOf p (record {
      holders = holders;
      library = library;
      sees = lists;
      beside =
          beside;
    })) (sym c.from_vec-2.ensures) all))
