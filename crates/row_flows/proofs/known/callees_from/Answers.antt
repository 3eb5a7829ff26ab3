use Rattle.std.proofs.Common.{◌≡◌, ◌+◌, ◌++◌, ◌<◌, ◌∙◌, length, [], ◌∷◌, drop, get_or, map, add-one, append_assoc, ap, sym, arith}
use Rattle.std.proofs.Math.Seq.{drop-cons}
use Rattle.std.proofs.lemmas.List.{map-append}
use Rattle.std.proofs.lemmas.List.Elements.{All-push}
use Rattle.flow_relations.specs.declared.callees.Callee.{Callee}
use Rattle.row_flows.specs.Known.{IsCalleeOf}
use Rattle.row_flows.proofs.known.callees_from.Goals as goal

pub loop-callee-preserved : goal.loop-callee-preserved
loop-callee-preserved c =
    let i = c.loop-callee.callee-index in
    let list = c.args.list.now in
    let old = c.loop-callee.callees.items in
    let x = c.in_ok-callee_of.field-0 in
    let at = get_or list i (record { 0 = 0 }) in
    let within : i < length list = omega arith in
    let split : drop i list ≡ at ∷ drop (i + 1) list = rw add-one (drop-cons list i (record { 0 = 0 }) within) in
    let step : x.body ∷ drop (i + 1) list ≡ drop i list = ap (λ y. y ∷ drop (i + 1) list) c.in_ok-callee_of.ensures.body ∙ sym split in
    rw c.in_ok-push.ensures.items (record {
      bodies =
          ap (λ l. l ++ drop (i + 1) list) (map-append (λ (y : Callee). y.body) old (x ∷ []))
          ∙ (append_assoc (map (λ (y : Callee). y.body) old) (x.body ∷ []) (drop (i + 1) list)
          ∙ (ap (λ l. map (λ (y : Callee). y.body) old ++ l) step ∙ c.loop-callee.invariant.bodies));
      each = All-push (IsCalleeOf c.args.program.now c.args.rows.now c.args.caller.0 c.args.places.now) old x c.loop-callee.invariant.each c.in_ok-callee_of.ensures.callee;
    })
