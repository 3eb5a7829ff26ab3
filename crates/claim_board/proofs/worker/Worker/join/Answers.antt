use Rattle.std.proofs.Common.{ℕ, ◌≡◌, ap, ◌∙◌}
use Rattle.std.specs.Prelude.{slice_index, bit_or}
use Rattle.std.proofs.lemmas.List.{get_or_read}
use Rattle.call_lists.specs.Lists.{Names}
use Rattle.claim_core.specs.Bits.{put}
use Rattle.claim_board.specs.Told.{worker_told}
use Rattle.claim_board.proofs.Tells.{set_tells, joined_quiet, joined_loud}
use Rattle.claim_board.proofs.worker.Worker.join.Goals as goal

pub returns-then-old-bits-clause-told : goal.returns-then-old-bits-clause-told
returns-then-old-bits-clause-told c = λ r callers.
    (let k = worker_told c.args.self.now in
    let j = c.args.self.now.joined.items in
    let v : c.index_mut.result.now ≡ slice_index j c.args.w = get_or_read j _ _ c.requires.word c.index_mut.ensures.value 0 in
    let owes = (worker_told c.owe.new.self).owes in
    c.owe.ensures.told
    ∙ (λ n. record k {
      joined = (set_tells j c.args.w (bit_or c.index_mut.result.now c.args.bits) 0 c.requires.word ∙ ap (λ (x : ℕ). put k.joined c.args.w (bit_or x c.args.bits)) v) n;
      owes = owes;
    })
    ∙ joined_loud r k c.args.w c.args.bits c.args.old (Names c.args.callers.now) owes c.if-old-bits.true callers c.owe.ensures.owes)

pub returns-else-old-bits-clause-told : goal.returns-else-old-bits-clause-told
returns-else-old-bits-clause-told c = λ r callers.
    (let k = worker_told c.args.self.now in
    let j = c.args.self.now.joined.items in
    let v : c.index_mut.result.now ≡ slice_index j c.args.w = get_or_read j _ _ c.requires.word c.index_mut.ensures.value 0 in
    (λ n. record k {
      joined = (set_tells j c.args.w (bit_or c.index_mut.result.now c.args.bits) 0 c.requires.word ∙ ap (λ (x : ℕ). put k.joined c.args.w (bit_or x c.args.bits)) v) n;
    })
    ∙ joined_quiet r k c.args.w c.args.bits c.args.old c.if-old-bits.false)
