-- The numbers of a frame's leaves.
use Rattle.std.proofs.Common.{ℕ, zero, suc, ◌≤◌, arith}
use Rattle.flow_relations.specs.declared.frame.Frame.{Frame}
use Rattle.flow_relations.specs.Framing.{IsFrame, frame_size, name_at}
use Rattle.flow_relations.proofs.Framings.{name_last}

-- a name is no less than its number
names_rise : (frame : Frame) → IsFrame frame → (k : ℕ) → k ≤ frame_size frame → k ≤ name_at frame k
names_rise frame is zero h = omega arith
names_rise frame is (suc k) h =
    let r = names_rise frame is k (omega (arith, h)) in
    let s = is.increasing k (suc k) (omega arith) h in
    omega (arith, r, s)

pub size_most : (frame : Frame) → IsFrame frame → frame_size frame ≤ frame.void
size_most frame is = let r = names_rise frame is (frame_size frame) (omega arith) in let l = name_last frame in omega (arith, r, l)
