-- Flows with the same facts.
use Rattle.std.proofs.Common.{ℕ, ◌<◌, ◌⊎◌, ◌↔◌, Bool, true, false, arith}
use Rattle.core_form.specs.Code.{Exprs, At, Next}
use Rattle.flow_facts.specs.Flow.{Flow, leaving, moving, changing, setting, clearing, seq, reads_of_all, branch, loop, IsWithin, IsSame}
use Rattle.flow_facts.proofs.Grows.{seq_grows, branch_grows, loop_grows}

-- each is within the other
within : (f g : Flow) → IsSame f g → IsWithin f g
within f g h = record {
  reads = λ v. (h.reads v).0;
  writes = λ v. (h.writes v).0;
  decides = λ v. (h.decides v).0;
  can = λ o. (h.can o).0;
  kept = λ o v w. (h.kept o v w).0;
  dep = λ o v w. (h.dep o v w).0;
}

around : (f g : Flow) → IsSame f g → IsWithin g f
around f g h = record {
  reads = λ v. (h.reads v).1;
  writes = λ v. (h.writes v).1;
  decides = λ v. (h.decides v).1;
  can = λ o. (h.can o).1;
  kept = λ o v w. (h.kept o v w).1;
  dep = λ o v w. (h.dep o v w).1;
}

both : (f g : Flow) → IsWithin f g → IsWithin g f → IsSame f g
both f g h k = record {
  reads = λ v. (h.reads v, k.reads v);
  writes = λ v. (h.writes v, k.writes v);
  decides = λ v. (h.decides v, k.decides v);
  can = λ o. (h.can o, k.can o);
  kept = λ o v w. (h.kept o v w, k.kept o v w);
  dep = λ o v w. (h.dep o v w, k.dep o v w);
}

pub same_itself : (f : Flow) → IsSame f f
same_itself f = record {
  reads = λ v. (λ x. x, λ x. x);
  writes = λ v. (λ x. x, λ x. x);
  decides = λ v. (λ x. x, λ x. x);
  can = λ o. (λ x. x, λ x. x);
  kept = λ o v w. (λ x. x, λ x. x);
  dep = λ o v w. (λ x. x, λ x. x);
}

pub same_through : (f g k : Flow) → IsSame f g → IsSame g k → IsSame f k
same_through f g k h j = record {
  reads = λ v. (λ x. (j.reads v).0 ((h.reads v).0 x), λ x. (h.reads v).1 ((j.reads v).1 x));
  writes = λ v. (λ x. (j.writes v).0 ((h.writes v).0 x), λ x. (h.writes v).1 ((j.writes v).1 x));
  decides = λ v. (λ x. (j.decides v).0 ((h.decides v).0 x), λ x. (h.decides v).1 ((j.decides v).1 x));
  can = λ o. (λ x. (j.can o).0 ((h.can o).0 x), λ x. (h.can o).1 ((j.can o).1 x));
  kept = λ o v w. (λ x. (j.kept o v w).0 ((h.kept o v w).0 x), λ x. (h.kept o v w).1 ((j.kept o v w).1 x));
  dep = λ o v w. (λ x. (j.dep o v w).0 ((h.dep o v w).0 x), λ x. (h.dep o v w).1 ((j.dep o v w).1 x));
}

module _ (a a' b b' : Flow) (h : IsSame a a') (k : IsSame b b') where
  pub seq_same : (void : ℕ) → IsSame (seq void a b) (seq void a' b')
  seq_same void =
      both _ _ (seq_grows void a a' b b' (within a a' h) (within b b' k)) (seq_grows void a' a b' b (around a a' h) (around b b' k))

  branch_parts : (test : ℕ → Type 0) → IsSame (branch test a b) (branch test a' b')
  branch_parts test =
      both _ _ (branch_grows 0 a a' b b' (within a a' h) (within b b' k) test) (branch_grows 0 a' a b' b (around a a' h) (around b b' k) test)

  pub branch_same : (S T : ℕ → Type 0) → ((v : ℕ) → S v ↔ T v) → IsSame (branch S a b) (branch T a' b')
  branch_same S T t = same_through _ _ _ (branch_parts S) (record {
    reads = λ v. grind (arith, t v);
    writes = λ v. (λ x. x, λ x. x);
    decides = λ v. grind (arith, t v);
    can = λ o. (λ x. x, λ x. x);
    kept = λ o v w. (λ x. x, λ x. x);
    dep = λ o v w. grind (arith, t v);
  })

pub loop_same : (void : ℕ) (a a' : Flow) → IsSame a a' → IsSame (loop void a) (loop void a')
loop_same void a a' h = both _ _ (loop_grows void a a' (within a a' h)) (loop_grows void a' a (around a a' h))

pub moving_same : (void x : ℕ) (S T : ℕ → Type 0) → ((v : ℕ) → S v ↔ T v) → IsSame (moving void x S) (moving void x T)
moving_same void x S T t = record {
  reads = t;
  writes = λ v. (λ y. y, λ y. y);
  decides = λ v. (λ y. y, λ y. y);
  can = λ o. (λ y. y, λ y. y);
  kept = λ o v w. (λ y. y, λ y. y);
  dep = λ o v w. grind (arith, t v);
}

pub changing_same : (void x : ℕ) (S T : ℕ → Type 0) → ((v : ℕ) → S v ↔ T v) → IsSame (changing void x S) (changing void x T)
changing_same void x S T t = record {
  reads = t;
  writes = λ v. (λ y. y, λ y. y);
  decides = λ v. (λ y. y, λ y. y);
  can = λ o. (λ y. y, λ y. y);
  kept = λ o v w. (λ y. y, λ y. y);
  dep = λ o v w. grind (arith, t v);
}

-- a last statement that does nothing adds nothing
moving_last : (void x : ℕ) (S : ℕ → Type 0) → x < void → IsSame (seq void (moving void x S) (leaving void Next)) (moving void x S)
moving_last void x S l = record {
  reads = λ v. grind arith;
  writes = λ v. grind arith;
  decides = λ v. grind arith;
  can = λ o. grind arith;
  kept = λ o v w. grind arith;
  dep = λ o v w. grind arith;
}

changing_last : (void x : ℕ) (S : ℕ → Type 0) → x < void → IsSame (seq void (changing void x S) (leaving void Next)) (changing void x S)
changing_last void x S l = record {
  reads = λ v. grind arith;
  writes = λ v. grind arith;
  decides = λ v. grind arith;
  can = λ o. grind arith;
  kept = λ o v w. grind arith;
  dep = λ o v w. grind arith;
}

pub clearing_last : (void x : ℕ) → x < void → IsSame (seq void (clearing void x) (leaving void Next)) (clearing void x)
clearing_last void x l = record {
  reads = λ v. grind arith;
  writes = λ v. grind arith;
  decides = λ v. grind arith;
  can = λ o. grind arith;
  kept = λ o v w. grind arith;
  dep = λ o v w. grind arith;
}

pub setting_last : (void leaf : ℕ) (part : Exprs) (whole : Bool) (cells : ℕ) (S : ℕ → Type 0) → leaf < void → IsSame (seq void (setting void (At leaf part whole cells) S) (leaving void Next)) (setting void (At leaf part whole cells) S)
setting_last void leaf part true cells S l = moving_last void leaf (λ v. S v ⊎ reads_of_all part v) l
setting_last void leaf part false cells S l = changing_last void leaf (λ v. S v ⊎ reads_of_all part v) l
