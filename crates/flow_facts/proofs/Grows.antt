-- Where more is known of the parts, more is known of the whole.
use Rattle.std.proofs.Common.{◌≡◌, ℕ, zero, suc, Option, arith}
use Rattle.spark_base.specs.declared.numbers.BodyNo.{BodyNo}
use Rattle.spark_base.specs.declared.numbers.LeafNo.{LeafNo}
use Rattle.core_form.specs.Code.{Actuals, Next, Code, Skip, Then, Assign, Clear, Branch, Repeat, Exit, Called, Guard, Delay, ReadClock, Stop}
use Rattle.flow_facts.specs.Flow.{Flow, nowhere, reading, leaving, setting, clearing, seq, branch, unrolling, loop, guarding, flow, reads_of, IsWithin}

pub within_itself : (f : Flow) → IsWithin f f
within_itself f = record { reads = λ v x. x; writes = λ v x. x; decides = λ v x. x; can = λ o x. x; kept = λ o v w x. x; dep = λ o v w x. x }

module _ (void : ℕ) (a a' b b' : Flow) (h : IsWithin a a') (k : IsWithin b b') where
  pub seq_grows : IsWithin (seq void a b) (seq void a' b')
  seq_grows = record {
    reads = λ v x. grind (arith, h.reads, h.kept, k.reads);
    writes = λ v x. grind (arith, h.writes, h.can, k.writes);
    decides = λ v x. grind (arith, h.decides, h.dep, h.can, k.decides, k.can);
    can = λ o x. grind (arith, h.can, k.can);
    kept = λ o v w x. grind (arith, h.kept, k.kept);
    dep = λ o v w x. grind (arith, h.dep, k.dep, h.can, k.can, h.writes, k.writes, h.decides);
  }

  pub branch_grows : (test : ℕ → Type 0) → IsWithin (branch test a b) (branch test a' b')
  branch_grows test = record {
    reads = λ v x. grind (arith, h.reads, k.reads);
    writes = λ v x. grind (arith, h.writes, k.writes);
    decides = λ v x. grind (arith, h.decides, h.can, k.decides, k.can);
    can = λ o x. grind (arith, h.can, k.can);
    kept = λ o v w x. grind (arith, h.kept, k.kept);
    dep = λ o v w x. grind (arith, h.dep, k.dep, h.can, k.can, h.writes, k.writes);
  }

unrolling_grows : (void : ℕ) (a a' : Flow) → IsWithin a a' → (n : ℕ) → IsWithin (unrolling void a n) (unrolling void a' n)
unrolling_grows void a a' h zero = within_itself nowhere
unrolling_grows void a a' h (suc n) = seq_grows void a a' (unrolling void a n) (unrolling void a' n) h (unrolling_grows void a a' h n)

pub loop_grows : (void : ℕ) (a a' : Flow) → IsWithin a a' → IsWithin (loop void a) (loop void a')
loop_grows void a a' h =
    let u = unrolling_grows void a a' h in
    record {
      reads = λ v x. (x.0, (u x.0).reads v x.1);
      writes = λ v x. (x.0, (u x.0).writes v x.1);
      decides = λ v x. (
        (x.0.0, x.0.1, x.0.2, (x.0.3.0, (u x.0.3.0).can _ x.0.3.1), (x.0.4.0, (u x.0.4.0).can _ x.0.4.1)),
        (x.1.0, (u x.1.0).decides v x.1.1),
      );
      can = λ o x. (x.0, (u x.0).can _ x.1);
      kept = λ o v w x. (x.0, (u x.0).kept _ v w x.1);
      dep = λ o v w x. (x.0, (u x.0).dep _ v w x.1);
    }

pub guarding_grows : (barrier : Option LeafNo) (a a' : Flow) → IsWithin a a' → IsWithin (guarding barrier a) (guarding barrier a')
guarding_grows barrier a a' h = record {
  reads = λ v x. grind (arith, h.reads);
  writes = h.writes;
  decides = h.decides;
  can = h.can;
  kept = h.kept;
  dep = h.dep;
}

-- more known of the calls, more known of the caller
pub flow_grows : (void clock : ℕ) (call call' : BodyNo → Actuals → Flow) → ((b : BodyNo) (x : Actuals) → IsWithin (call b x) (call' b x)) → (c : Code) → IsWithin (flow void clock call c) (flow void clock call' c)
flow_grows void clock s s' h Skip = within_itself (leaving void Next)
flow_grows void clock s s' h (Then a b) =
    seq_grows void (flow void clock s a) (flow void clock s' a) (flow void clock s b) (flow void clock s' b) (flow_grows void clock s s' h a) (flow_grows void clock s s' h b)
flow_grows void clock s s' h (Assign to e at) = within_itself (setting void to (reads_of e))
flow_grows void clock s s' h (Clear x) = within_itself (clearing void x)
flow_grows void clock s s' h (Branch e a b) =
    branch_grows void (flow void clock s a) (flow void clock s' a) (flow void clock s b) (flow void clock s' b) (flow_grows void clock s s' h a) (flow_grows void clock s s' h b) (reads_of e)
flow_grows void clock s s' h (Repeat a) = loop_grows void (flow void clock s a) (flow void clock s' a) (flow_grows void clock s s' h a)
flow_grows void clock s s' h (Exit o) = within_itself (leaving void o)
flow_grows void clock s s' h (Called b x at) = h b x
flow_grows void clock s s' h (Guard o barrier c) = guarding_grows barrier (flow void clock s c) (flow void clock s' c) (flow_grows void clock s s' h c)
flow_grows void clock s s' h (Delay e) = within_itself (reading void Next (reads_of e))
flow_grows void clock s s' h (ReadClock to) = within_itself (setting void to (λ v. v ≡ clock))
flow_grows void clock s s' h Stop = within_itself nowhere
