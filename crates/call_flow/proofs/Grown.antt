-- Where more is known of a callee, more is known of its call.
use Rattle.std.proofs.Common.{◌≡◌, ℕ, zero, suc, ◌+◌, ◌⊎◌, length, inl, inr, refl}
use Rattle.spark_base.specs.declared.numbers.BodyNo.{BodyNo}
use Rattle.core_form.specs.Code.{Exprs, Nothing, And, Actuals, NoActual, AndActual, Next}
use Rattle.core_form.specs.Code.{Code, Skip, Then, Assign, Clear, Branch, Repeat, Exit, Called, Guard, Delay, ReadClock, Stop}
use Rattle.flow_facts.specs.Flow.{Flow, Summary, IsWithin, clearing, flow, leaving, moving, nowhere, reading, row_of, reads_of, seq, setting}
use Rattle.flow_facts.proofs.Grows.{branch_grows, guarding_grows, loop_grows, seq_grows, within_itself}
use Rattle.call_flow.specs.declared.signatures.Signature.{Signature}
use Rattle.call_flow.specs.Calls.{IsAside, IsCalled, IsLess, actuals_in, actuals_out, call_parts, calling, dropped, knowing, last_name, passing_at, stands, values_in}

-- a name of which the one does not speak is one of which the other does not
aside : (name : ℕ → ℕ) (k l : Summary) → IsLess k l → (x : ℕ) → IsAside name k x → IsAside name l x
aside name k l h x n s = n (s.0, (s.1.0, (h.leaves s.0).1 s.1.1))

knowing_grows : (void : ℕ) (name : ℕ → ℕ) (k l : Summary) → IsLess k l → IsWithin (knowing void name k) (knowing void name l)
knowing_grows void name k l h = record {
  reads = λ v x. (x.0, (x.1.0, h.reads x.0 x.1.1));
  writes = λ v x. (x.0, (x.1.0, h.writes x.0 x.1.1));
  decides = λ v x. x;
  can = λ o x. (x.0, h.returns x.1);
  kept = λ o v w x. (x.0, (h.returns x.1.0, (x.1.1.0, (x.1.1.1.0, elim x.1.1.1.1 [ inl s ↦ inl (s.0, (s.1.0, h.keeps s.0 s.1.1)) | inr n ↦ inr (aside name k l h v n) ]))));
  dep = λ o v w x. (
    x.0,
    (
      h.returns x.1.0,
      elim x.1.1 [
        | inl s ↦ inl (s.0, (s.1.0, (s.1.1.0, (s.1.1.1.0, h.depends s.0 s.1.0 s.1.1.1.1))))
        | inr n ↦ inr (n.0, (n.1.0, aside name k l h v n.1.1))
      ],
    ),
  );
}

module _ (void : ℕ) (a b : Flow) (h : IsWithin a b) where
  values_in_grows : (x n : ℕ) (es : Exprs) → IsWithin (values_in void x n es a) (values_in void x n es b)
  values_in_grows x zero es = h
  values_in_grows x (suc n) Nothing = h
  values_in_grows x (suc n) (And e es) =
      seq_grows void (moving void x (reads_of e)) (moving void x (reads_of e)) (values_in void (suc x) n es a) (values_in void (suc x) n es b)
      (within_itself (moving void x (reads_of e))) (values_in_grows (suc x) n es)

actuals_in_grows : (void big : ℕ) (s : Signature) (a b : Flow) → IsWithin a b → (x : Actuals) → IsWithin (actuals_in void big s x a) (actuals_in void big s x b)
actuals_in_grows void big s a b h NoActual = h
actuals_in_grows void big s a b h (AndActual formal values spots at more) =
    values_in_grows big (actuals_in void big s more a) (actuals_in void big s more b) (actuals_in_grows void big s a b h more)
    (void + (passing_at s formal).first) (passing_at s formal).ins values

dropped_grows : (void big : ℕ) (a b : Flow) → IsWithin a b → IsWithin (dropped void big a) (dropped void big b)
dropped_grows void big a b h = record {
  reads = λ v x. (x.0, h.reads v x.1);
  writes = λ v x. (x.0, h.writes v x.1);
  decides = λ v x. (x.0, h.decides v x.1);
  can = h.can;
  kept = λ o v w x. (x.0, h.kept o _ _ x.1);
  dep = λ o v w x. (x.0, h.dep o v w x.1);
}

-- more known of a callee, more known of its call
pub calling_grows : (void : ℕ) (own : ℕ → ℕ) (s : Signature) (k l : Summary) → IsLess k l → (x : Actuals) → IsWithin (calling void own s k x) (calling void own s l x)
calling_grows void own s k l h x =
    let big = last_name void s in
    let name = stands own void s.leaves in
    let out = actuals_out void big s x (leaving big Next) in
    dropped_grows void big (call_parts void big own s k x) (call_parts void big own s l x)
    (actuals_in_grows void big s (seq big (knowing big name k) out) (seq big (knowing big name l) out)
    (seq_grows big (knowing big name k) (knowing big name l) out out (knowing_grows big name k l h) (within_itself out)) x)

-- and of a row
pub row_grows : (named : ℕ → Type 0) (f g : Flow) → IsWithin f g → IsLess (row_of named f) (row_of named g)
row_grows named f g h = record {
  leaves = λ v. (λ x. x, λ x. x);
  returns = λ x. elim x [ inl a ↦ inl (h.can Next a) | inr b ↦ inr (h.can _ b) ];
  reads = λ v x. (x.0, h.reads v x.1);
  writes = λ v x. (x.0, h.writes v x.1);
  keeps = λ v x. (x.0, elim x.1 [ inl a ↦ inl (h.kept _ v v a) | inr b ↦ inr (h.kept _ v v b) ]);
  depends = λ v w x. (
    x.0,
    elim x.1 [
      | inl a ↦ inl (h.dep _ v w a)
      | inr b ↦ inr (elim b [ inl c ↦ inl (h.dep _ v w c) | inr d ↦ inr (h.can _ d.0, h.can _ d.1, h.decides v d.2, h.writes w d.3) ])
    ],
  );
}

-- more known of the bodies that are called, more known of the code
pub flow_sees : (void clock : ℕ) (call call' : BodyNo → Actuals → Flow) (c : Code) → ((b : BodyNo) (x : Actuals) → IsCalled b.0 c → IsWithin (call b x) (call' b x))
    → IsWithin (flow void clock call c) (flow void clock call' c)
flow_sees void clock s s' Skip h = within_itself (leaving void Next)
flow_sees void clock s s' (Then a b) h =
    seq_grows void (flow void clock s a) (flow void clock s' a) (flow void clock s b) (flow void clock s' b)
    (flow_sees void clock s s' a (λ i x k. h i x (inl k))) (flow_sees void clock s s' b (λ i x k. h i x (inr k)))
flow_sees void clock s s' (Assign to e at) h = within_itself (setting void to (reads_of e))
flow_sees void clock s s' (Clear x) h = within_itself (clearing void x)
flow_sees void clock s s' (Branch e a b) h =
    branch_grows void (flow void clock s a) (flow void clock s' a) (flow void clock s b) (flow void clock s' b)
    (flow_sees void clock s s' a (λ i x k. h i x (inl k))) (flow_sees void clock s s' b (λ i x k. h i x (inr k))) (reads_of e)
flow_sees void clock s s' (Repeat a) h = loop_grows void (flow void clock s a) (flow void clock s' a) (flow_sees void clock s s' a h)
flow_sees void clock s s' (Exit o) h = within_itself (leaving void o)
flow_sees void clock s s' (Called b x at) h = h b x refl
flow_sees void clock s s' (Guard o barrier c) h = guarding_grows barrier (flow void clock s c) (flow void clock s' c) (flow_sees void clock s s' c h)
flow_sees void clock s s' (Delay e) h = within_itself (reading void Next (reads_of e))
flow_sees void clock s s' (ReadClock to) h = within_itself (setting void to (λ v. v ≡ clock))
flow_sees void clock s s' Stop h = within_itself nowhere
