-- A text at the front.
use Rattle.std.proofs.Common.{◌≡◌, ℕ, suc, List, [], ◌∷◌, Bool, true, false, ◌&&◌, if◌then◌else◌, take, drop, None, Some, refl, ap, ◌∙◌, nat_eq, nat_lt}
use Rattle.std.specs.declared.option.Option.{Option}
use Rattle.ada_lexer.specs.Classes.{is_inner}
use Rattle.ada_lexer.specs.Pieces.{quoted, text, longest, one_more}
use Rattle.ada_lexer.specs.Cut.{piece_at, cut_here, fault, text_end, starts, first_high}
use Rattle.ada_lexer.specs.Runs.{raised, close, text_made}
use Rattle.spark_messages.specs.declared.messages.Code.TheVariants.{L01, L04}
use Rattle.ada_lexer.proofs.Longest.{longest-none}
use Rattle.ada_lexer.proofs.Fronts.{longest-after, allowed-text, passes_at, judged-text}

-- only a front that no quote follows
abbrev clean : List ℕ → Option ℕ → Option ℕ
clean bytes None = None
clean bytes (Some n) = if starts (λ b. nat_eq b 34) (drop n bytes) then None else Some n

clean-raised : (b : ℕ) (bs : List ℕ) (r : Option ℕ) → clean (b ∷ bs) (one_more false r) ≡ raised (clean bs r)
clean-raised b bs None = refl
clean-raised b bs (Some n) = elim (starts (λ b. nat_eq b 34) (drop n bs)) as (λ c. (if c then None else Some (suc n)) ≡ raised (if c then None else Some n)) [ true ↦ refl | false ↦ refl ]

clean-again : (b : ℕ) (bs : List ℕ) (r : Option ℕ) → nat_eq b 34 ≡ true → clean (b ∷ bs) (one_more true r) ≡ raised (clean bs r)
clean-again b bs None h = ap (λ c. if c then None else Some 0) h
clean-again b bs (Some n) h = clean-raised b bs (Some n)

abbrev Closes : Bool → List ℕ → Type 0
Closes ended bytes = clean bytes (longest (quoted ended) bytes) ≡ close ended bytes

close_ended : (b : ℕ) (bs : List ℕ) (c : Bool) → nat_eq b 34 ≡ c → Closes false bs →
    clean (b ∷ bs) (one_more true (longest (λ s. if c then quoted false s else false) bs)) ≡ (if c then raised (close false bs) else Some 0)
close_ended b bs true e h = clean-again b bs (longest (quoted false) bs) e ∙ ap raised h
close_ended b bs false e h = ap (λ r. clean (b ∷ bs) (one_more true r)) (longest-none bs) ∙ ap (λ c. if c then None else Some 0) e

close_inner : (b : ℕ) (bs : List ℕ) (c d : Bool) → Closes true bs → Closes false bs →
    clean (b ∷ bs) (one_more false (longest (λ s. if c then quoted true s else (d && quoted false s)) bs)) ≡ (if c then raised (close true bs) else (if d then raised (close false bs) else None))
close_inner b bs true d h k = clean-raised b bs (longest (quoted true) bs) ∙ ap raised h
close_inner b bs false true h k = clean-raised b bs (longest (quoted false) bs) ∙ ap raised k
close_inner b bs false false h k = ap (λ r. clean (b ∷ bs) (one_more false r)) (longest-none bs)

closes : (bytes : List ℕ) → Closes true bytes × Closes false bytes
closes [] = (refl, refl)
closes (b ∷ bs) = let h = closes bs in
    (close_ended b bs (nat_eq b 34) refl h.1, close_inner b bs (nat_eq b 34) (is_inner b) h.0 h.1)

made : (ticked : Bool) (b : ℕ) (bs : List ℕ) (r : Option ℕ) → b ≡ 34 → longest (quoted false) bs ≡ r → cut_here (b ∷ bs) (one_more false r) ≡ text_made (b ∷ bs) (clean bs r)
made ticked b bs None e h = ap (λ b. if nat_lt 127 b then fault L01 0 else fault L04 0) e
made ticked b bs (Some n) e h =
    let k : text (b ∷ take n bs) ≡ true = ap (λ b. nat_eq b 34 && quoted false (take n bs)) e ∙ passes_at (quoted false) bs n h in
    judged-text (suc n) b (take n bs) (drop n bs) e k
    ∙ (elim (starts (λ b. nat_eq b 34) (drop n bs)) as (λ c. (if c then fault L04 0 else text_end (suc n) (first_high (b ∷ take n bs))) ≡ text_made (b ∷ bs) (if c then None else Some n)) [ true ↦ refl | false ↦ refl ])

pub at_text : (ticked : Bool) (b : ℕ) (bs : List ℕ) → b ≡ 34 → piece_at ticked (b ∷ bs) ≡ text_made (b ∷ bs) (close false bs)
unfolding piece_at
at_text ticked b bs e =
    ap (cut_here (b ∷ bs)) (longest-after ticked b bs (quoted false) (longest (quoted false) bs) (λ s. allowed-text ticked b s e ∙ ap (λ b. nat_eq b 34 && quoted false s) e) refl)
    ∙ made ticked b bs (longest (quoted false) bs) e refl ∙ ap (text_made (b ∷ bs)) (closes bs).1
