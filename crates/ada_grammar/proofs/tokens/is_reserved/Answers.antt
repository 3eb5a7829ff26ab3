use Rattle.std.proofs.Common.{rules, ◌≡◌, Bool, true, false, refl, sym, ◌∙◌, subst}
use denote.Enum.Bare.{same_true, same_false, sameb}
use Rattle.ada_tree.specs.declared.words.Reserved.{Reserved}
use Rattle.ada_tree.specs.contracts.words.Reserved.{the_type}
use Rattle.ada_grammar.specs.Numbers.{same_word}
use Rattle.ada_grammar.proofs.EverySort.{one_word, word_self}
use Rattle.ada_grammar.proofs.tokens.is_reserved.Goals as goal

agree : (m n : Bool) → (m ≡ true → n ≡ true) → (m ≡ false → n ≡ true → ⊥) → m ≡ n
agree true n f g = sym (f refl)
agree false true f g = absurd (g refl refl)
agree false false f g = refl

compared : (a b : Reserved) → sameb the_type a b ≡ same_word b a
compared a b = agree (sameb the_type a b) (same_word b a)
    (λ e. subst (λ (z : Reserved). same_word b z ≡ true) (sym (same_true the_type (search rules) a b e)) (word_self b))
    (λ e f. same_false the_type a b e (sym (one_word b a f)))

pub returns : goal.returns
returns c = c.eq.ensures ∙ compared _ _
