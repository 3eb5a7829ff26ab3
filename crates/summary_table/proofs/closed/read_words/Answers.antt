use Rattle.std.proofs.Common.{◌≡◌, ℕ, ◌+◌, List, [], ◌∷◌, ◌++◌, take, sym, ap, ◌∙◌}
use Rattle.std.proofs.lemmas.List.{take_more}
use mathlib.Core.Option.{some}
use lib.ListN.{get_elem?}
use Rattle.summary_table.proofs.Lists.{at_elem}
use Rattle.summary_table.proofs.closed.read_words.Goals as goal

one_more : (words items : List ℕ) (i x : ℕ) → words ≡ take i items → get_elem? items i ≡ some x → words ++ x ∷ [] ≡ take (i + 1) items
one_more words items i x e at = let t = at_elem 0 items i x at in ap (λ (l : List ℕ). l ++ x ∷ []) e ∙ ap (λ y. take i items ++ y ∷ []) (sym t.0) ∙ sym (take_more items i 0 t.1)

pub loop-i-preserved : goal.loop-i-preserved
loop-i-preserved c = c.in_ok-push.ensures.items ∙ one_more c.loop-i.words.items c.args.closed.now.words.items c.loop-i.i c.word.result c.loop-i.invariant c.word.ensures
