-- Rows of the same facts give the same messages.
use Rattle.std.proofs.Common.{◌≡◌, ◌∙◌, ℕ, ◌+◌, ◌↔◌, Bool, true, false, not, ◌&&◌, ◌||◌, List, [], ◌∷◌, ◌++◌, Option, Some, None, refl, ap, sym, if◌then◌else◌}
use Rattle.std.specs.Prelude.{slice_get}
use Rattle.std.proofs.Math.Path.{fun_ext}
use Rattle.spark_base.specs.declared.numbers.Span.{Span}
use Rattle.spark_base.specs.declared.numbers.StmtNo.{StmtNo}
use Rattle.core_form.specs.declared.contract.Contract.{Contract}
use Rattle.core_form.specs.declared.contract.GlobalItem.{GlobalItem}
use Rattle.core_form.specs.declared.contract.Mode.{Mode}
use Rattle.core_form.specs.declared.contract.Mode.TheVariants as modes
use Rattle.core_form.specs.declared.program.Body.{Body}
use Rattle.core_form.specs.declared.program.Item.{Item}
use Rattle.core_form.specs.declared.program.Item.TheVariants as item
use Rattle.core_form.specs.declared.program.Program.{Program}
use Rattle.core_form.specs.declared.program.Var.{Var}
use Rattle.flow_relations.specs.declared.equation.BodyRow.{BodyRow}
use Rattle.flow_relations.specs.Flow.{Summary}
use Rattle.flow_relations.specs.Told.{IsRow}
use Rattle.spark_messages.specs.declared.message_texts.UsedMode.{UsedMode}
use Rattle.spark_messages.specs.declared.message_texts.UsedMode.TheVariants as used
use Rattle.spark_messages.specs.declared.messages.Code.TheVariants as code
use Rattle.spark_messages.specs.declared.messages.Message.{Message}
use Rattle.spark_messages.specs.MessageTexts.{written_input_text, read_output_text}
use Rattle.flow_driver.specs.GlobalCheck.{error_at, global_messages, has, input_var, is_left, is_listed, is_read, is_written, listed_item, listed_messages, mode_used, output_var, some_of, unlisted_from, unlisted_item, unlisted_var, used_mode, var_named, var_of}

-- the rows answer each question about a variable alike
record AreAlike (r t : BodyRow) : Type 0 where
  reads : (v : Var) → is_read r v ≡ is_read t v
  writes : (v : Var) → is_written r v ≡ is_written t v
  left : (v : Var) → is_left r v ≡ is_left t v

same_flag : (a b : Bool) → (a ≡ true → b ≡ true) → (b ≡ true → a ≡ true) → a ≡ b
same_flag true b to back = sym (to refl)
same_flag false true to back = back refl
same_flag false false to back = refl

same_has : (row other : List Bool) (S : ℕ → Type 0) → ((v : ℕ) → (has row v ≡ true) ↔ S v) → ((v : ℕ) → (has other v ≡ true) ↔ S v) → has row ≡ has other
same_has row other S h k =
    fun_ext (λ v. same_flag (has row v) (has other v) (λ x. (k v).1 ((h v).0 x)) (λ x. (h v).1 ((k v).0 x)))

abbrev stays_by : (ℕ → Bool) → (ℕ → Bool) → ℕ → Bool
stays_by keeps leaves leaf = keeps leaf || not (leaves leaf)

abbrev left_by : Var → Bool → (ℕ → Bool) → (ℕ → Bool) → Bool
left_by v returns keeps leaves = returns && some_of (stays_by keeps leaves) v

alike : (r t : BodyRow) (s : Summary) → IsRow r s → IsRow t s → AreAlike r t
alike r t s h k =
    let reads : has r.reads ≡ has t.reads = same_has r.reads t.reads s.reads h.reads k.reads in
    let writes : has r.writes ≡ has t.writes = same_has r.writes t.writes s.writes h.writes k.writes in
    let keeps : has r.keeps ≡ has t.keeps = same_has r.keeps t.keeps s.keeps h.keeps k.keeps in
    let leaves : has r.leaves ≡ has t.leaves = same_has r.leaves t.leaves s.leaves h.leaves k.leaves in
    let returns : r.returns ≡ t.returns
    = same_flag r.returns t.returns (λ x. k.returns.1 (h.returns.0 x)) (λ x. h.returns.1 (k.returns.0 x)) in
    record {
      reads = λ v. ap (λ (f : ℕ → Bool). some_of f v) reads;
      writes = λ v. ap (λ (f : ℕ → Bool). some_of f v) writes;
      left = λ v.
          ap (λ (b : Bool). left_by v b (has r.keeps) (has r.leaves)) returns
          ∙ ap (λ (f : ℕ → Bool). left_by v t.returns f (has r.leaves)) keeps
          ∙ ap (λ (f : ℕ → Bool). left_by v t.returns (has t.keeps) f) leaves;
    }

-- the variable of an item that may be absent
abbrev var_at : Program → Option Item → Option Var
var_at p None = None
var_at p (Some x) = var_of p x

-- the number of a body's code is in no message
module _ (p q : Program) (r t : BodyRow) (body : Body) (number : StmtNo) (vars : p.vars ≡ q.vars) (items : p.items ≡ q.items) (same : AreAlike r t) where
  var_same : (x : Item) → var_of p x ≡ var_of q x
  var_same (item.Whole v) = ap (λ (vs : List Var). slice_get vs v.0) vars
  var_same (item.State s) = refl
  var_same (item.Guard o) = refl

  named_at : (o : Option Item) → var_at p o ≡ var_at q o
  named_at None = refl
  named_at (Some x) = var_same x

  named_same : (g : GlobalItem) → var_named p g ≡ var_named q g
  named_same g =
      ap (λ (xs : List Item). var_at p (slice_get xs g.item.0)) items
      ∙ named_at (slice_get q.items g.item.0)

  mode_same : (v : Var) → used_mode r v ≡ used_mode t v
  mode_same v =
      ap (λ (b : Bool). mode_used b (is_written r v) (is_left r v)) (same.reads v)
      ∙ ap (λ (b : Bool). mode_used (is_read t v) b (is_left r v)) (same.writes v)
      ∙ ap (mode_used (is_read t v) (is_written t v)) (same.left v)

  unlisted_var_same : (v : Var) (u : UsedMode) → unlisted_var body v u ≡ unlisted_var (record body { code = number }) v u
  unlisted_var_same v used.Nothing = refl
  unlisted_var_same v used.Input = refl
  unlisted_var_same v used.Output = refl
  unlisted_var_same v used.InOut = refl

  unlisted_item_same : (b : Bool) (o : Option Var) → unlisted_item r body b o ≡ unlisted_item t (record body { code = number }) b o
  unlisted_item_same true o = refl
  unlisted_item_same false None = refl
  unlisted_item_same false (Some v) = ap (unlisted_var body v) (mode_same v) ∙ unlisted_var_same v (used_mode t v)

  unlisted_same : (listed : ℕ → Bool) (i : ℕ) (xs : List Item) → unlisted_from p r body listed i xs ≡ unlisted_from q t (record body { code = number }) listed i xs
  unlisted_same listed i [] = refl
  unlisted_same listed i (x ∷ xs) =
      ap (λ (o : Option Var). unlisted_item r body (listed i) o ++ unlisted_from p r body listed (i + 1) xs) (var_same x)
      ∙ ap (λ (ms : List Message). ms ++ unlisted_from p r body listed (i + 1) xs) (unlisted_item_same (listed i) (var_of q x))
      ∙ ap (λ (ms : List Message). unlisted_item t (record body { code = number }) (listed i) (var_of q x) ++ ms) (unlisted_same listed (i + 1) xs)

  input_same : (place : Span) (o : Option Var) → input_var r body place o ≡ input_var t (record body { code = number }) place o
  input_same place None = refl
  input_same place (Some v) =
      ap (λ (b : Bool). if b then error_at place code.G02 (written_input_text v.name body.name) ∷ [] else []) (same.writes v)

  output_same : (place : Span) (o : Option Var) → output_var r body place o ≡ output_var t (record body { code = number }) place o
  output_same place None = refl
  output_same place (Some v) =
      ap (λ (b : Bool). if b || is_left r v then error_at place code.G03 (read_output_text v.name body.name) ∷ [] else []) (same.reads v)
      ∙ ap (λ (b : Bool). if is_read t v || b then error_at place code.G03 (read_output_text v.name body.name) ∷ [] else []) (same.left v)

  listed_item_same : (g : GlobalItem) (m : Mode) → listed_item p r body g m ≡ listed_item q t (record body { code = number }) g m
  listed_item_same g modes.Input = ap (input_var r body g.place) (named_same g) ∙ input_same g.place (var_named q g)
  listed_item_same g modes.Output = ap (output_var r body g.place) (named_same g) ∙ output_same g.place (var_named q g)
  listed_item_same g modes.InOut = refl
  listed_item_same g modes.ProofIn = refl

  listed_same : (gs : List GlobalItem) → listed_messages p r body gs ≡ listed_messages q t (record body { code = number }) gs
  listed_same [] = refl
  listed_same (g ∷ gs) =
      ap (λ (ms : List Message). ms ++ listed_messages p r body gs) (listed_item_same g g.mode)
      ∙ ap (λ (ms : List Message). listed_item q t (record body { code = number }) g g.mode ++ ms) (listed_same gs)

  global_same : (c : Contract) → global_messages p r body c ≡ global_messages q t (record body { code = number }) c
  global_same c =
      ap (λ (ms : List Message). ms ++ listed_messages p r body c.globals) (unlisted_same (is_listed c.globals) 0 p.items)
      ∙ ap (λ (xs : List Item). unlisted_from q t (record body { code = number }) (is_listed c.globals) 0 xs ++ listed_messages p r body c.globals) items
      ∙ ap (λ (ms : List Message). unlisted_from q t (record body { code = number }) (is_listed c.globals) 0 q.items ++ ms) (listed_same c.globals)

-- the messages on a body are those of each row of its facts
pub messages_same : (p q : Program) (r t : BodyRow) (s : Summary) (body : Body) (number : StmtNo) (c : Contract) → p.vars ≡ q.vars → p.items ≡ q.items → IsRow r s → IsRow t s → global_messages p r body c ≡ global_messages q t (record body { code = number }) c
messages_same p q r t s body number c vars items h k = global_same p q r t body number vars items (alike r t s h k) c
