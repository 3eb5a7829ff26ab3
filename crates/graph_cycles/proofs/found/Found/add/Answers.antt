use Rattle.std.proofs.Common.{◌≡◌, ◌<◌, refl, true, false, length, get_or, sym, ◌∙◌, arith}
use Rattle.std.specs.Vec.{with_item}
use Rattle.std.proofs.lemmas.List.{get_or_read}
use Rattle.graph_cycles.specs.declared.found.Found.{Found as TheFound}
use Rattle.graph_cycles.proofs.Adding.{kept_more, keeps_found, has_node, only_node, stays_found}
use Rattle.graph_cycles.proofs.found.Found.add.Goals as goal

abbrev after : goal.In_ok-push → TheFound
after c = record { seen = with_item c.args.self.now.seen c.args.node true; order = c.push.new.self }

there : (c : goal.In_ok-push) → c.args.node < length c.args.self.now.seen.items
there c = let e = c.len.ensures in omega (arith, e)

new : (c : goal.In_ok-push) → get_or c.args.self.now.seen.items c.args.node false ≡ false
new c = sym (get_or_read c.args.self.now.seen.items c.args.node c.index.result.now (there c) c.index.ensures false) ∙ c.if-index.false

pub returns-clause-kept : goal.returns-clause-kept
returns-clause-kept c = kept_more c.args.self.now (after c) c.args.node (there c) (new c) refl c.in_ok-push.ensures.ok c.requires

pub returns-clause-stays : goal.returns-clause-stays
returns-clause-stays c = stays_found c.args.self.now (after c) c.args.node (there c) (new c) refl c.in_ok-push.ensures.ok

pub returns-clause-keeps : goal.returns-clause-keeps
returns-clause-keeps c = keeps_found c.args.self.now (after c) c.args.node (there c) (new c) refl c.in_ok-push.ensures.ok

pub returns-clause-has : goal.returns-clause-has
returns-clause-has c = λ l. has_node c.args.self.now (after c) c.args.node (there c) (new c) refl c.in_ok-push.ensures.ok

pub returns-clause-only : goal.returns-clause-only
returns-clause-only c = only_node c.args.self.now (after c) c.args.node (there c) (new c) refl c.in_ok-push.ensures.ok
