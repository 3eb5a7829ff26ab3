use Rattle.call_lists.proofs.Names.{one_caller}
use Rattle.call_lists.proofs.callers.add_one.Goals as goal

pub returns-clause-names : goal.returns-clause-names
returns-clause-names c = one_caller c.args.lists.now.items c.args.callee.0 _ _ c.args.caller c.requires.callee c.index_mut.ensures.value c.in_ok-push.ensures.ok
