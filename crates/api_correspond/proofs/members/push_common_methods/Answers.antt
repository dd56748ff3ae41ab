use Rattle.std.proofs.Common.{subst, List}
use Rattle.go_base.specs.Growing.{Grows}
use Rattle.go_model.specs.declared.types.term.Method.{Method}
use Rattle.api_correspond.specs.Publics.{types_of}
use Rattle.api_correspond.specs.inner.Leading.{AreCalledIn}
use Rattle.api_correspond.proofs.Leading.{methods_called}
use Rattle.api_correspond.proofs.members.push_common_methods.Goals as goal

pub returns : goal.returns
returns c = methods_called (types_of c.args.old.now) (types_of c.args.new.now) c.args.pair.now c.in_ok-before.before c.in_ok-after.after c.in_ok-methods.methods c.in_ok-push_called.ensures.0 c.args.pairs.now.items c.push_called.new.pairs.items c.in_ok-before.ensures c.in_ok-after.ensures c.in_ok-methods.ensures c.in_ok-push_called.ensures.1 (subst (λ (ms : List Method). Grows (AreCalledIn c.in_ok-push_called.ensures.0 ms) c.args.pairs.now.items c.push_called.new.pairs.items) c.items.ensures c.in_ok-push_called.ensures.2)
