use Rattle.api_breaks.proofs.InterfaceLosses.{methods_exact}
use Rattle.api_breaks.proofs.interfaces.push_methods.Goals as goal

pub returns : goal.returns
returns c = methods_exact c.args.old.now c.args.new.now c.args.before.now c.args.after.now c.has_sealing-first.result c.has_sealing-second.result c.has_sealing-first.ensures c.has_sealing-second.ensures c.args.losses.now.items c.push_sealing.new.losses.items c.push_all_gone.new.losses.items c.push_open.new.losses.items c.in_ok-push_sealing.ensures c.in_ok-push_all_gone.ensures c.in_ok-push_open.ensures
