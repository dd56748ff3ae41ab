use Rattle.api_breaks.proofs.InterfaceLosses.{sealed_old, sealed_new, open_lost}
use Rattle.api_breaks.proofs.interfaces.push_open.Goals as goal

pub returns-then-first : goal.returns-then-first
returns-then-first c = sealed_old c.args.losses.now.items c.args.before.now c.args.after.now c.args.first c.args.second c.if-first.true

pub returns-then-second : goal.returns-then-second
returns-then-second c = sealed_new c.args.losses.now.items c.args.before.now c.args.after.now c.args.first c.args.second c.if-second.true

pub returns : goal.returns
returns c = open_lost c.args.losses.now.items c.push_all_new.new.losses.items c.args.before.now c.args.after.now c.args.first c.args.second c.if-first.false c.if-second.false c.in_ok-push_all_new.ensures
