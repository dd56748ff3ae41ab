use Rattle.api_breaks.proofs.InterfaceLosses.{alike_kept, alike_lost, alike_told, apart_told}
use Rattle.api_breaks.proofs.interfaces.push_sealing.Goals as goal

pub returns-then-first-second : goal.returns-then-first-second
returns-then-first-second c = alike_kept c.args.losses.now.items c.args.first c.args.second (alike_told c.args.first c.args.second c.if-first-second.true)

pub returns : goal.returns
returns c = alike_lost c.args.losses.now.items c.push.new.self.items c.args.first c.args.second (apart_told c.args.first c.args.second c.if-first-second.false) c.in_ok-push.ensures.items
