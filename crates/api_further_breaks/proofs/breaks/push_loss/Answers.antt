use Rattle.api_further_breaks.proofs.AllBreaks.{one_lost}
use Rattle.api_further_breaks.proofs.breaks.push_loss.Goals as goal

pub returns : goal.returns
returns c = one_lost c.args.owner.now c.in_ok-owner.owner c.args.lost.now c.in_ok-lost.lost c.args.breaks.now.items c.push.new.self.items c.in_ok-owner.ensures c.in_ok-lost.ensures c.in_ok-push.ensures.items
