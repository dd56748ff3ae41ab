use Rattle.api_frozen.proofs.Arranged.{grows_signed}
use Rattle.api_frozen.proofs.signed.push.Goals as goal

pub returns : goal.returns
returns c = grows_signed c.args.all.now.items c.push.new.self.items (record { signed = c.args.signed }) c.in_ok-push.ensures.items
