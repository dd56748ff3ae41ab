use Rattle.api_forced.proofs.Claiming.{all_owned}
use Rattle.api_forced.proofs.forced.forced.Goals as goal

pub returns : goal.returns
returns c = all_owned c.args.old.now c.args.new.now c.in_ok-all.all.owners.keys c.in_ok-all.all.pairs.items c.in_ok-all.all.claims.keys c.in_ok-pairs.pairs c.in_ok-all.ensures c.in_ok-pairs.ensures
