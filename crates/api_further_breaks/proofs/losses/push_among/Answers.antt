use Rattle.api_further_breaks.proofs.AllBreaks.{among_exact}
use Rattle.api_further_breaks.proofs.losses.push_among.Goals as goal

pub returns : goal.returns
returns c = among_exact c.args.old.now c.args.new.now c.args.pairs.now c.requires.owned c.args.pair.now c.args.losses.now.items c.push_implementing.new.losses.items c.push_partners.new.losses.items c.in_ok-push_implementing.ensures c.in_ok-push_partners.ensures
