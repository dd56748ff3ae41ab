use Rattle.api_lines.proofs.Growing.{grows_pushed}
use Rattle.api_judge.proofs.listing.push.Goals as goal

pub returns : goal.returns
returns c = grows_pushed c.args.all.now.items c.push.new.self.items c.args.told c.in_ok-push.ensures.items
