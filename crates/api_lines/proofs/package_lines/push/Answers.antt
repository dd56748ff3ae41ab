use Rattle.api_lines.proofs.Growing.{grows_pushed}
use Rattle.api_lines.proofs.package_lines.push.Goals as goal

pub returns : goal.returns
returns c = grows_pushed c.args.all.now.items c.push.new.self.items c.args.line c.in_ok-push.ensures.items
