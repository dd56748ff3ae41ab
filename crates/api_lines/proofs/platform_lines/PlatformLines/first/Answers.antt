use Rattle.api_lines.proofs.Shares.{one_shared}
use Rattle.api_lines.proofs.platform_lines.PlatformLines.first.Goals as goal

pub invariant_of-result : goal.invariant_of-result
invariant_of-result c = (one_shared c.args.lines c.requires c.new-own.result c.new.result c.push.new.self c.new-own.ensures c.new.ensures c.in_ok-push.ensures.ok).0

pub returns : goal.returns
returns c = (one_shared c.args.lines c.requires c.new-own.result c.new.result c.push.new.self c.new-own.ensures c.new.ensures c.in_ok-push.ensures.ok).1
