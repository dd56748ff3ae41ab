use Rattle.api_lines.proofs.Shares.{none_shared}
use Rattle.api_lines.proofs.platform_lines.PlatformLines.new.Goals as goal

pub invariant_of-result : goal.invariant_of-result
invariant_of-result c = none_shared c.new.result c.new-2.result c.new.ensures c.new-2.ensures
