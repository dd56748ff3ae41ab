use Rattle.api_lines.proofs.Shares.{with_next}
use Rattle.api_lines.proofs.platform_lines.PlatformLines.with.Goals as goal

pub invariant_of-result : goal.invariant_of-result
invariant_of-result c = (with_next c.self.inside.common c.args.lines c.self.inside.own c.args.self c.self.view_is c.self.invariant c.requires
    c.in_ok-split.field-0.shared c.in_ok-split.field-0.leaving c.in_ok-split.field-0.rest c.into_all-shared.result c.in_ok-split.ensures.shared c.in_ok-split.ensures.leaving c.in_ok-split.ensures.rest c.in_ok-split.ensures.first c.in_ok-split.ensures.second c.into_all-shared.ensures
    c.items-2.result.now c.in_ok-own.own c.items-2.ensures c.in_ok-own.ensures c.push.new.self c.in_ok-push.ensures.ok).0

pub returns : goal.returns
returns c = (with_next c.self.inside.common c.args.lines c.self.inside.own c.args.self c.self.view_is c.self.invariant c.requires
    c.in_ok-split.field-0.shared c.in_ok-split.field-0.leaving c.in_ok-split.field-0.rest c.into_all-shared.result c.in_ok-split.ensures.shared c.in_ok-split.ensures.leaving c.in_ok-split.ensures.rest c.in_ok-split.ensures.first c.in_ok-split.ensures.second c.into_all-shared.ensures
    c.items-2.result.now c.in_ok-own.own c.items-2.ensures c.in_ok-own.ensures c.push.new.self c.in_ok-push.ensures.ok).1
