use Rattle.std.proofs.Common.{sym, subst}
use Rattle.go_base.specs.Lists.{Each}
use Rattle.api_lines.specs.Merging.{HasNoContext}
use Rattle.api_lines.proofs.SharedMerge.{order_owns, plain_owns, listed_wholes}
use Rattle.api_lines.proofs.platform_lines.PlatformLines.into_list.Goals as goal

pub merge_ordered-requires-clause-plain : goal.merge_ordered-requires-clause-plain
merge_ordered-requires-clause-plain c = plain_owns c.self.inside.common c.self.inside.own (subst (Each (Each HasNoContext)) (sym c.self.view_is) c.requires.plain)

pub merge_ordered-requires-clause-order : goal.merge_ordered-requires-clause-order
merge_ordered-requires-clause-order c = order_owns c.self.inside.common c.self.inside.own c.self.invariant.1

pub returns : goal.returns
returns c = listed_wholes c.self.inside.common c.in_ok-apart.apart c.self.inside.own c.args.self c.args.platforms.now c.joined.result c.self.view_is c.self.invariant c.requires.some c.requires.same c.requires.plain c.in_ok-apart.ensures c.joined.ensures
