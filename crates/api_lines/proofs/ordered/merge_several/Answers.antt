use Rattle.api_lines.proofs.Merged.{merged_by}
use Rattle.api_lines.proofs.ordered.merge_several.Goals as goal

pub returns : goal.returns
returns c =
    merged_by c.args.first c.args.others c.items.result.now c.args.platform c.args.platforms.now c.in_ok-common.common c.items-2.result.now c.new-merged.result c.common_lines.new.merged c.add_own.new.merged c.add_all.new.merged c.in_ok-merged.merged
    c.items.ensures c.items-2.ensures c.new-merged.ensures c.requires.plain c.in_ok-common.ensures.common c.in_ok-common.ensures.own c.in_ok-add_own.ensures c.in_ok-add_all.ensures c.in_ok-merged.ensures
