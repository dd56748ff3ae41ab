use Rattle.api_lines.proofs.Growing.{grows_member_back}
use Rattle.api_lines.proofs.ordered.add_all.Goals as goal

pub loop-line-preserved : goal.loop-line-preserved
loop-line-preserved c = grows_member_back c.loop-line.yielded c.in-Some.line c.args.merged.now c.loop-line.merged c.add.new.self c.loop-line.invariant c.in_ok-add.ensures
