use Rattle.api_breaks.proofs.PackageBreaks.{both_lost}
use Rattle.api_breaks.proofs.packages.push_both.Goals as goal

pub returns : goal.returns
returns c = both_lost c.args.path.now c.args.before.now c.args.after.now c.args.breaks.now.items c.push_renamed.new.breaks.items c.push_objects.new.breaks.items c.in_ok-push_renamed.ensures c.in_ok-push_objects.ensures
