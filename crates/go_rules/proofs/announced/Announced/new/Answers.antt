use Rattle.go_rules.proofs.AnnouncedNames.{none_rise}
use Rattle.go_rules.proofs.announced.Announced.new.Goals as goal

pub invariant_of-result : goal.invariant_of-result
invariant_of-result c = none_rise c.new.result.items c.new.ensures.items
