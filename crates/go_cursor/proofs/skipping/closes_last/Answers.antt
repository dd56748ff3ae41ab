use Rattle.go_cursor.proofs.Skips.{closes_one}
use Rattle.go_cursor.proofs.skipping.closes_last.Goals as goal

pub returns-in-Some : goal.returns-in-Some
returns-in-Some c = closes_one c.args.sign c.in-Some.closing c.args.wanted.now.items c.pop.new.self.items c.eq.result c.in-Some.ensures.items c.eq.ensures
