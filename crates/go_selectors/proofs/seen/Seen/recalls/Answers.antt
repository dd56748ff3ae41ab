use Rattle.std.proofs.Common.{subst}
use Rattle.go_selectors.specs.Search.{IsKeyOf}
use Rattle.go_selectors.proofs.Consolidation.{recalled, kept_more}
use Rattle.go_selectors.proofs.seen.Seen.recalls.Goals as goal

pub returns-in_ok-known-in-Some : goal.returns-in_ok-known-in-Some
returns-in_ok-known-in-Some c = λ seen kept k. recalled _ _ _ _ seen kept c.args.spot.now c.in-Some.key _ (subst (IsKeyOf c.args.spot.now) c.in-Some.is c.key_of.ensures) c.in_ok-known-in-Some.ensures k

pub returns-in-None : goal.returns-in-None
returns-in-None c = λ seen kept k. kept_more _ _ seen kept c.args.spot.now k
