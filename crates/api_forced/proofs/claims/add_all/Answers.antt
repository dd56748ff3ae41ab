use Rattle.std.proofs.Common.{take, ◌+◌, get_or}
use Rattle.std.proofs.lemmas.List.{take_more}
use Rattle.api_forced.specs.inner.Claims.{IsClaimOf}
use Rattle.api_forced.proofs.Claiming.{claims_of_none, claims_of_more}
use Rattle.api_forced.proofs.claims.add_all.Goals as goal

pub loop-pair-init : goal.loop-pair-init
loop-pair-init c = claims_of_none (IsClaimOf c.args.own.now.items c.args.leader) c.args.claims.now.keys

pub loop-pair-preserved : goal.loop-pair-preserved
loop-pair-preserved c = claims_of_more (IsClaimOf c.args.own.now.items c.args.leader) (take c.loop-pair.pair-index c.args.numbers.now) (take (c.loop-pair.pair-index + 1) c.args.numbers.now) (get_or c.args.numbers.now c.loop-pair.pair-index 0) c.args.claims.now.keys c.loop-pair.claims.keys c.add_led.new.claims.keys (take_more c.args.numbers.now c.loop-pair.pair-index 0 c.loop-pair-test.true) c.loop-pair.invariant c.in_ok-add_led.ensures
