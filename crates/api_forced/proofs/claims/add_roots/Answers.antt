use Rattle.std.proofs.Common.{take, ◌+◌, get_or}
use Rattle.std.proofs.lemmas.List.{take_more}
use Rattle.api_forced.proofs.Claiming.{of_root, no_claim, claims_of_none, claims_of_more, roots_all}
use Rattle.api_forced.proofs.claims.add_roots.Goals as goal

pub loop-root-init : goal.loop-root-init
loop-root-init c = claims_of_none (of_root c.args.own.now.items) c.args.claims.now.keys

pub loop-root-preserved : goal.loop-root-preserved
loop-root-preserved c = claims_of_more (of_root c.args.own.now.items) (take c.loop-root.root-index c.deref-root-items.result.now) (take (c.loop-root.root-index + 1) c.deref-root-items.result.now) (get_or c.deref-root-items.result.now c.loop-root.root-index no_claim) c.args.claims.now.keys c.loop-root.claims.keys c.add_led.new.claims.keys (take_more c.deref-root-items.result.now c.loop-root.root-index no_claim c.loop-root-test.true) c.loop-root.invariant c.in_ok-add_led.ensures

pub returns : goal.returns
returns c = roots_all c.args.own.now.items c.args.roots.now.items c.deref-root-items.result.now c.loop-root.root-index c.args.claims.now.keys c.loop-root.claims.keys c.deref-root-items.ensures.value c.loop-root-test.false c.loop-root.invariant
