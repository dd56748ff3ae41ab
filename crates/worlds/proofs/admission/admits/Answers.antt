use Rattle.worlds.proofs.Admitted.{admitted}
use Rattle.worlds.proofs.admission.admits.Goals as goal

pub invariant_of-is_met : goal.invariant_of-is_met
invariant_of-is_met c = record { absent = c.is_new.ensures c.if-not-is_new.false }

pub returns : goal.returns
returns c = λ h public. admitted c.args.world.now c.args.added.now c.packages-packages.ensures.world (c.is_new.ensures c.if-not-is_new.false) (c.is_pathed.ensures c.if-not-is_pathed.false).0 (c.is_pathed.ensures c.if-not-is_pathed.false).1 (c.is_met.ensures h) public
