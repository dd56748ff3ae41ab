use Rattle.api_shared_features.proofs.KeptFeatures.{all_features}
use Rattle.api_shared_features.proofs.after.features_over.Goals as goal

pub returns : goal.returns
returns c =
    all_features c.shared_features.ensures.there c.shared_features.ensures.turned c.args.earlier.now.world.now c.args.next.now.world.now c.packages-others.ensures.world c.packages-packages.ensures.world c.requires.plain
    c.in_ok-kept.kept c.in_ok-kept.ensures c.args.lines c.in_ok-stay.stay c.in_ok-fresh.fresh c.in_ok-all.all c.requires.lines c.in_ok-stay.ensures c.in_ok-fresh.ensures c.in_ok-all.ensures
