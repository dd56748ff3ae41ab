use Rattle.units.proofs.answer.of_trees.Goals as goal

pub features-requires-after_bounds : goal.features-requires-after_bounds
features-requires-after_bounds g c κs within = λ u h.
    let p = c.unit_paths.ensures c.args.platform c.items.result.now c.args.tree.now c.args.std_tree.now c.in-Ok.units c.requires.tree c.requires.std c.requires.module_path c.in-Ok.ensures u h in
    record { pathed = p.0; foreign = p.1 }
