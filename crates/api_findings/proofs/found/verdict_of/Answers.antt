use Rattle.std.proofs.Common.{◌≢◌, [], Some, refl}
use Rattle.api_findings.proofs.FoundOn.{both_found}
use Rattle.api_findings.proofs.LeftOutPlatforms.{both_left_out}
use Rattle.go_base.specs.Lists.{Has}
use Rattle.go_model.specs.files.Platforms.{bits_of}
use Rattle.go_std_worlds.specs.TwoModules.{AreOfTwoModules}
use Rattle.go_units.specs.declared.unit.«Unit».{«Unit» as PackageUnit}
use Rattle.api_findings.proofs.found.verdict_of.Goals as goal

pub compared-requires-clause-shared : goal.compared-requires-clause-shared
compared-requires-clause-shared c =
    let old = c.requires.old.world in
    let new = c.requires.new.world in
    let two : AreOfTwoModules c.args.platform c.args.trees.now.barred.now c.args.trees.now.std_tree.now c.args.old_tree.now c.args.trees.now.tree.now old.0 new.0 = record { old_barred = c.requires.old_tree.2; new_barred = c.requires.trees.is_barred; old_units = old.1; new_units = new.1 } in
    let old_paths : (u : PackageUnit) → Has old.0.packages u → u.path ≢ [] = λ u h. (c.unit_paths.ensures c.args.platform c.args.trees.now.barred.now c.args.old_tree.now c.args.trees.now.std_tree.now old.0 c.requires.old_tree.0 c.requires.trees.is_std c.requires.old_tree.1 old.1 u h).0 in
    let new_paths : (u : PackageUnit) → Has new.0.packages u → u.path ≢ [] = λ u h. (c.unit_paths.ensures c.args.platform c.args.trees.now.barred.now c.args.trees.now.tree.now c.args.trees.now.std_tree.now new.0 c.requires.trees.is_tree c.requires.trees.is_std c.requires.trees.is_named new.1 u h).0 in
    record {
      sides = c.same_std_packages.ensures.sides c.args.platform c.args.trees.now.barred.now c.args.trees.now.std_tree.now c.args.old_tree.now c.args.trees.now.tree.now old.0 new.0 (bits_of c.args.platform) c.args.old_world.now c.args.new_world.now two old_paths new_paths old.2 new.2;
      same = c.same_std_packages.ensures.same c.args.platform c.args.trees.now.barred.now c.args.trees.now.std_tree.now c.args.old_tree.now c.args.trees.now.tree.now old.0 new.0 (bits_of c.args.platform) c.args.old_world.now c.args.new_world.now two old_paths new_paths old.2 new.2;
    }

pub compared-requires-clause-old : goal.compared-requires-clause-old
compared-requires-clause-old c = c.requires.old.lines

pub compared-requires-clause-new : goal.compared-requires-clause-new
compared-requires-clause-new c = c.requires.new.lines

pub returns-in-Ok-clause-answer : goal.returns-in-Ok-clause-answer
returns-in-Ok-clause-answer c =
    both_found c.args.trees.now.barred.now c.args.trees.now.tree.now c.args.trees.now.std_tree.now c.args.platform c.args.old_tree.now c.args.old_world.now c.requires.old.world c.args.new_world.now c.in-Ok.found c.requires.new.world c.in-Ok.ensures.found

pub returns-in-Ok-clause-left_out : goal.returns-in-Ok-clause-left_out
returns-in-Ok-clause-left_out c =
    both_left_out c.args.trees.now.barred.now c.args.trees.now.std_tree.now (Some c.args.old_tree.now) c.args.trees.now.tree.now c.args.old_tree.now c.args.platform c.args.old.now.left_out c.args.new.left_out c.in-Ok.found.left_out refl c.requires.old.left_out c.requires.new.left_out c.in-Ok.ensures.left_out
