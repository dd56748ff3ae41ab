use Rattle.std.proofs.Common.{◌∙◌, ap, List}
use Rattle.go_base.specs.Keys.{first_with}
use Rattle.go_base.proofs.Ordered.{each_item}
use Rattle.go_model.specs.declared.types.package.Package.{Package}
use Rattle.go_model.specs.worlds.Worlds.{IsPackage, table_of, path_of}
use Rattle.go_model.proofs.types.world.World.package.Goals as goal

pub returns-clause-kept : goal.returns-clause-kept
returns-clause-kept c =
    each_item path_of (IsPackage (table_of c.args.self.now.packages)) c.args.self.now.packages c.args.path.now c.find_key.result
    (c.find_key.ensures ∙ ap (λ (w : List Package). first_with path_of w c.args.path.now) c.packages.ensures.packages)
    c.packages.ensures.world.packaged
