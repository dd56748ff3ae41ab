use Rattle.std.proofs.Common.{ap, subst, sym}
use Rattle.go_model.specs.declared.types.package.Package.{Package}
use Rattle.go_model.specs.worlds.Worlds.{IsWorld, with_package}
use Rattle.go_sources.specs.UnitSources.{source_of}
use Rattle.go_typings.specs.PackageWorlds.{over}
use Rattle.go_work.proofs.in_turn.add_next.Goals as goal

pub add-requires : goal.add-requires
add-requires g c =
    subst (λ (p : Package). IsWorld (with_package c.args.checked.now.world p c.is_public.result)) (sym (ap (λ r. r.0) c.into_parts-package.ensures))
    (c.joins_world.ensures (over c.args.bits c.args.checked.now.world) (source_of c.args.«unit») c.in-Ok.found.«package» c.is_public.result c.packages-packages.ensures.world c.requires.path.pathed c.requires.path.foreign
    c.requires.absent c.in-Ok.ensures.answers)
