use Rattle.go_sources.specs.UnitSources.{source_of}
use Rattle.go_typings.specs.PackageWorlds.{is_public, over}
use Rattle.go_work.proofs.typed.add_next.Goals as goal

pub add-requires : goal.add-requires
add-requires g c =
    let t = c.args.typed.now in
    c.joins_world.ensures (over t.bits t.world) (source_of c.args.«unit») c.in-Ok.found.«package» (is_public (source_of c.args.«unit»)) c.packages-packages.ensures.world c.requires.path.pathed c.requires.path.foreign c.requires.absent c.in-Ok.ensures.answers
