use Rattle.go_declarations.specs.Listings.{declarations_of}
use Rattle.go_packages.proofs.PlacedNames.{placed_at}
use Rattle.go_packages.proofs.objects.objects.Goals as goal

pub entity-requires : goal.entity-requires
entity-requires c = placed_at (declarations_of c.args.declarations.now) c.args.listed.now c.loop-name.name-index c.name-item.result c.loop-name-test.true c.name-item.is c.requires
