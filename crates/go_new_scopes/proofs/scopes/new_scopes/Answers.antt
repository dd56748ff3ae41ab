use Rattle.std.proofs.Common.{ap, map}
use Rattle.go_declarations.specs.Listings.{declarations_of}
use Rattle.go_sources.specs.UnitSources.{file_of, source_of}
use Rattle.go_typings.specs.Sources.{Setting}
use Rattle.go_new_scopes.proofs.KeptAtFirst.{kept_at_first, made_in_turn}
use Rattle.go_new_scopes.proofs.scopes.new_scopes.Goals as goal

pub returns : goal.returns
returns c =
    let s : Setting = record { world = c.args.world.now; bits = c.args.bits; profile = c.args.profile } in
    let u = source_of c.args.unit.now in
    let ds = declarations_of c.args.tables.now.declarations.now in
    kept_at_first s u c.args.tables.now.names.now c.args.tables.now.methods.now ds c.await_methods.new.env c.requires.listed c.requires.tables.names c.requires.tables.methods
    (made_in_turn s u c.args.tables.now.names.now c.args.tables.now.methods.now ds c.in_ok-path.path (map file_of c.items.result.now) c.new-env.result c.add_files.new.env c.announce.new.env c.declare_types.new.env c.await_methods.new.env
    c.in_ok-path.ensures (ap (map file_of) c.items.ensures) c.new-env.ensures c.in_ok-add_files.ensures c.in_ok-announce.ensures c.in_ok-declare_types.ensures c.in_ok-await_methods.ensures)
