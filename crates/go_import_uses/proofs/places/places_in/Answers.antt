use Rattle.std.proofs.Common.{Bool, arith, ap, map, subst, ◌∙◌}
use Rattle.go_base.specs.Growing.{Grows}
use Rattle.go_declarations.specs.Listings.{declaration_of}
use Rattle.go_import_uses.proofs.SelectedPlaces.{held_more, held_whole}
use Rattle.go_import_uses.specs.inner.SelectedPlaces.{CountsAt}
use Rattle.go_sources.specs.UnitSources.{import_of, source_of}
use Rattle.go_import_uses.proofs.places.places_in.Goals as goal

pub loop-number-preserved : goal.loop-number-preserved
loop-number-preserved c =
    let u = source_of c.args.«unit».now in
    let x = c.index-declarations-number.result in
    held_more u c.args.declarations.now c.args.seen.now c.args.file c.loop-number.number x c.loop-number-test.true c.index-declarations-number.is c.loop-number.places.keys c.add_counted.new.places.keys
    (subst (λ (b : Bool). Grows (CountsAt u b c.args.file (declaration_of x)) c.loop-number.places.keys c.add_counted.new.places.keys) c.flag-is_seen.ensures (c.in_ok-add_counted.ensures u (ap (map import_of) c.in_ok-imports.ensures ∙ c.imports_of.ensures))) c.loop-number.invariant

pub returns : goal.returns
returns c = held_whole (source_of c.args.«unit».now) c.args.declarations.now c.args.seen.now c.args.file c.loop-number.number c.loop-number.places.keys (let h = c.loop-number-test.false in omega (arith, h)) c.loop-number.invariant
