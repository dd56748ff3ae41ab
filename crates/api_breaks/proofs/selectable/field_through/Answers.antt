use Rattle.std.proofs.Common.{subst}
use Rattle.go_model.specs.worlds.Worlds.{Packages}
use Rattle.go_model.specs.types.Selectors.{Finds}
use Rattle.api_correspond.specs.Publics.{types_of}
use Rattle.api_breaks.proofs.SelectableLosses.{through_told}
use Rattle.api_breaks.proofs.selectable.field_through.Goals as goal

pub returns : goal.returns
returns c = through_told (types_of c.args.world.now) c.args.sel.now c.args.term.now c.in_ok-found.found c.args.least c.through_of.result (subst (λ (w : Packages). Finds (types_of w) c.args.sel.now c.args.term.now c.in_ok-found.found) c.new.ensures c.in_ok-found.ensures) c.through_of.ensures
