use Rattle.go_model.specs.worlds.Worlds.{Packages}
use Rattle.go_model.specs.types.Selectors.{Finds}
use Rattle.go_selectors.proofs.UniqueFind.{found_once}
use Rattle.std.proofs.Common.{subst}
use Rattle.api_correspond.specs.Publics.{types_of}
use Rattle.api_correspond.proofs.Leading.{field_told}
use Rattle.api_correspond.proofs.members.field_of.Goals as goal

pub returns : goal.returns
returns c = field_told (types_of c.args.world.now) c.args.sel.now c.args.term.now (found_once (types_of c.args.world.now) c.args.sel.now c.args.term.now) c.in_ok-found.found c.args.least c.in_ok-answer.answer (subst (λ (w : Packages). Finds (types_of w) c.args.sel.now c.args.term.now c.in_ok-found.found) c.new.ensures c.in_ok-found.ensures) c.in_ok-answer.ensures
