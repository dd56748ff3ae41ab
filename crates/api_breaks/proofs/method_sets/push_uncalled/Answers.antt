use Rattle.std.proofs.Common.{subst}
use Rattle.go_model.specs.worlds.Worlds.{Packages}
use Rattle.go_selectors.specs.Candidates.{HoldMethodSet}
use Rattle.api_correspond.specs.Publics.{types_of}
use Rattle.api_breaks.proofs.method_sets.push_uncalled.Goals as goal

pub returns : goal.returns
returns c = (c.in_ok-callable.callable, subst (λ (w : Packages). HoldMethodSet (types_of w) c.args.after.now c.in_ok-callable.callable) c.new-types.ensures c.in_ok-callable.ensures, c.in_ok-push_all_lost.ensures)
