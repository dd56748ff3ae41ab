use Rattle.std.proofs.Common.{subst}
use Rattle.go_model.specs.worlds.Worlds.{Packages}
use Rattle.go_selectors.specs.Candidates.{HoldMethodSet}
use Rattle.api_correspond.specs.Publics.{types_of}
use Rattle.api_further_breaks.proofs.implementing.push_called.Goals as goal

pub returns : goal.returns
returns c = (
  c.in_ok-callable.callable,
  c.in_ok-called.called,
  subst (λ (w : Packages). HoldMethodSet (types_of w) c.args.before.now c.in_ok-callable.callable) c.new-olds.ensures c.in_ok-callable.ensures,
  subst (λ (w : Packages). HoldMethodSet (types_of w) c.args.after.now c.in_ok-called.called) c.new-news.ensures c.in_ok-called.ensures,
  c.in_ok-push_methods.ensures,
)
