use Rattle.go_selectors.proofs.Noting.{removes_at}
use Rattle.go_selectors.proofs.candidates.hide.Goals as goal

pub returns : goal.returns
returns c = removes_at c.args.candidates.now c.remove-hidden.new.self c.args.sel.now c.remove-hidden.ensures.updates
