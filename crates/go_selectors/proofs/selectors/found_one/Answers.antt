use Rattle.std.proofs.Common.{ap}
use Rattle.go_selectors.specs.Endings.{target_of, owner_of}
use Rattle.go_selectors.proofs.selectors.found_one.Goals as goal

pub returns-then-hidden : goal.returns-then-hidden
returns-then-hidden c = (c.args.ending.now.through, owner_of c.in-Method.owner, c.in-Method.pointer, c.in-Method.signature.now, ap (λ t. record { through = c.args.ending.now.through; target = target_of t }) c.in-Method.is, c.if-hidden.true)
