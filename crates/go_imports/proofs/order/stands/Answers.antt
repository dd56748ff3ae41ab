use Rattle.std.proofs.Common.{sym, ◌∙◌}
use Rattle.go_imports.proofs.Members.{has_key, key_has}
use Rattle.go_imports.proofs.order.stands.Goals as goal

pub returns : goal.returns
returns c = ((λ h. key_has c.args.standing.now.keys c.args.node (sym c.contains.ensures ∙ h)), (λ h. c.contains.ensures ∙ has_key c.args.standing.now.keys c.args.node h))
