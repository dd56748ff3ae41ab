use Rattle.std.proofs.Common.{sym, ◌∙◌}
use Rattle.go_load.proofs.Members.{has_key, key_has}
use Rattle.go_load.proofs.walk.has_name.Goals as goal

pub returns : goal.returns
returns c = ((λ h. has_key c.args.names.now.keys c.args.name.now (sym c.contains.ensures ∙ h)), (λ h. c.contains.ensures ∙ key_has c.args.names.now.keys c.args.name.now h))
