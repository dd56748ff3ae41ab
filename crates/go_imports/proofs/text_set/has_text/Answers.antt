use Rattle.std.proofs.Common.{sym, ◌∙◌}
use Rattle.go_imports.proofs.TextKeys.{has_key, key_has}
use Rattle.go_imports.proofs.text_set.has_text.Goals as goal

pub returns : goal.returns
returns c = ((λ h. key_has c.args.set.now.keys c.args.text.now (sym c.contains.ensures ∙ h)), (λ h. c.contains.ensures ∙ has_key c.args.set.now.keys c.args.text.now h))
