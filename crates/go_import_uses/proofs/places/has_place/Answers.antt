use Rattle.std.proofs.Common.{sym, ◌∙◌}
use Rattle.go_import_uses.proofs.SelectedPlaces.{key_has, has_key}
use Rattle.go_import_uses.proofs.places.has_place.Goals as goal

pub returns : goal.returns
returns c = ((λ h. key_has c.args.places.now.keys c.args.place (sym c.contains.ensures ∙ h)), (λ h. c.contains.ensures ∙ has_key c.args.places.now.keys c.args.place h))
