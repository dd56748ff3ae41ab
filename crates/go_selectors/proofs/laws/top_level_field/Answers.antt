use Rattle.go_selectors.proofs.Fields.{field_found}
use Rattle.go_selectors.proofs.laws.top_level_field.Goals as goal

pub returns : goal.returns
returns c = λ T at hidden fs f u a n. field_found T at fs f u a n hidden
