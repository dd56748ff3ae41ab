use Rattle.go_tags.proofs.OneHeader.{text_once}
use Rattle.go_tags.proofs.laws.one_expression.Goals as goal

pub returns : goal.returns
returns c = text_once
