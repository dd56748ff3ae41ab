use Rattle.go_unit_outcomes.proofs.FileTokens.{tokens_or_bad}
use Rattle.go_unit_outcomes.proofs.laws.tokens_or_bad_offset.Goals as goal

pub returns : goal.returns
returns c = λ bytes. tokens_or_bad bytes
