use Rattle.go_existence.proofs.OrderedTexts.{sorted_texts}
use Rattle.go_existence.proofs.laws.sorted_texts.Goals as goal

pub returns : goal.returns
returns c = λ texts. sorted_texts texts
