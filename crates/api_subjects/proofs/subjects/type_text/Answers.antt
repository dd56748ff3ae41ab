use Rattle.std.proofs.Common.{ℕ, List, ◌++◌, ap, ◌∙◌}
use Rattle.api_subjects.specs.TypeTexts.{type_text}
use Rattle.api_subjects.specs.inner.Quoting.{quoted}
use Rattle.api_subjects.proofs.Changes.{type_so}
use Rattle.api_subjects.proofs.subjects.type_text.Goals as goal

pub returns : goal.returns
returns c = type_so c.args.term.now c.in_ok-text.text (c.in_ok-text.ensures ∙ c.in_ok-push_type.ensures ∙ ap (λ (w : List ℕ). w ++ type_text quoted c.args.term.now) c.new-out.ensures.items)
