use Rattle.std.proofs.Common.{Some, ap, ◌∙◌}
use Rattle.go_rules.specs.Expressions.{reached}
use Rattle.go_rules.specs.Scopes.{env_of}
use Rattle.go_elements.specs.inner.Elements.{IsIndexBelow}
use Rattle.go_elements.proofs.Indexing.{same_mode}
use Rattle.go_elements.proofs.elements.element_of_array.Goals as goal

pub returns : goal.returns
returns c = same_mode (IsIndexBelow (env_of c.args.context.now.env.now) c.args.index.now (Some c.args.length)) _ _ c.args.element.now c.in_ok-answer.answer (c.reached-by.ensures ∙ ap reached c.is_variable.ensures) c.in_ok-answer.ensures
