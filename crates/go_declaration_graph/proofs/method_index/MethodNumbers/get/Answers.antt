use Rattle.std.proofs.Common.{[], ap, ◌∙◌, None, Some}
use Rattle.std.specs.Option.{unwrap_or}
use Rattle.go_rules.proofs.TextEntries.{value_there}
use Rattle.go_declaration_graph.proofs.method_index.MethodNumbers.get.Goals as goal

pub returns-in-None : goal.returns-in-None
returns-in-None c = ap (λ o. unwrap_or o []) (value_there c.args.name.now c.self.inside.entries.entries c.args.self.now c.self.view_is None c.in-None.ensures.value)

pub returns-in-Some : goal.returns-in-Some
returns-in-Some c = c.items.ensures ∙ ap (λ o. unwrap_or o []) (value_there c.args.name.now c.self.inside.entries.entries c.args.self.now c.self.view_is (Some c.in-Some.numbers.now) c.in-Some.ensures.value)
