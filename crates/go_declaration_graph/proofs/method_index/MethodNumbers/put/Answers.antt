use Rattle.std.proofs.Common.{ap, ◌∙◌}
use Rattle.go_rules.specs.Names.{with_value}
use Rattle.go_declaration_graph.proofs.method_index.MethodNumbers.put.Goals as goal

pub returns : goal.returns
returns c = c.in_ok-insert.ensures.entries ∙ ap (λ names. with_value names c.args.name c.args.numbers) c.self.view_is
