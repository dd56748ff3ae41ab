use Rattle.std.proofs.Common.{ap, ◌∙◌}
use Rattle.std.specs.BTreeMap.{is_at}
use Rattle.std.specs.List.{list_any}
use Rattle.go_declaration_graph.specs.declared.field_keys.FieldKey.{FieldKey}
use Rattle.go_declaration_graph.proofs.FieldKeySets.{among, order}
use Rattle.go_declaration_graph.proofs.field_keys.is_among.Goals as goal

pub returns : goal.returns
returns c = c.contains.ensures ∙ ap (λ (k : FieldKey). list_any (is_at (order k)) c.args.keys.now.keys) c.in_ok-key.ensures ∙ among c.args.name.now c.args.keys.now.keys
