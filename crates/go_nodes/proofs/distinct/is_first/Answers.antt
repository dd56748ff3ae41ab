use Rattle.std.proofs.Common.{ap, ◌∙◌}
use Rattle.go_rules.specs.Expressions.{is_blank}
use Rattle.go_nodes.proofs.DistinctNames.{notes_blank, notes_other}
use Rattle.go_nodes.proofs.distinct.is_first.Goals as goal

pub returns-then-is_blank : goal.returns-then-is_blank
returns-then-is_blank c = notes_blank c.args.names.now.keys c.args.name.now c.is_blank.result c.if-is_blank.true (c.is_blank.ensures ∙ ap is_blank c.bytes.ensures)

pub returns : goal.returns
returns c = notes_other c.args.names.now.keys c.args.name.now c.add_new.new.names.keys c.is_blank.result c.in_ok-is_new.is_new c.if-is_blank.false (c.is_blank.ensures ∙ ap is_blank c.bytes.ensures) c.in_ok-is_new.ensures
