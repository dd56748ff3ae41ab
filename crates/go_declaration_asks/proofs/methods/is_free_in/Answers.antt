use Rattle.std.proofs.Common.{ap, ◌∙◌}
use Rattle.go_model.specs.declared.types.term.Term.{out-Term}
use Rattle.go_rules.specs.Expressions.{is_blank}
use Rattle.go_declaration_asks.proofs.MethodFacts.{free_blank, not_only, only_apart}
use Rattle.go_declaration_asks.proofs.methods.is_free_in.Goals as goal

pub returns-then-is_blank : goal.returns-then-is_blank
returns-then-is_blank c = free_blank c.args.base.now (out-Term c.args.level.now) c.args.name.now c.is_blank.result c.if-is_blank.true (c.is_blank.ensures ∙ ap is_blank c.bytes.ensures)

pub returns-then-not-base : goal.returns-then-not-base
returns-then-not-base c = not_only c.args.base.now (out-Term c.args.level.now) c.args.name.now c.is_blank.result c.if-is_blank.false (c.is_blank.ensures ∙ ap is_blank c.bytes.ensures) c.if-not-base.true

pub returns : goal.returns
returns c = only_apart c.args.base.now (out-Term c.args.level.now) c.args.name.now c.is_blank.result c.if-is_blank.false (c.is_blank.ensures ∙ ap is_blank c.bytes.ensures) c.if-not-base.false c.is_apart.result c.is_apart.ensures
