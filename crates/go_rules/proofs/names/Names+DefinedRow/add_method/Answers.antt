use Rattle.std.proofs.Common.{ap, ◌∙◌}
use Rattle.std.proofs.lemmas.Result.{on_ok_weaker, on_err_weaker}
use Rattle.go_rules.proofs.TextEntries.{value_there, written, unwritten}
use Rattle.go_rules.specs.Names.{with_value}
use Rattle.go_rules.specs.Scopes.{added_to}
use Rattle.go_rules.proofs.names.Names+DefinedRow.add_method.Goals as goal

pub returns-in-Some-clause-ok : goal.returns-in-Some-clause-ok
returns-in-Some-clause-ok c =
    let es = c.self.inside.entries.entries in
    let there = value_there c.args.name.now es c.args.self.now c.self.view_is _ c.in-Some.ensures.value in
    on_ok_weaker c.add_method.result (λ added.
    (c.get_mut.follows.holds c.add_method.new.self).0
    ∙ written c.args.name.now es c.args.self.now c.self.view_is c.add_method.new.self c.in-Some.row.now c.get_mut.ensures.ordered c.in-Some.ensures.value
    ∙ ap (with_value c.args.self.now c.args.name.now) added
    ∙ ap (λ x. added_to c.args.self.now c.args.name.now c.args.method x) there) c.add_method.ensures.ok

pub returns-in-Some-clause-err : goal.returns-in-Some-clause-err
returns-in-Some-clause-err c =
    on_err_weaker c.add_method.result (λ kept.
    (c.get_mut.follows.holds c.add_method.new.self).0
    ∙ unwritten c.args.name.now c.self.inside.entries.entries c.args.self.now c.self.view_is c.add_method.new.self c.in-Some.row.now kept c.in-Some.ensures.value) c.add_method.ensures.err

pub returns-clause-ok : goal.returns-clause-ok
returns-clause-ok c =
    let absent = value_there c.args.name.now c.self.inside.entries.entries c.args.self.now c.self.view_is _ c.in_default.ensures.value in
    ap (λ n. n.entries) c.get_mut.follows.holds-at-none
    ∙ c.self.view_is
    ∙ ap (λ x. added_to c.args.self.now c.args.name.now c.args.method x) absent
