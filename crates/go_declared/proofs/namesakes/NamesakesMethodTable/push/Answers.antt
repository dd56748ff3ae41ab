use Rattle.std.proofs.Common.{[], ap, ◌∙◌}
use Rattle.std.proofs.lemmas.Result.{on_ok_weaker}
use Rattle.std.specs.Option.{unwrap_or}
use Rattle.go_rules.specs.Names.{with_value}
use Rattle.go_rules.proofs.TextEntries.{value_there, written}
use Rattle.go_declared.specs.inner.AddingMethods.{with_row}
use Rattle.go_declared.proofs.namesakes.NamesakesMethodTable.push.Goals as goal

pub returns-in-Some : goal.returns-in-Some
returns-in-Some c =
    let es = c.self.inside.entries.entries in
    let there = value_there c.args.type_name.now es c.args.self.now c.self.view_is _ c.in-Some.ensures.value in
    on_ok_weaker c.push_row.result (λ pushed.
    (c.get_mut.follows.holds c.push_row.new.self).0
    ∙ written c.args.type_name.now es c.args.self.now c.self.view_is c.push_row.new.self c.in-Some.rows.now c.get_mut.ensures.ordered c.in-Some.ensures.value
    ∙ ap (λ w. with_value c.args.self.now c.args.type_name.now w) (pushed ∙ ap (λ r. with_row (unwrap_or r []) c.args.name.now c.args.row) there)) c.push_row.ensures

pub returns : goal.returns
returns c =
    let absent = value_there c.args.type_name.now c.self.inside.entries.entries c.args.self.now c.self.view_is _ c.in_default.ensures.value in
    on_ok_weaker c.put.result (λ put.
    put
    ∙ ap (λ n. with_value n.entries c.args.type_name.now c.push_row-2.new.self) c.get_mut.follows.holds-at-none
    ∙ ap (λ n. with_value n c.args.type_name.now c.push_row-2.new.self) c.self.view_is
    ∙ ap (λ w. with_value c.args.self.now c.args.type_name.now w) (c.in_ok-push_row.ensures ∙ ap (λ n. with_row n c.args.name.now c.args.row) c.new-rows.ensures ∙ ap (λ r. with_row (unwrap_or r []) c.args.name.now c.args.row) absent)) c.put.ensures
