use Rattle.std.proofs.Common.{◌∷◌, [], ◌++◌, ap, ◌∙◌}
use Rattle.std.proofs.lemmas.Result.{on_ok_weaker}
use Rattle.std.specs.Option.{unwrap_or}
use Rattle.go_rules.specs.Names.{with_value}
use Rattle.go_rules.proofs.TextEntries.{value_there, written}
use Rattle.go_declared.proofs.methods.DeclaredMethods.push_row.Goals as goal

pub returns-in-Some : goal.returns-in-Some
returns-in-Some c =
    let es = c.self.inside.entries.entries in
    let there = value_there c.args.name.now es c.args.self.now c.self.view_is _ c.in-Some.ensures.value in
    on_ok_weaker c.push.result (λ pushed.
    (c.get_mut.follows.holds c.push.new.self).0
    ∙ written c.args.name.now es c.args.self.now c.self.view_is c.push.new.self c.in-Some.rows.now c.get_mut.ensures.ordered c.in-Some.ensures.value
    ∙ ap (λ w. with_value c.args.self.now c.args.name.now w) (pushed ∙ ap (λ r. unwrap_or r [] ++ c.args.row ∷ []) there)) c.push.ensures.ok

pub returns : goal.returns
returns c =
    let absent = value_there c.args.name.now c.self.inside.entries.entries c.args.self.now c.self.view_is _ c.in_default.ensures.value in
    on_ok_weaker c.put.result (λ put.
    put
    ∙ ap (λ n. with_value n.entries c.args.name.now c.push-2.new.self) c.get_mut.follows.holds-at-none
    ∙ ap (λ n. with_value n c.args.name.now c.push-2.new.self) c.self.view_is
    ∙ ap (λ w. with_value c.args.self.now c.args.name.now w) (c.in_ok-push.ensures.ok ∙ ap (λ n. n ++ c.args.row ∷ []) c.new-rows.ensures ∙ ap (λ r. unwrap_or r [] ++ c.args.row ∷ []) absent)) c.put.ensures
