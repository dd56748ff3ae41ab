use Rattle.std.proofs.Common.{◌∷◌, [], ◌++◌, ap, ◌∙◌}
use Rattle.std.proofs.lemmas.Result.{on_ok_weaker, on_err_weaker}
use Rattle.std.specs.Option.{unwrap_or}
use Rattle.go_rules.proofs.TextEntries.{value_there, written, unwritten}
use Rattle.go_rules.specs.Names.{with_value}
use Rattle.go_rules.proofs.names.Names+Awaited.push.Goals as goal

pub returns-in-Some-clause-ok : goal.returns-in-Some-clause-ok
returns-in-Some-clause-ok c =
    let es = c.self.inside.entries.entries in
    let there = value_there c.args.name es c.args.self.now c.self.view_is _ c.in-Some.ensures.value in
    on_ok_weaker c.push.result (λ pushed.
    (c.get_mut.follows.holds c.push.new.self).0
    ∙ written c.args.name es c.args.self.now c.self.view_is c.push.new.self c.in-Some.awaited.now c.get_mut.ensures.ordered c.in-Some.ensures.value
    ∙ ap (λ w. with_value c.args.self.now c.args.name w) (pushed ∙ ap (λ r. unwrap_or r [] ++ c.args.sel ∷ []) there)) c.push.ensures.ok

pub returns-in-Some-clause-err : goal.returns-in-Some-clause-err
returns-in-Some-clause-err c =
    on_err_weaker c.push.result (λ kept.
    (c.get_mut.follows.holds c.push.new.self).0
    ∙ unwritten c.args.name c.self.inside.entries.entries c.args.self.now c.self.view_is c.push.new.self c.in-Some.awaited.now kept c.in-Some.ensures.value) c.push.ensures.err

pub returns-clause-ok : goal.returns-clause-ok
returns-clause-ok c =
    let absent = value_there c.args.name c.self.inside.entries.entries c.args.self.now c.self.view_is _ c.in_default.ensures.value in
    on_ok_weaker c.put.result (λ put.
    put
    ∙ ap (λ n. with_value n.entries c.args.name c.push-2.new.self) c.get_mut.follows.holds-at-none
    ∙ ap (λ n. with_value n c.args.name c.push-2.new.self) c.self.view_is
    ∙ ap (λ w. with_value c.args.self.now c.args.name w) (c.in_ok-push.ensures.ok ∙ ap (λ n. n ++ c.args.sel ∷ []) c.new-awaited.ensures ∙ ap (λ r. unwrap_or r [] ++ c.args.sel ∷ []) absent)) c.put.ensures.ok
