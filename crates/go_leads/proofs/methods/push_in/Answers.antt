use Rattle.go_leads.specs.inner.Chains.{FoundIn}
use Rattle.go_leads.proofs.GrownKeys.{when_ok}
use Rattle.go_leads.proofs.GrownMethods.{owner_grows, owner_none}
use Rattle.go_leads.proofs.Walks.{grows_none}
use Rattle.go_rules.specs.Environments.{selector_of}
use Rattle.go_type_terms.specs.Answers.{env_in}
use Rattle.std.proofs.Common.{ap, refl, ◌∙◌}
use Rattle.go_leads.proofs.methods.push_in.Goals as goal

pub returns-in-Some : goal.returns-in-Some
returns-in-Some c =
    let E = env_in c.args.context.now in
    when_ok c.push_method.result
    (owner_grows E (selector_of E c.args.name.now.text) c.args.term.now c.in_ok-answer.answer c.in-Some.owner.now c.in_ok-sel.sel c.args.methods.now c.push_method.new.methods (c.in_ok-sel.ensures ∙ ap (selector_of E) c.bytes.ensures) c.in_ok-answer.ensures c.in-Some.ensures)
    c.push_method.ensures

pub returns-in-None : goal.returns-in-None
returns-in-None c =
    let E = env_in c.args.context.now in
    let s = selector_of E c.args.name.now.text in
    grows_none (FoundIn E s c.args.term.now) c.args.methods.now c.args.methods.now refl (owner_none E s c.args.term.now c.in_ok-answer.answer c.in_ok-sel.sel (c.in_ok-sel.ensures ∙ ap (selector_of E) c.bytes.ensures) c.in_ok-answer.ensures c.in-None.ensures)
