use Rattle.std.proofs.Common.{refl}
use Rattle.go_leads.specs.inner.Chains.{FoundOf}
use Rattle.go_leads.proofs.GrownKeys.{when_ok}
use Rattle.go_leads.proofs.GrownMethods.{of_none, type_grows, value_grows}
use Rattle.go_leads.proofs.Walks.{grows_none}
use Rattle.go_rules.specs.Environments.{selector_of}
use Rattle.go_type_terms.specs.Answers.{env_in}
use Rattle.go_leads.proofs.methods.push_of.Goals as goal

pub returns-in-Some : goal.returns-in-Some
returns-in-Some c =
    let E = env_in c.args.context.now in
    when_ok c.push_in.result (type_grows E c.args.operand.now (selector_of E c.args.name.now.text) c.in-Some.term.now c.args.methods.now c.push_in.new.methods c.in-Some.ensures) c.push_in.ensures

pub returns-in-Some-type_of : goal.returns-in-Some-type_of
returns-in-Some-type_of c =
    let E = env_in c.args.context.now in
    when_ok c.push_in-in-Some-type_of.result (value_grows E c.args.operand.now (selector_of E c.args.name.now.text) c.in-Some-type_of.term.now c.args.methods.now c.push_in-in-Some-type_of.new.methods c.in-Some-type_of.ensures) c.push_in-in-Some-type_of.ensures

pub returns-in-None : goal.returns-in-None
returns-in-None c =
    let E = env_in c.args.context.now in
    let s = selector_of E c.args.name.now.text in
    grows_none (FoundOf E c.args.operand.now s) c.args.methods.now c.args.methods.now refl (of_none E c.args.operand.now s c.in_default.ensures c.in-None.ensures)
