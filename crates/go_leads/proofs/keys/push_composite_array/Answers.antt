use Rattle.go_leads.specs.Listed.{names_of}
use Rattle.go_leads.proofs.GrownKeys.{composite_array_grows, when_ok}
use Rattle.go_type_terms.specs.Answers.{env_in}
use Rattle.go_leads.proofs.keys.push_composite_array.Goals as goal

pub returns-in-Ok : goal.returns-in-Ok
returns-in-Ok c = when_ok c.push_array.result
    (composite_array_grows (env_in c.args.context.now) c.args.elements.now (names_of c.args.keys.now) (names_of c.push_array.new.keys) c.args.form.now c.in-Ok.term c.in-Ok.ensures)
    c.push_array.ensures
