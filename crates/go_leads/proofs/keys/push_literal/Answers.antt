use Rattle.go_leads.specs.Listed.{names_of}
use Rattle.go_leads.specs.inner.Bares.{bares_in}
use Rattle.go_leads.proofs.GrownKeys.{literal_grows, when_ok}
use Rattle.go_type_terms.specs.Answers.{env_in}
use Rattle.go_leads.proofs.keys.push_literal.Goals as goal

pub returns : goal.returns
returns c = when_ok c.push_bares.result
    (literal_grows (env_in c.args.context.now) c.args.elements.now (names_of c.args.keys.now) (names_of c.push_bares.new.keys) (bares_in c.new-bares.result) (bares_in c.push.new.self) c.new-bares.ensures c.args.term.now c.in_ok-push.ensures)
    c.push_bares.ensures
