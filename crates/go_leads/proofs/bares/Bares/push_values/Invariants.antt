use Rattle.std.proofs.Common.{◌≡◌, ◌++◌, drop}
use Rattle.go_leads.specs.inner.Bares.{bare_values, bares_in}
use Rattle.go_type_terms.specs.Answers.{env_in}
use Rattle.go_leads.proofs.bares.Bares.push_values.Given as goal

abbrev pub invariant-loop-element : goal.invariant-loop-element
invariant-loop-element l = bares_in l.self ++ bare_values (env_in l.context) l.term (drop l.element-index l.elements) ≡ bares_in l.initial.self ++ bare_values (env_in l.context) l.term l.elements
