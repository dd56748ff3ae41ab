use Rattle.std.proofs.Common.{◌≡◌, ◌++◌, drop}
use Rattle.go_leads.specs.inner.Bares.{bare_pairs, bares_in}
use Rattle.go_type_terms.specs.Answers.{env_in}
use Rattle.go_leads.proofs.bares.Bares.push_pairs.Given as goal

abbrev pub invariant-loop-element : goal.invariant-loop-element
invariant-loop-element l = bares_in l.self ++ bare_pairs (env_in l.context) l.key l.term (drop l.element-index l.elements) ≡ bares_in l.initial.self ++ bare_pairs (env_in l.context) l.key l.term l.elements
