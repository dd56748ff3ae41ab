use Rattle.go_leads.specs.Listed.{names_of}
use Rattle.go_leads.specs.inner.Bares.{bares_in}
use Rattle.go_leads.specs.inner.Some.{keys_of}
use Rattle.go_leads.proofs.Walks.{Owes}
use Rattle.go_type_terms.specs.Answers.{env_in}
use Rattle.go_leads.proofs.keys.push_bares.Given as goal

abbrev pub invariant-loop : goal.invariant-loop
invariant-loop l = Owes (keys_of (env_in l.context)) (bares_in l.fn.bares) (bares_in l.bares) (names_of l.initial.keys) (names_of l.keys)
