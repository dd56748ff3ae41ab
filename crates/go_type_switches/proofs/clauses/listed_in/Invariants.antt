use Rattle.std.proofs.Common.{drop}
use Rattle.go_type_terms.specs.Answers.{env_in}
use Rattle.go_type_switches.proofs.Listing.{Lists}
use Rattle.go_type_switches.proofs.clauses.listed_in.Given as goal

abbrev pub invariant-loop-clause : goal.invariant-loop-clause
invariant-loop-clause l = Lists (env_in l.context) l.interface l.clauses (drop l.clause-index l.clauses) l.all
