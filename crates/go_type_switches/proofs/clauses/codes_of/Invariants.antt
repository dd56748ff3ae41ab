use Rattle.std.proofs.Common.{◌≡◌, ◌++◌, drop, map}
use Rattle.go_type_switches.specs.inner.Listing.{code_in}
use Rattle.go_type_switches.proofs.clauses.codes_of.Given as goal

abbrev pub invariant-loop-one : goal.invariant-loop-one
invariant-loop-one l = l.codes ++ map code_in (drop l.one-index l.listed) ≡ map code_in l.listed
