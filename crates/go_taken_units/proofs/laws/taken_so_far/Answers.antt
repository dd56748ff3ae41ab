use Rattle.std.proofs.Common.{map}
use Rattle.go_sources.specs.UnitSources.{source_of}
use Rattle.go_taken_packages.specs.ToldPackages.{is_among}
use Rattle.go_taken_units.proofs.TakenSoFar.{nothing_taken, one_more, takes_over}
use Rattle.go_taken_units.proofs.laws.taken_so_far.Goals as goal

pub returns-clause-none : goal.returns-clause-none
returns-clause-none c = λ earlier. nothing_taken (map source_of earlier)

pub returns-clause-fresh : goal.returns-clause-fresh
returns-clause-fresh c = λ earlier before paths u t. one_more (map source_of earlier) before (is_among paths) u t

pub returns-clause-taken : goal.returns-clause-taken
returns-clause-taken c = λ earlier before paths u m own t over. takes_over earlier before paths u m own t over
