use Rattle.go_level_laws.proofs.AddedOrders.{absent, found, held}
use Rattle.go_level_laws.proofs.laws.known_packages.Goals as goal

pub returns-clause-held : goal.returns-clause-held
returns-clause-held c = λ bits us level a n u p own by e f. held bits us level a own by n u p e f

pub returns-clause-found : goal.returns-clause-found
returns-clause-found c = λ bits us level a path p own by e. let t = found bits us level a own by path p e in (t.number, t.typed, (t.source, t.is, t.place))

pub returns-clause-absent : goal.returns-clause-absent
returns-clause-absent c = λ bits us level a n u own by e f. absent bits us level a own by n u e f
