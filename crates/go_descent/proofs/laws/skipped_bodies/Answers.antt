use Rattle.go_cursor.proofs.Runs.{complete_skipped, sound_skipped}
use Rattle.go_descent.proofs.BalancedStatements.{literals_skipped}
use Rattle.go_descent.proofs.laws.skipped_bodies.Goals as goal

pub returns-clause-sound : goal.returns-clause-sound
returns-clause-sound c ts b rest e = sound_skipped ts b rest e

pub returns-clause-complete : goal.returns-clause-complete
returns-clause-complete c ts b rest d = complete_skipped d

pub returns-clause-parsed : goal.returns-clause-parsed
returns-clause-parsed c literals n h ts b rest d = literals_skipped literals n h ts b rest d
