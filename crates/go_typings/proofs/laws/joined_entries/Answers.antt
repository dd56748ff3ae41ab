use Rattle.go_typings.proofs.JoinedEntries.{entries_join}
use Rattle.go_typings.proofs.laws.joined_entries.Goals as goal

pub returns : goal.returns
returns c s u S T a b x y = entries_join s u S T a b x y
