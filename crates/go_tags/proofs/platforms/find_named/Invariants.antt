use Rattle.std.proofs.Common.{drop}
use Rattle.go_tags.proofs.PlatformSearch.{NoneNamed}
use Rattle.go_tags.proofs.platforms.find_named.Given as goal

abbrev pub invariant-loop-candidate : goal.invariant-loop-candidate
invariant-loop-candidate l = NoneNamed l.text (drop l.candidate-index l.platforms) → NoneNamed l.text l.platforms
