use Rattle.std.proofs.Common.{◌≢◌, [], take}
use Rattle.go_base.specs.Lists.{Each}
use Rattle.api_words.proofs.values.are_some.Given as goal

abbrev pub invariant-loop-name : goal.invariant-loop-name
invariant-loop-name l = Each (λ name. name.now ≢ []) (take l.name-index l.names)
