use Rattle.std.proofs.Common.{◌≡◌, drop}
use Rattle.go_rules.specs.Environments.{is_among}
use Rattle.go_rules.proofs.awaited.is_among.Given as goal

abbrev pub invariant-loop-selector : goal.invariant-loop-selector
invariant-loop-selector l = is_among l.sel (drop l.selector-index l.selectors) ≡ is_among l.sel l.selectors
