use Rattle.std.proofs.Common.{◌≡◌, ◌++◌, drop}
use Rattle.api_refusals.specs.inner.Skipped.{names_behind}
use Rattle.api_refusals.proofs.skipped.add_behind.Given as goal

abbrev pub invariant-loop-name : goal.invariant-loop-name
invariant-loop-name l = l.text.items ++ names_behind (drop l.name-index l.names) ≡ l.fn.text.items ++ names_behind l.names
