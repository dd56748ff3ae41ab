use Rattle.std.proofs.Common.{◌≡◌, take}
use Rattle.go_declared.specs.inner.Adding.{with_names}
use Rattle.go_declared.proofs.names.add_names.Given as goal

abbrev pub invariant-loop-place : goal.invariant-loop-place
invariant-loop-place l = l.entries.items ≡ with_names l.fn.entries.items l.number 0 (take l.place l.names)
