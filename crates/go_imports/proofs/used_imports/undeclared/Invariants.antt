use Rattle.std.proofs.Common.{◌≡◌, take}
use Rattle.go_imports.specs.UndeclaredUses.{undeclared}
use Rattle.go_imports.proofs.used_imports.undeclared.Given as goal

abbrev pub invariant-loop-import : goal.invariant-loop-import
invariant-loop-import l = l.left ≡ undeclared l.declared.keys (take l.import-index l.uses)
