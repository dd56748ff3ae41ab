use Rattle.std.proofs.Common.{◌≡◌, map, take}
use Rattle.go_units.specs.UndeclaredUses.{undeclared_of}
use Rattle.go_units.proofs.undeclared_uses.all_undeclared.Given as goal

abbrev pub invariant-loop-file : goal.invariant-loop-file
invariant-loop-file l = l.kept ≡ map (undeclared_of l.declared.keys) (take l.file-index l.files)
