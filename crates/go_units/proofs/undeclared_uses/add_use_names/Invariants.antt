use Rattle.std.proofs.Common.{◌≡◌, List, ℕ, take}
use Rattle.go_base.specs.Growing.{Grows}
use Rattle.go_imports.specs.declared.used_imports.NamedImport.{NamedImport}
use Rattle.go_imports.proofs.GrowingSets.{OfSome}
use Rattle.go_units.proofs.undeclared_uses.add_use_names.Given as goal

abbrev pub invariant-loop-import : goal.invariant-loop-import
invariant-loop-import l = Grows (OfSome (λ (u : NamedImport) (x : List ℕ). u.name ≡ x) (take l.import-index l.uses)) l.fn.names.keys l.names.keys
