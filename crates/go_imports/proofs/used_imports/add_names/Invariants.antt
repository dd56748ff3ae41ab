use Rattle.std.proofs.Common.{take, ◌≡◌, List, ℕ}
use Rattle.go_base.specs.Growing.{Grows}
use Rattle.go_base.specs.Lists.{Has}
use Rattle.go_references.specs.go_syntax.declared.name.Name.{Name}
use Rattle.go_imports.proofs.GrowingSets.{OfSome}
use Rattle.go_imports.proofs.used_imports.add_names.Given as goal

abbrev pub invariant-loop-name : goal.invariant-loop-name
invariant-loop-name l = Grows (λ x. OfSome (λ (n : Name) (x : List ℕ). n.text ≡ x) (take l.name-index l.names) x × Has l.asked.keys x) l.fn.set.keys l.set.keys
