use Rattle.std.proofs.Common.{◌≡◌, ℕ, List}
use Rattle.go_base.specs.Lists.{Has}
use Rattle.go_references.specs.go_syntax.declared.name.Name.{Name}
use Rattle.go_imports.proofs.GrowingSets.{grows_next_where}
use Rattle.go_imports.proofs.used_imports.add_names.Goals as goal

pub loop-name-preserved : goal.loop-name-preserved
loop-name-preserved c =
    grows_next_where (λ (n : Name) (x : List ℕ). n.text ≡ x) (Has c.args.asked.now.keys) c.args.names.now c.loop-name.name-index c.name-item.result _ c.loop-name.set.keys c.add_asked.new.set.keys
    c.loop-name-test.true c.name-item.is c.loop-name.invariant c.in_ok-add_asked.ensures
