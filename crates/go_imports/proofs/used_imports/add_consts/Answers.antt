use Rattle.std.proofs.Common.{List, subst}
use Rattle.go_base.specs.Growing.{Grows}
use Rattle.go_base.specs.Lists.{Has}
use Rattle.go_references.specs.go_syntax.declared.name.Name.{Name}
use Rattle.go_imports.specs.UsedImports.{IsNameIn, IsConstName}
use Rattle.go_imports.proofs.GrowingSets.{grows_next_where}
use Rattle.go_imports.proofs.used_imports.add_consts.Goals as goal

pub loop-spec-preserved : goal.loop-spec-preserved
loop-spec-preserved c =
    grows_next_where IsConstName (Has c.args.asked.now.keys) c.args.specs.now c.loop-spec.spec-index c.spec-item.result _ c.loop-spec.set.keys c.add_names.new.set.keys
    c.loop-spec-test.true c.spec-item.is c.loop-spec.invariant
    (subst (λ (names : List Name). Grows (λ x. IsNameIn names x × Has c.args.asked.now.keys x) c.loop-spec.set.keys c.add_names.new.set.keys) c.items.ensures c.in_ok-add_names.ensures)
