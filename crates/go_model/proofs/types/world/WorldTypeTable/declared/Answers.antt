use Rattle.std.proofs.Common.{List, map, subst, sym}
use Rattle.std.specs.List.Sorted.{IsStrictlySortedBy}
use Rattle.go_base.proofs.Ordered.{each_first}
use Rattle.go_model.specs.declared.types.package.MethodOf.{MethodOf}
use Rattle.go_model.specs.types.MethodSets.{sel_order}
use Rattle.go_model.specs.worlds.Worlds.{IsDefined, declared_sel, name_of, table_of}
use Rattle.go_model.proofs.types.world.WorldTypeTable.declared.Goals as goal

pub find_method-requires : goal.find_method-requires
find_method-requires c =
    let kept = each_first name_of (IsDefined (table_of c.args.self.now.packages)) c.in-Some.found.now.defined _ c.in-Some-defined_type.defined.now c.in-Some-defined_type.ensures c.in-Some.ensures.kept.types in
    subst (λ (ms : List MethodOf). IsStrictlySortedBy sel_order (map declared_sel ms)) (sym c.items.ensures) kept.methods.ordered
