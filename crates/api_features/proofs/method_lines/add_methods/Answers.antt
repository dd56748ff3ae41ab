use Rattle.std.proofs.Common.{subst}
use Rattle.go_model.specs.declared.types.term.Term.{Term}
use Rattle.go_model.specs.types.Terms.{pointer_to}
use Rattle.go_model.specs.worlds.Worlds.{Packages, table_of}
use Rattle.go_selectors.specs.Candidates.{HoldMethodSet}
use Rattle.api_features.proofs.MethodRests.{method_lines}
use Rattle.api_features.proofs.method_lines.add_methods.Goals as goal

pub returns : goal.returns
returns c =
    method_lines c.args.of.now.world.now.packages c.args.of.now.path.now c.args.of.now.name.now (table_of c.args.of.now.world.now.packages) c.args.term.now c.new-none.result c.in_ok-values.values c.in_ok-others.others c.new-none.ensures.empty
    (subst (λ (w : Packages). HoldMethodSet (table_of w.packages) c.args.term.now c.in_ok-values.values) c.new-lookup.ensures c.in_ok-values.ensures)
    (subst (λ (w : Packages). HoldMethodSet (table_of w.packages) (pointer_to c.args.term.now) c.in_ok-others.others) c.new-lookup.ensures (subst (λ (t : Term). HoldMethodSet (table_of c.new-lookup.result.table.now.packages) t c.in_ok-others.others) c.in_ok-pointer.ensures c.in_ok-others.ensures))
    c.args.lines.now c.add_each_called.new.lines c.add_each_called-2.new.lines c.in_ok-add_each_called.ensures c.in_ok-add_each_called-2.ensures
