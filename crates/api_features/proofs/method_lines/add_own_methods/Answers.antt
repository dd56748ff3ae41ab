use Rattle.std.proofs.Common.{List, subst}
use Rattle.go_base.specs.Growing.{Grows}
use Rattle.go_model.specs.declared.types.package.MethodOf.{MethodOf}
use Rattle.api_features.specs.inner.FeatureLines.{IsDeclaredRest, IsLineOfSome}
use Rattle.api_features.proofs.MethodRests.{own_lines}
use Rattle.api_features.proofs.method_lines.add_own_methods.Goals as goal

pub returns : goal.returns
returns c =
    own_lines c.args.of.now.world.now.packages c.args.of.now.path.now c.args.of.now.name.now c.args.defined.now c.requires.held c.requires.own c.args.lines.now c.add_each_declared.new.lines
    (subst (λ (w : List MethodOf). Grows (IsLineOfSome (IsDeclaredRest c.args.of.now.world.now.packages c.args.of.now.path.now c.args.of.now.name.now) w c.args.of.now.path.now) c.args.lines.now c.add_each_declared.new.lines) c.items.ensures c.in_ok-add_each_declared.ensures)
