use Rattle.std.proofs.Common.{[], ◌∷◌, ◌++◌, ◌∙◌, sym, ap, append_assoc}
use Rattle.api_features.specs.inner.FeatureLines.{IsCalledRest, IsLineIn}
use Rattle.api_lines.proofs.Growing.{grows_back}
use Rattle.api_features.proofs.method_lines.add_each_called.Goals as goal

pub loop-sel-preserved : goal.loop-sel-preserved
loop-sel-preserved c =
    let i = c.loop-sel.invariant in (
      i.0 ++ c.in-Some.sel.now ∷ [],
      append_assoc i.0 (c.in-Some.sel.now ∷ []) c.next.new.self ∙ ap (λ w. i.0 ++ w) (sym c.in-Some.ensures.steps) ∙ i.1,
      grows_back (λ s. IsLineIn (IsCalledRest c.args.of.now.world.now.packages c.args.of.now.path.now c.args.of.now.name.now c.args.pointer c.args.except.now c.args.callable.now s) c.args.of.now.path.now) i.0 c.in-Some.sel.now _ c.loop-sel.lines c.add_called.new.lines i.2 c.in_ok-add_called.ensures,
    )
