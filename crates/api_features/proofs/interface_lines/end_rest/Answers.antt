use Rattle.std.proofs.Common.{sym, ◌∙◌}
use mathlib.Core.Bool.{true≢false}
use Rattle.api_features.proofs.FeatureRests.{empty_end, exported_end, unexported_end}
use Rattle.api_features.proofs.interface_lines.end_rest.Goals as goal

pub returns-then-is_empty : goal.returns-then-is_empty
returns-then-is_empty c = empty_end c.args.of.now.world.now.packages c.args.of.now.path.now c.args.of.now.name.now c.args.methods.now c.in_ok-rest.rest.items (sym c.is_empty.ensures ∙ c.if-is_empty.true) c.in_ok-rest.ensures

pub returns-then-are_exported : goal.returns-then-are_exported
returns-then-are_exported c =
    exported_end c.args.of.now.world.now.packages c.args.of.now.path.now c.args.of.now.name.now c.args.methods.now c.in_ok-rest-2.rest.items (sym c.is_empty.ensures ∙ c.if-is_empty.false) (c.are_exported.ensures.0 c.if-are_exported.true) c.in_ok-rest-2.ensures

pub returns : goal.returns
returns c =
    unexported_end c.args.of.now.world.now.packages c.args.of.now.path.now c.args.of.now.name.now c.args.methods.now c.in_ok-rest-3.rest.items (sym c.is_empty.ensures ∙ c.if-is_empty.false) (λ all. true≢false (sym (c.are_exported.ensures.1 all) ∙ c.if-are_exported.false)) c.in_ok-rest-3.ensures
