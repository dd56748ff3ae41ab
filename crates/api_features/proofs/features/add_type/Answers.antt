use Rattle.std.proofs.Common.{◌∙◌, sym}
use mathlib.Core.Bool.{true≢false}
use Rattle.api_features.proofs.FeatureRests.{alias_line, still}
use Rattle.api_features.proofs.features.add_type.Goals as goal

pub returns : goal.returns
returns c =
    alias_line c.args.of.now.world.now.packages c.args.of.now.path.now c.args.of.now.name.now c.args.term.now c.in_ok-rest.rest.items c.args.lines.now c.add.new.lines (λ e. true≢false (sym (c.is_defined.ensures.1 e) ∙ c.if-is_defined.false)) c.in_ok-rest.ensures c.in_ok-add.ensures

pub returns-then-is_defined : goal.returns-then-is_defined
returns-then-is_defined c = still c.args.lines.now c.add_defined.new.lines c.end_type.new.self c.in_ok-add_defined.ensures c.end_type.ensures
