use Rattle.std.proofs.Common.{sym, ap, ◌∙◌, subst}
use Rattle.go_base.specs.Growing.{Grows}
use Rattle.go_model.specs.types.Terms.{Layer}
use Rattle.api_features.specs.Features.{is_interface, IsTypeRest}
use Rattle.api_features.specs.inner.FeatureLines.{IsLineIn}
use Rattle.api_features.proofs.FeatureRests.{defined_lines, interface_lines}
use Rattle.api_features.proofs.type_lines.add_all.Goals as goal

pub returns-then-is_interface : goal.returns-then-is_interface
returns-then-is_interface c =
    interface_lines c.args.of.now.world.now.packages c.args.of.now.path.now c.args.of.now.name.now c.args.term.now c.args.lines.now c.add_underlying.new.lines c.requires.named
    (sym (ap is_interface c.requires.under) ∙ sym c.is_interface.ensures ∙ c.if-is_interface.true)
    (subst (λ (w : Layer). Grows (IsLineIn (IsTypeRest c.args.of.now.world.now.packages c.args.of.now.path.now c.args.of.now.name.now w) c.args.of.now.path.now) c.args.lines.now c.add_underlying.new.lines) c.requires.under c.in_ok-add_underlying.ensures)

pub returns : goal.returns
returns c =
    defined_lines c.args.of.now.world.now.packages c.args.of.now.path.now c.args.of.now.name.now c.args.term.now c.args.lines.now c.add_underlying.new.lines c.add_methods.new.lines c.requires.named
    (sym (ap is_interface c.requires.under) ∙ sym c.is_interface.ensures ∙ c.if-is_interface.false)
    (subst (λ (w : Layer). Grows (IsLineIn (IsTypeRest c.args.of.now.world.now.packages c.args.of.now.path.now c.args.of.now.name.now w) c.args.of.now.path.now) c.args.lines.now c.add_underlying.new.lines) c.requires.under c.in_ok-add_underlying.ensures)
    c.in_ok-add_methods.ensures
