use Rattle.std.proofs.Common.{sym, ap, ◌∙◌, subst}
use Rattle.go_base.specs.Growing.{Grows}
use Rattle.go_model.specs.declared.types.term.Term.{Term}
use Rattle.go_model.specs.types.Terms.{Layer}
use Rattle.go_model.specs.worlds.Worlds.{table_of}
use Rattle.api_features.specs.Features.{is_interface, IsMethodRest, IsTypeRest}
use Rattle.api_features.specs.inner.FeatureLines.{IsLineIn}
use Rattle.api_features.proofs.FeatureRests.{defined_lines}
use Rattle.api_features.proofs.MethodRests.{held_under, no_interface}
use Rattle.api_features.proofs.type_lines.add_held.Goals as goal

pub returns-then-promotes_none : goal.returns-then-promotes_none
returns-then-promotes_none c =
    let own = c.promotes_none.ensures.0 c.if-promotes_none.true in
    let underneath = held_under c.args.of.now.world.now.packages c.args.of.now.path.now c.args.of.now.name.now c.args.defined.now c.requires.held c.args.term.now c.requires.named in
    defined_lines c.args.of.now.world.now.packages c.args.of.now.path.now c.args.of.now.name.now c.args.term.now c.args.lines.now c.add_underlying.new.lines c.add_own_methods.new.lines c.requires.named
    (sym (ap is_interface underneath) ∙ no_interface _ own.0)
    (subst (λ (w : Layer). Grows (IsLineIn (IsTypeRest c.args.of.now.world.now.packages c.args.of.now.path.now c.args.of.now.name.now w) c.args.of.now.path.now) c.args.lines.now c.add_underlying.new.lines) underneath c.in_ok-add_underlying.ensures)
    (subst (λ (t : Term). Grows (IsLineIn (IsMethodRest c.args.of.now.world.now.packages c.args.of.now.path.now c.args.of.now.name.now (table_of c.args.of.now.world.now.packages) t) c.args.of.now.path.now) c.add_underlying.new.lines c.add_own_methods.new.lines) (sym c.requires.named) c.in_ok-add_own_methods.ensures)
