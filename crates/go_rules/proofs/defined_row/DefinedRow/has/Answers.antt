use Rattle.std.proofs.Common.{ap, ◌∙◌}
use Rattle.std.specs.BTreeMap.{get}
use Rattle.go_model.specs.types.MethodSets.{sel_order}
use Rattle.go_rules.specs.Scopes.{is_had}
use Rattle.go_rules.proofs.MethodPlaces.{had_placed}
use Rattle.go_rules.proofs.defined_row.DefinedRow.has.Goals as goal

pub returns : goal.returns
returns c =
    c.contains_key.ensures
    ∙ had_placed c.args.sel.now c.self.inside.defined.methods (get sel_order c.self.inside.places c.args.sel.now) (c.self.invariant c.if-not-self.false c.args.sel.now)
    ∙ ap (λ d. is_had c.args.sel.now d.methods) c.self.view_is
