use Rattle.std.proofs.Common.{ap, subst, sym, ◌∙◌, Some}
use Rattle.go_model.specs.types.DeclaredMethods.{with_sel}
use Rattle.go_rules.specs.inner.Places.{IsPlace}
use Rattle.go_rules.proofs.MethodPlaces.{place_there, place_missing}
use Rattle.go_rules.proofs.defined_row.DefinedRow.declared.Goals as goal

pub returns-in-Some : goal.returns-in-Some
returns-in-Some c =
    let s = c.args.sel.now in
    let ms = c.self.inside.defined.methods in
    let place = subst (IsPlace s ms) (sym c.in-Some-Once.ensures.value ∙ ap Some c.in-Some-Once.field-0-is) (c.self.invariant c.if-not-self.false s) in
    sym (ap (λ d. with_sel s d.methods) c.self.view_is) ∙ place_there s ms c.items.result.now c.in-Some-Once.at c.in-Some.method.now place c.items.ensures c.in-Some.ensures.lookup.3.0 c.in-Some.ensures.lookup.1

pub returns-in-None-get : goal.returns-in-None-get
returns-in-None-get c =
    let s = c.args.sel.now in
    let ms = c.self.inside.defined.methods in
    let place = subst (IsPlace s ms) (sym c.in-Some-Once.ensures.value ∙ ap Some c.in-Some-Once.field-0-is) (c.self.invariant c.if-not-self.false s) in
    sym (ap (λ d. with_sel s d.methods) c.self.view_is) ∙ place_missing s ms c.items.result.now c.in-Some-Once.at place c.items.ensures c.in-None-get.ensures.lookup.3

pub returns-in-None : goal.returns-in-None
returns-in-None c =
    let s = c.args.sel.now in
    let ms = c.self.inside.defined.methods in
    sym (ap (λ d. with_sel s d.methods) c.self.view_is) ∙ subst (IsPlace s ms) (sym c.in-None.ensures.value) (c.self.invariant c.if-not-self.false s)
