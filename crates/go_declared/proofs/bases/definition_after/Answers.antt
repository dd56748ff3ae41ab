use Rattle.std.proofs.Common.{None, Some, ap, sym, ◌∙◌}
use Rattle.go_declarations.specs.Listings.{declarations_of}
use Rattle.go_declarations.specs.go_typings.Receivers.{defined_name, named_definition}
use Rattle.go_declared.proofs.AliasWalks.{after_named, after_qualified, end_by}
use Rattle.go_declared.proofs.BaseTypes.{definition_own, definition_qualified}
use Rattle.go_declared.proofs.Stands.{not_declared}
use Rattle.go_declared.proofs.bases.definition_after.Goals as goal

pub returns-then-is_some : goal.returns-then-is_some
returns-then-is_some c =
    let ds = declarations_of c.args.declarations.now in
    let e = sym c.is_some.ensures ∙ c.if-is_some.true in
    sym (definition_qualified ds c.args.name.now e) ∙ ap (named_definition ds) (after_qualified ds c.args.name.now e)

pub returns-in-None : goal.returns-in-None
returns-in-None c =
    let ds = declarations_of c.args.declarations.now in
    let q = c.args.name.now in
    let own = sym c.is_some.ensures ∙ c.if-is_some.false in
    let here = sym c.get.ensures ∙ c.in-None.is in
    let after = after_named ds c.args.names.now c.requires.names c.args.ends.now c.requires.ends q None own (ap (end_by c.args.ends.now) here) in
    sym (definition_own ds q own ∙ ap defined_name (not_declared ds c.args.names.now q.name.text c.requires.names here)) ∙ ap (named_definition ds) after

pub returns-in-None-name_at : goal.returns-in-None-name_at
returns-in-None-name_at c =
    let ds = declarations_of c.args.declarations.now in
    let q = c.args.name.now in
    let own = sym c.is_some.ensures ∙ c.if-is_some.false in
    let here = sym c.get.ensures ∙ c.in-Some.is in
    let after = after_named ds c.args.names.now c.requires.names c.args.ends.now c.requires.ends q None own (ap (end_by c.args.ends.now) here ∙ sym c.in-None-name_at.ensures) in
    c.definition_there.ensures q.name.text (sym (c.requires.names q.name.text) ∙ here) ∙ sym (definition_own ds q own) ∙ ap (named_definition ds) after

pub returns-in-Some-name_at : goal.returns-in-Some-name_at
returns-in-Some-name_at c =
    let ds = declarations_of c.args.declarations.now in
    let q = c.args.name.now in
    let own = sym c.is_some.ensures ∙ c.if-is_some.false in
    let here = sym c.get.ensures ∙ c.in-Some.is in
    let after = after_named ds c.args.names.now c.requires.names c.args.ends.now c.requires.ends q (Some c.in-Some-name_at.end.now) own (ap (end_by c.args.ends.now) here ∙ sym c.in-Some-name_at.ensures) in
    c.definition.ensures ∙ ap (named_definition ds) after
