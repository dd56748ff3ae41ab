use Rattle.std.proofs.Common.{ap, subst, sym, ◌∙◌, ◌++◌}
use Rattle.std.proofs.lemmas.List.{map_push}
use Rattle.go_model.specs.types.DeclaredMethods.{TellsMethod, with_sel}
use Rattle.go_selectors.specs.Endings.{ending_of, endings_of, owner_of}
use Rattle.go_selectors.proofs.ToldMethods.{told_none, told_once}
use Rattle.go_selectors.proofs.steps.push_declared.Goals as goal

pub returns-in-Absent : goal.returns-in-Absent
returns-in-Absent c = told_none (owner_of c.args.owner) c.args.sel.now c.args.through c.args.methods.now (endings_of c.args.found.now.items) (subst (TellsMethod (with_sel c.args.sel.now c.args.methods.now)) c.in-Absent.is c.requires)

pub returns-in_ok-push-in-Once : goal.returns-in_ok-push-in-Once
returns-in_ok-push-in-Once c =
    let told = subst (TellsMethod (with_sel c.args.sel.now c.args.methods.now)) c.in-Once.is c.requires in
    ap endings_of c.in_ok-push-in-Once.ensures.items
    ∙ map_push ending_of c.args.found.now.items _
    ∙ ap (λ w. endings_of c.args.found.now.items ++ w) (sym (told_once (owner_of c.args.owner) c.args.sel.now c.args.through c.args.methods.now c.in-Once.declared.now told))
