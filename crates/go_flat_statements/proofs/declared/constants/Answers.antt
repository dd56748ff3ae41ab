use Rattle.go_flat_statements.proofs.Groups.{constants_are_local, constants_judged}
use Rattle.go_local_scopes.proofs.Standing.{kept_none}
use Rattle.go_local_specs.specs.LocalForms.{forms_in}
use Rattle.std.proofs.Common.{◌∙◌, ap}
use Rattle.go_flat_statements.proofs.declared.constants.Goals as goal

pub returns-in_err-listed-clause-kept : goal.returns-in_err-listed-clause-kept
returns-in_err-listed-clause-kept g c = kept_none c.args.env.now c.requires.opened

pub returns-clause-judged : goal.returns-clause-judged
returns-clause-judged g c =
    let fs = forms_in c.items.result.now in
    let e = ap forms_in c.items.ensures ∙ c.in_ok-listed.ensures in
    constants_judged c.args.walk.now.frame.now c.args.env.now c.specs.new.env c.specs.result c.args.group.now fs e (c.specs.ensures.judged (constants_are_local c.args.group.now fs e))
