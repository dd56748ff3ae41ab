use Rattle.go_declarations.specs.Forms.{form_of}
use Rattle.go_local_specs.proofs.LocalEntities.{local_given, local_none, local_told, local_unfit, local_unmet}
use Rattle.go_type_terms.specs.Answers.{env_in}
use Rattle.std.proofs.Common.{[], sym, ◌∙◌}
use Rattle.go_local_specs.proofs.entities.entities.Goals as goal

pub returns-in_err-given : goal.returns-in_err-given
returns-in_err-given c = λ l.
    let E = env_in c.args.context.now in
    let f = form_of c.args.form in
    local_none E f c.in_err-given.field-0.0 c.from_residual.result c.from_residual.ensures.1 (c.in_err-given.ensures [] (local_told E f l))

pub returns-then-not-branch : goal.returns-then-not-branch
returns-then-not-branch c = λ l. local_unfit (env_in c.args.context.now) (form_of c.args.form) c.in_ok-form_fits.field-0 c.if-not-branch.true c.in_ok-form_fits.ensures

pub returns-then-not-branch-2 : goal.returns-then-not-branch-2
returns-then-not-branch-2 c = λ l. local_unmet (env_in c.args.context.now) (form_of c.args.form) c.in_ok-nodes_meet.field-0 c.if-not-branch-2.true c.in_ok-nodes_meet.ensures

pub returns : goal.returns
returns c = λ l.
    let E = env_in c.args.context.now in
    let f = form_of c.args.form in
    local_given E f c.in_ok-given.given (sym c.is_objects.ensures ∙ c.if-not-is_objects.false) (c.in_ok-given.ensures [] (local_told E f l)) c.in_ok-form_fits.field-0 c.in_ok-nodes_meet.field-0 c.if-not-branch.false c.if-not-branch-2.false c.in_ok-form_fits.ensures c.in_ok-nodes_meet.ensures
