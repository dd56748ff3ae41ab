use Rattle.go_assignments.proofs.go_entries_proofs.Zipped.{zipped_begins, zipped_first, zipped_next, zipped_whole}
use Rattle.go_statement_rules.specs.Clauses.{Lists, ListsAll}
use Rattle.go_type_terms.specs.Answers.{env_in}
use Rattle.go_type_terms.proofs.Handed.{told_told}
use Rattle.go_clauses.proofs.Guarding.{in_all, to_all}
use Rattle.go_clauses.proofs.guards.all_listed.Goals as goal

pub loop-form-init : goal.loop-form-init
loop-form-init c = zipped_begins (Lists (env_in c.args.context.now) c.args.interface.now) c.args.forms.now c.new-all.result c.new-all.ensures

pub loop-form-preserved : goal.loop-form-preserved
loop-form-preserved c =
    zipped_next (Lists (env_in c.args.context.now) c.args.interface.now) c.args.forms.now c.loop-form.form-index c.form-item.result c.loop-form.all c.push.new.self c.in_ok-one.one
    c.loop-form-test.true c.form-item.is c.in_ok-one.ensures c.in_ok-push.ensures.ok c.loop-form.invariant

pub returns-in_err-one : goal.returns-in_err-one
returns-in_err-one c =
    let E = env_in c.args.context.now in
    let t = c.args.interface.now in
    let form = c.form-item.result in
    told_told (Lists E t form) (ListsAll E t c.args.forms.now) c.in_err-one.field-0.0 c.from_residual.result c.from_residual.ensures.1 c.in_err-one.ensures
    (λ xs h. zipped_first (Lists E t) c.args.forms.now c.loop-form.form-index form c.loop-form.all c.loop-form-test.true c.form-item.is c.loop-form.invariant xs (in_all E t c.args.forms.now xs h))

pub returns : goal.returns
returns c =
    let E = env_in c.args.context.now in
    to_all E c.args.interface.now c.args.forms.now c.loop-form.all (zipped_whole (Lists E c.args.interface.now) c.args.forms.now c.loop-form.form-index c.loop-form.all c.loop-form-test.false c.loop-form.invariant)
