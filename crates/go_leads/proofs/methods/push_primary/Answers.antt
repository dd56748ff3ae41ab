use Rattle.go_rules.specs.Expressions.{Has}
use Rattle.go_leads.proofs.GrownKeys.{when_ok}
use Rattle.go_leads.proofs.GrownMethods.{none_told, plain_grows, untyped_grows}
use Rattle.go_type_terms.specs.Answers.{env_in}
use Rattle.go_leads.proofs.methods.push_primary.Goals as goal

pub returns-in-Ok : goal.returns-in-Ok
returns-in-Ok c = when_ok c.push_along.result (plain_grows (env_in c.args.context.now) c.args.operand.now c.args.posts.now c.in-Ok.first c.args.methods.now c.push_along.new.methods c.in-Ok.ensures) c.push_along.ensures

pub returns-in-Err-Untyped : goal.returns-in-Err-Untyped
returns-in-Err-Untyped c =
    let E = env_in c.args.context.now in
    when_ok c.push_imported.result
    (untyped_grows E c.args.operand.now c.args.posts.now c.args.methods.now c.push_imported.new.methods (none_told (Has E c.args.operand.now) c.in-Err-Untyped.field-0 c.in-Err-Untyped.field-0-is c.in-Err-Untyped.ensures))
    c.push_imported.ensures
