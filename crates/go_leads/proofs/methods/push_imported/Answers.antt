use Rattle.std.proofs.Common.{◌-◌, drop, length, refl, sym, take}
use Rattle.go_expr.proofs.PrimaryExprs.{behind_first}
use Rattle.go_expr.specs.Chains.{NamesImported}
use Rattle.go_leads.specs.inner.Chains.{ImportedAlong}
use Rattle.go_leads.proofs.GrownKeys.{when_ok}
use Rattle.go_leads.proofs.GrownMethods.{imported_alone, imported_grows, imported_none, none_told}
use Rattle.go_leads.proofs.Walks.{grows_none}
use Rattle.go_type_terms.specs.Answers.{env_in}
use Rattle.go_leads.proofs.methods.push_imported.Goals as goal

pub returns-in-None : goal.returns-in-None
returns-in-None c =
    let E = env_in c.args.context.now in
    grows_none (ImportedAlong E c.args.operand.now c.args.posts.now) c.args.methods.now c.args.methods.now refl (imported_alone E c.args.operand.now c.args.posts.now (sym c.in-None.ensures.value))

pub returns-in-Ok : goal.returns-in-Ok
returns-in-Ok c =
    let E = env_in c.args.context.now in
    let ps = c.args.posts.now in
    when_ok c.push_along.result
    (imported_grows E c.args.operand.now ps (take (length ps - 1) (drop 1 ps)) c.in-Some.post.now c.in-Ok.first c.args.methods.now c.push_along.new.methods (sym c.in-Some.ensures.value) (behind_first ps) c.in-Ok.ensures)
    c.push_along.ensures

pub returns-in-Err-Untyped : goal.returns-in-Err-Untyped
returns-in-Err-Untyped c =
    let E = env_in c.args.context.now in
    grows_none (ImportedAlong E c.args.operand.now c.args.posts.now) c.args.methods.now c.args.methods.now refl
    (imported_none E c.args.operand.now c.args.posts.now c.in-Some.post.now (sym c.in-Some.ensures.value) (none_told (NamesImported E c.args.operand.now c.in-Some.post.now) c.in-Err-Untyped.field-0 c.in-Err-Untyped.field-0-is c.in-Err-Untyped.ensures))
