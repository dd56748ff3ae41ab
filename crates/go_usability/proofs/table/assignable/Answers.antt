use Rattle.std.proofs.Common.{Bool, subst}
use Rattle.go_model.specs.types.Assignability.{Assignable}
use Rattle.go_rules.specs.Scopes.{env_of}
use Rattle.go_types.specs.go_selectors.Answers.{Decides}
use Rattle.go_usability.proofs.table.assignable.Goals as goal

pub returns : goal.returns
returns c = subst (λ (p : Bool). Decides c.in_ok-answer.answer (Assignable (env_of c.args.context.now.env.now).table p c.args.from.now c.args.to.now)) c.is_profile-profile.ensures (subst (λ x. Decides c.in_ok-answer.answer (Assignable (env_of x).table c.is_profile-profile.result c.args.from.now c.args.to.now)) c.args.context.now.same c.in_ok-answer.ensures)
