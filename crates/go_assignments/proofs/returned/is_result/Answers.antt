use Rattle.std.proofs.Common.{subst}
use Rattle.go_rules.specs.Usability.{UsableAs}
use Rattle.go_rules.specs.declared.operand.Operand.{Operand}
use Rattle.go_selectors.specs.Answers.{Decides}
use Rattle.go_type_terms.specs.Answers.{env_in}
use Rattle.go_assignments.proofs.returned.is_result.Goals as goal

pub returns : goal.returns
returns c = subst (λ (o : Operand). Decides c.in_ok-fits.fits (UsableAs (env_in c.args.context.now) o c.args.as_result.now)) c.in_ok-value.ensures c.in_ok-fits.ensures
