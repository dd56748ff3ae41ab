use Rattle.go_leads.proofs.GrownKeys.{when_ok}
use Rattle.go_leads.proofs.GrownMethods.{pushed}
use Rattle.go_leads.proofs.methods.push_method.Goals as goal

pub returns : goal.returns
returns c = when_ok c.push.result (pushed c.args.methods.now c.push.new.self c.in_ok-copy.field-0 c.args.owner.now c.args.sel c.in_ok-copy.ensures) c.push.ensures.ok
