use Rattle.std.proofs.Common.{ap, ◌∙◌}
use Rattle.go_syntax.specs.declared.expression.Post.{out-Post}
use Rattle.go_syntax.specs.declared.expression.Post.TheVariants.{outs-Selector}
use Rattle.go_leads.proofs.GrownKeys.{when_ok}
use Rattle.go_leads.proofs.GrownMethods.{post_grows}
use Rattle.go_type_terms.specs.Answers.{env_in}
use Rattle.go_leads.proofs.methods.push_post.Goals as goal

pub returns-in-Selector : goal.returns-in-Selector
returns-in-Selector c =
    when_ok c.push_of.result
    (post_grows (env_in c.args.context.now) c.args.operand.now c.args.post.now c.in-Selector.name c.args.methods.now c.push_of.new.methods (ap out-Post c.in-Selector.is ∙ outs-Selector c.in-Selector.name))
    c.push_of.ensures
