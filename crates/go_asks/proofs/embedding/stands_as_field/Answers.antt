use Rattle.std.proofs.Common.{subst}
use Rattle.go_model.specs.types.Terms.{Layer}
use Rattle.go_model.specs.types.Underlying.{under}
use Rattle.go_expr.proofs.go_operators_proofs.Answers.{decided_false, decided_true}
use Rattle.go_rules.specs.Asks.{MayStandUnder}
use Rattle.go_rules.specs.Environments.{Entered}
use Rattle.go_selectors.specs.Answers.{Decides}
use Rattle.go_type_terms.specs.Answers.{env_in}
use Rattle.go_asks.proofs.EmbeddedTypes.{stands_decided}
use Rattle.go_asks.proofs.embedding.stands_as_field.Goals as goal

pub returns-then-not-is_entered : goal.returns-then-not-is_entered
returns-then-not-is_entered c = λ h. decided_false (Entered (env_in c.args.context.now) c.args.term.now) _ c.if-not-is_entered.true c.is_entered.ensures h.0

pub returns-then-not-may_stand_under : goal.returns-then-not-may_stand_under
returns-then-not-may_stand_under c = λ h. decided_false (MayStandUnder c.args.star (under (env_in c.args.context.now).table c.args.term.now)) _ c.if-not-may_stand_under.true (subst (λ (l : Layer). Decides c.may_stand_under.result (MayStandUnder c.args.star l)) c.under.ensures c.may_stand_under.ensures) h.1

pub returns : goal.returns
returns c = stands_decided (env_in c.args.context.now) c.args.star c.args.term.now (decided_true (Entered (env_in c.args.context.now) c.args.term.now) _ c.if-not-is_entered.false c.is_entered.ensures)
    (decided_true (MayStandUnder c.args.star (under (env_in c.args.context.now).table c.args.term.now)) _ c.if-not-may_stand_under.false (subst (λ (l : Layer). Decides c.may_stand_under.result (MayStandUnder c.args.star l)) c.under.ensures c.may_stand_under.ensures))
    c.may_embed.result c.may_embed.ensures
