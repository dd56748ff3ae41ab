use Rattle.std.proofs.Common.{Option, subst, sym}
use Rattle.std.specs.Prelude.{IfSome}
use Rattle.api_clients.proofs.OnePlatform.{borrowed, told_typed}
use Rattle.go_clients.specs.Vetting.{IsClientPath}
use Rattle.api_worlds.specs.go_work.TypedUnits.{AreTypedUnits}
use Rattle.api_worlds.specs.go_work.declared.typed.TypedUnits.{TypedUnits}
use Rattle.api_clients.proofs.next_answers.next_answer_of.Goals as goal

pub typed-requires-clause-second : goal.typed-requires-clause-second
typed-requires-clause-second g c = subst (λ (t : Option TypedUnits). IfSome t AreTypedUnits) (sym c.as_ref.ensures.value) c.requires.chain

pub told-answer-requires-clause-path : goal.told-answer-requires-clause-path
told-answer-requires-clause-path g c = subst IsClientPath (sym (borrowed c.as_ref-in-Ok.result c.args.units.client c.as_ref-in-Ok.ensures.value)) c.requires.path

pub returns-in-Ok-answer-clause-answer : goal.returns-in-Ok-answer-clause-answer
returns-in-Ok-answer-clause-answer g c =
    told_typed c.args.trees.now.tree.now c.args.trees.now.std_tree.now c.args.trees.now.client.now c.args.platform c.args.units c.int_bits-bits.result c.in-Ok.kept c.items.result.now c.as_ref-in-Ok.result c.in-Ok-answer.answer c.int_bits-bits.ensures c.items.ensures
    c.as_ref-in-Ok.ensures.value c.in-Ok.ensures.bits c.in-Ok.ensures.units c.in-Ok.ensures.typed c.in-Ok-answer.ensures
