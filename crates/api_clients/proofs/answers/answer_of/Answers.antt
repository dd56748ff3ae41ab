use Rattle.std.proofs.Common.{subst, sym}
use Rattle.api_clients.proofs.OnePlatform.{borrowed, told_kept}
use Rattle.go_clients.specs.Vetting.{IsClientPath}
use Rattle.api_clients.proofs.answers.answer_of.Goals as goal

pub told-requires-clause-path : goal.told-requires-clause-path
told-requires-clause-path g c = subst IsClientPath (sym (borrowed c.as_ref.result c.args.units.client c.as_ref.ensures.value)) c.requires.path

pub returns-in-Ok-told-clause-answer : goal.returns-in-Ok-told-clause-answer
returns-in-Ok-told-clause-answer g c =
    told_kept c.args.trees.now.tree.now c.args.trees.now.std_tree.now c.args.trees.now.client.now c.args.platform c.args.units c.int_bits-bits.result c.in-Ok.checked.world c.items.result.now c.as_ref.result c.in-Ok-told.answer c.int_bits-bits.ensures c.items.ensures
    c.as_ref.ensures.value c.in-Ok.ensures.answers c.in-Ok-told.ensures
