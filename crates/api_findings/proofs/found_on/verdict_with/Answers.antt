use Rattle.std.proofs.Common.{sym, subst}
use Rattle.api_findings.proofs.FoundOn.{new_error}
use Rattle.api_findings.specs.declared.listed.Listed.{Listed}
use Rattle.api_findings.specs.inner.Sides.{AnswersListed, IsListedOn}
use Rattle.api_texts.specs.declared.lines.Side.TheVariants as side
use Rattle.api_worlds.specs.PlatformWorlds.{IsErrorOn}
use Rattle.go_model.specs.worlds.Worlds.{Packages}
use Rattle.api_findings.proofs.found_on.verdict_with.Goals as goal

pub returns-in-Err-clause-answer : goal.returns-in-Err-clause-answer
returns-in-Err-clause-answer c =
    let ended : IsErrorOn c.args.trees.now.barred.now c.args.trees.now.tree.now c.args.trees.now.std_tree.now side.New c.args.platform c.in-Err.error = subst (AnswersListed c.args.trees.now.barred.now c.args.trees.now.tree.now c.args.trees.now.std_tree.now side.New c.args.platform) c.in-Err.is c.requires.new in
    new_error c.args.trees.now.barred.now c.args.trees.now.tree.now c.args.trees.now.std_tree.now c.args.platform c.args.old_tree.now c.args.old.now.world c.requires.old.world c.in-Err.error ended

pub verdict_of-requires-clause-new : goal.verdict_of-requires-clause-new
verdict_of-requires-clause-new c =
    let listed : IsListedOn c.args.trees.now.barred.now c.args.trees.now.tree.now c.args.trees.now.std_tree.now c.args.platform c.in-Ok.new.world c.in-Ok.new.listed = subst (AnswersListed c.args.trees.now.barred.now c.args.trees.now.tree.now c.args.trees.now.std_tree.now side.New c.args.platform) c.in-Ok.is c.requires.new in
    subst (λ (parts : Packages × Listed). IsListedOn c.args.trees.now.barred.now c.args.trees.now.tree.now c.args.trees.now.std_tree.now c.args.platform parts.0 parts.1) (sym c.into_parts-world.ensures) listed
