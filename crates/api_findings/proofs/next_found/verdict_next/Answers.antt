use Rattle.std.proofs.Common.{sym, subst}
use Rattle.api_features.specs.Features.{IsFeature}
use Rattle.api_findings.proofs.FoundOn.{both_count, old_count, old_error}
use Rattle.api_lines.specs.Lines.{IsListing}
use Rattle.api_worlds.specs.go_work.TypedUnits.{AreTypedUnits}
use Rattle.api_worlds.specs.go_work.declared.typed.TypedUnits.{TypedUnits}
use Rattle.api_findings.proofs.next_found.verdict_next.Goals as goal

pub returns-in-Err-clause-answer : goal.returns-in-Err-clause-answer
returns-in-Err-clause-answer g c = old_error c.args.trees.now.barred.now c.args.trees.now.tree.now c.args.trees.now.std_tree.now c.args.platform c.args.old_tree.now c.in-Err.error c.in-Err.ensures.answer

pub returns-in-Err-clause-steps : goal.returns-in-Err-clause-steps
returns-in-Err-clause-steps g c = old_count c.args.trees.now.barred.now c.args.trees.now.tree.now c.args.trees.now.std_tree.now c.args.platform c.args.old_tree.now c.args.steps.now c.listed_next.new.steps c.listed_next.ensures.steps

pub returns-in-Ok-clause-steps : goal.returns-in-Ok-clause-steps
returns-in-Ok-clause-steps g c = both_count c.args.trees.now.barred.now c.args.trees.now.tree.now c.args.trees.now.std_tree.now c.args.platform c.args.old_tree.now c.args.steps.now c.listed_next.new.steps c.verdict_after-found.new.steps c.listed_next.ensures.steps c.verdict_after-found.ensures.steps

pub listed_next-requires-clause-trees : goal.listed_next-requires-clause-trees
listed_next-requires-clause-trees g c = record { is_tree = c.requires.old.0; is_std = c.requires.trees.is_std; is_named = c.requires.old.1; is_barred = c.requires.old.2 }

pub verdict_after-found-requires-clause-old : goal.verdict_after-found-requires-clause-old
verdict_after-found-requires-clause-old g c = c.in-Ok.ensures.answer.0

pub verdict_after-found-requires-clause-typed : goal.verdict_after-found-requires-clause-typed
verdict_after-found-requires-clause-typed g c = c.in-Ok.ensures.answer.1

pub returns-in-Ok-clause-chain : goal.returns-in-Ok-clause-chain
returns-in-Ok-clause-chain g c =
    let kept = c.into_featured.result in
    record {
      of_first = record {
        typed = subst AreTypedUnits (sym c.into_featured.ensures.typed) c.in-Ok.ensures.answer.1;
        lines =
            subst (λ (t : TypedUnits). IsListing (IsFeature t.world) kept.lines) (sym c.into_featured.ensures.typed)
            (subst (IsListing (IsFeature c.in-Ok.old.typed.world)) (sym c.into_featured.ensures.lines) c.in-Ok.ensures.answer.0.lines);
      };
      of_second = c.verdict_after-found.ensures.chain.of_second;
    }
