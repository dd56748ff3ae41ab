use Rattle.std.proofs.Common.{◌∙◌, None, refl, sym, ap, subst}
use Rattle.api_features.specs.Features.{IsFeature}
use Rattle.api_findings.proofs.FoundOn.{alone_count, alone_error, alone_found}
use Rattle.api_findings.proofs.LeftOutPlatforms.{alone_left_out}
use Rattle.api_findings.specs.declared.listed.Listed.{Listed}
use Rattle.api_findings.specs.inner.Found.{left_out_alone}
use Rattle.api_lines.specs.Lines.{IsListing}
use Rattle.api_findings.proofs.found_on.features_alone.Goals as goal

pub returns-in-Err-clause-answer : goal.returns-in-Err-clause-answer
returns-in-Err-clause-answer g c = alone_error c.args.trees.now.barred.now c.args.trees.now.tree.now c.args.trees.now.std_tree.now c.args.platform c.in-Err.error c.in-Err.ensures.answer

pub returns-in-Err-clause-steps : goal.returns-in-Err-clause-steps
returns-in-Err-clause-steps g c = alone_count c.args.trees.now.barred.now c.args.trees.now.tree.now c.args.trees.now.std_tree.now c.args.platform c.args.steps.now c.listed_on.new.steps c.listed_on.ensures.steps

pub returns-in-Ok-clause-answer : goal.returns-in-Ok-clause-answer
returns-in-Ok-clause-answer g c =
    let lines = c.featured.ensures.lines ∙ ap (λ (l : Listed). l.lines) c.into_listed.ensures in
    alone_found c.args.trees.now.barred.now c.args.trees.now.tree.now c.args.trees.now.std_tree.now c.args.platform c.in-Ok.new.world c.featured.result c.in-Ok.ensures.answer.world c.featured.ensures.verdict (subst (IsListing (IsFeature c.in-Ok.new.world)) (sym lines) c.in-Ok.ensures.answer.lines)

pub returns-in-Ok-clause-steps : goal.returns-in-Ok-clause-steps
returns-in-Ok-clause-steps g c = alone_count c.args.trees.now.barred.now c.args.trees.now.tree.now c.args.trees.now.std_tree.now c.args.platform c.args.steps.now c.listed_on.new.steps c.listed_on.ensures.steps

pub returns-in-Ok-clause-left_out : goal.returns-in-Ok-clause-left_out
returns-in-Ok-clause-left_out g c =
    let left_out = c.featured.ensures.left_out ∙ ap (λ (l : Listed). left_out_alone l.left_out) c.into_listed.ensures in
    alone_left_out c.args.trees.now.barred.now c.args.trees.now.std_tree.now None c.args.trees.now.tree.now c.args.platform c.in-Ok.new.listed.left_out c.featured.result.left_out refl c.in-Ok.ensures.answer.left_out left_out
