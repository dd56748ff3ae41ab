use Rattle.api_findings.proofs.LeftOutPlatforms.{same_left_outs}
use Rattle.api_findings.proofs.OneFinding as finding
use Rattle.api_findings.proofs.laws.one_finding.Goals as goal

pub returns-clause-features : goal.returns-clause-features
returns-clause-features c = λ barred old tree std_tree ps a b vs ws merged other t s n f g h k.
    finding.one_features barred old tree std_tree (λ t. c.one_world_on.ensures.world barred t std_tree) (λ t. c.one_world_on.ensures.refusal barred t std_tree) (λ t. c.one_world_on.ensures.apart barred t std_tree)
    (λ p units i u m. (c.unit_paths.ensures p barred tree std_tree units t s n i u m).2)
    merged other f g h k

pub returns-clause-verdicts : goal.returns-clause-verdicts
returns-clause-verdicts c = λ barred old tree std_tree ps a b vs ws f g.
    finding.one_verdicts barred old tree std_tree (λ t. c.one_world_on.ensures.world barred t std_tree) (λ t. c.one_world_on.ensures.refusal barred t std_tree) (λ t. c.one_world_on.ensures.apart barred t std_tree) c.one_verdict.ensures f g

pub returns-clause-refusal : goal.returns-clause-refusal
returns-clause-refusal c = λ barred old tree std_tree ps a b f g.
    finding.one_first barred old tree std_tree (λ t. c.one_world_on.ensures.world barred t std_tree) (λ t. c.one_world_on.ensures.refusal barred t std_tree) (λ t. c.one_world_on.ensures.apart barred t std_tree) f g

pub returns-clause-apart : goal.returns-clause-apart
returns-clause-apart c = λ barred old tree std_tree ps a vs line f g.
    finding.found_or_refusal barred old tree std_tree (λ t. c.one_world_on.ensures.world barred t std_tree) (λ t. c.one_world_on.ensures.refusal barred t std_tree) (λ t. c.one_world_on.ensures.apart barred t std_tree) f g

pub returns-clause-left_out : goal.returns-clause-left_out
returns-clause-left_out c = λ barred old tree std_tree ps a b f g. same_left_outs barred std_tree old tree (λ t. c.one_world_on.ensures.left_out barred t std_tree) ps a b f g
