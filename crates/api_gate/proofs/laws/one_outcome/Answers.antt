use Rattle.api_gate.proofs.OneOutcome.{same_outcome}
use Rattle.api_gate.proofs.laws.one_outcome.Goals as goal

pub returns : goal.returns
returns c = λ words m a b h k.
    same_outcome c.one_next.ensures c.one_finding.ensures.features c.one_finding.ensures.verdicts c.one_finding.ensures.left_out c.one_finding.ensures.refusal c.one_finding.ensures.apart
    c.one_vetting.ensures.answers c.one_vetting.ensures.refusal c.one_vetting.ensures.apart c.one_request.ensures c.one_inputs.ensures.inputs c.one_inputs.ensures.refusal
    c.one_inputs.ensures.apart m words a b h k
