use denote.Param.Send.{sendable}
use Rattle.api_findings.proofs.Sendable.{counted_send}
use Rattle.api_findings.proofs.sides.both_on.Goals as goal

pub join-requires-send-A : goal.join-requires-send-A
join-requires-send-A g c κs within = let counted = counted_send _ c.type_bounds.send-L in search sendable depth 20
