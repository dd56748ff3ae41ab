use Rattle.std.proofs.Common.{inl, inr, subst}
use Rattle.api_gate.specs.inner.Decisions.{IsClientTree}
use Rattle.api_gate.proofs.requests.on_modules.Goals as goal

pub on_client-requires-clause-client : goal.on_client-requires-clause-client
on_client-requires-clause-client g c κs within = subst IsClientTree c.in-Some.is c.requires.client

pub returns-in-None-clause-steps : goal.returns-in-None-clause-steps
returns-in-None-clause-steps g c = inl (c.in-None.is, c.on_platforms.ensures.steps)

pub returns-in-Some-clause-steps : goal.returns-in-Some-clause-steps
returns-in-Some-clause-steps g c = inr (c.in-Some.client, c.in-Some.is, c.on_client.ensures.steps)
