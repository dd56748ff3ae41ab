use Rattle.std.proofs.Common.{inl, inr}
use Rattle.api_gate.specs.inner.Decisions.{of_inputs}
use Rattle.api_gate.proofs.DecisionEnds.{inputs_check, unread_decides}
use Rattle.api_gate.proofs.RequestFacts.{client_tree, finding_kept, named_module, old_tree}
use Rattle.api_gate.proofs.requests.on_files.Goals as goal

pub on_inputs-requires-clause-old : goal.on_inputs-requires-clause-old
on_inputs-requires-clause-old g c κs within = old_tree _ _ c.in-Ok.inputs c.in-Ok.ensures.answer.old_tree

pub on_inputs-requires-clause-client : goal.on_inputs-requires-clause-client
on_inputs-requires-clause-client g c κs within = client_tree _ _ c.in-Ok.inputs.client c.in-Ok.ensures.answer.client

pub on_inputs-requires-clause-finds : goal.on_inputs-requires-clause-finds
on_inputs-requires-clause-finds g c κs within = finding_kept _ c.args.request.now.mode c.args.request.now.client c.in-Ok.inputs.client c.in-Ok.ensures.answer.client c.requires.finds

pub on_inputs-requires-clause-named : goal.on_inputs-requires-clause-named
on_inputs-requires-clause-named g c κs within = named_module c.in-Ok.inputs.tree.«module» c.in-Ok.ensures.answer.tree.module_path

pub returns-in-Err-clause-decision : goal.returns-in-Err-clause-decision
returns-in-Err-clause-decision g c = unread_decides _ _ _ c.args.request.now c.in-Err.error c.unread.result c.unread.ensures c.in-Err.ensures.answer

pub returns-in-Ok-clause-decision : goal.returns-in-Ok-clause-decision
returns-in-Ok-clause-decision g c = of_inputs c.in-Ok.inputs c.in-Ok.ensures.answer c.on_inputs.ensures.decision

pub returns-in-Ok-clause-steps : goal.returns-in-Ok-clause-steps
returns-in-Ok-clause-steps g c = inputs_check _ c.args.request.now c.in-Ok.inputs _ _ c.in-Ok.ensures.answer c.on_inputs.ensures.steps
