use Rattle.std.proofs.Common.{ap}
use Rattle.api_correspond.specs.inner.BySel.{numbers_of}
use Rattle.api_correspond.proofs.Selected.{other_sel}
use Rattle.api_correspond.proofs.by_sel.taken.Goals as goal

pub returns-in-None-clause-others : goal.returns-in-None-clause-others
returns-in-None-clause-others c = λ s e. ap numbers_of (c.remove.ensures.updates.2 s (other_sel c.args.sel.now s e))

pub returns-in-Some-clause-others : goal.returns-in-Some-clause-others
returns-in-Some-clause-others c = λ s e. ap numbers_of (c.remove.ensures.updates.2 s (other_sel c.args.sel.now s e))
