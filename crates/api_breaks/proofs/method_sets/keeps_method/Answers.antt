use Rattle.api_breaks.proofs.MethodSetLosses.{kept_nowhere, kept_anyhow, kept_alike}
use Rattle.api_breaks.proofs.method_sets.keeps_method.Goals as goal

pub returns-in-None : goal.returns-in-None
returns-in-None c = kept_nowhere c.args.old.now c.args.callable.now c.args.method.now c.in-None.ensures

pub returns-then-not-is_std_sel : goal.returns-then-not-is_std_sel
returns-then-not-is_std_sel c = kept_anyhow c.args.old.now c.args.callable.now c.args.method.now c.in-Some.after.now c.is_std_sel.result c.in-Some.ensures c.is_std_sel.ensures c.if-not-is_std_sel.true

pub returns-else-not-is_std_sel : goal.returns-else-not-is_std_sel
returns-else-not-is_std_sel c = kept_alike c.args.old.now c.args.callable.now c.args.method.now c.in-Some.after.now c.is_std_sel.result c.same_signature.result c.in-Some.ensures c.is_std_sel.ensures c.if-not-is_std_sel.false c.same_signature.ensures
