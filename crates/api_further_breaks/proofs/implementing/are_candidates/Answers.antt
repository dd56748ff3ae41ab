use Rattle.go_selectors.specs.Candidates.{IsCandidate}
use Rattle.go_types.proofs.MethodLists.{lacks, has_next}
use Rattle.api_further_breaks.proofs.implementing.are_candidates.Goals as goal

pub returns-then-not-is_candidate : goal.returns-then-not-is_candidate
returns-then-not-is_candidate c = lacks (IsCandidate c.args.callable.now) c.args.methods.now c.loop-method.method-index c.method-item.result c.is_candidate.result c.loop-method-test.true c.method-item.is c.if-not-is_candidate.true c.is_candidate.ensures

pub loop-method-preserved : goal.loop-method-preserved
loop-method-preserved c = has_next (IsCandidate c.args.callable.now) c.args.methods.now c.loop-method.method-index c.method-item.result c.is_candidate.result c.loop-method-test.true c.method-item.is c.if-not-is_candidate.false c.is_candidate.ensures c.loop-method.invariant
