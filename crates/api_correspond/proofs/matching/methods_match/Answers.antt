use Rattle.std.proofs.Common.{arith, sym}
use mathlib.Core.Bool.{true≢false}
use Rattle.go_model.specs.types.MethodSets.{method_sel}
use Rattle.api_correspond.proofs.Heads.{heads_apart, heads_more}
use Rattle.api_correspond.proofs.matching.methods_match.Goals as goal

pub returns-then-not-method_matches : goal.returns-then-not-method_matches
returns-then-not-method_matches c = (
  λ h. absurd (true≢false (sym h)),
  heads_apart method_sel c.args.before.now c.args.after.now (omega arith) c.loop-i.i c.index-before-i.result c.index-after-i.result c.loop-i-test.true c.index-before-i.is c.index-after-i.is c.method_matches.result c.method_matches.ensures c.if-not-method_matches.true,
)

pub loop-i-preserved : goal.loop-i-preserved
loop-i-preserved c = heads_more method_sel c.args.before.now c.args.after.now (omega arith) c.loop-i.i c.index-before-i.result c.index-after-i.result c.loop-i-test.true c.index-before-i.is c.index-after-i.is c.method_matches.result c.method_matches.ensures c.if-not-method_matches.false c.loop-i.invariant
