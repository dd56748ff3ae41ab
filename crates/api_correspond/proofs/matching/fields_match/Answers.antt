use Rattle.std.proofs.Common.{arith, sym}
use mathlib.Core.Bool.{true≢false}
use Rattle.api_correspond.specs.Outermost.{field_head}
use Rattle.api_correspond.proofs.Heads.{heads_apart, heads_more}
use Rattle.api_correspond.proofs.matching.fields_match.Goals as goal

pub returns-then-not-field_matches : goal.returns-then-not-field_matches
returns-then-not-field_matches c = (
  λ h. absurd (true≢false (sym h)),
  heads_apart field_head c.args.before.now c.args.after.now (omega arith) c.loop-i.i c.index-before-i.result c.index-after-i.result c.loop-i-test.true c.index-before-i.is c.index-after-i.is c.field_matches.result c.field_matches.ensures c.if-not-field_matches.true,
)

pub loop-i-preserved : goal.loop-i-preserved
loop-i-preserved c = heads_more field_head c.args.before.now c.args.after.now (omega arith) c.loop-i.i c.index-before-i.result c.index-after-i.result c.loop-i-test.true c.index-before-i.is c.index-after-i.is c.field_matches.result c.field_matches.ensures c.if-not-field_matches.false c.loop-i.invariant
