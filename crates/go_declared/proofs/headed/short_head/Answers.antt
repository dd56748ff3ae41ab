use Rattle.std.proofs.Common.{arith, rules, ◌∙◌}
use Rattle.std.proofs.lemmas.Grind.{common_steps}
use Rattle.go_declared.proofs.Heads.{ended_front, same_number}
use Rattle.go_declared.proofs.headed.short_head.Goals as goal

pub loop-i-preserved : goal.loop-i-preserved
loop-i-preserved c = (
  grind (arith, common_steps, c.loop-i.invariant.0),
  (λ k h. grind (arith, common_steps, c.loop-i.invariant.1 k)),
  (λ k h. grind (arith, common_steps, c.loop-i.invariant.2 k)),
)

pub returns : goal.returns
returns c = (
  c.from_be_bytes.ensures ∙ same_number c.loop-i.front c.args.bytes.now (ended_front c.loop-i.front c.args.bytes.now c.loop-i.i c.loop-i-test.false c.loop-i.invariant.1 c.loop-i.invariant.2),
  (λ i h. search (rules, c.type_inv.bytes i)),
)
