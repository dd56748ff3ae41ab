use Rattle.api_judge.proofs.OneVerdict.{decided}
use Rattle.api_judge.proofs.judge.judge_listed.Goals as goal

pub returns : goal.returns
returns c = record {
  breaks = c.in_ok-breaks.ensures.exact;
  compatible = c.in_ok-breaks.ensures.compatible;
  held = c.in_ok-breaks.ensures.held;
  changed = decided c.args.old.now c.args.new.now c.args.before.now c.args.after.now c.requires.before c.requires.after c.in_ok-changed.changed c.in_ok-changed.ensures;
}
