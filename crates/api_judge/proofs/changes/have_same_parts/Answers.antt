use Rattle.api_judge.proofs.LineTexts.{one_path, other_path}
use Rattle.api_judge.proofs.changes.have_same_parts.Goals as goal

pub returns-then-eq : goal.returns-then-eq
returns-then-eq c = one_path c.args.a.now c.args.b.now c.eq.result c.eq-then-eq.result c.requires c.eq.ensures c.if-eq.true c.eq-then-eq.ensures

pub returns : goal.returns
returns c = other_path c.args.a.now c.args.b.now c.eq.result c.requires c.eq.ensures c.if-eq.false
