use Rattle.go_selectors.specs.contracts.seen.KeyPartialEq.TheImpl as KeyEquality
use Rattle.go_selectors.proofs.Keys.{adds-insert, key_same}
use Rattle.go_selectors.proofs.seen.add.Goals as goal

pub returns : goal.returns
returns c = adds-insert KeyEquality.eq-value.it key_same c.args.keys.now.keys _ c.args.key c.in_ok-insert.field-0 c.in_ok-insert.ensures.keys c.in_ok-insert.ensures.added
