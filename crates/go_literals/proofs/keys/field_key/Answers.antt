use Rattle.go_base.specs.Keys.{item_of}
use Rattle.go_literals.proofs.KeyNames.{key_gives}
use Rattle.go_literals.proofs.keys.field_key.Goals as goal

pub returns-in-Some-expr_alone : goal.returns-in-Some-expr_alone
returns-in-Some-expr_alone c = key_gives c.args.element.now c.in-Some.key c.in-Some-expr_alone.expr.now c.in-Some.is c.in-Some-expr_alone.ensures (item_of c.name_alone.result) c.name_alone.ensures
