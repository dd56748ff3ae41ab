use Rattle.go_declaration_asks.proofs.ReservedNames.{bare_where_special, not_special}
use Rattle.go_declaration_asks.proofs.reserved.is_bare_where_special.Goals as goal

pub returns-then-not-is_special : goal.returns-then-not-is_special
returns-then-not-is_special c = not_special c.args.package_name.now c.args.func.now c.is_special.result c.is_special.ensures c.if-not-is_special.true

pub returns : goal.returns
returns c = bare_where_special c.args.package_name.now c.args.func.now c.is_special.result c.is_special.ensures c.if-not-is_special.false c.is_bare.result c.is_bare.ensures
