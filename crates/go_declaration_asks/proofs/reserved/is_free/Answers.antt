use Rattle.go_declaration_asks.proofs.ReservedNames.{free_decided, init_not_free}
use Rattle.go_declaration_asks.proofs.reserved.is_free.Goals as goal

pub returns-then-is_init : goal.returns-then-is_init
returns-then-is_init c = init_not_free c.args.package_name.now c.args.name.now c.is_init.result c.if-is_init.true c.is_init.ensures

pub returns : goal.returns
returns c = free_decided c.args.package_name.now c.args.name.now c.is_init.result c.if-is_init.false c.is_init.ensures c.is_main_of.result c.is_main_of.ensures
