use Rattle.go_local_scopes.proofs.Standing.{kept_none}
use Rattle.go_switch_statements.proofs.Guarded.{bound_nothing, bound_told}
use Rattle.go_switch_statements.proofs.type_switches.bind.Goals as goal

pub returns-in-Some-clause-bound : goal.returns-in-Some-clause-bound
returns-in-Some-clause-bound c = bound_told c.args.name.now c.in-Some.name c.args.term.now c.in-Some.is c.args.env.now.opened c.declare_local.new.env.opened c.declare_local.result c.declare_local.ensures.declared

pub returns-in-None-clause-kept : goal.returns-in-None-clause-kept
returns-in-None-clause-kept c = kept_none c.args.env.now c.requires

pub returns-in-None-clause-bound : goal.returns-in-None-clause-bound
returns-in-None-clause-bound c = bound_nothing c.args.name.now c.args.term.now c.in-None.is c.args.env.now.opened
