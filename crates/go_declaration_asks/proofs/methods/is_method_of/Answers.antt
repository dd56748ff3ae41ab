use Rattle.std.proofs.Common.{ap}
use Rattle.go_model.specs.types.Tables.{entry_of}
use Rattle.go_rules.specs.Scopes.{env_of}
use Rattle.go_declaration_asks.proofs.MethodFacts.{method_barred, method_decided, method_undefined}
use Rattle.go_declaration_asks.proofs.methods.is_method_of.Goals as goal

pub returns-in-None : goal.returns-in-None
returns-in-None c = method_undefined (env_of c.args.env.now) c.args.base.now c.args.receiver.now c.args.func.now (entry_of c.in_ok-found.found) c.in_ok-found.ensures (ap entry_of c.in-None.is)

pub returns-then-not-permits_method : goal.returns-then-not-permits_method
returns-then-not-permits_method c = method_barred (env_of c.args.env.now) c.args.base.now c.args.receiver.now c.args.func.now (entry_of c.in_ok-found.found) c.in_ok-found.ensures c.in-Some.defined.now (ap entry_of c.in-Some.is) c.permits_method.result c.if-not-permits_method.true c.permits_method.ensures

pub returns : goal.returns
returns c = method_decided (env_of c.args.env.now) c.args.base.now c.args.receiver.now c.args.func.now (entry_of c.in_ok-found.found) c.in_ok-found.ensures c.in-Some.defined.now (ap entry_of c.in-Some.is) c.permits_method.result c.if-not-permits_method.false c.permits_method.ensures c.in_ok-distinct.distinct c.in_ok-distinct.ensures
