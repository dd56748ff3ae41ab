use Rattle.go_rules.specs.Scopes.{env_of}
use Rattle.go_usability.proofs.Entries.{error_had, entry_had, entry_none}
use Rattle.go_usability.proofs.context.Context.has_entry.Goals as goal

pub returns-then-is_error : goal.returns-then-is_error
returns-then-is_error c = error_had (env_of c.args.self.now.env.now) c.args.name.now c.is_error.result c.if-is_error.true c.is_error.ensures

pub returns-in-Some : goal.returns-in-Some
returns-in-Some c = entry_had (env_of c.args.self.now.env.now) c.args.name.now c.is_error.result _ c.in-Some.field-0 c.if-is_error.false c.is_error.ensures c.defined.ensures c.in-Some.is

pub returns-in-None : goal.returns-in-None
returns-in-None c = entry_none (env_of c.args.self.now.env.now) c.args.name.now c.is_error.result _ c.if-is_error.false c.is_error.ensures c.defined.ensures c.in-None.is
