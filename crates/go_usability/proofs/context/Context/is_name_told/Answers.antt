use Rattle.go_rules.specs.Scopes.{env_of}
use Rattle.go_usability.proofs.Entries.{told_none, told_had}
use Rattle.go_usability.proofs.context.Context.is_name_told.Goals as goal

pub returns-then-not-has_entry : goal.returns-then-not-has_entry
returns-then-not-has_entry c = told_none (env_of c.args.self.now.env.now) c.args.name.now c.args.sel.now c.has_entry.result c.if-not-has_entry.true c.has_entry.ensures

pub returns : goal.returns
returns c = told_had (env_of c.args.self.now.env.now) c.args.name.now c.args.sel.now c.has_entry.result c.is_missing.result c.if-not-has_entry.false c.has_entry.ensures c.is_missing.ensures
