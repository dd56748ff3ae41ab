use Rattle.go_rules.specs.Scopes.{env_of}
use Rattle.go_types.proofs.Levels.{under_array, under_struct}
use Rattle.go_usability.proofs.Entering.{parts_array, parts_struct}
use Rattle.go_usability.proofs.comparison.push_parts.Goals as goal

pub returns-in_ok-push-in-Array : goal.returns-in_ok-push-in-Array
returns-in_ok-push-in-Array c = parts_array (env_of c.args.context.now.env.now).table c.args.term.now _ _ _ c.args.list.now.all.items c.push.new.self.all.items c.args.list.now.seen.keys c.push.new.self.seen.keys (under_array _ _ _ c.under.ensures _ _ c.in-Array.is) c.value.ensures c.in_ok-push-in-Array.ensures

pub returns-in_ok-push_fields-in-Struct : goal.returns-in_ok-push_fields-in-Struct
returns-in_ok-push_fields-in-Struct c = parts_struct (env_of c.args.context.now.env.now).table c.args.term.now _ _ c.args.list.now.all.items c.push_fields.new.self.all.items c.args.list.now.seen.keys c.push_fields.new.self.seen.keys (under_struct _ _ _ c.under.ensures _ c.in-Struct.is) c.items.ensures c.in_ok-push_fields-in-Struct.ensures
