use Rattle.go_rules.specs.Scopes.{env_of}
use Rattle.go_types.proofs.Levels.{under_struct}
use Rattle.go_usability.proofs.Walked.{further_struct}
use Rattle.go_usability.proofs.told.push_further.Goals as goal

pub returns-in_ok-push_embedded-in-Struct : goal.returns-in_ok-push_embedded-in-Struct
returns-in_ok-push_embedded-in-Struct c = further_struct (env_of c.args.context.now.env.now).table c.args.term.now _ _ c.args.list.now.all.items c.push_embedded.new.self.all.items c.args.list.now.seen.keys c.push_embedded.new.self.seen.keys (under_struct _ _ _ c.under.ensures _ c.in-Struct.is) c.items.ensures c.in_ok-push_embedded-in-Struct.ensures
