use Rattle.go_type_terms.specs.Answers.{env_in}
use Rattle.go_operations.proofs.Meanings.{from_imported}
use Rattle.go_operations.proofs.names.imported.Goals as goal

pub returns-in-None : goal.returns-in-None
returns-in-None c = from_imported (env_in c.args.context.now) c.args.package.now c.args.name.now c.in-None.ensures
