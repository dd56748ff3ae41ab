use Rattle.go_declarations.specs.Forms.{form_of}
use Rattle.go_local_specs.specs.LocalForms.{GivesLocal, objects_in}
use Rattle.go_walks.proofs.Told.{asked_found}
use Rattle.go_flat_statements.proofs.declared.entities_here.Goals as goal

pub returns : goal.returns
returns c = λ l. asked_found (λ F x. GivesLocal F (form_of c.args.form) (objects_in x)) c.new-context.result.env.now c.args.env.now c.new-context.ensures c.entities.result c.found.result c.found.ensures (c.entities.ensures l)
