use Rattle.go_declarations.specs.Forms.{form_of}
use Rattle.go_rules.specs.Scopes.{env_of}
use Rattle.go_declaration_graph.proofs.GraphRows.{rows_in}
use Rattle.go_declaration_graph.proofs.rows.rows.Goals as goal

pub returns : goal.returns
returns c =
    rows_in c.args.names.now c.args.methods.now c.args.index.now.tables (env_of c.args.env.now) (form_of c.args.form)
    (record { depends = c.in_ok-depends.depends; leads = c.in_ok-leads.leads; after = c.in_ok-after.after; lengths = c.in_ok-lengths.lengths })
    c.in_ok-depends.ensures c.in_ok-leads.ensures c.in_ok-after.ensures c.in_ok-lengths.ensures
