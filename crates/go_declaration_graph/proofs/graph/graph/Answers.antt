use Rattle.std.proofs.lemmas.Result.{IfOk-weaker}
use Rattle.go_declarations.specs.Listings.{declarations_of}
use Rattle.go_sifting.specs.Graphs.{IsGraphOf}
use Rattle.go_declaration_graph.specs.inner.Rows.{HasRows}
use Rattle.std.proofs.Common.{length}
use Rattle.go_declaration_graph.proofs.GraphRows.{graph_from}
use Rattle.go_declaration_graph.proofs.graph.graph.Goals as goal

pub returns-clause-graph : goal.returns-clause-graph
returns-clause-graph c = λ s u a same pathed scope.
    let ds = c.args.tables.now.declarations.now in
    let tables = c.in_ok-index.index.tables in
    IfOk-weaker c.add_declarations.result (HasRows c.args.tables.now.names.now c.args.tables.now.methods.now tables c.args.env.now (declarations_of ds) (length ds)) (IsGraphOf s u a)
    (λ g has. graph_from s u a c.args.env.now c.args.tables.now.names.now c.args.tables.now.methods.now g tables ds same pathed scope c.requires.names c.requires.methods c.in_ok-index.ensures has) c.add_declarations.ensures.rows
