use Rattle.std.proofs.lemmas.Result.{on_ok_weaker}
use Rattle.go_rules.specs.Scopes.{env_of}
use Rattle.go_declaration_graph.proofs.FoundNumbers.{tree_numbers}
use Rattle.go_declaration_graph.proofs.found.push_found_in.Goals as goal

pub returns : goal.returns
returns c =
    on_ok_weaker c.push_all_found.result
    (tree_numbers (env_of c.args.env.now) c.args.names.now c.args.index.now.tables c.args.tree c.in_ok-methods.methods c.items.result.now c.path.result.now c.args.row.now c.push_all_found.new.row
    c.path.ensures c.items.ensures c.in_ok-methods.ensures) c.push_all_found.ensures
