use Rattle.std.proofs.lemmas.Result.{on_ok_weaker}
use Rattle.go_rules.specs.Scopes.{env_of}
use Rattle.go_declaration_graph.proofs.FieldKeySets.{tree_keys}
use Rattle.go_declaration_graph.proofs.field_keys.add_in.Goals as goal

pub returns : goal.returns
returns c =
    on_ok_weaker c.add_all.result
    (tree_keys (env_of c.args.env.now) c.args.tree c.in_ok-names.names c.items.result.now c.args.keys.now.keys c.add_all.new.keys.keys c.items.ensures c.in_ok-names.ensures) c.add_all.ensures
