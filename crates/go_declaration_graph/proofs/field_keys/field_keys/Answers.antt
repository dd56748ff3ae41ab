use Rattle.std.proofs.Common.{◌∙◌}
use Rattle.go_declarations.specs.Forms.{form_of}
use Rattle.go_rules.specs.Scopes.{env_of}
use Rattle.go_declaration_graph.proofs.FieldKeySets.{declaration_keys}
use Rattle.go_declaration_graph.proofs.field_keys.field_keys.Goals as goal

pub returns : goal.returns
returns c =
    declaration_keys (env_of c.args.env.now) (form_of c.args.form) c.items.result.now c.new-keys.result.keys c.add_in_each.new.keys.keys
    (c.items.ensures ∙ c.in_ok-each.ensures) c.new-keys.ensures.empty c.in_ok-add_in_each.ensures
