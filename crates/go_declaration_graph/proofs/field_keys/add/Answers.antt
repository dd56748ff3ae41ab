use Rattle.std.proofs.Common.{◌≡◌, subst}
use Rattle.go_base.specs.Growing.{Grows}
use Rattle.go_declaration_graph.specs.declared.field_keys.FieldKey.{FieldKey}
use Rattle.go_declaration_graph.proofs.FieldKeySets.{key_added}
use Rattle.go_declaration_graph.proofs.field_keys.add.Goals as goal

pub returns : goal.returns
returns c =
    subst (λ (k : FieldKey). Grows (λ (x : FieldKey). k ≡ x) c.args.keys.now.keys c.insert.new.self.keys) c.in_ok-key.ensures
    (key_added c.args.keys.now.keys c.insert.new.self.keys c.in_ok-key.key c.in_ok-insert.ensures.keys)
