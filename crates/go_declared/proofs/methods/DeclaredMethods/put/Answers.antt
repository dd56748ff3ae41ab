use Rattle.std.proofs.Common.{ap, ◌∙◌}
use Rattle.go_rules.specs.Names.{with_value}
use Rattle.go_declared.proofs.methods.DeclaredMethods.put.Goals as goal

pub returns : goal.returns
returns c =
    c.in_ok-insert.ensures.entries
    ∙ ap (λ names. with_value names c.in_ok-key.key c.args.rows) c.self.view_is
    ∙ ap (λ name. with_value c.args.self.now name c.args.rows) c.in_ok-key.ensures
