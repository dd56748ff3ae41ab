use Rattle.std.proofs.Common.{Some, sym, ap, ◌∙◌}
use Rattle.go_rules.specs.Meanings.{seen_of}
use Rattle.go_assignments.proofs.defined.variable_type.Goals as goal

pub returns-in-Some-Local : goal.returns-in-Some-Local
returns-in-Some-Local c = sym c.in-Some-Local.ensures ∙ ap (λ m. Some (seen_of m)) c.in-Some-Local.field-0-is
