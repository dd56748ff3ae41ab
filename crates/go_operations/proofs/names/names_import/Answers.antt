use Rattle.std.proofs.Common.{Some, ap, ◌∙◌, sym}
use Rattle.go_rules.specs.Meanings.{seen_of}
use Rattle.go_operations.proofs.names.names_import.Goals as goal

pub returns-in-Some-Import : goal.returns-in-Some-Import
returns-in-Some-Import c =
    (c.in-Some-Import.field-0-0.now, sym c.in-Some-Import.ensures ∙ ap (λ m. Some (seen_of m)) c.in-Some-Import.field-0-is)
