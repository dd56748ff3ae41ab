use Rattle.std.proofs.Common.{List, ◌∙◌, ap, subst}
use Rattle.go_units.specs.UnitFacts.{UnitFilesAreNamed, needed_by}
use Rattle.go_units.specs.declared.unit.UnitFile.{UnitFile}
use Rattle.go_client_units.proofs.units.unit_of.Goals as goal

pub invariant_of-result : goal.invariant_of-result
invariant_of-result c = record {
  few = c.requires.few;
  named = subst (λ (files : List UnitFile). UnitFilesAreNamed files c.in_ok-name.name) c.items.ensures c.in_ok-name.ensures;
  needed = c.in_ok-needs.ensures ∙ ap needed_by c.items-2.ensures;
}
