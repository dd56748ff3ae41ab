-- What a declaration selects from, by its references and the imports of its file.
use Rattle.std.proofs.Common.{◌≡◌, Bool, List, subst}
use Rattle.go_exposed.specs.BeyondProfile.{SelectsMissing}
use Rattle.go_exposed.specs.ImportUses.{SelectsFrom}
use Rattle.go_import_uses.specs.Selecting.{OneSelects, OneSelectsNone}
use Rattle.go_import_uses.proofs.OneOf.{of_fact}
use Rattle.go_references.specs.declared.references.Reference.{Reference}
use Rattle.go_selectors.specs.Answers.{Decides}
use Rattle.go_typings.specs.DeclarationNodes.{references}
use Rattle.go_typings.specs.Declarations.{Declaration}
use Rattle.go_typings.specs.Sources.{Import, PackageSource, imports_of}

module _ (u : PackageSource) (d : Declaration) where
  missing_here : OneSelectsNone (imports_of u d.file) (references d.form) → SelectsMissing u d
  missing_here k = record {
    «import» = k.selects.«import»;
    selects = record { reference = k.reference; has = k.has; selects = k.selects.selects.selects; means = k.selects.selects.means };
    missing = k.selects.missing;
  }

  here_missing : SelectsMissing u d → OneSelectsNone (imports_of u d.file) (references d.form)
  here_missing k = record {
    reference = k.selects.reference;
    has = k.selects.has;
    selects = record { «import» = k.«import»; selects = record { selects = k.selects.selects; means = k.selects.means }; missing = k.missing };
  }

  pub missing_told : (is : List Import) (rs : List Reference) (b : Bool) → is ≡ imports_of u d.file → rs ≡ references d.form → Decides b (OneSelectsNone is rs) → Decides b (SelectsMissing u d)
  missing_told is rs b e f k = of_fact b missing_here here_missing (subst (λ (q : List Import × List Reference). Decides b (OneSelectsNone q.0 q.1)) (λ i. (e i, f i)) k)

  from_here : (i : Import) → OneSelects (imports_of u d.file) (references d.form) i → SelectsFrom u d i
  from_here i k = record { reference = k.reference; has = k.has; selects = k.selects.selects; means = k.selects.means }

  here_from : (i : Import) → SelectsFrom u d i → OneSelects (imports_of u d.file) (references d.form) i
  here_from i k = record { reference = k.reference; has = k.has; selects = record { selects = k.selects; means = k.means } }

  pub from_told : (is : List Import) (rs : List Reference) (i : Import) (b : Bool) → is ≡ imports_of u d.file → rs ≡ references d.form → Decides b (OneSelects is rs i) → Decides b (SelectsFrom u d i)
  from_told is rs i b e f k = of_fact b (from_here i) (here_from i) (subst (λ (q : List Import × List Reference). Decides b (OneSelects q.0 q.1 i)) (λ j. (e j, f j)) k)
