-- The first name that was declared before, and that there is none.
use Rattle.std.proofs.Common.{◌≡◌, ℕ, Option, None, Some, List, [], sym, subst}
use Rattle.std.specs.Prelude.{Result, Ok, Err}
use Rattle.std.specs.Result.{IfOk}
use Rattle.go_base.specs.Gathered.{gather}
use Rattle.go_base.specs.declared.memory.NoMemory.{NoMemory}
use Rattle.go_syntax.specs.declared.declaration.Decl.{Decl}
use Rattle.go_syntax.specs.declared.name.Place.{Place}
use Rattle.go_typings.proofs.go_rules_proofs.OneName.{none_some}
use Rattle.go_typings.specs.Redeclarations.{import_site, IsRedeclared, Site, sites}
use Rattle.go_units.specs.declared.unit.«Unit».{«Unit» as PackageUnit}
use Rattle.go_units.specs.declared.unit.UnitFile.{UnitFile}
use Rattle.go_units.specs.declared.unit.UsedImport.{UsedImport}
use Rattle.go_sources.specs.UnitSources.{import_of, source_of}
use Rattle.go_sources.specs.inner.DeclarationSites.{decl_sites, unit_file_sites, unit_sites_from}
use Rattle.go_sources.specs.inner.KnownNames.{After, Steps, Visited, Key}
use Rattle.go_sources.proofs.Sites.{unit_sites}
use Rattle.go_sources.proofs.Visiting.{step_both}

none_visited : Visited [] []
none_visited = record { keys = λ k. ((λ h. absurd h), (λ m. absurd m.1)); none = λ n s l. none_some l.is }

after_all : (u : PackageUnit) (new : List Key) (r : Option Place) → Steps (unit_sites_from 0 u.files) [] new r → After (sites (source_of u)) new r
after_all u new r s = subst (λ (w : List Site). After w new r) (sym (unit_sites u)) (s [] none_visited)

pub first_of_unit : (u : PackageUnit) (new : List Key) (p : Place) → Steps (unit_sites_from 0 u.files) [] new (Some p) → IsRedeclared (source_of u) p
first_of_unit u new p s = let f = after_all u new (Some p) s in record { number = f.number; site = f.site; later = f.later; first = f.first; place = f.place }

pub none_of_unit : (u : PackageUnit) (new : List Key) → Steps (unit_sites_from 0 u.files) [] new None → (p : Place) → IsRedeclared (source_of u) p → ⊥
none_of_unit u new s p r = (after_all u new None s).none r.number r.site r.later

-- the declarations of a file after its imports
pub imports_then : (number : ℕ) (f : UnitFile) (old mid new : List Key) (r : Result (Option Place) NoMemory) → Steps (gather (λ (i : UsedImport). import_site number (import_of i)) f.imports) old mid None
    → (ds : List Decl) → ds ≡ f.outline.decls → IfOk r (Steps (gather (decl_sites number) ds) mid new) → IfOk r (Steps (unit_file_sites number f) old new)
imports_then number f old mid new (Ok found) s ds e g = step_both (gather (λ (i : UsedImport). import_site number (import_of i)) f.imports) (gather (decl_sites number) f.outline.decls) old mid new found s (subst (λ (w : List Decl). Steps (gather (decl_sites number) w) mid new found) e g)
imports_then number f old mid new (Err x) s ds e g = tt
