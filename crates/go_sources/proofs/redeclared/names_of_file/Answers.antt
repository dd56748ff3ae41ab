use Rattle.std.proofs.Common.{List, ap, subst, ◌∙◌}
use Rattle.go_base.specs.Gathered.{gather}
use Rattle.go_syntax.specs.declared.declaration.File.{File}
use Rattle.go_typings.specs.Redeclarations.{import_site}
use Rattle.go_units.specs.declared.unit.UsedImport.{UsedImport}
use Rattle.go_sources.specs.UnitSources.{import_of}
use Rattle.go_sources.specs.inner.DeclarationSites.{decl_sites}
use Rattle.go_sources.specs.inner.KnownNames.{keys_of, Steps}
use Rattle.go_sources.proofs.Redeclaring.{imports_then}
use Rattle.go_sources.proofs.Visiting.{step_ends}
use Rattle.go_sources.proofs.redeclared.names_of_file.Goals as goal

pub returns-in-Some : goal.returns-in-Some
returns-in-Some c =
    step_ends (gather (λ (i : UsedImport). import_site c.args.number (import_of i)) c.args.file.now.imports) (gather (decl_sites c.args.number) c.args.file.now.outline.decls) (keys_of c.args.known.now) (keys_of c.imports.new.known) (keys_of c.imports.new.known) c.in-Some.place
    (subst (Steps (gather (λ (i : UsedImport). import_site c.args.number (import_of i)) c.args.file.now.imports) (keys_of c.args.known.now) (keys_of c.imports.new.known)) c.in-Some.is
    (subst (λ (is : List UsedImport). Steps (gather (λ (i : UsedImport). import_site c.args.number (import_of i)) is) (keys_of c.args.known.now) (keys_of c.imports.new.known) c.in_ok-found.found) c.items.ensures c.in_ok-found.ensures))

pub returns : goal.returns
returns c =
    imports_then c.args.number c.args.file.now (keys_of c.args.known.now) (keys_of c.imports.new.known) (keys_of c.declarations.new.known) c.declarations.result
    (subst (Steps (gather (λ (i : UsedImport). import_site c.args.number (import_of i)) c.args.file.now.imports) (keys_of c.args.known.now) (keys_of c.imports.new.known)) c.in-None.is
    (subst (λ (is : List UsedImport). Steps (gather (λ (i : UsedImport). import_site c.args.number (import_of i)) is) (keys_of c.args.known.now) (keys_of c.imports.new.known) c.in_ok-found.found) c.items.ensures c.in_ok-found.ensures))
    c.items-2.result.now (c.items-2.ensures ∙ ap (λ (o : File). o.decls) c.value.ensures) c.declarations.ensures
