use Rattle.std.proofs.Common.{ℕ, List, ap, ◌∙◌, subst, sym}
use Rattle.go_declarations.specs.Listings.{declarations_of}
use Rattle.go_declared.proofs.NamesInOrder.{names_listed}
use Rattle.go_declared.specs.NameTables.{AreDeclared, entries_of, names_in, texts_of}
use Rattle.go_entries.specs.HadEntries.{entries_at}
use Rattle.go_packages.proofs.Packages.{package_of}
use Rattle.go_packages.proofs.PlacedNames.{placed}
use Rattle.go_packages.specs.inner.DefinedTypes.{AreDefined}
use Rattle.go_packages.specs.inner.NamedObjects.{denoted, objects_named}
use Rattle.go_sources.specs.UnitSources.{source_of}
use Rattle.go_typings.specs.Declarations.{declarations, Declaration}
use Rattle.go_typings.specs.PackageEnvironments.{own_defined}
use Rattle.go_packages.proofs.package.package.Goals as goal

pub returns : goal.returns
returns c = λ s within t.
    let u = source_of c.args.unit.now in
    let a = entries_at c.args.had.now in
    let names = names_listed c.in_ok-listed.listed ∙ ap names_in c.in_ok-listed.ensures.entries in
    package_of s u within a t c.args.tables.now.names.now (subst (λ (xs : List Declaration). AreDeclared xs c.args.tables.now.names.now) c.requires.listed c.requires.tables.names) c.in_ok-listed.ensures.ordered
    c.in_ok-copy.field-0 c.in_ok-copy-2.field-0 c.in_ok-shared_objects.shared_objects c.in_ok-shared_defined.shared_defined
    c.in_ok-copy.ensures c.in_ok-copy-2.ensures
    (c.in_ok-shared_objects.ensures
    ∙ c.in_ok-objects.ensures
    ∙ ap (λ (xs : List Declaration). objects_named (denoted u.path a xs) (texts_of c.items.result.now)) c.requires.listed
    ∙ ap (objects_named (denoted u.path a (declarations u))) (ap texts_of c.items.ensures ∙ names))
    (subst (AreDefined (own_defined u a) (names_in c.args.tables.now.names.now)) (sym c.in_ok-shared_defined.ensures)
    (subst (λ (ns : List (List ℕ)). AreDefined (own_defined u a) ns c.in_ok-defined.defined) (ap texts_of c.items-2.ensures ∙ names) c.in_ok-defined.ensures))

pub objects-requires : goal.objects-requires
objects-requires c =
    placed (declarations_of c.args.tables.now.declarations.now) c.args.tables.now.names.now c.requires.tables.names c.items.result.now c.in_ok-listed.ensures.ordered (ap entries_of c.items.ensures ∙ c.in_ok-listed.ensures.entries)

pub defined_types-requires-clause-placed : goal.defined_types-requires-clause-placed
defined_types-requires-clause-placed c =
    placed (declarations_of c.args.tables.now.declarations.now) c.args.tables.now.names.now c.requires.tables.names c.items-2.result.now c.in_ok-listed.ensures.ordered (ap entries_of c.items-2.ensures ∙ c.in_ok-listed.ensures.entries)
