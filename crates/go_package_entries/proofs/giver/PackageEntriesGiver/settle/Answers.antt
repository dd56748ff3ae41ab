use Rattle.std.proofs.Common.{◌≡◌, ap, get_or, sym, subst, refl, ◌∙◌, List}
use Rattle.go_declarations.specs.Listings.{declaration_of}
use Rattle.go_declared.specs.MethodTables.{AreMethods}
use Rattle.go_declared.specs.NamesakeTables.{AreNamesakes}
use Rattle.go_entries.specs.Entries.{entry_of}
use Rattle.go_entries.specs.declared.entry.Entry.{Entry as Had}
use Rattle.go_entries.specs.HadEntries.{entries_at}
use Rattle.go_package_scopes.specs.KeptScopes.{Keeps}
use Rattle.go_package_scopes.specs.PackageScopes.{at_declaration}
use Rattle.go_rules.specs.Scopes.{env_of}
use Rattle.go_typings.specs.DeclarationRules.{Gives}
use Rattle.go_typings.specs.Declarations.{Declaration}
use Rattle.go_typings.specs.PackageEnvironments.{Entries}
use Rattle.go_typings.specs.Sources.{Setting}
use Rattle.go_package_entries.proofs.Attempts.{declared_at, fits, gains, given_nothing, kept_there, not_found, stuck}
use Rattle.go_package_entries.specs.PackageStates.{entries_in, setting_in, source_in}
use Rattle.go_package_entries.specs.Settings.{setting_of}
use Rattle.go_package_entries.proofs.giver.PackageEntriesGiver.settle.Goals as goal

pub returns-in-Err-Untyped-clause-attempts : goal.returns-in-Err-Untyped-clause-attempts
returns-in-Err-Untyped-clause-attempts c =
    let p = c.args.self.now in
    let held = c.requires.held in
    let d = get_or c.args.self.now.tables.declarations.now c.args.number c.index-self-number.result in (
      refl,
      stuck (setting_in p) (source_in p) (entries_in p) p.env held.keeps held.pathed c.args.number (declaration_of d)
          (declared_at p.tables.declarations.now _ c.args.number c.index-self-number.result held.listed c.requires.below)
          (subst (λ (ds : List Declaration). (y : Had) → Gives (env_of (at_declaration p.env (declaration_of d))) ds (declaration_of d).form (entry_of y) → ⊥) (sym held.listed)
          (given_nothing _ c.give.result c.in-Err-Untyped.field-0 c.in-Err-Untyped.is c.in-Err-Untyped.field-0-is c.give.ensures.given)),
    )

pub returns-in_default-clause-held : goal.returns-in_default-clause-held
returns-in_default-clause-held c =
    let p = c.args.self.now in
    let held = c.requires.held in
    let d = get_or c.args.self.now.tables.declarations.now c.args.number c.index-self-number.result in
    let given = c.in-Ok.ensures.given in
    let same : setting_of c.take.new.env ≡ setting_in p = c.in_default.ensures.same ∙ ap setting_of c.give.ensures.moved in
    let kept = c.in_default.ensures.kept (setting_in p) (source_in p) held.listed
    (subst (λ (ds : List Declaration). AreMethods ds p.tables.methods.now) (sym held.listed) held.methods)
    (subst (λ (ds : List Declaration). AreNamesakes ds p.tables.namesakes) (sym held.listed) held.namesakes)
    (subst (Keeps (setting_in p) (source_in p) (entries_in p)) (sym c.give.ensures.moved) (kept_there (setting_in p) (source_in p) (entries_in p) p.env held.keeps (declaration_of d)))
    (not_found c.get.result c.is_some.result (entries_in p c.args.number) c.is_some.ensures c.if-is_some.false c.get.ensures)
    (declared_at p.tables.declarations.now _ c.args.number c.index-self-number.result held.listed c.requires.below)
    (fits given) in
    record {
      keeps = subst (λ (s : Setting). Keeps s (source_in p) (entries_at c.put.new.self) c.take.new.env) (sym same)
          (subst (λ (b : Entries). Keeps (setting_in p) (source_in p) b c.take.new.env) (sym c.put.ensures.put) kept);
      listed = held.listed;
      names = held.names;
      ends = held.ends;
      methods = held.methods;
      namesakes = held.namesakes;
      count = c.put.ensures.count ∙ held.count;
      pathed = held.pathed;
      predeclared = held.predeclared;
    }

pub returns-in_default-clause-attempts : goal.returns-in_default-clause-attempts
returns-in_default-clause-attempts c =
    let p = c.args.self.now in
    let held = c.requires.held in
    let d = get_or c.args.self.now.tables.declarations.now c.args.number c.index-self-number.result in
    let given = c.in-Ok.ensures.given in
    gains (setting_in p) (source_in p) (entries_in p) p.env held.keeps held.pathed c.args.number (declaration_of d)
    (declared_at p.tables.declarations.now _ c.args.number c.index-self-number.result held.listed c.requires.below)
    (entry_of c.in-Ok.entry) (entries_at c.put.new.self)
    (not_found c.get.result c.is_some.result (entries_in p c.args.number) c.is_some.ensures c.if-is_some.false c.get.ensures)
    (subst (λ (ds : List Declaration). Gives (env_of (at_declaration p.env (declaration_of d))) ds (declaration_of d).form (entry_of c.in-Ok.entry)) (sym held.listed) given)
    c.put.ensures.put
