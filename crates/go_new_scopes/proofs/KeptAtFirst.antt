-- The scopes that are made keep what is had of a package with no entry.
use Rattle.std.proofs.Common.{◌≡◌, ℕ, List, [], Option, None, Some, refl, sym, ap, ◌∙◌, subst}
use Rattle.go_declared.specs.MethodTables.{AreMethods}
use Rattle.go_declared.specs.NameTables.{AreDeclared}
use Rattle.go_declared.specs.declared.methods.MethodRow.{MethodRow}
use Rattle.go_declared.specs.declared.names.NamePlace.{NamePlace}
use Rattle.go_package_scopes.specs.KeptScopes.{Keeps, Shows}
use Rattle.go_rules.specs.Names.{Named}
use Rattle.go_rules.specs.Scopes.{new_scopes, Scopes}
use Rattle.go_typings.specs.Declarations.{alias, constants, declarations, declared, Declaration, Declared, definition, Form, function, method, variables}
use Rattle.go_typings.specs.PackageEnvironments.{defined_at}
use Rattle.go_typings.specs.Receivers.{methods}
use Rattle.go_typings.specs.Sources.{PackageSource, Setting, SourceFile}
use Rattle.go_new_scopes.proofs.AnnouncedNames.{announced_names}
use Rattle.go_new_scopes.proofs.AwaitedSelectors.{awaited_at_first}
use Rattle.go_new_scopes.proofs.ImportTables.{imports_of_files}
use Rattle.go_new_scopes.proofs.TypeObjects.{objects_at_first}
use Rattle.go_new_scopes.specs.inner.Announced as announced
use Rattle.go_new_scopes.specs.inner.AwaitedMethods as awaited
use Rattle.go_new_scopes.specs.inner.FileImports.{with_files}
use Rattle.go_new_scopes.specs.inner.OwnTypes as types

module _ (s : Setting) (u : PackageSource) (names : Named NamePlace) (methods_at : Named (List MethodRow)) where
  abbrev pub made : List Declaration → Scopes
  made ds = record (new_scopes s.world u.path s.bits s.profile) {
    imports = with_files 0 [] u.files;
    announced = announced.with_names [] names;
    declared = types.with_declarations u.path names [] 0 ds;
    awaited = awaited.with_declarations ds u.path names methods_at [] 0 ds;
  }

  -- no type is had
  no_type : (type : List ℕ) (o : Option Declared) → Shows (λ number. None) (methods u type) (defined_at u (λ number. None) type o) None
  no_type type None = tt
  no_type type (Some w) = by w.form
    where
      by : (f : Form) → Shows (λ number. None) (methods u type) (defined_at u (λ number. None) type (Some (record { number = w.number; form = f; place = w.place }))) None
      by (constants x place) = tt
      by (variables x) = tt
      by (alias x) = tt
      by (definition x) = tt
      by (function x) = tt
      by (method receiver x) = tt

  kept : AreDeclared (declarations u) names → AreMethods (declarations u) methods_at → Keeps s u (λ number. None) (made (declarations u))
  kept are rows = record {
    world = refl;
    path = refl;
    bits = refl;
    profile = refl;
    opened = refl;
    imports = λ file name. imports_of_files file name u.files;
    announced = λ name. announced_names name names (declarations u) are;
    objects = λ name. objects_at_first u.path names name (declarations u) are;
    awaited = λ type. awaited_at_first u names methods_at type are rows;
    types = λ type. no_type type (declared (declarations u) type);
  }

  pub kept_at_first : (ds : List Declaration) (c : Scopes) → ds ≡ declarations u → AreDeclared ds names → AreMethods ds methods_at → c ≡ made ds → Keeps s u (λ number. None) c
  kept_at_first ds c listed are rows is =
      subst (λ (x : Scopes). Keeps s u (λ number. None) x) (sym (is ∙ ap made listed))
      (kept (subst (λ (xs : List Declaration). AreDeclared xs names) listed are) (subst (λ (xs : List Declaration). AreMethods xs methods_at) listed rows))

  -- the scopes that are made step by step
  pub made_in_turn : (ds : List Declaration) (path : List ℕ) (files : List SourceFile) (new filed announced' declared' awaited' : Scopes) → path ≡ u.path → files ≡ u.files → new ≡ new_scopes s.world path s.bits s.profile
      → filed ≡ record new { imports = with_files 0 new.imports files }
      → announced' ≡ record filed { announced = announced.with_names filed.announced names }
      → declared' ≡ record announced' { declared = types.with_declarations announced'.path names announced'.declared 0 ds }
      → awaited' ≡ record declared' { awaited = awaited.with_declarations ds declared'.path names methods_at declared'.awaited 0 ds }
      → awaited' ≡ made ds
  made_in_turn ds path files new filed announced' declared' awaited' p f e1 e2 e3 e4 e5 =
      e5 ∙ ap (λ (c : Scopes). record c { awaited = awaited.with_declarations ds c.path names methods_at c.awaited 0 ds })
      (e4 ∙ ap (λ (c : Scopes). record c { declared = types.with_declarations c.path names c.declared 0 ds })
      (e3 ∙ ap (λ (c : Scopes). record c { announced = announced.with_names c.announced names })
      (e2 ∙ ap (λ (c : Scopes). record c { imports = with_files 0 c.imports files }) (e1 ∙ ap (λ (k : List ℕ). new_scopes s.world k s.bits s.profile) p)
      ∙ ap (λ (fs : List SourceFile). record (new_scopes s.world u.path s.bits s.profile) { imports = with_files 0 [] fs }) f)))
