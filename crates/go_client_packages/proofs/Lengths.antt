-- No length of an array of a client leads back on the new side, where none does on the old one.
use Rattle.std.proofs.Common.{◌≡◌, inl, inr, ℕ, zero, suc, ◌<◌, Bool, true, List, [], ◌∷◌, length, refl, sym, ap, ◌∙◌, subst, Some, arith}
use Rattle.std.specs.Prelude.{slice_get}
use Rattle.go_base.proofs.Members.{each_has}
use Rattle.go_base.specs.Lists.{Has as HasItem}
use Rattle.go_model.specs.declared.types.names.Sel.{Sel}
use Rattle.go_model.specs.declared.types.names.TypeName.{TypeName}
use Rattle.go_model.specs.types.Terms.{client_path}
use Rattle.go_rules.specs.Asks.{Meets, texts}
use Rattle.go_rules.specs.Environments.{Env}
use Rattle.go_rules.specs.Nodes.{Node}
use Rattle.go_soundness.proofs.DeclaredForms.{is_at}
use Rattle.go_type_images.specs.Images.{Naming}
use Rattle.go_type_images.specs.declared.pair.TypePair.{TypePair}
use Rattle.go_typed_packages.proofs.OwnDeclarations.{asked_at, given_at, method_at}
use Rattle.go_typings.proofs.Cells.{none_some, some_once}
use Rattle.go_typings.proofs.SoundDeclarations.{within}
use Rattle.go_typings.specs.Assignments.{all_of}
use Rattle.go_typings.specs.DeclarationNodes.{length_references, nodes, references}
use Rattle.go_typings.specs.Declarations.{Declaration, Form, alias, constants, declarations, definition, function, method, names_of, place_from, variables}
use Rattle.go_typings.specs.PackageEnvironments.{Entries, environment}
use Rattle.go_typings.specs.Receivers.{DeclaredMethod, methods}
use Rattle.go_typings.specs.References.{Finds, FindsMethod, IsDeclaredAs, LeadsTo, NamesDeclaration, NoLengthLeadsBack, leads_by_method, leads_by_name, leads_here}
use Rattle.go_typings.specs.Sources.{PackageSource, Setting}
use Rattle.go_typings.specs.Typings.{IsTyping}
use Rattle.go_syntax.specs.declared.name.Name.{Name}
use Rattle.go_client_packages.specs.ClientEntries.{EntriesReached, entries_image}
use Rattle.go_client_packages.specs.ClientSettings.{KeepsSettings}
use Rattle.go_client_packages.proofs.Environments.{environment_kept}
use Rattle.go_client_packages.proofs.FieldKeys.{names_back}
use Rattle.go_client_packages.proofs.FoundMethods.{finds_back}
use Rattle.go_client_packages.proofs.TypedDeclarations.{IsSettled, NamesSome, settled}

-- ---- what a declaration that is led to declares

no_place : (ns : List Name) (name : List ℕ) (p : ℕ) → place_from 0 (texts ns) name ≡ Some p → ns ≡ [] → ⊥
no_place [] name p e f = none_some (place_from 0 (texts []) name) p refl e
no_place (n ∷ ns) name p e f = absurd (cc)

names_some : (f : Form) (name : List ℕ) (p : ℕ) → place_from 0 (texts (names_of f)) name ≡ Some p → NamesSome f
names_some (constants s place) name p e = no_place s.names name p e
names_some (variables s) name p e = tt
names_some (alias s) name p e = tt
names_some (definition s) name p e = tt
names_some (function f) name p e = tt
names_some (method r f) name p e = tt

-- the declaration of this number declares a name, or a method
abbrev IsLed : PackageSource → ℕ → Type 0
IsLed u n = (d : Declaration) → slice_get (declarations u) n ≡ Some d → NamesSome d.form

named_led : (u : PackageSource) (name : Name) (n : ℕ) → IsDeclaredAs u name n → IsLed u n
named_led u name n w d e =
    let x = is_at (declarations u) name.text w.0 w.1 in
    let same : x.declaration ≡ d = some_once x.declaration d (sym x.is ∙ (ap (slice_get (declarations u)) w.2 ∙ e)) in
    subst NamesSome (sym x.form ∙ ap (λ (z : Declaration). z.form) same) (names_some w.0.form name.text w.0.place x.place)

method_led : (u : PackageSource) (type : List ℕ) (m : DeclaredMethod) (n : ℕ) → HasItem (methods u type) m → m.number ≡ n → IsLed u n
method_led u type m n h q d e =
    let x = method_at u type m h in
    let same : x.declaration ≡ d = some_once x.declaration d (sym x.is ∙ (ap (slice_get (declarations u)) q ∙ e)) in
    subst NamesSome (sym x.form ∙ ap (λ (z : Declaration). z.form) same) tt

pub below_length : {A : Type 0} (xs : List A) (n : ℕ) (x : A) → slice_get xs n ≡ Some x → n < length xs
below_length [] zero x e = none_some (slice_get [] 0) x refl e
below_length [] (suc n) x e = none_some (slice_get [] (suc n)) x refl e
below_length (y ∷ ys) zero x e = omega (arith)
below_length (y ∷ ys) (suc n) x e = let h = below_length ys n x e in omega (arith, h)

module _ (s t : Setting) (u : PackageSource) (r : Naming) (pairs : List TypePair) (std : TypeName → Bool) (is_open : Sel → Bool) (K : KeepsSettings s t u r pairs std is_open) (a : Entries) (h : EntriesReached pairs std is_open a) (typing : IsTyping s u a) where
  abbrev old : Declaration → Env
  old d = environment s u a d

  abbrev new : Declaration → Env
  new d = environment t u (entries_image r a) d

  abbrev all : ℕ → Bool
  all = all_of (declarations u)

  is_one : (n : ℕ) (d : Declaration) → slice_get (declarations u) n ≡ Some d → all n ≡ true
  is_one n d e = within n (length (declarations u)) (below_length (declarations u) n d e)

  met : (n : ℕ) (d : Declaration) → slice_get (declarations u) n ≡ Some d → (at : Node) → HasItem (nodes d.form) at → Meets (old d) at
  met n d e at i = each_has (Meets (old d)) (nodes d.form) at (asked_at s u all a typing n d (is_one n d e) e).meets i

  names_old : (n : ℕ) (d : Declaration) → slice_get (declarations u) n ≡ Some d → (rs : List _) (m : ℕ) → NamesDeclaration (new d) u d.form rs m → NamesDeclaration (old d) u d.form rs m
  names_old n d e rs m x = names_back (old d) (new d) r pairs std is_open (environment_kept s t u r pairs std is_open K a h d) u d.form rs m (asked_at s u all a typing n d (is_one n d e) e).meets x

  by_settled : (n : ℕ) (d : Declaration) → slice_get (declarations u) n ≡ Some d → (at : Node) → HasItem (nodes d.form) at → (owner : TypeName) (m : Sel) → owner.path ≡ client_path → IsSettled (old d) at → Finds (new d) at owner m → Finds (old d) at owner m
  by_settled n d e at i owner m c (inl w) f = finds_back (old d) (new d) r pairs std is_open (environment_kept s t u r pairs std is_open K a h d) at owner m (met n d e at i) w c f
  by_settled n d e at i owner m c (inr none) f = absurd (none f.selected.whole f.selected.stands)

  finds_old : (n : ℕ) (d : Declaration) → slice_get (declarations u) n ≡ Some d → IsLed u n → (m : ℕ) → FindsMethod (new d) u d.form m → FindsMethod (old d) u d.form m
  finds_old n d e l m f =
      let g = given_at s u all a typing n d (is_one n d e) e in
      let w = settled (old d) u n d.form g.0 (l d e) g.2 (asked_at s u all a typing n d (is_one n d e) e).form f.at f.stands in
      record { type = f.type; method = f.method; at = f.at; stands = f.stands; found = by_settled n d e f.at f.stands (record { path = u.path; name = f.type }) f.method.sel K.client w f.found; has = f.has; number = f.number }

  leads_old : {k n : ℕ} → IsLed u k → LeadsTo t u (entries_image r a) k n → LeadsTo s u a k n
  leads_old l leads_here = leads_here
  leads_old {k = k} l (leads_by_name m at rest) = leads_by_name m (at.0, at.1, names_old k at.0 at.1 (references at.0.form) m at.2) (leads_old (named_led u at.2.reference.name m at.2.names) rest)
  leads_old {k = k} l (leads_by_method m at rest) = leads_by_method m (at.0, at.1, finds_old k at.0 at.1 l m at.2) (leads_old (method_led u at.2.type at.2.method m at.2.has at.2.number) rest)

  pub lengths_kept : NoLengthLeadsBack s u a all → NoLengthLeadsBack t u (entries_image r a) all
  lengths_kept apart m n i at back =
      apart m n i (at.0, at.1, names_old m at.0 at.1 (length_references at.0.form) n at.2) (leads_old (named_led u at.2.reference.name n at.2.names) back)
