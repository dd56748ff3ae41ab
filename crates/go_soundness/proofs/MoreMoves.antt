-- Among more entries a declaration names no more, finds what it found and meets what it is asked.
use Rattle.std.proofs.Common.{◌≡◌, ℕ, List, Some, sym, ap, ◌∙◌}
use Rattle.std.specs.Str.{bytes_eq}
use Rattle.go_typings.specs.go_model.declared.types.package.Defined.{Defined}
use Rattle.go_typings.specs.go_model.worlds.Worlds.{table_of}
use Rattle.go_typings.specs.go_references.declared.references.Reference.{Reference}
use Rattle.go_typings.specs.Assignments.{Within}
use Rattle.go_typings.specs.DeclarationAsks.{Asks}
use Rattle.go_typings.specs.Declarations.{Form, constants, variables, alias, definition, function, method, Declaration, declarations, declared}
use Rattle.go_typings.specs.PackageEnvironments.{Entries, environment, had, own_defined, types_of}
use Rattle.go_typings.specs.References.{FindsMethod, NamesDeclaration}
use Rattle.go_typings.specs.Receivers.{methods}
use Rattle.go_typings.specs.Sources.{PackageSource, Setting}
use Rattle.go_typings.proofs.Cells.{if_true}
use Rattle.go_typings.proofs.GrowEnvironments.{defined_more, environment_more}
use Rattle.go_typings.proofs.ReachedRegion.{own_path}
use Rattle.go_typings.proofs.SameAsks.{KeepsBase}
use Rattle.go_typings.proofs.WholeRegion.{asks_more, finds_more, names_back}

module _ (s : Setting) (u : PackageSource) (a b : Entries) (h : Within a b) (d : Declaration) where
  pub names_fewer : (rs : List Reference) (n : ℕ) → NamesDeclaration (environment s u b d) u d.form rs n → NamesDeclaration (environment s u a d) u d.form rs n
  names_fewer rs n k = names_back (environment s u a d) (environment s u b d) (environment_more a b h s u d) u d.form rs n k

  pub finds_grown : (n : ℕ) → FindsMethod (environment s u a d) u d.form n → FindsMethod (environment s u b d) u d.form n
  finds_grown n k = finds_more (environment s u a d) (environment s u b d) (environment_more a b h s u d) u d.form n k

  base_more : (name : List ℕ) (x : Defined) → types_of s u a (record { path = u.path; name = name }) ≡ Some x → (y : Defined) × (types_of s u b (record { path = u.path; name = name }) ≡ Some y) × (x.underlying ≡ y.underlying)
  base_more name x e =
      let r = defined_more a b h u name (declared (declarations u) name) x (sym (if_true (bytes_eq u.path u.path) (own_defined u a name) (table_of s.world.packages (record { path = u.path; name = name })) (own_path u.path)) ∙ e) in
      (record { name = name; underlying = r.0; methods = had b (methods u name) }, if_true (bytes_eq u.path u.path) (own_defined u b name) (table_of s.world.packages (record { path = u.path; name = name })) (own_path u.path) ∙ r.2, ap (λ (z : Defined). z.underlying) r.1)

  keeps_base : (f : Form) → KeepsBase (environment s u a d) (environment s u b d) u f
  keeps_base (method r f) = λ name x k e. base_more name x e
  keeps_base (constants c place) = tt
  keeps_base (variables c) = tt
  keeps_base (alias c) = tt
  keeps_base (definition c) = tt
  keeps_base (function f) = tt

  pub asks_grown : (n : ℕ) → Asks (environment s u a d) u n d.form → Asks (environment s u b d) u n d.form
  asks_grown n k = asks_more (environment s u a d) (environment s u b d) (environment_more a b h s u d) u n d.form (keeps_base d.form) k
