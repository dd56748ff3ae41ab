-- Names of a client on both sides.
use Rattle.std.proofs.Common.{◌≡◌, ℕ, Bool, List, [], refl, sym, ap, ◌∙◌, subst, Option, Some, None}
use Rattle.std.specs.Prelude.{codes}
use Rattle.go_model.specs.declared.types.names.Sel.{Sel}
use Rattle.go_model.specs.declared.types.names.TypeName.{TypeName}
use Rattle.go_model.specs.declared.types.package.Entity.{Entity}
use Rattle.go_model.specs.declared.types.package.Entity.TheVariants as entity
use Rattle.go_model.specs.declared.types.term.Term.{Term, Term-F}
use Rattle.go_rules.specs.Environments.{Env}
use Rattle.go_rules.specs.Expressions.{Denotes, DenotesImported, seen_operand}
use Rattle.go_rules.specs.Operands.{constant_of, denoted, plain, type_name, variable}
use Rattle.go_rules.specs.Universe.{iota_operand, predeclared_operand, predeclared_type, type_operand}
use Rattle.go_rules.specs.declared.operand.Operand.{Operand}
use Rattle.go_rules.specs.declared.predeclared.Predeclared.{Predeclared}
use Rattle.go_rules.specs.declared.predeclared.Predeclared.TheVariants as p
use Rattle.go_rules.specs.declared.seen.Seen.{Seen}
use Rattle.go_rules.specs.declared.seen.Seen.TheVariants as seen
use Rattle.go_rules.proofs.OneName.{none_some, one_some}
use Rattle.go_syntax.specs.declared.name.Name.{Name}
use Rattle.go_type_images.specs.EntryImages.{const_to, entity_to}
use Rattle.go_type_images.specs.Images.{Naming, image, same_sels}
use Rattle.go_type_images.specs.Parts.{function_type}
use Rattle.go_type_images.specs.declared.pair.TypePair.{TypePair}
use Rattle.go_type_images.proofs.ImageLevels.{image_roll}
use Rattle.go_client_types.specs.Following.{After, addressable, after_bare, after_constant, after_value, same_mode}
use Rattle.go_client_types.specs.Keeping.{EntityReached, IsKeptEntity, Keeps, SeenReached, seen_to, stays, varies}
use Rattle.go_client_types.proofs.Hypotheses.{universe}

module _ (r : Naming) (pairs : List TypePair) (std : TypeName → Bool) (is_open : Sel → Bool) (named : r (record { path = []; name = codes "error" }) ≡ record { path = []; name = codes "error" }) where
  abbrev A : Operand → Operand → Type 0
  A = After r pairs std is_open

  abbrev to : Term → Term
  to = image r same_sels

  -- ---- the universe

  type_after : (i : Option ℕ) (q : Predeclared) (o : Option Term) (x : Operand) → type_operand o ≡ Some x → predeclared_operand i q ≡ Some x → A x x
  type_after i q None x e f = absurd (none_some e)
  type_after i q (Some u) x e f =
      let is : type_name u ≡ x = one_some e in
      let h = universe r pairs std is_open named i q u (f ∙ ap Some (sym is)) in
      subst (λ z. A z z) is (subst (λ v. A (type_name u) (type_name v)) h.0 (after_value same_mode h.1))

  iota_after : (i : Option ℕ) (x : Operand) → iota_operand i ≡ Some x → A x x
  iota_after None x e = absurd (none_some e)
  iota_after (Some n) x e = subst (λ z. A z z) (one_some e) (after_constant tt)

  pub universe_after : (i : Option ℕ) (q : Predeclared) (x : Operand) → predeclared_operand i q ≡ Some x → A x x
  universe_after i p.True x e = subst (λ z. A z z) (one_some e) (after_constant tt)
  universe_after i p.False x e = subst (λ z. A z z) (one_some e) (after_constant tt)
  universe_after i p.Iota x e = iota_after i x e
  universe_after i p.Nil x e = subst (λ z. A z z) (one_some e) (after_bare tt)
  universe_after i p.Append x e = subst (λ z. A z z) (one_some e) (after_bare tt)
  universe_after i p.Cap x e = subst (λ z. A z z) (one_some e) (after_bare tt)
  universe_after i p.Close x e = subst (λ z. A z z) (one_some e) (after_bare tt)
  universe_after i p.Copy x e = subst (λ z. A z z) (one_some e) (after_bare tt)
  universe_after i p.Delete x e = subst (λ z. A z z) (one_some e) (after_bare tt)
  universe_after i p.Len x e = subst (λ z. A z z) (one_some e) (after_bare tt)
  universe_after i p.Make x e = subst (λ z. A z z) (one_some e) (after_bare tt)
  universe_after i p.New x e = subst (λ z. A z z) (one_some e) (after_bare tt)
  universe_after i p.Panic x e = subst (λ z. A z z) (one_some e) (after_bare tt)
  universe_after i p.Print x e = subst (λ z. A z z) (one_some e) (after_bare tt)
  universe_after i p.Println x e = subst (λ z. A z z) (one_some e) (after_bare tt)
  universe_after i p.Recover x e = subst (λ z. A z z) (one_some e) (after_bare tt)
  universe_after i q x e = type_after i q (predeclared_type q) x e e

  -- ---- objects

  pub object_after : (x : Entity) → EntityReached pairs std is_open x → A (denoted x) (denoted (entity_to r x))
  object_after (entity.Const c v) h = after_constant h
  object_after (entity.Var t) h = after_value same_mode h
  object_after (entity.Function g) h = subst (λ t. A (plain (function_type g)) (plain t)) (image_roll r same_sels (Term-F.Func g)) (after_value same_mode h)
  object_after (entity.TypeOf t) h = after_value same_mode h

  pub kept_after : (x y : Entity) → IsKeptEntity r x y → EntityReached pairs std is_open x → A (denoted x) (denoted y)
  kept_after x y (stays) h = object_after x h
  kept_after x y (varies {g = g}) h = after_value addressable h

module _ (E F : Env) (r : Naming) (pairs : List TypePair) (std : TypeName → Bool) (is_open : Sel → Bool) (K : Keeps E F r pairs std is_open) where
  error_named : r (record { path = []; name = codes "error" }) ≡ record { path = []; name = codes "error" }
  error_named = K.types.own (record { path = []; name = codes "error" }) refl

  abbrev B : Operand → Operand → Type 0
  B = After r pairs std is_open

  seen_after : (m : Seen) (o : Operand) → SeenReached pairs std is_open m → seen_operand E.iota m ≡ Some o → (q : Operand) × (seen_operand F.iota (seen_to r m) ≡ Some q) × B o q
  seen_after (seen.Local t) o h e = (variable (image r same_sels t), refl, subst (λ z. B z (variable (image r same_sels t))) (one_some e) (after_value same_mode h))
  seen_after (seen.LocalConst c v) o h e = (constant_of (const_to r c) v, refl, subst (λ z. B z (constant_of (const_to r c) v)) (one_some e) (after_constant h))
  seen_after (seen.Object x) o h e = (denoted (entity_to r x), refl, subst (λ z. B z (denoted (entity_to r x))) (one_some e) (object_after r pairs std is_open error_named x h))
  seen_after (seen.Import path) o h e = absurd (none_some e)
  seen_after (seen.Universe u) o h e = (o, ap (λ i. predeclared_operand i u) K.iota ∙ e, universe_after r pairs std is_open error_named E.iota u o e)

  pub name_kept : (n : Name) (o : Operand) → Denotes E n o → (q : Operand) × Denotes F n q × B o q
  name_kept n o d =
      let m = K.meanings n.text d.meaning d.means in
      let f = seen_after d.meaning o m.1 d.denotes in
      (f.0, record { names = d.names; meaning = seen_to r d.meaning; means = m.0; denotes = f.1 }, f.2)

  pub imported_kept : (q n : Name) (o : Operand) → DenotesImported E q n o → (x : Operand) × DenotesImported F q n x × B o x
  imported_kept q n o d =
      let m = K.meanings q.text (seen.Import d.path) d.imported in
      let y = K.objects q.text d.path n.text d.object d.imported d.exported d.declared in
      (denoted y.0, record { names = d.names; path = d.path; object = y.0; imported = m.0; exported = d.exported; declared = y.1; denotes = refl }, subst (λ z. B z (denoted y.0)) d.denotes (kept_after r pairs std is_open error_named d.object y.0 y.2 y.3))
