-- What is known of an operand is known of what it is on the new side.
use Rattle.std.proofs.Common.{◌≡◌, Bool, true, List, [], ◌∷◌, map, refl, sym, subst}
use Rattle.std.specs.Prelude.{◌≤◌}
use Rattle.go_base.specs.Lists.{Each}
use Rattle.go_model.specs.declared.constants.value.Untyped.{Untyped}
use Rattle.go_model.specs.declared.types.names.Sel.{Sel}
use Rattle.go_model.specs.declared.types.names.TypeName.{TypeName}
use Rattle.go_model.specs.declared.types.package.ConstTerm.{ConstTerm}
use Rattle.go_model.specs.declared.types.package.ConstTerm.TheVariants as constant
use Rattle.go_model.specs.declared.types.term.Term.{Term, Term-F}
use Rattle.go_model.specs.types.Bounds.{IsWithinBounds}
use Rattle.go_rules.specs.Environments.{Env}
use Rattle.go_rules.specs.Operands.{ConstWithin, HasKind, IsOf, IsTyped, IsUntyped, ShapeWithin, is_of_kind, is_of_type, is_value_mode, kind_of_type, kind_of_untyped, typed_constant, typed_value, untyped_constant, untyped_truth}
use Rattle.go_rules.specs.declared.operand.Mode.{Mode}
use Rattle.go_rules.specs.declared.operand.Operand.{Operand}
use Rattle.go_model.specs.declared.constants.value.Kind.{Kind}
use Rattle.go_type_images.specs.Images.{Naming, image, same_sels}
use Rattle.go_type_images.specs.declared.pair.TypePair.{TypePair}
use Rattle.go_client_types.specs.Keeping.{Keeps}
use Rattle.go_client_types.specs.Following.{After, Becomes, addressable, after_bare, after_constant, after_tuple, after_value, same_mode}
use Rattle.go_client_types.specs.Reached.{ConstReached, IsReached}
use Rattle.go_type_images.specs.EntryImages.{const_to}
use Rattle.go_type_images.proofs.Sizes.{same_height, same_nodes}
use Rattle.go_client_types.proofs.Views as V

module _ (r : Naming) (pairs : List TypePair) (std : TypeName → Bool) (is_open : Sel → Bool) where
  abbrev to : Term → Term
  to = image r same_sels

  abbrev R : Term → Type 0
  R = IsReached pairs std is_open

  abbrev A : Operand → Operand → Type 0
  A = After r pairs std is_open

  pub value_kept : (m k : Mode) → Becomes m k → is_value_mode m ≡ true → is_value_mode k ≡ true
  value_kept m k same_mode e = e
  value_kept m k addressable e = refl

  pub typed_after : {o p : Operand} {t : Term} → A o p → IsTyped o t → IsTyped p (to t) × R t
  typed_after (after_value {m = m} {k = k} b h) (typed_value e) = (typed_value (value_kept m k b e), h)
  typed_after (after_constant h) typed_constant = (typed_constant, h)
  typed_after (after_tuple h) i = elim i [ ]
  typed_after (after_bare h) (typed_value e) = absurd h
  typed_after (after_bare h) typed_constant = absurd h

  pub untyped_after : {o p : Operand} {k : Untyped} → A o p → IsUntyped o k → IsUntyped p k
  untyped_after (after_value b h) i = elim i [ ]
  untyped_after (after_tuple h) i = elim i [ ]
  untyped_after (after_constant h) untyped_constant = untyped_constant
  untyped_after (after_bare h) untyped_constant = absurd h
  untyped_after (after_bare h) untyped_truth = untyped_truth

  pub of_after : {o p : Operand} {c : ConstTerm} → A o p → IsOf o c → IsOf p (const_to r c) × ConstReached pairs std is_open c
  of_after a (is_of_type i) = let f = typed_after a i in (is_of_type f.0, f.1)
  of_after a (is_of_kind i) = (is_of_kind (untyped_after a i), tt)

  pub bounded : (t : Term) → IsWithinBounds t → IsWithinBounds (to t)
  bounded t b = record { small = subst (λ n. n ≤ 100000) (sym (same_nodes r same_sels t)) b.small; low = subst (λ n. n ≤ 256) (sym (same_height r same_sels t)) b.low }

  all_bounded : (ts : List Term) → Each IsWithinBounds ts → Each IsWithinBounds (map to ts)
  all_bounded [] h = tt
  all_bounded (t ∷ ts) h = (bounded t h.0, all_bounded ts h.1)

  const_bounded : (c : ConstTerm) → ConstWithin c → ConstWithin (const_to r c)
  const_bounded (constant.OfTerm t) h = bounded t h
  const_bounded (constant.OfKind k) h = tt

  pub within_after : {o p : Operand} → A o p → ShapeWithin o.shape → ShapeWithin p.shape
  within_after (after_value {t = t} b h) s = bounded t s
  within_after (after_constant {c = c} h) s = const_bounded c s
  within_after (after_tuple {ts = ts} h) s = all_bounded ts s
  within_after (after_bare h) s = s

module _ (E F : Env) (r : Naming) (pairs : List TypePair) (std : TypeName → Bool) (is_open : Sel → Bool) (K : Keeps E F r pairs std is_open) where
  pub kind_kept : {c : ConstTerm} {k : Kind} → ConstReached pairs std is_open c → HasKind E c k → HasKind F (const_to r c) k
  kind_kept h (kind_of_type {t = t} {b = b} e) = kind_of_type (V.form_kept E F r pairs std is_open K t (Term-F.Plain b) h refl e).0
  kind_kept h kind_of_untyped = kind_of_untyped
