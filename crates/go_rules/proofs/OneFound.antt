-- A selector finds one field or method in a type.
use Rattle.std.proofs.Common.{◌≡◌, ℕ, zero, suc, ◌<◌, Bool, true, false, List, [], ◌∷◌, Option, refl, sym, ap, subst, ◌⊎◌, inl, inr, arith}
use Rattle.go_model.specs.declared.types.names.Sel.{Sel}
use Rattle.go_model.specs.declared.types.names.TypeName.{TypeName}
use Rattle.go_model.specs.declared.types.term.Signature.{Signature, roll-Signature}
use Rattle.go_model.specs.declared.types.term.Term.{Term}
use Rattle.go_model.specs.types.Selectors.{Spot, Target, field, method, Ending, ends, start, IsOnly}
use Rattle.go_model.specs.types.Tables.{Table}
use Rattle.go_rules.specs.Environments.{Env, Found, HasMethod}
use Rattle.go_rules.specs.Operands.{any_term}
use Rattle.go_rules.proofs.OneKind.{no_truth}

compared : (a b : ℕ) → (a < b) ⊎ ((b < a) ⊎ (a ≡ b))
compared zero zero = inr (inr refl)
compared zero (suc b) = inl (omega arith)
compared (suc a) zero = inr (inl (omega arith))
compared (suc a) (suc b) = elim (compared a b) [ inl h ↦ inl (omega arith) | inr k ↦ elim k [ inl h ↦ inr (inl (omega arith)) | inr e ↦ inr (inr (ap suc e)) ] ]

empty_one : {A : Type 0} (xs : List A) (x : A) → xs ≡ [] → xs ≡ x ∷ [] → ⊥
empty_one xs x e f = absurd (cc)

head_same : {A : Type 0} (xs : List A) (x y : A) → xs ≡ x ∷ [] → xs ≡ y ∷ [] → x ≡ y
head_same xs x y e f = cc

module _ (T : Table) (s : Sel) (at : Spot) where
  one_depth : (d e : ℕ) (x y : Ending) → IsOnly T s at d x → IsOnly T s at e y → d ≡ e
  one_depth d e x y a b = elim (compared d e) [
    | inl h ↦ absurd (empty_one (ends T s d at) x (b.none d h) a.only)
    | inr k ↦ elim k [ inl h ↦ absurd (empty_one (ends T s e at) y (a.none e h) b.only) | inr p ↦ p ]
  ]

  one_only : (d e : ℕ) (x y : Ending) → IsOnly T s at d x → IsOnly T s at e y → x ≡ y
  one_only d e x y a b = head_same (ends T s d at) x y a.only (subst (λ (n : ℕ). ends T s n at ≡ y ∷ []) (sym (one_depth d e x y a b)) b.only)

pub one_found : {E : Env} {s : Sel} {t : Term} {x y : Ending} → Found E s t x → Found E s t y → x ≡ y
one_found {E = E} {s = s} {t = t} {x = x} {y = y} f g = one_only E.table s (start E.table t) f.depth g.depth x y f.only g.only

-- ---- what is found

abbrev target_in : Ending → Target
target_in e = e.target

abbrev field_in : Target → Term
field_in (field t) = t
field_in (method owner pointer g) = any_term

abbrev no_signature : Signature
no_signature = roll-Signature (record { params = []; variadic = false; results = [] })

abbrev signature_in : Target → Signature
signature_in (field t) = no_signature
signature_in (method owner pointer g) = g

abbrev is_field : Target → Bool
is_field (field t) = true
is_field (method owner pointer g) = false

pub one_way : {p q : Bool} {x y : Target} → ◌≡◌ {A = Ending} (record { through = p; target = x }) (record { through = q; target = y }) → p ≡ q
one_way e = ap (λ (z : Ending). z.through) e

pub one_field : {p q : Bool} {t u : Term} → ◌≡◌ {A = Ending} (record { through = p; target = field t }) (record { through = q; target = field u }) → t ≡ u
one_field e = ap (λ (z : Ending). field_in z.target) e

pub field_or_method : {p q b : Bool} {t : Term} {o : Option TypeName} {g : Signature} → ◌≡◌ {A = Ending} (record { through = p; target = field t }) (record { through = q; target = method o b g }) → ⊥
field_or_method e = no_truth (ap (λ (z : Ending). is_field z.target) e)

pub one_method : {E : Env} {a b : Bool} {s : Sel} {t : Term} {g h : Signature} → HasMethod E a t s g → HasMethod E b t s h → g ≡ h
one_method m n = ap (λ (z : Ending). signature_in z.target) (one_found m.found n.found)
