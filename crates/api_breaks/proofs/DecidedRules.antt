-- The rules on packages and objects are decided.
use Rattle.std.proofs.Common.{◌≡◌, ◌⊎◌, inl, inr, ℕ, Bool, true, false, List, [], ◌∷◌, refl, sym, ap}
use mathlib.Core.Bool.{true≢false, beq}
use Rattle.std.specs.Prelude.{Decides, bytes_eq}
use Rattle.std.specs.Cmp.{signed_Decides, booleans_Decides}
use Rattle.std.specs.Ordering.{int_eq}
use Rattle.std.proofs.lemmas.Slice.Eq.{bytes_eq-Decides}
use Rattle.go_base.specs.Lists.{Has}
use Rattle.go_model.specs.declared.constants.value.Value.{Value}
use Rattle.go_model.specs.declared.constants.value.Value.TheVariants as value
use Rattle.go_model.specs.declared.constants.value.Untyped.{Untyped}
use Rattle.go_model.specs.declared.constants.value.Untyped.TheVariants as untyped
use Rattle.go_model.specs.declared.types.package.Entity.{Entity}
use Rattle.go_model.specs.declared.types.package.Entity.TheVariants as entity
use Rattle.go_model.specs.declared.types.package.ConstTerm.TheVariants as constant
use Rattle.api_correspond.specs.Rules.{KeepsKind, KeepsConstant}

-- a fact holds or is refuted
abbrev pub Decided : Type 0 → Type 0
Decided P = P ⊎ (P → ⊥)

decided_by : {P : Type 0} (b : Bool) → Decides b P → Decided P
decided_by true d = inl (d.0 refl)
decided_by false d = inr (λ p. true≢false (sym (d.1 p)))

of_parts : {P Q : Type 0} → Decided P → (P → Q) → (Q → P) → Decided Q
of_parts d f g = elim d [ inl p ↦ inl (f p) | inr n ↦ inr (λ q. n (g q)) ]

pub same_texts : (a b : List ℕ) → Decided (a ≡ b)
same_texts a b = decided_by (bytes_eq a b) (bytes_eq-Decides a b)

pub has_text : (ts : List (List ℕ)) (t : List ℕ) → Decided (Has ts t)
has_text [] t = inr (λ h. h)
has_text (u ∷ ts) t = elim (same_texts u t) [ inl e ↦ inl (inl e) | inr n ↦ elim (has_text ts t) [ inl h ↦ inl (inr h) | inr m ↦ inr (λ h. elim h [ inl e ↦ n e | inr k ↦ m k ]) ] ]

same_values : (v w : Value) → Decided (v ≡ w)
same_values (value.Int x) (value.Int y) = of_parts (decided_by (int_eq x y) (signed_Decides x y)) (λ e. ap value.Int e) (λ e. cc)
same_values (value.Int x) (value.Str y) = inr (λ e. absurd (cc))
same_values (value.Int x) (value.Truth y) = inr (λ e. absurd (cc))
same_values (value.Str x) (value.Int y) = inr (λ e. absurd (cc))
same_values (value.Str x) (value.Str y) = of_parts (decided_by (bytes_eq x y) (bytes_eq-Decides x y)) (λ e. ap value.Str e) (λ e. cc)
same_values (value.Str x) (value.Truth y) = inr (λ e. absurd (cc))
same_values (value.Truth x) (value.Int y) = inr (λ e. absurd (cc))
same_values (value.Truth x) (value.Str y) = inr (λ e. absurd (cc))
same_values (value.Truth x) (value.Truth y) = of_parts (decided_by (beq x y) (booleans_Decides x y)) (λ e. ap value.Truth e) (λ e. cc)

same_kinds : (k l : Untyped) → Decided (k ≡ l)
same_kinds untyped.IntKind untyped.IntKind = inl refl
same_kinds untyped.IntKind untyped.RuneKind = inr (λ e. absurd (cc))
same_kinds untyped.IntKind untyped.StrKind = inr (λ e. absurd (cc))
same_kinds untyped.IntKind untyped.BoolKind = inr (λ e. absurd (cc))
same_kinds untyped.RuneKind untyped.IntKind = inr (λ e. absurd (cc))
same_kinds untyped.RuneKind untyped.RuneKind = inl refl
same_kinds untyped.RuneKind untyped.StrKind = inr (λ e. absurd (cc))
same_kinds untyped.RuneKind untyped.BoolKind = inr (λ e. absurd (cc))
same_kinds untyped.StrKind untyped.IntKind = inr (λ e. absurd (cc))
same_kinds untyped.StrKind untyped.RuneKind = inr (λ e. absurd (cc))
same_kinds untyped.StrKind untyped.StrKind = inl refl
same_kinds untyped.StrKind untyped.BoolKind = inr (λ e. absurd (cc))
same_kinds untyped.BoolKind untyped.IntKind = inr (λ e. absurd (cc))
same_kinds untyped.BoolKind untyped.RuneKind = inr (λ e. absurd (cc))
same_kinds untyped.BoolKind untyped.StrKind = inr (λ e. absurd (cc))
same_kinds untyped.BoolKind untyped.BoolKind = inl refl

pub kind_decided : (a b : Entity) → Decided (KeepsKind a b)
kind_decided (entity.Const t v) (entity.Const u w) = inl tt
kind_decided (entity.Const t v) (entity.Var u) = inr (λ k. k)
kind_decided (entity.Const t v) (entity.Function h) = inr (λ k. k)
kind_decided (entity.Const t v) (entity.TypeOf u) = inr (λ k. k)
kind_decided (entity.Var t) (entity.Const u w) = inr (λ k. k)
kind_decided (entity.Var t) (entity.Var u) = inl tt
kind_decided (entity.Var t) (entity.Function h) = inr (λ k. k)
kind_decided (entity.Var t) (entity.TypeOf u) = inr (λ k. k)
kind_decided (entity.Function g) (entity.Const u w) = inr (λ k. k)
kind_decided (entity.Function g) (entity.Var u) = inl tt
kind_decided (entity.Function g) (entity.Function h) = inl tt
kind_decided (entity.Function g) (entity.TypeOf u) = inr (λ k. k)
kind_decided (entity.TypeOf t) (entity.Const u w) = inr (λ k. k)
kind_decided (entity.TypeOf t) (entity.Var u) = inr (λ k. k)
kind_decided (entity.TypeOf t) (entity.Function h) = inr (λ k. k)
kind_decided (entity.TypeOf t) (entity.TypeOf u) = inl tt

pub constant_decided : (a b : Entity) → Decided (KeepsConstant a b)
constant_decided (entity.Const (constant.OfTerm t) v) (entity.Const (constant.OfTerm u) w) = same_values w v
constant_decided (entity.Const (constant.OfKind k) v) (entity.Const (constant.OfKind l) w) = elim (same_kinds l k) [ inl e ↦ elim (same_values w v) [ inl f ↦ inl (e, f) | inr n ↦ inr (λ h. n h.1) ] | inr n ↦ inr (λ h. n h.0) ]
constant_decided (entity.Const (constant.OfTerm t) v) (entity.Const (constant.OfKind l) w) = inr (λ k. k)
constant_decided (entity.Const (constant.OfKind k) v) (entity.Const (constant.OfTerm u) w) = inr (λ k. k)
constant_decided (entity.Const (constant.OfTerm t) v) (entity.Var u) = inl tt
constant_decided (entity.Const (constant.OfKind k) v) (entity.Var u) = inl tt
constant_decided (entity.Const (constant.OfTerm t) v) (entity.Function h) = inl tt
constant_decided (entity.Const (constant.OfKind k) v) (entity.Function h) = inl tt
constant_decided (entity.Const (constant.OfTerm t) v) (entity.TypeOf u) = inl tt
constant_decided (entity.Const (constant.OfKind k) v) (entity.TypeOf u) = inl tt
constant_decided (entity.Var t) (entity.Const u w) = inl tt
constant_decided (entity.Var t) (entity.Var u) = inl tt
constant_decided (entity.Var t) (entity.Function h) = inl tt
constant_decided (entity.Var t) (entity.TypeOf u) = inl tt
constant_decided (entity.Function g) (entity.Const u w) = inl tt
constant_decided (entity.Function g) (entity.Var u) = inl tt
constant_decided (entity.Function g) (entity.Function h) = inl tt
constant_decided (entity.Function g) (entity.TypeOf u) = inl tt
constant_decided (entity.TypeOf t) (entity.Const u w) = inl tt
constant_decided (entity.TypeOf t) (entity.Var u) = inl tt
constant_decided (entity.TypeOf t) (entity.Function h) = inl tt
constant_decided (entity.TypeOf t) (entity.TypeOf u) = inl tt
