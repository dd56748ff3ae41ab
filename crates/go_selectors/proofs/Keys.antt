-- The keys of sets.
use Rattle.std.proofs.Common.{◌≡◌, List, [], ◌∷◌, ◌++◌, refl, sym, ap, ◌∙◌, inl, inr, Bool, true, false, not, subst, ◌||◌}
use mathlib.Core.Bool.{true≢false}
use Rattle.std.specs.Prelude.{if◌then◌else◌}
use Rattle.std.specs.List.{list_any}
use Rattle.std.specs.Cmp.{second_so}
use Rattle.indexmap.specs.IndexSet.{insert_key}
use Rattle.go_base.specs.Lists.{Has}
use Rattle.go_model.specs.declared.types.names.TypeName.{TypeName}
use Rattle.go_selectors.specs.Names.{same_name_is}
use Rattle.go_selectors.specs.Search.{Adds}
use Rattle.go_selectors.specs.declared.seen.Key.{Key}
use Rattle.go_selectors.specs.contracts.seen.KeyPartialEq.TheImpl as KeyEquality

module _ {A : Type 0} (same : A → A → Bool) (is : (a b : A) → same a b ≡ true → a ≡ b) where
  at_key : (k y : A) (ys : List A) (b : Bool) → same k y ≡ b → (b || list_any (same k) ys) ≡ true → (list_any (same k) ys ≡ true → Has ys k) → Has (y ∷ ys) k
  at_key k y ys true e h rest = inl (sym (is k y e))
  at_key k y ys false e h rest = inr (rest h)

  has_key : (ks : List A) (k : A) → list_any (same k) ks ≡ true → Has ks k
  has_key [] k h = true≢false (sym h)
  has_key (y ∷ ys) k h = at_key k y ys (same k y) refl h (has_key ys k)

  added : (ks : List A) (k : A) (known : Bool) → list_any (same k) ks ≡ known → Adds ks (if known then ks else ks ++ k ∷ []) k (not known)
  added ks k true e = (has_key ks k e, refl)
  added ks k false e = refl

  pub adds-insert : (ks new : List A) (k : A) (fresh : Bool) → new ≡ insert_key same ks k → fresh ≡ not (list_any (same k) ks) → Adds ks new k fresh
  adds-insert ks new k fresh e f = subst (λ (b : Bool). Adds ks new k b) (sym f) (subst (λ (w : List A). Adds ks w k (not (list_any (same k) ks))) (sym e) (added ks k (list_any (same k) ks) refl))

abbrev key_of : Bool → TypeName → Key
key_of through name = record { through = through; name = name }

flags : (a b : Bool) (n m : TypeName) → KeyEquality.eq-value.it (key_of a n) (key_of b m) ≡ true → a ≡ b
flags true true n m e = refl
flags true false n m e = absurd (true≢false (sym e))
flags false true n m e = absurd (true≢false (sym e))
flags false false n m e = refl

pub key_same : (a b : Key) → KeyEquality.eq-value.it a b ≡ true → a ≡ b
key_same a b e =
    ap (λ x. key_of x a.name) (flags a.through b.through a.name b.name e) ∙ ap (λ x. key_of b.through x) (same_name_is a.name b.name (second_so _ _ e))
