-- A walk that takes an item from a list, gathers what holds of the item itself, and puts its parts in its place.
use Rattle.std.proofs.Common.{◌≡◌, List, [], ◌∷◌, ◌++◌, refl, sym, subst, ◌⊎◌, inl, inr}
use Rattle.go_base.specs.Growing.{Grows}
use Rattle.go_base.specs.Lists.{Has}
use Rattle.go_selectors.proofs.Lists.{has-left, has-right, has-split}
use Rattle.go_leads.specs.inner.Some.{SomeIn}

-- ---- lists that grow

module _ {B : Type 0} where
  pub grows_none : (P : B → Type 0) (old new : List B) → new ≡ old → ((b : B) → P b → ⊥) → Grows P old new
  grows_none P old new e none = subst (Grows P old) (sym e) (record { sound = λ b h. inl h; kept = λ b h. h; complete = λ b p. absurd (none b p) })

  pub grows_as : (P Q : B → Type 0) (old new : List B) → ((b : B) → P b → Q b) → ((b : B) → Q b → P b) → Grows P old new → Grows Q old new
  grows_as P Q old new to from g = record {
    sound = λ b h. elim (g.sound b h) [ inl o ↦ inl o | inr p ↦ inr (to b p) ];
    kept = g.kept;
    complete = λ b q. g.complete b (from b q);
  }

  grows_behind : (old ks : List B) → Grows (λ b. Has ks b) old (old ++ ks)
  grows_behind old ks = record { sound = λ b h. has-split old ks b h; kept = λ b h. has-left old ks b h; complete = λ b h. has-right old ks b h }

  pub grows_append : (old ks new : List B) → new ≡ old ++ ks → Grows (λ b. Has ks b) old new
  grows_append old ks new e = subst (Grows (λ b. Has ks b) old) (sym e) (grows_behind old ks)

module _ {A B : Type 0} (P : A → B → Type 0) where
  -- ---- some member

  pub some_left : (xs ys : List A) (b : B) → SomeIn P xs b → SomeIn P (xs ++ ys) b
  some_left xs ys b s = (s.0, has-left xs ys s.0 s.1, s.2)

  pub some_right : (xs ys : List A) (b : B) → SomeIn P ys b → SomeIn P (xs ++ ys) b
  some_right xs ys b s = (s.0, has-right xs ys s.0 s.1, s.2)

  pub some_split : (xs ys : List A) (b : B) → SomeIn P (xs ++ ys) b → SomeIn P xs b ⊎ SomeIn P ys b
  some_split xs ys b s = elim (has-split xs ys s.0 s.1) [ inl h ↦ inl (s.0, h, s.2) | inr h ↦ inr (s.0, h, s.2) ]

  pub some_none : (b : B) → SomeIn P [] b → ⊥
  some_none b s = s.1

  pub some_one : (a : A) (b : B) → SomeIn P (a ∷ []) b → P a b
  some_one a b s = elim s.1 [ inl e ↦ subst (λ (x : A). P x b) (sym e) s.2 | inr h ↦ absurd h ]

  pub one_some : (a : A) (b : B) → P a b → SomeIn P (a ∷ []) b
  one_some a b p = (a, inl refl, p)

  -- ---- what is left

  -- what the items that are left give makes the list what all items give
  abbrev pub Owes : List A → List A → List B → List B → Type 0
  Owes all rest first now = (last : List B) → Grows (SomeIn P rest) now last → Grows (SomeIn P all) first last

  pub owes_all : (all : List A) (first : List B) → Owes all all first first
  owes_all all first last g = g

  pub owes_none : (all rest : List A) (first now : List B) → rest ≡ [] → Owes all rest first now → Grows (SomeIn P all) first now
  owes_none all rest first now e w = w now (grows_none (SomeIn P rest) now now refl (λ b s. some_none b (subst (λ (xs : List A). SomeIn P xs b) e s)))

  -- an item gives what it gives by itself, and what its parts give
  pub record Splits (a : A) (ps : List A) (H : B → Type 0) : Type 0 where
    pub splits : (b : B) → P a b → H b ⊎ SomeIn P ps b
    pub of_here : (b : B) → H b → P a b
    pub of_parts : (b : B) → SomeIn P ps b → P a b

  module _ (a : A) (ps : List A) (H : B → Type 0) (s : Splits a ps H) (rest : List A) (now next last : List B) (g : Grows H now next) (k : Grows (SomeIn P (rest ++ ps)) next last) where
    last_some : (b : B) → P a b → SomeIn P (rest ++ a ∷ []) b
    last_some b p = some_right rest (a ∷ []) b (one_some a b p)

    replaced : Grows (SomeIn P (rest ++ a ∷ [])) now last
    replaced = record {
      sound = λ b h. elim (k.sound b h) [
        | inl n ↦ elim (g.sound b n) [ inl o ↦ inl o | inr p ↦ inr (last_some b (s.of_here b p)) ]
        | inr m ↦ elim (some_split rest ps b m) [ inl l ↦ inr (some_left rest (a ∷ []) b l) | inr p ↦ inr (last_some b (s.of_parts b p)) ]
      ];
      kept = λ b h. k.kept b (g.kept b h);
      complete = λ b m. elim (some_split rest (a ∷ []) b m) [
        | inl l ↦ k.complete b (some_left rest ps b l)
        | inr o ↦ elim (s.splits b (some_one a b o)) [ inl p ↦ k.kept b (g.complete b p) | inr p ↦ k.complete b (some_right rest ps b p) ]
      ];
    }

  -- the last item gave way to its parts
  pub owes_next : (all old rest new : List A) (a : A) (ps : List A) (H : B → Type 0) (first now next : List B)
      → Splits a ps H → old ≡ rest ++ a ∷ [] → new ≡ rest ++ ps → Grows H now next → Owes all old first now → Owes all new first next
  owes_next all old rest new a ps H first now next s e f g w last k = w last (subst (λ (xs : List A). Grows (SomeIn P xs) now last) (sym e) (replaced a ps H s rest now next last g (subst (λ (xs : List A). Grows (SomeIn P xs) next last) f k)))

  -- what one item gives, from nothing
  pub lists_one : (a : A) (all : List A) (first last : List B) → all ≡ a ∷ [] → first ≡ [] → Grows (SomeIn P all) first last → (b : B) → (Has last b → P a b) × (P a b → Has last b)
  lists_one a all first last e f g b = (
    (λ h. elim (g.sound b h) [ inl o ↦ absurd (subst (λ (xs : List B). Has xs b) f o) | inr p ↦ some_one a b (subst (λ (xs : List A). SomeIn P xs b) e p) ]),
    (λ p. g.complete b (subst (λ (xs : List A). SomeIn P xs b) (sym e) (one_some a b p))),
  )
