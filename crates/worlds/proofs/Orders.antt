-- What is in order, and what stands once, from the last item on.
use Rattle.std.proofs.Common.{◌≡◌, ◌≢◌, ◌<◌, ◌≤◌, ◌+◌, ℕ, List, [], ◌∷◌, map, drop, length, get_or, sym, subst, ◌∙◌, add-one, drop-cons}
use Rattle.std.proofs.lemmas.List.{drop_all}
use Rattle.std.specs.List.{AllByRecursion}
use Rattle.std.specs.List.Sorted.{IsStrictlySortedBy}
use Rattle.std.specs.declared.cmp.Ordering.TheVariants.{Less}
use Rattle.go_base.proofs.Members.{each_has}
use Rattle.go_base.specs.Lists.{Ascending, Before, Each, Has}
use Rattle.go_model.specs.declared.types.names.Sel.{Sel}
use Rattle.go_model.specs.declared.types.term.Field.{Field}
use Rattle.go_model.specs.types.Members.{AreDistinct, AreOrdered, field_sel}
use Rattle.go_model.specs.types.MethodSets.{sel_order}
use Rattle.go_model.specs.types.Terms.{IsBlank}
use Rattle.worlds.proofs.Lists.{each_mapped}

module _ {A : Type 0} (P : List A → Type 0) (xs : List A) where
  pub next : (i : ℕ) (x : A) (ys : List A) → i < length xs → x ≡ get_or xs i x → ys ≡ drop (i + 1) xs → (P ys → P (x ∷ ys)) → (P (drop i xs) → P xs) → P (drop (i + 1) xs) → P xs
  next i x ys h is e step before rest =
      let found : drop i xs ≡ x ∷ drop (i + 1) xs = drop-cons xs i x h ∙ (λ j. sym is j ∷ drop (sym (add-one i) j) xs) in
      before (subst P (sym found) (subst (λ (zs : List A). P (x ∷ zs)) e (step (subst P (sym e) rest))))

  pub whole : (i : ℕ) → length xs ≤ i → P [] → (P (drop i xs) → P xs) → P xs
  whole i h none before = before (subst P (sym (drop_all i xs h)) none)

pub ascends : {A : Type 0} (key : A → List ℕ) (x : A) (ys : List A) → Each (λ y. Before (key x) (key y)) ys → Ascending (map key ys) → Ascending (map key (x ∷ ys))
ascends key x ys h rest = (each_mapped (Before (key x)) key ys h, rest)

pub distinct : (x : Field) (ys : List Field) → Each (λ f. (field_sel f).name ≢ (field_sel x).name) ys → AreDistinct (map field_sel ys) → AreDistinct (map field_sel (x ∷ ys))
distinct x ys h rest = (λ other has e. absurd (each_has (λ (s : Sel). s.name ≢ (field_sel x).name) (map field_sel ys) other (each_mapped (λ (s : Sel). s.name ≢ (field_sel x).name) field_sel ys h) has e), rest)

all_as : {A : Type 0} (P : A → Type 0) (xs : List A) → Each P xs → AllByRecursion P xs
all_as P [] h = tt
all_as P (x ∷ xs) h = (h.0, all_as P xs h.1)

pub none_ordered : AreOrdered []
unfolding IsStrictlySortedBy
none_ordered = record { ordered = tt; named = tt }

pub ordered : {A : Type 0} (sel : A → Sel) (x : A) (ys : List A) → (IsBlank (sel x) → ⊥) → Each (λ y. sel_order (sel x) (sel y) ≡ Less) ys → AreOrdered (map sel ys) → AreOrdered (map sel (x ∷ ys))
unfolding IsStrictlySortedBy
ordered sel x ys named h rest = record {
  ordered = (all_as (λ (s : Sel). sel_order (sel x) s ≡ Less) (map sel ys) (each_mapped (λ (s : Sel). sel_order (sel x) s ≡ Less) sel ys h), rest.ordered);
  named = (named, rest.named);
}
