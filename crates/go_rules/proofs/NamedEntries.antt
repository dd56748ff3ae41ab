-- Tables of names, as an ordered map holds them.
use Rattle.std.proofs.Common.{◌≡◌, nat_eq, ℕ, List, [], ◌∷◌, refl, sym, ap, ◌∙◌, subst, Bool, true, false, cond, Option, Some, None}
use mathlib.Core.Bool.{true≢false}
use Rattle.std.proofs.lemmas.Cmp.{nat_cmp_total}
use Rattle.std.proofs.lemmas.Map.Text.{is_eq-slice_cmp}
use Rattle.std.specs.BTreeMap.{insert_entry, is_at}
use Rattle.std.specs.Cmp.{IsTotalOrder, unsigned_ties}
use Rattle.std.specs.Cmp.Lexicographic.{slice_cmp, bytes_decides}
use Rattle.std.specs.List.{AllByRecursion}
use Rattle.std.specs.List.Sorted.{IsStrictlySortedBy}
use Rattle.std.specs.Map.{lookup, keys_of, set_value}
use Rattle.std.specs.Option.{option_copied}
use Rattle.std.specs.Ordering.{nat_cmp, is_eq, match_ordering}
use Rattle.std.specs.Str.{bytes_eq}
use Rattle.std.specs.declared.cmp.Ordering.{Ordering}
use Rattle.std.specs.declared.cmp.Ordering.TheVariants.{Less, Equal, Greater}
use Rattle.go_syntax.specs.go_base.Keys.{item_of}
use Rattle.go_rules.specs.Names.{Named, value_at, with_value}
use denote.Ref.{Bor}

module _ {A : Type 0} where
  pub item_copied : (r : Option (Bor A)) → item_of r ≡ option_copied r
  item_copied None = refl
  item_copied (Some x) = refl

module _ {K X : Type 0} {cmp : K → K → Ordering} (total : IsTotalOrder cmp) (k : K) where
  above : (l : K) (es : List (K × X)) → cmp k l ≡ Less → AllByRecursion (λ y. cmp l y ≡ Less) (keys_of es) → lookup (is_at (cmp k)) es ≡ None
  above l [] h a = refl
  above l (e ∷ es) h a = ap (λ o. cond (is_eq o) (Some e.1) (lookup (is_at (cmp k)) es)) (total.trans k l e.0 h a.0) ∙ above l es h a.1

  none_some : {x : X} → None ≡ Some x → ⊥
  none_some h = cc

  module _ (w x : X) where
    set_first : (o : Ordering) (e : K × X) (es : List (K × X)) → cmp k e.0 ≡ o → AllByRecursion (λ y. cmp e.0 y ≡ Less) (keys_of es)
        → cond (is_eq o) (Some e.1) (lookup (is_at (cmp k)) es) ≡ Some x
        → (lookup (is_at (cmp k)) es ≡ Some x → set_value (is_at (cmp k)) es w ≡ insert_entry cmp es k w)
        → cond (is_eq o) ((e.0, w) ∷ es) (e ∷ set_value (is_at (cmp k)) es w) ≡ match_ordering o ((k, w) ∷ e ∷ es) ((e.0, w) ∷ es) (e ∷ insert_entry cmp es k w)
    set_first Less e es h a l more = absurd (none_some (sym (above e.0 es h a) ∙ l))
    set_first Equal e es h a l more = refl
    set_first Greater e es h a l more = ap (λ r. e ∷ r) (more l)

    -- to set the value of a key that is there is to insert it
    pub set_is_insert : (es : List (K × X)) → IsStrictlySortedBy cmp (keys_of es) → lookup (is_at (cmp k)) es ≡ Some x → set_value (is_at (cmp k)) es w ≡ insert_entry cmp es k w
    unfolding IsStrictlySortedBy
    set_is_insert [] s l = absurd (none_some l)
    set_is_insert (e ∷ es) s l = set_first (cmp k e.0) e es refl s.0 l (set_is_insert es s.1)

module _ {A : Type 0} where
  pub found_by_number : (n : ℕ) (es : List (ℕ × A)) → lookup (is_at (nat_cmp n)) es ≡ lookup (nat_eq n) es
  found_by_number n [] = refl
  found_by_number n (e ∷ es) = ap (λ b. cond b (Some e.1) (lookup (is_at (nat_cmp n)) es)) (sym (unsigned_ties n e.0)) ∙ ap (λ r. cond (nat_eq n e.0) (Some e.1) r) (found_by_number n es)

  -- a value that is written to a number which is there
  pub written_number : (es : List (ℕ × A)) (n : ℕ) (w x : A) → IsStrictlySortedBy nat_cmp (keys_of es) → Some x ≡ lookup (is_at (nat_cmp n)) es → set_value (is_at (nat_cmp n)) es w ≡ insert_entry nat_cmp es n w
  written_number es n w x s there = set_is_insert nat_cmp_total n w x es s (sym there)

module _ {A : Type 0} (q k : List ℕ) (v : A) where
  lists_equal : (a b : List ℕ) → slice_cmp nat_cmp a b ≡ Equal → a ≡ b
  lists_equal a b h = (bytes_decides a b).0 (sym (is_eq-slice_cmp a b) ∙ ap is_eq h)

  told : (e : List ℕ × A) (r : Option A) (b d : Bool) → bytes_eq q k ≡ b → bytes_eq q e.0 ≡ d → (k ≡ e.0 → ⊥)
      → cond d (Some e.1) (cond b (Some v) r) ≡ cond b (Some v) (cond d (Some e.1) r)
  told e r true true h i apart = absurd (apart (sym ((bytes_decides q k).0 h) ∙ (bytes_decides q e.0).0 i))
  told e r true false h i apart = refl
  told e r false d h i apart = refl

  put_first : (o : Ordering) (e : List ℕ × A) (es : Named A) → slice_cmp nat_cmp k e.0 ≡ o
      → lookup (bytes_eq q) (with_value es k v) ≡ cond (bytes_eq q k) (Some v) (lookup (bytes_eq q) es)
      → lookup (bytes_eq q) (match_ordering o ((k, v) ∷ e ∷ es) ((e.0, v) ∷ es) (e ∷ with_value es k v)) ≡ cond (bytes_eq q k) (Some v) (lookup (bytes_eq q) (e ∷ es))
  put_first Less e es h more = refl
  put_first Equal e es h more =
      let same : k ≡ e.0 = lists_equal k e.0 h in
      subst (λ (n : List ℕ). cond (bytes_eq q n) (Some v) (lookup (bytes_eq q) es) ≡ cond (bytes_eq q k) (Some v) (cond (bytes_eq q n) (Some e.1) (lookup (bytes_eq q) es))) same (twice (bytes_eq q k) (lookup (bytes_eq q) es))
    where
      twice : (b : Bool) (r : Option A) → cond b (Some v) r ≡ cond b (Some v) (cond b (Some e.1) r)
      twice true r = refl
      twice false r = refl
  put_first Greater e es h more =
      ap (λ r. cond (bytes_eq q e.0) (Some e.1) r) more
      ∙ told e (lookup (bytes_eq q) es) (bytes_eq q k) (bytes_eq q e.0) refl refl (λ same. true≢false (sym ((bytes_decides k e.0).1 same) ∙ sym (is_eq-slice_cmp k e.0) ∙ ap is_eq h))

  -- a name that is given a value has it, and any other name what it had
  pub put_is : (es : Named A) → value_at (with_value es k v) q ≡ cond (bytes_eq q k) (Some v) (value_at es q)
  put_is [] = refl
  put_is (e ∷ es) = put_first (slice_cmp nat_cmp k e.0) e es refl (put_is es)
