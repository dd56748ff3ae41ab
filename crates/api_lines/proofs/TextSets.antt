-- Sets of texts in order.
use Rattle.std.proofs.Common.{◌≡◌, ℕ, Bool, true, List, refl, sym, ap, ◌∙◌}
use mathlib.Core.Bool.{true≢false}
use Rattle.std.specs.Prelude.{Decides}
use Rattle.std.specs.Ordering.{nat_cmp, is_eq, ordering_reverse}
use Rattle.std.specs.declared.cmp.Ordering.{Ordering}
use Rattle.std.specs.declared.cmp.Ordering.TheVariants.{Less, Equal, Greater}
use Rattle.std.specs.List.{list_any}
use Rattle.std.specs.Cmp.Lexicographic.{slice_cmp, nat_list_cmp_total}
use Rattle.std.specs.FinMap.{slice_cmp-IsAntisymmetric, nat_cmp-IsAntisymmetric}
use Rattle.go_base.specs.Lists.{Has}
use Rattle.go_base.proofs.Members.{found_has, has_found}

abbrev pub order : List ℕ → List ℕ → Ordering
order = slice_cmp nat_cmp

pub tie_is : (a b : List ℕ) → order a b ≡ Equal → a ≡ b
tie_is a b e = slice_cmp-IsAntisymmetric nat_cmp-IsAntisymmetric a b e

abbrev same_text : List ℕ → List ℕ → Bool
same_text a b = is_eq (order a b)

is_equal : (o : Ordering) → is_eq o ≡ true → o ≡ Equal
is_equal Less t = absurd (true≢false (sym t))
is_equal Equal t = refl
is_equal Greater t = absurd (true≢false (sym t))

equal_itself : (o : Ordering) → o ≡ ordering_reverse o → o ≡ Equal
equal_itself Less e = cc
equal_itself Equal e = refl
equal_itself Greater e = cc

-- a text is found exactly where it is a member
pub member_found : (ks : List (List ℕ)) (k : List ℕ) (found : Bool) → found ≡ list_any (same_text k) ks → Decides found (Has ks k)
member_found ks k found e = (
  (λ t. found_has same_text (λ a b same. tie_is a b (is_equal (order a b) same)) ks k (sym e ∙ t)),
  (λ h. e ∙ has_found same_text (λ a. ap is_eq (equal_itself (order a a) (nat_list_cmp_total.antisymm a a))) ks k h),
)
