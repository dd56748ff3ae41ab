-- The order of the paths of folders.
use Rattle.std.proofs.Common.{◌≡◌, ℕ, true, false, List, [], ◌∷◌, ◌++◌, refl, sym, ap, ◌∙◌, subst, ◌⊎◌, inl, inr, append_assoc}
use mathlib.Core.Bool.{true≢false}
use Rattle.std.specs.Prelude.{All}
use Rattle.std.proofs.Common.{◌<◌, suc, arith, length}
use Rattle.std.specs.Ordering.{nat_cmp, is_lt, ordering_then}
use Rattle.std.specs.declared.cmp.Ordering.{Ordering}
use Rattle.std.specs.declared.cmp.Ordering.TheVariants.{Less, Equal, Greater}
use Rattle.std.specs.Cmp.Lexicographic.{slice_cmp}
use Rattle.std.proofs.lemmas.Cmp.{nat_cmp_total, nat_list_cmp_total, tied_itself}
use Rattle.go_base.specs.Lists.{Has, Before}
use Rattle.go_model.specs.files.Trees.{is_element, begins_element}
use Rattle.go_outside.specs.Paths.{Path}
use Rattle.go_load.specs.Names.{is_walked, under, folder_path, entry_path}

is_less : (o : Ordering) → is_lt o ≡ true → o ≡ Less
is_less Less e = refl
is_less Equal e = absurd (true≢false (sym e))
is_less Greater e = absurd (true≢false (sym e))

pub before_trans : (x y z : Path) → Before x y → Before y z → Before x z
before_trans x y z p q = ap is_lt (nat_list_cmp_total.trans x y z (is_less (slice_cmp nat_cmp x y) p) (is_less (slice_cmp nat_cmp y z) q))

pub not_before_itself : (x : Path) → Before x x → ⊥
not_before_itself x h = true≢false (sym h ∙ ap is_lt (tied_itself nat_list_cmp_total x))

-- at or before
abbrev pub To : Path → Path → Type 0
To x y = (x ≡ y) ⊎ Before x y

pub to_before : (x y z : Path) → To x y → Before y z → Before x z
to_before x y z (inl e) h = subst (λ (w : Path). Before w z) (sym e) h
to_before x y z (inr k) h = before_trans x y z k h

pub to_to : (x y z : Path) → To x y → To y z → To x z
to_to x y z (inl e) k = subst (λ (w : Path). To w z) (sym e) k
to_to x y z (inr h) (inl e) = inr (subst (λ (w : Path). Before x w) e h)
to_to x y z (inr h) (inr k) = inr (before_trans x y z h k)

pub not_back : (f g : Path) → To f g → Before g f → ⊥
not_back f g h k = not_before_itself f (to_before f g f h k)

before_longer : (path : Path) (b : ℕ) (more : Path) → Before path (path ++ b ∷ more)
before_longer [] b more = refl
before_longer (c ∷ cs) b more = ap (λ o. is_lt (ordering_then o (slice_cmp nat_cmp cs (cs ++ b ∷ more)))) (tied_itself nat_cmp_total c) ∙ before_longer cs b more

-- a walked name isn't empty
no_walked : is_walked [] ≡ true → ⊥
unfolding is_element begins_element
no_walked e = true≢false (sym e)

pub walked_some : (name : Path) → is_walked name ≡ true → name ≡ [] → ⊥
walked_some name w e = no_walked (subst (λ (n : Path). is_walked n ≡ true) e w)

-- a folder comes before what lies in it
pub before_under : (folder name : Path) → (name ≡ [] → ⊥) → Before folder (under folder name)
before_under [] [] h = absurd (h refl)
before_under [] (c ∷ cs) h = refl
before_under (b ∷ bs) name h = before_longer (b ∷ bs) 47 name

-- where a folder in a folder stands
pub place_under : (root folder name : Path) → (name ≡ [] → ⊥) → folder_path root (under folder name) ≡ entry_path root folder name
place_under root [] [] h = absurd (h refl)
place_under root [] (c ∷ cs) h = refl
place_under root (b ∷ bs) name h = sym (append_assoc root (47 ∷ (b ∷ bs)) (47 ∷ name))

-- the words of std on order
pub above_of : (f : Path) (rest : List Path) → All (λ x. slice_cmp nat_cmp f x ≡ Less) rest → (x : Path) → Has rest x → Before f x
above_of f [] h x k = absurd k
above_of f (y ∷ ys) h x (inl e) = subst (λ (w : Path). Before f w) e (ap is_lt (h 0 y (omega arith)))
above_of f (y ∷ ys) h x (inr k) = above_of f ys (λ i d l. h (suc i) d (omega arith)) x k

pub none_left : {A : Type 0} (xs : List A) → (0 < length xs → false ≡ true) → length xs ≡ 0
none_left [] h = refl
none_left (x ∷ xs) h = absurd (true≢false (sym (h (omega arith))))
