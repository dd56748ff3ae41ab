-- Contents tell finitely many paths, so a tree has finitely many folders and candidate files.
use Rattle.std.proofs.Common.{◌≡◌, ◌≢◌, ◌⊎◌, ℕ, Bool, true, false, Option, Some, None, List, [], ◌∷◌, ◌++◌, append_assoc, append-nil, map, refl, sym, ap, ◌∙◌, subst, inl, inr}
use mathlib.Core.Bool.{true≢false}
use Rattle.std.specs.Cmp.Lexicographic.{slice_cmp}
use Rattle.std.specs.FinMap.{entries, get, get-entries, nat_cmp-IsAntisymmetric, slice_cmp-IsAntisymmetric}
use Rattle.std.specs.FinMap.Entries.{find, is_some-find}
use Rattle.std.specs.Ordering.{eq_by_cmp, is_eq, nat_cmp}
use Rattle.std.specs.Option.{is_some}
use Rattle.std.specs.declared.cmp.Ordering.{Ordering}
use Rattle.std.specs.declared.cmp.Ordering.TheVariants.{Less, Equal, Greater}
use Rattle.go_base.proofs.Members.{found_has}
use Rattle.go_base.specs.Gathered.{gather}
use Rattle.go_base.specs.Lists.{Has}
use Rattle.go_existence.proofs.FiniteSets.{has_left, has_map, has_right}
use Rattle.go_load.proofs.FolderOrder.{place_under, walked_some}
use Rattle.go_load.specs.Names.{entry_path, folder_path, under}
use Rattle.go_load.specs.Walk.{IsCandidate, IsFolder, IsThere, sub, top}
use Rattle.go_load.specs.declared.kind.TreeKind.{TreeKind}
use Rattle.go_outside.specs.Paths.{Path}
use Rattle.go_outside.specs.Stores.{Contents, IsTold}

abbrev order : Path → Path → Ordering
order = slice_cmp nat_cmp

-- ---- parts of a text

fronts : Path → List Path
fronts [] = [] ∷ []
fronts (b ∷ bs) = [] ∷ map (λ (w : Path). b ∷ w) (fronts bs)

tails : Path → List Path
tails [] = [] ∷ []
tails (b ∷ bs) = (b ∷ bs) ∷ tails bs

has_front : (xs ys : Path) → Has (fronts (xs ++ ys)) xs
unfolding fronts
has_front [] [] = inl refl
has_front [] (y ∷ ys) = inl refl
has_front (x ∷ xs) ys = inr (has_map (λ (w : Path). x ∷ w) (fronts (xs ++ ys)) xs (has_front xs ys))

has_tail : (xs ys : Path) → Has (tails (xs ++ ys)) ys
unfolding tails
has_tail [] [] = inl refl
has_tail [] (y ∷ ys) = inl refl
has_tail (x ∷ xs) ys = inr (has_tail xs ys)

has_gathered : {A B : Type 0} (f : A → List B) (xs : List A) (x : A) (y : B) → Has xs x → Has (f x) y → Has (gather f xs) y
has_gathered f [] x y h k = absurd h
has_gathered f (z ∷ xs) x y (inl e) k = has_left (f z) (gather f xs) y (subst (λ w. Has (f w) y) (sym e) k)
has_gathered f (z ∷ xs) x y (inr h) k = has_right (f z) (gather f xs) y (has_gathered f xs x y h k)

parts : Path → List Path
parts p = gather fronts (tails p)

has_part : (xs ys zs : Path) → Has (parts (xs ++ (ys ++ zs))) ys
unfolding parts
has_part xs ys zs = has_gathered fronts (tails (xs ++ (ys ++ zs))) (ys ++ zs) ys (has_tail xs (ys ++ zs)) (has_front ys zs)

-- ---- what is told

module _ (m : Contents) where
  pub told_paths : List Path
  told_paths = map (λ e. e.0) (entries m)

  is_same : (a b : Path) → eq_by_cmp order a b ≡ true → a ≡ b
  is_same a b e = slice_cmp-IsAntisymmetric nat_cmp-IsAntisymmetric a b (equal (order a b) e)
    where
      equal : (o : Ordering) → is_eq o ≡ true → o ≡ Equal
      equal Less e = absurd (true≢false (sym e))
      equal Equal e = refl
      equal Greater e = absurd (true≢false (sym e))

  some_there : (o : Option (List ℕ)) → o ≢ None → is_some o ≡ true
  some_there None n = absurd (n refl)
  some_there (Some x) n = refl

  told_listed : (p : Path) → IsTold m p → Has told_paths p
  unfolding told_paths
  told_listed p told =
      found_has (eq_by_cmp order) is_same (map (λ e. e.0) (entries m)) p
      (sym (is_some-find order p (entries m)) ∙ some_there (find order p (entries m)) (λ e. told (get-entries m p ∙ e)))

  pub all_parts : List Path
  all_parts = gather parts told_paths

  part_of : (xs ys zs : Path) → IsTold m (xs ++ (ys ++ zs)) → Has all_parts ys
  unfolding all_parts
  part_of xs ys zs told = has_gathered parts told_paths (xs ++ (ys ++ zs)) ys (told_listed (xs ++ (ys ++ zs)) told) (has_part xs ys zs)

  module _ (tree : TreeKind) (root : Path) where
    folder_there : (f : Path) → IsFolder m tree root f → (f ≡ []) ⊎ IsThere m (folder_path root f)
    folder_there f top = inl refl
    folder_there f (sub folder name is c) = inr (subst (IsThere m) (sym (place_under root folder name (walked_some name c.walked))) c.there)

    there_part : (f : Path) → IsThere m (folder_path root f) → Has ([] ∷ all_parts) f
    there_part [] h = inl refl
    there_part (b ∷ bs) h = inr (part_of (root ++ 47 ∷ []) (b ∷ bs) (47 ∷ h.0) (subst (IsTold m) (append_assoc root (47 ∷ b ∷ bs) (47 ∷ h.0) ∙ sym (append_assoc root (47 ∷ []) ((b ∷ bs) ++ 47 ∷ h.0))) h.1))

    pub folder_listed : (f : Path) → IsFolder m tree root f → Has ([] ∷ all_parts) f
    folder_listed f is = elim (folder_there f is) [ inl e ↦ inl (sym e) | inr h ↦ there_part f h ]

    pub candidate_listed : (folder name : Path) → IsCandidate m tree root folder name → Has all_parts name
    candidate_listed folder name c =
        part_of (folder_path root folder ++ 47 ∷ []) name []
        (subst (IsTold m) (ap (λ (w : Path). folder_path root folder ++ 47 ∷ w) (sym (append-nil name)) ∙ sym (append_assoc (folder_path root folder) (47 ∷ []) (name ++ []))) c.stored)
