-- The public packages of a world are the public ones of the packages that it is of, and have their names.
use Rattle.std.proofs.Common.{◌≡◌, ◌⊎◌, ℕ, Bool, true, false, List, [], ◌∷◌, Some, map, refl, sym, ap, ◌∙◌, subst, inl, inr}
use Rattle.std.specs.Prelude.{if◌then◌else◌}
use Rattle.std.specs.Cmp.Lexicographic.{slice_cmp}
use Rattle.std.specs.Ordering.{is_lt, nat_cmp}
use Rattle.go_base.specs.Keys.{first_with, placed}
use Rattle.go_base.specs.Lists.{Has, Passes}
use Rattle.go_exposed.specs.OfferedPackages.{IsOfferedAs}
use Rattle.go_exposed.specs.OfferedWorlds.{Become, IsWorldOf, become_more, become_none}
use Rattle.go_model.proofs.MoreWorlds.{key_placed, keys_kept}
use Rattle.go_model.specs.declared.types.package.Package.{Package}
use Rattle.go_model.specs.worlds.Worlds.{Packages, path_of}
use Rattle.go_rules.proofs.OneKind.{no_truth}
use Rattle.go_std_worlds.proofs.go_taken_packages_proofs.OverAll.{StandsAs}
use Rattle.go_std_worlds.proofs.go_taken_packages_proofs.TakenOver.{typed_in}
use Rattle.go_std_worlds.specs.StdSources.{HaveOwnPaths, HavePaths, source_path}
use Rattle.go_typings.proofs.Cells.{some_once}
use Rattle.go_typings.specs.PackageWorlds.{Outcome, blocked, is_public, is_typed, over, refused, typed}
use Rattle.go_typings.specs.Sources.{PackageSource}

-- ---- texts in their places

same_map : (xs : List (List ℕ)) → map (λ t. t) xs ≡ xs
same_map [] = refl
same_map (x ∷ xs) = ap (λ (ys : List (List ℕ)). x ∷ ys) (same_map xs)

text_placed : (x : List ℕ) (xs : List (List ℕ)) → Has (placed (λ t. t) x xs) x
text_placed x xs = subst (λ (ys : List (List ℕ)). Has ys x) (same_map (placed (λ t. t) x xs)) (key_placed (λ t. t) x xs)

text_kept : (x : List ℕ) (xs : List (List ℕ)) (k : List ℕ) → Has xs k → Has (placed (λ t. t) x xs) k
text_kept x xs k h = subst (λ (ys : List (List ℕ)). Has ys k) (same_map (placed (λ t. t) x xs)) (keys_kept (λ t. t) x xs k (subst (λ (ys : List (List ℕ)). Has ys k) (sym (same_map xs)) h))

text_back : (x : List ℕ) (xs : List (List ℕ)) (k : List ℕ) → Has (placed (λ t. t) x xs) k → (x ≡ k) ⊎ Has xs k
text_back x [] k h = elim h [ inl e ↦ inl e | inr m ↦ absurd m ]
text_back x (y ∷ ys) k h = chosen (text_back x ys k) (is_lt (slice_cmp nat_cmp x y)) h
  where
    chosen : (Has (placed (λ t. t) x ys) k → (x ≡ k) ⊎ Has ys k) → (b : Bool) → Has (if b then x ∷ y ∷ ys else y ∷ placed (λ t. t) x ys) k → (x ≡ k) ⊎ Has (y ∷ ys) k
    chosen behind true m = elim m [ inl e ↦ inl e | inr j ↦ inr j ]
    chosen behind false m = elim m [ inl e ↦ inr (inl e) | inr j ↦ elim (behind j) [ inl e ↦ inl e | inr l ↦ inr (inr l) ] ]

-- ---- one package more

abbrev more : Bool → List ℕ → List (List ℕ) → List (List ℕ)
more b x xs = if b then placed (λ t. t) x xs else xs

more_kept : (b : Bool) (x : List ℕ) (xs : List (List ℕ)) (k : List ℕ) → Has xs k → Has (more b x xs) k
more_kept true x xs k h = text_kept x xs k h
more_kept false x xs k h = h

more_new : (b : Bool) (x : List ℕ) (xs : List (List ℕ)) (k : List ℕ) → b ≡ true → x ≡ k → Has (more b x xs) k
more_new true x xs k t e = subst (Has (placed (λ t. t) x xs)) e (text_placed x xs)
more_new false x xs k t e = absurd (no_truth (sym t))

more_back : (b : Bool) (x : List ℕ) (xs : List (List ℕ)) (k : List ℕ) → Has (more b x xs) k → Has xs k ⊎ ((b ≡ true) × (x ≡ k))
more_back true x xs k h = elim (text_back x xs k h) [ inl e ↦ inr (refl, e) | inr m ↦ inl m ]
more_back false x xs k h = inl h

module _ (bits : ℕ) where
  public_kept : {w v : Packages} {us : List PackageSource} {xs : List Outcome} → Become bits w us xs v → Passes is_typed xs → (path : List ℕ) → Has w.publics path → Has v.publics path
  public_kept become_none t path h = h
  public_kept (become_more {w = w} {u = u} {x = typed p} a r) t path h = public_kept r t.1 path (more_kept (is_public u) p.path w.publics path h)
  public_kept (become_more {x = refused q} a r) t path h = absurd (no_truth (sym t.0))
  public_kept (become_more {x = blocked} a r) t path h = absurd (no_truth (sym t.0))

  public_in : {w v : Packages} {us : List PackageSource} {xs : List Outcome} → Become bits w us xs v → Passes is_typed xs → (s : PackageSource) → Has us s → is_public s ≡ true → Has v.publics s.path
  public_in become_none t s h b = absurd h
  public_in (become_more {w = w} {u = u} {x = typed p} a r) t s (inl e) b =
      public_kept r t.1 s.path (more_new (is_public u) p.path w.publics s.path (ap is_public e ∙ b) (a.1.«package».path ∙ ap source_path e))
  public_in (become_more {x = typed p} a r) t s (inr h) b = public_in r t.1 s h b
  public_in (become_more {x = refused q} a r) t s h b = absurd (no_truth (sym t.0))
  public_in (become_more {x = blocked} a r) t s h b = absurd (no_truth (sym t.0))

  abbrev IsOfPublic : List PackageSource → List ℕ → Type 0
  IsOfPublic us path = (s : PackageSource) × Has us s × (s.path ≡ path) × (is_public s ≡ true)

  public_out : {w v : Packages} {us : List PackageSource} {xs : List Outcome} → Become bits w us xs v → Passes is_typed xs → (path : List ℕ) → Has v.publics path → Has w.publics path ⊎ IsOfPublic us path
  public_out become_none t path h = inl h
  public_out (become_more {w = w} {u = u} {x = typed p} a r) t path h = elim (public_out r t.1 path h) [
    | inl k ↦ elim (more_back (is_public u) p.path w.publics path k) [ inl j ↦ inl j | inr j ↦ inr (u, inl refl, sym a.1.«package».path ∙ j.1, j.0) ]
    | inr q ↦ inr (q.0, inr q.1, q.2, q.3)
  ]
  public_out (become_more {x = refused q} a r) t path h = absurd (no_truth (sym t.0))
  public_out (become_more {x = blocked} a r) t path h = absurd (no_truth (sym t.0))

  pub public_there : (us : List PackageSource) (w : Packages) → IsWorldOf bits us w → (s : PackageSource) → Has us s → is_public s ≡ true → Has w.publics s.path
  public_there us w k s h b = public_in k.become k.all_typed s h b

  pub public_from : (us : List PackageSource) (w : Packages) → IsWorldOf bits us w → (path : List ℕ) → Has w.publics path → IsOfPublic us path
  public_from us w k path h = elim (public_out k.become k.all_typed path h) [ inl never ↦ absurd never | inr q ↦ q ]

-- ---- names

module _ (bits : ℕ) (us : List PackageSource) (own : HaveOwnPaths us) (paths : HavePaths us) (w : Packages) (k : IsWorldOf bits us w) where
  typed_there : (s : PackageSource) → Has us s → (p : Package) × StandsAs bits w s (typed p)
  typed_there s h = typed_in bits us w (record { once = own; named = paths }) k s h

  pub package_there : (s : PackageSource) → Has us s → (p : Package) × (first_with path_of w.packages s.path ≡ Some p)
  package_there s h = let q = typed_there s h in (q.0, q.1.1)

  typed_as : (s : PackageSource) → Has us s → (p : Package) → first_with path_of w.packages s.path ≡ Some p → IsOfferedAs (over bits w) s p
  typed_as s h p e = let q = typed_there s h in subst (IsOfferedAs (over bits w) s) (some_once q.0 p (sym q.1.1 ∙ e)) q.1.0.1

  pub package_name : (s : PackageSource) → Has us s → (p : Package) → first_with path_of w.packages s.path ≡ Some p → p.name ≡ s.name
  package_name s h p e = (typed_as s h p e).«package».name

  pub package_side : (s : PackageSource) → Has us s → (p : Package) → first_with path_of w.packages s.path ≡ Some p → p.from_std ≡ s.from_std
  package_side s h p e = (typed_as s h p e).«package».from_std
