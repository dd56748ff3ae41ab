-- Packages that are typed one after another, and what one more of them does.
use Rattle.std.proofs.Common.{◌≡◌, ℕ, Bool, true, false, List, [], ◌∷◌, ◌++◌, map, length, refl, sym, ◌∙◌, subst, ◌⊎◌, inl, inr}
use Rattle.std.specs.Prelude.{if◌then◌else◌}
use Rattle.std.specs.Cmp.Lexicographic.{slice_cmp}
use Rattle.std.specs.Ordering.{is_lt, nat_cmp}
use Rattle.go_base.specs.Keys.{placed}
use Rattle.go_base.specs.Lists.{Has, Passes}
use Rattle.go_model.specs.declared.types.package.Package.{Package}
use Rattle.go_model.specs.worlds.Worlds.{Packages, path_of}
use Rattle.go_model.proofs.MoreWorlds.{key_placed, keys_kept}
use Rattle.go_exposed.specs.OfferedWorlds.{Become, become_none, become_more, Becomes, IsFirstRefused, IsRefusedAt, refused_here, refused_later, IsWorldOf}
use Rattle.go_typings.specs.PackageWorlds.{Outcome, typed, refused, blocked, is_typed, over, with_outcome}
use Rattle.go_typings.specs.Refusals.{Refusal}
use Rattle.go_typings.specs.Sources.{PackageSource}

-- the path of a package as it is written
abbrev pub written_path : PackageSource → List ℕ
written_path u = u.path

untyped_refused : (r : Refusal) → is_typed (refused r) ≡ true → ⊥
untyped_refused r e = cc

untyped_blocked : is_typed blocked ≡ true → ⊥
untyped_blocked e = cc

module _ (bits : ℕ) where
  become_last : {w v : Packages} {us : List PackageSource} {xs : List Outcome} (u : PackageSource) (x : Outcome) → Become bits w us xs v → Becomes (over bits v) u x → Become bits w (us ++ u ∷ []) (xs ++ x ∷ []) (with_outcome v u x)
  become_last u x become_none a = become_more a become_none
  become_last u x (become_more b r) a = become_more b (become_last u x r a)

  passes_last : (xs : List Outcome) (p : Package) → Passes is_typed xs → Passes is_typed (xs ++ typed p ∷ [])
  passes_last [] p t = (refl, tt)
  passes_last (x ∷ xs) p t = (t.0, passes_last xs p t.1)

  -- one more package that is typed
  pub typed_more : (us : List PackageSource) (w : Packages) (u : PackageSource) (p : Package) → IsWorldOf bits us w → Becomes (over bits w) u (typed p) → IsWorldOf bits (us ++ u ∷ []) (with_outcome w u (typed p))
  typed_more us w u p i a = record {
    outcomes = i.outcomes ++ typed p ∷ [];
    become = become_last u (typed p) i.become a;
    all_typed = passes_last i.outcomes p i.all_typed;
  }

  refused_next : {w v : Packages} {us : List PackageSource} {xs : List Outcome} (u : PackageSource) (rest : List PackageSource) (r : Refusal) → Become bits w us xs v → Passes is_typed xs → Becomes (over bits v) u (refused r) → IsRefusedAt bits w (us ++ u ∷ rest) (length us) r
  refused_next u rest r become_none t a = refused_here a
  refused_next u rest r (become_more {x = typed p} b k) t a = refused_later (typed p) b refl (refused_next u rest r k t.1 a)
  refused_next u rest r (become_more {x = refused q} b k) t a = absurd (untyped_refused q t.0)
  refused_next u rest r (become_more {x = blocked} b k) t a = absurd (untyped_blocked t.0)

  -- the first that is refused after packages that are typed
  pub first_refused : (us : List PackageSource) (w : Packages) (u : PackageSource) (rest : List PackageSource) (r : Refusal) → IsWorldOf bits us w → Becomes (over bits w) u (refused r) → IsFirstRefused bits (us ++ u ∷ rest) (length us) r
  first_refused us w u rest r i a = refused_next u rest r i.become i.all_typed a

  -- ---- paths

  -- a key among those with one more item is its, or was there
  placed_back : (p : Package) (ps : List Package) (path : List ℕ) → Has (map path_of (placed path_of p ps)) path → (p.path ≡ path) ⊎ Has (map path_of ps) path
  placed_back p [] path h = elim h [ inl e ↦ inl e | inr k ↦ absurd k ]
  placed_back p (x ∷ xs) path h = chosen (placed_back p xs path) (is_lt (slice_cmp nat_cmp p.path x.path)) h
    where
      chosen : (Has (map path_of (placed path_of p xs)) path → (p.path ≡ path) ⊎ Has (map path_of xs) path) → (b : Bool) → Has (map path_of (if b then p ∷ x ∷ xs else x ∷ placed path_of p xs)) path → (p.path ≡ path) ⊎ Has (map path_of (x ∷ xs)) path
      chosen behind true k = elim k [ inl e ↦ inl e | inr j ↦ inr j ]
      chosen behind false k = elim k [ inl e ↦ inr (inl e) | inr j ↦ elim (behind j) [ inl e ↦ inl e | inr l ↦ inr (inr l) ] ]

  either_key : (path : List ℕ) (ps : List Package) (us : List PackageSource) → Type 0
  either_key path ps us = Has (map path_of ps) path ⊎ Has (map written_path us) path

  -- the packages of a world are those of which it is
  paths_back : {w v : Packages} {us : List PackageSource} {xs : List Outcome} → Become bits w us xs v → Passes is_typed xs → (path : List ℕ) → Has (map path_of v.packages) path → either_key path w.packages us
  unfolding either_key
  paths_back become_none t path h = inl h
  paths_back (become_more {w = w} {u = u} {x = typed p} a r) t path h = elim (paths_back r t.1 path h) [
    | inl k ↦ elim (placed_back p w.packages path k) [ inl e ↦ inr (inl (sym a.1.«package».path ∙ e)) | inr j ↦ inl j ]
    | inr k ↦ inr (inr k)
  ]
  paths_back (become_more {x = refused q} a r) t path h = absurd (untyped_refused q t.0)
  paths_back (become_more {x = blocked} a r) t path h = absurd (untyped_blocked t.0)

  paths_kept : {w v : Packages} {us : List PackageSource} {xs : List Outcome} → Become bits w us xs v → Passes is_typed xs → (path : List ℕ) → either_key path w.packages us → Has (map path_of v.packages) path
  unfolding either_key
  paths_kept become_none t path h = elim h [ inl k ↦ k | inr k ↦ absurd k ]
  paths_kept (become_more {w = w} {u = u} {x = typed p} a r) t path h = paths_kept r t.1 path (elim h [
    | inl k ↦ inl (keys_kept path_of p w.packages path k)
    | inr k ↦ elim k [
      | inl e ↦ inl (subst (Has (map path_of (placed path_of p w.packages))) (a.1.«package».path ∙ e) (key_placed path_of p w.packages))
      | inr j ↦ inr j
    ]
  ])
  paths_kept (become_more {x = refused q} a r) t path h = absurd (untyped_refused q t.0)
  paths_kept (become_more {x = blocked} a r) t path h = absurd (untyped_blocked t.0)

  -- the paths of a world are those of the packages that it is of
  pub world_paths : (us : List PackageSource) (w : Packages) → IsWorldOf bits us w → (path : List ℕ) → Has (map written_path us) path → Has (map path_of w.packages) path
  unfolding either_key
  world_paths us w i path h = paths_kept i.become i.all_typed path (inr h)

  pub world_paths_back : (us : List PackageSource) (w : Packages) → IsWorldOf bits us w → (path : List ℕ) → Has (map path_of w.packages) path → Has (map written_path us) path
  unfolding either_key
  world_paths_back us w i path h = elim (paths_back i.become i.all_typed path h) [ inl k ↦ absurd k | inr k ↦ k ]
