-- No path of the made files clashes.
use Rattle.std.proofs.Common.{◌≡◌, ℕ, zero, suc, ◌+◌, ◌<◌, ◌≤◌, ◌⊎◌, inl, inr, Bool, true, false, cond, nat_eq, List, [], ◌∷◌, map, count_by, codes, refl, sym, subst, arith}
use Rattle.std.specs.Cmp.Lexicographic.{pointwise}
use Rattle.std.proofs.lemmas.List.Sums.{sum_by-cons}
use Rattle.std.proofs.lemmas.Slice.Eq.{bytes_eq-Decides}
use Rattle.go_base.specs.Lists.{Has, Each, Once}
use Rattle.go_base.proofs.Members.{each_has}
use Rattle.go_outside.specs.declared.memory_files.FilePair.{FilePair}
use Rattle.go_outside.specs.Paths.{Path}
use Rattle.go_outside.specs.MemoryFiles.{IsTwice, IsAbove, IsLeastClash}
use Rattle.go_outside.proofs.FolderPaths.{within_some}
use Rattle.api_generator.specs.MadeTrees.{package_files, made_files}
use Rattle.api_generator.proofs.FileNames.{IsEnded, not_under, package_path, module_path, module_ended, package_ended, same_number, module_apart, first_apart}

abbrev paths : List FilePair → List Path
paths files = map (λ f. f.path) files

-- a path that stands once isn't counted twice

count_by_path : (x : FilePair) (xs : List FilePair) (q : Path) → count_by (λ p. pointwise nat_eq p.path q) (x ∷ xs) ≡ cond (pointwise nat_eq x.path q) 1 0 + count_by (λ p. pointwise nat_eq p.path q) xs
count_by_path x xs q = sum_by-cons (λ (p : FilePair). cond (pointwise nat_eq p.path q) 1 0) x xs

none_by : (x : FilePair) (q : Path) (b : Bool) (n m : ℕ) → pointwise nat_eq x.path q ≡ b → n ≡ cond b 1 0 + m → m ≡ 0 → (x.path ≡ q → ⊥) → n ≡ 0
none_by x q true n m e s r h = absurd (h ((bytes_eq-Decides x.path q).0 e))
none_by x q false n m e s r h = omega arith

uncounted : (xs : List FilePair) (q : Path) → (Has (paths xs) q → ⊥) → count_by (λ p. pointwise nat_eq p.path q) xs ≡ 0
uncounted [] q h = refl
uncounted (x ∷ xs) q h = none_by x q (pointwise nat_eq x.path q) _ _ refl (count_by_path x xs q) (uncounted xs q (λ k. h (inr k))) (λ e. h (inl e))

once_by : (x : FilePair) (xs : List FilePair) (q : Path) (b : Bool) (n m : ℕ) → pointwise nat_eq x.path q ≡ b → n ≡ cond b 1 0 + m → (x.path ≡ q → m ≡ 0) → m ≤ 1 → n ≤ 1
once_by x xs q true n m e s none r = let z = none ((bytes_eq-Decides x.path q).0 e) in omega arith
once_by x xs q false n m e s none r = omega arith

counted_once : (xs : List FilePair) (q : Path) → Once (paths xs) → count_by (λ p. pointwise nat_eq p.path q) xs ≤ 1
counted_once [] q h = omega arith
counted_once (x ∷ xs) q h = once_by x xs q (pointwise nat_eq x.path q) _ _ refl (count_by_path x xs q)
    (λ e. uncounted xs q (λ k. h.0 (subst (Has (paths xs)) (sym e) k))) (counted_once xs q h.1)

not_twice : (xs : List FilePair) (q : Path) → Once (paths xs) → IsTwice xs q → ⊥
not_twice xs q h twice = let one = counted_once xs q h in omega arith

abbrev Ended : FilePair → Type 0
Ended f = IsEnded f.path

not_above : (xs : List FilePair) (q : Path) → Each Ended xs → IsEnded q → IsAbove xs q → ⊥
not_above xs q h ended above =
    let r = within_some q above.0.path above.2 in
    not_under q above.0.path r.0 ended (each_has Ended xs above.0 h above.1) r.1

path_ended : (xs : List FilePair) (q : Path) → Each Ended xs → Has (paths xs) q → IsEnded q
path_ended [] q h k = absurd k
path_ended (x ∷ xs) q h (inl e) = subst IsEnded e h.0
path_ended (x ∷ xs) q h (inr k) = path_ended xs q h.1 k

-- the paths of so many packages

abbrev IsPath : ℕ → Path → Type 0
IsPath n q = (k : ℕ) × (k < n) × ((package_path (codes "old") k ≡ q) ⊎ (package_path (codes "new") k ≡ q))

module _ (seed : ℕ) where
  path_is : (n : ℕ) (q : Path) → Has (paths (package_files seed n)) q → IsPath n q
  path_is zero q h = absurd h
  path_is (suc n) q (inl e) = (n, omega arith, inl e)
  path_is (suc n) q (inr (inl e)) = (n, omega arith, inr e)
  path_is (suc n) q (inr (inr h)) = let r = path_is n q h in (r.0, omega (arith, r.1), r.2)

  packages_ended : (n : ℕ) → n ≤ 2000 → Each Ended (package_files seed n)
  packages_ended zero h = tt
  packages_ended (suc n) h = (package_ended (codes "old") n refl (omega arith), (package_ended (codes "new") n refl (omega arith), packages_ended n (omega arith)))

  old_new : (m n : ℕ) → package_path (codes "old") m ≡ package_path (codes "new") n → ⊥
  old_new m n e = first_apart 111 110 _ _ (λ k. omega arith) e

  old_above : (n : ℕ) → n < 2000 → IsPath n (package_path (codes "old") n) → ⊥
  old_above n h (k, lt, inl e) = let s = same_number (codes "old") k n (omega arith) (omega arith) e in absurd (omega arith)
  old_above n h (k, lt, inr e) = old_new n k (sym e)

  new_above : (n : ℕ) → n < 2000 → IsPath n (package_path (codes "new") n) → ⊥
  new_above n h (k, lt, inl e) = old_new k n e
  new_above n h (k, lt, inr e) = let s = same_number (codes "new") k n (omega arith) (omega arith) e in absurd (omega arith)

  packages_once : (n : ℕ) → n ≤ 2000 → Once (paths (package_files seed n))
  packages_once zero h = tt
  packages_once (suc n) h = (
    (λ k. elim k [ inl e ↦ old_new n n (sym e) | inr r ↦ old_above n (omega arith) (path_is n _ r) ]),
    ((λ r. new_above n (omega arith) (path_is n _ r)), packages_once n (omega arith)),
  )

  old_module : (n : ℕ) → IsPath n (module_path (codes "old")) → ⊥
  old_module n (k, lt, inl e) = module_apart (codes "old") k e
  old_module n (k, lt, inr e) = first_apart 110 111 _ _ (λ s. omega arith) e

  new_module : (n : ℕ) → IsPath n (module_path (codes "new")) → ⊥
  new_module n (k, lt, inl e) = first_apart 111 110 _ _ (λ s. omega arith) e
  new_module n (k, lt, inr e) = module_apart (codes "new") k e

  made_once : (n : ℕ) → n ≤ 2000 → Once (paths (made_files seed n))
  made_once n h = (
    (λ k. elim k [ inl e ↦ first_apart 110 111 _ _ (λ s. omega arith) e | inr r ↦ old_module n (path_is n _ r) ]),
    ((λ r. new_module n (path_is n _ r)), packages_once n h),
  )

  made_ended : (n : ℕ) → n ≤ 2000 → Each Ended (made_files seed n)
  made_ended n h = (module_ended (codes "old") refl, (module_ended (codes "new") refl, packages_ended n h))

  -- a clash can't come
  pub no_clash : (n : ℕ) (files : List FilePair) (q : Path) → n ≤ 2000 → files ≡ made_files seed n → IsLeastClash files q → ⊥
  no_clash n files q h is clash =
      let once = subst (λ (xs : List FilePair). Once (paths xs)) (sym is) (made_once n h) in
      let ended = subst (Each Ended) (sym is) (made_ended n h) in
      elim clash.clash [
        | inl twice ↦ not_twice files q once twice
        | inr above ↦ not_above files q ended (path_ended files q ended clash.stands) above
      ]
