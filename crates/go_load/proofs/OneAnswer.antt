-- The answers of the loads over one store agree.
use Rattle.std.proofs.Common.{◌≡◌, ℕ, ◌<◌, ◌≤◌, Option, Some, None, List, [], ◌∷◌, ◌++◌, length, get_or, refl, sym, ap, ◌∙◌, subst, inl, inr, Result, Ok, Err, arith}
use Rattle.go_model.specs.files.Trees.{most, IsModulePath}
use Rattle.go_model.specs.declared.files.tree.Tree.{Tree}
use Rattle.go_model.specs.declared.files.tree.LimitName.{LimitName}
use Rattle.go_model.specs.declared.files.tree.LimitName.TheVariants as limit
use Rattle.go_outside.specs.Paths.{Path}
use Rattle.go_outside.specs.Stores.{Contents}
use Rattle.go_load.specs.Names.{go_mod}
use Rattle.go_load.specs.GoMod.{IsModuleOf, IsWritten, second_word}
use Rattle.go_load.specs.Walk.{IsThere}
use Rattle.go_load.specs.Loads.{AreFiles, LoadsFiles, told_module, IsModuleAt, Passes, LoadsModule}
use Rattle.go_load.specs.Answers.{Agree}
use Rattle.go_load.specs.inner.Steps.{IsUnquoted}
use Rattle.go_load.specs.declared.error.LoadError.{LoadError}
use Rattle.go_load.specs.declared.error.LoadError.TheVariants as error
use Rattle.go_load.specs.declared.kind.TreeKind.{TreeKind}
use Rattle.go_load.specs.declared.kind.TreeKind.TheVariants as kind
use Rattle.go_load.proofs.ModuleLines.{quoted, backquoted, bare, not_quoted, not_backquoted}
use Rattle.go_load.proofs.OneWalk.{one_files, one_limit, files_or_limit}

some_same : {A : Type 0} (o : Option A) (a b : A) → o ≡ Some a → o ≡ Some b → a ≡ b
some_same o a b e f = let h : ◌≡◌ {A = Option _} (Some a) (Some b) = sym e ∙ f in cc

none_or : {A : Type 0} (o : Option A) (a : A) → o ≡ None → o ≡ Some a → ⊥
none_or o a e f = let h : ◌≡◌ {A = Option _} None (Some a) = sym e ∙ f in cc

-- a `go.mod` names one module
unquoted_by : (written path : List ℕ) → IsModulePath path → IsWritten written path → IsUnquoted written path
unquoted_by written path is (inl e) = subst (IsUnquoted written) e
    (bare written (λ p d. not_quoted path (p ++ 34 ∷ []) is (sym e ∙ d)) (λ p d. not_backquoted path (p ++ 96 ∷ []) is (sym e ∙ d)))
unquoted_by written path is (inr (inl e)) = quoted written path e
unquoted_by written path is (inr (inr e)) = backquoted written path e

one_module : (bytes p q : List ℕ) → IsModuleOf bytes p → IsModuleOf bytes q → p ≡ q
one_module bytes p q m n =
    let line : m.line ≡ n.line = ap (λ (w : List (List ℕ)). get_or w 0 []) (sym m.only ∙ n.only) in
    (unquoted_by (second_word n.line) q n.path_of n.names.written).only p m.path_of (subst (λ (w : List ℕ). IsWritten (second_word w) p) line m.names.written)

no_pair : (a b : LimitName × Path) → a ≡ b → ◌≡◌ {A = Result Tree LoadError} (Err (error.Limit a.0 a.1)) (Err (error.Limit b.0 b.1))
no_pair a b e = ap (λ (w : LimitName × Path). Err (error.Limit w.0 w.1)) e

same_missing : (p q : Path) → p ≡ [] → q ≡ [] → ◌≡◌ {A = Result Tree LoadError} (Err (error.Missing p)) (Err (error.Missing q))
same_missing p q e f = ap (λ (w : Path). Err (error.Missing w)) (e ∙ sym f)

same_tree : (t u : Tree) → t.module ≡ u.module → t.files ≡ u.files → ◌≡◌ {A = Result Tree LoadError} (Ok t) (Ok u)
same_tree t u e f = λ i. Ok (record { «module» = e i; files = f i })

module _ (m : Contents) (tree : TreeKind) (root : Path) where
  pub agree_files : (r s : Result Tree LoadError) → LoadsFiles m tree root r → LoadsFiles m tree root s → Agree r s
  agree_files (Err error.ReadFault) s a b = inl tt
  agree_files (Err error.NoMemory) s a b = inl tt
  agree_files (Err error.NoModule) s a b = absurd a
  agree_files (Err error.BadModule) s a b = absurd a
  agree_files (Ok t) (Err error.ReadFault) a b = inr (inl tt)
  agree_files (Ok t) (Err error.NoMemory) a b = inr (inl tt)
  agree_files (Ok t) (Err error.NoModule) a b = absurd b
  agree_files (Ok t) (Err error.BadModule) a b = absurd b
  agree_files (Ok t) (Ok u) a b = inr (inr (same_tree t u (a.0 ∙ sym b.0) (one_files m tree root t.files u.files a.1.1 b.1.1)))
  agree_files (Ok t) (Err (error.Missing q)) a b = absurd (b.0 a.1.0)
  agree_files (Ok t) (Err (error.Limit n q)) a b = absurd (files_or_limit m tree root t.files (n, q) a.1.1 b.1)
  agree_files (Err (error.Missing p)) (Err error.ReadFault) a b = inr (inl tt)
  agree_files (Err (error.Missing p)) (Err error.NoMemory) a b = inr (inl tt)
  agree_files (Err (error.Missing p)) (Err error.NoModule) a b = absurd b
  agree_files (Err (error.Missing p)) (Err error.BadModule) a b = absurd b
  agree_files (Err (error.Missing p)) (Ok u) a b = absurd (a.0 b.1.0)
  agree_files (Err (error.Missing p)) (Err (error.Missing q)) a b = inr (inr (same_missing p q a.1 b.1))
  agree_files (Err (error.Missing p)) (Err (error.Limit n q)) a b = absurd (a.0 b.0)
  agree_files (Err (error.Limit l p)) (Err error.ReadFault) a b = inr (inl tt)
  agree_files (Err (error.Limit l p)) (Err error.NoMemory) a b = inr (inl tt)
  agree_files (Err (error.Limit l p)) (Err error.NoModule) a b = absurd b
  agree_files (Err (error.Limit l p)) (Err error.BadModule) a b = absurd b
  agree_files (Err (error.Limit l p)) (Ok u) a b = absurd (files_or_limit m tree root u.files (l, p) b.1.1 a.1)
  agree_files (Err (error.Limit l p)) (Err (error.Missing q)) a b = absurd (b.0 a.0)
  agree_files (Err (error.Limit l p)) (Err (error.Limit n q)) a b = inr (inr (no_pair (l, p) (n, q) (one_limit m tree root (l, p) (n, q) a.1 b.1)))

module _ (m : Contents) (root : Path) where
  -- the states of `go.mod` exclude each other
  abbrev IsLarge : Type 0
  IsLarge = (bytes : List ℕ) × (told_module m root ≡ Some bytes) × (most limit.FileBytes < length bytes)

  abbrev IsBad : Type 0
  IsBad = (bytes : List ℕ) × (told_module m root ≡ Some bytes) × (length bytes ≤ most limit.FileBytes) × ((path : Path) → IsModuleOf bytes path → ⊥)

  there : (bytes : List ℕ) → told_module m root ≡ Some bytes → IsThere m root
  there bytes e = (go_mod, λ none. none_or (told_module m root) bytes none e)

  large_good : IsLarge → (path : Path) → IsModuleAt m root path → ⊥
  large_good l path g = let e = some_same (told_module m root) l.0 g.0 l.1 g.1 in absurd (omega (arith, l.2, g.2, ap length e))

  large_bad : IsLarge → IsBad → ⊥
  large_bad l b = let e = some_same (told_module m root) l.0 b.0 l.1 b.1 in absurd (omega (arith, l.2, b.2, ap length e))

  bad_good : IsBad → (path : Path) → IsModuleAt m root path → ⊥
  bad_good b path g = b.3 path (subst (λ (w : List ℕ). IsModuleOf w path) (some_same (told_module m root) g.0 b.0 g.1 b.1) g.3)

  one_good : (p q : Path) → IsModuleAt m root p → IsModuleAt m root q → p ≡ q
  one_good p q a b = one_module b.0 p q (subst (λ (w : List ℕ). IsModuleOf w p) (some_same (told_module m root) a.0 b.0 a.1 b.1) a.3) b.3

  passes_told : (l : LimitName) (p : Path) → Passes m root l p → (bytes : List ℕ) × (told_module m root ≡ Some bytes)
  passes_told l p (inl h) = (h.0, h.1)
  passes_told l p (inr h) = (h.0.1.0, h.0.1.1)

  good_passes : (t : Tree) (l : LimitName) (p : Path) → IsModuleAt m root t.module → AreFiles m kind.Module root t.files → Passes m root l p → ⊥
  good_passes t l p g a (inl h) = large_good (h.0, h.1, h.2) t.module g
  good_passes t l p g a (inr h) = files_or_limit m kind.Module root t.files (l, p) a h.1

  bad_passes : (l : LimitName) (p : Path) → IsBad → Passes m root l p → ⊥
  bad_passes l p b (inl h) = large_bad (h.0, h.1, h.2) b
  bad_passes l p b (inr h) = bad_good b h.0.0 h.0.1

  one_pass : (l n : LimitName) (p q : Path) → Passes m root l p → Passes m root n q → ◌≡◌ {A = LimitName × Path} (l, p) (n, q)
  one_pass l n p q (inl a) (inl b) = λ i. ((a.3 ∙ sym b.3) i, (a.4 ∙ sym b.4) i)
  one_pass l n p q (inl a) (inr b) = absurd (large_good (a.0, a.1, a.2) b.0.0 b.0.1)
  one_pass l n p q (inr a) (inl b) = absurd (large_good (b.0, b.1, b.2) a.0.0 a.0.1)
  one_pass l n p q (inr a) (inr b) = one_limit m kind.Module root (l, p) (n, q) a.1 b.1

  pub agree_module : (r s : Result Tree LoadError) → LoadsModule m root r → LoadsModule m root s → Agree r s
  agree_module (Err error.ReadFault) s a b = inl tt
  agree_module (Err error.NoMemory) s a b = inl tt
  agree_module (Ok t) (Err error.ReadFault) a b = inr (inl tt)
  agree_module (Ok t) (Err error.NoMemory) a b = inr (inl tt)
  agree_module (Ok t) (Ok u) a b = inr (inr (same_tree t u (one_good t.module u.module a.0 b.0) (one_files m kind.Module root t.files u.files a.1 b.1)))
  agree_module (Ok t) (Err (error.Missing q)) a b = absurd (b.0 (there a.0.0 a.0.1))
  agree_module (Ok t) (Err error.NoModule) a b = absurd (none_or (told_module m root) a.0.0 b.1 a.0.1)
  agree_module (Ok t) (Err error.BadModule) a b = absurd (bad_good b t.module a.0)
  agree_module (Ok t) (Err (error.Limit n q)) a b = absurd (good_passes t n q a.0 a.1 b)
  agree_module (Err (error.Missing p)) (Err error.ReadFault) a b = inr (inl tt)
  agree_module (Err (error.Missing p)) (Err error.NoMemory) a b = inr (inl tt)
  agree_module (Err (error.Missing p)) (Ok u) a b = absurd (a.0 (there b.0.0 b.0.1))
  agree_module (Err (error.Missing p)) (Err (error.Missing q)) a b = inr (inr (same_missing p q a.1 b.1))
  agree_module (Err (error.Missing p)) (Err error.NoModule) a b = absurd (a.0 b.0)
  agree_module (Err (error.Missing p)) (Err error.BadModule) a b = absurd (a.0 (there b.0 b.1))
  agree_module (Err (error.Missing p)) (Err (error.Limit n q)) a b = let k = passes_told n q b in absurd (a.0 (there k.0 k.1))
  agree_module (Err error.NoModule) (Err error.ReadFault) a b = inr (inl tt)
  agree_module (Err error.NoModule) (Err error.NoMemory) a b = inr (inl tt)
  agree_module (Err error.NoModule) (Ok u) a b = absurd (none_or (told_module m root) b.0.0 a.1 b.0.1)
  agree_module (Err error.NoModule) (Err (error.Missing q)) a b = absurd (b.0 a.0)
  agree_module (Err error.NoModule) (Err error.NoModule) a b = inr (inr refl)
  agree_module (Err error.NoModule) (Err error.BadModule) a b = absurd (none_or (told_module m root) b.0 a.1 b.1)
  agree_module (Err error.NoModule) (Err (error.Limit n q)) a b = let k = passes_told n q b in absurd (none_or (told_module m root) k.0 a.1 k.1)
  agree_module (Err error.BadModule) (Err error.ReadFault) a b = inr (inl tt)
  agree_module (Err error.BadModule) (Err error.NoMemory) a b = inr (inl tt)
  agree_module (Err error.BadModule) (Ok u) a b = absurd (bad_good a u.module b.0)
  agree_module (Err error.BadModule) (Err (error.Missing q)) a b = absurd (b.0 (there a.0 a.1))
  agree_module (Err error.BadModule) (Err error.NoModule) a b = absurd (none_or (told_module m root) a.0 b.1 a.1)
  agree_module (Err error.BadModule) (Err error.BadModule) a b = inr (inr refl)
  agree_module (Err error.BadModule) (Err (error.Limit n q)) a b = absurd (bad_passes n q a b)
  agree_module (Err (error.Limit l p)) (Err error.ReadFault) a b = inr (inl tt)
  agree_module (Err (error.Limit l p)) (Err error.NoMemory) a b = inr (inl tt)
  agree_module (Err (error.Limit l p)) (Ok u) a b = absurd (good_passes u l p b.0 b.1 a)
  agree_module (Err (error.Limit l p)) (Err (error.Missing q)) a b = let k = passes_told l p a in absurd (b.0 (there k.0 k.1))
  agree_module (Err (error.Limit l p)) (Err error.NoModule) a b = let k = passes_told l p a in absurd (none_or (told_module m root) k.0 b.1 k.1)
  agree_module (Err (error.Limit l p)) (Err error.BadModule) a b = absurd (bad_passes l p b a)
  agree_module (Err (error.Limit l p)) (Err (error.Limit n q)) a b = inr (inr (no_pair (l, p) (n, q) (one_pass l n p q a b)))
