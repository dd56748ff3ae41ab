-- The first use of an internal package, one file after another.
use Rattle.std.proofs.Common.{◌≡◌, ℕ, zero, suc, ◌+◌, ◌<◌, ◌≤◌, Some, None, List, [], ◌∷◌, length, take, drop, get_or, refl, sym, subst, inl, inr, arith}
use Rattle.go_base.specs.Lists.{Has}
use Rattle.go_imports.specs.InternalUses.{IsFirstInternalImport}
use Rattle.go_imports.proofs.Files.{each_more, each_whole}
use Rattle.go_units.specs.PackageUses.{AreFree, IsFirstInternal}
use Rattle.go_units.specs.declared.folder.Folder.{Folder}
use Rattle.go_units.specs.declared.package_uses.PackageFile.{PackageFile}
use Rattle.go_units.specs.declared.unit_error.UnitError.{UnitError}
use Rattle.go_units.specs.declared.unit_error.UnitError.TheVariants as error
use Rattle.go_units.specs.inner.Refusals.{IsInternal, InternalCause}

drop_item : {A : Type 0} (xs : List A) (i : ℕ) (x : A) → i < length xs → x ≡ get_or xs i x → drop i xs ≡ x ∷ drop (i + 1) xs
drop_item [] i x h e = absurd (omega arith)
drop_item (y ∷ xs) zero x h e = rw e refl
drop_item {A = A} (y ∷ xs) (suc i) x h e =
    let one : suc (i + 1) ≡ suc i + 1 = omega arith in
    subst (λ (n : ℕ). drop i xs ≡ x ∷ drop n (y ∷ xs)) one (drop_item xs i x (omega arith) e)

module _ (folder : Folder) (files : List PackageFile) where
  abbrev first : List PackageFile → List ℕ → ℕ → Type 0
  first fs name place = IsFirstInternal folder.path folder.from_std fs name place

  -- what is known of the files before a place
  pub record FreeTo (at : ℕ) : Type 0 where
    pub free : (f : PackageFile) → Has (take at files) f → IsFirstInternalImport folder.path folder.from_std f.uses None
    pub later : (name : List ℕ) (place : ℕ) → first (drop at files) name place → first files name place

  pub free_first : FreeTo 0
  free_first = record { free = λ f h. absurd h; later = λ name place k. k }

  pub free_next : (at : ℕ) (f : PackageFile) → at < length files → f ≡ get_or files at f → IsFirstInternalImport folder.path folder.from_std f.uses None → FreeTo at → FreeTo (at + 1)
  free_next at f h is k t = record {
    free = each_more (λ (g : PackageFile). IsFirstInternalImport folder.path folder.from_std g.uses None) files at f h is k t.free;
    later = λ name place l. t.later name place (subst (λ (fs : List PackageFile). first fs name place) (sym (drop_item files at f h is)) (inr (k, l)));
  }

  pub free_all : (at : ℕ) → length files ≤ at → FreeTo at → AreFree folder.path folder.from_std files
  free_all at h t = each_whole (λ (g : PackageFile). IsFirstInternalImport folder.path folder.from_std g.uses None) files at h t.free

  pub free_stop : (at : ℕ) (f : PackageFile) (place : ℕ) (e : UnitError) → at < length files → f ≡ get_or files at f → IsFirstInternalImport folder.path folder.from_std f.uses (Some place) → FreeTo at → IsInternal folder f.path place e → InternalCause folder files e
  free_stop at f place (error.File a fault) h is k t i = absurd i
  free_stop at f place (error.MixedNames path) h is k t i = absurd i
  free_stop at f place (error.InternalUse a p) h is k t i =
      (i.0, t.later a.file p (subst (λ (fs : List PackageFile). first fs a.file p) (sym (drop_item files at f h is)) (inl (i.1, subst (λ (q : ℕ). IsFirstInternalImport folder.path folder.from_std f.uses (Some q)) i.2 k))))
  free_stop at f place (error.Cycle path) h is k t i = absurd i
  free_stop at f place error.NoMemory h is k t i = tt
