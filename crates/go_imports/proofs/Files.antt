-- Files of a package and used imports, one after another.
use Rattle.std.proofs.Common.{◌≡◌, ℕ, zero, suc, ◌+◌, ◌<◌, ◌≤◌, Bool, Option, Some, None, List, [], ◌∷◌, ◌++◌, length, take, drop, get_or, refl, sym, ap, ◌∙◌, subst, inl, inr, arith}
use Rattle.std.proofs.lemmas.List.{drop_more, take_more}
use Rattle.go_base.specs.Lists.{Has}
use Rattle.go_base.proofs.Lists.{take_past}
use Rattle.go_imports.specs.InternalUses.{IsInternalImport, IsFirstInternalImport}
use Rattle.go_imports.specs.PackageFiles.{AreOfOnePackage}
use Rattle.go_imports.specs.inner.Files.{IsNamedAs}
use Rattle.go_imports.specs.declared.package_files.SourceFile.{SourceFile}
use Rattle.go_imports.specs.declared.used_imports.NamedImport.{NamedImport}
use Rattle.go_imports.proofs.Members.{has_at, has_back}

-- one item more of which a fact holds, or fails
pub each_more : {A : Type 0} (P : A → Type 0) (xs : List A) (i : ℕ) (x : A) → i < length xs → x ≡ get_or xs i x → P x → ((y : A) → Has (take i xs) y → P y) → (y : A) → Has (take (i + 1) xs) y → P y
each_more {A = A} P xs i x h e p before y k =
    elim (has_back (take i xs) x y (subst (λ (ys : List A). Has ys y) (take_more xs i x h ∙ ap (λ (z : A). take i xs ++ z ∷ []) (sym e)) k)) [ inl a ↦ before y a | inr s ↦ subst P s p ]

pub each_whole : {A : Type 0} (P : A → Type 0) (xs : List A) (i : ℕ) → length xs ≤ i → ((y : A) → Has (take i xs) y → P y) → (y : A) → Has xs y → P y
each_whole {A = A} P xs i h before y k = before y (subst (λ (ys : List A). Has ys y) (sym (take_past i xs h)) k)

pub has_item : {A : Type 0} (xs : List A) (i : ℕ) (x : A) → i < length xs → x ≡ get_or xs i x → Has xs x
has_item xs i x h e = subst (Has xs) (sym e) (has_at xs i x h)

-- the files are of one package where they are named as the first one
pub one_package : (files : List SourceFile) (name : List ℕ) → ((s : SourceFile) → Has files s → IsNamedAs name s) → AreOfOnePackage files
one_package files name all s t a b = all s a ∙ sym (all t b)

pub not_one : (files : List SourceFile) (first : SourceFile) (name : List ℕ) → Has files first → IsNamedAs name first → ((s : SourceFile) × Has files s × (IsNamedAs name s → ⊥)) → AreOfOnePackage files → ⊥
not_one files first name there is p one = p.2 (one p.0 first p.1 there ∙ is)

module _ (importer : List ℕ) (from_std : Bool) where
  skip : (u : NamedImport) (us : List NamedImport) (r : Option ℕ) → (IsInternalImport importer from_std u → ⊥) → IsFirstInternalImport importer from_std us r → IsFirstInternalImport importer from_std (u ∷ us) r
  skip u us None n k = (n, k)
  skip u us (Some place) n k = inr (n, k)

  -- the first barred import behind one that isn't is the first from there on
  pub first_on : (us : List NamedImport) (i : ℕ) (u : NamedImport) (r : Option ℕ) → i < length us → u ≡ get_or us i u → (IsInternalImport importer from_std u → ⊥) → IsFirstInternalImport importer from_std (drop (i + 1) us) r → IsFirstInternalImport importer from_std (drop i us) r
  first_on us i u r h e free k = subst (λ (xs : List NamedImport). IsFirstInternalImport importer from_std xs r) (sym (drop_more us i u h ∙ ap (λ (v : NamedImport). v ∷ drop (i + 1) us) (sym e))) (skip u (drop (i + 1) us) r free k)

  pub first_here : (us : List NamedImport) (i : ℕ) (u : NamedImport) → i < length us → u ≡ get_or us i u → IsInternalImport importer from_std u → IsFirstInternalImport importer from_std (drop i us) (Some u.place)
  first_here us i u h e barred = subst (λ (xs : List NamedImport). IsFirstInternalImport importer from_std xs (Some u.place)) (sym (drop_more us i u h ∙ ap (λ (v : NamedImport). v ∷ drop (i + 1) us) (sym e))) (inl (barred, refl))
