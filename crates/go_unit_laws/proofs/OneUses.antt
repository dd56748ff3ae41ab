-- The used imports of a file are one list.
use Rattle.std.proofs.Common.{◌≡◌, ℕ, Bool, Option, Some, None, List, [], ◌∷◌, ◌++◌, refl, sym, ap, ◌∙◌, subst, inl, inr}
use Rattle.go_base.specs.Growing.{Grows}
use Rattle.go_base.specs.Lists.{Has}
use Rattle.go_imports.specs.UsedImports.{AreUsed, none, used, unused, IsNamed, IsQualifierIn, named_as}
use Rattle.go_imports.specs.declared.used_imports.Import.{Import}
use Rattle.go_imports.specs.declared.used_imports.NamedImport.{NamedImport}
use Rattle.go_syntax.specs.declared.declaration.Decl.{Decl}
use Rattle.go_syntax.specs.declared.declaration.File.{File}
use Rattle.go_syntax.specs.declared.declaration.ImportSpec.{ImportSpec}
use Rattle.go_unit_laws.proofs.Snocs.{gives_both, not_nothing, same_front, same_last}
use Rattle.go_units.proofs.FolderLookups.{at_once}
use Rattle.go_units.specs.Folders.{AreOrdered, IsImportedName, folder_of}
use Rattle.go_units.specs.PackageUses.{GivesImport, UsesIn}
use Rattle.go_units.specs.declared.folder.Folder.{Folder}

some : (x y : List ℕ) → ◌≡◌ {A = Option (List ℕ)} (Some x) (Some y) → x ≡ y
some x y e = cc

none_some : (x : List ℕ) → ◌≡◌ {A = Option (List ℕ)} None (Some x) → ⊥
none_some x e = cc

-- ---- which imports are used

-- an import is named by one qualifier
one_name : (imports before before' : List Import) (i : Import) (s t : List ℕ) → IsNamed imports before i s → IsNamed imports before' i t → s ≡ t
one_name imports before before' i s t (inl a) (inl b) = some s t (sym a ∙ b)
one_name imports before before' i s t (inl a) (inr b) = absurd (none_some s (sym b.0.0 ∙ a))
one_name imports before before' i s t (inr a) (inl b) = absurd (none_some t (sym a.0.0 ∙ b))
one_name imports before before' i s t (inr a) (inr b) = sym a.0.1 ∙ b.0.1

module _ (imports : List Import) (qs rs : List (List ℕ)) (to : (t : List ℕ) → Has qs t → Has rs t) (from : (t : List ℕ) → Has rs t → Has qs t) where
  pub one_used : {a b : List Import} {us vs : List NamedImport} → AreUsed imports qs a us → AreUsed imports rs b vs → a ≡ b → us ≡ vs
  one_used none none e = refl
  one_used none (used {before = b} j t d k) e = absurd (not_nothing b j e)
  one_used none (unused {before = b} j d k) e = absurd (not_nothing b j e)
  one_used (used {before = a} i s c h) none e = absurd (not_nothing a i (sym e))
  one_used (unused {before = a} i c h) none e = absurd (not_nothing a i (sym e))
  one_used (used {before = a} {uses = us} i s c h) (used {before = b} {uses = vs} j t d k) e =
      let before : a ≡ b = same_front a b i j e in
      let here : i ≡ j = same_last a b i j e in
      let text : s ≡ t = one_name imports a b j s t (subst (λ (w : Import). IsNamed imports a w s) here h.1) k.1 in
      let rest : us ≡ vs = one_used c d before in
      (λ n. rest n ++ named_as (text n) (here n) ∷ [])
  one_used (used {before = a} i s c h) (unused {before = b} j d k) e =
      absurd (k s (to s h.0, subst (λ (w : Import). IsNamed imports b w s) (same_last a b i j e) (subst (λ (w : List Import). IsNamed imports w i s) (same_front a b i j e) h.1)))
  one_used (unused {before = a} i c h) (used {before = b} j t d k) e =
      absurd (h t (from t k.0, subst (λ (w : Import). IsNamed imports a w t) (sym (same_last a b i j e)) (subst (λ (w : List Import). IsNamed imports w j t) (sym (same_front a b i j e)) k.1)))
  one_used (unused {before = a} i c h) (unused {before = b} j d k) e = one_used c d (same_front a b i j e)

-- ---- the imports of a file

module _ (module_path : List ℕ) (folders : List Folder) (ordered : AreOrdered folders) (from_std : Bool) where
  one_imported_name : (path : List ℕ) (a b : Option (List ℕ)) → IsImportedName module_path folders from_std path a → IsImportedName module_path folders from_std path b → a ≡ b
  one_imported_name path a b (inl p) (inl q) =
      let same : q.0 ≡ p.0 = at_once folders path p.0 q.0 ordered (p.1.within, p.1.same) (q.1.within, q.1.same) in
      sym p.2 ∙ ap (λ (n : ℕ). (folder_of folders n).package_name) (sym same) ∙ q.2
  one_imported_name path a b (inl p) (inr q) = absurd (q.0 p.0 p.1)
  one_imported_name path a b (inr p) (inl q) = absurd (p.0 q.0 q.1)
  one_imported_name path a b (inr p) (inr q) = p.1 ∙ sym q.1

  one_import : (spec : ImportSpec) (r s : Option Import) → GivesImport module_path folders from_std spec r → GivesImport module_path folders from_std spec s → r ≡ s
  one_import spec None s a b = absurd a
  one_import spec (Some i) None a b = absurd b
  one_import spec (Some i) (Some j) a b =
      let written : i.written ≡ j.written = a.written ∙ sym b.written in
      let package_name : i.package_name ≡ j.package_name = one_imported_name spec.path i.package_name j.package_name a.package_name b.package_name in
      let path : i.path ≡ j.path = a.path ∙ sym b.path in
      let place : i.place ≡ j.place = a.place ∙ sym b.place in
      (λ n. Some (record { written = written n; package_name = package_name n; path = path n; place = place n }))

  qualifier_as : (ds es : List (List ℕ)) (decls : List Decl) (t : List ℕ) → ((x : List ℕ) → Has es x → Has ds x) → IsQualifierIn ds decls t → IsQualifierIn es decls t
  qualifier_as ds es decls t back q = let k = q.2.2 in (q.0, q.1, (q.2.0, q.2.1, record { selects = k.selects; name = k.name; some = k.some; fresh = λ m. k.fresh (back t m) }))

  members : (P Q : List ℕ → Type 0) (xs ys : List (List ℕ)) → ((t : List ℕ) → P t → Q t) → Grows P [] xs → Grows Q [] ys → (t : List ℕ) → Has xs t → Has ys t
  members P Q xs ys to g h t m = elim (g.sound t m) [ inl never ↦ absurd never | inr p ↦ h.complete t (to t p) ]

  -- where two lists hold the same declared names, the used imports are one list
  pub one_uses : (ds es : List (List ℕ)) (outline : File) (us vs : List NamedImport) → ((x : List ℕ) → Has ds x → Has es x) → ((x : List ℕ) → Has es x → Has ds x)
      → UsesIn module_path folders from_std ds outline us → UsesIn module_path folders from_std es outline vs → us ≡ vs
  one_uses ds es outline us vs to from a b =
      let imports : a.all ≡ b.all = gives_both (GivesImport module_path folders from_std) (GivesImport module_path folders from_std) one_import outline.imports a.all b.all a.given b.given in
      let here : AreUsed b.all a.names b.all us = subst (λ (w : List Import). AreUsed w a.names w us) imports a.used in
      one_used b.all a.names b.names
      (members (IsQualifierIn ds outline.decls) (IsQualifierIn es outline.decls) a.names b.names (λ t q. qualifier_as ds es outline.decls t from q) a.qualify b.qualify)
      (members (IsQualifierIn es outline.decls) (IsQualifierIn ds outline.decls) b.names a.names (λ t q. qualifier_as es ds outline.decls t to q) b.qualify a.qualify)
      here b.used refl
