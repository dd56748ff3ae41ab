-- The name that the headers of a folder tell is the one of its outlines.
use Rattle.std.proofs.Common.{◌≡◌, inl, inr, ℕ, Option, Some, None, List, [], ◌∷◌, ◌++◌, refl, sym, ap, subst}
use Rattle.go_imports.specs.Gives.{Gives, next, none, optional}
use Rattle.go_imports.specs.declared.package_files.SourceFile.{SourceFile}
use Rattle.go_model.specs.declared.files.platform.Platform.{Platform}
use Rattle.go_model.specs.declared.files.tree.TreeFile.{TreeFile}
use Rattle.go_reading.specs.ChosenFiles.{GivesSource}
use Rattle.go_reading.specs.FolderReadings.{IsPackageName}
use Rattle.go_reading.proofs.PackageNames.{left_not_chosen, one_name}
use Rattle.go_tags.proofs.OneHeader.{cause_or_header, header_once}
use Rattle.go_package_clauses.proofs.Clauses.{clause_told}
use Rattle.go_package_clauses.specs.OutlineNames.{outlined_name}

-- the first name, or else the second
abbrev first_or : Option (List ℕ) → Option (List ℕ) → Option (List ℕ)
first_or None other = other
first_or (Some name) other = Some name

module _ (p : Platform) where
  -- one file more
  name_more : (files : List TreeFile) (x : TreeFile) (a b : Option (List ℕ)) → IsPackageName p files a → IsPackageName p (x ∷ []) b → IsPackageName p (files ++ x ∷ []) (first_or a b)
  name_more [] x a b e n = subst (λ o. IsPackageName p (x ∷ []) (first_or o b)) (sym e) n
  name_more (f ∷ files) x a b (inl t) n = inl (t.0, t.1, ap (λ o. first_or o b) t.2)
  name_more (f ∷ files) x a b (inr t) n = inr (t.0, name_more files x a b t.1 n)

  -- the name of one file
  name_of_one : (x : TreeFile) (o : Option SourceFile) → GivesSource p x o → IsPackageName p (x ∷ []) (outlined_name (optional o))
  name_of_one x None g = inr ((λ name t. left_not_chosen header_once cause_or_header p x t.0 g t.1), refl)
  name_of_one x (Some s) g =
      let t = g.1.outline in
      inl (s.outline.«package».text, (g.0.0, g.0.1, clause_told x.bytes g.0.0 t.0 s.outline g.0.1.has t.1 t.2), refl)

  outlined_more : (sources : List SourceFile) (o : Option SourceFile) → first_or (outlined_name sources) (outlined_name (optional o)) ≡ outlined_name (sources ++ optional o)
  outlined_more [] o = refl
  outlined_more (s ∷ sources) o = refl

  names_of : {files : List TreeFile} {sources : List SourceFile} → Gives (GivesSource p) files sources → IsPackageName p files (outlined_name sources)
  names_of none = refl
  names_of (next {xs = files} {ys = sources} x o g h) = subst (IsPackageName p (files ++ x ∷ [])) (outlined_more sources o) (name_more files x (outlined_name sources) (outlined_name (optional o)) (names_of g) (name_of_one x o h))

  pub name_told : (files : List TreeFile) (sources : List SourceFile) (said : Option (List ℕ)) → Gives (GivesSource p) files sources → IsPackageName p files said → said ≡ outlined_name sources
  name_told files sources said g n = one_name header_once cause_or_header p files said (outlined_name sources) n (names_of g)
