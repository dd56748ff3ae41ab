-- The paths that the files of a unit need.
use Rattle.std.proofs.Common.{◌≡◌, ℕ, Bool, true, false, List, [], ◌∷◌, refl, sym, subst, inl, inr, if◌then◌else◌}
use mathlib.Core.Bool.{true≢false}
use Rattle.std.specs.BTreeSet.{insert_key}
use Rattle.go_base.specs.Lists.{Has}
use Rattle.go_base.specs.Growing.{Grows}
use Rattle.go_imports.proofs.GrowingSets.{order, texts_tie, grows_inserted}
use Rattle.go_units.specs.UnitFacts.{with_import, with_imports, with_files, needed_by}
use Rattle.go_units.specs.declared.unit.UnitFile.{UnitFile}
use Rattle.go_units.specs.declared.unit.UsedImport.{UsedImport}

abbrev pub IsNeededImport : UsedImport → List ℕ → Type 0
IsNeededImport i path = (i.found ≡ true) × (i.path ≡ path)

abbrev pub IsNeededIn : UnitFile → List ℕ → Type 0
IsNeededIn f path = (i : UsedImport) × Has f.imports i × IsNeededImport i path

import_by : (paths : List (List ℕ)) (key : List ℕ) (b : Bool) → Grows (λ (x : List ℕ). (b ≡ true) × (key ≡ x)) paths (if b then insert_key order paths key else paths)
import_by paths key true =
    let g = grows_inserted order texts_tie paths (insert_key order paths key) key refl in
    record { sound = λ x h. elim (g.sound x h) [ inl o ↦ inl o | inr e ↦ inr (refl, e) ]; kept = g.kept; complete = λ x p. g.complete x p.1 }
import_by paths key false = record { sound = λ x h. inl h; kept = λ x h. h; complete = λ x p. absurd (true≢false (sym p.0)) }

imports_grow : (paths : List (List ℕ)) (is : List UsedImport) → Grows (λ (x : List ℕ). (i : UsedImport) × Has is i × IsNeededImport i x) paths (with_imports paths is)
imports_grow paths [] = record { sound = λ x h. inl h; kept = λ x h. h; complete = λ x p. absurd p.1 }
imports_grow paths (i ∷ is) =
    let one = import_by paths i.path i.found in
    let rest = imports_grow (with_import paths i) is in
    record {
      sound = λ x h. elim (rest.sound x h) [ inl k ↦ elim (one.sound x k) [ inl o ↦ inl o | inr p ↦ inr (i, inl refl, p) ] | inr p ↦ inr (p.0, inr p.1, p.2) ];
      kept = λ x h. rest.kept x (one.kept x h);
      complete = λ x p. elim p.1 [ inl e ↦ rest.kept x (one.complete x (subst (λ (j : UsedImport). IsNeededImport j x) (sym e) p.2)) | inr k ↦ rest.complete x (p.0, k, p.2) ];
    }

files_grow : (paths : List (List ℕ)) (fs : List UnitFile) → Grows (λ (x : List ℕ). (f : UnitFile) × Has fs f × IsNeededIn f x) paths (with_files paths fs)
files_grow paths [] = record { sound = λ x h. inl h; kept = λ x h. h; complete = λ x p. absurd p.1 }
files_grow paths (f ∷ fs) =
    let one = imports_grow paths f.imports in
    let rest = files_grow (with_imports paths f.imports) fs in
    record {
      sound = λ x h. elim (rest.sound x h) [ inl k ↦ elim (one.sound x k) [ inl o ↦ inl o | inr p ↦ inr (f, inl refl, p) ] | inr p ↦ inr (p.0, inr p.1, p.2) ];
      kept = λ x h. rest.kept x (one.kept x h);
      complete = λ x p. elim p.1 [ inl e ↦ rest.kept x (one.complete x (subst (λ (g : UnitFile). IsNeededIn g x) (sym e) p.2)) | inr k ↦ rest.complete x (p.0, k, p.2) ];
    }

none_old : (P : List ℕ → Type 0) (new : List (List ℕ)) → Grows P [] new → (x : List ℕ) → Has new x → P x
none_old P new g x h = elim (g.sound x h) [ inl never ↦ absurd never | inr p ↦ p ]

-- a path is needed exactly where a file has a found import with it
pub needed_found : (fs : List UnitFile) (path : List ℕ) → Has (needed_by fs) path → (f : UnitFile) × Has fs f × IsNeededIn f path
needed_found fs path h = none_old (λ (x : List ℕ). (f : UnitFile) × Has fs f × IsNeededIn f x) (needed_by fs) (files_grow [] fs) path h

pub found_needed : (fs : List UnitFile) (path : List ℕ) → (f : UnitFile) × Has fs f × IsNeededIn f path → Has (needed_by fs) path
found_needed fs path p = (files_grow [] fs).complete path p
