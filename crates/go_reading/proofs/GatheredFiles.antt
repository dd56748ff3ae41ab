-- Files that go to the groups of their paths.
use Rattle.std.proofs.Common.{◌≡◌, ℕ, ◌+◌, ◌<◌, ◌≤◌, Bool, true, false, cond, Option, Some, List, [], ◌∷◌, ◌++◌, length, take, get_or, refl, sym, ap, ◌∙◌, subst, append_assoc}
use Rattle.std.specs.Prelude.{unwrap_or, bytes_eq}
use Rattle.std.proofs.lemmas.List.{take_more, append-nil}
use Rattle.std.proofs.lemmas.List.Elements.{filter-append}
use Rattle.std.proofs.lemmas.Slice.Eq.{bytes_eq-Decides}
use Rattle.go_base.proofs.Lists.{take_past}
use Rattle.go_model.specs.declared.files.tree.TreeFile.{TreeFile}
use Rattle.go_reading.specs.TreeFolders.{import_path}
use Rattle.go_reading.specs.inner.Gathering.{IsKept, standing_at, Gathers}
use Rattle.go_reading.specs.inner.Groups.{Groups, group, files_in, listed, AreFull}

pub listed_last : (xs : List TreeFile) (f : TreeFile) → Some (xs ++ f ∷ []) ≡ listed (xs ++ f ∷ [])
listed_last [] f = refl
listed_last (x ∷ xs) f = refl

-- what a group has after a file was put there, or wasn't
one_more : (b : Bool) (o : Option (List TreeFile)) (f : TreeFile) → unwrap_or (cond b (Some (unwrap_or o [] ++ f ∷ [])) o) [] ≡ unwrap_or o [] ++ cond b (f ∷ []) []
one_more true o f = refl
one_more false o f = sym (append-nil (unwrap_or o []))

still_full : (b : Bool) (o : Option (List TreeFile)) (f : TreeFile) → o ≡ listed (unwrap_or o []) → cond b (Some (unwrap_or o [] ++ f ∷ [])) o ≡ listed (unwrap_or (cond b (Some (unwrap_or o [] ++ f ∷ [])) o) [])
still_full true o f h = listed_last (unwrap_or o []) f
still_full false o f h = h

module _ (module_path : List ℕ) (barred : List (List ℕ)) (from_std : Bool) where
  pub gathers_none : (groups : Groups) → Gathers module_path barred from_std [] groups groups
  gathers_none groups = record { more = λ q k. sym (append-nil (files_in groups q)); others = λ q k. refl }

  pub gathers_next : (files : List TreeFile) (i : ℕ) (f : TreeFile) (old mid new : Groups) → i < length files → f ≡ get_or files i f
      → Gathers module_path barred from_std (take i files) old mid → Gathers module_path barred from_std (f ∷ []) mid new → Gathers module_path barred from_std (take (i + 1) files) old new
  gathers_next files i f old mid new h is g k = record {
    more = λ q w.
        k.more q w
        ∙ ap (λ (xs : List TreeFile). xs ++ standing_at module_path from_std q (f ∷ [])) (g.more q w)
        ∙ append_assoc (files_in old q) (standing_at module_path from_std q (take i files)) (standing_at module_path from_std q (f ∷ []))
        ∙ ap (λ (xs : List TreeFile). files_in old q ++ xs)
        (sym (filter-append (λ (x : TreeFile). bytes_eq (import_path module_path from_std x.folder) q) (take i files) (f ∷ []))
        ∙ ap (standing_at module_path from_std q) (sym (take_more files i f h ∙ ap (λ (z : TreeFile). take i files ++ z ∷ []) (sym is))));
    others = λ q n. k.others q n ∙ g.others q n;
  }

  pub gathers_whole : (files : List TreeFile) (i : ℕ) (old new : Groups) → length files ≤ i → Gathers module_path barred from_std (take i files) old new → Gathers module_path barred from_std files old new
  gathers_whole files i old new h g = subst (λ (xs : List TreeFile). Gathers module_path barred from_std xs old new) (take_past i files h) g

  module _ (file : TreeFile) (path : List ℕ) (is : path ≡ import_path module_path from_std file.folder) where
    same_test : (q : List ℕ) → bytes_eq path q ≡ bytes_eq (import_path module_path from_std file.folder) q
    same_test q = ap (λ (w : List ℕ). bytes_eq w q) is

    -- the file is one of an ignored folder
    skipped_by : (q : List ℕ) (b : Bool) → bytes_eq path q ≡ b → (IsKept barred from_std path → ⊥) → IsKept barred from_std q → (xs : List TreeFile) → xs ≡ xs ++ cond b (file ∷ []) []
    skipped_by q true e n k xs = absurd (n (subst (IsKept barred from_std) (sym ((bytes_eq-Decides path q).0 e)) k))
    skipped_by q false e n k xs = sym (append-nil xs)

    pub gathers_skipped : (groups : Groups) → (IsKept barred from_std path → ⊥) → Gathers module_path barred from_std (file ∷ []) groups groups
    gathers_skipped groups n = record {
      more = λ q k. skipped_by q (bytes_eq path q) refl n k (files_in groups q) ∙ ap (λ (b : Bool). files_in groups q ++ cond b (file ∷ []) []) (same_test q);
      others = λ q k. refl;
    }

    module _ (old new : Groups) (given : (q : List ℕ) → group new q ≡ cond (bytes_eq path q) (Some (files_in old q ++ file ∷ [])) (group old q)) where
      other_by : (q : List ℕ) (b : Bool) → bytes_eq path q ≡ b → IsKept barred from_std path → (IsKept barred from_std q → ⊥) → unwrap_or (cond b (Some (files_in old q ++ file ∷ [])) (group old q)) [] ≡ files_in old q
      other_by q true e k n = absurd (n (subst (IsKept barred from_std) ((bytes_eq-Decides path q).0 e) k))
      other_by q false e k n = refl

      pub gathers_added : IsKept barred from_std path → Gathers module_path barred from_std (file ∷ []) old new
      gathers_added k = record {
        more = λ q w. ap (λ (o : Option (List TreeFile)). unwrap_or o []) (given q) ∙ one_more (bytes_eq path q) (group old q) file ∙ ap (λ (b : Bool). files_in old q ++ cond b (file ∷ []) []) (same_test q);
        others = λ q n. ap (λ (o : Option (List TreeFile)). unwrap_or o []) (given q) ∙ other_by q (bytes_eq path q) refl k n;
      }

      pub full_added : AreFull old → AreFull new
      full_added full q = given q ∙ still_full (bytes_eq path q) (group old q) file (full q) ∙ ap (λ (o : Option (List TreeFile)). listed (unwrap_or o [])) (sym (given q))
