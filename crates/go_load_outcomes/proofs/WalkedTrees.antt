-- What was walked whole, where no count passes its number, is a tree.
use Rattle.std.proofs.Common.{◌≡◌, ◌⊎◌, ◌≤◌, ◌+◌, ℕ, Bool, true, false, nat_le, List, [], ◌∷◌, ◌++◌, length, map, Option, Some, None, refl, sym, ap, ◌∙◌, subst, inl, inr, arith, length-append}
use Rattle.std.proofs.lemmas.Bool.Decides.{nat_tests}
use Rattle.std.specs.Prelude.{if◌then◌else◌}
use Rattle.go_base.specs.Lists.{Each, Has}
use Rattle.go_existence.proofs.FiniteSets.{has_left, has_right}
use Rattle.go_load.proofs.FolderEntries.{folder_under, walked_element}
use Rattle.go_load.specs.Names.{under}
use Rattle.go_load.specs.Walk.{Event, IsFolder, Refusal, Walked, count_with, counts_with, event, events_of, file_events, file_of, files_of, first_refusal, folder_event, next, no_counts, package_events, start, sub, top}
use Rattle.go_load.specs.declared.kind.TreeKind.{TreeKind}
use Rattle.go_model.specs.declared.files.tree.LimitName.{LimitName}
use Rattle.go_model.specs.declared.files.tree.LimitName.TheVariants as limit
use Rattle.go_model.specs.declared.files.tree.TreeFile.{TreeFile}
use Rattle.go_model.specs.files.Trees.{IsFolderPath, IsTreeFile, most}
use Rattle.go_outside.specs.Paths.{Path}
use Rattle.go_outside.specs.Stores.{Contents}

-- ---- how many files count

abbrev files_by : LimitName → ℕ → ℕ
files_by limit.Files n = n
files_by limit.FileBytes n = 0
files_by limit.Bytes n = 0
files_by limit.Packages n = 0
files_by limit.Folders n = 0

abbrev files_in : List Event → ℕ
files_in [] = 0
files_in (e ∷ es) = files_by e.limit e.amount + files_in es

fits_by : (b : Bool) (c : _) (e : Event) (rest : Option Refusal) → nat_le (count_with c e.limit e.amount) (most e.limit) ≡ b → (if b then rest else Some (e.limit, e.path)) ≡ None → (count_with c e.limit e.amount ≤ most e.limit) × (rest ≡ None)
fits_by true c e rest f h = (grind (arith, nat_tests, f), h)
fits_by false c e rest f h = absurd (some_none h)
  where
    some_none : {r : Refusal} → ◌≡◌ {A = Option Refusal} (Some r) None → ⊥
    some_none g = cc

fits : (c : _) (e : Event) (es : List Event) → first_refusal c (e ∷ es) ≡ None → (count_with c e.limit e.amount ≤ most e.limit) × (first_refusal (counts_with c e.limit e.amount) es ≡ None)
fits c e es h = fits_by (nat_le (count_with c e.limit e.amount) (most e.limit)) c e (first_refusal (counts_with c e.limit e.amount) es) refl h

counted : (c : _) (l : LimitName) (n : ℕ) → count_with c l n ≤ most l → c.files ≤ most limit.Files → ((counts_with c l n).files ≡ c.files + files_by l n) × ((counts_with c l n).files ≤ most limit.Files)
counted c limit.Files n f h = (refl, f)
counted c limit.FileBytes n f h = (omega arith, h)
counted c limit.Bytes n f h = (omega arith, h)
counted c limit.Packages n f h = (omega arith, h)
counted c limit.Folders n f h = (omega arith, h)

few_files : (c : _) (es : List Event) → first_refusal c es ≡ None → c.files ≤ most limit.Files → c.files + files_in es ≤ most limit.Files
few_files c [] e h = omega (arith, h)
few_files c (x ∷ es) e h =
    let f = fits c x es e in
    let k = counted c x.limit x.amount f.0 h in
    let r = few_files (counts_with c x.limit x.amount) es f.1 k.1 in
    let s = k.0 in omega (arith, r, s)

-- ---- how large a file is

small_event : (c : _) (es : List Event) (e : Event) → first_refusal c es ≡ None → Has es e → e.limit ≡ limit.FileBytes → e.amount ≤ most limit.FileBytes
small_event c [] e h k is = absurd k
small_event c (x ∷ es) e h (inl s) is = subst (λ (l : LimitName). count_with c l e.amount ≤ most l) is (subst (λ (y : Event). count_with c y.limit y.amount ≤ most y.limit) s (fits c x es h).0)
small_event c (x ∷ es) e h (inr k) is = small_event (counts_with c x.limit x.amount) es e (fits c x es h).1 k is

-- ---- the events of files

abbrev bytes_event : TreeFile → Event
bytes_event f = event limit.FileBytes (under f.folder f.name) (length f.bytes)

in_file_events : (fs : List TreeFile) (f : TreeFile) → Has fs f → Has (file_events fs) (bytes_event f)
in_file_events [] f h = absurd h
in_file_events (g ∷ fs) f (inl e) = inr (inl (ap bytes_event e))
in_file_events (g ∷ fs) f (inr h) = inr (inr (inr (in_file_events fs f h)))

files_joined : (xs ys : List Event) → files_in (xs ++ ys) ≡ files_in xs + files_in ys
files_joined [] ys = omega arith
files_joined (x ∷ xs) ys = let r = files_joined xs ys in omega (arith, r)

as_many : (fs : List TreeFile) → files_in (file_events fs) ≡ length fs
as_many [] = refl
as_many (f ∷ fs) = let r = as_many fs in omega (arith, r)

no_file : (folder : Path) (fs : List TreeFile) → files_in (package_events folder fs) ≡ 0
no_file folder [] = refl
no_file folder (f ∷ fs) = refl

folder_files : (folder : Path) (fs : List TreeFile) → files_in (events_of folder fs) ≡ length fs
folder_files folder fs = let a = files_joined (package_events folder fs) (file_events fs) in let b = no_file folder fs in let c = as_many fs in omega (arith, a, b, c)

-- ---- what was walked

module _ (m : Contents) (tree : TreeKind) (root : Path) where
  folder_path_of : (f : Path) → IsFolder m tree root f → IsFolderPath f
  folder_path_of f top = inl refl
  folder_path_of f (sub folder name is c) = folder_under folder name (walked_element name c.walked) (folder_path_of folder is)

  made_in : (folder : Path) (names : List Path) (f : TreeFile) → Has (files_of m root folder names) f → f.folder ≡ folder
  made_in folder [] f h = absurd h
  made_in folder (n ∷ ns) f (inl e) = ap (λ (x : TreeFile). x.folder) (sym e)
  made_in folder (n ∷ ns) f (inr h) = made_in folder ns f h

  walked_count : {listed : List Path} {files : List TreeFile} {es : List Event} → Walked m tree root listed files es → files_in es ≡ length files
  walked_count start = refl
  walked_count (next listed files es folder names w n c) =
      let fs = files_of m root folder names in
      let a = walked_count w in let b = files_joined es (events_of folder fs) in let d = folder_files folder fs in let e = length-append files fs in
      omega (arith, a, b, d, e)

  -- a file that was walked: its folder, and its event
  record IsWalked (es : List Event) (f : TreeFile) : Type 0 where
    placed : IsFolderPath f.folder
    counts : Has es (bytes_event f)

  split_files : (xs ys : List TreeFile) (f : TreeFile) → Has (xs ++ ys) f → Has xs f ⊎ Has ys f
  split_files [] ys f h = inr h
  split_files (x ∷ xs) ys f (inl e) = inl (inl e)
  split_files (x ∷ xs) ys f (inr h) = elim (split_files xs ys f h) [ inl a ↦ inl (inr a) | inr b ↦ inr b ]

  walked_file : {listed : List Path} {files : List TreeFile} {es : List Event} → Walked m tree root listed files es → (f : TreeFile) → Has files f → IsWalked es f
  walked_file start f h = absurd h
  walked_file (next listed files es folder names w n c) f h =
      let fs = files_of m root folder names in
      elim (split_files files fs f h) [
        | inl k ↦ (let r = walked_file w f k in record { placed = r.placed; counts = has_left es (events_of folder fs) (bytes_event f) r.counts })
        | inr k ↦ record {
          placed = subst IsFolderPath (sym (made_in folder names f k)) (folder_path_of folder n.is);
          counts = has_right es (events_of folder fs) (bytes_event f) (inr (has_right (package_events folder fs) (file_events fs) (bytes_event f) (in_file_events fs f k)));
        }
      ]

  each_of : (fs : List TreeFile) → ((f : TreeFile) → Has fs f → IsTreeFile f) → Each IsTreeFile fs
  each_of [] h = tt
  each_of (f ∷ fs) h = (h f (inl refl), each_of fs (λ g k. h g (inr k)))

  module _ (listed : List Path) (files : List TreeFile) (es : List Event) (w : Walked m tree root listed files es) (none : first_refusal no_counts es ≡ None) where
    pub few : length files ≤ most limit.Files
    few = let a = few_files no_counts es none (omega arith) in let b = walked_count w in omega (arith, a, b)

    pub held : Each IsTreeFile files
    held = each_of files (λ f h. let k = walked_file w f h in record { placed = k.placed; small = small_event no_counts es (bytes_event f) none k.counts refl })
