-- The files in the root of a tree, one after another; and files that are of one package.
use Rattle.std.proofs.Common.{◌≡◌, ℕ, ◌+◌, ◌<◌, ◌≤◌, Bool, true, false, cond, List, [], ◌∷◌, ◌++◌, length, take, get_or, refl, sym, ap, ◌∙◌}
use Rattle.std.specs.Prelude.{bytes_eq}
use Rattle.std.proofs.lemmas.List.{take_more, append-nil}
use Rattle.std.proofs.lemmas.List.Elements.{filter-append}
use Rattle.go_base.proofs.Lists.{take_past}
use Rattle.go_base.specs.Lists.{Has}
use Rattle.go_client_files.specs.ClientFiles.{AreOfOne, root_files}
use Rattle.go_client_files.specs.declared.parsed.ParsedFile.{ParsedFile}
use Rattle.go_client_files.specs.inner.Making.{IsNamedAs}
use Rattle.go_model.specs.declared.files.tree.TreeFile.{TreeFile}
use Rattle.go_reading.proofs.ListFacts.{map_more}
use Rattle.go_reading.specs.inner.Groups.{lent}
use denote.Ref.{Bor}

abbrev pub is_root : TreeFile → Bool
is_root f = bytes_eq f.folder []

pub root_none : (f : TreeFile) (old : List TreeFile) → bytes_eq f.folder [] ≡ false → old ≡ old ++ root_files (f ∷ [])
root_none f old e = sym (ap (λ b. old ++ cond b (f ∷ []) []) e ∙ append-nil old)

pub root_one : (f : Bor TreeFile) (old new : List (Bor TreeFile)) → bytes_eq f.now.folder [] ≡ true → new ≡ old ++ f ∷ [] → lent new ≡ lent old ++ root_files (f.now ∷ [])
root_one f old new t e = ap lent e ∙ map_more (λ (z : Bor TreeFile). z.now) old (f ∷ []) ∙ sym (ap (λ b. lent old ++ cond b (f.now ∷ []) []) t)

pub root_next : (files : List TreeFile) (i : ℕ) (f : TreeFile) (old new : List TreeFile) → i < length files → f ≡ get_or files i f → new ≡ old ++ root_files (f ∷ []) → old ≡ root_files (take i files) → new ≡ root_files (take (i + 1) files)
root_next files i f old new l is e h =
    e ∙ ap (λ (zs : List TreeFile). zs ++ root_files (f ∷ [])) h ∙ sym (ap root_files (take_more files i f l ∙ ap (λ (z : TreeFile). take i files ++ z ∷ []) (sym is)) ∙ filter-append is_root (take i files) (f ∷ []))

pub root_whole : (files : List TreeFile) (i : ℕ) (old : List TreeFile) → length files ≤ i → old ≡ root_files (take i files) → old ≡ root_files files
root_whole files i old l h = h ∙ ap root_files (take_past i files l)

-- ---- package names

pub one_package : (files : List ParsedFile) (name : List ℕ) → ((s : ParsedFile) → Has files s → IsNamedAs name s) → AreOfOne files
one_package files name all s t a b = all s a ∙ sym (all t b)

pub not_one : (files : List ParsedFile) (first : ParsedFile) (name : List ℕ) → Has files first → IsNamedAs name first → ((s : ParsedFile) × Has files s × (IsNamedAs name s → ⊥)) → AreOfOne files → ⊥
not_one files first name there is p one = p.2 (one p.0 first p.1 there ∙ is)
