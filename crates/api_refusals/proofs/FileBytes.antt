-- The bytes of the first file with a path, file by file.
use Rattle.std.proofs.Common.{◌≡◌, ℕ, ◌+◌, ◌<◌, ◌≤◌, Bool, true, false, List, [], ◌∷◌, length, get_or, drop, if◌then◌else◌, sym, ap, ◌∙◌}
use Rattle.std.specs.Prelude.{bytes_eq}
use Rattle.std.proofs.lemmas.List.{drop_more}
use Rattle.go_base.proofs.Lists.{drop_past}
use Rattle.go_model.specs.declared.files.tree.TreeFile.{TreeFile}
use Rattle.api_refusals.specs.Places.{bytes_at, file_path}

module _ (files : List TreeFile) (i : ℕ) (file : TreeFile) (path : List ℕ) (within : i < length files) (is : file ≡ get_or files i file) where
  from_here : bytes_at (drop i files) path ≡ (if bytes_eq (file_path file) path then file.bytes else bytes_at (drop (i + 1) files) path)
  from_here = ap (λ (w : List TreeFile). bytes_at w path) (drop_more files i file within ∙ ap (λ (f : TreeFile). f ∷ drop (i + 1) files) (sym is))

  pub bytes_here : bytes_eq (file_path file) path ≡ true → bytes_at (drop i files) path ≡ file.bytes
  bytes_here e = from_here ∙ ap (λ (b : Bool). if b then file.bytes else bytes_at (drop (i + 1) files) path) e

  pub bytes_later : bytes_eq (file_path file) path ≡ false → bytes_at (drop i files) path ≡ bytes_at (drop (i + 1) files) path
  bytes_later e = from_here ∙ ap (λ (b : Bool). if b then file.bytes else bytes_at (drop (i + 1) files) path) e

pub bytes_nowhere : (files : List TreeFile) (i : ℕ) (path : List ℕ) → length files ≤ i → bytes_at (drop i files) path ≡ []
bytes_nowhere files i path h = ap (λ (w : List TreeFile). bytes_at w path) (drop_past i files h)
