-- Types as text with no package at hand: as lines of features write them, but a defined type with the path of its package, a struct with its fields and an interface with the signatures of its methods.
-- Public source: the types that Go's cmd/api writes; own: paths, fields, tags and the signatures of an interface's methods.
use Rattle.std.specs.Prelude.{◌≡◌, ℕ, List, [], ◌∷◌, ◌++◌, codes, if◌then◌else◌}
use Rattle.go_model.specs.declared.types.names.TypeName.{TypeName}
use Rattle.go_model.specs.declared.types.term.Term.{Term, Term-F, fold-Term}
use Rattle.go_model.specs.declared.types.term.Field.{Field-F}
use Rattle.go_model.specs.declared.types.term.Method.{Method-F}
use Rattle.api_features.specs.ConstantTexts.{IsQuoted}
use Rattle.api_features.specs.TypeTexts.{Shown, shown, signature_step, type_step}

-- a name behind its path and a dot, or alone where the path is empty, as that of `error` is
abbrev pub name_at : List ℕ → List ℕ → List ℕ
name_at [] name = name
name_at (b ∷ bs) name = (b ∷ bs) ++ codes "." ++ name

abbrev pub type_name : TypeName → List ℕ
type_name n = name_at n.path n.name

-- texts, each behind a separator
abbrev pub behind : List ℕ → List (List ℕ) → List ℕ
behind separator [] = []
behind separator (x ∷ xs) = separator ++ (x ++ behind separator xs)

-- a struct type by its fields
abbrev pub struct_text : List (List ℕ) → List ℕ
struct_text [] = codes "struct{}"
struct_text (f ∷ fs) = codes "struct{ " ++ (f ++ behind (codes "; ") fs) ++ codes " }"

-- one level of a type; the rest is as lines of features write it
abbrev pub layer_text : Term-F Shown (List ℕ) (List ℕ) (List ℕ) → Shown
layer_text (Term-F.Struct fs) = shown (struct_text fs)
layer_text l = type_step type_name l

-- a method: its name and its signature
abbrev pub method_text : Method-F Shown (List ℕ) (List ℕ) (List ℕ) → List ℕ
method_text m = m.sel.name ++ m.signature

module _ (quote : List ℕ → List ℕ) where
  -- a tag between quotes, where it isn't empty
  abbrev pub tag_text : List ℕ → List ℕ
  tag_text [] = []
  tag_text (b ∷ bs) = codes " \"" ++ quote (b ∷ bs) ++ codes "\""

  -- a field: its name and its type, or its type alone where it is embedded, and its tag
  abbrev pub field_text : Field-F Shown (List ℕ) (List ℕ) (List ℕ) → List ℕ
  field_text f = (if f.embedded then f.term.text else f.sel.name ++ codes " " ++ f.term.text) ++ tag_text f.tag

  abbrev pub shown_type : Term → Shown
  shown_type = fold-Term Shown (List ℕ) (List ℕ) (List ℕ) layer_text field_text method_text signature_step

  abbrev pub type_text : Term → List ℕ
  type_text t = (shown_type t).text

-- quotes bytes as lines of features quote strings
abbrev pub IsQuoting : (List ℕ → List ℕ) → Type 0
IsQuoting quote = (bytes : List ℕ) → IsQuoted bytes (quote bytes)

-- the text of a type
abbrev pub IsTypeText : Term → List ℕ → Type 0
IsTypeText t text = (quote : List ℕ → List ℕ) × IsQuoting quote × (text ≡ type_text quote t)
