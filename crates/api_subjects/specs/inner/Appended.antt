-- What the functions that append texts answer.
use Rattle.std.specs.Prelude.{◌≡◌, ℕ, List, [], ◌∷◌, ◌++◌}
use Rattle.go_model.specs.declared.types.term.Field.{Field, fold-Field}
use Rattle.go_model.specs.declared.types.term.Method.{Method, fold-Method}
use Rattle.go_model.specs.declared.types.term.Signature.{Signature, fold-Signature}
use Rattle.api_features.specs.TypeTexts.{Shown, signature_step}
use Rattle.api_subjects.specs.TypeTexts.{behind, field_text, layer_text, method_text}
use Rattle.api_subjects.specs.inner.Quoting.{quoted}

-- a text with the property went
abbrev pub Appends : (List ℕ → Type 0) → List ℕ → List ℕ → Type 0
Appends P old new = (text : List ℕ) × P text × (new ≡ old ++ text)

-- the texts of parts of types
abbrev pub field_of : Field → List ℕ
field_of = fold-Field Shown (List ℕ) (List ℕ) (List ℕ) layer_text (field_text quoted) method_text signature_step

abbrev pub method_of : Method → List ℕ
method_of = fold-Method Shown (List ℕ) (List ℕ) (List ℕ) layer_text (field_text quoted) method_text signature_step

abbrev pub signature_of : Signature → List ℕ
signature_of = fold-Signature Shown (List ℕ) (List ℕ) (List ℕ) layer_text (field_text quoted) method_text signature_step

-- texts, the first behind one separator and each other one behind another
abbrev pub separated : List ℕ → List ℕ → List (List ℕ) → List ℕ
separated between first [] = []
separated between first (x ∷ xs) = first ++ (x ++ behind between xs)
