-- Texts of types, and of changes between them.
use Rattle.std.proofs.Common.{◌≡◌, ℕ, List, [], ◌++◌, refl, codes}
use Rattle.go_model.specs.declared.types.term.Term.{Term}
use Rattle.api_subjects.specs.Subjects.{IsChange}
use Rattle.api_subjects.specs.TypeTexts.{IsTypeText, type_text}
use Rattle.api_subjects.specs.inner.Quoting.{quoted}
use Rattle.api_subjects.proofs.Quotes.{quotes}
use Rattle.api_features.proofs.TypeParts.{three_pieces}

pub type_so : (t : Term) (text : List ℕ) → text ≡ type_text quoted t → IsTypeText t text
type_so t text e = (quoted, quotes, e)

pub type_changed : (a b : Term) (one two three : List ℕ) → one ≡ type_text quoted a → two ≡ one ++ codes " to " → three ≡ two ++ type_text quoted b → IsChange (IsTypeText a) (IsTypeText b) three
type_changed a b one two three p q r =
    (type_text quoted a, type_text quoted b, type_so a (type_text quoted a) refl, type_so b (type_text quoted b) refl, three_pieces (type_text quoted a) (codes " to ") (type_text quoted b) [] one two three p q r)
