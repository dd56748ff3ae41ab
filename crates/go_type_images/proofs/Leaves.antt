-- What is known of a type where all names pass a test.
use Rattle.std.proofs.Common.{◌≡◌, Bool, true}
use Rattle.go_base.specs.Lists.{Has}
use Rattle.go_model.specs.declared.types.names.TypeName.{TypeName}
use Rattle.go_model.specs.declared.types.term.Term.{Term, Term-F, out-Term}
use Rattle.go_type_images.specs.Leaves.{Leaves, leaves}
use Rattle.go_type_images.specs.Parts.{parts}

pub leaf : {P : TypeName → Bool} {t : Term} → Leaves P t → (n : TypeName) → out-Term t ≡ Term-F.Named n → P n ≡ true
leaf (leaves f g) = f

pub part_leaves : {P : TypeName → Bool} {t : Term} → Leaves P t → (u : Term) → Has (parts (out-Term t)) u → Leaves P u
part_leaves (leaves f g) = g
