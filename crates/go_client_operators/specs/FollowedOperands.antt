-- Lists of operands, of which each of the new side follows one of the old side.
-- Own: words on lists.
use Rattle.std.specs.Prelude.{Bool, List, [], ◌∷◌}
use Rattle.go_model.specs.declared.types.names.Sel.{Sel}
use Rattle.go_model.specs.declared.types.names.TypeName.{TypeName}
use Rattle.go_rules.specs.declared.operand.Operand.{Operand}
use Rattle.go_type_images.specs.Images.{Naming}
use Rattle.go_type_images.specs.declared.pair.TypePair.{TypePair}
use Rattle.go_client_types.specs.Following.{After}

abbrev pub AreAfter : Naming → List TypePair → (TypeName → Bool) → (Sel → Bool) → List Operand → List Operand → Type 0
AreAfter r pairs std is_open [] [] = Unit {0}
AreAfter r pairs std is_open (o ∷ os) (p ∷ ps) = After r pairs std is_open o p × AreAfter r pairs std is_open os ps
AreAfter r pairs std is_open os ps = ⊥
