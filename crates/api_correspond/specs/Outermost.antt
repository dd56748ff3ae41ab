-- The outermost constructor of a type, and the pairs of the parts under two.
-- Public source: Go specification, "Types" and "Type identity"; after the README of golang.org/x/exp/apidiff, "Correspondence".
use Rattle.std.specs.Prelude.{◌≡◌, ℕ, Bool, List, [], ◌∷◌, length, map, if◌then◌else◌}
use Rattle.go_model.specs.types.Terms.{Layer}
use Rattle.go_model.specs.types.MethodSets.{method_sel}
use Rattle.go_model.specs.worlds.Worlds.{Packages}
use Rattle.go_model.specs.declared.constants.value.Basic.{Basic}
use Rattle.go_model.specs.declared.types.names.TypeName.{TypeName}
use Rattle.go_model.specs.declared.types.names.Sel.{Sel}
use Rattle.go_model.specs.declared.types.term.Direction.{Direction}
use Rattle.go_model.specs.declared.types.term.Term.{Term, Term-F}
use Rattle.go_model.specs.declared.types.term.Field.{Field, out-Field}
use Rattle.go_model.specs.declared.types.term.Method.{Method}
use Rattle.go_model.specs.declared.types.term.Signature.{Signature, out-Signature}
use Rattle.go_type_images.specs.declared.pair.TypePair.{TypePair}
use Rattle.api_correspond.specs.Publics.{of_module, package_at}

-- a field but for its type
pub record FieldHead : Type 0 where
  pub sel : Sel
  pub embedded : Bool
  pub tag : List ℕ

-- what two types have in common whose outermost constructors match: all types of the module do, and of the other
-- names, `error` and those of the standard library, each with itself
pub data Outermost : Type 0 where
  basic : Basic → Outermost
  named : TypeName → Outermost
  module_type : Outermost
  pointer : Outermost
  slice : Outermost
  array : ℕ → Outermost
  mapping : Outermost
  channel : Direction → Outermost
  function : ℕ → ℕ → Bool → Outermost
  structure : List FieldHead → Outermost
  interface : List Sel → Outermost

abbrev pub field_head : Field → FieldHead
field_head f = record { sel = (out-Field f).sel; embedded = (out-Field f).embedded; tag = (out-Field f).tag }

abbrev pub function_head : Signature → Outermost
function_head g = function (length (out-Signature g).params) (length (out-Signature g).results) (out-Signature g).variadic

abbrev pub outermost : Packages → Layer → Outermost
outermost w (Term-F.Plain b) = basic b
outermost w (Term-F.Named n) = if of_module (package_at w n.path) then module_type else named n
outermost w (Term-F.Pointer e) = pointer
outermost w (Term-F.Slice e) = slice
outermost w (Term-F.Array n e) = array n
outermost w (Term-F.Map k e) = mapping
outermost w (Term-F.Chan d e) = channel d
outermost w (Term-F.Func g) = function_head g
outermost w (Term-F.Struct fs) = structure (map field_head fs)
outermost w (Term-F.Interface ms) = interface (map method_sel ms)

-- two types have the same outermost constructor, the first in the old packages, the second in the new
abbrev pub SameOutermost : Packages → Packages → Layer → Layer → Type 0
SameOutermost old new k l = outermost old k ≡ outermost new l

abbrev pub pair : Term → Term → TypePair
pair s t = record { old = s; new = t }

-- the pairs of types that stand at the same places
abbrev pub side_by_side : List Term → List Term → List TypePair
side_by_side [] ts = []
side_by_side (s ∷ ss) [] = []
side_by_side (s ∷ ss) (t ∷ ts) = pair s t ∷ side_by_side ss ts
