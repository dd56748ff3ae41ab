-- The ways in which a pair of types leads to others, each apart.
-- Own: words of the contracts inside this crate.
use Rattle.std.specs.Prelude.{◌≡◌, ◌≤◌, ◌<◌, ◌⊎◌, ℕ, List, Option, None, Some, true, false}
use Rattle.go_base.specs.Lists.{Has}
use Rattle.go_model.specs.types.Tables.{Table}
use Rattle.go_model.specs.types.Terms.{Layer}
use Rattle.go_model.specs.types.Underlying.{under, fields_of}
use Rattle.go_model.specs.types.Selectors.{Finds}
use Rattle.go_model.specs.types.MethodSets.{InSet, method_sel}
use Rattle.go_selectors.specs.Candidates.{Candidates, called_at}
use Rattle.go_model.specs.types.Members.{field_sel}
use Rattle.go_model.specs.worlds.Worlds.{Packages}
use Rattle.go_model.specs.declared.types.names.Sel.{Sel}
use Rattle.go_model.specs.declared.types.found.Found.{Found}
use Rattle.go_model.specs.declared.types.found.Found.TheVariants.{FieldAt}
use Rattle.go_model.specs.declared.types.found.FieldFound.{FieldFound}
use Rattle.go_model.specs.declared.types.term.Term.{Term}
use Rattle.go_model.specs.declared.types.term.Field.{Field}
use Rattle.go_model.specs.declared.types.term.Method.{Method}
use Rattle.go_model.specs.declared.types.term.Signature.{Signature}
use Rattle.go_type_images.specs.declared.pair.TypePair.{TypePair}
use Rattle.api_correspond.specs.Publics.{IsExported, types_of}
use Rattle.api_correspond.specs.Outermost.{SameOutermost, pair, side_by_side}
use Rattle.go_type_images.specs.Parts.{function_type, field_type, method_type, parts}
use Rattle.api_correspond.specs.inner.Members.{OfSome}
use Rattle.api_correspond.specs.inner.Tables.{At}
use Rattle.api_correspond.specs.OwnedPairs.{receiver, are_of_module, have_members}
use Rattle.go_type_images.specs.Levels.{is_structured}

-- the parts at one place, where the outermost constructors match
abbrev pub IsPart : Packages → Packages → Layer → Layer → TypePair → Type 0
IsPart old new l k q = SameOutermost old new l k × Has (side_by_side (parts l) (parts k)) q

-- those of what is underneath types of the module, where that is neither a struct nor an interface
abbrev pub IsPartUnderneath : Packages → Packages → TypePair → TypePair → Type 0
IsPartUnderneath old new p q = (are_of_module old new p ≡ true) × (is_structured (under (types_of old) p.old) ≡ false) × IsPart old new (under (types_of old) p.old) (under (types_of new) p.new) q

-- the types of two fields with one selector
abbrev pub AreSameField : Field → Field → TypePair → Type 0
AreSameField f g q = (field_sel g ≡ field_sel f) × (pair (field_type f) (field_type g) ≡ q)

-- the types of a field and of the one at a place, and at some of these places
abbrev pub IsFieldAt : Field → List Field → ℕ → TypePair → Type 0
IsFieldAt f gs at q = (g : Field) × At gs at g × (pair (field_type f) (field_type g) ≡ q)

abbrev pub AreFieldsAt : Field → List Field → List ℕ → TypePair → Type 0
AreFieldsAt f gs places = OfSome (IsFieldAt f gs) places

-- the types of a field and of one with its selector
abbrev pub IsFieldWith : Field → List Field → TypePair → Type 0
IsFieldWith f gs = OfSome (AreSameField f) gs

abbrev pub IsExportedWith : List Field → Field → TypePair → Type 0
IsExportedWith gs f q = IsExported (field_sel f) × IsFieldWith f gs q

-- the types of an exported field of both
abbrev pub IsCommonField : List Field → List Field → TypePair → Type 0
IsCommonField fs gs = OfSome (IsExportedWith gs) fs

-- the type of a field that was found at least so deep
abbrev pub FieldTerm : Found → ℕ → Option Term → Type 0
FieldTerm (FieldAt f) least None = f.depth < least
FieldTerm (FieldAt f) least (Some t) = (least ≤ f.depth) × (f.term ≡ t)
FieldTerm r least None = Unit {0}
FieldTerm r least (Some t) = ⊥

-- the selector finds a field of this type at least so deep
abbrev pub IsFieldFound : Table → Sel → Term → ℕ → Term → Type 0
IsFieldFound T s t least u = (f : FieldFound) × Finds T s t (FieldAt f) × (least ≤ f.depth) × (f.term ≡ u)

-- the type of the field that a selector finds at least so deep
abbrev pub FieldOf : Table → Sel → Term → ℕ → Option Term → Type 0
FieldOf T s t least None = (u : Term) → IsFieldFound T s t least u → ⊥
FieldOf T s t least (Some u) = IsFieldFound T s t least u

-- the types of the field that a selector finds in both, in the old below the top level
abbrev pub IsFoundField : Table → Table → TypePair → Sel → TypePair → Type 0
IsFoundField S T p s q = IsFieldFound S s p.old 1 q.old × IsFieldFound T s p.new 0 q.new

abbrev pub IsPromotedField : Table → Table → TypePair → TypePair → Type 0
IsPromotedField S T p q = (s : Sel) × IsExported s × IsFoundField S T p s q

-- a type with that of the field that a selector finds
abbrev pub IsFoundAfter : Table → Term → Sel → Term → TypePair → Type 0
IsFoundAfter T t s before q = (before ≡ q.old) × IsFieldFound T s t 0 q.new

-- the same of an exported selector, and of one of these
abbrev pub IsPromotedBy : Table → Table → TypePair → Sel → TypePair → Type 0
IsPromotedBy S T p s q = IsExported s × IsFoundField S T p s q

abbrev pub ArePromoted : Table → Table → TypePair → List Sel → TypePair → Type 0
ArePromoted S T p sels = OfSome (IsPromotedBy S T p) sels

-- the types of a method and of the one with its selector that can be called
abbrev pub IsCalledIn : Candidates → Method → TypePair → Type 0
IsCalledIn callable m q = IsExported (method_sel m) × ((h : Signature) × (called_at callable (method_sel m) ≡ Some h) × (pair (method_type m) (function_type h) ≡ q))

abbrev pub AreCalledIn : Candidates → List Method → TypePair → Type 0
AreCalledIn callable ms = OfSome (IsCalledIn callable) ms

-- the types of an exported method of both
abbrev pub IsCommonMethod : Table → Table → TypePair → TypePair → Type 0
IsCommonMethod S T p q = (s : Sel) × IsExported s × ((g : Signature) × (h : Signature) × InSet S (receiver S p.old) s g × InSet T (receiver T p.new) s h × (pair (function_type g) (function_type h) ≡ q))

-- the selectors hold each exported one that finds a field below the top level
abbrev pub HoldDeepFields : Table → Term → List Sel → Type 0
HoldDeepFields T t sels = (s : Sel) (f : FieldFound) → IsExported s → Finds T s t (FieldAt f) → 1 ≤ f.depth → Has sels s

-- of types of the module the exported fields that both have
abbrev pub IsTopField : Packages → Packages → TypePair → TypePair → Type 0
IsTopField old new p q = (are_of_module old new p ≡ true) × IsCommonField (fields_of (under (types_of old) p.old)) (fields_of (under (types_of new) p.new)) q

-- the promoted fields and the methods of both, where these are followed
abbrev pub IsMember : Packages → Packages → TypePair → TypePair → Type 0
IsMember old new p q = (have_members old new p ≡ true) × (IsPromotedField (types_of old) (types_of new) p q ⊎ IsCommonMethod (types_of old) (types_of new) p q)
