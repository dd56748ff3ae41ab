-- What method sets lose, method by method.
-- Own: words of the contracts inside this crate.
use Rattle.std.specs.Prelude.{◌≡◌, ◌⊎◌, ◌&&◌, not, Bool, true, List, Some}
use Rattle.go_model.specs.types.MethodSets.{InSet, method_sel}
use Rattle.go_model.specs.types.Terms.{pointer_to}
use Rattle.go_model.specs.types.Underlying.{under}
use Rattle.go_model.specs.worlds.Worlds.{Packages}
use Rattle.go_model.specs.declared.types.names.Sel.{Sel}
use Rattle.go_model.specs.declared.types.term.Term.{Term}
use Rattle.go_model.specs.declared.types.term.Method.{Method, out-Method}
use Rattle.go_model.specs.declared.types.term.Signature.{Signature}
use Rattle.go_selectors.specs.Candidates.{Candidates, called_at}
use Rattle.go_type_images.specs.declared.pair.TypePair.{TypePair}
use Rattle.api_correspond.specs.OwnedPairs.{are_of_module}
use Rattle.go_type_images.specs.Levels.{interface_layer}
use Rattle.api_correspond.specs.Publics.{types_of}
use Rattle.api_correspond.specs.Rules.{is_std_sel, Counts, KeepsInSet, have_method_sets}
use Rattle.api_correspond.specs.inner.Members.{OfSome}
use Rattle.api_breaks.specs.declared.broken.Lost.{Lost}
use Rattle.api_breaks.specs.declared.broken.Lost.TheVariants as lost

-- the method can be called; an unexported one of the standard library with an identical signature
abbrev pub KeptIn : Packages → Candidates → Method → Type 0
KeptIn w callable m = (h : Signature) × (called_at callable (method_sel m) ≡ Some h) × (is_std_sel w (method_sel m) ≡ true → h ≡ (out-Method m).signature)

abbrev pub lost_of : Sel → Lost
lost_of s = lost.Method s

abbrev pub KeepsCalled : Packages → Candidates → Method → Type 0
KeepsCalled w callable m = Counts w (method_sel m) → KeptIn w callable m

abbrev pub IsLostIn : Packages → Candidates → Method → Lost → Type 0
IsLostIn w callable m l = Counts w (method_sel m) × (KeptIn w callable m → ⊥) × (lost_of (method_sel m) ≡ l)

abbrev pub AreLostIn : Packages → Candidates → List Method → Lost → Type 0
AreLostIn w callable ms = OfSome (IsLostIn w callable) ms

-- the methods of an old type that count are kept in the set of a new one, and one isn't
abbrev pub KeepsMethodSet : Packages → Packages → Term → Term → Type 0
KeepsMethodSet old new t u = (s : Sel) (g : Signature) → Counts old s → InSet (types_of old) t s g → KeepsInSet old new u s g

abbrev pub IsLostMethod : Packages → Packages → Term → Term → Lost → Type 0
IsLostMethod old new t u l = (s : Sel) × (g : Signature) × Counts old s × InSet (types_of old) t s g × (KeepsInSet old new u s g → ⊥) × (lost_of s ≡ l)

abbrev pub are_plain : Packages → Packages → TypePair → Bool
are_plain old new p = are_of_module old new p && not (interface_layer (under (types_of old) p.old)) && not (interface_layer (under (types_of new) p.new))

abbrev pub KeepsSets : Packages → Packages → TypePair → Type 0
KeepsSets old new p = have_method_sets old new p ≡ true → KeepsMethodSet old new p.old p.new × KeepsMethodSet old new (pointer_to p.old) (pointer_to p.new)

abbrev pub IsMethodSetLoss : Packages → Packages → TypePair → Lost → Type 0
IsMethodSetLoss old new p l = (have_method_sets old new p ≡ true) × (IsLostMethod old new p.old p.new l ⊎ IsLostMethod old new (pointer_to p.old) (pointer_to p.new) l)
