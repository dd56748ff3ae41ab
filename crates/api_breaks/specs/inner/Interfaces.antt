-- What interfaces of the module lose, method by method.
-- Own: words of the contracts inside this crate.
use Rattle.std.specs.Prelude.{◌≡◌, ℕ, Bool, true, false, List}
use Rattle.go_base.specs.Lists.{Has}
use Rattle.go_model.specs.types.MethodSets.{method_sel}
use Rattle.go_model.specs.types.Underlying.{under, methods_of}
use Rattle.go_model.specs.worlds.Worlds.{Packages}
use Rattle.go_model.specs.declared.types.names.Sel.{Sel}
use Rattle.go_model.specs.declared.types.term.Method.{Method}
use Rattle.go_type_images.specs.declared.pair.TypePair.{TypePair}
use Rattle.api_correspond.specs.Publics.{types_of}
use Rattle.api_correspond.specs.Rules.{is_sealing, is_std_sel, Counts, CoversInterfaces}
use Rattle.api_correspond.specs.inner.Members.{OfSome}
use Rattle.api_correspond.specs.inner.Tables.{At}
use Rattle.api_breaks.specs.declared.broken.Lost.{Lost}
use Rattle.api_breaks.specs.declared.broken.Lost.TheVariants as lost
use Rattle.api_breaks.specs.inner.Telling.{KeptBy}

-- one of the methods is unexported, of the module: the interface is sealed
abbrev pub HasSealing : Packages → List Method → Type 0
HasSealing w ms = (m : Method) × Has ms m × (is_sealing w (method_sel m) ≡ true)

-- a method stands for another one
abbrev pub Serves : Packages → Method → Method → Type 0
Serves w m n = (method_sel n ≡ method_sel m) × (is_std_sel w (method_sel m) ≡ true → n ≡ m)

abbrev pub HasServing : Packages → List Method → Method → Type 0
HasServing w ns m = (n : Method) × Has ns n × (method_sel n ≡ method_sel m) × (is_std_sel w (method_sel m) ≡ true → n ≡ m)

-- the method at a place stands for another one
abbrev pub ServesAt : Packages → List Method → Method → ℕ → Type 0
ServesAt w ns m i = (n : Method) × At ns i n × Serves w m n

abbrev pub HasSel : List Method → Sel → Type 0
HasSel ms s = (m : Method) × Has ms m × (method_sel m ≡ s)

abbrev pub lost_method : Method → Lost
lost_method m = lost.InterfaceMethod (method_sel m)

-- a method that counts is kept or gone
abbrev pub KeepsMethod : Packages → List Method → Method → Type 0
KeepsMethod old ns m = Counts old (method_sel m) → HasServing old ns m

abbrev pub IsMethodGone : Packages → List Method → Method → Lost → Type 0
IsMethodGone old ns m l = Counts old (method_sel m) × (HasServing old ns m → ⊥) × (lost_method m ≡ l)

abbrev pub AreMethodsGone : Packages → List Method → List Method → Lost → Type 0
AreMethodsGone old ms ns = OfSome (IsMethodGone old ns) ms

-- a method was there or is new
abbrev pub WasMethod : List Method → Method → Type 0
WasMethod ms n = HasSel ms (method_sel n)

abbrev pub IsMethodNew : List Method → Method → Lost → Type 0
IsMethodNew ms n l = (HasSel ms (method_sel n) → ⊥) × (lost_method n ≡ l)

abbrev pub AreMethodsNew : List Method → List Method → Lost → Type 0
AreMethodsNew ms ns = OfSome (IsMethodNew ms) ns

-- one of two interfaces alone is sealed
abbrev pub IsSealedApart : Bool → Bool → Lost → Type 0
IsSealedApart first second l = ((first ≡ second) → ⊥) × (lost.Sealing ≡ l)

-- methods are new where both are open
abbrev pub KeepsWhere : Bool → Bool → List Method → List Method → Type 0
KeepsWhere first second ms ns = first ≡ false → second ≡ false → KeptBy (WasMethod ms) ns

abbrev pub IsNewWhere : Bool → Bool → List Method → List Method → Lost → Type 0
IsNewWhere first second ms ns l = (first ≡ false) × (second ≡ false) × AreMethodsNew ms ns l

-- both are sealed, or neither
abbrev pub AreSealedAlike : Packages → Packages → List Method → List Method → Type 0
AreSealedAlike old new ms ns = (HasSealing old ms → HasSealing new ns) × (HasSealing new ns → HasSealing old ms)

-- what two interfaces keep of their methods, and what they lose
pub record KeepsMethods (old new : Packages) (ms ns : List Method) : Type 0 where
  pub alike : AreSealedAlike old new ms ns
  pub methods : KeptBy (KeepsMethod old ns) ms
  pub open_kept : (HasSealing old ms → ⊥) → (HasSealing new ns → ⊥) → KeptBy (WasMethod ms) ns

pub data IsOfMethods (old new : Packages) (ms ns : List Method) (l : Lost) : Type 0 where
  sealed_apart : (AreSealedAlike old new ms ns → ⊥) → lost.Sealing ≡ l → IsOfMethods old new ms ns l
  methods_gone : AreMethodsGone old ms ns l → IsOfMethods old new ms ns l
  methods_new : (HasSealing old ms → ⊥) → (HasSealing new ns → ⊥) → AreMethodsNew ms ns l → IsOfMethods old new ms ns l

abbrev pub KeepsInterface : Packages → Packages → TypePair → Type 0
KeepsInterface old new p = CoversInterfaces old new p → KeepsMethods old new (methods_of (under (types_of old) p.old)) (methods_of (under (types_of new) p.new))

abbrev pub IsInterfaceLoss : Packages → Packages → TypePair → Lost → Type 0
IsInterfaceLoss old new p l = CoversInterfaces old new p × IsOfMethods old new (methods_of (under (types_of old) p.old)) (methods_of (under (types_of new) p.new)) l
