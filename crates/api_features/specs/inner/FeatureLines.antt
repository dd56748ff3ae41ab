-- What the functions that gather features answer.
use Rattle.std.specs.Prelude.{◌≡◌, ◌≢◌, ℕ, Bool, true, false, List, [], ◌∷◌, ◌++◌, codes, map, Some, None, if◌then◌else◌}
use Rattle.go_base.specs.Characters.{BeginsPassing, is_upper}
use Rattle.go_base.specs.Lists.{Has, Each}
use Rattle.go_model.specs.declared.constants.value.Value.{Value}
use Rattle.go_model.specs.declared.types.names.Sel.{Sel}
use Rattle.go_model.specs.declared.types.package.Defined.{Defined}
use Rattle.go_model.specs.declared.types.package.MethodOf.{MethodOf}
use Rattle.go_model.specs.declared.types.package.Object.{Object}
use Rattle.go_model.specs.declared.types.package.Package.{Package}
use Rattle.go_model.specs.declared.types.term.Field.{Field, out-Field}
use Rattle.go_model.specs.declared.types.term.Method.{Method, out-Method}
use Rattle.go_model.specs.declared.types.term.Signature.{Signature}
use Rattle.go_model.specs.types.Terms.{Layer}
use Rattle.go_model.specs.types.Underlying.{entry, fields_of}
use Rattle.go_model.specs.worlds.Worlds.{Packages, IsDefined, bars_methods, table_of}
use Rattle.go_selectors.specs.Candidates.{Candidates, called_at}
use Rattle.api_lines.specs.declared.line.Line.{Line}
use Rattle.api_features.specs.ConstantTexts.{IsValueText}
use Rattle.api_features.specs.TypeTexts.{commas, name_of_method, signature_text, type_text}
use Rattle.api_features.specs.Features.{IsExported, IsRest}

-- a line of a package without context
abbrev pub feature_line : List ℕ → List ℕ → Line
feature_line path rest = record { path = path; context = None; rest = rest }

-- the line of a rest with the property
abbrev pub IsLineIn : (List ℕ → Type 0) → List ℕ → Line → Type 0
IsLineIn P path l = (rest : List ℕ) × P rest × (feature_line path rest ≡ l)

-- an exported method
abbrev pub IsExportedMethod : Method → Type 0
IsExportedMethod m = IsExported (out-Method m).sel

-- the line of a rest that one of the items gives
abbrev pub IsLineOfSome : {A : Type 0} → (A → List ℕ → Type 0) → List A → List ℕ → Line → Type 0
IsLineOfSome {A} P items path l = (a : A) × Has items a × IsLineIn (P a) path l

-- how the line of a method begins, with a pointer as its receiver or without
abbrev pub method_word : Bool → List ℕ
method_word pointer = if pointer then codes "method (*" else codes "method ("

-- the packages hold the defined type of this name, as a world does
abbrev pub IsHeld : List Package → List ℕ → List ℕ → Defined → Type 0
IsHeld packages path name d = (entry (table_of packages) (record { path = path; name = name }) ≡ Some d) × IsDefined (table_of packages) d

-- a field that isn't embedded
abbrev pub IsNotEmbedded : Field → Type 0
IsNotEmbedded f = (out-Field f).embedded ≡ false

-- a defined type with this underneath has no methods but those that are declared for it, and its pointer the same
abbrev pub PromotesNone : Layer → Type 0
PromotesNone l = (bars_methods l ≡ false) × Each IsNotEmbedded (fields_of l)

module _ (packages : List Package) (path name : List ℕ) where
  abbrev pub type_rest : List ℕ → List ℕ
  type_rest end = codes "type " ++ name ++ end

  -- what a field of a struct gives
  pub data IsFieldRest (f : Field) : List ℕ → Type 0 where
    named_field : IsExported (out-Field f).sel → (out-Field f).embedded ≡ false → IsFieldRest f (type_rest (codes " struct, ") ++ (out-Field f).sel.name ++ codes " " ++ type_text packages path (out-Field f).term)
    embedded_field : IsExported (out-Field f).sel → (out-Field f).embedded ≡ true → IsFieldRest f (type_rest (codes " struct, embedded ") ++ type_text packages path (out-Field f).term)

  -- what a method of an interface gives
  pub data IsInterfaceMethodRest (m : Method) : List ℕ → Type 0 where
    exported_method : IsExported (out-Method m).sel → IsInterfaceMethodRest m (type_rest (codes " interface, ") ++ (out-Method m).sel.name ++ signature_text packages path (out-Method m).signature)

  -- what the methods of an interface give together
  pub data IsEndRest : List Method → List ℕ → Type 0 where
    end_empty : IsEndRest [] (type_rest (codes " interface {}"))
    end_exported : {m : Method} {ms : List Method} → Each IsExportedMethod (m ∷ ms) → IsEndRest (m ∷ ms) (type_rest (codes " interface { ") ++ commas (map name_of_method (m ∷ ms)) ++ codes " }")
    end_unexported : {ms : List Method} → ms ≢ [] → (Each IsExportedMethod ms → ⊥) → IsEndRest ms (type_rest (codes " interface, unexported methods"))

  -- what a method gives that is declared for a type
  pub data IsDeclaredRest (m : MethodOf) : List ℕ → Type 0 where
    declared_method : IsExported m.sel → IsDeclaredRest m (method_word m.pointer ++ name ++ codes ") " ++ m.sel.name ++ signature_text packages path m.signature)

  -- what a selector gives that has a method among the callable ones, and none among the others
  pub data IsCalledRest (pointer : Bool) (except callable : Candidates) (s : Sel) : List ℕ → Type 0 where
    called_method : {g : Signature} → IsExported s → called_at except s ≡ None → called_at callable s ≡ Some g → IsCalledRest pointer except callable s (method_word pointer ++ name ++ codes ") " ++ s.name ++ signature_text packages path g)

-- a line of an object
abbrev pub IsObjectLine : Packages → Package → Object → Line → Type 0
IsObjectLine world p o l = BeginsPassing is_upper o.name × IsLineIn (IsRest world.packages p.path o.name o.entity) p.path l

-- a line of one of the package's objects
abbrev pub IsSomeObjectLine : Packages → Package → Line → Type 0
IsSomeObjectLine world p l = (o : Object) × Has p.objects o × IsObjectLine world p o l

-- the same, where its path is one of the public ones and none of the others
abbrev pub IsPackageLine : List (List ℕ) → List (List ℕ) → Packages → Package → Line → Type 0
IsPackageLine public except world p l = Has public p.path × (Has except p.path → ⊥) × IsSomeObjectLine world p l

-- what the value of a constant gives
abbrev pub IsValueRest : List ℕ → Value → List ℕ → Type 0
IsValueRest name value rest = (text : List ℕ) × IsValueText value text × (rest ≡ codes "const " ++ name ++ codes " = " ++ text)
