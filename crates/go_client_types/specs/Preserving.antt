-- What a new table of types keeps of an old one, of the types that a client is given.
-- Own: all that the typing of a client asks of them.
use Rattle.std.specs.Prelude.{◌≡◌, ◌≢◌, ℕ, Bool, true, false, List, [], map, Option, Some}
use Rattle.go_base.specs.Lists.{Each, Has, Once}
use Rattle.go_model.specs.declared.types.names.Sel.{Sel}
use Rattle.go_model.specs.declared.types.names.TypeName.{TypeName}
use Rattle.go_model.specs.declared.types.package.Defined.{Defined}
use Rattle.go_model.specs.declared.types.term.Field.{Field}
use Rattle.go_model.specs.declared.types.term.Method.{Method}
use Rattle.go_model.specs.declared.types.term.Signature.{Signature}
use Rattle.go_model.specs.declared.types.term.Term.{Term, Term-F, out-Term}
use Rattle.go_model.specs.types.Comparison.{Comparable}
use Rattle.go_model.specs.types.Imports.{is_imported}
use Rattle.go_model.specs.types.Members.{field_sel}
use Rattle.go_model.specs.types.MethodSets.{Implements, Reaches, method_sel}
use Rattle.go_model.specs.types.Selectors.{IsOnly, Spot, ends, field, method}
use Rattle.go_model.specs.types.Tables.{Table}
use Rattle.go_model.specs.types.Terms.{IsBlank, Layer, client_path, pointer_to}
use Rattle.go_model.specs.types.Underlying.{declared_methods, entry, fields_of, methods_of, under}
use Rattle.go_rules.specs.Usability.{LeadsTo}
use Rattle.go_selectors.specs.Ways.{OnWay}
use Rattle.go_type_images.specs.Images.{Naming, image, image_of_layer, image_of_method, image_of_signature, same_sels}
use Rattle.go_type_images.specs.Parts.{field_type, function_type, parts}
use Rattle.go_type_images.specs.Levels.{interface_layer, struct_layer}
use Rattle.go_type_images.specs.SpotImages.{at_spot}
use Rattle.go_type_images.specs.declared.pair.TypePair.{TypePair}
use Rattle.go_client_types.specs.Reached.{IsGiven}

-- the name of a defined type has an entry
abbrev pub HasEntry : Table → Layer → Type 0
HasEntry T (Term-F.Named n) = (d : Defined) × (entry T n ≡ Some d)
HasEntry T l = Unit {0}

-- no name of a client's type
abbrev pub IsForeign : Layer → Type 0
IsForeign (Term-F.Named n) = n.path ≢ client_path
IsForeign l = Unit {0}

-- of the same form: a struct, an interface, or the image with given parts
abbrev pub IsKeptLayer : Naming → (Term → Type 0) → Layer → Layer → Type 0
IsKeptLayer r given (Term-F.Struct fs) l = struct_layer l ≡ true
IsKeptLayer r given (Term-F.Interface ms) l = interface_layer l ≡ true
IsKeptLayer r given k l = (l ≡ image_of_layer r same_sels k) × ((u : Term) → Has (parts k) u → given u)

-- the old types of pairs, and types of which all names pass `std` and all labels `is_open`, keep all that a client may ask of them; `is_open` tells which selectors are
-- exported or of the standard library
pub record Preserves (T U : Table) (r : Naming) (pairs : List TypePair) (std : TypeName → Bool) (is_open : Sel → Bool) : Type 0 where
  -- exported selectors are open
  pub exported_open : (s : Sel) → s.«package» ≡ [] → is_open s ≡ true
  -- what stands in a given type is given
  pub parts_given : (t u : Term) → IsGiven pairs std is_open t → Has (parts (out-Term t)) u → IsGiven pairs std is_open u
  -- a client's own names, and predeclared ones, stay
  pub own : (n : TypeName) → is_imported n ≡ false → r n ≡ n
  -- names of other packages become such names
  pub imported : (t : Term) (n : TypeName) → IsGiven pairs std is_open t → out-Term t ≡ Term-F.Named n → is_imported n ≡ true → is_imported (r n) ≡ true
  -- given names have entries, and so have their images
  pub has_entry : (t : Term) → IsGiven pairs std is_open t → HasEntry T (out-Term t) × HasEntry U (out-Term (image r same_sels t))
  -- what is underneath is of the same form
  pub beneath : (t : Term) → IsGiven pairs std is_open t → IsKeptLayer r (IsGiven pairs std is_open) (under T t) (under U (image r same_sels t))
  -- an exported field has a new one of its selector, with the image of its type
  pub fields : (t : Term) (f : Field) → IsGiven pairs std is_open t → Has (fields_of (under T t)) f → (field_sel f).«package» ≡ [] → (g : Field) × Has (fields_of (under U (image r same_sels t))) g × (field_sel g ≡ field_sel f) × (field_type g ≡ image r same_sels (field_type f)) × IsGiven pairs std is_open (field_type f)
  -- a field that an exported selector finds from a type is found from the image, through a pointer where it was
  pub found_field : (t : Term) (s : Sel) (b q : Bool) (d : ℕ) (v : Term) → IsGiven pairs std is_open t → s.«package» ≡ [] → (IsBlank s → ⊥) → IsOnly T s (at_spot b t) d (record { through = q; target = field v }) → (c : ℕ) × (k : Bool) × IsOnly U s (at_spot b (image r same_sels t)) c (record { through = k; target = field (image r same_sels v) }) × (q ≡ true → k ≡ true) × IsGiven pairs std is_open v
  -- so is a method of an open selector, which can be called where it could
  pub found_method : (t : Term) (s : Sel) (b q a : Bool) (d : ℕ) (o : Option TypeName) (g : Signature) → IsGiven pairs std is_open t → is_open s ≡ true → IsOnly T s (at_spot b t) d (record { through = q; target = method o a g })
      → (c : ℕ) × (k : Bool) × (e : Bool) × (m : Option TypeName) × IsOnly U s (at_spot b (image r same_sels t)) c (record { through = k; target = method m e (image_of_signature r same_sels g) }) × (Reaches a q → Reaches e k) × IsGiven pairs std is_open (function_type g) × ((n : TypeName) → m ≡ Some n → n.path ≢ client_path)
  -- no selector of a client's package finds anything
  pub strange : (t : Term) (s : Sel) (k : ℕ) (b : Bool) → IsGiven pairs std is_open t → s.«package» ≡ client_path → ends T s k (at_spot b t) ≡ []
  -- all types on the way of a search from an image have entries, and none is a client's
  pub on_way : (t : Term) (b : Bool) (x : Spot) → IsGiven pairs std is_open t → OnWay U (at_spot b (image r same_sels t)) x → HasEntry U (out-Term x.term) × IsForeign (out-Term x.term)
  -- an interface of open methods has no new one
  pub unsealed : (i : Term) (ms : List Method) → IsGiven pairs std is_open i → under T i ≡ Term-F.Interface ms → Each (λ m. is_open (method_sel m) ≡ true) ms → (n : Method) → Has (methods_of (under U (image r same_sels i))) n → (m : Method) × Has ms m × (n ≡ image_of_method r same_sels m)
  -- a type that implements one with another method implements the image
  pub sealed : (v i : Term) (ms : List Method) (m : Method) → IsGiven pairs std is_open v → IsGiven pairs std is_open i → under T i ≡ Term-F.Interface ms → Has ms m → is_open (method_sel m) ≡ false → Implements T v i → Implements U (image r same_sels v) (image r same_sels i)
  -- and so does a pointer to it
  pub sealed_pointer : (v i : Term) (ms : List Method) (m : Method) → IsGiven pairs std is_open v → IsGiven pairs std is_open i → under T i ≡ Term-F.Interface ms → Has ms m → is_open (method_sel m) ≡ false → Implements T (pointer_to v) i → Implements U (pointer_to (image r same_sels v)) (image r same_sels i)
  -- a comparable type stays so
  pub compares : (t : Term) → IsGiven pairs std is_open t → Comparable T t → Comparable U (image r same_sels t)
  -- types to which a path leads from an image have entries
  pub leads : (t u : Term) → IsGiven pairs std is_open t → LeadsTo U (image r same_sels t) u → HasEntry U (out-Term u)
  -- a defined interface has each selector once, and no method is declared for it
  pub interfaces : (t : Term) (n : TypeName) (ms : List Method) → IsGiven pairs std is_open t → out-Term t ≡ Term-F.Named n → under T t ≡ Term-F.Interface ms → Once (map method_sel ms) × (declared_methods T (out-Term t) ≡ [])
  -- different given names have different images
  pub apart : (s t : Term) (m n : TypeName) → IsGiven pairs std is_open s → IsGiven pairs std is_open t → out-Term s ≡ Term-F.Named m → out-Term t ≡ Term-F.Named n → r m ≡ r n → m ≡ n
