-- What an expression is typed in: the meanings of names, the defined types that are had, and the platform's sizes.
-- Public source: Go specification, "Declarations and scope", "Uniqueness of identifiers", "Qualified identifiers" and
-- "Iota"; that a method may be declared whose signature isn't had yet is own.
use Rattle.std.specs.Prelude.{◌≡◌, ℕ, zero, suc, Bool, true, false, ◌&&◌, ◌||◌, if◌then◌else◌, List, [], ◌∷◌, Option, Some}
use Rattle.std.specs.Str.{chars, is_utf8}
use Rattle.go_syntax.specs.go_base.Characters.{is_upper}
use Rattle.go_syntax.specs.go_base.Lists.{Has}
use Rattle.go_model.specs.declared.types.names.Sel.{Sel}
use Rattle.go_model.specs.declared.types.names.TypeName.{TypeName}
use Rattle.go_model.specs.declared.types.package.Defined.{Defined}
use Rattle.go_model.specs.declared.types.package.Entity.{Entity}
use Rattle.go_model.specs.declared.types.term.Signature.{Signature}
use Rattle.go_model.specs.declared.types.term.Term.{Term, Term-F, out-Term}
use Rattle.go_model.specs.types.MethodSets.{Reaches}
use Rattle.go_model.specs.types.Selectors.{Spot, Ending, method, steps, start, IsOnly, is_defined_pointer}
use Rattle.go_model.specs.types.Tables.{Table}
use Rattle.go_model.specs.types.Terms.{Layer, same_sel}
use Rattle.go_model.specs.types.Underlying.{entry}
use Rattle.go_rules.specs.declared.seen.Seen.{Seen}

-- the names, objects and types that are had, and the place where an expression stands
pub record Env : Type 0 where
  -- the innermost meaning of a name: of the opened scopes, the imports of the file, the package and the universe; a
  -- name that the package declares and whose object isn't had means nothing, also where the universe has it
  pub meaning : List ℕ → Option Seen
  -- the object that an imported package, by its path, declares under a name
  pub object : List ℕ → List ℕ → Option Entity
  -- the defined types, with the methods whose signatures are had
  pub table : Table
  -- the other methods of a defined type
  pub missing : TypeName → List Sel
  -- the path of the package that is typed
  pub path : List ℕ
  -- the bits of int, uint and uintptr
  pub bits : ℕ
  -- whether in a client of the profile
  pub profile : Bool
  -- the place of a constant's spec in its group, where `iota` has a value
  pub iota : Option ℕ

-- the characters begin with an upper-case letter
abbrev pub begins_upper : List ℕ → Bool
begins_upper [] = false
begins_upper (c ∷ cs) = is_upper c

-- an exported name
abbrev pub is_exported : List ℕ → Bool
is_exported name = is_utf8 name && begins_upper (chars name)

-- the selector of a name: exported, or of the package that is typed
abbrev pub selector_of : Env → List ℕ → Sel
selector_of E name = record { name = name; «package» = if is_exported name then [] else E.path }

-- a name of a type has an entry; any other type needs none
abbrev pub EnteredLayer : Env → Layer → Type 0
EnteredLayer E (Term-F.Named n) = (d : Defined) × (entry E.table n ≡ Some d)
EnteredLayer E l = Unit {0}

-- the type has its entry, where it is a name
abbrev pub Entered : Env → Term → Type 0
Entered E t = EnteredLayer E (out-Term t)

-- the selector is one of these
abbrev pub is_among : Sel → List Sel → Bool
is_among s [] = false
is_among s (other ∷ others) = same_sel other s || is_among s others

-- a name of a type has an entry, and no method of this selector is missing from it
abbrev pub ToldLayer : Env → Sel → Layer → Type 0
ToldLayer E s (Term-F.Named n) = (d : Defined) × (entry E.table n ≡ Some d) × (is_among s (E.missing n) ≡ false)
ToldLayer E s l = Unit {0}

-- the type has its entry, where it is a name, and each of its methods of this selector is had
abbrev pub Told : Env → Sel → Term → Type 0
Told E s t = ToldLayer E s (out-Term t)

-- each type on the levels down to this depth is told
abbrev pub ToldTo : Env → Sel → ℕ → Spot → Type 0
ToldTo E s zero at = Told E s at.term
ToldTo E s (suc depth) at = Told E s at.term × ((next : Spot) → Has (steps E.table at) next → ToldTo E s depth next)

-- a type, or the base of a pointer type, has its entry, so that it is known where paths begin
abbrev pub BeginsLayer : Env → Term → Layer → Type 0
BeginsLayer E t (Term-F.Pointer base) = Entered E base
BeginsLayer E t l = Entered E t

-- it is known where paths from the type begin
abbrev pub Begins : Env → Term → Type 0
Begins E t = BeginsLayer E t (out-Term t)

-- what the selector finds in the type, where each type on the levels searched is told
pub record Found (E : Env) (s : Sel) (t : Term) (e : Ending) : Type 0 where
  pub depth : ℕ
  pub only : IsOnly E.table s (start E.table t) depth e
  pub begins : Begins E t
  pub told : ToldTo E s depth (start E.table t)

-- the method can be called on a value of the type: it is in its method set, or, addressable, in that of its pointer
pub record HasMethod (E : Env) (addressable : Bool) (t : Term) (s : Sel) (g : Signature) : Type 0 where
  pub through : Bool
  pub owner : Option TypeName
  pub pointer : Bool
  pub found : Found E s t (record { through = through; target = method owner pointer g })
  pub counts : is_defined_pointer E.table t ≡ false
  pub reaches : Reaches pointer (if through then true else addressable)
