-- Types of the standard library in a world: its packages lead to their like alone, and no other package declares a method of theirs.
-- Own: what the types of a client's world have in common with those of another one.
use Rattle.std.specs.Prelude.{◌≡◌, ◌||◌, ◌&&◌, ℕ, Bool, true, List, [], Some, is_some}
use Rattle.std.specs.Str.{bytes_eq}
use Rattle.go_base.specs.Lists.{Has, Passes}
use Rattle.go_model.specs.declared.types.names.Sel.{Sel}
use Rattle.go_model.specs.declared.types.names.TypeName.{TypeName}
use Rattle.go_model.specs.declared.types.package.ConstTerm.TheVariants as constant
use Rattle.go_model.specs.declared.types.package.Defined.{Defined}
use Rattle.go_model.specs.declared.types.package.Entity.{Entity}
use Rattle.go_model.specs.declared.types.package.Entity.TheVariants as entity
use Rattle.go_model.specs.declared.types.package.MethodOf.{MethodOf}
use Rattle.go_model.specs.declared.types.package.Object.{Object}
use Rattle.go_model.specs.declared.types.package.Package.{Package}
use Rattle.go_model.specs.declared.types.term.Method.{Method}
use Rattle.go_model.specs.declared.types.term.Term.{Term, out-Term}
use Rattle.go_model.specs.types.MethodSets.{method_sel}
use Rattle.go_model.specs.types.Terms.{is_error}
use Rattle.go_model.specs.types.TypeNames.{names}
use Rattle.go_model.specs.types.TypeSelectors.{selectors}
use Rattle.go_model.specs.types.Underlying.{entry, methods_of}
use Rattle.go_model.specs.worlds.PackageTypes.{package_names, package_selectors}
use Rattle.go_model.specs.worlds.Worlds.{Packages}
use Rattle.go_type_images.specs.Parts.{function_type, method_type, parts}
use Rattle.api_correspond.specs.Publics.{Exports, of_std, package_at, types_of}
use Rattle.api_correspond.specs.Rules.{is_std_sel}

-- `error`, or a type of a package of the standard library
abbrev pub is_std_name : Packages → TypeName → Bool
is_std_name w n = is_error n || of_std (package_at w n.path)

-- exported, or of a package of the standard library
abbrev pub is_open_sel : Packages → Sel → Bool
is_open_sel w s = bytes_eq s.«package» [] || of_std (package_at w s.«package»)

-- of such names and such selectors
abbrev pub IsOfStd : Packages → Term → Type 0
IsOfStd w t = Passes (is_std_name w) (names t) × Passes (is_open_sel w) (selectors t)

-- the types of a package of the standard library are of it
pub record StdStandsAlone (w : Packages) : Type 0 where
  pub names : (path : List ℕ) (p : Package) → package_at w path ≡ Some p → p.from_std ≡ true → Passes (is_std_name w) (package_names p)
  pub selectors : (path : List ℕ) (p : Package) → package_at w path ≡ Some p → p.from_std ≡ true → Passes (is_open_sel w) (package_selectors p)

-- in the interfaces that stand in the type, a method by an unexported selector of the standard library has a type of it
pub data HasStdMethods (w : Packages) : Term → Type 0 where
  std_methods : {t : Term} → ((m : Method) → Has (methods_of (out-Term t)) m → is_std_sel w (method_sel m) ≡ true → IsOfStd w (method_type m)) → ((u : Term) → Has (parts (out-Term t)) u → HasStdMethods w u) → HasStdMethods w t

abbrev pub EntityHasStdMethods : Packages → Entity → Type 0
EntityHasStdMethods w (entity.Const (constant.OfTerm t) v) = HasStdMethods w t
EntityHasStdMethods w (entity.Const (constant.OfKind k) v) = Unit {0}
EntityHasStdMethods w (entity.Var t) = HasStdMethods w t
EntityHasStdMethods w (entity.Function g) = HasStdMethods w (function_type g)
EntityHasStdMethods w (entity.TypeOf t) = HasStdMethods w t

-- so it is in all types of a world: a package has such a method only by what it embeds
pub record StdMethodsStay (w : Packages) : Type 0 where
  pub objects : (path : List ℕ) (o : Object) → Exports w path o → EntityHasStdMethods w o.entity
  pub beneath : (n : TypeName) (d : Defined) → entry (types_of w) n ≡ Some d → HasStdMethods w d.underlying
  pub declared : (n : TypeName) (d : Defined) (m : MethodOf) → entry (types_of w) n ≡ Some d → Has d.methods m → HasStdMethods w (function_type m.signature) × (is_std_sel w m.sel ≡ true → IsOfStd w (function_type m.signature))

-- the types of the standard library that two worlds have, and `error`
abbrev pub shared_std : Packages → Packages → TypeName → Bool
shared_std before after n = is_error n || (of_std (package_at before n.path) && of_std (package_at after n.path) && is_some (types_of before n))
