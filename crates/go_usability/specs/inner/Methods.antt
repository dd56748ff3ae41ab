-- The methods that are found, and those of an interface that a type has.
use Rattle.std.specs.Prelude.{◌≡◌, ◌&&◌, Bool, false, not, List, Option, Some, None, if◌then◌else◌}
use Rattle.go_base.specs.Lists.{Has}
use Rattle.go_model.specs.declared.types.found.Found.TheVariants as find
use Rattle.go_model.specs.declared.types.found.Found.{Found as Find}
use Rattle.go_model.specs.declared.types.term.Method.{Method, out-Method}
use Rattle.go_model.specs.declared.types.term.Signature.{Signature}
use Rattle.go_model.specs.declared.types.term.Term.{Term}
use Rattle.go_rules.specs.Environments.{Env, HasMethod}

-- the signature of the method that was found, where it can be called on a value that is addressable or not
abbrev pub called_in : Bool → Option Find → Option Signature
called_in addressable (Some (find.MethodAt m)) = if m.pointer_receiver && not m.through_pointer && not addressable then None else Some m.signature
called_in addressable r = None

-- what was found is this method, and can be called on a value that isn't addressable
abbrev pub IsCalled : Option Find → Method → Type 0
IsCalled r m = called_in false r ≡ Some (out-Method m).signature

-- the method can be called on a value of the type that isn't addressable
abbrev pub Holds : Env → Term → Method → Type 0
Holds E t m = HasMethod E false t (out-Method m).sel (out-Method m).signature

-- each of the methods can
abbrev pub HoldsEach : Env → Term → List Method → Type 0
HoldsEach E t ms = (m : Method) → Has ms m → Holds E t m
