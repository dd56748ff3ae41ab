-- A search for all selectors at once: the candidate of each for the method set.
-- Own: words of the contracts inside this crate.
use Rattle.std.specs.Prelude.{◌≡◌, ◌↔◌, ◌&&◌, not, nat_eq, ℕ, Bool, List, [], ◌∷◌, ◌++◌, map, Option, Some, None, if◌then◌else◌}
use Rattle.std.specs.BTreeMap.{BTreeMap, get}
use Rattle.std.specs.List.Sorted.{IsStrictlySortedBy}
use denote.Ref.{Bor}
use Rattle.go_base.specs.Gathered.{gather}
use Rattle.go_base.specs.Lists.{Has}
use Rattle.go_model.specs.types.Tables.{Table}
use Rattle.go_model.specs.types.Terms.{same_sel}
use Rattle.go_model.specs.types.Selectors.{Ending, Target, field, method, field_ending, declared_ending, method_ending}
use Rattle.go_model.specs.types.MethodSets.{InSet, method_sel, sel_order}
use Rattle.go_model.specs.declared.types.names.Sel.{Sel}
use Rattle.go_model.specs.declared.types.names.TypeName.{TypeName}
use Rattle.go_model.specs.declared.types.package.MethodOf.{MethodOf}
use Rattle.go_model.specs.declared.types.term.Field.{Field}
use Rattle.go_model.specs.declared.types.term.Term.{Term}
use Rattle.go_model.specs.declared.types.term.Method.{Method, out-Method}
use Rattle.go_model.specs.declared.types.term.Signature.{Signature}

-- the least depth at which paths of a selector end, and the method where just one ends there and can be called on the type itself
pub record Candidate : Type 0 where
  pub depth : ℕ
  pub called : Option Signature

abbrev pub signature_of : Option (Bor Signature) → Option Signature
signature_of None = None
signature_of (Some g) = Some g.now

abbrev pub depth_of : Option Candidate → Option ℕ
depth_of None = None
depth_of (Some x) = Some x.depth

abbrev pub called_of : Option Candidate → Option Signature
called_of None = None
called_of (Some x) = x.called

-- the method, where it can be called on the type itself
abbrev pub called_method : Bool → Bool → Signature → Option Signature
called_method pointer through g = if pointer && not through then None else Some g

abbrev pub called_target : Bool → Target → Option Signature
called_target through (field t) = None
called_target through (method owner pointer g) = called_method pointer through g

-- one more path ends at a depth, and none ends at a smaller one that isn't known
abbrev pub noted : ℕ → Option Signature → Option Candidate → Option Candidate
noted depth called None = Some (record { depth = depth; called = called })
noted depth called (Some x) = if nat_eq x.depth depth then Some (record { depth = depth; called = None }) else Some x

abbrev pub all_noted : ℕ → List Ending → Option Candidate → Option Candidate
all_noted depth [] x = x
all_noted depth (e ∷ es) x = all_noted depth es (noted depth (called_target e.through e.target) x)

abbrev pub Candidates : Type 0
Candidates = BTreeMap Sel Candidate

abbrev pub candidate_at : Candidates → Sel → Option Candidate
candidate_at m s = get sel_order m s

abbrev pub called_at : Candidates → Sel → Option Signature
called_at m s = called_of (candidate_at m s)

-- this is known of one selector, and of the others what was
abbrev pub Puts : Candidates → Candidates → Sel → Candidate → Type 0
Puts old new k x = (s : Sel) → candidate_at new s ≡ (if same_sel k s then Some x else candidate_at old s)

-- nothing is known of this selector, and of the others what was
abbrev pub Removes : Candidates → Candidates → Sel → Type 0
Removes old new k = (s : Sel) → candidate_at new s ≡ (if same_sel k s then None else candidate_at old s)

-- a path of one selector was noted
abbrev pub NotesOne : ℕ → Option Signature → Candidates → Candidates → Sel → Type 0
NotesOne depth called old new k = (s : Sel) → candidate_at new s ≡ (if same_sel k s then noted depth called (candidate_at old s) else candidate_at old s)

-- the paths that each selector has here were noted
abbrev pub Notes : ℕ → Candidates → Candidates → (Sel → List Ending) → Type 0
Notes depth old new es = (s : Sel) → candidate_at new s ≡ all_noted depth (es s) (candidate_at old s)

-- what is known of a selector, unless these paths end in fields
abbrev pub unhidden : List Ending → Option Candidate → Option Candidate
unhidden [] x = x
unhidden (e ∷ es) x = None

-- nothing is known of the selectors that have these paths, and of the others what was
abbrev pub Hides : Candidates → Candidates → (Sel → List Ending) → Type 0
Hides old new es = (s : Sel) → candidate_at new s ≡ unhidden (es s) (candidate_at old s)

-- the candidates among the methods that stand in a type itself, beside these fields
abbrev pub HoldOwnMethods : Bool → List Field → List MethodOf → List Method → Candidates → Type 0
HoldOwnMethods through fields declared methods m = (owner : Option TypeName) (s : Sel) → candidate_at m s ≡ unhidden (gather (field_ending s through) fields) (all_noted 0 (gather (declared_ending owner s through) declared ++ gather (method_ending s through) methods) None)

-- the candidates hold the method set of the type
abbrev pub HoldMethodSet : Table → Term → Candidates → Type 0
HoldMethodSet T t m = (s : Sel) (g : Signature) → (called_at m s ≡ Some g) ↔ InSet T t s g

-- the method is among the candidates, with its signature
abbrev pub IsCandidate : Candidates → Method → Type 0
IsCandidate m x = called_at m (out-Method x).sel ≡ Some (out-Method x).signature

abbrev pub AreCandidates : Candidates → List Method → Type 0
AreCandidates m xs = (x : Method) → Has xs x → IsCandidate m x

-- a method is added, where there is one
abbrev pub AddsMethod : Sel → Option Signature → List Method → List Method → Type 0
AddsMethod s None old new = new ≡ old
AddsMethod s (Some g) old new = (m : Method) × (new ≡ old ++ m ∷ []) × ((out-Method m).sel ≡ s) × ((out-Method m).signature ≡ g)

-- the methods among the candidates, in order, each once
pub record Lists (m : Candidates) (ms : List Method) : Type 0 where
  pub ordered : IsStrictlySortedBy sel_order (map method_sel ms)
  pub exact : (x : Method) → Has ms x ↔ IsCandidate m x
