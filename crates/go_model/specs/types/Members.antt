-- The struct and interface types that stand in a type, each by the selectors of its fields or methods, and what is kept of them.
-- Public source: Go specification, "Struct types" and "Interface types".
use Rattle.std.specs.Prelude.{◌≡◌, List, [], ◌∷◌, ◌++◌, map}
use Rattle.std.specs.List.Sorted.{IsStrictlySortedBy}
use Rattle.go_base.specs.Lists.{Has, Each}
use Rattle.go_base.specs.Gathered.{gather}
use Rattle.go_model.specs.declared.types.names.Sel.{Sel}
use Rattle.go_model.specs.declared.types.term.Term.{Term, Term-F, fold-Term}
use Rattle.go_model.specs.declared.types.term.Field.{Field, Field-F, out-Field}
use Rattle.go_model.specs.declared.types.term.Method.{Method-F}
use Rattle.go_model.specs.declared.types.term.Signature.{Signature, Signature-F, fold-Signature}
use Rattle.go_model.specs.types.Terms.{IsBlank}
use Rattle.go_model.specs.types.MethodSets.{sel_order}

-- a struct type by the selectors of its fields, or an interface type by those of its methods
pub data Members : Type 0 where
  fields : List Sel → Members
  methods : List Sel → Members

-- a field or method: its selector, and the struct and interface types in its type
pub record Member : Type 0 where
  pub sel : Sel
  pub within : List Members

abbrev pub sel_of : Member → Sel
sel_of m = m.sel

abbrev pub within_of : Member → List Members
within_of m = m.within

-- the selector of a field
abbrev pub field_sel : Field → Sel
field_sel f = (out-Field f).sel

abbrev pub field_member : Field-F (List Members) Member Member (List Members) → Member
field_member f = record { sel = f.sel; within = f.term }

abbrev pub method_member : Method-F (List Members) Member Member (List Members) → Member
method_member m = record { sel = m.sel; within = m.signature }

abbrev pub parameter_members : Signature-F (List Members) Member Member (List Members) → List Members
parameter_members g = gather (λ x. x) g.params ++ gather (λ x. x) g.results

abbrev pub member_step : Term-F (List Members) Member Member (List Members) → List Members
member_step (Term-F.Plain b) = []
member_step (Term-F.Named n) = []
member_step (Term-F.Pointer e) = e
member_step (Term-F.Slice e) = e
member_step (Term-F.Array n e) = e
member_step (Term-F.Map k e) = k ++ e
member_step (Term-F.Chan d e) = e
member_step (Term-F.Func g) = g
member_step (Term-F.Struct fs) = fields (map sel_of fs) ∷ gather within_of fs
member_step (Term-F.Interface ms) = methods (map sel_of ms) ∷ gather within_of ms

-- the struct and interface types in a type
abbrev pub members : Term → List Members
members = fold-Term (List Members) Member Member (List Members) member_step field_member method_member parameter_members

-- the struct and interface types in a signature
abbrev pub signature_members : Signature → List Members
signature_members = fold-Signature (List Members) Member Member (List Members) member_step field_member method_member parameter_members

-- no two names but `_` are the same
abbrev pub AreDistinct : List Sel → Type 0
AreDistinct [] = Unit {0}
AreDistinct (s ∷ ss) = ((other : Sel) → Has ss other → other.name ≡ s.name → IsBlank s) × AreDistinct ss

-- methods in order, by name and then by package, each once, and none named `_`
pub record AreOrdered (ss : List Sel) : Type 0 where
  pub ordered : IsStrictlySortedBy sel_order ss
  pub named : Each (λ s. IsBlank s → ⊥) ss

-- the names of a struct's fields are distinct, `_` aside; the methods of an interface are in order, and none is named `_`
abbrev pub IsWellFormed : Members → Type 0
IsWellFormed (fields ss) = AreDistinct ss
IsWellFormed (methods ss) = AreOrdered ss
