-- What the search for a selector depends on: the types on its way.
-- Public source: Go specification, "Selectors", for the way; that nothing else counts is own.
use Rattle.std.specs.Prelude.{◌≡◌, ◌++◌, List, ◌∷◌, map}
use Rattle.std.specs.List.{filter}
use Rattle.go_base.specs.Lists.{Has}
use Rattle.go_model.specs.types.Tables.{Table}
use Rattle.go_model.specs.types.Terms.{same_sel}
use Rattle.go_model.specs.types.Underlying.{under, declared_methods}
use Rattle.go_model.specs.types.Selectors.{Spot, steps, start, base_of}
use Rattle.go_model.specs.declared.types.names.Sel.{Sel}
use Rattle.go_model.specs.declared.types.term.Term.{Term, out-Term}
use Rattle.go_model.specs.declared.types.term.Field.{Field, out-Field}
use Rattle.go_model.specs.declared.types.package.MethodOf.{MethodOf}

-- a spot stands on the way from another, through embedded fields
pub data OnWay (T : Table) : Spot → Spot → Type 0 where
  here : {at : Spot} → OnWay T at at
  further : {at next last : Spot} → Has (steps T at) next → OnWay T next last → OnWay T at last

-- the declared methods of a type that have the selector
abbrev pub declared_with : Table → Sel → Term → List MethodOf
declared_with T s t = filter (λ m. same_sel m.sel s) (declared_methods T (out-Term t))

-- two tables have the same underneath a type, and the same declared methods of the selector
pub record AgreeAt (s : Sel) (A B : Table) (t : Term) : Type 0 where
  pub underneath : under A t ≡ under B t
  pub methods : declared_with A s t ≡ declared_with B s t

-- they agree at each type on the way from a spot
abbrev pub AgreeFrom : Sel → Table → Table → Spot → Type 0
AgreeFrom s A B at = (x : Spot) → OnWay A at x → AgreeAt s A B x.term

-- they agree on all that the search for the selector in a type depends on
pub record AgreeIn (s : Sel) (A B : Table) (t : Term) : Type 0 where
  pub base : under A (base_of t) ≡ under B (base_of t)
  pub way : AgreeFrom s A B (start A t)

abbrev pub sel_of : Field → Sel
sel_of f = (out-Field f).sel

-- a field of the list has its selector alone
pub record IsAlone (fs : List Field) (f : Field) : Type 0 where
  pub before : List Field
  pub after : List Field
  pub is : fs ≡ before ++ f ∷ after
  pub none : Has (map sel_of (before ++ after)) (sel_of f) → ⊥
