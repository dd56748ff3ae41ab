-- The fields and methods that one declaration gives, and the methods of an interface in order.
-- Public source: Go specification, "Struct types" and "Interface types".
use Rattle.std.specs.Prelude.{◌≡◌, true, false, List, [], ◌∷◌, map}
use Rattle.std.specs.List.Sorted.{IsStrictlySortedBy}
use Rattle.go_base.specs.Lists.{Has as In}
use Rattle.go_model.specs.declared.types.term.Field.{Field}
use Rattle.go_model.specs.declared.types.term.Method.{Method, roll-Method}
use Rattle.go_model.specs.declared.types.term.Signature.{Signature}
use Rattle.go_model.specs.declared.types.term.Term.{Term, Term-F}
use Rattle.go_model.specs.types.MethodSets.{method_sel, sel_order}
use Rattle.go_model.specs.types.Underlying.{under}
use Rattle.go_syntax.specs.declared.name.Name.{Name}
use Rattle.go_syntax.specs.declared.types.FieldDecl.{FieldDecl-F}
use Rattle.go_syntax.specs.declared.types.InterfaceElem.{InterfaceElem-F}
use Rattle.go_syntax.specs.declared.types.Signature.{out-Signature as out-Sig}
use Rattle.go_rules.specs.Environments.{Env, selector_of}
use Rattle.go_rules.specs.Expressions.{IsTypeName, OfSignature, OfType, field_of, starred}
use Rattle.go_rules.specs.Nodes.{ElemLayer, FieldLayer}

-- the fields that a declaration gives
abbrev pub OfField : Env → FieldLayer → List Field → Type 0
OfField E (FieldDecl-F.«FieldDecl::Named» ns t tag) fs = (u : Term) × OfType E t u × (fs ≡ map (field_of E false u tag) ns)
OfField E (FieldDecl-F.«FieldDecl::Embedded» star q tag) fs = (u : Term) × IsTypeName E q u × (fs ≡ field_of E true (starred star u) tag q.name ∷ [])

-- the method of this name and signature
abbrev pub method_of : Env → Name → Signature → Method
method_of E n g = roll-Method (record { sel = selector_of E n.text; signature = g })

-- the methods that an element of an interface gives
abbrev pub OfElement : Env → ElemLayer → List Method → Type 0
OfElement E (InterfaceElem-F.Method n g) ms =
    (h : Signature) × OfSignature E (out-Sig g).parameters (out-Sig g).result h × (ms ≡ method_of E n h ∷ [])
OfElement E (InterfaceElem-F.«InterfaceElem::Embedded» q) ms = (u : Term) × IsTypeName E q u × (under E.table u ≡ Term-F.Interface ms)

-- these methods in the order of their selectors, each once
pub record IsOrdered (all ms : List Method) : Type 0 where
  pub sorted : IsStrictlySortedBy sel_order (map method_sel ms)
  pub among : (m : Method) → In ms m → In all m
  pub each : (m : Method) → In all m → In ms m
