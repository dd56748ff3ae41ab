-- In the type of a receiver stand types alone.
use Rattle.std.proofs.Common.{inl, inr, ◌≡◌, ℕ, Bool, true, false, List, Option, Some, None, refl, sym, ap, ◌∙◌, subst}
use Rattle.go_base.specs.Lists.{Has}
use Rattle.go_rules.proofs.OneKind.{no_truth}
use Rattle.go_rules.specs.Nodes.{Node, Stands, TypeLayer, expression, parts, stands_here, stands_in, type, type_parts}
use Rattle.go_syntax.specs.declared.expression.Expr.{Expr}
use Rattle.go_syntax.specs.declared.types.ParameterDecl.{ParameterDecl, out-ParameterDecl}
use Rattle.go_syntax.specs.declared.types.«Type».{«Type» as Typ, «Type-F» as Typ-F, «fold-roll-Type» as fold-roll-Typ, «out-Type» as out-Typ, «roll-Type» as roll-Typ, «roll-out-Type» as roll-out-Typ}
use Rattle.go_typings.specs.Declarations.{Declaration}
use Rattle.go_typings.specs.Receivers.{NameForm, base, base_in, form_step, name_form, pointer_form, receiver_form}
use Rattle.go_typings.proofs.Cells.{none_some}

level_form : TypeLayer → Option NameForm
level_form (Typ-F.«Type::Named» q) = Some (record { pointer = false; name = q })
level_form (Typ-F.«Type::Paren» t) = name_form t
level_form (Typ-F.Pointer t) = pointer_form (name_form t)
level_form l = None

form_rolled : (l : TypeLayer) → name_form (roll-Typ l) ≡ level_form l
unfolding level_form
form_rolled (Typ-F.Pointer t) = fold-roll-Typ (Unit {0}) (Unit {0}) (Unit {0}) (Unit {0}) (Unit {0}) (Unit {0}) (Option NameForm) (Unit {0}) (Unit {0}) (Unit {0}) (λ x. tt) (λ x. tt) (λ x. tt) (λ x. tt) (λ x. tt) (λ x. tt) form_step (λ x. tt) (λ x. tt) (λ x. tt) (Typ-F.Pointer t)
form_rolled l = fold-roll-Typ (Unit {0}) (Unit {0}) (Unit {0}) (Unit {0}) (Unit {0}) (Unit {0}) (Option NameForm) (Unit {0}) (Unit {0}) (Unit {0}) (λ x. tt) (λ x. tt) (λ x. tt) (λ x. tt) (λ x. tt) (λ x. tt) form_step (λ x. tt) (λ x. tt) (λ x. tt) l

form_out : (t : Typ) → name_form t ≡ level_form (out-Typ t)
form_out t = ap name_form (sym (roll-out-Typ t)) ∙ form_rolled (out-Typ t)

behind_pointer : (c : Option NameForm) (f : NameForm) → pointer_form c ≡ Some f → (g : NameForm) × (c ≡ Some g)
behind_pointer None f e = none_some (pointer_form None) f refl e
behind_pointer (Some g) f e = (g, refl)

-- the part of a type that is written as a name is a type that is
part_named : (l : TypeLayer) (f : NameForm) → level_form l ≡ Some f → (b : Node) → Has (type_parts l) b → (t : Typ) × (type t ≡ b) × ((g : NameForm) × (name_form t ≡ Some g))
unfolding level_form
part_named (Typ-F.«Type::Named» q) f e b h = absurd h
part_named (Typ-F.«Type::Paren» t) f e b (inl i) = (t, i, (f, e))
part_named (Typ-F.«Type::Paren» t) f e b (inr h) = absurd h
part_named (Typ-F.Pointer t) f e b (inl i) = (t, i, behind_pointer (name_form t) f e)
part_named (Typ-F.Pointer t) f e b (inr h) = absurd h
part_named l f e b h = none_some {A = NameForm} None f refl e

abbrev is_expression : Node → Bool
is_expression (expression x) = true
is_expression n = false

-- no expression stands in a type that is written as a name
named_alone : (t : Typ) (f : NameForm) → name_form t ≡ Some f → (a b : Node) → type t ≡ a → Stands a b → is_expression b ≡ false
named_alone t f e a b i stands_here = ap is_expression (sym i)
named_alone t f e a c i (stands_in {b = b} h k) =
    let p = part_named (out-Typ t) f (sym (form_out t) ∙ e) b (subst (λ n. Has (parts n) b) (sym i) h) in
    named_alone p.0 p.2.0 p.2.1 b c p.1 k

based : (ds : List Declaration) (c : Option NameForm) (n : List ℕ) → base_in ds c ≡ Some n → (f : NameForm) × (c ≡ Some f)
based ds None n e = none_some (base_in ds None) n refl e
based ds (Some f) n e = (f, refl)

-- no expression stands in the type of a receiver with a base type
pub no_expression : (ds : List Declaration) (r : ParameterDecl) (n : List ℕ) → base ds r ≡ Some n → (x : Expr) → Stands (type (out-ParameterDecl r).type_) (expression x) → ⊥
no_expression ds r n e x h =
    let f = based ds (receiver_form r) n e in
    no_truth (named_alone (out-ParameterDecl r).type_ f.0 f.1 (type (out-ParameterDecl r).type_) (expression x) refl h)
