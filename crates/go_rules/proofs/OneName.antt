-- A name denotes one operand, and a type's name one type.
use Rattle.std.proofs.Common.{◌≡◌, ℕ, Bool, true, false, List, [], Option, Some, None, sym, ap, ◌∙◌}
use Rattle.go_model.specs.declared.types.term.Term.{Term}
use Rattle.go_rules.specs.Environments.{Env}
use Rattle.go_rules.specs.Expressions.{Denotes, DenotesImported, IsTypeName, NamesType, seen_operand}
use Rattle.go_rules.specs.Operands.{denoted, type_name}
use Rattle.go_rules.specs.declared.operand.Operand.{Operand}
use Rattle.go_rules.specs.declared.seen.Seen.{Seen}
use Rattle.go_rules.specs.declared.seen.Seen.TheVariants as seen
use Rattle.go_rules.proofs.OneKind.{no_truth, const_in, term_in}
use Rattle.go_syntax.specs.declared.name.Name.{Name}
use Rattle.go_syntax.specs.declared.name.QualifiedName.{QualifiedName}

-- the value of what has one
abbrev value_or : {A : Type 0} → A → Option A → A
value_or d None = d
value_or d (Some x) = x

pub one_some : {A : Type 0} {x y : A} → Some x ≡ Some y → x ≡ y
one_some {x = x} e = ap (value_or x) e

abbrev is_some : {A : Type 0} → Option A → Bool
is_some None = false
is_some (Some x) = true

pub none_some : {A : Type 0} {x : A} → None ≡ Some x → ⊥
none_some e = no_truth (ap is_some (sym e))

pub one_denoted : {E : Env} {n : Name} {o q : Operand} → Denotes E n o → Denotes E n q → o ≡ q
one_denoted {E = E} a b = one_some (sym a.denotes ∙ ap (seen_operand E.iota) (one_some (sym a.means ∙ b.means)) ∙ b.denotes)

abbrev path_in : Seen → List ℕ
path_in (seen.Import path) = path
path_in m = []

pub one_imported : {E : Env} {p n : Name} {o q : Operand} → DenotesImported E p n o → DenotesImported E p n q → o ≡ q
one_imported {E = E} {n = n} a b =
    let path = ap path_in (one_some (sym a.imported ∙ b.imported)) in
    let object = one_some (sym a.declared ∙ ap (λ x. E.object x n.text) path ∙ b.declared) in
    sym a.denotes ∙ ap denoted object ∙ b.denotes

-- an imported package is no operand by itself
pub no_import : {E : Env} {p n : Name} {o q : Operand} → Denotes E p o → DenotesImported E p n q → ⊥
no_import {E = E} a b = none_some (ap (seen_operand E.iota) (one_some (sym b.imported ∙ a.means)) ∙ a.denotes)

pub one_name : {t u : Term} → type_name t ≡ type_name u → t ≡ u
one_name e = ap (λ (o : Operand). term_in (const_in o.shape)) e

names_one : (E : Env) (q : Option Name) (n : Name) {t u : Term} → NamesType E q n t → NamesType E q n u → t ≡ u
names_one E None n a b = one_name (one_denoted a b)
names_one E (Some q) n a b = one_name (one_imported a b)

pub one_type_name : (E : Env) (q : QualifiedName) {t u : Term} → IsTypeName E q t → IsTypeName E q u → t ≡ u
one_type_name E q a b = names_one E q.qualifier q.name a b
