-- Field declarations, elements of interfaces and keys of elements stand for one thing, where their parts do.
use Rattle.std.proofs.Common.{◌≡◌, ℕ, Bool, true, false, List, [], ◌∷◌, ◌++◌, Option, Some, sym, ap, ◌∙◌, subst}
use Rattle.std.specs.Prelude.{map, pos}
use Rattle.go_model.specs.declared.types.package.ConstTerm.{ConstTerm}
use Rattle.go_model.specs.declared.types.term.Field.{Field}
use Rattle.go_model.specs.declared.types.term.Method.{Method, roll-Method}
use Rattle.go_model.specs.declared.types.term.Signature.{Signature}
use Rattle.go_model.specs.declared.types.term.Term.{Term, Term-F}
use Rattle.go_model.specs.declared.constants.value.Value.TheVariants as value
use Rattle.go_model.specs.types.Underlying.{under, methods_of}
use Rattle.go_rules.specs.Environments.{Env, selector_of}
use Rattle.go_rules.specs.Expressions.{DenotesImported, Has, HasFieldKey, field_key, HasForm, IsIndex, IsQuietCall, quiet_conversion, quiet_constant, IsTypeName, OfSignature, OfType, chain, field_of, is_constant, is_type, starred}
use Rattle.go_rules.specs.Nodes.{ExprLayer, PostLayer, FieldLayer, ElemLayer, ValueLayer}
use Rattle.go_rules.specs.Operands.{constant_of}
use Rattle.go_rules.specs.declared.operand.Operand.{Operand}
use Rattle.go_rules.proofs.OneForm.{Alone}
use Rattle.go_rules.proofs.OneKind.{no_truth, value_in}
use Rattle.go_rules.proofs.OneName.{one_imported, one_some, one_type_name}
use Rattle.go_rules.proofs.OneResult.{number_in, one_index}
use Rattle.go_syntax.specs.declared.expression.Element.{Element}
use Rattle.go_syntax.specs.declared.expression.ElementValue.{ElementValue, ElementValue-F, out-ElementValue}
use Rattle.go_syntax.specs.declared.expression.Expr.{Expr, Expr-F, out-Expr}
use Rattle.go_syntax.specs.declared.expression.Post.{Post, Post-F, out-Post}
use Rattle.go_syntax.specs.declared.name.Name.{Name}
use Rattle.go_syntax.specs.declared.name.QualifiedName.{QualifiedName}
use Rattle.go_syntax.specs.declared.types.FieldDecl.{FieldDecl-F}
use Rattle.go_syntax.specs.declared.types.InterfaceElem.{InterfaceElem-F}
use Rattle.go_syntax.specs.declared.types.Signature.{Signature as Sig, out-Signature as out-Sig}
use Rattle.go_syntax.specs.declared.types.«Type».{«Type» as Typ}

-- the type form stands for this type alone
abbrev pub OfAlone : Env → Typ → Term → Type 0
OfAlone E t u = (v : Term) → OfType E t v → u ≡ v

pub same_number : {c d : ConstTerm} {m n : ℕ} → constant_of c (value.Int (pos m)) ≡ constant_of d (value.Int (pos n)) → m ≡ n
same_number e = ap (λ (o : Operand). number_in (value_in o.shape)) e

-- ---- imported names

abbrev name_in : ExprLayer → Name → Name
name_in (Expr-F.Name n) d = n
name_in l d = d

abbrev selected_in : PostLayer → Name → Name
selected_in (Post-F.Selector n) d = n
selected_in l d = d

pub same_imported : (E : Env) (e : Expr) (x : Post) {p q m n : Name} {o r : Operand} → out-Expr e ≡ Expr-F.Name p → out-Post x ≡ Post-F.Selector m → DenotesImported E p m o
    → out-Expr e ≡ Expr-F.Name q → out-Post x ≡ Post-F.Selector n → DenotesImported E q n r → o ≡ r
same_imported E e x {p = p} {m = m} {n = n} {r = r} a b d f g k =
    let i = ap (λ l. name_in l p) (sym f ∙ a) in let j = ap (λ l. selected_in l m) (sym g ∙ b) in
    one_imported d (subst (λ z. DenotesImported E p z r) j (subst (λ z. DenotesImported E z n r) i k))

-- ---- keys

abbrev value_of_key : ValueLayer → Expr → Expr
value_of_key (ElementValue-F.Value e) d = e
value_of_key (ElementValue-F.«ElementValue::Literal» xs) d = d

pub same_key : {E : Env} {k : Option ElementValue} {v w : ElementValue} {e d : Expr} {o q : Operand} {m n : ℕ} → k ≡ Some v → out-ElementValue v ≡ ElementValue-F.Value e → Alone E e o → IsIndex E o (Some m)
    → k ≡ Some w → out-ElementValue w ≡ ElementValue-F.Value d → Has E d q → IsIndex E q (Some n) → m ≡ n
same_key {E = E} {e = e} {q = q} {n = n} a b one i f g h j =
    let key = one_some (sym f ∙ a) in
    let same = ap (λ l. value_of_key l e) (sym g ∙ ap out-ElementValue key ∙ b) in
    one_some (one_index i (subst (λ z. IsIndex E z (Some n)) (sym (one q (subst (λ z. Has E z q) same h))) j))

pub one_field_key : {x : Element} {m n : Name} → HasFieldKey x m → HasFieldKey x n → m ≡ n
one_field_key {m = m} (field_key {e = e} a b c) (field_key d f g) =
    let key = one_some (sym a ∙ d) in
    let same = ap (λ l. value_of_key l e) (sym b ∙ ap out-ElementValue key ∙ f) in
    ap (λ l. name_in l m) (sym c ∙ ap out-Expr same ∙ g)

-- ---- fields

abbrev is_named : FieldLayer → Bool
is_named (FieldDecl-F.«FieldDecl::Named» ns t tag) = true
is_named (FieldDecl-F.«FieldDecl::Embedded» star q tag) = false

pub named_or_embedded : {l : FieldLayer} {ns : List Name} {t : Typ} {tag other : Option (List ℕ)} {star : Bool} {q : QualifiedName} → l ≡ FieldDecl-F.«FieldDecl::Named» ns t tag → l ≡ FieldDecl-F.«FieldDecl::Embedded» star q other → ⊥
named_or_embedded e d = no_truth (ap is_named (sym e ∙ d))

pub same_named : {E : Env} {l : FieldLayer} {ns ms : List Name} {t r : Typ} {tag other : Option (List ℕ)} {u v : Term} {fs gs : List Field} → l ≡ FieldDecl-F.«FieldDecl::Named» ns t tag → OfAlone E t u → l ≡ FieldDecl-F.«FieldDecl::Named» ms r other → OfType E r v
    → fs ≡ gs → map (field_of E false u tag) ns ++ fs ≡ map (field_of E false v other) ms ++ gs
same_named {E = E} {ns = ns} {ms = ms} {t = t} {r = r} {tag = tag} {other = other} {v = v} e one d h f =
    let x : FieldDecl-F.«FieldDecl::Named» ns t tag ≡ FieldDecl-F.«FieldDecl::Named» ms r other = sym e ∙ d in
    let a : ns ≡ ms = cc in let b : t ≡ r = cc in let c : tag ≡ other = cc in
    let k = one v (subst (λ z. OfType E z v) (sym b) h) in
    λ i. map (field_of E false (k i) (c i)) (a i) ++ f i

pub same_embedded : (E : Env) {l : FieldLayer} {star sun : Bool} {p q : QualifiedName} {tag other : Option (List ℕ)} (u v : Term) {fs gs : List Field} → l ≡ FieldDecl-F.«FieldDecl::Embedded» star p tag → IsTypeName E p u → l ≡ FieldDecl-F.«FieldDecl::Embedded» sun q other → IsTypeName E q v
    → fs ≡ gs → field_of E true (starred star u) tag p.name ∷ fs ≡ field_of E true (starred sun v) other q.name ∷ gs
same_embedded E {star = star} {sun = sun} {p = p} {q = q} {tag = tag} {other = other} u v e g d h f =
    let x : FieldDecl-F.«FieldDecl::Embedded» star p tag ≡ FieldDecl-F.«FieldDecl::Embedded» sun q other = sym e ∙ d in
    let a : star ≡ sun = cc in let b : p ≡ q = cc in let c : tag ≡ other = cc in
    let k = one_type_name E p g (subst (λ z. IsTypeName E z v) (sym b) h) in
    λ i. field_of E true (starred (a i) (k i)) (c i) (b i).name ∷ f i

-- ---- methods

abbrev is_method : ElemLayer → Bool
is_method (InterfaceElem-F.Method n g) = true
is_method (InterfaceElem-F.«InterfaceElem::Embedded» q) = false

pub method_or_embedded : {l : ElemLayer} {n : Name} {g : Sig} {q : QualifiedName} → l ≡ InterfaceElem-F.Method n g → l ≡ InterfaceElem-F.«InterfaceElem::Embedded» q → ⊥
method_or_embedded e d = no_truth (ap is_method (sym e ∙ d))

pub same_method : {E : Env} {l : ElemLayer} {m n : Name} {g k : Sig} {u v : Signature} {ms ns : List Method} → l ≡ InterfaceElem-F.Method m g → ((w : Signature) → OfSignature E (out-Sig g).parameters (out-Sig g).result w → u ≡ w) → l ≡ InterfaceElem-F.Method n k → OfSignature E (out-Sig k).parameters (out-Sig k).result v
    → ms ≡ ns → ◌≡◌ {A = List Method} (roll-Method (record { sel = selector_of E m.text; signature = u }) ∷ ms) (roll-Method (record { sel = selector_of E n.text; signature = v }) ∷ ns)
same_method {E = E} {m = m} {n = n} {g = g} {k = k} {v = v} e one d h f =
    let x : InterfaceElem-F.Method m g ≡ InterfaceElem-F.Method n k = sym e ∙ d in
    let a : m ≡ n = cc in let b : g ≡ k = cc in
    let p = one v (subst (λ z. OfSignature E (out-Sig z).parameters (out-Sig z).result v) (sym b) h) in
    λ i. roll-Method (record { sel = selector_of E (a i).text; signature = p i }) ∷ f i

pub same_embedding : (E : Env) {l : ElemLayer} {p q : QualifiedName} (u v : Term) {hs gs ms ns : List Method} → l ≡ InterfaceElem-F.«InterfaceElem::Embedded» p → IsTypeName E p u → under E.table u ≡ Term-F.Interface hs → l ≡ InterfaceElem-F.«InterfaceElem::Embedded» q → IsTypeName E q v → under E.table v ≡ Term-F.Interface gs
    → ms ≡ ns → hs ++ ms ≡ gs ++ ns
same_embedding E {p = p} {q = q} u v e g r d h s f =
    let x : InterfaceElem-F.«InterfaceElem::Embedded» p ≡ InterfaceElem-F.«InterfaceElem::Embedded» q = sym e ∙ d in
    let b : p ≡ q = cc in
    let k = one_type_name E p g (subst (λ z. IsTypeName E z v) (sym b) h) in
    let w = ap methods_of (sym r ∙ ap (under E.table) k ∙ s) in
    λ i. w i ++ f i

-- ---- quiet calls

pub not_quiet : {E : Env} {x : Expr} {before : List Post} {c : Post} {o r : Operand} → ((q : Operand) → HasForm E (chain x before) q → o ≡ q) → is_type o.mode ≡ false → ((q : Operand) → HasForm E (chain x (before ++ c ∷ [])) q → r ≡ q) → is_constant r.mode ≡ false → IsQuietCall E x before c → ⊥
not_quiet one i other j (quiet_conversion a) = no_truth (ap (λ (o : Operand). is_type o.mode) (sym (one _ a)) ∙ i)
not_quiet one i other j (quiet_constant a) = no_truth (ap (λ (o : Operand). is_constant o.mode) (sym (other _ a)) ∙ j)
