-- Guards and what clauses list, by the forms of types.
use Rattle.std.proofs.Common.{◌≡◌, ◌∙◌, ℕ, List, [], ◌∷◌, Option, Some, Bool, true, false, sym, ap, subst}
use Rattle.std.specs.List.{AllZip}
use Rattle.go_model.specs.declared.types.term.Method.{Method}
use Rattle.go_model.specs.declared.types.term.Term.{Term, Term-F}
use Rattle.go_model.specs.types.Underlying.{under}
use Rattle.go_rules.specs.Asks.{HasOperand, IsType}
use Rattle.go_rules.specs.Environments.{Env}
use Rattle.go_rules.specs.Expressions.{MayHold}
use Rattle.go_rules.specs.Nodes.{TypeLayer}
use Rattle.go_rules.specs.Operands.{IsTyped}
use Rattle.go_rules.specs.declared.operand.Operand.{Operand}
use Rattle.go_rules.specs.declared.predeclared.Predeclared.{Predeclared}
use Rattle.go_rules.specs.declared.predeclared.Predeclared.TheVariants as p
use Rattle.go_rules.specs.declared.seen.Seen.{Seen}
use Rattle.go_rules.specs.declared.seen.Seen.TheVariants as seen
use Rattle.go_rules.proofs.OneKind.{one_type}
use Rattle.go_rules.proofs.OneName.{one_some}
use Rattle.go_rules.proofs.OneOperand.{has_once, type_once}
use Rattle.go_selectors.specs.Answers.{Decides}
use Rattle.go_statement_rules.specs.Clauses.{IsNil, is_nil, nil_in_parentheses, Lists, lists_nil, lists_type, ListsAll, lists_more, lists_none}
use Rattle.go_syntax.specs.declared.expression.Expr.{Expr}
use Rattle.go_syntax.specs.declared.name.QualifiedName.{QualifiedName}
use Rattle.go_syntax.specs.declared.types.«Type».{«Type» as Typ, «Type-F» as Typ-F, «out-Type» as out-Typ, «roll-Type» as roll-Typ, «roll-out-Type» as roll-out-Typ}
use Rattle.go_syntax.specs.declared.types.«Type».TheVariants as type
use Rattle.go_syntax.specs.declared.types.«Type».TheVariants.{outs-Named, outs-Paren}
use Rattle.go_assignments.proofs.Decided.{decided_so}
use Rattle.go_clauses.specs.Clauses.{IsGuardOf}
use Rattle.go_clauses.specs.inner.Guards.{IsInterfaceOf, IsNilName, ListsType}

one_named : {l : TypeLayer} {q r : QualifiedName} → l ≡ Typ-F.«Type::Named» q → l ≡ Typ-F.«Type::Named» r → q ≡ r
one_named a b = cc

one_paren : {l : TypeLayer} {x y : Typ} → l ≡ Typ-F.«Type::Paren» x → l ≡ Typ-F.«Type::Paren» y → x ≡ y
one_paren a b = cc

named_type : (t : Typ) (q : QualifiedName) → out-Typ t ≡ Typ-F.«Type::Named» q → t ≡ type.Named q
named_type t q i = sym (roll-out-Typ t) ∙ ap roll-Typ i ∙ ap roll-Typ (sym (outs-Named q)) ∙ roll-out-Typ (type.Named q)

paren_type : (t u : Typ) → out-Typ t ≡ Typ-F.«Type::Paren» u → t ≡ type.Paren u
paren_type t u i = sym (roll-out-Typ t) ∙ ap roll-Typ i ∙ ap roll-Typ (sym (outs-Paren u)) ∙ roll-out-Typ (type.Paren u)

one_universe : {q r : Predeclared} → ◌≡◌ {A = Seen} (seen.Universe q) (seen.Universe r) → q ≡ r
one_universe e = cc

module _ (E : Env) where
  -- ---- guards

  pub no_interface : {o : Operand} {t : Term} → IsTyped o t → (((ms : List Method) × (under E.table t ≡ Term-F.Interface ms)) → ⊥) → (u : Term) → IsInterfaceOf E o u → ⊥
  no_interface h none u i = none (i.0, subst (λ (v : Term). under E.table v ≡ Term-F.Interface i.0) (one_type i.1 h) i.2)

  pub guard_in : {e : Expr} {o : Operand} → HasOperand E e o → (t : Term) → IsGuardOf E e t → IsInterfaceOf E o t
  guard_in h t g = (g.1, subst (λ (q : Operand). IsTyped q t) (has_once E g.2.is h.is) g.3, g.4)

  pub guard_to : {e : Expr} {o : Operand} → HasOperand E e o → (t : Term) → IsInterfaceOf E o t → IsGuardOf E e t
  guard_to h t i = (_, i.0, h, i.1, i.2)

  -- ---- nil

  pub means_decided : (name : List ℕ) (q : Predeclared) (b : Bool) → E.meaning name ≡ Some (seen.Universe q) → Decides b (q ≡ p.Nil) → Decides b (E.meaning name ≡ Some (seen.Universe p.Nil))
  means_decided name q b m d =
      decided_so (q ≡ p.Nil) (E.meaning name ≡ Some (seen.Universe p.Nil)) b (λ e. m ∙ ap (λ (r : Predeclared). Some (seen.Universe r)) e) (λ n. one_universe (one_some (sym m ∙ n))) d

  named_in : (t : Typ) (q : QualifiedName) → out-Typ t ≡ Typ-F.«Type::Named» q → IsNil E t → IsNilName E q
  named_in t q i (is_nil j k m) = subst (IsNilName E) (one_named j i) (k, m)
  named_in t q i (nil_in_parentheses j h) = absurd (cc)

  pub named_decided : (t : Typ) (q : QualifiedName) (b : Bool) → out-Typ t ≡ Typ-F.«Type::Named» q → Decides b (IsNilName E q) → Decides b (IsNil E t)
  named_decided t q true i d = is_nil i d.0 d.1
  named_decided t q false i d = λ h. d (named_in t q i h)

  paren_in : (t u : Typ) → out-Typ t ≡ Typ-F.«Type::Paren» u → IsNil E t → IsNil E u
  paren_in t u i (is_nil j k m) = absurd (cc)
  paren_in t u i (nil_in_parentheses j h) = subst (IsNil E) (one_paren j i) h

  pub paren_decided : (t u v : Typ) (b : Bool) → out-Typ t ≡ Typ-F.«Type::Paren» u → v ≡ u → Decides b (IsNil E v) → Decides b (IsNil E t)
  paren_decided t u v true i j d = nil_in_parentheses i (subst (IsNil E) j d)
  paren_decided t u v false i j d = λ h. d (subst (IsNil E) (sym j) (paren_in t u i h))

  pub other_form : (t : Typ) → ((q : QualifiedName) → t ≡ type.Named q → ⊥) → ((u : Typ) → t ≡ type.Paren u → ⊥) → IsNil E t → ⊥
  other_form t named paren (is_nil {q = q} i k m) = named q (named_type t q i)
  other_form t named paren (nil_in_parentheses {u = u} i h) = paren u (paren_type t u i)

  -- ---- what a clause lists

  module _ (interface : Term) where
    pub no_list : {t : Typ} {u : Term} → IsType E t u → (MayHold E interface u → ⊥) → (v : Term) → ListsType E interface t v → ⊥
    no_list h none v l = none (subst (MayHold E interface) (type_once E l.0.stands_for h.stands_for) l.1)

    pub type_in : {t : Typ} → (IsNil E t → ⊥) → (x : Option Term) → Lists E interface t x → (u : Term) × ListsType E interface t u
    type_in none x (lists_nil h) = absurd (none h)
    type_in none x (lists_type h m) = (_, (h, m))

    pub to_all : (ts : List Typ) (xs : List (Option Term)) → AllZip (Lists E interface) ts xs → ListsAll E interface ts xs
    to_all [] [] h = lists_none
    to_all [] (x ∷ xs) h = absurd h
    to_all (t ∷ ts) [] h = absurd h
    to_all (t ∷ ts) (x ∷ xs) h = lists_more h.0 (to_all ts xs h.1)

    pub in_all : (ts : List Typ) (xs : List (Option Term)) → ListsAll E interface ts xs → AllZip (Lists E interface) ts xs
    in_all ts xs lists_none = tt
    in_all ts xs (lists_more h r) = (h, in_all _ _ r)
