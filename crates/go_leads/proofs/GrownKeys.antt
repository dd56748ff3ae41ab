-- Keys that were added: of a literal by its type, and of one whose type is written.
use Rattle.std.proofs.Common.{◌≡◌, List, [], ◌∷◌, ◌++◌, ap, sym, ◌∙◌, subst, inl, inr, Result, Ok, Err, OnOk}
use Rattle.go_base.specs.Growing.{Grows}
use Rattle.go_model.specs.declared.types.term.Term.{Term, Term-F}
use Rattle.go_model.specs.types.Terms.{Layer}
use Rattle.go_rules.specs.Environments.{Env}
use Rattle.go_rules.specs.Expressions.{OfType, array_of}
use Rattle.go_rules.proofs.OneOperand.{type_once}
use Rattle.go_syntax.specs.declared.expression.Element.{Element}
use Rattle.go_syntax.specs.declared.expression.Expr.{Expr-F}
use Rattle.go_syntax.specs.declared.name.Name.{Name}
use Rattle.go_syntax.specs.declared.types.«Type».{«Type» as Typ}
use Rattle.go_leads.specs.inner.Bares.{Literal, bare_values}
use Rattle.go_leads.specs.inner.FieldKeys.{KeyAt, KeyIn}
use Rattle.go_leads.specs.inner.Some.{SomeIn, keys_of}
use Rattle.go_leads.proofs.KeyLists.{Split, key_splits, of_inner}
use Rattle.go_leads.proofs.TreeKeys.{array_under}
use Rattle.go_leads.proofs.Walks.{grows_as, one_some, some_one}

-- what a call that may fail did
pub when_ok : {A X : Type 0} {P Q : Type 0} (r : Result A X) → (P → Q) → OnOk r P → OnOk r Q
when_ok (Ok a) f p = f p
when_ok (Err e) f p = tt

module _ (E : Env) (xs : List Element) (old new : List Name) where
  module _ (start all : List Literal) (s : start ≡ []) where
    pub literal_grows : (t : Term) → all ≡ start ++ (t, xs) ∷ [] → Grows (SomeIn (keys_of E) all) old new → Grows (KeyIn E t xs) old new
    literal_grows t a g =
        let one : List Literal = (t, xs) ∷ [] in
        let e : all ≡ one = a ∙ ap (λ ls. ls ++ one) s in
        grows_as (SomeIn (keys_of E) all) (KeyIn E t xs) old new
        (λ n k. some_one (keys_of E) (t, xs) n (subst (λ (ls : List Literal). SomeIn (keys_of E) ls n) e k))
        (λ n k. subst (λ (ls : List Literal). SomeIn (keys_of E) ls n) (sym e) (one_some (keys_of E) (t, xs) n k)) g

    pub array_grows : (u : Term) → all ≡ start ++ bare_values E u xs → Grows (SomeIn (keys_of E) all) old new → Grows (SomeIn (keys_of E) (bare_values E u xs)) old new
    array_grows u a g = subst (λ (ls : List Literal). Grows (SomeIn (keys_of E) ls) old new) (a ∙ ap (λ ls. ls ++ bare_values E u xs) s) g

  module _ (f : Typ) (t : Term) (o : OfType E f t) where
    pub composite_grows : Grows (KeyIn E t xs) old new → Grows (KeyAt E (Expr-F.Composite f xs)) old new
    composite_grows g = grows_as (KeyIn E t xs) (KeyAt E (Expr-F.Composite f xs)) old new (λ n k. (t, o, k)) (λ n k. subst (λ (u : Term). KeyIn E u xs n) (type_once E k.1 o) k.2) g

    array_of_bare : (n : Name) → SomeIn (keys_of E) (bare_values E t xs) n → KeyIn E (array_of 0 t) xs n
    array_of_bare n s = of_inner E n (array_of 0 t) xs (Term-F.Array 0 t) (array_under E 0 t) s

    bare_of_array : (n : Name) → KeyIn E (array_of 0 t) xs n → SomeIn (keys_of E) (bare_values E t xs) n
    bare_of_array n k =
        let s : Split E n (Term-F.Array 0 t) xs = subst (λ (l : Layer). Split E n l xs) (array_under E 0 t) (key_splits E n (array_of 0 t) xs k) in
        elim s [ inl h ↦ absurd h | inr b ↦ b ]

    pub composite_array_grows : Grows (SomeIn (keys_of E) (bare_values E t xs)) old new → Grows (KeyAt E (Expr-F.CompositeArray f xs)) old new
    composite_array_grows g = grows_as (SomeIn (keys_of E) (bare_values E t xs)) (KeyAt E (Expr-F.CompositeArray f xs)) old new (λ n s. (t, o, array_of_bare n s))
        (λ n k. bare_of_array n (subst (λ (u : Term). KeyIn E (array_of 0 u) xs n) (type_once E k.1 o) k.2)) g
