-- What the names of a short variable declaration declare, by what is offered to them.
use Rattle.std.proofs.Common.{◌≡◌, ◌∙◌, ℕ, suc, Bool, true, false, cond, List, [], ◌∷◌, Option, None, Some, Result, Ok, Err, length, refl, sym, ap, subst, inl, inr}
use Rattle.std.specs.Cmp.Lexicographic.{bytes_decides}
use Rattle.std.specs.Option.{option_or}
use Rattle.std.specs.Prelude.{is_some}
use Rattle.std.specs.Str.{bytes_eq}
use Rattle.std.specs.Result.{IsErrAnd}
use Rattle.go_base.specs.Lists.{Has as In}
use Rattle.go_model.specs.declared.types.package.ConstTerm.{ConstTerm}
use Rattle.go_model.specs.declared.types.package.ConstTerm.TheVariants as constant
use Rattle.go_model.specs.declared.types.term.Term.{Term}
use Rattle.go_model.specs.types.Terms.{blank}
use Rattle.go_operators.proofs.Answers.{decided_true, found_some}
use Rattle.go_rules.specs.Asks.{AreDistinctNames, texts}
use Rattle.go_rules.specs.Environments.{Env}
use Rattle.go_rules.specs.Expressions.{is_blank}
use Rattle.go_rules.specs.Names.{Named, value_at, with_value}
use Rattle.go_rules.specs.Operands.{default_type}
use Rattle.go_rules.specs.Scopes.{Scopes as Names, as_import, env_of, imports_of, innermost, outermost}
use Rattle.go_rules.specs.Usability.{UsableAs}
use Rattle.go_rules.specs.declared.operand.Operand.{Operand}
use Rattle.go_rules.specs.declared.seen.Seen.{Seen}
use Rattle.go_rules.specs.declared.seen.Seen.TheVariants as seen
use Rattle.go_rules.proofs.NamedEntries.{put_is}
use Rattle.go_rules.proofs.OneKind.{const_in, no_truth, typed}
use Rattle.go_selectors.specs.Answers.{Decides}
use Rattle.go_statement_rules.specs.Assignments.{AreDefined, defined_blank, defined_new, defined_none, defined_old}
use Rattle.go_statement_rules.specs.Scopes.{Scopes, Declares, declares_blank, declares_name, declares_none}
use Rattle.go_syntax.specs.declared.expression.Expr.{Expr}
use Rattle.go_syntax.specs.declared.name.Name.{Name}
use Rattle.go_type_terms.specs.declared.error.ExprError.{ExprError}
use Rattle.go_type_terms.specs.declared.error.ExprError.TheVariants.{Untyped}
use Rattle.go_typings.specs.Initializers.{TypeOfValue, default_of_constant, default_of_truth, own_type}
use Rattle.go_typings.proofs.OneEntry.{initialize_once}
use Rattle.go_usability.specs.Answers.{Gives}
use Rattle.go_assignments.specs.Definitions.{Defines}
use Rattle.go_assignments.specs.declared.defined.Offer.{Offer}
use Rattle.go_assignments.specs.inner.Definitions.{accepts_blank, accepts_new, accepts_old, AcceptsAll, AcceptsEach, AreGiven, AreOffers, MayTake, TellsGiven}
use Rattle.go_assignments.proofs.Accepting.{all_once}

-- ---- answers

not_true : (b : Bool) → (b ≡ true → ⊥) → b ≡ false
not_true true n = absurd (n refl)
not_true false n = refl

so_true : (P : Type 0) (b : Bool) → Decides b P → P → b ≡ true
so_true P true d p = refl
so_true P false d p = absurd (d p)

some_of : (v : Option Seen) → is_some v ≡ true → (m : Seen) × (v ≡ Some m)
some_of None e = absurd (no_truth (sym e))
some_of (Some m) e = (m, refl)

none_of : (v : Option Seen) → is_some v ≡ false → v ≡ None
none_of None e = refl
none_of (Some m) e = absurd (no_truth e)

given_some : (P : Term → Type 0) (r : Option Term) (t : Term) → Gives P r → P t → (u : Term) × (r ≡ Some u) × P u
given_some P None t g p = absurd (g t p)
given_some P (Some u) t g p = (u, refl, g)

-- ---- the one type of a value

abbrev of_const : ConstTerm → Term
of_const (constant.OfTerm t) = t
of_const (constant.OfKind k) = default_type k

typed_in : {E : Env} {o : Operand} {t : Term} → TypeOfValue E o t → of_const (const_in o.shape) ≡ t
typed_in (own_type h) = ap of_const (typed h)
typed_in (default_of_constant h) = refl
typed_in default_of_truth = refl

value_once : {E : Env} {o : Operand} {t u : Term} → TypeOfValue E o t → TypeOfValue E o u → t ≡ u
value_once a b = sym (typed_in a) ∙ typed_in b

-- ---- lengths

pub new_lengths : {E : Env} {scope : Named Seen} {ns : List Name} {os : List Operand} {xs : List (Option Name)} {ms : List Seen} → AreDefined E scope ns os xs ms → length ns ≡ length os
new_lengths defined_none = refl
new_lengths (defined_blank i t a) = ap suc (new_lengths a)
new_lengths (defined_old i u a) = ap suc (new_lengths a)
new_lengths (defined_new i j t a) = ap suc (new_lengths a)

nothing_before : {A : Type 0} {x : A} {xs : List A} → x ∷ xs ≡ [] → ⊥
nothing_before e = absurd (cc)

module _ (s : Names) (scope : Named Seen) (outer : Scopes) where
  -- the same with these names in the innermost scope
  abbrev holding : Named Seen → Names
  holding names = record s { opened = names ∷ outer }

  abbrev E : Env
  E = env_of (holding scope)

  meant : (n : List ℕ) (m : Seen) → value_at scope n ≡ Some m → E.meaning n ≡ Some m
  meant n m i = ap (λ (o : Option Seen). option_or (option_or o (innermost outer n)) (option_or (as_import (value_at (imports_of s s.file) n)) (outermost s n))) i

  may_take : (n : Name) (o : Operand) (t : Term) → value_at scope n.text ≡ Some (seen.Local t) → UsableAs E o t → MayTake E n o
  may_take n o t i u = (t, meant n.text (seen.Local t) i, u)

  -- the variable of the scope
  old_of : (n : Name) (o : Operand) → is_some (value_at scope n.text) ≡ true → MayTake E n o → (t : Term) × (value_at scope n.text ≡ Some (seen.Local t)) × UsableAs E o t
  old_of n o i h =
      let w = some_of (value_at scope n.text) i in
      (h.0, w.1 ∙ (sym (meant n.text w.0 w.1) ∙ h.1), h.2)

  -- they have what the scope has of these names
  abbrev Same : Named Seen → List Name → Type 0
  Same names ns = (q : List ℕ) → In (texts ns) q → value_at names q ≡ value_at scope q

  same_rest : (names : Named Seen) (n : Name) (ns : List Name) → Same names (n ∷ ns) → Same names ns
  same_rest names n ns w = λ q h. w q (inr h)

  same_put : (names : Named Seen) (n : Name) (ns : List Name) (m : Seen) → is_blank n.text ≡ false → ((other : List ℕ) → In (texts ns) other → other ≡ n.text → n.text ≡ blank) → Same names ns → Same (with_value names n.text m) ns
  same_put names n ns m b apart w = λ q h.
      let other : bytes_eq q n.text ≡ false = not_true (bytes_eq q n.text) (λ e. no_truth (sym ((bytes_decides n.text blank).1 (apart q h ((bytes_decides q n.text).0 e))) ∙ b)) in
      put_is q n.text m names ∙ ap (λ (c : Bool). cond c (Some m) (value_at names q)) other ∙ w q h

  -- ---- from what is accepted to what is declared

  abbrev Told : List Name → List Operand → Named Seen → Names → Bool → Type 0
  Told ns os names u any = (new : List (Option Name)) × (ms : List Seen) × (t : Scopes) × AreDefined E scope ns os new ms × Declares (names ∷ outer) new ms t × (u ≡ record s { opened = t }) × (any ≡ true → new ≡ [] → ⊥)

  to_defined : (ns : List Name) (os : List Operand) (xs : List Offer) (names : Named Seen) (u : Names) (any : Bool) → AreOffers E ns os xs → AreDistinctNames (texts ns) → Same names ns → AcceptsAll (holding names) xs u any → Told ns os names u any
  to_defined [] [] [] names u any f d w a = ([], [], names ∷ outer, defined_none, declares_none, a.0, λ j k. no_truth (sym j ∙ a.1))
  to_defined (n ∷ ns) (o ∷ os) (x ∷ xs) names u any f d w (mid, first, others, accepts_blank {t = t} i j g, rest, e) =
      let r = to_defined ns os xs names u others f.1 d.1 (same_rest names n ns w) (subst (λ (z : Names). AcceptsAll z xs u others) g rest) in
      let i' = subst (λ (m : Name). is_blank m.text ≡ true) f.0.named i in
      (r.0, r.1, r.2, defined_blank i' (found_some (TypeOfValue E o) x.term t j f.0.typed) r.3, r.4, r.5, λ y. r.6 (sym e ∙ y))
  to_defined (n ∷ ns) (o ∷ os) (x ∷ xs) names u any f d w (mid, first, others, accepts_old i j g, rest, e) =
      let r = to_defined ns os xs names u others f.1 d.1 (same_rest names n ns w) (subst (λ (z : Names). AcceptsAll z xs u others) g rest) in
      let i' = subst (λ (m : Name). is_some (value_at names m.text) ≡ true) f.0.named i in
      let there = ap is_some (sym (w n.text (inl refl))) ∙ i' in
      let v = old_of n o there (decided_true (MayTake E n o) x.fits j f.0.fits) in
      (r.0, r.1, r.2, defined_old v.1 v.2 r.3, r.4, r.5, λ y. r.6 (sym e ∙ y))
  to_defined (n ∷ ns) (o ∷ os) (x ∷ xs) names u any f d w (mid, first, others, accepts_new {t = t} i k j g, rest, e) =
      let i' = subst (λ (m : Name). is_blank m.text ≡ false) f.0.named i in
      let none = none_of (value_at names n.text) (subst (λ (m : Name). is_some (value_at names m.text) ≡ false) f.0.named k) in
      let g' = g ∙ ap (λ (m : Name). holding (with_value names m.text (seen.Local t))) f.0.named in
      let r = to_defined ns os xs (with_value names n.text (seen.Local t)) u others f.1 d.1 (same_put names n ns (seen.Local t) i' d.0 (same_rest names n ns w)) (subst (λ (z : Names). AcceptsAll z xs u others) g' rest) in (
        Some n ∷ r.0,
        seen.Local t ∷ r.1,
        r.2,
        defined_new i' (sym (w n.text (inl refl)) ∙ none) (found_some (TypeOfValue E o) x.term t j f.0.typed) r.3,
        declares_name i' none r.4,
        r.5,
        λ y z. nothing_before z,
      )
  to_defined ns os xs names u any f d w a = absurd f

  -- ---- and back

  abbrev Taken : List Offer → Named Seen → List (Option Name) → Scopes → Type 0
  Taken xs names new t = (any : Bool) × AcceptsAll (holding names) xs (record s { opened = t }) any × ((new ≡ [] → ⊥) → any ≡ true)

  from_defined : (ns : List Name) (os : List Operand) (xs : List Offer) (names : Named Seen) {new : List (Option Name)} {ms : List Seen} {t : Scopes} → AreOffers E ns os xs → AreDistinctNames (texts ns) → Same names ns → AreDefined E scope ns os new ms → Declares (names ∷ outer) new ms t → Taken xs names new t
  from_defined [] [] [] names f d w defined_none declares_none = (false, (refl, refl), λ n. absurd (n refl))
  from_defined (n ∷ ns) (o ∷ os) (x ∷ xs) names f d w (defined_blank {t = t} i v a) q =
      let r = from_defined ns os xs names f.1 d.1 (same_rest names n ns w) a q in
      let y = given_some (TypeOfValue E o) x.term t f.0.typed v in
      (r.0, (holding names, false, r.0, accepts_blank (subst (λ (m : Name). is_blank m.text ≡ true) (sym f.0.named) i) y.1 refl, r.1, refl), r.2)
  from_defined (n ∷ ns) (o ∷ os) (x ∷ xs) names f d w (defined_old {t = t} i v a) q =
      let r = from_defined ns os xs names f.1 d.1 (same_rest names n ns w) a q in
      let there : is_some (value_at names n.text) ≡ true = ap is_some (w n.text (inl refl) ∙ i) in
      let k = subst (λ (m : Name). is_some (value_at names m.text) ≡ true) (sym f.0.named) there in
      (r.0, (holding names, false, r.0, accepts_old k (so_true (MayTake E n o) x.fits f.0.fits (may_take n o t i v)) refl, r.1, refl), r.2)
  from_defined (n ∷ ns) (o ∷ os) (x ∷ xs) names f d w (defined_new i j v a) (declares_blank k q) = absurd (no_truth (sym k ∙ i))
  from_defined (n ∷ ns) (o ∷ os) (x ∷ xs) names f d w (defined_new {t = t} i j v a) (declares_name k l q) =
      let r = from_defined ns os xs (with_value names n.text (seen.Local t)) f.1 d.1 (same_put names n ns (seen.Local t) i d.0 (same_rest names n ns w)) a q in
      let y = given_some (TypeOfValue E o) x.term t f.0.typed v in
      let b = subst (λ (m : Name). is_blank m.text ≡ false) (sym f.0.named) i in
      let free : is_some (value_at names n.text) ≡ false = ap is_some l in
      let c = subst (λ (m : Name). is_some (value_at names m.text) ≡ false) (sym f.0.named) free in
      let g : holding (with_value names n.text (seen.Local t)) ≡ holding (with_value names x.name.now.text (seen.Local y.0)) =
      ap (λ (z : Term). holding (with_value names n.text (seen.Local z))) (value_once v y.2) ∙ ap (λ (m : Name). holding (with_value names m.text (seen.Local y.0))) (sym f.0.named) in
      (true, (holding (with_value names n.text (seen.Local t)), true, r.0, accepts_new b c y.1 g, r.1, refl), λ z. refl)
  from_defined ns os xs names f d w a q = absurd f

-- ---- the whole

module _ (s : Names) (ns : List Name) (es : List Expr) where
  -- with a scope that is opened
  as_opened : {scope : Named Seen} {outer : Scopes} → s.opened ≡ scope ∷ outer → s ≡ record s { opened = scope ∷ outer }
  as_opened e = ap (λ (o : Scopes). record s { opened = o }) e

  given_in : (o t : Scopes) → Defines (env_of s) o ns es t → (os : List Operand) × AreGiven (env_of s) ns es os
  given_in [] t h = absurd h
  given_in (scope ∷ outer) t h = (h.0, (h.3, h.4, h.7, new_lengths h.5))

  -- the values are given where the declaration is typed
  pub defines_given : (t : Scopes) → Defines (env_of s) s.opened ns es t → (os : List Operand) × AreGiven (env_of s) ns es os
  defines_given t h = given_in s.opened t h

  module _ (os : List Operand) (xs : List Offer) (given : AreGiven (env_of s) ns es os) (offers : AreOffers (env_of s) ns os xs) where
    to_defines : (o : Scopes) → s.opened ≡ o → (o ≡ [] → ⊥) → (u : Names) → AcceptsAll s xs u true → Defines (env_of s) o ns es u.opened
    to_defines [] e n u a = absurd (n refl)
    to_defines (scope ∷ outer) e n u a =
        let same = as_opened e in
        let f = subst (λ (z : Names). AreOffers (env_of z) ns os xs) same offers in
        let r = to_defined s scope outer ns os xs scope u true f given.0 (λ q h. refl) (subst (λ (z : Names). AcceptsAll z xs u true) same a) in (
          os,
          r.0,
          r.1,
          given.0,
          given.1,
          subst (λ (z : Names). AreDefined (env_of z) scope ns os r.0 r.1) (sym same) r.3,
          r.6 refl,
          given.2,
          subst (Declares (scope ∷ outer) r.0 r.1) (sym (ap (λ (z : Names). z.opened) r.5)) r.4,
        )

    pub accepted_defines : (s.opened ≡ [] → ⊥) → (u : Names) → AcceptsAll s xs u true → Defines (env_of s) s.opened ns es u.opened
    accepted_defines n u a = to_defines s.opened refl n u a

    from_defines : (o : Scopes) → s.opened ≡ o → (t : Scopes) → Defines (env_of s) o ns es t → (u : Names) × AcceptsAll s xs u true
    from_defines [] e t h = absurd h
    from_defines (scope ∷ outer) e t (qs, new, ms, d, i, a, n, m, q) =
        let same = as_opened e in
        let f = subst (λ (z : Names). AreOffers (env_of z) ns os xs) same offers in
        let b = subst (λ (ps : List Operand). AreDefined (env_of s) scope ns ps new ms) (initialize_once (env_of s) i given.1) a in
        let r = from_defined s scope outer ns os xs scope f given.0 (λ y h. refl) (subst (λ (z : Names). AreDefined (env_of z) scope ns os new ms) same b) q in
        (record s { opened = t }, subst (λ (c : Bool). AcceptsAll s xs (record s { opened = t }) c) (r.2 n) (subst (λ (z : Names). AcceptsAll z xs (record s { opened = t }) r.0) (sym same) r.1))

    -- each name accepts what it is offered, and one is new, where the declaration is typed
    pub defines_accepted : (t : Scopes) → Defines (env_of s) s.opened ns es t → (u : Names) × AcceptsAll s xs u true
    defines_accepted t h = from_defines s.opened refl t h

    -- so it isn't where none is new
    pub none_new : (u : Names) → AcceptsAll s xs u false → (t : Scopes) → Defines (env_of s) s.opened ns es t → ⊥
    none_new u a t h = let w = defines_accepted t h in no_truth ((all_once xs s w.0 u true false w.1 a).1)

-- what an error that is handed on tells
handed_on : {B : Type 0} (e : ExprError) (r : Result B ExprError) → IsErrAnd r (λ x. x ≡ e) → ◌≡◌ {A = Result B ExprError} r (Err Untyped) → e ≡ Untyped
handed_on e (Ok b) i j = absurd i
handed_on e (Err x) i j = let k : x ≡ Untyped = cc in sym i ∙ k

module _ (s : Names) (ns : List Name) (es : List Expr) (r : Result (Unit {0}) ExprError) (e : ExprError) (i : IsErrAnd r (λ x. x ≡ e)) where
  -- where nothing is offered
  pub undefined_given : TellsGiven (env_of s) ns es (Err e) → ◌≡◌ {A = Result (Unit {0}) ExprError} r (Err Untyped) → (t : Scopes) → Defines (env_of s) s.opened ns es t → ⊥
  undefined_given w j t h =
      let n = subst (λ (x : ExprError). TellsGiven (env_of s) ns es (Err x)) (handed_on e r i j) w in
      let g = defines_given s ns es t h in
      n g.0 g.1

  -- and where it isn't accepted
  pub undefined_each : (os : List Operand) (xs ys : List Offer) → AreGiven (env_of s) ns es os → AreOffers (env_of s) ns os xs → ys ≡ xs → (u : Names) → AcceptsEach s ys u (Err e) → ◌≡◌ {A = Result (Unit {0}) ExprError} r (Err Untyped) → (t : Scopes) → Defines (env_of s) s.opened ns es t → ⊥
  undefined_each os xs ys g f k u w j t h =
      let n = subst (λ (x : ExprError). AcceptsEach s ys u (Err x)) (handed_on e r i j) w in
      let a = defines_accepted s ns es os xs g f t h in
      n a.0 true (subst (λ (zs : List Offer). AcceptsAll s zs a.0 true) (sym k) a.1)
