-- What the clauses of switches list, and what ranges give, on both sides.
use Rattle.std.proofs.Common.{◌≡◌, inl, inr, ℕ, zero, suc, Bool, List, [], ◌∷◌, ◌++◌, map, refl, sym, ap, subst, Option, Some, None}
use Rattle.std.specs.Prelude.{take}
use Rattle.go_base.specs.Lists.{Each}
use Rattle.go_model.specs.declared.constants.value.Basic.TheVariants as basic
use Rattle.go_model.specs.declared.types.names.Sel.{Sel}
use Rattle.go_model.specs.declared.types.names.TypeName.{TypeName}
use Rattle.go_model.specs.declared.types.term.Method.{Method}
use Rattle.go_model.specs.declared.types.term.Term.{Term, Term-F}
use Rattle.go_model.specs.types.Underlying.{under}
use Rattle.go_rules.specs.Asks.{IsType, Meets}
use Rattle.go_rules.specs.Environments.{Env}
use Rattle.go_rules.specs.Nodes.{Node, expression}
use Rattle.go_rules.specs.Operands.{basic_term}
use Rattle.go_rules.specs.declared.operand.Operand.{Operand}
use Rattle.go_statement_rules.specs.Clauses.{IsCase, IsNil, is_nil, nil_in_parentheses, IsTag, no_tag, tag, Lists, lists_nil, lists_type, ListsAll, lists_more, lists_none, Ranges, ranges_array, ranges_channel, ranges_map, ranges_slice, ranges_string, bound_type}
use Rattle.go_statement_rules.specs.Statements.{AreListed, IsTruth, truth_typed, truth_untyped, ListsClauses, clauses_default, clauses_none, clauses_types, tag_nodes}
use Rattle.go_syntax.specs.declared.expression.Expr.{Expr}
use Rattle.go_syntax.specs.declared.statement.TypeCase.{TypeCase}
use Rattle.go_syntax.specs.declared.types.«Type».{«Type» as Typ}
use Rattle.go_type_images.specs.Images.{Naming, image, same_sels}
use Rattle.go_type_images.specs.Levels.{interface_layer}
use Rattle.go_type_images.specs.declared.pair.TypePair.{TypePair}
use Rattle.go_client_types.specs.Following.{After, after_value, same_mode}
use Rattle.go_client_types.specs.Keeping.{Keeps}
use Rattle.go_client_types.specs.Reached.{IsReached}
use Rattle.go_client_types.proofs.Operands.{typed_after, untyped_after}
use Rattle.go_client_types.proofs.Views as V
use Rattle.go_client_operators.proofs.Calls as calls
use Rattle.go_client_operators.proofs.Operators as operators
use Rattle.go_client_expressions.proofs.Asked.{meets_kept}
use Rattle.go_client_expressions.proofs.Expressions as expressions
use Rattle.go_client_statements.proofs.ApartImages.{OptionReached, option_to}
use Rattle.go_client_statements.proofs.Values as values

map_options : {A B : Type 0} (f : A → B) (xs ys : List A) → map f (xs ++ ys) ≡ map f xs ++ map f ys
map_options f [] ys = refl
map_options f (x ∷ xs) ys = ap (λ zs. f x ∷ zs) (map_options f xs ys)

each_joined : {A : Type 0} (P : A → Type 0) (xs ys : List A) → Each P xs → Each P ys → Each P (xs ++ ys)
each_joined P [] ys h k = k
each_joined P (x ∷ xs) ys h k = (h.0, each_joined P xs ys h.1 k)

-- the first items of the images are the images of the first items
pub map_take : {A B : Type 0} (f : A → B) (n : ℕ) (xs : List A) → take n (map f xs) ≡ map f (take n xs)
map_take f zero xs = refl
map_take f (suc n) [] = refl
map_take f (suc n) (x ∷ xs) = ap (λ zs. f x ∷ zs) (map_take f n xs)

pub each_take : {A : Type 0} (P : A → Type 0) (n : ℕ) (xs : List A) → Each P xs → Each P (take n xs)
each_take P zero xs h = tt
each_take P (suc n) [] h = tt
each_take P (suc n) (x ∷ xs) h = (h.0, each_take P n xs h.1)

module _ (E F : Env) (r : Naming) (pairs : List TypePair) (std : TypeName → Bool) (is_open : Sel → Bool) (K : Keeps E F r pairs std is_open) where
  abbrev to : Term → Term
  to = image r same_sels

  abbrev R : Term → Type 0
  R = IsReached pairs std is_open

  abbrev B : Operand → Operand → Type 0
  B = After r pairs std is_open

  abbrev Met : List Node → Type 0
  Met bs = Each (Meets E) bs

  -- ---- truths, tags and cases

  pub truth_kept : {o q : Operand} → B o q → IsTruth E o → IsTruth F q
  truth_kept a (truth_typed {t = t} i e) = let f = typed_after r pairs std is_open a i in truth_typed f.0 (V.form_kept E F r pairs std is_open K t (Term-F.Plain basic.Bool) f.1 refl e).0
  truth_kept a (truth_untyped i) = truth_untyped (untyped_after r pairs std is_open a i)

  pub tag_kept : {e : Option Expr} {t : Term} → IsTag E e t → Met (tag_nodes e) → IsTag F e (to t) × R t
  tag_kept no_tag m = (subst (IsTag F None) (sym (values.basic_stays E F r pairs std is_open K basic.Bool)) no_tag, values.basic_reached E F r pairs std is_open K basic.Bool)
  tag_kept (tag a v) m = let f = values.has E F E r pairs std is_open K (λ q t n. n) K.barred a m.0 in let g = values.value_type E F r pairs std is_open K f.2 v in (tag f.1 g.0, g.1)

  one_case : (t : Term) (e : Expr) → R t → IsCase E t e → Meets E (expression e) → IsCase F (to t) e
  one_case t e h (o, s, a, c) m =
      let f = values.has E F E r pairs std is_open K (λ q t n. n) K.barred a m in
      let g = operators.comparison_kept E F r pairs std is_open K (after_value same_mode h) f.2 c in
      (f.0, g.0, f.1, g.1)

  pub cases_kept : (t : Term) (es : List Expr) → R t → Each (IsCase E t) es → Met (map expression es) → Each (IsCase F (to t)) es
  cases_kept t [] h c m = tt
  cases_kept t (e ∷ es) h c m = (one_case t e h c.0 m.0, cases_kept t es h c.1 m.1)

  -- ---- type switches

  abbrev options_to : List (Option Term) → List (Option Term)
  options_to xs = map (option_to r) xs

  abbrev Options : List (Option Term) → Type 0
  Options xs = Each (OptionReached pairs std is_open) xs

  pub interface_kept : (t : Term) (ms : List Method) → R t → under E.table t ≡ Term-F.Interface ms → (ns : List Method) × (under F.table (to t) ≡ Term-F.Interface ns)
  interface_kept t ms h e = calls.is_interface (under F.table (to t)) (calls.interface_kept E F r pairs std is_open K t h (ap interface_layer e))

  nil_kept : {t : Typ} → IsNil E t → IsNil F t
  nil_kept (is_nil {q = q} i k e) = is_nil i k (K.meanings q.name.text _ e).0
  nil_kept (nil_in_parentheses i a) = nil_in_parentheses i (nil_kept a)

  is_type_kept : {t : Typ} {u : Term} → IsType E t u → IsType F t (to u) × R u
  is_type_kept a = let f = expressions.type_kept E F E r pairs std is_open K (λ x u i. i) K.barred a.stands_for a.meets in (record { stands_for = f.0; meets = meets_kept E F r pairs std is_open K _ a.meets }, f.1)

  lists_kept : {t : Term} {y : Typ} {x : Option Term} → R t → Lists E t y x → Lists F (to t) y (option_to r x) × OptionReached pairs std is_open x
  lists_kept h (lists_nil a) = (lists_nil (nil_kept a), tt)
  lists_kept {t = t} h (lists_type {u = u} a k) = let f = is_type_kept a in (lists_type f.0 (calls.may_hold_kept E F r pairs std is_open K t u h f.1 k), f.1)

  all_kept : {t : Term} {ys : List Typ} {xs : List (Option Term)} → R t → ListsAll E t ys xs → ListsAll F (to t) ys (options_to xs) × Options xs
  all_kept h lists_none = (lists_none, tt)
  all_kept h (lists_more a x) = let f = lists_kept h a in let g = all_kept h x in (lists_more f.0 g.0, (f.1, g.1))

  pub clauses_kept : {t : Term} {cs : List TypeCase} {xs : List (Option Term)} → R t → ListsClauses E t cs xs → ListsClauses F (to t) cs (options_to xs) × Options xs
  clauses_kept h clauses_none = (clauses_none, tt)
  clauses_kept h (clauses_default i x) = let f = clauses_kept h x in (clauses_default i f.0, f.1)
  clauses_kept {t = t} h (clauses_types {c = c} {cs = cs} {xs = xs} {ys = ys} i a x) =
      let f = all_kept h a in let g = clauses_kept h x in
      (subst (ListsClauses F (to t) (c ∷ cs)) (sym (map_options (option_to r) xs ys)) (clauses_types i f.0 g.0), each_joined (OptionReached pairs std is_open) xs ys f.1 g.1)

  pub listed_kept : (t : Term) (ys : Option (List Typ)) (xs : List (Option Term)) → R t → AreListed E t ys xs → AreListed F (to t) ys (options_to xs) × Options xs
  listed_kept t None xs h e = (ap options_to e, subst Options (sym e) tt)
  listed_kept t (Some ys) xs h a = all_kept h a

  pub bound_to : (t : Term) (xs : List (Option Term)) → bound_type (to t) (options_to xs) ≡ to (bound_type t xs)
  bound_to t [] = refl
  bound_to t (None ∷ xs) = refl
  bound_to t (Some u ∷ []) = refl
  bound_to t (Some u ∷ x ∷ xs) = refl

  pub bound_reached : (t : Term) (xs : List (Option Term)) → R t → Options xs → R (bound_type t xs)
  bound_reached t [] h k = h
  bound_reached t (None ∷ xs) h k = h
  bound_reached t (Some u ∷ []) h k = k.0
  bound_reached t (Some u ∷ x ∷ xs) h k = h

  -- ---- ranges

  int_stays : to (basic_term basic.Int) ≡ basic_term basic.Int
  int_stays = values.basic_stays E F r pairs std is_open K basic.Int

  int_reached : R (basic_term basic.Int)
  int_reached = values.basic_reached E F r pairs std is_open K basic.Int

  pub ranges_kept : {o q : Operand} {ts : List Term} → B o q → Ranges E o ts → Ranges F q (map to ts) × Each R ts
  ranges_kept {q = q} a (ranges_array {t = t} {e = e} i x) =
      let f = typed_after r pairs std is_open a i in let g = operators.array_kept E F r pairs std is_open K f.1 x in
      (subst (λ z. Ranges F q (z ∷ to e ∷ [])) (sym int_stays) (ranges_array f.0 g.0), (int_reached, (g.1, tt)))
  ranges_kept {q = q} a (ranges_slice {t = t} {e = e} i x) =
      let f = typed_after r pairs std is_open a i in let g = V.form_kept E F r pairs std is_open K t (Term-F.Slice e) f.1 refl x in
      (subst (λ z. Ranges F q (z ∷ to e ∷ [])) (sym int_stays) (ranges_slice f.0 g.0), (int_reached, (g.1 e (inl refl), tt)))
  ranges_kept {q = q} a (ranges_string x) = (
    subst (λ z. Ranges F q (z ∷ to (basic_term basic.Int32) ∷ [])) (sym int_stays) (subst (λ z. Ranges F q (basic_term basic.Int ∷ z ∷ [])) (sym (values.basic_stays E F r pairs std is_open K basic.Int32)) (ranges_string (operators.string_kept E F r pairs std is_open K a x))),
    (int_reached, (values.basic_reached E F r pairs std is_open K basic.Int32, tt)),
  )
  ranges_kept a (ranges_map {t = t} {k = k} {e = e} i x) =
      let f = typed_after r pairs std is_open a i in let g = V.form_kept E F r pairs std is_open K t (Term-F.Map k e) f.1 refl x in
      (ranges_map f.0 g.0, (g.1 k (inl refl), (g.1 e (inr (inl refl)), tt)))
  ranges_kept a (ranges_channel {t = t} {e = e} {d = d} i x w) =
      let f = typed_after r pairs std is_open a i in let g = V.form_kept E F r pairs std is_open K t (Term-F.Chan d e) f.1 refl x in
      (ranges_channel f.0 g.0 w, (g.1 e (inl refl), tt))
