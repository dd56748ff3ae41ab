-- A method of the client's own that a selector in a typed tree finds on the new side it finds on the old one.
use Rattle.std.proofs.Common.{◌≡◌, ◌⊎◌, inl, inr, Bool, true, false, List, [], ◌∷◌, ◌++◌, refl, sym, ap, ◌∙◌, subst, Some}
use Rattle.std.proofs.lemmas.Slice.Eq.{bytes_eq-Decides}
use Rattle.go_base.specs.Lists.{Each}
use Rattle.go_model.specs.declared.types.names.Sel.{Sel}
use Rattle.go_model.specs.declared.types.names.TypeName.{TypeName}
use Rattle.go_model.specs.declared.types.term.Signature.{Signature}
use Rattle.go_model.specs.declared.types.term.Term.{Term}
use Rattle.go_model.specs.types.Selectors.{Ending, is_defined_pointer, field as found_field, method as found_method}
use Rattle.go_model.specs.types.Terms.{IsBlank, blank, client_path}
use Rattle.go_rules.specs.Asks.{Meets}
use Rattle.go_rules.specs.Environments.{Env, Found, selector_of}
use Rattle.go_rules.specs.Expressions.{Denotes, DenotesImported, has_operand, HasForm, has_imported, has_name, has_primary, HasPost, post_builtin, post_call, post_conversion, post_field, post_method, post_method_expression, HasPosts, posts_more, posts_none, chain, is_blank, is_type}
use Rattle.go_rules.specs.Nodes.{ExprLayer, Node, expression, expression_parts, post}
use Rattle.go_rules.specs.Operands.{IsTyped, ShapeWithin, is_value_mode, type_name, typed_constant, typed_value}
use Rattle.go_rules.specs.declared.operand.Operand.{Operand}
use Rattle.go_rules.proofs.LocalParts.{map_left}
use Rattle.go_rules.proofs.OneKind.{no_truth, one_type}
use Rattle.go_rules.proofs.OneName.{no_import, one_name}
use Rattle.go_rules.proofs.OneOperand.{form_once}
use Rattle.go_syntax.specs.declared.expression.Expr.{Expr, Expr-F, out-Expr}
use Rattle.go_syntax.specs.declared.expression.Post.{Post, Post-F, out-Post}
use Rattle.go_syntax.specs.declared.name.Name.{Name}
use Rattle.go_type_images.specs.Images.{Naming, image, same_sels}
use Rattle.go_type_images.specs.declared.pair.TypePair.{TypePair}
use Rattle.go_typed_parts.specs.TypedNodes.{IsTypedNode, bare_name, typed_expression}
use Rattle.go_typed_parts.proofs.TypedParts.{typed_within}
use Rattle.go_typings.specs.References.{Finds, FindsOf, finds_expression, finds_value}
use Rattle.go_client_types.specs.Endings.{end_at}
use Rattle.go_client_types.specs.Following.{After}
use Rattle.go_client_types.specs.Keeping.{Keeps}
use Rattle.go_client_types.specs.Reached.{IsReached}
use Rattle.go_client_types.proofs.Conversions.{true_false}
use Rattle.go_client_types.proofs.FoundTypes.{defined_kept}
use Rattle.go_client_types.proofs.Operands.{typed_after}
use Rattle.go_client_types.proofs.TypeForms.{meets_parts}
use Rattle.go_client_operators.proofs.Names.{imported_kept}
use Rattle.go_client_expressions.proofs.Expressions as expressions
use Rattle.go_client_expressions.proofs.MetParts as met
use Rattle.go_client_expressions.proofs.Results.{named_after}
use Rattle.go_client_expressions.proofs.Selected.{client_sel, sel_same}
use Rattle.go_client_packages.proofs.Owners.{OfOwner, owner_back}

-- ---- a post in a chain

-- the operand in front of the post, and what the post is on it
record PostIn (E : Env) (o : Operand) (before : List Post) (p : Post) : Type 0 where
  operand : Operand
  has : HasPosts E o before operand
  within : ShapeWithin operand.shape
  result : Operand
  post : HasPost E operand (out-Post p) result

posts_at : (E : Env) (o s : Operand) (before : List Post) (p : Post) (after : List Post) → ShapeWithin o.shape → HasPosts E o (before ++ p ∷ after) s → PostIn E o before p
posts_at E o s [] p after w (posts_more {q = q} a x h) = record { operand = o; has = posts_none; within = w; result = q; post = a }
posts_at E o s (y ∷ before) p after w (posts_more {q = q} a x h) =
    let k = posts_at E q s before p after x h in
    record { operand = k.operand; has = posts_more a x k.has; within = k.within; result = k.result; post = k.post }

-- the same of a chain
record ChainIn (E : Env) (x : Expr) (before : List Post) (p : Post) : Type 0 where
  operand : Operand
  has : HasForm E (chain x before) operand
  within : ShapeWithin operand.shape
  result : Operand
  post : HasPost E operand (out-Post p) result

-- a chain has an operand in front of a post, or begins with the name of an import
abbrev ChainBefore : Env → Expr → List Post → Post → Type 0
ChainBefore E x before p = ChainIn E x before p ⊎ ((before ≡ []) × ((n : Name) × (m : Name) × (o : Operand) × (out-Expr x ≡ Expr-F.Name n) × DenotesImported E n m o))

no_posts : (E : Env) {o q : Operand} → HasPosts E o [] q → o ≡ q
no_posts E posts_none = refl

chain_before : (E : Env) (o : Operand) (x : Expr) (before : List Post) (p : Post) (after : List Post) → HasForm E (Expr-F.Primary x (before ++ p ∷ after)) o → ChainBefore E x before p
chain_before E o x [] p after (has_primary (has_operand a w) h) =
    let k = posts_at E _ o [] p after w h in
    inl (record { operand = k.operand; has = subst (λ q. HasForm E (out-Expr x) q) (no_posts E k.has) a; within = k.within; result = k.result; post = k.post })
chain_before E o x [] p after (has_imported {q = n} {n = m} {o = y} e i d w h) = inr (refl, (n, m, y, e, d))
chain_before E o x (y ∷ before) p after (has_primary (has_operand a w) h) =
    let k = posts_at E _ o (y ∷ before) p after w h in
    inl (record { operand = k.operand; has = has_primary (has_operand a w) k.has; within = k.within; result = k.result; post = k.post })
chain_before E o x (y ∷ before) p after (has_imported {o = z} e i d w h) =
    let k = posts_at E z o before p after w h in
    inl (record { operand = k.operand; has = has_imported e i d w k.has; within = k.within; result = k.result; post = k.post })

name_denotes : (E : Env) (n : Name) (o : Operand) → HasForm E (Expr-F.Name n) o → Denotes E n o
name_denotes E n o (has_name d) = d

abbrev is_primary : ExprLayer → Bool
is_primary (Expr-F.Primary e ps) = true
is_primary l = false

-- ---- values and types

type_no_value : {o : Operand} {t u : Term} → o ≡ type_name t → IsTyped o u → ⊥
type_no_value e (typed_value h) = no_truth (sym h ∙ ap (λ (o : Operand). is_value_mode o.mode) e)
type_no_value e typed_constant = no_truth (sym (ap (λ (o : Operand). is_type o.mode) e))

module _ (E F : Env) (r : Naming) (pairs : List TypePair) (std : TypeName → Bool) (is_open : Sel → Bool) (K : Keeps E F r pairs std is_open) where
  abbrev to : Term → Term
  to = image r same_sels

  abbrev R : Term → Type 0
  R = IsReached pairs std is_open

  abbrev A : Operand → Operand → Type 0
  A = After r pairs std is_open

  not_blank : (n : Name) → is_blank n.text ≡ false → IsBlank (selector_of E n.text) → ⊥
  not_blank n b e = true_false ((bytes_eq-Decides n.text blank).1 e) b

  abbrev sel : Name → Sel
  sel n = selector_of E n.text

  -- ---- after one post

  abbrev Method : Bool → TypeName → Bool → Signature → Ending
  Method k owner l h = end_at k (found_method (Some owner) l h)

  back : (t : Term) (n : Name) (e : Ending) (owner : TypeName) (k l : Bool) (h : Signature) → R t → is_blank n.text ≡ false → Found E (sel n) t e → owner.path ≡ client_path → Found F (selector_of F n.text) (to t) (Method k owner l h) → OfOwner E F r pairs std is_open K e owner
  back t n e owner k l h x b f c g = owner_back E F r pairs std is_open K t (sel n) e owner k l h x c (client_sel E F r pairs std is_open K n) (not_blank n b) f (subst (λ z. Found F z (to t) (Method k owner l h)) (sym (sel_same E F r pairs std is_open K n)) g)

  defined : (t v : Term) → R t → v ≡ to t → is_defined_pointer F.table v ≡ false → is_defined_pointer E.table t ≡ false
  defined t v x e d = sym (defined_kept E F r pairs std is_open K t x) ∙ subst (λ z. is_defined_pointer F.table z ≡ false) e d

  value_finds : (p o : Operand) (n : Name) (t : Term) (e : Ending) (owner : TypeName) → A p o → IsTyped p t → is_blank n.text ≡ false → Found E (sel n) t e → owner.path ≡ client_path → FindsOf F o (selector_of F n.text) owner → FindsOf E p (sel n) owner
  value_finds p o n t e owner a i b f c (finds_value {t = v} {through = k} {pointer = l} {g = h} j g d) =
      let q = typed_after r pairs std is_open a i in
      let same : v ≡ to t = one_type j q.0 in
      let w = back t n e owner k l h q.1 b f c (subst (λ z. Found F (selector_of F n.text) z (Method k owner l h)) same g) in
      finds_value i (subst (Found E (sel n) t) w.3 f) (defined t v q.1 same d)
  value_finds p o n t e owner a i b f c (finds_expression j g d) = absurd (type_no_value j (typed_after r pairs std is_open a i).0)

  expression_finds : (t : Term) (o : Operand) (n : Name) (e : Ending) (owner : TypeName) → A (type_name t) o → is_blank n.text ≡ false → Found E (sel n) t e → owner.path ≡ client_path → FindsOf F o (selector_of F n.text) owner → FindsOf E (type_name t) (sel n) owner
  expression_finds t o n e owner a b f c (finds_value j g d) = absurd (type_no_value (named_after r pairs std is_open a).0 j)
  expression_finds t o n e owner a b f c (finds_expression {t = v} {through = k} {pointer = l} {g = h} j g d) =
      let q = named_after r pairs std is_open a in
      let same : v ≡ to t = one_name (sym j ∙ q.0) in
      let w = back t n e owner k l h q.1 b f c (subst (λ z. Found F (selector_of F n.text) z (Method k owner l h)) same g) in
      finds_expression refl (subst (Found E (sel n) t) w.3 f) (defined t v q.1 same d)

  post_finds : (p o : Operand) {res : Operand} (n : Name) (owner : TypeName) → A p o → HasPost E p (Post-F.Selector n) res → owner.path ≡ client_path → FindsOf F o (selector_of F n.text) owner → FindsOf E p (sel n) owner
  post_finds p o n owner a (post_field {t = t} {u = u} {through = q} b i f) c g = value_finds p o n t (end_at q (found_field u)) owner a i b f c g
  post_finds p o n owner a (post_method {t = t} {g = h} b i m) c g = value_finds p o n t (end_at m.through (found_method m.owner m.pointer h)) owner a i b m.found c g
  post_finds p o n owner a (post_method_expression {t = t} {g = h} b m) c g = expression_finds t o n (end_at m.through (found_method m.owner m.pointer h)) owner a b m.found c g
  post_finds p o n owner a (post_conversion i x v) c g = elim i [ ]
  post_finds p o n owner a (post_call i x e y v) c g = elim i [ ]
  post_finds p o n owner a (post_builtin i x) c g = elim i [ ]

  -- ---- in a tree

  chain_meets : (e x : Expr) (before : List Post) (p : Post) (after : List Post) → Meets E (expression e) → out-Expr e ≡ Expr-F.Primary x (before ++ p ∷ after) → Each (Meets E) (expression_parts (chain x before))
  chain_meets e x before p after m i =
      let g = subst (λ l. Each (Meets E) (expression_parts l)) i (meets_parts E (expression e) m) in
      met.chain_met E x before g.0 (map_left (Meets E) post before (p ∷ after) g.1)

  by_chain : (at : Node) (owner : TypeName) (s : Sel) (f : Finds F at owner s) → Meets E at → owner.path ≡ client_path → ChainIn E f.selected.operand f.selected.before f.selected.post → Finds E at owner s
  by_chain at owner s f m c x =
      let S = f.selected in
      let k = expressions.form_kept E F E r pairs std is_open K (λ q t n. n) K.barred x.has (chain_meets S.whole S.operand S.before S.post S.after (met.within E m S.stands) S.is) in
      let a : A x.operand f.operand = subst (A x.operand) (form_once F k.1 S.has) k.2 in
      let same : sel f.name ≡ s = sel_same E F r pairs std is_open K f.name ∙ f.sel in
      let w = post_finds x.operand f.operand f.name owner a (subst (λ l. HasPost E x.operand l x.result) S.selector x.post) c (subst (λ z. FindsOf F f.operand z owner) (sym f.sel) f.found) in
      record {
        operand = x.operand;
        name = f.name;
        selected = record { whole = S.whole; operand = S.operand; before = S.before; post = S.post; after = S.after; stands = S.stands; is = S.is; selector = S.selector; has = x.has; within = x.within };
        sel = same;
        found = subst (λ z. FindsOf E x.operand z owner) same w;
      }

  no_package : (at : Node) (owner : TypeName) (s : Sel) (f : Finds F at owner s) → f.selected.before ≡ [] → (n m : Name) (o : Operand) → out-Expr f.selected.operand ≡ Expr-F.Name n → DenotesImported E n m o → ⊥
  no_package at owner s f e n m o i d =
      let S = f.selected in
      let h : HasForm F (out-Expr S.operand) f.operand = subst (λ bs. HasForm F (chain S.operand bs) f.operand) e S.has in
      no_import (name_denotes F n f.operand (subst (λ l. HasForm F l f.operand) i h)) (imported_kept E F r pairs std is_open K n m o d).1

  by_before : (at : Node) (owner : TypeName) (s : Sel) (f : Finds F at owner s) → Meets E at → owner.path ≡ client_path → ChainBefore E f.selected.operand f.selected.before f.selected.post → Finds E at owner s
  by_before at owner s f m c (inl x) = by_chain at owner s f m c x
  by_before at owner s f m c (inr (e, (n, k, o, i, d))) = absurd (no_package at owner s f e n k o i d)

  by_typed : (at : Node) (owner : TypeName) (s : Sel) (f : Finds F at owner s) → Meets E at → owner.path ≡ client_path → (e : Expr) → e ≡ f.selected.whole → IsTypedNode E (expression e) → Finds E at owner s
  by_typed at owner s f m c e q (typed_expression {o = o} (has_operand h w)) =
      let S = f.selected in
      by_before at owner s f m c (chain_before E o S.operand S.before S.post S.after (subst (λ l. HasForm E l o) (ap out-Expr q ∙ S.is) h))
  by_typed at owner s f m c e q (bare_name {n = n} i) = absurd (no_truth (sym (ap is_primary (sym i ∙ (ap out-Expr q ∙ f.selected.is)))))

  -- a method of the client that a selector in the typed tree finds on the new side it finds on the old one
  pub finds_back : (at : Node) (owner : TypeName) (s : Sel) → Meets E at → IsTypedNode E at → owner.path ≡ client_path → Finds F at owner s → Finds E at owner s
  finds_back at owner s m w c f = by_typed at owner s f m c f.selected.whole refl (typed_within E f.selected.stands w)
