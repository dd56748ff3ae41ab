-- What Go may take as a constant is so among more entries too, and in a closed region to which it refers alone.
use Rattle.std.proofs.Common.{◌≡◌, Bool, true, false, List, [], ◌∷◌, ◌++◌, map, refl, sym, ap, ◌∙◌, subst, inl, inr}
use Rattle.std.specs.Prelude.{if◌then◌else◌, is_some}
use Rattle.go_base.specs.Lists.{Each, Has}
use Rattle.go_model.specs.declared.constants.value.Basic.{Basic}
use Rattle.go_model.specs.declared.types.term.Term.{Term-F}
use Rattle.go_typings.specs.go_rules.Environments.{Env}
use Rattle.go_typings.specs.go_rules.Expressions.{HasForm, Has as HasOperand, chain, unary_operator}
use Rattle.go_typings.specs.go_rules.Growth.{Grows}
use Rattle.go_typings.specs.go_rules.Nodes.{ExprLayer, Node, expression, expression_parts, post, post_parts}
use Rattle.go_typings.specs.go_rules.Operands.{constant_of, type_name}
use Rattle.go_typings.specs.go_rules.Regions.{IsClosed, RefersIn, Region, cut}
use Rattle.go_typings.proofs.go_rules_proofs.GrowOperand.{has_form_more, has_more}
use Rattle.go_typings.proofs.go_rules_proofs.GrowTypes.{form_more, joined_is}
use Rattle.go_typings.proofs.go_rules_proofs.LocalOperand.{has_local}
use Rattle.go_typings.proofs.go_rules_proofs.LocalParts.{call_in, map_left, parts_in}
use Rattle.go_typings.proofs.go_rules_proofs.LocalTerms.{each_has}
use Rattle.go_typings.proofs.go_rules_proofs.LocalTypes.{form_same}
use Rattle.go_syntax.specs.declared.expression.Expr.{Expr, Expr-F, out-Expr}
use Rattle.go_syntax.specs.declared.expression.Post.{Post}
use Rattle.go_typings.proofs.SameReferences.{chain_local}
use Rattle.go_exposed.specs.BeyondProfile.{MayBeConstant, may_itself, may_operated, may_converted, operands}

-- ---- more entries

module _ (E F : Env) (m : Grows E F) where
  pub may_more : {e : Expr} → MayBeConstant E e → MayBeConstant F e
  may_more (may_itself {e = e} {c = c} {v = v} h) = may_itself (subst (λ z. HasOperand z e (constant_of c v)) (joined_is E F m) (has_more E F m h))
  may_more (may_operated q k) = may_operated q (λ y i. may_more (k y i))
  may_more (may_converted {f = f} {t = t} {b = b} before d q h s u c k) =
      may_converted before d q (subst (λ z. HasForm z (chain f before) (type_name t)) (joined_is E F m) (has_form_more E F m h)) s (form_more E F m t (Term-F.Plain b) refl u) c (may_more k)

-- ---- parts

mapped : {A : Type 0} (f : A → Node) (xs : List A) (y : A) → Has xs y → Has (map f xs) (f y)
mapped f [] y h = absurd h
mapped f (x ∷ xs) y (inl e) = inl (ap f e)
mapped f (x ∷ xs) y (inr h) = inr (mapped f xs y h)

first_or : (x y : Expr) (xs : List Expr) → Has (x ∷ xs) y → Has (expression x ∷ map expression xs) (expression y)
first_or x y xs h = mapped expression (x ∷ xs) y h

prefixed : (b : Bool) (x y : Expr) → Has (if b then x ∷ [] else []) y → Has (expression x ∷ []) (expression y)
prefixed true x y h = mapped expression (x ∷ []) y h
prefixed false x y h = absurd h

-- what an operator is applied to is a part
operand_part : (l : ExprLayer) (y : Expr) → Has (operands l) y → Has (expression_parts l) (expression y)
operand_part (Expr-F.Or x xs) y h = first_or x y xs h
operand_part (Expr-F.And x xs) y h = first_or x y xs h
operand_part (Expr-F.Compare x ops xs) y h = first_or x y xs h
operand_part (Expr-F.Sum x ops xs) y h = first_or x y xs h
operand_part (Expr-F.Product x ops xs) y h = first_or x y xs h
operand_part (Expr-F.Prefix op x) y h = prefixed (is_some (unary_operator op)) x y h
operand_part (Expr-F.«Expr::Paren» x) y h = first_or x y [] h
operand_part (Expr-F.Primary x ps) y h = absurd h
operand_part (Expr-F.«Expr::Literal» l) y h = absurd h
operand_part (Expr-F.Name n) y h = absurd h
operand_part (Expr-F.FuncLit g body) y h = absurd h
operand_part (Expr-F.Composite t xs) y h = absurd h
operand_part (Expr-F.CompositeArray t xs) y h = absurd h
operand_part (Expr-F.«Expr::Type» t) y h = absurd h
operand_part (Expr-F.ParenReceiveChan t) y h = absurd h

last_post : (P : Node → Type 0) (ps : List Post) (c : Post) → Each P (map post (ps ++ c ∷ [])) → P (post c)
last_post P [] c h = h.0
last_post P (p ∷ ps) c h = last_post P ps c h.1

-- ---- a region

module _ (E : Env) (R : Region) (w : IsClosed E R) where
  part_in : {e x : Expr} {xs : List Expr} → operands (out-Expr e) ≡ x ∷ xs → RefersIn R (expression e) → (y : Expr) → Has (x ∷ xs) y → RefersIn R (expression y)
  part_in {e = e} q r y h = each_has (RefersIn R) (expression_parts (out-Expr e)) (expression y) (parts_in R (expression e) r) (operand_part (out-Expr e) y (subst (λ zs. Has zs y) (sym q) h))

  pub may_in : {e : Expr} → RefersIn R (expression e) → MayBeConstant E e → MayBeConstant (cut R E) e
  may_in r (may_itself h) = may_itself (has_local E R w h r).0
  may_in r (may_operated q k) = may_operated q (λ y i. may_in (part_in q r y i) (k y i))
  may_in r (may_converted {e = e} {f = f} {t = t} {b = b} before c q h s u d k) =
      let g = subst (λ l. Each (RefersIn R) (expression_parts l)) q (parts_in R (expression e) r) in
      let j = chain_local E R w f before (type_name t) g.0 (map_left (RefersIn R) post before (c ∷ []) g.1) h s in
      let a = call_in R d (parts_in R (post c) (last_post (RefersIn R) before c g.1)) in
      may_converted before c q j.0 s (form_same E R w t (Term-F.Plain b) j.1 u) d (may_in a.0 k)
