-- What a conversion adds to trees: its argument.
use Rattle.std.proofs.lemmas.Bool.{eqb-true}
use Rattle.std.proofs.Common.{◌≡◌, ◌+◌, ◌-◌, ◌==◌, ℕ, Bool, true, false, List, [], ◌∷◌, ◌++◌, arith, length, get_or, take, sym, ap, ◌∙◌, subst}
use Rattle.go_inexact.proofs.Arguments.{last_of, last_same, not_empty}
use Rattle.go_inexact.specs.Chains.{IsTypeForm, NamesBasic}
use Rattle.go_inexact.specs.inner.Added.{AddsArgument, AddsConverted, ConvertsLast}
use Rattle.go_rules.specs.Environments.{Env}
use Rattle.go_rules.specs.Expressions.{IsCall}
use Rattle.go_rules.specs.Nodes.{ExprLayer, Node, expression}
use Rattle.go_selectors.specs.Answers.{Decides}
use Rattle.go_syntax.specs.declared.expression.Expr.{Expr, Expr-F, out-Expr, roll-Expr, roll-out-Expr}
use Rattle.go_syntax.specs.declared.expression.Expr.TheVariants as expr
use Rattle.go_syntax.specs.declared.expression.Expr.TheVariants.{outs-Primary}
use Rattle.go_syntax.specs.declared.expression.Post.{Post, out-Post}

no_items : {A : Type 0} → true ≡ false → A
no_items e = absurd (cc)

-- the number of the last of some posts
pub last_number : (ps : List Post) → (length ps == 0) ≡ false → length ps - 1 + 1 ≡ length ps
last_number [] q = no_items q
last_number (p ∷ ps) q = omega arith

module _ (E : Env) (e : Expr) where
  -- no post converts
  pub adds_none : (ps : List Post) (old new : List Node) → (length ps == 0) ≡ true → AddsArgument E e ps old new false
  adds_none [] old new q = λ x k. absurd (not_empty k.before k.call k.is)
  adds_none (p ∷ ps) old new q = absurd (omega (arith, eqb-true (length (p ∷ ps)) 0 q))

  module _ (ps : List Post) (n : ℕ) (c : Post) (h : n + 1 ≡ length ps) (i : c ≡ get_or ps n c) where
    parts : {x : Expr} → (k : ConvertsLast E e ps x) → (take n ps ≡ k.before) × (c ≡ k.call)
    parts k = last_same (take n ps) k.before c k.call (sym (last_of ps n c h i) ∙ k.is)

    -- the last post has no argument, unless it is a type
    pub adds_no_argument : (old new : List Node) → ((x : Expr) → IsCall (out-Post c) (x ∷ []) false → IsTypeForm x) → AddsArgument E e ps old new false
    adds_no_argument old new none = λ x k. none x (subst (λ (z : Post). IsCall (out-Post z) (x ∷ []) false) (sym (parts k).1) k.argument)

    -- what stands before it isn't such a type
    pub adds_not_basic : (old new : List Node) (front : List Post) (b : Bool) → front ≡ take n ps → b ≡ false → Decides b (NamesBasic E e front) → AddsArgument E e ps old new false
    adds_not_basic old new front b f q d =
        let none : NamesBasic E e front → ⊥ = subst (λ (z : Bool). Decides z (NamesBasic E e front)) q d in
        λ x k. absurd (none (subst (NamesBasic E e) (sym (f ∙ (parts k).0)) k.basic))

    pub adds_this : (old new : List Node) (front : List Post) (x : Expr) (b : Bool) → front ≡ take n ps → b ≡ true → Decides b (NamesBasic E e front) → IsCall (out-Post c) (x ∷ []) false → new ≡ old ++ expression x ∷ [] → AddsArgument E e ps old new true
    adds_this old new front x b f q d a made = (
      x,
      made,
      record {
        before = take n ps;
        call = c;
        is = last_of ps n c h i;
        argument = a;
        basic = subst (NamesBasic E e) f (subst (λ (z : Bool). Decides z (NamesBasic E e front)) q d);
      },
    )

-- ---- of an expression

primary_expr : (e x : Expr) (ps : List Post) → out-Expr e ≡ Expr-F.Primary x ps → e ≡ expr.Primary x ps
primary_expr e x ps i = sym (roll-out-Expr e) ∙ ap roll-Expr i ∙ ap roll-Expr (sym (outs-Primary x ps)) ∙ roll-out-Expr (expr.Primary x ps)

same_operand : {x y : Expr} {ps qs : List Post} → ◌≡◌ {A = ExprLayer} (Expr-F.Primary x ps) (Expr-F.Primary y qs) → x ≡ y
same_operand e = cc

same_posts : {x y : Expr} {ps qs : List Post} → ◌≡◌ {A = ExprLayer} (Expr-F.Primary x ps) (Expr-F.Primary y qs) → ps ≡ qs
same_posts e = cc

module _ (E : Env) (e : Expr) where
  pub adds_primary : (x : Expr) (ps : List Post) (old new : List Node) (b : Bool) → out-Expr e ≡ Expr-F.Primary x ps → AddsArgument E x ps old new b → AddsConverted E e old new b
  adds_primary x ps old new true q k = (
    k.0,
    k.1,
    record {
      operand = x;
      before = k.2.before;
      call = k.2.call;
      is = q ∙ ap (λ (zs : List Post). Expr-F.Primary x zs) k.2.is;
      argument = k.2.argument;
      basic = k.2.basic;
    },
  )
  adds_primary x ps old new false q k = λ y c.
      let j = sym q ∙ c.is in
      k y (record { before = c.before; call = c.call; is = same_posts j; argument = c.argument; basic = subst (λ (z : Expr). NamesBasic E z c.before) (sym (same_operand j)) c.basic })

  -- an expression that is no operand with posts converts nothing
  pub adds_other : (old new : List Node) → ((x : Expr) (ps : List Post) → e ≡ expr.Primary x ps → ⊥) → AddsConverted E e old new false
  adds_other old new none = λ y c. absurd (none c.operand (c.before ++ c.call ∷ []) (primary_expr e c.operand (c.before ++ c.call ∷ []) c.is))
