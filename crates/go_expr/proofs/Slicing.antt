-- Indices of slice expressions.
use Rattle.std.proofs.Common.{◌≡◌, List, [], ◌∷◌, refl, sym, ap, ◌∙◌, subst, Bool, false, Option, Some, None}
use Rattle.std.specs.Option.{option_copied}
use denote.Ref.{Bor}
use Rattle.go_base.specs.Keys.{item_of}
use Rattle.go_rules.specs.Environments.{Env}
use Rattle.go_rules.specs.Expressions.{Has, HasPost}
use Rattle.go_rules.specs.Nodes.{expression, optional}
use Rattle.go_rules.specs.declared.operand.Operand.{Operand}
use Rattle.go_rules.proofs.OneOperand.{has_once}
use Rattle.go_syntax.specs.declared.expression.Expr.{Expr}
use Rattle.go_syntax.specs.declared.expression.Post.{Post-F}
use Rattle.go_calls.specs.go_elements.SliceExpressions.{HasWhere, where_left_out, where_given, SlicesFully, SlicesSimply}
use Rattle.go_calls.proofs.go_elements_proofs.Posts.{full_slices_post, post_full_slices, post_slices, slices_post}
use Rattle.go_literals.specs.go_type_terms.Loudness.{AreLoud}
use Rattle.go_literals.proofs.go_type_terms_proofs.LoudTrees.{none_loud}

-- what is borrowed
pub borrowed : (r : Option (Bor Operand)) (l : Option Operand) → option_copied r ≡ l → item_of r ≡ l
borrowed None l e = e
borrowed (Some x) l e = e

module _ (E : Env) where
  pub stands : (k : Option Expr) (e : Expr) (o : Operand) (b : Bool) → k ≡ Some e → Has E e o → AreLoud E (expression e ∷ []) b → HasWhere E k (Some o) × AreLoud E (optional expression k) b
  stands k e o b i h l = subst (λ (x : Option Expr). HasWhere E x (Some o) × AreLoud E (optional expression x) b) (sym i) (where_given h, l)

  pub left_out : (k : Option Expr) → k ≡ None → HasWhere E k None × AreLoud E (optional expression k) false
  left_out k i = subst (λ (x : Option Expr). HasWhere E x None × AreLoud E (optional expression x) false) (sym i) (where_left_out, none_loud E)

  pub where_once : {k : Option Expr} {l m : Option Operand} → HasWhere E k l → HasWhere E k m → l ≡ m
  where_once where_left_out where_left_out = refl
  where_once (where_given h) (where_given k) = ap Some (has_once E h k)

  -- ---- slices

  pub simple_some : (o r : Operand) (low high : Option Expr) (l h a b : Option Operand) → a ≡ l → b ≡ h → HasWhere E low l → HasWhere E high h → SlicesSimply E o a b r → HasPost E o (Post-F.«Post::Slice» low high) r
  simple_some o r low high l h a b i j x y s = slices_post x y (subst (λ (q : Option Operand). SlicesSimply E o l q r) j (subst (λ (q : Option Operand). SlicesSimply E o q b r) i s))

  pub simple_none : (o : Operand) (low high : Option Expr) (l h a b : Option Operand) → a ≡ l → b ≡ h → HasWhere E low l → HasWhere E high h → ((r : Operand) → SlicesSimply E o a b r → ⊥) → (r : Operand) → HasPost E o (Post-F.«Post::Slice» low high) r → ⊥
  simple_none o low high l h a b i j x y none r k =
      let p = post_slices k in
      none r (subst (λ (q : Option Operand). SlicesSimply E o q b r) (where_once p.2 x ∙ sym i) (subst (λ (q : Option Operand). SlicesSimply E o p.0 q r) (where_once p.3 y ∙ sym j) p.4))

  pub full_some : (o r high bound : Operand) (low : Option Expr) (e f : Expr) (l a : Option Operand) → a ≡ l → HasWhere E low l → Has E e high → Has E f bound → SlicesFully E o a high bound r → HasPost E o (Post-F.FullSlice low e f) r
  full_some o r high bound low e f l a i x y z s = full_slices_post x y z (subst (λ (q : Option Operand). SlicesFully E o q high bound r) i s)

  pub full_none : (o high bound : Operand) (low : Option Expr) (e f : Expr) (l a : Option Operand) → a ≡ l → HasWhere E low l → Has E e high → Has E f bound → ((r : Operand) → SlicesFully E o a high bound r → ⊥) → (r : Operand) → HasPost E o (Post-F.FullSlice low e f) r → ⊥
  full_none o high bound low e f l a i x y z none r k =
      let p = post_full_slices k in
      none r (subst (λ (q : Option Operand). SlicesFully E o q high bound r) (where_once p.3 x ∙ sym i)
      (subst (λ (q : Operand). SlicesFully E o p.0 q bound r) (has_once E p.4 y) (subst (λ (q : Operand). SlicesFully E o p.0 p.1 q r) (has_once E p.5 z) p.6)))
