-- What follows an expression, post by post.
use Rattle.std.proofs.Common.{◌≡◌, ◌∙◌, ◌<◌, ◌≤◌, ◌+◌, ◌-◌, ℕ, suc, List, [], ◌∷◌, ◌++◌, None, Some, length, get_or, take, drop, arith, refl, sym, ap, subst, inl, inr}
use Rattle.std.specs.List.{slice_get}
use Rattle.go_asks.specs.go_expr.Chains.{Makes, NamesImported}
use Rattle.go_asks.proofs.go_expr_proofs.ImportedNames.{one_name, one_selector}
use Rattle.go_rules.specs.Environments.{Env}
use Rattle.go_rules.specs.Expressions.{chain, Denotes, DenotesImported, Has, has_imported, has_operand, has_primary, HasForm, has_name, HasPosts, posts_more, posts_none}
use Rattle.go_rules.specs.Nodes.{ExprLayer}
use Rattle.go_rules.specs.declared.operand.Operand.{Operand}
use Rattle.go_asks.proofs.go_expr_proofs.PrimaryExprs.{behind_first}
use Rattle.go_rules.proofs.OneName.{no_import, none_some, one_imported, one_some}
use Rattle.go_rules.proofs.OneOperand.{form_once, has_once, post_once}
use Rattle.go_selectors.proofs.Lists.{drop_all, drop_next}
use Rattle.go_syntax.specs.declared.expression.Expr.{Expr, Expr-F, out-Expr}
use Rattle.go_syntax.specs.declared.expression.Post.{Post}
use Rattle.go_syntax.specs.declared.name.Name.{Name}
use Rattle.go_assignments.specs.inner.Calls.{ImportedAlong, IsAlong}

-- ---- the first post, and the last

pub front_split : (ps : List Post) (x : Post) → slice_get ps 0 ≡ Some x → ps ≡ x ∷ take (length ps - 1) (drop 1 ps)
front_split [] x e = absurd (none_some e)
front_split (y ∷ ys) x e = ap (λ (z : Post). z ∷ ys) (one_some e) ∙ ap (λ (zs : List Post). x ∷ zs) (sym (behind_first (y ∷ ys)))

pub front_none : (ps : List Post) → slice_get ps 0 ≡ None → length ps ≡ 0
front_none [] e = refl
front_none (y ∷ ys) e = absurd (none_some (sym e))

pub last_split : (ps : List Post) (x : Post) → slice_get ps (length ps - 1) ≡ Some x → ps ≡ take (length ps - 1) ps ++ x ∷ []
last_split [] x e = absurd (none_some e)
last_split (y ∷ []) x e = ap (λ (z : Post). z ∷ []) (one_some e)
last_split (y ∷ z ∷ zs) x e =
    let n : length (y ∷ z ∷ zs) - 1 ≡ suc (length (z ∷ zs) - 1) = omega arith in
    let r = last_split (z ∷ zs) x (subst (λ (k : ℕ). slice_get (y ∷ z ∷ zs) k ≡ Some x) n e) in
    ap (λ (ws : List Post). y ∷ ws) r ∙ ap (λ (k : ℕ). take k (y ∷ z ∷ zs) ++ x ∷ []) (sym n)

pub last_some : (ps : List Post) (x : Post) → slice_get ps (length ps - 1) ≡ Some x → 0 < length ps
last_some [] x e = absurd (none_some e)
last_some (y ∷ ys) x e = omega arith

pub last_none : (ps : List Post) → slice_get ps (length ps - 1) ≡ None → length ps ≡ 0
last_none [] e = refl
last_none (y ∷ []) e = absurd (none_some (sym e))
last_none (y ∷ z ∷ zs) e =
    let n : length (y ∷ z ∷ zs) - 1 ≡ suc (length (z ∷ zs) - 1) = omega arith in
    let k : length (z ∷ zs) ≡ 0 = last_none (z ∷ zs) (subst (λ (k : ℕ). slice_get (y ∷ z ∷ zs) k ≡ None) n e) in
    absurd (omega (arith, k))

module _ (E : Env) where
  step_of : {o q r : Operand} {x : Post} {xs : List Post} → Makes E o x q → HasPosts E o (x ∷ xs) r → HasPosts E q xs r
  step_of {r = r} {xs = xs} k (posts_more h w t) = subst (λ (z : Operand). HasPosts E z xs r) (post_once E h refl k.0) t

  first_of : {o r : Operand} {x : Post} {xs : List Post} → HasPosts E o (x ∷ xs) r → (q : Operand) × Makes E o x q
  first_of (posts_more {q = q} h w t) = (q, (h, w))

  -- what the posts that are left make of the operand is what all make of the first
  pub record Follows (first : Operand) (whole : List Post) (at : Operand) (rest : List Post) : Type 0 where
    pub to : (r : Operand) → HasPosts E at rest r → HasPosts E first whole r
    pub from : (r : Operand) → HasPosts E first whole r → HasPosts E at rest r

  pub follows_begins : (first : Operand) (whole : List Post) → Follows first whole first whole
  follows_begins first whole = record { to = λ r h. h; from = λ r h. h }

  module _ (first : Operand) (whole : List Post) (at : Operand) (i : ℕ) (w : Follows first whole at (drop i whole)) where
    pub follows_done : length whole ≤ i → HasPosts E first whole at
    follows_done h = (subst (λ (ps : List Post). Follows first whole at ps) (drop_all i whole h) w).to at posts_none

    module _ (x : Post) (h : i < length whole) (e : x ≡ get_or whole i x) where
      there : Follows first whole at (x ∷ drop (i + 1) whole)
      there = subst (λ (ps : List Post). Follows first whole at ps) (drop_next i whole x h e) w

      pub follows_next : (q : Operand) → Makes E at x q → Follows first whole q (drop (i + 1) whole)
      follows_next q k = record { to = λ r g. there.to r (posts_more k.0 k.1 g); from = λ r g. step_of k (there.from r g) }

      pub follows_first : (r : Operand) → HasPosts E first whole r → (q : Operand) × Makes E at x q
      follows_first r g = first_of (there.from r g)

  -- ---- behind an imported package

  same_import : {q n k l : Name} {o p : Operand} → q ≡ k → n ≡ l → DenotesImported E q n o → DenotesImported E k l p → o ≡ p
  same_import {n = n} {k = k} {p = p} i j a b = one_imported a (subst (λ (y : Name). DenotesImported E y n p) (sym i) (subst (λ (y : Name). DenotesImported E k y p) (sym j) b))

  one_named : (e : Expr) (x : Post) {o p : Operand} → NamesImported E e x o → NamesImported E e x p → o ≡ p
  one_named e x a b = same_import (one_name a.1 b.1) (one_selector a.2 b.2) a.3.0 b.3.0

  pub imported_to : (e : Expr) (ps others : List Post) (x : Post) (o : Operand) → ps ≡ x ∷ others → NamesImported E e x o → (r : Operand) → HasPosts E o others r → ImportedAlong E e ps r
  imported_to e ps others x o i n r h = subst (λ (qs : List Post). ImportedAlong E e qs r) (sym i) (o, n, h)

  pub imported_in : (e : Expr) (ps others : List Post) (x : Post) (o : Operand) → ps ≡ x ∷ others → NamesImported E e x o → (r : Operand) → ImportedAlong E e ps r → HasPosts E o others r
  imported_in e ps others x o i n r h =
      let k : ImportedAlong E e (x ∷ others) r = subst (λ (qs : List Post). ImportedAlong E e qs r) i h in
      subst (λ (z : Operand). HasPosts E z others r) (one_named e x k.1 n) k.2

  pub imported_first : (e : Expr) (ps others : List Post) (x : Post) → ps ≡ x ∷ others → (r : Operand) → ImportedAlong E e ps r → (o : Operand) × NamesImported E e x o
  imported_first e ps others x i r h = let k : ImportedAlong E e (x ∷ others) r = subst (λ (qs : List Post). ImportedAlong E e qs r) i h in (k.0, k.1)

  pub imported_alone : (e : Expr) (ps : List Post) → length ps ≡ 0 → (r : Operand) → ImportedAlong E e ps r → ⊥
  imported_alone e [] i r h = h
  imported_alone e (x ∷ xs) i r h = absurd (omega arith)

  -- ---- from an expression

  named_form : {q : Name} {o : Operand} → HasForm E (Expr-F.Name q) o → Denotes E q o
  named_form (has_name d) = d

  named_in : {e : Expr} {q : Name} {o : Operand} → out-Expr e ≡ Expr-F.Name q → Has E e o → Denotes E q o
  named_in {o = o} i (has_operand h w) = named_form (subst (λ (l : ExprLayer). HasForm E l o) i h)

  typed_no_import : {e : Expr} {o : Operand} (ps : List Post) (r : Operand) → Has E e o → ImportedAlong E e ps r → ⊥
  typed_no_import [] r h f = f
  typed_no_import (x ∷ xs) r h f = no_import (named_in f.1.1 h) f.1.3.0

  pub along_in : (e : Expr) (ps : List Post) (o : Operand) → Has E e o → (r : Operand) → IsAlong E e ps r → HasPosts E o ps r
  along_in e ps o h r (inl a) = subst (λ (z : Operand). HasPosts E z ps r) (has_once E a.1 h) a.2
  along_in e ps o h r (inr b) = absurd (typed_no_import ps r h b)

  pub along_imported : (e : Expr) (ps : List Post) → ((o : Operand) → Has E e o → ⊥) → (r : Operand) → IsAlong E e ps r → ImportedAlong E e ps r
  along_imported e ps none r (inl a) = absurd (none a.0 a.1)
  along_imported e ps none r (inr b) = b

  chain_of : {x : Expr} {o r : Operand} (before : List Post) → Has E x o → HasPosts E o before r → HasForm E (chain x before) r
  chain_of [] (has_operand h w) posts_none = h
  chain_of (q ∷ qs) h c = has_primary h c

  imported_chain : (x : Expr) (before : List Post) (r : Operand) → ImportedAlong E x before r → HasForm E (chain x before) r
  imported_chain x [] r f = absurd f
  imported_chain x (q ∷ qs) r f = has_imported f.1.1 f.1.2 f.1.3.0 f.1.3.1 f.2

  -- an expression with what follows it has its form
  pub along_form : (x : Expr) (before : List Post) (r : Operand) → IsAlong E x before r → HasForm E (chain x before) r
  along_form x before r (inl a) = chain_of before a.1 a.2
  along_form x before r (inr b) = imported_chain x before r b

  -- and what has its form with one post more is it
  pub form_along : (x : Expr) (p : Post) (ps : List Post) {r : Operand} → HasForm E (Expr-F.Primary x (p ∷ ps)) r → IsAlong E x (p ∷ ps) r
  form_along x p ps (has_primary a c) = inl (_, a, c)
  form_along x p ps (has_imported e i d v c) = inr (_, ((_, _), e, i, (d, v)), c)

  -- and is one operand
  pub one_along : (x : Expr) (before : List Post) (r s : Operand) → IsAlong E x before r → IsAlong E x before s → r ≡ s
  one_along x before r s a b = form_once E (along_form x before r a) (along_form x before s b)
