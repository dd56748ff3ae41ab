-- What posts make of an operand, and an expression with its posts.
use Rattle.std.specs.List.{slice_get}
use Rattle.std.proofs.Common.{◌≡◌, ◌<◌, ◌≤◌, ◌+◌, ℕ, List, [], ◌∷◌, drop, get_or, length, Option, None, Some, refl, sym, subst}
use Rattle.go_expr.specs.Chains.{Makes, NamesImported}
use Rattle.go_expr.proofs.ImportedNames.{one_name, one_selector}
use Rattle.go_inexact.specs.Chains.{IsChain, IsImportedChain}
use Rattle.go_rules.specs.Environments.{Env}
use Rattle.go_rules.specs.Expressions.{Denotes, DenotesImported, Has, has_operand, HasForm, has_imported, has_name, has_primary, HasPosts, posts_more, posts_none}
use Rattle.go_rules.specs.Nodes.{ExprLayer}
use Rattle.go_rules.specs.Operands.{ShapeWithin}
use Rattle.go_rules.specs.declared.operand.Operand.{Operand}
use Rattle.go_rules.proofs.OneName.{no_import, one_imported}
use Rattle.go_rules.proofs.OneOperand.{has_once, post_once}
use Rattle.go_selectors.proofs.Lists.{drop_all, drop_next}
use Rattle.go_syntax.specs.declared.expression.Expr.{Expr, Expr-F, out-Expr}
use Rattle.go_syntax.specs.declared.expression.Post.{Post}
use Rattle.go_syntax.specs.declared.name.Name.{Name}

no_post : {x : Post} → ◌≡◌ {A = Option Post} None (Some x) → ⊥
no_post e = absurd (cc)

same_post : {x y : Post} → ◌≡◌ {A = Option Post} (Some x) (Some y) → x ≡ y
same_post e = cc

module _ (E : Env) where
  parts : {o r : Operand} {x : Post} {xs : List Post} → HasPosts E o (x ∷ xs) r → (q : Operand) × Makes E o x q × HasPosts E q xs r
  parts (posts_more {q = q} h w k) = (q, (h, w), k)

  at_end : {o r : Operand} → HasPosts E o [] r → o ≡ r
  at_end posts_none = refl

  pub posts_within : {o r : Operand} {ps : List Post} → HasPosts E o ps r → ShapeWithin o.shape → ShapeWithin r.shape
  posts_within posts_none w = w
  posts_within (posts_more h s k) w = posts_within k s

  module _ (first : Operand) (all : List Post) where
    -- what the posts that are left make is what all make of the first operand
    pub record Goes (o : Operand) (rest : List Post) : Type 0 where
      pub on : (r : Operand) → HasPosts E o rest r → HasPosts E first all r
      pub back : (r : Operand) → HasPosts E first all r → HasPosts E o rest r

    pub goes_all : Goes first all
    goes_all = record { on = λ r h. h; back = λ r h. h }

    module _ (o : Operand) (i : ℕ) (w : Goes o (drop i all)) where
      pub goes_none : length all ≤ i → HasPosts E first all o
      goes_none h = w.on o (subst (λ (ps : List Post). HasPosts E o ps o) (sym (drop_all i all h)) posts_none)

      module _ (x : Post) (h : i < length all) (e : x ≡ get_or all i x) where
        pub goes_next : (q : Operand) → Makes E o x q → Goes q (drop (i + 1) all)
        goes_next q k = record {
          on = λ r p. w.on r (subst (λ (ps : List Post). HasPosts E o ps r) (sym (drop_next i all x h e)) (posts_more k.0 k.1 p));
          back = λ r p. (let z = parts (subst (λ (ps : List Post). HasPosts E o ps r) (drop_next i all x h e) (w.back r p)) in subst (λ (y : Operand). HasPosts E y (drop (i + 1) all) r) (post_once E z.1.0 refl k.0) z.2);
        }

        pub goes_end : ((q : Operand) → Makes E o x q → ⊥) → (r : Operand) → HasPosts E first all r → ⊥
        goes_end none r p = let z = parts (subst (λ (ps : List Post). HasPosts E o ps r) (drop_next i all x h e) (w.back r p)) in none z.0 z.1

  -- ---- behind an object of an imported package

  same_import : {q n k l : Name} {o p : Operand} → q ≡ k → n ≡ l → DenotesImported E q n o → DenotesImported E k l p → o ≡ p
  same_import {n = n} {k = k} {p = p} i j a b = one_imported a (subst (λ (y : Name). DenotesImported E y n p) (sym i) (subst (λ (y : Name). DenotesImported E k y p) (sym j) b))

  one_named : (e : Expr) (x : Post) {o p : Operand} → NamesImported E e x o → NamesImported E e x p → o ≡ p
  one_named e x a b = same_import (one_name a.1 b.1) (one_selector a.2 b.2) a.3.0 b.3.0

  module _ (e : Expr) (ps : List Post) (x : Post) (s : slice_get ps 0 ≡ Some x) where
    pub import_posts : (others : List Post) (o : Operand) → others ≡ drop 1 ps → NamesImported E e x o → (r : Operand) → HasPosts E o others r → IsImportedChain E e ps r
    import_posts others o d n r h = by ps s d
      where
        by : (qs : List Post) → slice_get qs 0 ≡ Some x → others ≡ drop 1 qs → IsImportedChain E e qs r
        by [] t f = absurd (no_post t)
        by (y ∷ qs) t f = (o, subst (λ (z : Post). NamesImported E e z o) (sym (same_post t)) n, subst (λ (zs : List Post). HasPosts E o zs r) f h)

    pub posts_import : (others : List Post) (o : Operand) → others ≡ drop 1 ps → NamesImported E e x o → (r : Operand) → IsImportedChain E e ps r → HasPosts E o others r
    posts_import others o d n r k = by ps s d k
      where
        by : (qs : List Post) → slice_get qs 0 ≡ Some x → others ≡ drop 1 qs → IsImportedChain E e qs r → HasPosts E o others r
        by [] t f k = absurd k
        by (y ∷ qs) t f k =
            subst (λ (zs : List Post). HasPosts E o zs r) (sym f)
            (subst (λ (z : Operand). HasPosts E z qs r) (one_named e y k.1 (subst (λ (z : Post). NamesImported E e z o) (sym (same_post t)) n)) k.2)

    pub no_import_here : ((o : Operand) → NamesImported E e x o → ⊥) → (r : Operand) → IsImportedChain E e ps r → ⊥
    no_import_here none r k = by ps s k
      where
        by : (qs : List Post) → slice_get qs 0 ≡ Some x → IsImportedChain E e qs r → ⊥
        by [] t k = k
        by (y ∷ qs) t k = none k.0 (subst (λ (z : Post). NamesImported E e z k.0) (same_post t) k.1)

  pub import_none : (e : Expr) (ps : List Post) → slice_get ps 0 ≡ None → (r : Operand) → IsImportedChain E e ps r → ⊥
  import_none e [] s r k = k
  import_none e (x ∷ ps) s r k = no_post (sym s)

  -- ---- an expression with its posts

  named_form : {q : Name} {o : Operand} → HasForm E (Expr-F.Name q) o → Denotes E q o
  named_form (has_name d) = d

  named_in : {e : Expr} {q : Name} {o : Operand} → out-Expr e ≡ Expr-F.Name q → Has E e o → Denotes E q o
  named_in {o = o} i (has_operand h w) = named_form (subst (λ (l : ExprLayer). HasForm E l o) i h)

  form_of : {e : Expr} {o : Operand} → Has E e o → IsChain E e [] o
  form_of (has_operand h w) = (h, w)

  module _ (e : Expr) (first : Operand) (h : Has E e first) where
    pub posts_chain : (ps : List Post) (r : Operand) → HasPosts E first ps r → IsChain E e ps r
    posts_chain [] r k = subst (IsChain E e []) (at_end k) (form_of h)
    posts_chain (x ∷ ps) r k = (has_primary h k, posts_within k (form_of h).1)

    primary_posts : (x : Post) (ps : List Post) (r : Operand) → HasForm E (Expr-F.Primary e (x ∷ ps)) r → HasPosts E first (x ∷ ps) r
    primary_posts x ps r (has_primary a k) = subst (λ (z : Operand). HasPosts E z (x ∷ ps) r) (has_once E a h) k
    primary_posts x ps r (has_imported i j d w k) = absurd (no_import (named_in i h) d)

    pub chain_posts : (ps : List Post) (r : Operand) → IsChain E e ps r → HasPosts E first ps r
    chain_posts [] r k = subst (λ (z : Operand). HasPosts E first [] z) (has_once E h (has_operand k.0 k.1)) posts_none
    chain_posts (x ∷ ps) r k = primary_posts x ps r k.0

  module _ (e : Expr) (none : (o : Operand) → Has E e o → ⊥) where
    pub import_chain : (ps : List Post) (r : Operand) → IsImportedChain E e ps r → IsChain E e ps r
    import_chain [] r k = absurd k
    import_chain (x ∷ ps) r k = (has_imported k.1.1 k.1.2 k.1.3.0 k.1.3.1 k.2, posts_within k.2 k.1.3.1)

    imported_of : (x : Post) (ps : List Post) (r : Operand) → HasForm E (Expr-F.Primary e (x ∷ ps)) r → IsImportedChain E e (x ∷ ps) r
    imported_of x ps r (has_primary a k) = absurd (none _ a)
    imported_of x ps r (has_imported {q = q} {n = n} {o = o} i j d w k) = (o, ((q, n), i, j, (d, w)), k)

    pub chain_import : (ps : List Post) (r : Operand) → IsChain E e ps r → IsImportedChain E e ps r
    chain_import [] r k = absurd (none r (has_operand k.0 k.1))
    chain_import (x ∷ ps) r k = imported_of x ps r k.0
