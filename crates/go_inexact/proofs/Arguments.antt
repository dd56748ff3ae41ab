-- Calls with one argument, and lists with one item or a last one.
use Rattle.std.proofs.Common.{◌≡◌, ◌+◌, ℕ, suc, Bool, true, false, List, [], ◌∷◌, ◌++◌, length, get_or, take, drop, Option, None, Some, refl, sym, ap, ◌∙◌, subst, arith}
use Rattle.std.specs.Prelude.{MatchOption}
use denote.Ref.{Bor}
use Rattle.go_base.proofs.Lists.{drop_past, split_at}
use Rattle.go_inexact.specs.Chains.{HasArgument, IsTypeForm}
use Rattle.go_rules.specs.Expressions.{IsCall, call, call_receive_type}
use Rattle.go_rules.specs.Nodes.{PostLayer}
use Rattle.go_syntax.specs.declared.expression.Expr.{Expr, out-Expr}
use Rattle.go_syntax.specs.declared.expression.Expr.TheVariants as expr
use Rattle.go_syntax.specs.declared.expression.Expr.TheVariants.{outs-Type}
use Rattle.go_syntax.specs.declared.expression.Post.{Post, Post-F, out-Post, roll-Post, roll-out-Post}
use Rattle.go_syntax.specs.declared.expression.Post.TheVariants as post
use Rattle.go_syntax.specs.declared.expression.Post.TheVariants.{outs-Call}
use Rattle.go_syntax.specs.declared.types.«Type».TheVariants as type

no_dots : {A : Type 0} → false ≡ true → A
no_dots e = absurd (cc)

-- ---- lists

module _ {A : Type 0} where
  first_same : {x y : A} {xs ys : List A} → x ∷ xs ≡ y ∷ ys → x ≡ y
  first_same {x = x} e = ap (λ (zs : List A). get_or zs 0 x) e

  others_same : {x y : A} {xs ys : List A} → x ∷ xs ≡ y ∷ ys → xs ≡ ys
  others_same e = ap (λ (zs : List A). drop 1 zs) e

  no_item : {B : Type 0} {x : A} {xs : List A} → ◌≡◌ {A = List A} [] (x ∷ xs) → B
  no_item e = absurd (cc)

  pub not_empty : (xs : List A) (x : A) → [] ≡ xs ++ x ∷ [] → ⊥
  not_empty [] x e = no_item e
  not_empty (y ∷ xs) x e = no_item e

  -- two lists with a last item are the same only where both their parts are
  pub last_same : (xs ys : List A) (x y : A) → xs ++ x ∷ [] ≡ ys ++ y ∷ [] → (xs ≡ ys) × (x ≡ y)
  last_same [] [] x y e = (refl, first_same e)
  last_same [] (b ∷ ys) x y e = absurd (not_empty ys y (others_same e))
  last_same (a ∷ xs) [] x y e = absurd (not_empty xs x (sym (others_same e)))
  last_same (a ∷ xs) (b ∷ ys) x y e = let k = last_same xs ys x y (others_same e) in (ap (λ (z : A). z ∷ xs) (first_same e) ∙ ap (λ (zs : List A). b ∷ zs) k.0, k.1)

  -- a list is its front and its last item
  pub last_of : (xs : List A) (n : ℕ) (x : A) → n + 1 ≡ length xs → x ≡ get_or xs n x → xs ≡ take n xs ++ x ∷ []
  last_of xs n x h e = split_at n xs x x (omega (arith, h)) (sym e) ∙ ap (λ (zs : List A). take n xs ++ x ∷ zs) (drop_past (suc n) xs (omega (arith, h)))

  pub single : (xs : List A) (x : A) → length xs ≡ 1 → x ≡ get_or xs 0 x → xs ≡ x ∷ []
  single [] x h e = absurd (omega (arith, h))
  single (y ∷ []) x h e = ap (λ (z : A). z ∷ []) (sym e)
  single (y ∷ (z ∷ zs)) x h e = absurd (omega (arith, h))

-- ---- calls

-- the arguments of a call, and whether `...` follows them
abbrev pub Called : PostLayer → List Expr → Bool → Type 0
Called (Post-F.Call xs d) es dots = (xs ≡ es) × (d ≡ dots)
Called (Post-F.CallReceiveChan t xs d) es dots = (expr.Type (type.ReceiveChan t) ∷ xs ≡ es) × (d ≡ dots)
Called l es dots = ⊥

pub called : {l : PostLayer} {es : List Expr} {dots : Bool} → IsCall l es dots → Called l es dots
called call = (refl, refl)
called call_receive_type = (refl, refl)

called_same : (l : PostLayer) {x y : Expr} → Called l (x ∷ []) false → Called l (y ∷ []) false → x ≡ y
called_same (Post-F.Call xs d) a b = first_same (sym a.0 ∙ b.0)
called_same (Post-F.CallReceiveChan t xs d) a b = first_same (sym a.0 ∙ b.0)
called_same (Post-F.Selector n) a b = absurd a
called_same (Post-F.TypeAssertion t) a b = absurd a
called_same (Post-F.Index x) a b = absurd a
called_same (Post-F.«Post::Slice» low high) a b = absurd a
called_same (Post-F.FullSlice low high bound) a b = absurd a

-- a call has one argument only once
pub argument_same : {l : PostLayer} {x y : Expr} → IsCall l (x ∷ []) false → IsCall l (y ∷ []) false → x ≡ y
argument_same {l = l} a b = called_same l (called a) (called b)

module _ (l : PostLayer) (x : Expr) (a : IsCall l (x ∷ []) false) where
  -- the arguments of a call that begins with no type
  pub call_of : {xs : List Expr} {dots : Bool} → l ≡ Post-F.Call xs dots → (xs ≡ x ∷ []) × (dots ≡ false)
  call_of e = subst (λ (z : PostLayer). Called z (x ∷ []) false) e (called a)

  -- where there is no such call, the argument is a type
  pub type_argument : ((xs : List Expr) (dots : Bool) → l ≡ Post-F.Call xs dots → ⊥) → IsTypeForm x
  type_argument none = by l refl (called a)
    where
      by : (z : PostLayer) → l ≡ z → Called z (x ∷ []) false → IsTypeForm x
      by (Post-F.Call xs d) e k = absurd (none xs d e)
      by (Post-F.CallReceiveChan t xs d) e k = record { form = type.ReceiveChan t; is = ap out-Expr (sym (first_same k.0)) ∙ outs-Type (type.ReceiveChan t) }
      by (Post-F.Selector n) e k = absurd k
      by (Post-F.TypeAssertion t) e k = absurd k
      by (Post-F.Index y) e k = absurd k
      by (Post-F.«Post::Slice» low high) e k = absurd k
      by (Post-F.FullSlice low high bound) e k = absurd k

module _ (c : Post) (xs : List Expr) (dots : Bool) (i : out-Post c ≡ Post-F.Call xs dots) where
  -- arguments with `...` are no argument
  pub dotted : dots ≡ true → HasArgument c None
  dotted e = λ x a. no_dots (sym (call_of (out-Post c) x a i).1 ∙ e)

  -- the only argument of a call, where there is one
  pub only_argument : dots ≡ false → (r : Option (Bor Expr)) → MatchOption r ((x : Expr) → xs ≡ x ∷ [] → ⊥) (λ x. xs ≡ x.now ∷ []) → HasArgument c r
  only_argument e None m = λ x a. absurd (m x (call_of (out-Post c) x a i).0)
  only_argument e (Some x) m = subst (λ (l : PostLayer). IsCall l (x.now ∷ []) false) (sym (i ∙ ap (λ (ys : List Expr). Post-F.Call ys dots) m ∙ ap (Post-F.Call (x.now ∷ [])) e)) call

-- a post of this form is such a call
pub called_post : (c : Post) (xs : List Expr) (dots : Bool) → out-Post c ≡ Post-F.Call xs dots → c ≡ post.Call xs dots
called_post c xs dots i = sym (roll-out-Post c) ∙ ap roll-Post i ∙ ap roll-Post (sym (outs-Call xs dots)) ∙ roll-out-Post (post.Call xs dots)

-- what is no call that begins with a value has an argument only where that is a type
pub no_argument : (c : Post) → ((xs : List Expr) (dots : Bool) → out-Post c ≡ Post-F.Call xs dots → ⊥) → HasArgument c None
no_argument c none = λ x a. type_argument (out-Post c) x a none
