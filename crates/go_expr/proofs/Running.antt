-- What follows an operand, post by post.
use Rattle.std.proofs.Common.{◌≡◌, ◌<◌, ◌≤◌, ◌+◌, ℕ, length, get_or, drop, Result, Ok, Err, List, [], ◌∷◌, refl, sym, ap, ◌∙◌, subst, Bool, true, false, ◌||◌}
use Rattle.go_rules.specs.Environments.{Env}
use Rattle.go_rules.specs.Expressions.{HasPost, HasPosts, posts_none, posts_more}
use Rattle.go_rules.specs.Operands.{ShapeWithin}
use Rattle.go_rules.specs.declared.operand.Operand.{Operand}
use Rattle.go_rules.proofs.OneOperand.{post_once}
use Rattle.go_syntax.specs.declared.expression.Post.{Post, out-Post}
use Rattle.std.specs.Result.{IsErrAnd}
use Rattle.go_calls.proofs.go_selectors_proofs.Lists.{drop_all, drop_next}
use Rattle.go_literals.proofs.go_type_terms_proofs.Gone.{or_false, or_or}
use Rattle.go_literals.specs.go_type_terms.declared.error.ExprError.{ExprError}
use Rattle.go_literals.specs.go_type_terms.declared.error.ExprError.TheVariants.{NoMemory, Untyped}
use Rattle.go_expr.specs.Posts.{IsStep, PostsTyped, Ran, ran_none, ran_more, StepTyped}

module _ (E : Env) where
  first_post : {o r : Operand} {x : Post} {xs : List Post} → HasPosts E o (x ∷ xs) r → (q : Operand) × HasPost E o (out-Post x) q × ShapeWithin q.shape × HasPosts E q xs r
  first_post (posts_more h w t) = (_, h, w, t)

  -- what the first posts made of the operand: the others go on from there
  pub record Going (first : Operand) (whole : List Post) (now : Operand) (rest : List Post) (loud : Bool) : Type 0 where
    pub to : (r : Operand) (b : Bool) → Ran E now rest r b → Ran E first whole r (loud || b)
    pub from : (r : Operand) → HasPosts E first whole r → HasPosts E now rest r

  pub posts_begin : (first : Operand) (whole : List Post) → Going first whole first whole false
  posts_begin first whole = record { to = λ r b h. h; from = λ r h. h }

  posts_on : (first : Operand) (whole : List Post) (now next : Operand) (x : Post) (rest : List Post) (loud a : Bool) → IsStep E now x next a → Going first whole now (x ∷ rest) loud → Going first whole next rest (loud || a)
  posts_on first whole now next x rest loud a s g = record {
    to = λ r b h. subst (λ (f : Bool). Ran E first whole r f) (or_or loud a b) (g.to r (a || b) (ran_more s h));
    from = λ r h. let f = first_post (g.from r h) in subst (λ (q : Operand). HasPosts E q rest r) (post_once E f.1 refl s.0) f.3;
  }

  posts_stop : (first : Operand) (whole : List Post) (now : Operand) (x : Post) (rest : List Post) (loud : Bool)
      → ((r : Operand) → HasPost E now (out-Post x) r → ShapeWithin r.shape → ⊥) → Going first whole now (x ∷ rest) loud → (r : Operand) → HasPosts E first whole r → ⊥
  posts_stop first whole now x rest loud none g r h = let f = first_post (g.from r h) in none f.0 f.1 f.2

  posts_end : (first : Operand) (whole : List Post) (now : Operand) (loud : Bool) → Going first whole now [] loud → Ran E first whole now loud
  posts_end first whole now loud g = subst (λ (f : Bool). Ran E first whole now f) (or_false loud) (g.to now false ran_none)

  posts_all : (first : Operand) (whole : List Post) (now : Operand) (i : ℕ) (x : Post) (loud : Bool) → i < length whole → x ≡ get_or whole i x → Going first whole now (drop i whole) loud → Going first whole now (x ∷ drop (i + 1) whole) loud
  posts_all first whole now i x loud h e g = subst (λ (xs : List Post). Going first whole now xs loud) (drop_next i whole x h e) g

  pub posts_next : (first : Operand) (whole : List Post) (now next : Operand) (i : ℕ) (x : Post) (loud a : Bool) → i < length whole → x ≡ get_or whole i x → IsStep E now x next a → Going first whole now (drop i whole) loud → Going first whole next (drop (i + 1) whole) (loud || a)
  posts_next first whole now next i x loud a h e s g = posts_on first whole now next x (drop (i + 1) whole) loud a s (posts_all first whole now i x loud h e g)

  pub posts_whole : (first : Operand) (whole : List Post) (now : Operand) (i : ℕ) (loud : Bool) → length whole ≤ i → Going first whole now (drop i whole) loud → Ran E first whole now loud
  posts_whole first whole now i loud h g = posts_end first whole now loud (subst (λ (xs : List Post). Going first whole now xs loud) (drop_all i whole h) g)

  -- an error of the next post is one of all
  pub posts_handed : (first : Operand) (whole : List Post) (now : Operand) (i : ℕ) (x : Post) (loud : Bool) → i < length whole → x ≡ get_or whole i x → Going first whole now (drop i whole) loud
      → (e : ExprError) (r : Result (Operand × Bool) ExprError) → IsErrAnd r (λ y. y ≡ e) → StepTyped E now x (Err e) → PostsTyped E first whole r
  posts_handed first whole now i x loud h k g e (Ok a) d t = absurd d
  posts_handed first whole now i x loud h k g e (Err NoMemory) d t = tt
  posts_handed first whole now i x loud h k g Untyped (Err Untyped) d t = posts_stop first whole now x (drop (i + 1) whole) loud t (posts_all first whole now i x loud h k g)
  posts_handed first whole now i x loud h k g NoMemory (Err Untyped) d t = absurd (cc)

  -- the result alone
  pub ran_posts : {o r : Operand} {xs : List Post} {b : Bool} → Ran E o xs r b → HasPosts E o xs r
  ran_posts ran_none = posts_none
  ran_posts (ran_more s t) = posts_more s.0 s.1 (ran_posts t)

  -- one post, out of bounds
  pub step_out : (o q : Operand) (x : Post) → HasPost E o (out-Post x) q → (ShapeWithin q.shape → ⊥) → (r : Operand) → HasPost E o (out-Post x) r → ShapeWithin r.shape → ⊥
  step_out o q x h none r k w = none (subst (λ (s : Operand). ShapeWithin s.shape) (post_once E k refl h) w)
