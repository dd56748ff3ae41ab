-- Calls that stand alone, by their forms.
use Rattle.std.proofs.Common.{◌≡◌, ◌∙◌, Bool, true, false, List, [], ◌∷◌, ◌++◌, length, arith, refl, sym, ap, subst, inl, inr}
use Rattle.go_base.specs.declared.operator.PrefixOperator.{PrefixOperator}
use Rattle.go_base.specs.declared.operator.PrefixOperator.TheVariants as prefix
use Rattle.go_operators.proofs.Answers.{decided_false, decided_true}
use Rattle.go_rules.specs.Asks.{HasOperand}
use Rattle.go_rules.specs.Environments.{Env}
use Rattle.go_rules.specs.Expressions.{chain, Has, has_imported, has_operand, has_paren, has_primary, HasForm, IsCall, call, call_receive_type, posts_none}
use Rattle.go_rules.specs.Nodes.{ExprLayer, PostLayer}
use Rattle.go_rules.specs.declared.operand.Operand.{Operand}
use Rattle.go_rules.proofs.OneKind.{no_truth}
use Rattle.go_rules.proofs.OneOperand.{form_once}
use Rattle.go_selectors.specs.Answers.{Decides}
use Rattle.go_statement_rules.specs.Assignments.{IsCallAlone, call_alone, call_in_parentheses, IsReceiveAlone, receive_alone, receive_in_parentheses, may_be_called_alone}
use Rattle.go_syntax.specs.declared.expression.Expr.{Expr, Expr-F, out-Expr}
use Rattle.go_syntax.specs.declared.expression.Post.{Post, Post-F, out-Post}
use Rattle.go_syntax.specs.declared.name.Name.{Name}
use Rattle.go_assignments.specs.Simple.{CallsAlone, StandsAlone}
use Rattle.go_assignments.specs.inner.Calls.{CallsAlong, calls_along, calls_in_parentheses, EndsInCall, IsAlong, MayCall, is_call_of}
use Rattle.go_assignments.proofs.Chains.{along_form, form_along, one_along}

called_of : {l : PostLayer} {es : List Expr} {dots : Bool} → IsCall l es dots → is_call_of l ≡ true
called_of call = refl
called_of call_receive_type = refl

call_in : (l : PostLayer) → is_call_of l ≡ true → (es : List Expr) × (dots : Bool) × IsCall l es dots
call_in (Post-F.Call xs dots) i = (_, _, call)
call_in (Post-F.CallReceiveChan t xs dots) i = (_, _, call_receive_type)
call_in (Post-F.Selector n) i = absurd (cc)
call_in (Post-F.TypeAssertion t) i = absurd (cc)
call_in (Post-F.Index e) i = absurd (cc)
call_in (Post-F.«Post::Slice» low high) i = absurd (cc)
call_in (Post-F.FullSlice low high bound) i = absurd (cc)

no_selector : {l : PostLayer} {es : List Expr} {dots : Bool} {n : Name} → l ≡ Post-F.Selector n → IsCall l es dots → ⊥
no_selector i k = no_truth (sym (called_of k) ∙ ap is_call_of i)

one_paren : {l : ExprLayer} {x y : Expr} → l ≡ Expr-F.«Expr::Paren» x → l ≡ Expr-F.«Expr::Paren» y → x ≡ y
one_paren a b = cc

one_operand : {l : ExprLayer} {x y : Expr} {ps qs : List Post} → l ≡ Expr-F.Primary x ps → l ≡ Expr-F.Primary y qs → x ≡ y
one_operand a b = cc

one_posts : {l : ExprLayer} {x y : Expr} {ps qs : List Post} → l ≡ Expr-F.Primary x ps → l ≡ Expr-F.Primary y qs → ps ≡ qs
one_posts a b = cc

module _ (E : Env) where
  paren_form : {x : Expr} {o : Operand} → HasForm E (Expr-F.«Expr::Paren» x) o → Has E x o
  paren_form (has_paren a) = a

  -- the operand of a call that is typed has its own
  first_along : (x : Expr) (c : Post) {es : List Expr} {dots : Bool} {o q : Operand} → IsCall (out-Post c) es dots → HasForm E (Expr-F.Primary x (c ∷ [])) o → HasForm E (out-Expr x) q → IsAlong E x [] q
  first_along x c k (has_primary (has_operand f w) ps) h = inl (_, subst (Has E x) (form_once E f h) (has_operand f w), posts_none)
  first_along x c k (has_imported e i d v ps) h = absurd (no_selector i k)

  called_along : (x : Expr) (before : List Post) (c : Post) {es : List Expr} {dots : Bool} {o q : Operand} → IsCall (out-Post c) es dots → HasForm E (Expr-F.Primary x (before ++ c ∷ [])) o → HasForm E (chain x before) q → IsAlong E x before q
  called_along x [] c k f h = first_along x c k f h
  called_along x (p ∷ ps) c k f h = form_along E x p ps h

  -- what is typed, and is a call that is a statement, is so along its posts
  pub in_call : {e : Expr} {o : Operand} → Has E e o → IsCallAlone E e → CallsAlong E e
  in_call {o = o} (has_operand f w) (call_alone {x = x} before c {o = q} i k h m) =
      calls_along i (before, c, refl, called_of k, (q, called_along x before c k (subst (λ (l : ExprLayer). HasForm E l o) i f) h, m))
  in_call {o = o} (has_operand f w) (call_in_parentheses i h) = calls_in_parentheses i (in_call (paren_form (subst (λ (l : ExprLayer). HasForm E l o) i f)) h)

  ended : {e x : Expr} {ps : List Post} → out-Expr e ≡ Expr-F.Primary x ps → EndsInCall E x ps → IsCallAlone E e
  ended {x = x} i (before, c, j, k, (o, a, m)) =
      let t = call_in (out-Post c) k in
      call_alone before c (i ∙ ap (λ qs. Expr-F.Primary x qs) j) t.2 (along_form E x before o a) m

  pub to_call : {e : Expr} → CallsAlong E e → IsCallAlone E e
  to_call (calls_along i h) = ended i h
  to_call (calls_in_parentheses i h) = call_in_parentheses i (to_call h)

  -- ---- by the form of the expression

  primary_in : (e x : Expr) (ps : List Post) → out-Expr e ≡ Expr-F.Primary x ps → CallsAlong E e → EndsInCall E x ps
  primary_in e x ps i (calls_along {x = y} j h) = subst (λ (z : Expr). EndsInCall E z ps) (one_operand j i) (subst (λ (qs : List Post). EndsInCall E y qs) (one_posts j i) h)
  primary_in e x ps i (calls_in_parentheses j h) = absurd (cc)

  paren_in : (e x : Expr) → out-Expr e ≡ Expr-F.«Expr::Paren» x → CallsAlong E e → CallsAlong E x
  paren_in e x i (calls_along j h) = absurd (cc)
  paren_in e x i (calls_in_parentheses j h) = subst (CallsAlong E) (one_paren j i) h

  pub primary_to : (e x y : Expr) (ps qs : List Post) → out-Expr e ≡ Expr-F.Primary x ps → y ≡ x → qs ≡ ps → EndsInCall E y qs → CallsAlong E e
  primary_to e x y ps qs i j k h = calls_along i (subst (λ (z : Expr). EndsInCall E z ps) j (subst (λ (rs : List Post). EndsInCall E y rs) k h))

  pub primary_of : (e x y : Expr) (ps qs : List Post) → out-Expr e ≡ Expr-F.Primary x ps → y ≡ x → qs ≡ ps → CallsAlong E e → EndsInCall E y qs
  primary_of e x y ps qs i j k h = subst (λ (rs : List Post). EndsInCall E y rs) (sym k) (subst (λ (z : Expr). EndsInCall E z ps) (sym j) (primary_in e x ps i h))

  pub paren_to : (e x y : Expr) → out-Expr e ≡ Expr-F.«Expr::Paren» x → y ≡ x → CallsAlong E y → CallsAlong E e
  paren_to e x y i j h = calls_in_parentheses i (subst (CallsAlong E) j h)

  pub paren_of : (e x y : Expr) → out-Expr e ≡ Expr-F.«Expr::Paren» x → y ≡ x → CallsAlong E e → CallsAlong E y
  paren_of e x y i j h = subst (CallsAlong E) (sym j) (paren_in e x i h)

-- the one operand that is called decides whether a call of it is a statement
pub called_decided : (E : Env) (e : Expr) (ps : List Post) (o : Operand) → IsAlong E e ps o → (b : Bool) → b ≡ may_be_called_alone o.mode o.shape → Decides b (MayCall E e ps)
called_decided E e ps o a true i = (o, a, sym i)
called_decided E e ps o a false i = λ h. no_truth (sym h.2 ∙ ap (λ (p : Operand). may_be_called_alone p.mode p.shape) (one_along E e ps h.0 o h.1 a) ∙ sym i)

-- ---- the whole

pub call_typed : (E : Env) (e : Expr) (o : Operand) → HasOperand E e o → (b : Bool) → b ≡ true → Decides b (CallsAlong E e) → CallsAlone E e
call_typed E e o h b i d = (o, h, to_call E (decided_true (CallsAlong E e) b i d))

pub call_untyped : (E : Env) (e : Expr) (b : Bool) → b ≡ false → Decides b (CallsAlong E e) → CallsAlone E e → ⊥
call_untyped E e b i d h = decided_false (CallsAlong E e) b i d (in_call E h.1.is h.2)

pub alone_called : (E : Env) (e : Expr) (o : Operand) → HasOperand E e o → (b : Bool) → b ≡ true → Decides b (CallsAlong E e) → StandsAlone E e
alone_called E e o h b i d = (o, h, inl (to_call E (decided_true (CallsAlong E e) b i d)))

pub alone_received : (E : Env) (e : Expr) (o : Operand) → HasOperand E e o → IsReceiveAlone e → StandsAlone E e
alone_received E e o h r = (o, h, inr r)

pub alone_untyped : (E : Env) (e : Expr) → (IsReceiveAlone e → ⊥) → (b : Bool) → b ≡ false → Decides b (CallsAlong E e) → StandsAlone E e → ⊥
alone_untyped E e none b i d h = elim h.2 [ inl k ↦ decided_false (CallsAlong E e) b i d (in_call E h.1.is k) | inr r ↦ none r ]

-- ---- the last post

tail_same : {x y : Post} {xs ys : List Post} → x ∷ xs ≡ y ∷ ys → xs ≡ ys
tail_same e = cc

nil_last : (ys : List Post) (y : Post) → [] ≡ ys ++ y ∷ [] → ⊥
nil_last [] y e = absurd (cc)
nil_last (z ∷ ys) y e = absurd (cc)

rest_same : (xs ys : List Post) (x y : Post) → xs ++ x ∷ [] ≡ ys ++ y ∷ [] → xs ≡ ys
rest_same [] [] x y i = refl
rest_same [] (b ∷ ys) x y i = absurd (nil_last ys y (tail_same i))
rest_same (a ∷ xs) [] x y i = absurd (nil_last xs x (sym (tail_same i)))
rest_same (a ∷ xs) (b ∷ ys) x y i = let t = rest_same xs ys x y (tail_same i) in let h : a ≡ b = cc in cc

last_same : (xs ys : List Post) (x y : Post) → xs ++ x ∷ [] ≡ ys ++ y ∷ [] → x ≡ y
last_same [] [] x y i = cc
last_same [] (b ∷ ys) x y i = absurd (nil_last ys y (tail_same i))
last_same (a ∷ xs) [] x y i = absurd (nil_last xs x (sym (tail_same i)))
last_same (a ∷ xs) (b ∷ ys) x y i = last_same xs ys x y (tail_same i)

module _ (E : Env) (x : Expr) (ps before : List Post) (c : Post) (i : ps ≡ before ++ c ∷ []) where
  pub last_no_call : is_call_of (out-Post c) ≡ false → EndsInCall E x ps → ⊥
  last_no_call k (others, d, j, l, h) = no_truth (sym l ∙ ap (λ (p : Post). is_call_of (out-Post p)) (last_same others before d c (sym j ∙ i)) ∙ k)

  pub last_to : is_call_of (out-Post c) ≡ true → MayCall E x before → EndsInCall E x ps
  last_to k h = (before, c, i, k, h)

  pub last_in : EndsInCall E x ps → MayCall E x before
  last_in (others, d, j, l, h) = subst (MayCall E x) (rest_same others before d c (sym j ∙ i)) h

nothing : (qs : List Post) → length qs ≡ 0 → qs ≡ []
nothing [] f = refl
nothing (q ∷ qs) f = absurd (omega arith)

pub no_last : (E : Env) (x : Expr) (ps : List Post) → length ps ≡ 0 → EndsInCall E x ps → ⊥
no_last E x ps e (others, d, j, l, h) = nil_last others d (sym (nothing ps e) ∙ j)

-- ---- receives

one_operator : {l : ExprLayer} {x y : Expr} {o p : PrefixOperator} → l ≡ Expr-F.Prefix o x → l ≡ Expr-F.Prefix p y → o ≡ p
one_operator a b = cc

receive_in : (e x : Expr) (o : PrefixOperator) → out-Expr e ≡ Expr-F.Prefix o x → IsReceiveAlone e → o ≡ prefix.Receive
receive_in e x o i (receive_alone j) = one_operator i j
receive_in e x o i (receive_in_parentheses j h) = absurd (cc)

pub prefix_decided : (e x : Expr) (o : PrefixOperator) (b : Bool) → out-Expr e ≡ Expr-F.Prefix o x → Decides b (o ≡ prefix.Receive) → Decides b (IsReceiveAlone e)
prefix_decided e x o true i d = receive_alone (subst (λ (p : PrefixOperator). out-Expr e ≡ Expr-F.Prefix p x) d i)
prefix_decided e x o false i d = λ h. d (receive_in e x o i h)

received_in : (e x : Expr) → out-Expr e ≡ Expr-F.«Expr::Paren» x → IsReceiveAlone e → IsReceiveAlone x
received_in e x i (receive_alone j) = absurd (cc)
received_in e x i (receive_in_parentheses j h) = subst IsReceiveAlone (one_paren j i) h

pub paren_decided : (e x y : Expr) (b : Bool) → out-Expr e ≡ Expr-F.«Expr::Paren» x → y ≡ x → Decides b (IsReceiveAlone y) → Decides b (IsReceiveAlone e)
paren_decided e x y true i j d = receive_in_parentheses i (subst IsReceiveAlone j d)
paren_decided e x y false i j d = λ h. d (subst IsReceiveAlone (sym j) (received_in e x i h))
