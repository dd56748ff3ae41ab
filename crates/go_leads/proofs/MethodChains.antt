-- The methods that selectors find in a tree are those in the chain of posts that it is, and those in its parts.
use Rattle.std.proofs.Common.{◌≡◌, List, [], ◌∷◌, ◌++◌, refl, sym, ap, ◌∙◌, subst, ◌⊎◌, inl, inr}
use Rattle.go_base.specs.Growing.{Grows}
use Rattle.go_rules.specs.Environments.{Env, selector_of}
use Rattle.go_rules.specs.Expressions.{Has as Typed, has_operand, HasForm, has_primary, has_imported, HasPosts, posts_none, posts_more, chain}
use Rattle.go_rules.specs.Nodes.{ExprLayer, PostLayer, Node, Stands, stands_here, stands_in, expression, post, value, type, signature, parts}
use Rattle.go_rules.specs.Operands.{ShapeWithin}
use Rattle.go_rules.specs.declared.operand.Operand.{Operand}
use Rattle.go_syntax.specs.declared.expression.Expr.{Expr, Expr-F, out-Expr}
use Rattle.go_syntax.specs.declared.expression.Post.{Post, Post-F, out-Post}
use Rattle.go_syntax.specs.declared.name.Name.{Name}
use Rattle.go_typings.specs.References.{Finds, FindsOf}
use Rattle.go_leads.specs.declared.methods.FoundMethod.{FoundMethod}
use Rattle.go_leads.specs.Listed.{Lists}
use Rattle.go_leads.specs.Methods.{found_in}
use Rattle.go_leads.specs.inner.Chains.{FoundAlong, along_here, along_more, FoundAt, FoundHere, FoundOf, FoundPost, ImportedAlong}
use Rattle.go_leads.specs.inner.Some.{SomeIn}
use Rattle.go_leads.proofs.Walks.{Splits, lists_one}

module _ (E : Env) (m : FoundMethod) where
  -- ---- from a place in a chain to the chain

  along_posts : {o r : Operand} {xs : List Post} (ys : List Post) → HasPosts E o xs r → FoundAlong E r ys m → FoundAlong E o (xs ++ ys) m
  along_posts ys posts_none f = f
  along_posts ys (posts_more h w t) f = along_more (h, w) (along_posts ys t f)

  post_found : {o : Operand} (x : Post) (n : Name) → out-Post x ≡ Post-F.Selector n → selector_of E n.text ≡ m.sel → FindsOf E o m.sel m.owner → FoundPost E o (out-Post x) m
  post_found {o = o} x n i s f = subst (λ (l : PostLayer). FoundPost E o l m) (sym i) (sym s, subst (λ z. FindsOf E o z m.owner) (sym s) f)

  chain_found : (x : Expr) (before : List Post) {o : Operand} (ys : List Post) → HasForm E (chain x before) o → ShapeWithin o.shape → FoundAlong E o ys m → FoundAt E (Expr-F.Primary x (before ++ ys)) m
  chain_found x [] ys h w f = inl (_, has_operand h w, f)
  chain_found x (q ∷ qs) ys (has_primary a c) w f = inl (_, a, along_posts ys c f)
  chain_found x (q ∷ qs) ys (has_imported e i d v c) w f = inr (_, ((_, _), e, i, (d, v)), along_posts ys c f)

  -- ---- from a chain to a place in it

  record Spotted (o : Operand) (ps : List Post) : Type 0 where
    before : List Post
    post_at : Post
    after : List Post
    result : Operand
    name : Name
    is : ps ≡ before ++ post_at ∷ after
    posts : HasPosts E o before result
    within : ShapeWithin o.shape → ShapeWithin result.shape
    selector : out-Post post_at ≡ Post-F.Selector name
    found : FoundOf E result (selector_of E name.text) m

  spotted_by : (o : Operand) (x : Post) (xs : List Post) (l : PostLayer) → out-Post x ≡ l → FoundPost E o l m → Spotted o (x ∷ xs)
  spotted_by o x xs (Post-F.Selector n) i f = record { before = []; post_at = x; after = xs; result = o; name = n; is = refl; posts = posts_none; within = λ w. w; selector = i; found = f }
  spotted_by o x xs (Post-F.TypeAssertion t) i f = absurd f
  spotted_by o x xs (Post-F.Index e) i f = absurd f
  spotted_by o x xs (Post-F.«Post::Slice» low high) i f = absurd f
  spotted_by o x xs (Post-F.FullSlice low high bound) i f = absurd f
  spotted_by o x xs (Post-F.Call es dots) i f = absurd f
  spotted_by o x xs (Post-F.CallReceiveChan t es dots) i f = absurd f

  spotted : {o : Operand} {ps : List Post} → FoundAlong E o ps m → Spotted o ps
  spotted (along_here {o = o} {x = x} {xs = xs} f) = spotted_by o x xs (out-Post x) refl f
  spotted (along_more {x = x} k f) =
      let s = spotted f in
      record {
        before = x ∷ s.before;
        post_at = s.post_at;
        after = s.after;
        result = s.result;
        name = s.name;
        is = ap (λ (ys : List Post). x ∷ ys) s.is;
        posts = posts_more k.0 k.1 s.posts;
        within = λ w. s.within k.1;
        selector = s.selector;
        found = s.found;
      }

  -- ---- a tree

  found_at : {a : Node} {e : Expr} (x : Expr) (before : List Post) (p : Post) (after : List Post) (o : Operand) (n : Name)
      → Stands a (expression e) → out-Expr e ≡ Expr-F.Primary x (before ++ p ∷ after) → out-Post p ≡ Post-F.Selector n → HasForm E (chain x before) o → ShapeWithin o.shape → FoundOf E o (selector_of E n.text) m → Finds E a m.owner m.sel
  found_at {e = e} x before p after o n s i j h w f = record {
    operand = o;
    name = n;
    selected = record { whole = e; operand = x; before = before; post = p; after = after; stands = s; is = i; selector = j; has = h; within = w };
    sel = sym f.0;
    found = subst (λ z. FindsOf E o z m.owner) (sym f.0) f.1;
  }

  chain_of : {x : Expr} {o r : Operand} (before : List Post) → Typed E x o → HasPosts E o before r → HasForm E (chain x before) r
  chain_of [] (has_operand h w) posts_none = h
  chain_of (q ∷ qs) h c = has_primary h c

  of_plain : {e x : Expr} {ps : List Post} {o : Operand} → out-Expr e ≡ Expr-F.Primary x ps → Typed E x o → Spotted o ps → Finds E (expression e) m.owner m.sel
  of_plain {x = x} i (has_operand h w) s = found_at x s.before s.post_at s.after s.result s.name stands_here (i ∙ ap (Expr-F.Primary x) s.is) s.selector (chain_of s.before (has_operand h w) s.posts) (s.within w) s.found

  of_imported : {e x : Expr} {ps : List Post} → out-Expr e ≡ Expr-F.Primary x ps → ImportedAlong E x ps m → Finds E (expression e) m.owner m.sel
  of_imported {ps = []} i f = absurd f
  of_imported {x = x} {ps = p ∷ ps} i f =
      let s = spotted f.2 in
      let k = f.1 in
      found_at x (p ∷ s.before) s.post_at s.after s.result s.name stands_here (i ∙ ap (λ (ys : List Post). Expr-F.Primary x (p ∷ ys)) s.is) s.selector (has_imported k.1 k.2 k.3.0 k.3.1 s.posts) (s.within k.3.1) s.found

  of_found_at : (e : Expr) (l : ExprLayer) → out-Expr e ≡ l → FoundAt E l m → Finds E (expression e) m.owner m.sel
  of_found_at e (Expr-F.Or f es) i k = absurd k
  of_found_at e (Expr-F.And f es) i k = absurd k
  of_found_at e (Expr-F.Compare f ops es) i k = absurd k
  of_found_at e (Expr-F.Sum f ops es) i k = absurd k
  of_found_at e (Expr-F.Product f ops es) i k = absurd k
  of_found_at e (Expr-F.Prefix op f) i k = absurd k
  of_found_at e (Expr-F.Primary x ps) i k = elim k [ inl h ↦ of_plain i h.1 (spotted h.2) | inr h ↦ of_imported i h ]
  of_found_at e (Expr-F.«Expr::Literal» c) i k = absurd k
  of_found_at e (Expr-F.Name n) i k = absurd k
  of_found_at e (Expr-F.FuncLit g body) i k = absurd k
  of_found_at e (Expr-F.Composite t xs) i k = absurd k
  of_found_at e (Expr-F.CompositeArray t xs) i k = absurd k
  of_found_at e (Expr-F.«Expr::Type» t) i k = absurd k
  of_found_at e (Expr-F.«Expr::Paren» f) i k = absurd k
  of_found_at e (Expr-F.ParenReceiveChan t) i k = absurd k

  of_found_here : (a : Node) → FoundHere E a m → Finds E a m.owner m.sel
  of_found_here (expression e) k = of_found_at e (out-Expr e) refl k
  of_found_here (post p) k = absurd k
  of_found_here (value v) k = absurd k
  of_found_here (type t) k = absurd k
  of_found_here (signature g) k = absurd k

  moved : {a b : Node} (f : Finds E a m.owner m.sel) → Stands b (expression f.selected.whole) → Finds E b m.owner m.sel
  moved f s = record {
    operand = f.operand;
    name = f.name;
    selected = record {
      whole = f.selected.whole;
      operand = f.selected.operand;
      before = f.selected.before;
      post = f.selected.post;
      after = f.selected.after;
      stands = s;
      is = f.selected.is;
      selector = f.selected.selector;
      has = f.selected.has;
      within = f.selected.within;
    };
    sel = f.sel;
    found = f.found;
  }

  parted_at : {a : Node} (w : Node) → Stands a w → (f : Finds E a m.owner m.sel) → w ≡ expression f.selected.whole → FoundHere E w m → FoundHere E a m ⊎ SomeIn (found_in E) (parts a) m
  parted_at w stands_here f i k = inl k
  parted_at w (stands_in {b = p} h s) f i k = inr (p, h, moved f (subst (Stands p) i s))

  chain_here : {a : Node} (f : Finds E a m.owner m.sel) → FoundHere E (expression f.selected.whole) m
  chain_here f =
      let s = f.selected in
      subst (λ (l : ExprLayer). FoundAt E l m) (sym s.is) (chain_found s.operand s.before (s.post ∷ s.after) s.has s.within (along_here (post_found s.post f.name s.selector f.sel f.found)))

  parted : {a : Node} → Finds E a m.owner m.sel → FoundHere E a m ⊎ SomeIn (found_in E) (parts a) m
  parted f = parted_at (expression f.selected.whole) f.selected.stands f refl (chain_here f)

-- a tree gives the methods that are found in the chain that it is, and those in its parts
pub chain_splits : (E : Env) (a : Node) → Splits (found_in E) a (parts a) (FoundHere E a)
chain_splits E a = record {
  splits = λ m f. parted E m f;
  of_here = λ m k. of_found_here E m a k;
  of_parts = λ m s. moved E m s.2 (stands_in s.1 s.2.selected.stands);
}

-- the methods in one tree, from none
pub listed : (E F : Env) → E ≡ F → (a : Node) (start all : List Node) (first last : List FoundMethod) → start ≡ [] → all ≡ start ++ a ∷ [] → first ≡ [] → Grows (SomeIn (found_in E) all) first last → Lists (found_in F a) last
listed E F s a start all first last e f k g = subst (λ (G : Env). Lists (found_in G a) last) s (lists_one (found_in E) a all first last (f ∙ ap (λ ns. ns ++ a ∷ []) e) k g)
