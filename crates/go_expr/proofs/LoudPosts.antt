-- Whether an operand with what follows it is loud.
use Rattle.std.proofs.Common.{◌≡◌, List, [], ◌∷◌, ◌++◌, map, append_assoc, refl, sym, ap, ◌∙◌, subst, ◌⊎◌, inl, inr, Bool, true, false, ◌||◌, append-nil}
use Rattle.go_base.specs.Lists.{Has as In}
use Rattle.go_rules.specs.Environments.{Env}
use Rattle.go_rules.specs.Expressions.{CallsAt, calls_at, Has, has_operand, HasForm, has_imported, has_primary, HasPost, HasPosts, posts_none, posts_more, IsCall, IsQuietCall, quiet_conversion, quiet_constant, DenotesImported, chain, is_receive}
use Rattle.go_rules.specs.Nodes.{ExprLayer, Node, PostLayer, expression, expression_parts, parts, post, stands_here}
use Rattle.go_rules.specs.Operands.{ShapeWithin}
use Rattle.go_rules.specs.declared.operand.Operand.{Operand}
use Rattle.go_syntax.specs.declared.expression.Expr.{Expr, Expr-F, out-Expr}
use Rattle.go_syntax.specs.declared.expression.Post.{Post, Post-F, out-Post}
use Rattle.go_syntax.specs.declared.name.Name.{Name}
use Rattle.go_literals.specs.go_type_terms.Loudness.{AreLoud, Loud, loud_call, Quiet}
use Rattle.go_literals.proofs.go_type_terms_proofs.LoudTrees.{none_loud}
use Rattle.go_literals.proofs.go_operations_proofs.LoudForms.{alone_loud, alone_quiet, form_loud, quiet_by_parts, raised}
use Rattle.go_expr.specs.Imports.{ImportedWithin}
use Rattle.go_expr.specs.Posts.{IsStep, Ran, ran_none, ran_more, is_loud_call}
use Rattle.go_expr.proofs.CallKinds.{call_is, call_of, constant_called, loud_parts, quiet_parts, type_called}

no_truth : false ≡ true → ⊥
no_truth e = absurd (cc)

-- a post in the middle of some
mid_part : (before after : List Post) (c : Post) → In (map post (before ++ c ∷ after)) (post c)
mid_part [] after c = inl refl
mid_part (b ∷ before) after c = inr (mid_part before after c)

abbrev operand_in : ExprLayer → Expr → Expr
operand_in (Expr-F.Primary x ps) d = x
operand_in l d = d

abbrev posts_in : ExprLayer → List Post
posts_in (Expr-F.Primary x ps) = ps
posts_in l = []

module _ (E : Env) (x : Expr) where
  -- what the posts before made of the operand is what the front of the chain is
  abbrev pub Fronts : List Post → Operand → Type 0
  Fronts before o = (ps : List Post) (r : Operand) → HasPosts E o ps r → HasForm E (chain x (before ++ ps)) r

  pub front_next : (before : List Post) (o q : Operand) (c : Post) → Fronts before o → HasPost E o (out-Post c) q → ShapeWithin q.shape → Fronts (before ++ c ∷ []) q
  front_next before o q c f h w ps r t = subst (λ (b : List Post). HasForm E (chain x b) r) (sym (append_assoc before (c ∷ []) ps)) (f (c ∷ ps) r (posts_more h w t))

  front_now : (before : List Post) (o : Operand) → Fronts before o → HasForm E (chain x before) o
  front_now before o f = subst (λ (b : List Post). HasForm E (chain x b) o) (append-nil before) (f [] o posts_none)

  front_then : (before : List Post) (o q : Operand) (c : Post) → Fronts before o → HasPost E o (out-Post c) q → ShapeWithin q.shape → HasForm E (chain x (before ++ c ∷ [])) q
  front_then before o q c f h w = f (c ∷ []) q (posts_more h w posts_none)

  moved_on : (before : List Post) (c : Post) (rest : List Post) → before ++ c ∷ rest ≡ (before ++ c ∷ []) ++ rest
  moved_on before c rest = sym (append_assoc before (c ∷ []) rest)

  -- ---- loud

  module _ (w : Expr) where
    step_loud : (before : List Post) (o q : Operand) (c : Post) (after : List Post) → out-Expr w ≡ Expr-F.Primary x (before ++ c ∷ after) → Fronts before o → HasPost E o (out-Post c) q → ShapeWithin q.shape
        → (inside k : Bool) → AreLoud E (post c ∷ []) inside → k ≡ is_loud_call o (out-Post c) q → (inside || k) ≡ true → Loud E (expression w)
    step_loud before o q c after i f h v true k l j e = raised E (expression w) (post c) (subst (λ (y : ExprLayer). In (expression_parts y) (post c)) (sym i) (inr (mid_part before after c))) (inside_loud l)
      where
        inside_loud : AreLoud E (post c ∷ []) true → Loud E (post c)
        inside_loud (n, inl s, t) = subst (Loud E) (sym s) t
        inside_loud (n, inr s, t) = absurd s
    step_loud before o q c after i f h v false true l j e =
        let p = loud_parts o (out-Post c) q (sym j) in
        let a = call_of (out-Post c) p.0 in
        loud_call w x before c stands_here (calls_at after i a.2) (front_now before o f) p.1 (front_then before o q c f h v) p.2
    step_loud before o q c after i f h v false false l j e = absurd (no_truth e)

    pub ran_loud : (before : List Post) {o r : Operand} {ps : List Post} {b : Bool} → out-Expr w ≡ Expr-F.Primary x (before ++ ps) → Fronts before o → Ran E o ps r b → b ≡ true → Loud E (expression w)
    ran_loud before i f ran_none e = absurd (no_truth e)
    ran_loud before i f (ran_more {o = o} {q = q} {x = c} {xs = after} {a = true} s t) e = step_loud before o q c after i f s.0 s.1 s.2 (is_loud_call o (out-Post c) q) s.3 refl (sym s.4)
    ran_loud before i f (ran_more {o = o} {q = q} {x = c} {xs = after} {a = false} s t) e = ran_loud (before ++ c ∷ []) (i ∙ ap (Expr-F.Primary x) (moved_on before c after)) (front_next before o q c f s.0 s.1) t e

  -- ---- quiet

  inside_quiet : (c : Post) (inside k : Bool) → AreLoud E (post c ∷ []) inside → (inside || k) ≡ false → Quiet E (post c)
  inside_quiet c true k l e = absurd (no_truth (sym e))
  inside_quiet c false k l e = l (post c) (inl refl)

  call_false : (inside k : Bool) → (inside || k) ≡ false → k ≡ false
  call_false true k e = absurd (no_truth (sym e))
  call_false false k e = e

  left_false : (a b : Bool) → (a || b) ≡ false → a ≡ false
  left_false true b e = e
  left_false false b e = refl

  parts_quiet : {o r : Operand} {ps : List Post} {b : Bool} → Ran E o ps r b → b ≡ false → (n : Node) → In (map post ps) n → Quiet E n
  parts_quiet ran_none e n i = absurd i
  parts_quiet (ran_more {x = c} {a = a} {b = b} s t) e n (inl j) = subst (Quiet E) j (inside_quiet c s.2 _ s.3 (sym s.4 ∙ left_false a b e))
  parts_quiet (ran_more {x = c} {a = a} {b = b} s t) e n (inr j) = parts_quiet t (call_false a b e) n j

  quiet_kind : (before : List Post) (o q : Operand) (c : Post) {es : List Expr} {dots : Bool} → IsCall (out-Post c) es dots → Fronts before o → HasPost E o (out-Post c) q → ShapeWithin q.shape → is_loud_call o (out-Post c) q ≡ false → IsQuietCall E x before c
  quiet_kind before o q c a f h v e = elim (quiet_parts o (out-Post c) q e (call_is a)) [
    | inl t ↦ let y = type_called E h a t in quiet_conversion (subst (λ (z : Operand). HasForm E (chain x before) z) y.1 (front_now before o f))
    | inr k ↦ let y = constant_called E h a k in quiet_constant (subst (λ (z : Operand). HasForm E (chain x (before ++ c ∷ [])) z) y.2 (front_then before o q c f h v))
  ]

  abbrev first_in : List Post → Post → Post
  first_in [] d = d
  first_in (p ∷ ps) d = p

  abbrev others_in : List Post → List Post
  others_in [] = []
  others_in (p ∷ ps) = ps

  no_middle : (front : List Post) (c : Post) (after : List Post) → [] ≡ front ++ c ∷ after → ⊥
  no_middle [] c after e = absurd (cc)
  no_middle (p ∷ front) c after e = absurd (cc)

  pub calls_quiet : (before : List Post) {o r : Operand} {ps : List Post} {b : Bool} → Fronts before o → Ran E o ps r b → b ≡ false
      → (front : List Post) (c : Post) (after : List Post) {es : List Expr} {dots : Bool} → ps ≡ front ++ c ∷ after → IsCall (out-Post c) es dots → IsQuietCall E x (before ++ front) c
  calls_quiet before f ran_none e front c after i a = absurd (no_middle front c after i)
  calls_quiet before f (ran_more {o = o} {q = q} {x = p} {a = h} {b = b} s t) e [] c after {es = es} {dots = dots} i a =
      let y = ap (λ ps. first_in ps p) i in
      subst (λ (z : Post). IsQuietCall E x (before ++ []) z) y
      (subst (λ (z : List Post). IsQuietCall E x z p) (sym (append-nil before))
      (quiet_kind before o q p (subst (λ (z : Post). IsCall (out-Post z) es dots) (sym y) a) f s.0 s.1 (call_false s.2 (is_loud_call o (out-Post p) q) (sym s.4 ∙ left_false h b e))))
  calls_quiet before f (ran_more {o = o} {q = q} {x = p} {a = h} {b = b} s t) e (y ∷ front) c after i a =
      let k = ap (λ ps. first_in ps p) i in
      subst (λ (z : Post). IsQuietCall E x (before ++ z ∷ front) c) k
      (subst (λ (z : List Post). IsQuietCall E x z c) (append_assoc before (p ∷ []) front)
      (calls_quiet (before ++ p ∷ []) (front_next before o q p f s.0 s.1) t (call_false h b e) front c after (ap others_in i) a))

  -- ---- the whole

  part_of : {ps : List Post} {n : Node} (w : Expr) → out-Expr w ≡ Expr-F.Primary x ps → In (parts (expression w)) n → (expression x ≡ n) ⊎ In (map post ps) n
  part_of {n = n} w i j = subst (λ (l : ExprLayer). In (expression_parts l) n) i j

  no_receive : {ps : List Post} (w : Expr) → out-Expr w ≡ Expr-F.Primary x ps → is_receive (out-Expr w) ≡ false
  no_receive w i = ap is_receive i

  one_operand : {ps qs : List Post} {y : Expr} (w : Expr) → out-Expr w ≡ Expr-F.Primary x ps → out-Expr w ≡ Expr-F.Primary y qs → x ≡ y
  one_operand w i j = ap (λ l. operand_in l x) (sym i ∙ j)

  one_posts : {ps qs : List Post} {y : Expr} (w : Expr) → out-Expr w ≡ Expr-F.Primary x ps → out-Expr w ≡ Expr-F.Primary y qs → ps ≡ qs
  one_posts w i j = ap posts_in (sym i ∙ j)

  whole_quiet : (w : Expr) (before ps : List Post) (o r : Operand) (b : Bool) → out-Expr w ≡ Expr-F.Primary x (before ++ ps) → Fronts before o → Ran E o ps r b → b ≡ false
      → Quiet E (expression x) → ((n : Node) → In (map post before) n → Quiet E n)
      → ((front : List Post) (c : Post) (after : List Post) (es : List Expr) (dots : Bool) → before ++ ps ≡ front ++ c ∷ after → IsCall (out-Post c) es dots → IsQuietCall E x front c)
      → ((n : Node) → In (map post (before ++ ps)) n → In (map post before) n ⊎ In (map post ps) n)
      → Quiet E (expression w)
  whole_quiet w before ps o r b i f t e quiet fronts calls parted =
      quiet_by_parts E w (no_receive w i)
      (λ y front c at. own y front c at)
      (λ n j. elim (part_of w i j) [ inl s ↦ subst (Quiet E) s quiet | inr k ↦ elim (parted n k) [ inl m ↦ fronts n m | inr m ↦ parts_quiet t e n m ] ])
    where
      own : (y : Expr) (front : List Post) (c : Post) → CallsAt w y front c → IsQuietCall E y front c
      own y front c (calls_at after {es = es} {dots = dots} j a) = subst (λ (z : Expr). IsQuietCall E z front c) (one_operand w i j) (calls front c after es dots (one_posts w i j) a)

  -- ---- an operand that is no name of an imported package

  one_none : {o r : Operand} → HasPosts E o [] r → o ≡ r
  one_none posts_none = refl

  form_in : {o : Operand} → Has E x o → HasForm E (out-Expr x) o
  form_in (has_operand h w) = h

  pub operand_fronts : (o : Operand) → Has E x o → Fronts [] o
  operand_fronts o h [] r t = subst (HasForm E (out-Expr x)) (one_none t) (form_in h)
  operand_fronts o h (p ∷ ps) r t = has_primary h t

  pub primary_loud : (w : Expr) (ps : List Post) (o r : Operand) (b c : Bool) → out-Expr w ≡ Expr-F.Primary x ps → Has E x o → AreLoud E (expression x ∷ []) b → Ran E o ps r c → AreLoud E (expression w ∷ []) (b || c)
  primary_loud w ps o r true c i h l t = alone_loud E (expression w) (raised E (expression w) (expression x) (subst (λ (y : ExprLayer). In (expression_parts y) (expression x)) (sym i) (inl refl)) (first_loud l))
    where
      first_loud : AreLoud E (expression x ∷ []) true → Loud E (expression x)
      first_loud (n, inl s, t) = subst (Loud E) (sym s) t
      first_loud (n, inr s, t) = absurd s
  primary_loud w ps o r false true i h l t = alone_loud E (expression w) (ran_loud w [] i (operand_fronts o h) t refl)
  primary_loud w ps o r false false i h l t =
      alone_quiet E (expression w) (whole_quiet w [] ps o r false i (operand_fronts o h) t refl (l (expression x) (inl refl)) (λ n j. absurd j)
      (λ front c after es dots j a. calls_quiet [] (operand_fronts o h) t refl front c after j a) (λ n j. inr j))

  -- ---- a name of an imported package

  pub imported_fronts : (q n : Name) (s : Post) (o : Operand) → out-Expr x ≡ Expr-F.Name q → out-Post s ≡ Post-F.Selector n → ImportedWithin E q n o → Fronts (s ∷ []) o
  imported_fronts q n s o i j d ps r t = has_imported i j d.0 d.1 t

  no_selector_call : (s : Post) (n : Name) {es : List Expr} {dots : Bool} → out-Post s ≡ Post-F.Selector n → IsCall (out-Post s) es dots → ⊥
  no_selector_call s n {es = es} {dots = dots} j a = none (subst (λ (l : PostLayer). IsCall l es dots) j a)
    where
      none : IsCall (Post-F.Selector n) es dots → ⊥
      none k = elim k [ ]

  selector_calls : (q n : Name) (s : Post) (o r : Operand) (ps : List Post) → out-Expr x ≡ Expr-F.Name q → out-Post s ≡ Post-F.Selector n → ImportedWithin E q n o → Ran E o ps r false
      → (front : List Post) (c : Post) (after : List Post) {es : List Expr} {dots : Bool} → s ∷ ps ≡ front ++ c ∷ after → IsCall (out-Post c) es dots → IsQuietCall E x front c
  selector_calls q n s o r ps i j d t [] c after {es = es} {dots = dots} e a = absurd (no_selector_call s n j (subst (λ (z : Post). IsCall (out-Post z) es dots) (sym (ap (λ ys. first_in ys s) e)) a))
  selector_calls q n s o r ps i j d t (y ∷ front) c after e a =
      subst (λ (z : Post). IsQuietCall E x (z ∷ front) c) (ap (λ ys. first_in ys s) e)
      (calls_quiet (s ∷ []) (imported_fronts q n s o i j d) t refl front c after (ap others_in e) a)

  pub imported_loud : (w : Expr) (q n : Name) (s : Post) (o r : Operand) (ps : List Post) (c : Bool) → out-Expr w ≡ Expr-F.Primary x (s ∷ ps) → out-Expr x ≡ Expr-F.Name q → out-Post s ≡ Post-F.Selector n → ImportedWithin E q n o → Quiet E (post s) → Ran E o ps r c → AreLoud E (expression w ∷ []) c
  imported_loud w q n s o r ps true k i j d quiet t = alone_loud E (expression w) (ran_loud w (s ∷ []) k (imported_fronts q n s o i j d) t refl)
  imported_loud w q n s o r ps false k i j d quiet t =
      alone_quiet E (expression w) (whole_quiet w (s ∷ []) ps o r false k (imported_fronts q n s o i j d) t refl
      (form_loud E x (Expr-F.Name q) i tt false (none_loud E) (expression x) (inl refl))
      (λ m h. elim h [ inl e ↦ subst (Quiet E) e quiet | inr z ↦ absurd z ])
      (λ front b after es dots e a. selector_calls q n s o r ps i j d t front b after e a)
      (λ m h. elim h [ inl e ↦ inl (inl e) | inr z ↦ inr z ]))
