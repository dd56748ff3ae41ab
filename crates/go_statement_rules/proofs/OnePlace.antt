-- Statements are typed, or have one untyped place.
use Rattle.std.proofs.Common.{inl, inr, ◌≡◌, ◌⊎◌, ◌≤◌, ◌<◌, ◌+◌, ℕ, zero, suc, List, [], ◌∷◌, ◌++◌, Some, refl, sym, ap, ◌∙◌, subst, arith}
use Rattle.std.proofs.lemmas.Bool.{cases_lt}
use Rattle.std.proofs.Math.Nat.{le_antisymm}
use Rattle.go_base.specs.Lists.{Has as In}
use Rattle.go_typings.specs.go_rules.Environments.{Env}
use Rattle.go_statement_rules.specs.Bodies.{IsTypedRun}
use Rattle.go_statement_rules.specs.Contexts.{InContext, in_context, in_context_inside, Inside, StandsAmong, stands_among}
use Rattle.go_statement_rules.specs.Contexts.{inside_block, inside_case, inside_communication, inside_else, inside_for, inside_init, inside_label, inside_literal, inside_post, inside_range, inside_range_assigned, inside_range_defined, inside_select_case, inside_then, inside_type_case, inside_while}
use Rattle.go_statement_rules.specs.Functions.{Enclosing, EntersFunction, IsBlockAt, Run, Spot, block_here, block_later, enters_function, run, spot}
use Rattle.go_statement_rules.specs.Places.{FailsItself, IsUntypedPlace}
use Rattle.go_statement_rules.specs.Scopes.{Scopes}
use Rattle.go_statement_rules.specs.Statements.{AreTyped, KindLayer, Leaves, kind_of, typed_more, typed_none}
use Rattle.go_statement_rules.proofs.InsideTyped.{context_typed, inside_typed}
use Rattle.go_statement_rules.proofs.StatementTrees.{Tree, Trees, behind_in, case_in, communication_in, else_in, for_in, grown, in_cases, in_type_cases, init_in, inner, post_in, select_body_in, then_in, tree, trees_more, trees_none, type_case_in}
use Rattle.go_syntax.specs.declared.body.BodyRange.{BodyRange}
use Rattle.go_syntax.specs.declared.statement.LiteralBlock.{LiteralBlock}
use Rattle.go_syntax.specs.declared.statement.Stmt.{Stmt, out-Stmt}
use Rattle.go_syntax.specs.declared.types.Signature.{Signature as Sig}

abbrev start_of : Spot → ℕ
start_of c = (out-Stmt c.statement).start

-- the greatest of the offsets of the blocks
abbrev above : List LiteralBlock → ℕ
above [] = 0
above (l ∷ ls) = suc l.start + above ls

block_below : {blocks : List LiteralBlock} {start : ℕ} {ss : List Stmt} → IsBlockAt blocks start ss → start < above blocks
block_below (block_here {l = l} {others = others} e) = subst (λ n. n < suc l.start + above others) e (omega arith)
block_below (block_later {l = l} {others = others} n h) = let k = block_below h in omega (arith, k)

tree_in : {xs : List Stmt} {x : Stmt} → Trees xs → In xs x → Tree x
tree_in trees_none h = absurd h
tree_in (trees_more a rest) (inl e) = subst Tree e a
tree_in (trees_more a rest) (inr h) = tree_in rest h

in_middle : (x : Stmt) {xs : List Stmt} (before after : List Stmt) → xs ≡ before ++ x ∷ after → In xs x
in_middle x before after e = subst (λ z. In z x) (sym e) (middle before)
  where
    middle : (ys : List Stmt) → In (ys ++ x ∷ after) x
    middle [] = inl refl
    middle (y ∷ ys) = inr (middle ys)

module _ (E : Env) (blocks : List LiteralBlock) where
  abbrev Untyped : Spot → Type 0
  Untyped c = (t : Scopes) → Leaves E blocks c.function c.scopes (kind_of c.statement) t → ⊥

  -- a literal's run
  record FromLiteral (r : Enclosing) (w : Run) : Type 0 where
    start : ℕ
    begins : r.first ≤ start
    there : start < above blocks
    function : w.function.first ≡ suc start

  of_literal : {r : Enclosing} {s : Scopes} {g : Sig} {b : BodyRange} {w : Run} → EntersFunction E blocks r s g b w → FromLiteral r w
  of_literal {b = b} (enters_function i a d x) = record { start = b.start; begins = i; there = block_below x; function = refl }

  -- what stands in a statement is a part of its tree in the same function, or stands in a literal
  parted : {r : Enclosing} {s : Scopes} {k : KindLayer} {w : Run} → Inside E blocks r s k w → ((r ≡ w.function) × ((x : Stmt) → In w.statements x → In (inner k) x)) ⊎ FromLiteral r w
  parted (inside_label e) = inl (refl, λ x h. subst (λ z. In (inner z) x) (sym e) h)
  parted (inside_block e) = inl (refl, λ x h. subst (λ z. In (inner z) x) (sym e) h)
  parted {k = k} (inside_init e) = inl (refl, λ x h. init_in x _ k e h)
  parted (inside_then {init = init} {other = other} {ss = ss} e g) = inl (refl, λ x h. subst (λ z. In (inner z) x) (sym e) (then_in x init other ss h))
  parted (inside_else {init = init} {x = y} {ss = ss} e g) = inl (refl, λ x h. subst (λ z. In (inner z) x) (sym e) (else_in x init (Some y) ss h))
  parted (inside_case {init = init} {cs = cs} c e g i) = inl (refl, λ x h. subst (λ z. In (inner z) x) (sym e) (behind_in x init (in_cases cs) (case_in x cs c i h)))
  parted (inside_type_case {init = init} {cs = cs} c xs e g i l m b) = inl (refl, λ x h. subst (λ z. In (inner z) x) (sym e) (behind_in x init (in_type_cases cs) (type_case_in x cs c i h)))
  parted (inside_communication {cs = cs} c {x = y} e i o) = inl (refl, λ x h. subst (λ z. In (inner z) x) (sym e) (communication_in x y cs c i o h))
  parted (inside_select_case {cs = cs} c e i g) = inl (refl, λ x h. subst (λ z. In (inner z) x) (sym e) (select_body_in x cs c i h))
  parted (inside_post {init = init} {x = y} {ss = ss} e g) = inl (refl, λ x h. subst (λ z. In (inner z) x) (sym e) (post_in x init (Some y) ss h))
  parted (inside_for {init = init} {post = post} {ss = ss} e g p m) = inl (refl, λ x h. subst (λ z. In (inner z) x) (sym e) (for_in x init post ss h))
  parted (inside_while e c) = inl (refl, λ x h. subst (λ z. In (inner z) x) (sym e) h)
  parted (inside_range e a b) = inl (refl, λ x h. subst (λ z. In (inner z) x) (sym e) h)
  parted (inside_range_assigned e a b c d m) = inl (refl, λ x h. subst (λ z. In (inner z) x) (sym e) h)
  parted (inside_range_defined e a b c i d) = inl (refl, λ x h. subst (λ z. In (inner z) x) (sym e) h)
  parted (inside_literal i k e a) = inr (of_literal a)

  -- ---- where a statement in context fails, one that stands among the statements does

  among_fails : {w : Run} {c : Spot} → InContext E blocks w c → Untyped c → (a : Spot) × StandsAmong E blocks w a × Untyped a
  among_fails (in_context {c = c} i) n = (c, i, n)
  among_fails (in_context_inside {a = a} i k h) n = (a, i, λ t x. let z = context_typed E blocks (inside_typed E blocks x k) h in n z.0 z.1)

  -- a failing statement, or one in it, that holds none that fails
  record HasInnermost (a : Spot) : Type 0 where
    spot : Spot
    reached : (w : Run) → StandsAmong E blocks w a → InContext E blocks w spot
    untyped : Untyped spot
    holds_none : (v : Run) (d : Spot) → Inside E blocks spot.function spot.scopes (kind_of spot.statement) v → InContext E blocks v d → Untyped d → ⊥

  abbrev Descends : Spot → Type 0
  Descends a = Untyped a → (HasInnermost a → ⊥) → ⊥

  -- so it is of each statement that stands in literals that begin behind
  abbrev Below : ℕ → Type 0
  Below zero = Unit {0}
  Below (suc n) = (a : Spot) → above blocks ≤ a.function.first + n → Descends a

  literal_descends : (n : ℕ) → Below n → {r : Enclosing} {w : Run} → above blocks ≤ r.first + n → FromLiteral r w → (d : Spot) → d.function ≡ w.function → Descends d
  literal_descends zero below {r = r} b l d e = absurd (let i = l.begins in let k = l.there in omega (arith, i, k, b))
  literal_descends (suc n) below {r = r} b l d e = below d (let f = ap (λ (z : Enclosing). z.first) e ∙ l.function in let i = l.begins in omega (arith, f, i, b))

  among_function : {w : Run} {a : Spot} → StandsAmong E blocks w a → (a.function ≡ w.function) × In w.statements a.statement
  among_function (stands_among before after e d) = (refl, in_middle _ before after e)

  -- the innermost of one that stands in it is its own
  from_inside : {a d : Spot} {v : Run} → Inside E blocks a.function a.scopes (kind_of a.statement) v → StandsAmong E blocks v d → HasInnermost d → HasInnermost a
  from_inside k i h = record { spot = h.spot; reached = λ w j. in_context_inside j k (h.reached _ i); untyped = h.untyped; holds_none = h.holds_none }

  innermost_of : (a : Spot) → ((v : Run) (d : Spot) → Inside E blocks a.function a.scopes (kind_of a.statement) v → StandsAmong E blocks v d → Descends d) → Descends a
  innermost_of a below n none =
      none (record { spot = a; reached = λ w j. in_context j; untyped = n; holds_none = λ v d k c u. let z = among_fails c u in below v z.0 k z.1 z.2 (λ h. none (from_inside k z.1 h)) })

  -- what stands in a part of a statement descends, where the parts of the statement do
  from_parts : (n : ℕ) → Below n → (r : Enclosing) (s : Scopes) (x : Stmt) → above blocks ≤ r.first + n → ((d : Spot) → In (inner (kind_of x)) d.statement → d.function ≡ r → Descends d) → Descends (spot r s x)
  from_parts n below r s x b parts = innermost_of (spot r s x) (λ v d k i. elim (parted k) [ inl p ↦ parts d (p.1 d.statement (among_function i).1) ((among_function i).0 ∙ sym p.0) | inr l ↦ literal_descends n below b l d (among_function i).0 ])

  mutual
    walk : (n : ℕ) → Below n → (x : Stmt) → Tree x → (r : Enclosing) (s : Scopes) → above blocks ≤ r.first + n → Descends (spot r s x)
    walk n below x (tree parts) r s b = from_parts n below r s x b (λ d h f. walk_parts n below parts d h r f b)

    walk_parts : (n : ℕ) → Below n → {xs : List Stmt} → Trees xs → (d : Spot) → In xs d.statement → (r : Enclosing) → d.function ≡ r → above blocks ≤ r.first + n → Descends d
    walk_parts n below trees_none d h r f b = absurd h
    walk_parts n below (trees_more {x = x} a rest) d (inl e) r f b =
        subst (λ z. Descends (spot d.function d.scopes z)) e (walk n below x a d.function d.scopes (subst (λ (z : Enclosing). above blocks ≤ z.first + n) (sym f) b))
    walk_parts n below (trees_more a rest) d (inr h) r f b = walk_parts n below rest d h r f b

  below_all : (n : ℕ) → Below n
  below_all zero = tt
  below_all (suc n) = λ a b. walk n (below_all n) a.statement (grown a.statement) a.function a.scopes b

  descends : (a : Spot) → Descends a
  descends a = below_all (suc (above blocks)) a (omega arith)

  -- ---- untyped statements have one that fails

  some_fails : (r : Enclosing) (s : Scopes) (xs : List Stmt) → (((t : Scopes) × AreTyped E blocks r s xs t) → ⊥) → (((a : Spot) × StandsAmong E blocks (run r s xs) a × Untyped a) → ⊥) → ⊥
  some_fails r s [] n none = n (s, typed_none)
  some_fails r s (x ∷ xs) n none =
      none (
        spot r s x,
        stands_among [] xs refl typed_none,
        λ t l.
            some_fails r t xs (λ y. n (y.0, typed_more l y.1)) (λ y. none (y.0, behind l y.1, y.2)),
      )
    where
      behind : {t : Scopes} {a : Spot} → Leaves E blocks r s (kind_of x) t → StandsAmong E blocks (run r t xs) a → StandsAmong E blocks (run r s (x ∷ xs)) a
      behind l (stands_among before after e d) = stands_among (x ∷ before) after (ap (λ z. x ∷ z) e) (typed_more l d)

  some_innermost : (w : Run) → (IsTypedRun E blocks w → ⊥) → (((c : Spot) × FailsItself E blocks w c) → ⊥) → ⊥
  some_innermost w n none =
      some_fails w.function w.scopes w.statements n (λ a. descends a.0 a.2 (λ h.
      none (h.spot, record { fails = record { stands = h.reached w a.1; untyped = h.untyped }; holds_none = λ v d k f. h.holds_none v d k f.stands f.untyped })))

  -- ---- the least

  none_below : (w : Run) → ((p : ℕ) → IsUntypedPlace E blocks w p → ⊥) → (n : ℕ) (c : Spot) → FailsItself E blocks w c → start_of c < n → ⊥
  none_below w none zero c f b = omega (arith, b)
  none_below w none (suc n) c f b = none (start_of c) (record { spot = c; fails = f; starts = refl; least = λ d g. elim (cases_lt (start_of d) (start_of c)) [ inl h ↦ absurd (none_below w none n d g (omega (arith, h, b))) | inr h ↦ h ] })

  pub typed_or_place : (w : Run) → (IsTypedRun E blocks w → ⊥) → ((p : ℕ) → IsUntypedPlace E blocks w p → ⊥) → ⊥
  typed_or_place w n none = some_innermost w n (λ c. none_below w none (suc (start_of c.0)) c.0 c.1 (omega arith))

  pub one_place : (w : Run) (p q : ℕ) → IsUntypedPlace E blocks w p → IsUntypedPlace E blocks w q → p ≡ q
  one_place w p q a b =
      let f = subst (λ z. p ≤ z) b.starts (a.least b.spot b.fails) in
      let g = subst (λ z. q ≤ z) a.starts (b.least a.spot a.fails) in
      le_antisymm f g

  pub typed_no_place : (w : Run) (p : ℕ) → IsTypedRun E blocks w → IsUntypedPlace E blocks w p → ⊥
  typed_no_place w p x a = let z = context_typed E blocks x a.fails.fails.stands in a.fails.fails.untyped z.0 z.1
