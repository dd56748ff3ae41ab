-- What is found in a flat statement, from what is asked in it and what is found in the function literals in it.
use Rattle.std.proofs.Common.{inl, inr, ◌≡◌, Bool, true, false, List, [], ◌∷◌, ◌++◌, map, Result, refl, sym, subst}
use Rattle.go_base.specs.Lists.{Each}
use Rattle.go_flat_statements.specs.Flat.{Fits, is_flat}
use Rattle.go_flat_statements.specs.Judging.{JudgesKind}
use Rattle.go_flat_statements.proofs.MetTrees.{met_own, met_parts, met_whole, own_met}
use Rattle.go_judged.specs.Judging.{Judges, with_test}
use Rattle.go_judged.specs.declared.judged.Judged.{Judged}
use Rattle.go_judged.proofs.Joining.{judged_test, reaches_by}
use Rattle.go_model.specs.declared.types.term.Term.{Term}
use Rattle.go_rules.specs.Asks.{Meets}
use Rattle.go_rules.specs.Environments.{Env}
use Rattle.go_rules.specs.Nodes.{Node, expression}
use Rattle.go_rules.proofs.LocalParts.{each_both, each_left, each_right}
use Rattle.go_selectors.specs.Answers.{Decides}
use Rattle.go_statement_rules.specs.Contexts.{own_nodes}
use Rattle.go_statement_rules.specs.Functions.{Enclosing, Run}
use Rattle.go_statement_rules.specs.Scopes.{Scopes, within}
use Rattle.go_statement_rules.specs.Statements.{AreMet, KindLayer, Leaves, LiteralsAreTyped, is_operand}
use Rattle.go_statement_rules.specs.Statements.{leaves_assignment, leaves_break, leaves_call, leaves_continue, leaves_defer, leaves_empty, leaves_fallthrough, leaves_go, leaves_goto, leaves_operation, leaves_receive_alone, leaves_return, leaves_send, leaves_step}
use Rattle.go_syntax.specs.declared.expression.Expr.{Expr}
use Rattle.go_syntax.specs.declared.statement.LiteralBlock.{LiteralBlock}
use Rattle.go_syntax.specs.declared.statement.StmtKind.{StmtKind-F}
use Rattle.go_type_terms.specs.Answers.{Tells}
use Rattle.go_type_terms.specs.declared.error.ExprError.{ExprError}
use Rattle.go_untyped_places.specs.LiteralRuns.{IsLiteralRun}
use Rattle.go_untyped_places.specs.Parts.{IsPart}
use Rattle.go_untyped_places.proofs.Surveying.{survey_as}
use Rattle.go_walks.specs.Literals.{LiteralsTyped}

-- an answer about a kind is one about an equal kind
pub fitted : (E : Env) (results : List Term) (k l : KindLayer) → k ≡ l → (r : Result (Unit {0}) ExprError) → Tells {A = Unit {0}} (λ u. Fits E results l) r → Tells {A = Unit {0}} (λ u. Fits E results k) r
fitted E results k l e r t = subst (λ (x : KindLayer). Tells {A = Unit {0}} (λ u. Fits E results x) r) (sym e) t

no_flat : false ≡ true → ⊥
no_flat e = absurd (cc)

module _ (E : Env) (blocks : List LiteralBlock) (r : Enclosing) (s : Scopes) where
  abbrev F : Env
  F = within E s

  abbrev Typed : List Node → Type 0
  Typed ns = LiteralsTyped E blocks r s ns

  first : (n : Node) (ns : List Node) → Typed (n ∷ ns) → LiteralsAreTyped E blocks r s n
  first n ns l = l n (inl refl)

  second : (n m : Node) (ns : List Node) → Typed (n ∷ m ∷ ns) → LiteralsAreTyped E blocks r s m
  second n m ns l = l m (inr (inl refl))

  one : (n : Node) → LiteralsAreTyped E blocks r s n → Typed (n ∷ [])
  one n l m (inl e) = subst (LiteralsAreTyped E blocks r s) e l
  one n l m (inr h) = absurd h

  two : (n m : Node) → LiteralsAreTyped E blocks r s n → LiteralsAreTyped E blocks r s m → Typed (n ∷ m ∷ [])
  two n m a b k (inl e) = subst (LiteralsAreTyped E blocks r s) e a
  two n m a b k (inr h) = one m b k h

  nothing : Typed []
  nothing n h = absurd h

-- what is asked of a typed one
module _ (E : Env) (blocks : List LiteralBlock) (r : Enclosing) where
  flat_asks : (s : Scopes) (k : KindLayer) (u : Scopes) → Leaves E blocks r s k u → is_flat k ≡ true → LiteralsTyped E blocks r s (own_nodes k) × Fits (within E s) r.results k
  flat_asks s k u leaves_empty e = (nothing E blocks r s, tt)
  flat_asks s k u (leaves_call (is_operand h l) c) e = (one E blocks r s _ l, (_, h, inl c))
  flat_asks s k u (leaves_receive_alone (is_operand h l) c) e = (one E blocks r s _ l, (_, h, inr c))
  flat_asks s k u (leaves_send {t = t} {u = v} {d = d} (is_operand h l) i n d2 (is_operand g m) w) e = (two E blocks r s _ _ l m, (_, _, h, g, (v, (t, d, i, n, d2), w)))
  flat_asks s k u (leaves_step {o = o} {t = t} (is_operand h l) a c w) e = (one E blocks r s _ l, (_, h, (t, o, a, c, w)))
  flat_asks s k u (leaves_assignment {es = es} {xs = xs} {os = os} i a m) e =
      let parts = met_parts E blocks r (within E s) s (map expression (es ++ xs)) m in
      let own = own_met (within E s) (es ++ xs) parts.0 in
      (parts.1, ((os, i, a), each_left (λ x. Meets (within E s) (expression x)) es xs own, each_right (λ x. Meets (within E s) (expression x)) es xs own))
  flat_asks s k u (leaves_operation {q = q} {t = t} (is_operand h l) a (is_operand g m) c w) e = (two E blocks r s _ _ l m, (_, _, h, g, (t, q, a, c, w)))
  flat_asks s k u (leaves_go (is_operand h l) c) e = (one E blocks r s _ l, (_, h, c))
  flat_asks s k u (leaves_defer (is_operand h l) c) e = (one E blocks r s _ l, (_, h, c))
  flat_asks s k u (leaves_return {es = es} i m) e = let parts = met_parts E blocks r (within E s) s (map expression es) m in (parts.1, (i, own_met (within E s) es parts.0))
  flat_asks s k u leaves_break e = (nothing E blocks r s, tt)
  flat_asks s k u leaves_continue e = (nothing E blocks r s, tt)
  flat_asks s k u leaves_goto e = (nothing E blocks r s, tt)
  flat_asks s k u leaves_fallthrough e = (nothing E blocks r s, tt)
  flat_asks s k u x e = absurd (no_flat e)

module _ (E : Env) (blocks : List LiteralBlock) (r : Enclosing) (s : Scopes) where
  -- ---- sides and values

  sides_met : (es xs : List Expr) → Each (λ e. Meets (within E s) (expression e)) es → Each (λ e. Meets (within E s) (expression e)) xs → Typed E blocks r s (map expression (es ++ xs)) → AreMet E blocks r (within E s) s (map expression (es ++ xs))
  sides_met es xs a b l = met_whole E blocks r (within E s) s (map expression (es ++ xs)) (met_own (within E s) (es ++ xs) (each_both (λ e. Meets (within E s) (expression e)) es xs a b)) l

  -- ---- what is typed

  pub flat_leaves : (k : KindLayer) → is_flat k ≡ true → Typed E blocks r s (own_nodes k) × Fits (within E s) r.results k → Leaves E blocks r s k s
  flat_leaves StmtKind-F.Empty e h = leaves_empty
  flat_leaves (StmtKind-F.Expr x) e (l, (o, h, inl c)) = leaves_call (is_operand h (first E blocks r s (expression x) [] l)) c
  flat_leaves (StmtKind-F.Expr x) e (l, (o, h, inr c)) = leaves_receive_alone (is_operand h (first E blocks r s (expression x) [] l)) c
  flat_leaves (StmtKind-F.Send x y) e (l, (c, o, h, g, (u, (t, d, i, n, d2), w))) = leaves_send (is_operand h (first E blocks r s (expression x) (expression y ∷ []) l)) i n d2 (is_operand g (second E blocks r s (expression x) (expression y) [] l)) w
  flat_leaves (StmtKind-F.Step x op) e (l, (o, h, (t, q, a, c, w))) = leaves_step (is_operand h (first E blocks r s (expression x) [] l)) a c w
  flat_leaves (StmtKind-F.Assign es xs) e (l, ((os, i, a), m, w)) = leaves_assignment i a (sides_met es xs m w l)
  flat_leaves (StmtKind-F.AssignOp x op y) e (l, (o, p, h, g, (t, q, a, c, w))) = leaves_operation (is_operand h (first E blocks r s (expression x) (expression y ∷ []) l)) a (is_operand g (second E blocks r s (expression x) (expression y) [] l)) c w
  flat_leaves (StmtKind-F.Go x) e (l, (o, h, c)) = leaves_go (is_operand h (first E blocks r s (expression x) [] l)) c
  flat_leaves (StmtKind-F.Defer x) e (l, (o, h, c)) = leaves_defer (is_operand h (first E blocks r s (expression x) [] l)) c
  flat_leaves (StmtKind-F.Return es) e (l, (i, m)) = leaves_return i (met_whole E blocks r (within E s) s (map expression es) (met_own (within E s) es m) l)
  flat_leaves (StmtKind-F.Break n) e h = leaves_break
  flat_leaves (StmtKind-F.Continue n) e h = leaves_continue
  flat_leaves (StmtKind-F.Goto n) e h = leaves_goto
  flat_leaves StmtKind-F.Fallthrough e h = leaves_fallthrough
  flat_leaves k e h = absurd (no_flat e)

  -- ---- what stands inside

  flat_in : (k : KindLayer) (v : Run) → is_flat k ≡ true → IsLiteralRun E blocks r s (own_nodes k) v → IsPart E blocks r s k v
  flat_in StmtKind-F.Empty v e l = l
  flat_in (StmtKind-F.Expr x) v e l = l
  flat_in (StmtKind-F.Send x y) v e l = l
  flat_in (StmtKind-F.Step x op) v e l = l
  flat_in (StmtKind-F.Assign es xs) v e l = l
  flat_in (StmtKind-F.AssignOp x op y) v e l = l
  flat_in (StmtKind-F.Go x) v e l = l
  flat_in (StmtKind-F.Defer x) v e l = l
  flat_in (StmtKind-F.Return es) v e l = l
  flat_in (StmtKind-F.Break n) v e l = l
  flat_in (StmtKind-F.Continue n) v e l = l
  flat_in (StmtKind-F.Goto n) v e l = l
  flat_in StmtKind-F.Fallthrough v e l = l
  flat_in k v e l = absurd (no_flat e)

  flat_by : (k : KindLayer) (v : Run) → is_flat k ≡ true → IsPart E blocks r s k v → IsLiteralRun E blocks r s (own_nodes k) v
  flat_by StmtKind-F.Empty v e l = l
  flat_by (StmtKind-F.Expr x) v e l = l
  flat_by (StmtKind-F.Send x y) v e l = l
  flat_by (StmtKind-F.Step x op) v e l = l
  flat_by (StmtKind-F.Assign es xs) v e l = l
  flat_by (StmtKind-F.AssignOp x op y) v e l = l
  flat_by (StmtKind-F.Go x) v e l = l
  flat_by (StmtKind-F.Defer x) v e l = l
  flat_by (StmtKind-F.Return es) v e l = l
  flat_by (StmtKind-F.Break n) v e l = l
  flat_by (StmtKind-F.Continue n) v e l = l
  flat_by (StmtKind-F.Goto n) v e l = l
  flat_by StmtKind-F.Fallthrough v e l = l
  flat_by k v e l = absurd (no_flat e)

  pub flat_judged : (k : KindLayer) → is_flat k ≡ true → (j : Judged) (b : Bool) → Judges E blocks (Typed E blocks r s (own_nodes k)) (IsLiteralRun E blocks r s (own_nodes k)) j → Decides b (Fits (within E s) r.results k) → JudgesKind E blocks r s k s (with_test j b)
  flat_judged k e j b h d =
      let both = judged_test E blocks (Typed E blocks r s (own_nodes k)) (Fits (within E s) r.results k) (IsLiteralRun E blocks r s (own_nodes k)) j b h d in (
        reaches_by (Typed E blocks r s (own_nodes k) × Fits (within E s) r.results k) (Leaves E blocks r s k) s (with_test j b).typed (flat_leaves k e) (λ u l. flat_asks E blocks r s k u l e) both.0,
        survey_as E blocks (IsLiteralRun E blocks r s (own_nodes k)) (IsPart E blocks r s k) j.place (λ v l. flat_in k v e l) (λ v l. flat_by k v e l) both.1,
      )

  -- the same of an equal answer
  pub kind_same : (k : KindLayer) (t : Scopes) (j l : Judged) → l ≡ j → JudgesKind E blocks r s k t j → JudgesKind E blocks r s k t l
  kind_same k t j l e h = subst (JudgesKind E blocks r s k t) (sym e) h
