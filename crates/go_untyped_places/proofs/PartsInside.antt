-- The runs inside of a statement are its parts.
use Rattle.std.proofs.Common.{◌≡◌, List, [], ◌∷◌, ◌++◌, Some, refl, sym, ap, subst, inl, inr}
use Rattle.go_rules.specs.Environments.{Env}
use Rattle.go_rules.proofs.OneName.{none_some}
use Rattle.go_statement_rules.specs.Contexts.{Inside, forms_of, header_nodes, init_of, own_nodes}
use Rattle.go_statement_rules.specs.Contexts.{inside_block, inside_case, inside_communication, inside_else, inside_for, inside_init, inside_label, inside_literal, inside_post, inside_range, inside_range_assigned, inside_range_defined, inside_select_case, inside_then, inside_type_case, inside_while}
use Rattle.go_statement_rules.specs.Contexts.{stands_in_case, stands_in_header, stands_in_spec, stands_in_type_case, stands_itself}
use Rattle.go_statement_rules.specs.Functions.{Enclosing, Run, run}
use Rattle.go_statement_rules.specs.Scopes.{Scopes, opened}
use Rattle.go_statement_rules.specs.Statements.{KindLayer}
use Rattle.go_syntax.specs.declared.statement.LiteralBlock.{LiteralBlock}
use Rattle.go_syntax.specs.declared.statement.Stmt.{Stmt}
use Rattle.go_syntax.specs.declared.statement.StmtKind.{StmtKind-F}
use Rattle.go_statement_rules.specs.go_typings.Declarations.{Form}
use Rattle.go_untyped_places.specs.LiteralRuns.{IsLiteralRun}
use Rattle.go_untyped_places.specs.Parts.{InHeader, InSpecs, IsLone, IsPart}

no_form : (f : Form) (before after : List Form) → [] ≡ before ++ f ∷ after → ⊥
no_form f [] after e = absurd (cc)
no_form f (b ∷ before) after e = absurd (cc)

module _ (E : Env) (blocks : List LiteralBlock) (r : Enclosing) (s : Scopes) where
  abbrev P : KindLayer → Run → Type 0
  P k v = IsPart E blocks r s k v

  no_literal : {v : Run} {t : Scopes} → IsLiteralRun E blocks r t [] v → ⊥
  no_literal l = l.among

  -- ---- from the runs inside to the parts

  of_init : (k : KindLayer) (x : Stmt) → init_of k ≡ Some x → P k (run r (opened s) (x ∷ []))
  of_init (StmtKind-F.If init e ss other) x i = inl (x, i, refl)
  of_init (StmtKind-F.Switch init e cs) x i = inl (x, i, refl)
  of_init (StmtKind-F.TypeSwitch init n e cs) x i = inl (x, i, refl)
  of_init (StmtKind-F.For init e post ss) x i = inl (x, i, refl)
  of_init k x i = absurd (none_some i)

  of_own : (k : KindLayer) (v : Run) → IsLiteralRun E blocks r s (own_nodes k) v → P k v
  of_own StmtKind-F.Empty v l = l
  of_own (StmtKind-F.Expr e) v l = l
  of_own (StmtKind-F.Send e x) v l = l
  of_own (StmtKind-F.Step e op) v l = l
  of_own (StmtKind-F.Assign es xs) v l = l
  of_own (StmtKind-F.AssignOp e op x) v l = l
  of_own (StmtKind-F.Define ns xs) v l = l
  of_own (StmtKind-F.Go e) v l = l
  of_own (StmtKind-F.Defer e) v l = l
  of_own (StmtKind-F.Return es) v l = l
  of_own (StmtKind-F.Break n) v l = l
  of_own (StmtKind-F.Continue n) v l = l
  of_own (StmtKind-F.Goto n) v l = l
  of_own StmtKind-F.Fallthrough v l = l
  of_own (StmtKind-F.While e ss) v l = inl l
  of_own (StmtKind-F.Range e ss) v l = inl l
  of_own (StmtKind-F.RangeAssign es e ss) v l = inl l
  of_own (StmtKind-F.RangeDefine ns e ss) v l = inl l
  of_own k v l = absurd (no_literal l)

  of_spec : (k : KindLayer) (v : Run) → InSpecs E blocks r s (forms_of k) v → P k v
  of_spec (StmtKind-F.Const specs) v i = i
  of_spec (StmtKind-F.Var specs) v i = i
  of_spec k v i = absurd (no_form i.1 i.0 i.2 i.4)

  of_header : (k : KindLayer) (v : Run) → InHeader E blocks r s (init_of k) (header_nodes k) v → P k v
  of_header (StmtKind-F.If init e ss other) v i = inr (inl i)
  of_header (StmtKind-F.Switch init e cs) v i = inr (inl i)
  of_header (StmtKind-F.TypeSwitch init n e cs) v i = inr (inl i)
  of_header (StmtKind-F.For init e post ss) v i = inr (inl i)
  of_header k v i = absurd (no_literal i.2)

  pub to_part : (k : KindLayer) {v : Run} → Inside E blocks r s k v → P k v
  to_part k {v = v} (inside_label e) = subst (λ (z : KindLayer). P z v) (sym e) refl
  to_part k {v = v} (inside_block e) = subst (λ (z : KindLayer). P z v) (sym e) refl
  to_part k (inside_init {x = x} e) = of_init k x e
  to_part k {v = v} (inside_then e d) = subst (λ (z : KindLayer). P z v) (sym e) (inr (inr (_, d, inl refl)))
  to_part k {v = v} (inside_else e d) = subst (λ (z : KindLayer). P z v) (sym e) (inr (inr (_, d, inr (_, refl, refl))))
  to_part k {v = v} (inside_case c e g i) = subst (λ (z : KindLayer). P z v) (sym e) (inr (inr (_, g, c, i, inr refl)))
  to_part k {v = v} (inside_type_case c xs e g i l m b) = subst (λ (z : KindLayer). P z v) (sym e) (inr (inr (_, _, g, c, i, inr (xs, _, l, m, b, refl))))
  to_part k {v = v} (inside_communication c e i o) = subst (λ (z : KindLayer). P z v) (sym e) (c, i, inl (_, o, refl))
  to_part k {v = v} (inside_select_case c e i g) = subst (λ (z : KindLayer). P z v) (sym e) (c, i, inr (_, g, refl))
  to_part k {v = v} (inside_post e d) = subst (λ (z : KindLayer). P z v) (sym e) (inr (inr (_, d, inl (_, refl, refl))))
  to_part k {v = v} (inside_for e d p m) = subst (λ (z : KindLayer). P z v) (sym e) (inr (inr (_, d, inr (p, m, refl))))
  to_part k {v = v} (inside_while e c) = subst (λ (z : KindLayer). P z v) (sym e) (inr (c, refl))
  to_part k {v = v} (inside_range e a b) = subst (λ (z : KindLayer). P z v) (sym e) (inr (_, _, a, b, refl))
  to_part k {v = v} (inside_range_assigned e a b c d m) = subst (λ (z : KindLayer). P z v) (sym e) (inr (_, _, a, b, c, d, m, refl))
  to_part k {v = v} (inside_range_defined e a b c i d) = subst (λ (z : KindLayer). P z v) (sym e) (inr (_, _, _, a, b, c, i, d, refl))
  to_part k {v = v} (inside_literal (stands_itself h) st i a) = of_own k v (record { at = _; among = h; literal = _; signature = _; body = _; stands = st; is = i; enters = a })
  to_part k {v = v} (inside_literal (stands_in_spec before after f e d h) st i a) =
      of_spec k v (before, f, after, _, e, d, record { at = _; among = h; literal = _; signature = _; body = _; stands = st; is = i; enters = a })
  to_part k {v = v} (inside_literal (stands_in_header g h) st i a) = of_header k v (_, g, record { at = _; among = h; literal = _; signature = _; body = _; stands = st; is = i; enters = a })
  to_part k {v = v} (inside_literal (stands_in_case c e g j w h) st i a) =
      subst (λ (z : KindLayer). P z v) (sym e) (inr (inr (_, g, c, j, inl (_, w, record { at = _; among = h; literal = _; signature = _; body = _; stands = st; is = i; enters = a }))))
  to_part k {v = v} (inside_literal (stands_in_type_case c e g j h) st i a) =
      subst (λ (z : KindLayer). P z v) (sym e) (inr (inr (_, _, g, c, j, inl (record { at = _; among = h; literal = _; signature = _; body = _; stands = st; is = i; enters = a }))))

  -- ---- from the parts to the runs inside

  abbrev I : KindLayer → Run → Type 0
  I k v = Inside E blocks r s k v

  at_run : {k : KindLayer} {v w : Run} → v ≡ w → I k w → I k v
  at_run {k = k} e i = subst (I k) (sym e) i

  own_inside : (k : KindLayer) {v : Run} → IsLiteralRun E blocks r s (own_nodes k) v → I k v
  own_inside k l = inside_literal (stands_itself l.among) l.stands l.is l.enters

  init_inside : (k : KindLayer) {v : Run} → IsLone E blocks r (opened s) (init_of k) v → I k v
  init_inside k l = at_run l.2 (inside_init l.1)

  header_inside : (k : KindLayer) {v : Run} → InHeader E blocks r s (init_of k) (header_nodes k) v → I k v
  header_inside k (t, g, l) = inside_literal (stands_in_header g l.among) l.stands l.is l.enters

  spec_inside : (k : KindLayer) {v : Run} → InSpecs E blocks r s (forms_of k) v → I k v
  spec_inside k (before, f, after, t, e, d, l) = inside_literal (stands_in_spec before after f e d l.among) l.stands l.is l.enters

  pub of_part : (k : KindLayer) {v : Run} → P k v → I k v
  of_part (StmtKind-F.Const specs) i = spec_inside (StmtKind-F.Const specs) i
  of_part (StmtKind-F.Var specs) i = spec_inside (StmtKind-F.Var specs) i
  of_part (StmtKind-F.Labeled n x) e = at_run e (inside_label refl)
  of_part (StmtKind-F.Block ss) e = at_run e (inside_block refl)
  of_part (StmtKind-F.If init e ss other) (inl l) = init_inside (StmtKind-F.If init e ss other) l
  of_part (StmtKind-F.If init e ss other) (inr (inl h)) = header_inside (StmtKind-F.If init e ss other) h
  of_part (StmtKind-F.If init e ss other) (inr (inr (t, d, inl j))) = at_run j (inside_then refl d)
  of_part (StmtKind-F.If init e ss other) (inr (inr (t, d, inr (y, i, j)))) = at_run j (inside_else (ap (λ z. StmtKind-F.If init e ss z) i) d)
  of_part (StmtKind-F.Switch init e cs) (inl l) = init_inside (StmtKind-F.Switch init e cs) l
  of_part (StmtKind-F.Switch init e cs) (inr (inl h)) = header_inside (StmtKind-F.Switch init e cs) h
  of_part (StmtKind-F.Switch init e cs) (inr (inr (t, g, c, i, inl (es, w, l)))) = inside_literal (stands_in_case c refl g i w l.among) l.stands l.is l.enters
  of_part (StmtKind-F.Switch init e cs) (inr (inr (t, g, c, i, inr j))) = at_run j (inside_case c refl g i)
  of_part (StmtKind-F.TypeSwitch init n e cs) (inl l) = init_inside (StmtKind-F.TypeSwitch init n e cs) l
  of_part (StmtKind-F.TypeSwitch init n e cs) (inr (inl h)) = header_inside (StmtKind-F.TypeSwitch init n e cs) h
  of_part (StmtKind-F.TypeSwitch init n e cs) (inr (inr (t, u, g, c, i, inl l))) = inside_literal (stands_in_type_case c refl g i l.among) l.stands l.is l.enters
  of_part (StmtKind-F.TypeSwitch init n e cs) (inr (inr (t, u, g, c, i, inr (xs, w, l, m, b, j)))) = at_run j (inside_type_case c xs refl g i l m b)
  of_part (StmtKind-F.Select cs) (c, i, inl (y, o, j)) = at_run j (inside_communication c refl i o)
  of_part (StmtKind-F.Select cs) (c, i, inr (t, g, j)) = at_run j (inside_select_case c refl i g)
  of_part (StmtKind-F.For init e post ss) (inl l) = init_inside (StmtKind-F.For init e post ss) l
  of_part (StmtKind-F.For init e post ss) (inr (inl h)) = header_inside (StmtKind-F.For init e post ss) h
  of_part (StmtKind-F.For init e post ss) (inr (inr (t, d, inl (y, i, j)))) = at_run j (inside_post (ap (λ z. StmtKind-F.For init e z ss) i) d)
  of_part (StmtKind-F.For init e post ss) (inr (inr (t, d, inr (p, m, j)))) = at_run j (inside_for refl d p m)
  of_part (StmtKind-F.While e ss) (inl l) = own_inside (StmtKind-F.While e ss) l
  of_part (StmtKind-F.While e ss) (inr (c, j)) = at_run j (inside_while refl c)
  of_part (StmtKind-F.Range e ss) (inl l) = own_inside (StmtKind-F.Range e ss) l
  of_part (StmtKind-F.Range e ss) (inr (o, ts, a, b, j)) = at_run j (inside_range refl a b)
  of_part (StmtKind-F.RangeAssign es e ss) (inl l) = own_inside (StmtKind-F.RangeAssign es e ss) l
  of_part (StmtKind-F.RangeAssign es e ss) (inr (o, ts, a, b, c, d, m, j)) = at_run j (inside_range_assigned refl a b c d m)
  of_part (StmtKind-F.RangeDefine ns e ss) (inl l) = own_inside (StmtKind-F.RangeDefine ns e ss) l
  of_part (StmtKind-F.RangeDefine ns e ss) (inr (o, ts, t, a, b, c, i, d, j)) = at_run j (inside_range_defined refl a b c i d)
  of_part StmtKind-F.Empty l = own_inside StmtKind-F.Empty l
  of_part (StmtKind-F.Expr e) l = own_inside (StmtKind-F.Expr e) l
  of_part (StmtKind-F.Send e x) l = own_inside (StmtKind-F.Send e x) l
  of_part (StmtKind-F.Step e op) l = own_inside (StmtKind-F.Step e op) l
  of_part (StmtKind-F.Assign es xs) l = own_inside (StmtKind-F.Assign es xs) l
  of_part (StmtKind-F.AssignOp e op x) l = own_inside (StmtKind-F.AssignOp e op x) l
  of_part (StmtKind-F.Define ns xs) l = own_inside (StmtKind-F.Define ns xs) l
  of_part (StmtKind-F.Go e) l = own_inside (StmtKind-F.Go e) l
  of_part (StmtKind-F.Defer e) l = own_inside (StmtKind-F.Defer e) l
  of_part (StmtKind-F.Return es) l = own_inside (StmtKind-F.Return es) l
  of_part (StmtKind-F.Break n) l = own_inside (StmtKind-F.Break n) l
  of_part (StmtKind-F.Continue n) l = own_inside (StmtKind-F.Continue n) l
  of_part (StmtKind-F.Goto n) l = own_inside (StmtKind-F.Goto n) l
  of_part StmtKind-F.Fallthrough l = own_inside StmtKind-F.Fallthrough l
