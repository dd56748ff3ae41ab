-- What is found in the body of a function, from what is found in the run of its block.
use Rattle.std.proofs.Common.{◌≡◌, ℕ, Bool, true, false, List, [], Option, None, Some, refl, sym, ap, ◌∙◌, subst}
use Rattle.go_blocks.specs.Bodies.{EntersWith, IsTypedWith, names_of, variables_of}
use Rattle.go_blocks.proofs.Named.{receiver_once}
use Rattle.go_judged.specs.Judging.{Finds, Judges, found, tested}
use Rattle.go_judged.specs.declared.judged.Judged.{Judged}
use Rattle.go_judged.proofs.Found.{found_typed}
use Rattle.go_judged.proofs.Joining.{judged_alone, judged_as, judged_same}
use Rattle.go_local_scopes.specs.States.{Reaches}
use Rattle.go_model.specs.declared.types.term.Signature.{Signature, out-Signature}
use Rattle.go_model.specs.declared.types.term.Term.{Term}
use Rattle.go_rules.specs.Environments.{Env}
use Rattle.go_rules.specs.Expressions.{OfSignature}
use Rattle.go_rules.proofs.OneName.{none_some, one_some}
use Rattle.go_rules.proofs.OneOperand.{signature_once}
use Rattle.go_statement_rules.specs.Bodies.{IsTypedBody, IsTypedRun, no_body, typed_body}
use Rattle.go_statement_rules.specs.Functions.{EntersBody, IsBlockAt, OfReceiver, Run, enclosing, enters_body, run}
use Rattle.go_statement_rules.specs.Scopes.{Scopes, Declares, opened, within}
use Rattle.go_statement_rules.proofs.OneRun.{block_once, body_run}
use Rattle.go_statement_rules.proofs.OneScope.{declares_once}
use Rattle.go_syntax.specs.declared.body.BodyRange.{BodyRange}
use Rattle.go_syntax.specs.declared.declaration.Func.{Func}
use Rattle.go_syntax.specs.declared.statement.LiteralBlock.{LiteralBlock}
use Rattle.go_syntax.specs.declared.statement.Stmt.{Stmt}
use Rattle.go_syntax.specs.declared.types.Signature.{out-Signature as out-Sig}

no_truth : true ≡ false → ⊥
no_truth e = absurd (cc)

module _ (E : Env) (blocks : List LiteralBlock) (f : Func) where
  -- ---- in the scope of the function

  module _ (s : Scopes) (ts : List Term) (h : Signature) (start : ℕ) (ss : List Stmt) where
    abbrev pub Declared : Scopes → Type 0
    Declared t = Declares s (names_of f) (variables_of ts h) t

    abbrev pub inner_run : Scopes → Run
    inner_run t = run (enclosing (out-Signature h).results start) t ss

    pub none_entered : (b : Bool) → b ≡ false → (t : Scopes) → Reaches b Declared t → Judges E blocks (IsTypedWith E blocks s f ts h start ss) (EntersWith s f ts h start ss) (tested false)
    none_entered true e t d = absurd (no_truth e)
    none_entered false e t d = judged_alone E blocks (IsTypedWith E blocks s f ts h start ss) (EntersWith s f ts h start ss) false (λ k. d k.1.0 k.1.1) (λ v k. d k.0 k.1)

    pub one_entered : (b : Bool) → b ≡ true → (t : Scopes) → Reaches b Declared t → (u : Scopes) (p : Option ℕ) → Finds E blocks (enclosing (out-Signature h).results start) t ss u p → Judges E blocks (IsTypedWith E blocks s f ts h start ss) (EntersWith s f ts h start ss) (found p)
    one_entered false e t d u p y = absurd (no_truth (sym e))
    one_entered true e t d u p y =
        let same = λ (v : Run) (k : EntersWith s f ts h start ss v). k.2 ∙ ap inner_run (declares_once k.1 d) in
        judged_as E blocks (IsTypedRun E blocks (inner_run t)) (IsTypedWith E blocks s f ts h start ss) (λ v. v ≡ inner_run t) (EntersWith s f ts h start ss) (found p)
        (λ y. (inner_run t, (t, d, refl), y)) (λ k. subst (IsTypedRun E blocks) (same k.0 k.1) k.2) (λ v k. (t, d, k)) same
        (found_typed E blocks (enclosing (out-Signature h).results start) t ss u p y)

  -- ---- a body

  abbrev pub Typed : Type 0
  Typed = IsTypedBody E blocks f

  abbrev pub Entered : Run → Type 0
  Entered v = EntersBody E blocks f v

  has_body : {v : Run} → Entered v → f.body ≡ None → ⊥
  has_body (enters_body l r o d x) n = none_some (sym n ∙ l)

  pub none_judged : f.body ≡ None → (j : Judged) → j ≡ tested true → Judges E blocks Typed Entered j
  none_judged n j e = judged_same E blocks Typed Entered (tested true) j e (judged_alone E blocks Typed Entered true (no_body n) (λ v k. has_body k n))

  module _ (b : BodyRange) (has : f.body ≡ Some b) where
    of_typed : Typed → (v : Run) × Entered v
    of_typed (no_body n) = absurd (none_some (sym n ∙ has))
    of_typed (typed_body {w = w} e a) = (w, e)

    nowhere : ((v : Run) → Entered v → ⊥) → (j : Judged) → j ≡ tested false → Judges E blocks Typed Entered j
    nowhere none j e = judged_same E blocks Typed Entered (tested false) j e (judged_alone E blocks Typed Entered false (λ y. let k = of_typed y in none k.0 k.1) none)

    receives : {v : Run} → Entered v → (ts : List Term) × OfReceiver (within E []) f.receiver ts
    receives (enters_body {ts = ts} l r o d x) = (ts, r)

    signs : {v : Run} → Entered v → (h : Signature) × OfSignature (within E []) (out-Sig f.signature).parameters (out-Sig f.signature).result h
    signs (enters_body {h = h} l r o d x) = (h, o)

    lists : {v : Run} → Entered v → (ss : List Stmt) × IsBlockAt blocks b.start ss
    lists (enters_body {ss = ss} l r o d x) = (ss, subst (λ (z : BodyRange). IsBlockAt blocks z.start ss) (one_some (sym l ∙ has)) x)

    pub no_receiver_type : ((ts : List Term) → OfReceiver (within E []) f.receiver ts → ⊥) → (j : Judged) → j ≡ tested false → Judges E blocks Typed Entered j
    no_receiver_type n = nowhere (λ v e. let k = receives e in n k.0 k.1)

    pub no_signature : ((h : Signature) → OfSignature (within E []) (out-Sig f.signature).parameters (out-Sig f.signature).result h → ⊥) → (j : Judged) → j ≡ tested false → Judges E blocks Typed Entered j
    no_signature n = nowhere (λ v e. let k = signs e in n k.0 k.1)

    pub no_block : ((ss : List Stmt) → IsBlockAt blocks b.start ss → ⊥) → (j : Judged) → j ≡ tested false → Judges E blocks Typed Entered j
    no_block n = nowhere (λ v e. let k = lists e in n k.0 k.1)

    module _ (ts : List Term) (h : Signature) (ss : List Stmt) (q : OfReceiver (within E []) f.receiver ts) (o : OfSignature (within E []) (out-Sig f.signature).parameters (out-Sig f.signature).result h) (l : IsBlockAt blocks b.start ss) where
      to_enter : (v : Run) → EntersWith (opened []) f ts h b.start ss v → Entered v
      to_enter v k = subst (λ (w : Run). EntersBody E blocks f w) (sym k.2) (enters_body has q o k.1 l)

      of_enter : (v : Run) → Entered v → EntersWith (opened []) f ts h b.start ss v
      of_enter v (enters_body {b = c} {h = k} {ts = us} {inner = inner} {ss = xs} m r p d x) =
          let body = one_some (sym m ∙ has) in
          let terms = receiver_once (within E []) r q in
          let sign = signature_once (within E []) p o in
          let there = block_once (subst (λ (z : BodyRange). IsBlockAt blocks z.start xs) body x) l in (
            inner,
            subst (λ (z : List Term). Declares (opened []) (names_of f) (variables_of z h) inner) terms (subst (λ (z : Signature). Declares (opened []) (names_of f) (variables_of us z) inner) sign d),
            (λ i. run (enclosing (out-Signature (sign i)).results ((body i).start)) inner (there i)),
          )

      pub body_entered : (j : Judged) → Judges E blocks (IsTypedWith E blocks (opened []) f ts h b.start ss) (EntersWith (opened []) f ts h b.start ss) j → Judges E blocks Typed Entered j
      body_entered j k =
          judged_as E blocks (IsTypedWith E blocks (opened []) f ts h b.start ss) Typed (EntersWith (opened []) f ts h b.start ss) Entered j
          (λ y. typed_body (to_enter y.0 y.1) y.2) (λ y. let e = of_typed y in (e.0, of_enter e.0 e.1, body_run E blocks f e.0 e.1 y)) to_enter of_enter k
