-- What is found in a function literal, from what is found in the run of its block.
use Rattle.std.proofs.Common.{◌≡◌, ◌≤◌, ◌+◌, ℕ, suc, Bool, true, false, List, ◌++◌, Option, refl, sym, ap, ◌∙◌, subst, arith}
use Rattle.go_judged.specs.Judging.{Finds, Judges, found, tested}
use Rattle.go_judged.proofs.Found.{found_typed}
use Rattle.go_judged.proofs.Joining.{judged_alone, judged_as}
use Rattle.go_judged.specs.declared.judged.Judged.{Judged}
use Rattle.go_literal_blocks.specs.declared.blocks.Blocks.{Blocks}
use Rattle.go_local_scopes.specs.States.{Reaches}
use Rattle.go_model.specs.declared.types.term.Signature.{Signature, out-Signature}
use Rattle.go_model.specs.declared.types.term.Term.{Term}
use Rattle.go_rules.specs.Environments.{Env}
use Rattle.go_rules.specs.Expressions.{OfSignature}
use Rattle.go_rules.proofs.OneOperand.{signature_once}
use Rattle.go_statement_rules.specs.Bodies.{IsTypedRun}
use Rattle.go_statement_rules.specs.Functions.{Enclosing, EntersFunction, IsBlockAt, Run, enclosing, enters_function, run}
use Rattle.go_statement_rules.specs.Scopes.{Scopes, Declares, locals, opened, parameter_slots, result_slots, within}
use Rattle.go_statement_rules.specs.Statements.{IsTypedFunction, typed_function}
use Rattle.go_statement_rules.proofs.OneRun.{block_once, literal_run}
use Rattle.go_statement_rules.proofs.OneScope.{declares_once}
use Rattle.go_syntax.specs.declared.body.BodyRange.{BodyRange}
use Rattle.go_syntax.specs.declared.statement.LiteralBlock.{LiteralBlock}
use Rattle.go_syntax.specs.declared.statement.Stmt.{Stmt}
use Rattle.go_syntax.specs.declared.types.Signature.{Signature as Sig, out-Signature as out-Sig}
use Rattle.go_walks.specs.Below.{blocks_of, enclosing_of}
use Rattle.go_walks.specs.Entering.{Enters, IsTypedIn}
use Rattle.go_walks.specs.declared.frame.Frame.{Frame}

module _ (E : Env) (blocks : List LiteralBlock) where
  -- ---- the scope of a function

  module _ (s : Scopes) (g : Sig) (h : Signature) (start : ℕ) (ss : List Stmt) where
    abbrev pub Declared : Scopes → Type 0
    Declared t = Declares s (parameter_slots (out-Sig g).parameters ++ result_slots (out-Sig g).result) (locals ((out-Signature h).params ++ (out-Signature h).results)) t

    abbrev pub inner_run : Scopes → Run
    inner_run t = run (enclosing (out-Signature h).results start) t ss

    pub none_entered : (b : Bool) → b ≡ false → (t : Scopes) → Reaches b Declared t → Judges E blocks (IsTypedIn E blocks s g h start ss) (Enters s g h start ss) (tested false)
    none_entered true e t d = absurd (cc)
    none_entered false e t d = judged_alone E blocks (IsTypedIn E blocks s g h start ss) (Enters s g h start ss) false (λ k. d k.1.0 k.1.1) (λ v k. d k.0 k.1)

    pub one_entered : (b : Bool) → b ≡ true → (t : Scopes) → Reaches b Declared t → (u : Scopes) (p : Option ℕ) → Finds E blocks (enclosing (out-Signature h).results start) t ss u p → Judges E blocks (IsTypedIn E blocks s g h start ss) (Enters s g h start ss) (found p)
    one_entered false e t d u p f = absurd (cc)
    one_entered true e t d u p f =
        let same = λ (v : Run) (k : Enters s g h start ss v). k.2 ∙ ap inner_run (declares_once k.1 d) in
        judged_as E blocks (IsTypedRun E blocks (inner_run t)) (IsTypedIn E blocks s g h start ss) (λ v. v ≡ inner_run t) (Enters s g h start ss) (found p)
        (λ y. (inner_run t, (t, d, refl), y)) (λ k. subst (IsTypedRun E blocks) (same k.0 k.1) k.2) (λ v k. (t, d, k)) same
        (found_typed E blocks (enclosing (out-Signature h).results start) t ss u p f)

  -- ---- a literal

  module _ (r : Enclosing) (s : Scopes) (g : Sig) (b : BodyRange) where
    abbrev pub Typed : Type 0
    Typed = IsTypedFunction E blocks r s g b

    abbrev pub Entered : Run → Type 0
    Entered v = EntersFunction E blocks r s g b v

    of_typed : Typed → (v : Run) × Entered v
    of_typed (typed_function {w = w} e a) = (w, e)

    nowhere : ((v : Run) → Entered v → ⊥) → Judges E blocks Typed Entered (tested false)
    nowhere none = judged_alone E blocks Typed Entered false (λ y. let e = of_typed y in none e.0 e.1) none

    starts : {v : Run} → Entered v → r.first ≤ b.start
    starts (enters_function f o d l) = f

    signs : {v : Run} → Entered v → (h : Signature) × OfSignature (within E s) (out-Sig g).parameters (out-Sig g).result h
    signs (enters_function {h = h} f o d l) = (h, o)

    lists : {v : Run} → Entered v → (ss : List Stmt) × IsBlockAt blocks b.start ss
    lists (enters_function {ss = ss} f o d l) = (ss, l)

    pub before_first : (r.first ≤ b.start → ⊥) → Judges E blocks Typed Entered (tested false)
    before_first n = nowhere (λ v e. n (starts e))

    pub no_signature : ((h : Signature) → OfSignature (within E s) (out-Sig g).parameters (out-Sig g).result h → ⊥) → Judges E blocks Typed Entered (tested false)
    no_signature n = nowhere (λ v e. let k = signs e in n k.0 k.1)

    pub no_block : ((ss : List Stmt) → IsBlockAt blocks b.start ss → ⊥) → Judges E blocks Typed Entered (tested false)
    no_block n = nowhere (λ v e. let k = lists e in n k.0 k.1)

    module _ (h : Signature) (ss : List Stmt) (f : r.first ≤ b.start) (o : OfSignature (within E s) (out-Sig g).parameters (out-Sig g).result h) (l : IsBlockAt blocks b.start ss) where
      to_enter : (v : Run) → Enters (opened s) g h b.start ss v → Entered v
      to_enter v k = subst (λ (w : Run). EntersFunction E blocks r s g b w) (sym k.2) (enters_function f o k.1 l)

      of_enter : (v : Run) → Entered v → Enters (opened s) g h b.start ss v
      of_enter v (enters_function {inner = inner} {h = k} {ss = xs} q p d m) =
          let same = signature_once (within E s) p o in
          let there = block_once m l in (
            inner,
            subst (λ (z : Signature). Declares (opened s) (parameter_slots (out-Sig g).parameters ++ result_slots (out-Sig g).result) (locals ((out-Signature z).params ++ (out-Signature z).results)) inner) same d,
            ap (λ (z : Signature). run (enclosing (out-Signature z).results b.start) inner xs) same ∙ ap (run (enclosing (out-Signature h).results b.start) inner) there,
          )

      pub literal_entered : (j : Judged) → Judges E blocks (IsTypedIn E blocks (opened s) g h b.start ss) (Enters (opened s) g h b.start ss) j → Judges E blocks Typed Entered j
      literal_entered j k =
          judged_as E blocks (IsTypedIn E blocks (opened s) g h b.start ss) Typed (Enters (opened s) g h b.start ss) Entered j
          (λ y. typed_function (to_enter y.0 y.1) y.2.1) (λ y. let e = of_typed y in (e.0, of_enter e.0 e.1, literal_run E blocks r s g b e.0 e.1 y)) to_enter of_enter k

-- ---- the function of a literal

suc_is : (n first : ℕ) → first ≡ n + 1 → first ≡ suc n
suc_is n first e = omega (arith, e)

inner_is : (f : Frame) (ts : List Term) (start : ℕ) → f.results.now ≡ ts → f.first ≡ start + 1 → enclosing_of f ≡ enclosing ts start
inner_is f ts start e h = let k = suc_is start f.first h in λ i. record { results = e i; first = k i }

pub inner_finds : (E : Env) (outer f : Frame) (ts : List Term) (start : ℕ) → f.blocks.now ≡ outer.blocks.now → f.results.now ≡ ts → f.first ≡ start + 1 → (t : Scopes) (ss : List Stmt) (u : Scopes) (p : Option ℕ)
    → Finds E (blocks_of f) (enclosing_of f) t ss u p → Finds E (blocks_of outer) (enclosing ts start) t ss u p
inner_finds E outer f ts start b e h t ss u p k =
    subst (λ (x : List LiteralBlock). Finds E x (enclosing ts start) t ss u p) (ap (λ (x : Blocks). x.list.now) b) (subst (λ (r : Enclosing). Finds E (blocks_of f) r t ss u p) (inner_is f ts start e h) k)
