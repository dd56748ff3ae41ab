-- Balanced runs compose, and are skipped whole; what is skipped is one.
use Rattle.std.specs.Prelude.{◌≡◌, ℕ, Bool, true, false, if◌then◌else◌, List, [], ◌∷◌, Option, Some, None}
use Rattle.std.proofs.Common.{refl, sym, ap, ◌∙◌, subst, ◌≤◌, length, arith}
use denote.Enum.Bare.{same_true, true_same}
use Rattle.go_syntax.specs.contracts.token.TokenKind.{the_type}
use Rattle.go_syntax.specs.declared.body.BodyRange.{BodyRange}
use Rattle.go_syntax.specs.declared.token.TokenKind.{TokenKind}
use Rattle.go_syntax.specs.declared.token.TokenKind.TheVariants as kind
use Rattle.go_syntax.specs.grammar.Brackets.{IsRun, run_none, run_plain, run_nest, IsSkipped, skipped, is_plain, no_bracket, closer, body_range}
use Rattle.go_syntax.specs.grammar.Symbols.{Takes, takes, same_kind, begins}
use Rattle.go_syntax.specs.grammar.Terminals.{Terminal, Sign, Identifier, Basic, Odd, Extent}
use Rattle.go_cursor.specs.Reading.{Found, bind}
use Rattle.go_cursor.specs.Skipping.{after_terminal, after_opening, after_closing, skip_on, skip, bracketed, bracketed_by, start_at, skipped_body}
use Rattle.go_cursor.proofs.Steps.{with_bind, branch, same, taken}

pub run_shorter : {ts rest : List Terminal} → IsRun ts rest → length rest ≤ length ts
run_shorter run_none = omega arith
run_shorter (run_plain p r) = omega (arith, run_shorter r)
run_shorter (run_nest at end o r s) = omega (arith, run_shorter r, run_shorter s)

-- a run, and a run after it
pub run_and : {ts u rest : List Terminal} → IsRun ts u → IsRun u rest → IsRun ts rest
run_and run_none r = r
run_and (run_plain p q) r = run_plain p (run_and q r)
run_and (run_nest at end c q s) r = run_nest at end c q (run_and s r)

pub same_itself : (k : TokenKind) → same_kind k k ≡ true
same_itself k = true_same the_type k k refl

pub kinds_same : (j k : TokenKind) → same_kind j k ≡ true → j ≡ k
kinds_same j k e = same_true the_type _ j k e

pub no_closer : (k : TokenKind) → no_bracket k ≡ true → closer k ≡ None
no_closer kind.LeftParen e = absurd (cc)
no_closer kind.LeftBracket e = absurd (cc)
no_closer kind.LeftBrace e = absurd (cc)
no_closer _ e = refl

plain_passes : (t : Terminal) → is_plain t ≡ true → (still : List TokenKind) → after_terminal t still ≡ Some still
plain_passes (Sign k at) p still = ap (λ c. after_opening k c still) (no_closer k p) ∙ ap (λ (b : Bool). if b then Some still else after_closing k still) p
plain_passes (Identifier n) p still = refl
plain_passes (Basic l place) p still = refl
plain_passes Odd p still = absurd (cc)

some_kind : (j k : TokenKind) → ◌≡◌ {A = Option TokenKind} (Some j) (Some k) → j ≡ k
some_kind j k e = cc

abbrev Closes : List TokenKind → Extent → TokenKind → Type 0
Closes still end k = after_terminal (Sign k end) (k ∷ still) ≡ Some still

-- a closing bracket closes
closes_one : (j k : TokenKind) → closer j ≡ Some k → (end : Extent) (still : List TokenKind) → after_terminal (Sign k end) (k ∷ still) ≡ Some still
closes_one kind.LeftParen k e end still = subst (Closes still end) (some_kind kind.RightParen k e) refl
closes_one kind.LeftBracket k e end still = subst (Closes still end) (some_kind kind.RightBracket k e) refl
closes_one kind.LeftBrace k e end still = subst (Closes still end) (some_kind kind.RightBrace k e) refl
closes_one _ k e end still = absurd (cc)

-- a balanced run is skipped
pub run_skips : {ts u : List Terminal} → IsRun ts u → (k : TokenKind) (still : List TokenKind) → skip ts (k ∷ still) ≡ skip u (k ∷ still)
unfolding skip
run_skips run_none k still = refl
run_skips (run_plain {t = t} {ts = ts} p r) k still = ap (skip_on t ts (skip ts)) (plain_passes t p (k ∷ still)) ∙ run_skips r k still
run_skips (run_nest {j = j} {k = c} {ts = ts} {u = u} at end e r s) k still =
    ap (λ o. skip_on (Sign j at) ts (skip ts) (after_opening j o (k ∷ still))) e
    ∙ run_skips r c (k ∷ still)
    ∙ ap (skip_on (Sign c end) u (skip u)) (closes_one j c e end (k ∷ still))
    ∙ run_skips s k still

-- past a balanced run, and the bracket that closes what stands before it
pub past_run : {ts rest : List Terminal} (j k : TokenKind) (end : Extent) → closer j ≡ Some k → IsRun ts (Sign k end ∷ rest) → skip ts (k ∷ []) ≡ Some (end.1, rest)
unfolding skip
past_run {ts} {rest} j k end e r = run_skips r k [] ∙ ap (skip_on (Sign k end) rest (skip rest)) (closes_one j k e end [])

pub past_bracketed : {ts rest : List Terminal} (j k : TokenKind) (at end : Extent) → closer j ≡ Some k → IsRun ts (Sign k end ∷ rest) → bracketed (Sign j at ∷ ts) ≡ Some (end.1, rest)
past_bracketed {ts} j k at end e r = ap (λ o. bracketed_by o ts) e ∙ past_run j k end e r

pub complete_skipped : {ts rest : List Terminal} {b : BodyRange} → IsSkipped ts b rest → skipped_body ts ≡ Some (b, rest)
unfolding skipped_body
complete_skipped (skipped start start_end end_start end r) = ap (λ f. bind f (λ end u. Some (body_range start end, u))) (past_run kind.LeftBrace kind.RightBrace (end_start, end) refl r)

-- what skipping goes past: runs, each with the bracket that closes it, and the end of the last one
pub data Closings : TokenKind → List TokenKind → List Terminal → ℕ → List Terminal → Type 0 where
  closes_last : {k : TokenKind} {ts rest : List Terminal} {e : ℕ} (end : Extent) → end.1 ≡ e → IsRun ts (Sign k end ∷ rest) → Closings k [] ts e rest
  closes_more : {k j : TokenKind} {still : List TokenKind} {ts u rest : List Terminal} {e : ℕ} (end : Extent) → IsRun ts (Sign k end ∷ u) → Closings j still u e rest → Closings k (j ∷ still) ts e rest

plain_before : {k : TokenKind} {still : List TokenKind} {ts rest : List Terminal} {e : ℕ} (t : Terminal) → is_plain t ≡ true → Closings k still ts e rest → Closings k still (t ∷ ts) e rest
plain_before t p (closes_last end is r) = closes_last end is (run_plain p r)
plain_before t p (closes_more end r c) = closes_more end (run_plain p r) c

nest_then : {j c k : TokenKind} {still : List TokenKind} {ts u rest : List Terminal} {e : ℕ} (at end : Extent) → closer j ≡ Some c → IsRun ts (Sign c end ∷ u) → Closings k still u e rest → Closings k still (Sign j at ∷ ts) e rest
nest_then at end o r (closes_last last is s) = closes_last last is (run_nest at end o r s)
nest_then at end o r (closes_more last s c) = closes_more last (run_nest at end o r s) c

nest_before : {j c k : TokenKind} {still : List TokenKind} {ts rest : List Terminal} {e : ℕ} (at : Extent) → closer j ≡ Some c → Closings c (k ∷ still) ts e rest → Closings k still (Sign j at ∷ ts) e rest
nest_before at o (closes_more end r c) = nest_then at end o r c

same_end : (p q : ℕ × List Terminal) → ◌≡◌ {A = Found ℕ} (Some p) (Some q) → p ≡ q
same_end p q e = cc

-- what skipping these terminals says
abbrev Says : List Terminal → Type 0
Says ts = (k : TokenKind) (still : List TokenKind) (e : ℕ) (rest : List Terminal) → skip ts (k ∷ still) ≡ Some (e, rest) → Closings k still ts e rest

close_says : (j : TokenKind) (at : Extent) (ts : List Terminal) → Says ts → (still : List TokenKind) (e : ℕ) (rest : List Terminal) → skip_on (Sign j at) ts (skip ts) (Some still) ≡ Some (e, rest) → Closings j still (Sign j at ∷ ts) e rest
close_says j at ts says [] e rest q = let same = same_end (at.1, ts) (e, rest) q in closes_last at (ap (λ p. p.0) same) (subst (λ (w : List Terminal). IsRun (Sign j at ∷ ts) (Sign j at ∷ w)) (ap (λ p. p.1) same) run_none)
close_says j at ts says (i ∷ still) e rest q = closes_more at run_none (says i still e rest q)

closing_says : (j k : TokenKind) (at : Extent) (ts : List Terminal) → Says ts → (still : List TokenKind) (e : ℕ) (rest : List Terminal) (b : Bool) → same_kind k j ≡ b → skip_on (Sign j at) ts (skip ts) (if b then Some still else None) ≡ Some (e, rest) → Closings k still (Sign j at ∷ ts) e rest
closing_says j k at ts says still e rest true s q = subst (λ (i : TokenKind). Closings i still (Sign j at ∷ ts) e rest) (sym (kinds_same k j s)) (close_says j at ts says still e rest q)
closing_says j k at ts says still e rest false s q = absurd (cc)

other_says : (j k : TokenKind) (at : Extent) (ts : List Terminal) → Says ts → (still : List TokenKind) (e : ℕ) (rest : List Terminal) (b : Bool) → no_bracket j ≡ b → skip_on (Sign j at) ts (skip ts) (if b then Some (k ∷ still) else after_closing j (k ∷ still)) ≡ Some (e, rest) → Closings k still (Sign j at ∷ ts) e rest
other_says j k at ts says still e rest true p q = plain_before (Sign j at) p (says k still e rest q)
other_says j k at ts says still e rest false p q = closing_says j k at ts says still e rest (same_kind k j) refl q

sign_says : (j k : TokenKind) (at : Extent) (ts : List Terminal) → Says ts → (still : List TokenKind) (e : ℕ) (rest : List Terminal) (o : Option TokenKind) → closer j ≡ o → skip_on (Sign j at) ts (skip ts) (after_opening j o (k ∷ still)) ≡ Some (e, rest) → Closings k still (Sign j at ∷ ts) e rest
sign_says j k at ts says still e rest None o q = other_says j k at ts says still e rest (no_bracket j) refl q
sign_says j k at ts says still e rest (Some c) o q = nest_before at o (says c (k ∷ still) e rest q)

terminal_says : (t : Terminal) (ts : List Terminal) → Says ts → Says (t ∷ ts)
unfolding skip
terminal_says (Sign j at) ts says k still e rest q = sign_says j k at ts says still e rest (closer j) refl q
terminal_says (Identifier n) ts says k still e rest q = plain_before (Identifier n) refl (says k still e rest q)
terminal_says (Basic l place) ts says k still e rest q = plain_before (Basic l place) refl (says k still e rest q)
terminal_says Odd ts says k still e rest q = absurd (cc)

pub skip_says : (ts : List Terminal) → Says ts
unfolding skip
skip_says [] k still e rest q = absurd (cc)
skip_says (t ∷ ts) k still e rest q = terminal_says t ts (skip_says ts) k still e rest q

last_run : {k : TokenKind} {ts rest : List Terminal} {e : ℕ} → Closings k [] ts e rest → (end : Extent) × (end.1 ≡ e) × IsRun ts (Sign k end ∷ rest)
last_run (closes_last end is r) = (end, is, r)

-- what is skipped up to a bracket is a balanced run
pub skipped_run : (ts : List Terminal) (k : TokenKind) (e : ℕ) (rest : List Terminal) → skip ts (k ∷ []) ≡ Some (e, rest) → (end : Extent) × (end.1 ≡ e) × IsRun ts (Sign k end ∷ rest)
skipped_run ts k e rest q = last_run (skip_says ts k [] e rest q)

brace_says : {ts u : List Terminal} → Takes kind.LeftBrace ts u → (b : BodyRange) (rest : List Terminal) → bind (bracketed ts) (λ end v. Some (body_range (start_at ts) end, v)) ≡ Some (b, rest) → IsSkipped ts b rest
brace_says {ts} (takes {ts = u} at) b rest e = with_bind (skip u (kind.RightBrace ∷ [])) _ e (λ end v es s.
    let r = skipped_run u kind.RightBrace end v es in
    same (λ w x y. IsSkipped w x y) ts (subst (λ (n : ℕ). IsSkipped ts (body_range at.0 n) v) r.1 (skipped at.0 at.1 r.0.0 r.0.1 r.2)) s)

pub sound_skipped : (ts : List Terminal) (b : BodyRange) (rest : List Terminal) → skipped_body ts ≡ Some (b, rest) → IsSkipped ts b rest
unfolding skipped_body
sound_skipped ts b rest e = branch (begins kind.LeftBrace ts) e (λ c eb. brace_says (taken kind.LeftBrace ts c) b rest eb) (λ c q. absurd (cc))

-- a body that is skipped is balanced
pub skipped_balances : {ts rest : List Terminal} {b : BodyRange} → IsSkipped ts b rest → IsRun ts rest
skipped_balances (skipped start start_end end_start end r) = run_nest (start, start_end) (end_start, end) refl r run_none
