-- The look-ahead past a type ends where the type does.
use Rattle.std.specs.Prelude.{◌≡◌, ℕ, zero, suc, ◌≤◌, ◌<◌, Bool, true, false, not, if◌then◌else◌, List, ◌∷◌, length, drop, Some}
use Rattle.std.proofs.Common.{refl, ap, ◌∙◌, arith}
use Rattle.go_syntax.specs.declared.body.BodyRange.{BodyRange}
use Rattle.go_syntax.specs.declared.types.ParameterDecl.{ParameterDecl}
use Rattle.go_syntax.specs.declared.types.Signature.{Signature}
use Rattle.go_syntax.specs.declared.types.«Type».{«Type» as Typ}
use Rattle.go_syntax.specs.declared.token.TokenKind.{TokenKind}
use Rattle.go_syntax.specs.declared.token.TokenKind.TheVariants as kind
use Rattle.go_syntax.specs.grammar.Brackets.{IsRun, run_none, closer}
use Rattle.go_syntax.specs.grammar.Grammar.{type_name_alone, type_name_qualified, IsType, type_name, type_paren, type_pointer, type_receive, type_func, type_composite, type_other, IsCompositeType, type_slice, type_array, type_map, type_struct_empty, type_struct, IsOtherType, type_chan, type_send, type_interface_empty, type_interface, IsSignature, signature_alone, signature_parameters, signature_type, IsParameters, parameters_none, parameters_unnamed, parameters_named}
use Rattle.go_syntax.specs.grammar.Symbols.{Rule, Takes, takes, takes_name, begins, begins_type}
use Rattle.go_syntax.specs.grammar.Terminals.{Terminal, Sign, Identifier, Extent}
use Rattle.go_cursor.specs.Reading.{Found, More, turn, loop, run}
use Rattle.go_cursor.specs.Skipping.{bracketed, past_brackets, past_result, past_front, past_step, brace_after, is_composite}
use Rattle.go_descent.proofs.Balanced.{Balances, may_run, type_run, expr_run, unnamed_run, named_run, fields_run, interface_elems_run}
use Rattle.go_descent.proofs.Begins.{type_begins, parameters_begin, no_type_no_paren}
use Rattle.go_cursor.proofs.Runs.{run_and, run_shorter, past_bracketed}

-- from here on the loop gives this
abbrev Gives : Bool → List Terminal → Found Bool → Type 0
Gives last ts found = (n : ℕ) → length ts ≤ n → loop past_step n last ts ≡ found

past_end : (ts : List Terminal) → Gives true ts (Some (true, ts))
unfolding loop
past_end ts zero h = refl
past_end ts (suc n) h = refl

past_on : (last : Bool) (ts rest : List Terminal) (found : Found Bool) → past_front ts ≡ More last rest → length rest < length ts → Gives last rest found → Gives false ts found
unfolding loop
past_on last ts rest found e shorter go zero h = absurd (omega arith)
past_on last ts rest found e shorter go (suc n) h = ap (turn (loop past_step n) false ts) e ∙ go n (omega arith)

-- brackets that are skipped
abbrev Skips : List Terminal → List Terminal → Type 0
Skips ts rest = (e : ℕ) × (bracketed ts ≡ Some (e, rest)) × (length rest < length ts)

in_brackets : {j k : TokenKind} {ts u v rest : List Terminal} → closer j ≡ Some k → Takes j ts u → IsRun u v → Takes k v rest → Skips ts rest
in_brackets {j} {k} o (takes at) r (takes end) = (end.1, past_bracketed j k at end o r, omega (arith, run_shorter r))

module _ {Body : ℕ → Rule BodyRange} (balanced : Balances Body) where
  parameters_skip : {h : ℕ} {ts rest : List Terminal} {ds : List ParameterDecl} → IsParameters Body h ts ds rest → Skips ts rest
  parameters_skip (parameters_none o c) = in_brackets refl o run_none c
  parameters_skip (parameters_unnamed o d m c) = in_brackets refl o (run_and (unnamed_run balanced d) (may_run refl m)) c
  parameters_skip (parameters_named o d m c) = in_brackets refl o (run_and (named_run balanced d) (may_run refl m)) c

  mutual
    unfolding past_front

    pub type_past : {h : ℕ} {ts rest : List Terminal} {t : Typ} → IsType Body h ts t rest → (found : Found Bool) → Gives true rest found → Gives false ts found
    type_past (type_name (type_name_alone {rest = rest} {n = n} takes_name p)) found go =
        past_on true (Identifier n ∷ rest) rest found (ap (λ (b : Bool). More true (if b then drop 2 rest else rest)) p) (omega arith) go
    type_past (type_name (type_name_qualified {rest = rest} {p = p} {n = n} takes_name (takes at) takes_name)) found go =
        past_on true (Identifier p ∷ (Sign kind.Period at ∷ (Identifier n ∷ rest))) rest found refl (omega arith) go
    type_past {ts = ts} {rest = rest} (type_paren (takes at) d c) found go =
        let s = in_brackets {j = kind.LeftParen} refl (takes at) (type_run balanced d) c in past_on true ts rest found (ap (past_brackets true) s.1) s.2 go
    type_past {ts = ts} (type_pointer {u = u} (takes at) d) found go = past_on false ts u found refl (omega arith) (type_past d found go)
    type_past {ts = ts} (type_receive {v = v} (takes at) (takes chan) d) found go = past_on false ts v found refl (omega arith) (type_past d found go)
    type_past (type_func (takes at) s) found go = signature_past s at found go
    type_past (type_composite d) found go = composite_past d found go
    type_past (type_other d) found go = other_past d found go

    pub composite_past : {h : ℕ} {ts rest : List Terminal} {t : Typ} → IsCompositeType Body h ts t rest → (found : Found Bool) → Gives true rest found → Gives false ts found
    composite_past {ts = ts} (type_slice {v = v} (takes at) c d) found go =
        let s = in_brackets {j = kind.LeftBracket} refl (takes at) run_none c in past_on false ts v found (ap (past_brackets false) s.1) s.2 (type_past d found go)
    composite_past {ts = ts} (type_array {w = w} (takes at) x c d) found go =
        let s = in_brackets {j = kind.LeftBracket} refl (takes at) (expr_run balanced x) c in past_on false ts w found (ap (past_brackets false) s.1) s.2 (type_past d found go)
    composite_past {ts = ts} (type_map {y = y} (takes at) o key c d) found go =
        let s = in_brackets refl o (type_run balanced key) c in past_on false ts y found (ap (past_brackets false) s.1) (omega (arith, s.2)) (type_past d found go)
    composite_past {ts = ts} {rest = rest} (type_struct_empty (takes at) o c) found go =
        let s = in_brackets refl o run_none c in past_on true ts rest found (ap (past_brackets true) s.1) (omega (arith, s.2)) go
    composite_past {ts = ts} {rest = rest} (type_struct (takes at) o fs c) found go =
        let s = in_brackets refl o (fields_run balanced fs) c in past_on true ts rest found (ap (past_brackets true) s.1) (omega (arith, s.2)) go

    pub other_past : {h : ℕ} {ts rest : List Terminal} {t : Typ} → IsOtherType Body h ts t rest → (found : Found Bool) → Gives true rest found → Gives false ts found
    other_past {ts = ts} (type_chan {u = u} (takes at) p d) found go =
        past_on false ts u found (ap (λ (b : Bool). More false (if b then drop 1 u else u)) p) (omega arith) (type_past d found go)
    other_past {ts = ts} (type_send {v = v} (takes at) (takes arrow) d) found go = past_on false ts v found refl (omega arith) (type_past d found go)
    other_past {ts = ts} {rest = rest} (type_interface_empty (takes at) o c) found go =
        let s = in_brackets refl o run_none c in past_on true ts rest found (ap (past_brackets true) s.1) (omega (arith, s.2)) go
    other_past {ts = ts} {rest = rest} (type_interface (takes at) o es c) found go =
        let s = in_brackets refl o (interface_elems_run balanced es) c in past_on true ts rest found (ap (past_brackets true) s.1) (omega (arith, s.2)) go

    signature_past : {h : ℕ} {ts rest : List Terminal} {s : Signature} → IsSignature Body h ts s rest → (at : Extent) (found : Found Bool) → Gives true rest found → Gives false (Sign kind.FuncWord at ∷ ts) found
    signature_past {ts = ts} {rest = rest} (signature_alone ds last none) at found go =
        let s = parameters_skip ds in
        past_on true (Sign kind.FuncWord at ∷ ts) rest found
        (ap past_result s.1
        ∙ ap (λ (b : Bool). if b then past_brackets true (bracketed rest) else More (not (begins_type rest)) rest) (no_type_no_paren rest none)
        ∙ ap (λ b. More (not b) rest) none) (omega (arith, s.2)) go
    signature_past {ts = ts} {rest = rest} (signature_parameters {u = u} ds last rs none) at found go =
        let s = parameters_skip ds in
        let r = parameters_skip rs in
        past_on true (Sign kind.FuncWord at ∷ ts) rest found
        (ap past_result s.1
        ∙ ap (λ (b : Bool). if b then past_brackets true (bracketed u) else More (not (begins_type u)) u) (parameters_begin rs)
        ∙ ap (past_brackets true) r.1) (omega (arith, s.2, r.2)) go
    signature_past {ts = ts} {rest = rest} (signature_type {u = u} ds last other d) at found go =
        let s = parameters_skip ds in
        past_on false (Sign kind.FuncWord at ∷ ts) u found
        (ap past_result s.1
        ∙ ap (λ (b : Bool). if b then past_brackets true (bracketed u) else More (not (begins_type u)) u) other
        ∙ ap (λ b. More (not b) u) (type_begins d)) (omega (arith, s.2)) (type_past d found go)

  -- whether `{` follows a type that may stand before a composite literal's braces
  pub composite_ahead : {h : ℕ} {ts rest : List Terminal} {t : Typ} → IsCompositeType Body h ts t rest → is_composite ts ≡ begins kind.LeftBrace rest
  unfolding is_composite run
  composite_ahead {ts = ts} {rest = rest} d = ap brace_after (composite_past d (Some (true, rest)) (past_end rest) (length ts) (omega arith))
