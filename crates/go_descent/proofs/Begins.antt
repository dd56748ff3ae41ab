-- What a reading finds step by step, and with what terminals a tree begins.
use Rattle.std.proofs.Common.{◌≡◌, ℕ, zero, suc, ◌≤◌, ◌<◌, List, [], ◌∷◌, ◌++◌, length, Bool, true, false, if◌then◌else◌, Some, None, refl, sym, ap, ◌∙◌, append_assoc, append-nil, arith}
use Rattle.go_syntax.specs.declared.body.BodyRange.{BodyRange}
use Rattle.go_syntax.specs.declared.types.ParameterDecl.{ParameterDecl}
use Rattle.go_syntax.specs.declared.types.Signature.{Signature}
use Rattle.go_syntax.specs.declared.types.«Type».{«Type» as Typ}
use Rattle.go_syntax.specs.declared.token.TokenKind.TheVariants as kind
use Rattle.go_syntax.specs.grammar.Grammar as grammar
use Rattle.go_syntax.specs.grammar.Grammar.{prefix_operator, is_receive_type}
use Rattle.go_syntax.specs.grammar.Symbols.{Rule, Takes, takes, MayTake, takes_none, takes_one, takes_name, Ends, ends_semicolon, ends_closing, begins, begins_type, closes}
use Rattle.go_syntax.specs.grammar.Terminals.{Terminal, Sign}
use Rattle.go_cursor.specs.Reading.{Found, Reader, Next, Stop, More, bind, turn, loop, run, put, step_of, close, past, goes_on, ended, string_at}

-- Steps of a reading

pub read : {A B : Type 0} (r : Found A) (f : A → Reader B) {a : A} {u : List Terminal} {found : Found B} → r ≡ Some (a, u) → f a u ≡ found → bind r f ≡ found
read r f e more = ap (λ r. bind r f) e ∙ more

pub if_so : {A : Type 0} (c : Bool) (a b : A) {found : A} → c ≡ true → a ≡ found → if◌then◌else◌ {A = A} c a b ≡ found
if_so {A} c a b e more = ap (λ c. if◌then◌else◌ {A = A} c a b) e ∙ more

pub if_not : {A : Type 0} (c : Bool) (a b : A) {found : A} → c ≡ false → b ≡ found → if◌then◌else◌ {A = A} c a b ≡ found
if_not {A} c a b e more = ap (λ c. if◌then◌else◌ {A = A} c a b) e ∙ more

-- Loops: from here on the loop gives this

abbrev pub Gives : {A : Type 0} → (A → List Terminal → Next A) → A → List Terminal → Found A → Type 0
Gives step a ts found = (n : ℕ) → length ts ≤ n → loop step n a ts ≡ found

pub gives_stop : {A : Type 0} (item : List Terminal → Next A) (a : List A) (ts : List Terminal) → item ts ≡ Stop → Gives (step_of item) a ts (Some (a ++ [], ts))
unfolding loop
gives_stop {A} item a ts e zero h = ap (λ b. Some (b, ts)) (sym (append-nil a))
gives_stop {A} item a ts e (suc n) h = ap (λ (w : Next A). turn (loop (step_of item) n) a ts (put a w)) e ∙ ap (λ b. Some (b, ts)) (sym (append-nil a))

pub gives_more : {A : Type 0} (item : List Terminal → Next A) (a : List A) (b : A) (bs : List A) (ts u rest : List Terminal) → item ts ≡ More b u → length u < length ts
    → Gives (step_of item) (a ++ b ∷ []) u (Some ((a ++ b ∷ []) ++ bs, rest)) → Gives (step_of item) a ts (Some (a ++ b ∷ bs, rest))
unfolding loop
gives_more {A} item a b bs ts u rest e shorter go zero h = absurd (omega arith)
gives_more {A} item a b bs ts u rest e shorter go (suc n) h = ap (λ (w : Next A). turn (loop (step_of item) n) a ts (put a w)) e ∙ go n (omega arith) ∙ ap (λ c. Some (c, rest)) (append_assoc a (b ∷ []) bs)

pub runs : {A : Type 0} (step : A → List Terminal → Next A) (a : A) (ts : List Terminal) (found : Found A) → Gives step a ts found → run step a ts ≡ found
unfolding run
runs step a ts found go = go (length ts) (omega arith)

-- Ends of lists and of items

pub comma_stops : {u v w : List Terminal} → MayTake kind.Comma u v → Takes kind.RightParen v w → goes_on u ≡ false
comma_stops takes_none (takes at) = refl
comma_stops (takes_one (takes a)) (takes at) = refl

pub comma_stops_brace : {u v w : List Terminal} → MayTake kind.Comma u v → Takes kind.RightBrace v w → goes_on u ≡ false
comma_stops_brace takes_none (takes at) = refl
comma_stops_brace (takes_one (takes a)) (takes at) = refl

pub closes_semicolon : (ts : List Terminal) → closes ts ≡ true → begins kind.Semicolon ts ≡ false
closes_semicolon [] e = refl
closes_semicolon (Sign kind.RightParen at ∷ ts) e = refl
closes_semicolon (Sign kind.RightBrace at ∷ ts) e = refl
closes_semicolon (_ ∷ ts) e = absurd (cc)

pub closes_paren : (ts : List Terminal) → closes ts ≡ true → begins kind.LeftParen ts ≡ false
closes_paren [] e = refl
closes_paren (Sign kind.RightParen at ∷ ts) e = refl
closes_paren (Sign kind.RightBrace at ∷ ts) e = refl
closes_paren (_ ∷ ts) e = absurd (cc)

pub closes_comma : (ts : List Terminal) → closes ts ≡ true → begins kind.Comma ts ≡ false
closes_comma [] e = refl
closes_comma (Sign kind.RightParen at ∷ ts) e = refl
closes_comma (Sign kind.RightBrace at ∷ ts) e = refl
closes_comma (_ ∷ ts) e = absurd (cc)

pub closes_type : (ts : List Terminal) → closes ts ≡ true → begins_type ts ≡ false
closes_type [] e = refl
closes_type (Sign kind.RightParen at ∷ ts) e = refl
closes_type (Sign kind.RightBrace at ∷ ts) e = refl
closes_type (_ ∷ ts) e = absurd (cc)

pub closes_string : (ts : List Terminal) → closes ts ≡ true → string_at ts ≡ None
closes_string [] e = refl
closes_string (Sign kind.RightParen at ∷ ts) e = refl
closes_string (Sign kind.RightBrace at ∷ ts) e = refl
closes_string (_ ∷ ts) e = absurd (cc)

pub ends_paren : {ts rest : List Terminal} → Ends ts rest → begins kind.LeftParen ts ≡ false
ends_paren (ends_semicolon (takes at)) = refl
ends_paren {ts} (ends_closing e) = closes_paren ts e

pub ends_comma : {ts rest : List Terminal} → Ends ts rest → begins kind.Comma ts ≡ false
ends_comma (ends_semicolon (takes at)) = refl
ends_comma {ts} (ends_closing e) = closes_comma ts e

pub ends_type : {ts rest : List Terminal} → Ends ts rest → begins_type ts ≡ false
ends_type (ends_semicolon (takes at)) = refl
ends_type {ts} (ends_closing e) = closes_type ts e

pub ends_string : {ts rest : List Terminal} → Ends ts rest → string_at ts ≡ None
ends_string (ends_semicolon (takes at)) = refl
ends_string {ts} (ends_closing e) = closes_string ts e

pub ends_stops : {ts rest : List Terminal} → Ends ts rest → goes_on ts ≡ false
ends_stops e = if_not _ _ _ (ends_comma e) refl

pub ends_here : {A : Type 0} (a : A) {ts rest : List Terminal} → Ends ts rest → ended a ts ≡ Some (a, rest)
unfolding ended
ends_here a (ends_semicolon (takes at)) = refl
ends_here a {ts} (ends_closing e) = if_not _ _ _ (closes_semicolon ts e) (if_so _ _ _ e refl)

-- Types

module _ {Body : ℕ → Rule BodyRange} where
  pub composite_begins : {h : ℕ} {ts rest : List Terminal} {t : Typ} → grammar.IsCompositeType Body h ts t rest → begins_type ts ≡ true
  composite_begins (grammar.type_slice (takes at) b d) = refl
  composite_begins (grammar.type_array (takes at) x b d) = refl
  composite_begins (grammar.type_map (takes at) b k c d) = refl
  composite_begins (grammar.type_struct_empty (takes at) b c) = refl
  composite_begins (grammar.type_struct (takes at) b d c) = refl

  pub other_begins : {h : ℕ} {ts rest : List Terminal} {t : Typ} → grammar.IsOtherType Body h ts t rest → begins_type ts ≡ true
  other_begins (grammar.type_chan (takes at) e d) = refl
  other_begins (grammar.type_send (takes at) b d) = refl
  other_begins (grammar.type_interface_empty (takes at) b c) = refl
  other_begins (grammar.type_interface (takes at) b d c) = refl

  pub type_begins : {h : ℕ} {ts rest : List Terminal} {t : Typ} → grammar.IsType Body h ts t rest → begins_type ts ≡ true
  type_begins (grammar.type_name (grammar.type_name_alone takes_name e)) = refl
  type_begins (grammar.type_name (grammar.type_name_qualified takes_name p n)) = refl
  type_begins (grammar.type_paren (takes at) d c) = refl
  type_begins (grammar.type_pointer (takes at) d) = refl
  type_begins (grammar.type_receive (takes at) (takes a) d) = refl
  type_begins (grammar.type_func (takes at) d) = refl
  type_begins (grammar.type_composite d) = composite_begins d
  type_begins (grammar.type_other d) = other_begins d

  pub parameters_begin : {h : ℕ} {ts rest : List Terminal} {ds : List ParameterDecl} → grammar.IsParameters Body h ts ds rest → begins kind.LeftParen ts ≡ true
  parameters_begin (grammar.parameters_none (takes at) c) = refl
  parameters_begin (grammar.parameters_unnamed (takes at) d m c) = refl
  parameters_begin (grammar.parameters_named (takes at) d m c) = refl

  pub signature_begins : {h : ℕ} {ts rest : List Terminal} {s : Signature} → grammar.IsSignature Body h ts s rest → begins kind.LeftParen ts ≡ true
  signature_begins (grammar.signature_alone d e f) = parameters_begin d
  signature_begins (grammar.signature_parameters d e f i) = parameters_begin d
  signature_begins (grammar.signature_type d e f i) = parameters_begin d

-- what doesn't begin a type
pub type_not_ellipsis : (ts : List Terminal) → begins_type ts ≡ true → begins kind.Ellipsis ts ≡ false
type_not_ellipsis [] e = refl
type_not_ellipsis (Sign kind.Ellipsis at ∷ ts) e = absurd (cc)
type_not_ellipsis (_ ∷ ts) e = refl

pub type_not_comma : (ts : List Terminal) → begins_type ts ≡ true → begins kind.Comma ts ≡ false
type_not_comma [] e = refl
type_not_comma (Sign kind.Comma at ∷ ts) e = absurd (cc)
type_not_comma (_ ∷ ts) e = refl

pub type_not_keyword : (ts : List Terminal) → begins_type ts ≡ true → begins kind.TypeWord ts ≡ false
type_not_keyword [] e = refl
type_not_keyword (Sign kind.TypeWord at ∷ ts) e = absurd (cc)
type_not_keyword (_ ∷ ts) e = refl

pub type_not_closing : (ts : List Terminal) → begins_type ts ≡ true → closes ts ≡ false
type_not_closing [] e = refl
type_not_closing (Sign kind.RightParen at ∷ ts) e = absurd (cc)
type_not_closing (Sign kind.RightBrace at ∷ ts) e = absurd (cc)
type_not_closing (_ ∷ ts) e = refl

pub no_type_no_paren : (ts : List Terminal) → begins_type ts ≡ false → begins kind.LeftParen ts ≡ false
no_type_no_paren [] e = refl
no_type_no_paren (Sign kind.LeftParen at ∷ ts) e = absurd (cc)
no_type_no_paren (_ ∷ ts) e = refl

pub not_closing_right_paren : (ts : List Terminal) → closes ts ≡ false → begins kind.RightParen ts ≡ false
not_closing_right_paren [] e = refl
not_closing_right_paren (Sign kind.RightParen at ∷ ts) e = absurd (cc)
not_closing_right_paren (_ ∷ ts) e = refl

pub closing_comma_paren : {A : Type 0} (a : A) {u v rest : List Terminal} → MayTake kind.Comma u v → Takes kind.RightParen v rest → close kind.RightParen a (past kind.Comma u) ≡ Some (a, rest)
unfolding close
closing_comma_paren a takes_none (takes at) = refl
closing_comma_paren a (takes_one (takes b)) (takes at) = refl

pub closing_comma_brace : {A : Type 0} (a : A) {u v rest : List Terminal} → MayTake kind.Comma u v → Takes kind.RightBrace v rest → close kind.RightBrace a (past kind.Comma u) ≡ Some (a, rest)
unfolding close
closing_comma_brace a takes_none (takes at) = refl
closing_comma_brace a (takes_one (takes b)) (takes at) = refl
