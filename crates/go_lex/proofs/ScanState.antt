-- What the pass over the bytes keeps.
use Rattle.std.proofs.Common.{◌≡◌, ℕ, ◌+◌, ◌-◌, ◌<◌, ◌≤◌, List, [], ◌∷◌, ◌++◌, length, take, drop, Option, None, refl, sym, ap, ◌∙◌, subst, append_assoc, arith, length-drop, drop-drop}
use Rattle.go_syntax.specs.declared.token.Token.{Token}
use Rattle.go_syntax.specs.declared.token.TokenValue.{TokenValue}
use Rattle.go_syntax.specs.declared.token.LexemeKind.{LexemeKind}
use Rattle.go_base.specs.Comments.{without_mark}
use Rattle.go_syntax.specs.lexical.Lexemes.{BeginsNone, Lexeme, CutTo, here, next, IsBadOffset}
use Rattle.go_syntax.specs.lexical.Tokens.{inserted, lexeme_tokens, pending_after, tokens_of, IsTokens}
use Rattle.go_base.proofs.Lists.{length_take, drop_past}
use Rattle.go_lex.specs.inner.LongestLexemes.{Says, lexeme_of, IsLongestAt}

-- however the rest is cut, the tokens so far come before those of the rest; the cut begins at `from`
pub record IsScanned (bytes : List ℕ) (from : ℕ) (out : List Token) (at : ℕ) (pending : Option ℕ) : Type 0 where
  pub within : at ≤ length bytes
  pub cut : (lexemes : List Lexeme) (rest : List ℕ) → CutTo (drop at bytes) lexemes rest →
      (all : List Lexeme) × CutTo (drop from bytes) all rest × (tokens_of from None all ≡ out ++ tokens_of at pending lexemes)

pub scanned_none : (bytes : List ℕ) (from : ℕ) → from ≤ length bytes → IsScanned bytes from [] from None
scanned_none bytes from h = record { within = h; cut = λ lexemes rest c. (lexemes, c, refl) }

-- one more lexeme
pub scanned_more : (bytes : List ℕ) (from : ℕ) (out : List Token) (at : ℕ) (pending : Option ℕ) (kind : LexemeKind) (said : TokenValue) (n : ℕ) (text : List ℕ) (longer : List Token) (after : Option ℕ) →
    IsScanned bytes from out at pending → IsLongestAt (drop at bytes) kind n → text ≡ take n (drop at bytes) → Says kind text said
    → longer ≡ out ++ lexeme_tokens kind said (length text) at pending → after ≡ pending_after kind (at + length text) pending → IsScanned bytes from longer (at + n) after
scanned_more bytes from out at pending kind said n text longer after s prefix is says l a =
    let size : length text ≡ n = ap length is ∙ length_take n (drop at bytes) prefix.within in
    let longest = subst (λ (xs : List ℕ). Says kind xs said) is says in
    let x = lexeme_of kind said (take n (drop at bytes)) in
    let tokens = lexeme_tokens kind said (length text) at pending in
    record {
      within = omega (arith, length-drop at bytes, s.within, prefix.within);
      cut = λ lexemes rest c.
          let later : CutTo (drop n (drop at bytes)) lexemes rest = subst (λ (ys : List ℕ). CutTo ys lexemes rest) (sym (drop-drop n at bytes)) c in
          let whole = s.cut (x ∷ lexemes) rest (next (prefix.longest said longest) later) in (
            whole.0,
            whole.1,
            whole.2
                ∙ ap (λ (m : ℕ). out ++ (lexeme_tokens kind said m at pending ++ tokens_of (at + m) (pending_after kind (at + m) pending) lexemes)) (ap length (sym is))
                ∙ ap (λ (m : ℕ). out ++ (tokens ++ tokens_of (at + m) (pending_after kind (at + length text) pending) lexemes)) size
                ∙ sym (append_assoc out tokens (tokens_of (at + n) (pending_after kind (at + length text) pending) lexemes))
                ∙ (λ i. sym l i ++ tokens_of (at + n) (sym a i) lexemes),
          );
    }

pub scanned_all : (bytes : List ℕ) (from : ℕ) (out tokens : List Token) (at : ℕ) (pending : Option ℕ) → from ≤ length bytes → without_mark bytes ≡ drop from bytes → IsScanned bytes from out at pending → length bytes ≤ at
    → tokens ≡ out ++ inserted pending → IsTokens bytes tokens
scanned_all bytes from out tokens at pending h mark s done is =
    let whole = s.cut [] [] (subst (λ (ys : List ℕ). CutTo ys [] []) (sym (drop_past at bytes done)) here) in
    let offset : length bytes - length (without_mark bytes) ≡ from = omega (arith, ap length mark, length-drop from bytes) in
    record {
      lexemes = whole.0;
      cut = subst (λ (ys : List ℕ). CutTo ys whole.0 []) (sym mark) whole.1;
      tokens_are = is ∙ sym whole.2 ∙ ap (λ (n : ℕ). tokens_of n None whole.0) (sym offset);
    }

pub scanned_bad : (bytes : List ℕ) (from : ℕ) (out : List Token) (at : ℕ) (pending : Option ℕ) → without_mark bytes ≡ drop from bytes → IsScanned bytes from out at pending → at < length bytes → BeginsNone (drop at bytes) → IsBadOffset bytes at
scanned_bad bytes from out at pending mark s more none =
    let whole = s.cut [] (drop at bytes) here in
    record {
      lexemes = whole.0;
      rest = drop at bytes;
      cut = subst (λ (ys : List ℕ). CutTo ys whole.0 (drop at bytes)) (sym mark) whole.1;
      more = λ e. omega (arith, ap length e, length-drop at bytes);
      none = none;
      offset = omega (arith, length-drop at bytes, s.within);
    }
