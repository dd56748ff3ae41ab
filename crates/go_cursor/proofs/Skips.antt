-- What one step of skipping goes past.
use Rattle.std.proofs.Common.{◌≡◌, ◌<◌, ◌≤◌, ◌==◌, List, [], ◌∷◌, ◌++◌, length, drop, reverse, Bool, true, false, not, if◌then◌else◌, Option, Some, None, Result, Ok, Err, refl, sym, ap, ◌∙◌, arith}
use Rattle.std.specs.Result.{IsErrAnd}
use Rattle.std.proofs.lemmas.Bool.{eqb-true}
use Rattle.std.proofs.lemmas.List.{reverse-append, length-reverse}
use Rattle.go_syntax.specs.declared.token.Token.{Token}
use Rattle.go_syntax.specs.declared.token.TokenKind.{TokenKind}
use Rattle.go_syntax.specs.declared.token.TokenKind.TheVariants as kind
use Rattle.go_syntax.specs.grammar.Brackets.{closer}
use Rattle.go_syntax.specs.grammar.Symbols.{sign_at, same_kind}
use Rattle.go_syntax.specs.grammar.Terminals.{Terminal, Sign, Identifier, Basic, Odd, Extent}
use Rattle.go_cursor.specs.declared.error.ParseError.{ParseError}
use Rattle.go_cursor.specs.declared.error.ParseError.TheVariants.{Syntax, NoMemory}
use Rattle.go_cursor.specs.Reading.{Found, Next, Fail, begins_odd}
use Rattle.go_cursor.specs.Reads.{Reads, ReadsTurn}
use Rattle.go_cursor.specs.Skipping.{after_opening, after_closing, after_next, end_of, end_at, skip_on, skip, closer_of, bracketed, bracketed_by, past_front, front_of, front_name}

same_sign : (j k : TokenKind) → ◌≡◌ {A = Option TokenKind} (Some j) (Some k) → j ≡ k
same_sign j k e = cc

-- The brackets that are wanted, of which a list holds the next one last

pub opens : (k j : TokenKind) (old new : List TokenKind) → closer k ≡ Some j → new ≡ old ++ j ∷ [] → after_opening k (closer k) (reverse old) ≡ Some (reverse new)
opens k j old new e q = ap (λ (o : Option TokenKind). after_opening k o (reverse old)) e ∙ ap (λ (still : List TokenKind). Some still) (sym (ap reverse q ∙ reverse-append old (j ∷ [])))

pub closes_none : (k : TokenKind) (old : List TokenKind) → old ≡ [] → after_closing k (reverse old) ≡ None
closes_none k old e = ap (λ (xs : List TokenKind). after_closing k (reverse xs)) e

pub closes_one : (k j : TokenKind) (old new : List TokenKind) (b : Bool) → old ≡ new ++ j ∷ [] → b ≡ same_kind j k → after_closing k (reverse old) ≡ (if b then Some (reverse new) else None)
closes_one k j old new b e q = ap (after_closing k) (ap reverse e ∙ reverse-append new (j ∷ [])) ∙ ap (λ (c : Bool). if c then Some (reverse new) else None) (sym q)

pub sign_next : (ts : List Terminal) (k : TokenKind) (still : List TokenKind) → sign_at ts ≡ Some k → after_next ts still ≡ after_opening k (closer k) still
sign_next [] k still e = absurd (cc)
sign_next (Sign j at ∷ ts) k still e = ap (λ i. after_opening i (closer i) still) (same_sign j k e)
sign_next (Identifier n ∷ ts) k still e = absurd (cc)
sign_next (Basic l place ∷ ts) k still e = absurd (cc)
sign_next (Odd ∷ ts) k still e = absurd (cc)

other_by : (ts : List Terminal) (still : List TokenKind) → sign_at ts ≡ None → after_next ts still ≡ (if not (begins_odd ts) then Some still else None)
other_by [] still e = refl
other_by (Sign j at ∷ ts) still e = absurd (cc)
other_by (Identifier n ∷ ts) still e = refl
other_by (Basic l place ∷ ts) still e = refl
other_by (Odd ∷ ts) still e = refl

pub other_next : (ts : List Terminal) (still : List TokenKind) (b : Bool) → sign_at ts ≡ None → b ≡ begins_odd ts → after_next ts still ≡ (if not b then Some still else None)
other_next ts still b e q = other_by ts still e ∙ ap (λ (c : Bool). if not c then Some still else None) (sym q)

-- A turn of skipping

pub skip_fails : (ts : List Terminal) (still : List TokenKind) → after_next ts still ≡ None → skip ts still ≡ None
unfolding skip
skip_fails [] still e = refl
skip_fails (t ∷ ts) still e = ap (skip_on t ts (skip ts)) e

pub skip_none : (ts : List Terminal) (still : List TokenKind) → length ts ≤ 0 → skip ts still ≡ None
unfolding skip
skip_none [] still e = refl
skip_none (t ∷ ts) still e = absurd (omega arith)

none_left : (ws : List TokenKind) → (length ws == 0) ≡ true → ws ≡ []
none_left [] z = refl
none_left (w ∷ ws) z = absurd (omega (arith, eqb-true (length (w ∷ ws)) 0 z))

pub skip_ends : (ts us : List Terminal) (still ws : List TokenKind) → 0 < length ts → us ≡ drop 1 ts → after_next ts still ≡ Some (reverse ws) → (length ws == 0) ≡ true → skip ts still ≡ Some (end_at ts, us)
unfolding skip
skip_ends [] us still ws l p e z = absurd (omega arith)
skip_ends (t ∷ ts) us still ws l p e z =
    ap (skip_on t ts (skip ts)) (e ∙ ap (λ (v : List TokenKind). Some (reverse v)) (none_left ws z)) ∙ ap (λ (w : List Terminal). Some (end_of t, w)) (sym p)

some_left : (ws : List TokenKind) → (length ws == 0) ≡ false → 0 < length ws
some_left [] z = absurd (cc)
some_left (w ∷ ws) z = omega arith

goes_on : (t : Terminal) (ts : List Terminal) (still : List TokenKind) → 0 < length still → skip_on t ts (skip ts) (Some still) ≡ skip ts still
goes_on t ts [] l = absurd (omega arith)
goes_on t ts (k ∷ still) l = refl

pub skip_goes_on : (ts us : List Terminal) (still ws : List TokenKind) → 0 < length ts → us ≡ drop 1 ts → after_next ts still ≡ Some (reverse ws) → (length ws == 0) ≡ false → skip ts still ≡ skip us (reverse ws)
unfolding skip
skip_goes_on [] us still ws l p e z = absurd (omega arith)
skip_goes_on (t ∷ ts) us still ws l p e z =
    ap (skip_on t ts (skip ts)) e ∙ goes_on t ts (reverse ws) (omega (arith, length-reverse ws, some_left ws z)) ∙ ap (λ (v : List Terminal). skip v (reverse ws)) (sym p)

-- A bracket and what closes it

pub bracketed_at : (ts us : List Terminal) (o : Option TokenKind) → closer_of (sign_at ts) ≡ o → us ≡ drop 1 ts → bracketed ts ≡ bracketed_by o us
bracketed_at [] us o e p = ap (λ q. bracketed_by q us) e
bracketed_at (Sign k at ∷ ts) us o e p = ap (λ q. bracketed_by q ts) e ∙ ap (bracketed_by o) (sym p)
bracketed_at (Identifier n ∷ ts) us o e p = ap (λ q. bracketed_by q us) e
bracketed_at (Basic l place ∷ ts) us o e p = ap (λ q. bracketed_by q us) e
bracketed_at (Odd ∷ ts) us o e p = ap (λ q. bracketed_by q us) e

-- A front of a type

front_by : (k : TokenKind) (at : Extent) (ts : List Terminal) → past_front (Sign k at ∷ ts) ≡ front_of k (Sign k at ∷ ts)
unfolding past_front
front_by kind.Multiply at ts = refl
front_by kind.ChanWord at ts = refl
front_by kind.Arrow at ts = refl
front_by kind.LeftBracket at ts = refl
front_by kind.MapWord at ts = refl
front_by kind.LeftParen at ts = refl
front_by kind.StructWord at ts = refl
front_by kind.InterfaceWord at ts = refl
front_by kind.FuncWord at ts = refl
front_by _ at ts = refl

pub front_sign : (ts : List Terminal) (k : TokenKind) → sign_at ts ≡ Some k → past_front ts ≡ front_of k ts
front_sign [] k e = absurd (cc)
front_sign (Sign j at ∷ ts) k e = front_by j at ts ∙ ap (λ i. front_of i (Sign j at ∷ ts)) (same_sign j k e)
front_sign (Identifier n ∷ ts) k e = absurd (cc)
front_sign (Basic l place ∷ ts) k e = absurd (cc)
front_sign (Odd ∷ ts) k e = absurd (cc)

pub front_none : (ts : List Terminal) → sign_at ts ≡ None → past_front ts ≡ front_name ts
unfolding past_front
front_none [] e = refl
front_none (Sign j at ∷ ts) e = absurd (cc)
front_none (Identifier n ∷ ts) e = refl
front_none (Basic l place ∷ ts) e = refl
front_none (Odd ∷ ts) e = refl

-- an error of a turn that is handed on
pub handed_turn : {A B : Type 0} (found : Found B) (next : Next A) (e : ParseError) (r : Result B ParseError) (old new : List Token)
    → IsErrAnd r (λ x. x ≡ e) → ReadsTurn {A = A} next (Err e) old → (next ≡ Fail → found ≡ None) → Reads found r new
handed_turn found next e (Ok a) old new h q g = absurd h
handed_turn found next e (Err NoMemory) old new h q g = tt
handed_turn found next Syntax (Err Syntax) old new h q g = g q
handed_turn found next NoMemory (Err Syntax) old new h q g = absurd (cc)
