-- What one step over tokens says of the `{`s behind it.
use Rattle.std.proofs.Common.{◌≡◌, ◌∙◌, ◌<◌, ◌≤◌, ◌+◌, ◌-◌, ℕ, suc, Bool, true, false, if◌then◌else◌, nat_le, List, [], ◌∷◌, drop, length, Option, Some, None, add-one, refl, ap, sym, subst, arith}
use Rattle.std.proofs.lemmas.List.{length-drop}
use Rattle.go_bodies.specs.Braces.{from_brace, next_bound, opens, rises}
use Rattle.go_bodies.proofs.Numbers.{at_most, more}
use Rattle.go_cursor.specs.Skipping.{start_at}
use Rattle.go_syntax.specs.declared.token.TokenKind.TheVariants as kind
use Rattle.go_syntax.specs.grammar.Symbols.{begins}
use Rattle.go_syntax.specs.grammar.Terminals.{Terminal}

pub one_fewer : (ts us : List Terminal) → us ≡ drop 1 ts → length us ≡ length ts - 1
one_fewer ts us e = ap length e ∙ length-drop 1 ts

pub here : (start : ℕ) (ts : List Terminal) → opens start ts ≡ true → from_brace start ts ≡ ts
unfolding from_brace
here start [] e = refl
here start (t ∷ ts) e = ap (λ (b : Bool). if b then t ∷ ts else from_brace start ts) e

pub on : (start : ℕ) (ts us : List Terminal) → opens start ts ≡ false → us ≡ drop 1 ts → from_brace start ts ≡ from_brace start us
unfolding from_brace
on start [] us e q = ap (from_brace start) (sym q)
on start (t ∷ ts) us e q = ap (λ (b : Bool). if b then t ∷ ts else from_brace start ts) e ∙ ap (from_brace start) (sym q)

pub none_left : (start : ℕ) (ts : List Terminal) → length ts ≤ 0 → from_brace start ts ≡ ts
unfolding from_brace
none_left start [] l = refl
none_left start (t ∷ ts) l = absurd (omega arith)

-- a bound for the `{`s behind the next token

pub same_bound : (least : ℕ) (ts : List Terminal) → begins kind.LeftBrace ts ≡ false → Some least ≡ next_bound least ts
same_bound least ts e = sym (ap (λ (b : Bool). if b then (if nat_le least (start_at ts) then Some (suc (start_at ts)) else None) else Some least) e)

bound_at : (least start : ℕ) (ts : List Terminal) (d : Bool) → begins kind.LeftBrace ts ≡ true → start ≡ start_at ts → nat_le least start ≡ d → next_bound least ts ≡ (if d then Some (suc start) else None)
bound_at least start ts d e s l =
    ap (λ (b : Bool). if b then (if nat_le least (start_at ts) then Some (suc (start_at ts)) else None) else Some least) e
    ∙ ap (λ (n : ℕ). if nat_le least n then Some (suc n) else None) (sym s)
    ∙ ap (λ (b : Bool). if b then Some (suc start) else None) l

pub bound_behind : (least start : ℕ) (ts : List Terminal) → begins kind.LeftBrace ts ≡ true → start ≡ start_at ts → least ≤ start → Some (start + 1) ≡ next_bound least ts
bound_behind least start ts e s l = ap Some (add-one start) ∙ sym (bound_at least start ts true e s (at_most least start l))

pub no_bound : (least start : ℕ) (ts : List Terminal) → begins kind.LeftBrace ts ≡ true → start ≡ start_at ts → start < least → None ≡ next_bound least ts
no_bound least start ts e s l = sym (bound_at least start ts false e s (more least start l))

abbrev Bounded : ℕ → Terminal → List Terminal → Option ℕ → Bool → Type 0
Bounded least t ts None r = r ≡ false
Bounded least t ts (Some n) r = r ≡ rises n ts

bounded_by : (least : ℕ) (t : Terminal) (ts : List Terminal) (c d : Bool)
    → Bounded least t ts (if c then (if d then Some (suc (start_at (t ∷ ts))) else None) else Some least) (if c then (if d then rises (suc (start_at (t ∷ ts))) ts else false) else rises least ts)
bounded_by least t ts true true = refl
bounded_by least t ts true false = refl
bounded_by least t ts false d = refl

bounded : (least : ℕ) (t : Terminal) (ts : List Terminal) → Bounded least t ts (next_bound least (t ∷ ts)) (rises least (t ∷ ts))
unfolding rises
bounded least t ts = bounded_by least t ts (begins kind.LeftBrace (t ∷ ts)) (nat_le least (start_at (t ∷ ts)))

at_next : (least : ℕ) (t : Terminal) (ts : List Terminal) (o : Option ℕ) → o ≡ next_bound least (t ∷ ts) → Bounded least t ts o (rises least (t ∷ ts))
at_next least t ts o e = subst (λ (p : Option ℕ). Bounded least t ts p (rises least (t ∷ ts))) (sym e) (bounded least t ts)

pub falls : (least : ℕ) (ts : List Terminal) → None ≡ next_bound least ts → rises least ts ≡ false
falls least [] e = absurd (cc)
falls least (t ∷ ts) e = at_next least t ts None e

pub rises_on : (least n : ℕ) (ts us : List Terminal) → Some n ≡ next_bound least ts → us ≡ drop 1 ts → rises least ts ≡ rises n us
unfolding rises
rises_on least n [] us e q = ap (rises n) (sym q)
rises_on least n (t ∷ ts) us e q = at_next least t ts (Some n) e ∙ ap (rises n) (sym q)

pub all_rise : (least : ℕ) (ts : List Terminal) → length ts ≤ 0 → rises least ts ≡ true
unfolding rises
all_rise least [] l = refl
all_rise least (t ∷ ts) l = absurd (omega arith)
