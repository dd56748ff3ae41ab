-- A `{` is found by its offset where the offsets of the `{`s rise.
use Rattle.std.proofs.Common.{◌≡◌, ◌∙◌, ◌<◌, ◌≤◌, ℕ, suc, Bool, true, false, if◌then◌else◌, nat_eq, nat_le, List, [], ◌∷◌, ◌++◌, refl, sym, ap, subst, arith}
use Rattle.go_bodies.specs.Braces.{from_brace, opens, rises}
use Rattle.go_bodies.proofs.Numbers.{equal, is_at_most, itself, unequal}
use Rattle.go_cursor.proofs.Steps.{branch, taken}
use Rattle.go_cursor.specs.Skipping.{start_at}
use Rattle.go_function_literals.specs.Sites.{IsEnd}
use Rattle.go_function_literals.proofs.Sites.{end_and, end_none, end_one}
use Rattle.go_syntax.specs.declared.token.TokenKind.TheVariants as kind
use Rattle.go_syntax.specs.grammar.Symbols.{Takes, takes, begins}
use Rattle.go_syntax.specs.grammar.Terminals.{Extent, Sign, Terminal}

truth_lie : {c : Bool} → c ≡ true → c ≡ false → ⊥
truth_lie t f = absurd (cc)

-- One terminal

pub rises_brace : (least : ℕ) (at : Extent) (ts : List Terminal) → rises least (Sign kind.LeftBrace at ∷ ts) ≡ true → (least ≤ at.0) × (rises (suc at.0) ts ≡ true)
unfolding rises
rises_brace least at ts e = branch (nat_le least at.0) e (λ q r. (is_at_most least at.0 q, r)) (λ q r. absurd (cc))

-- the terminals behind the next one
abbrev Behind : ℕ → List Terminal → Type 0
Behind least us = (m : ℕ) × (least ≤ m) × (rises m us ≡ true)

behind_brace : (least : ℕ) {ts us : List Terminal} → Takes kind.LeftBrace ts us → rises least ts ≡ true → Behind least us
behind_brace least {us = us} (takes at) e = let r = rises_brace least at us e in (suc at.0, omega (arith, r.0), r.1)

behind_other : (least : ℕ) (t : Terminal) (ts : List Terminal) → begins kind.LeftBrace (t ∷ ts) ≡ false → rises least (t ∷ ts) ≡ true → Behind least ts
unfolding rises
behind_other least t ts f e = branch (begins kind.LeftBrace (t ∷ ts)) e (λ q r. absurd (truth_lie q f)) (λ q r. (least, omega arith, r))

behind_by : (least : ℕ) (t : Terminal) (ts : List Terminal) (c : Bool) → begins kind.LeftBrace (t ∷ ts) ≡ c → rises least (t ∷ ts) ≡ true → Behind least ts
behind_by least t ts true q e = behind_brace least (taken kind.LeftBrace (t ∷ ts) q) e
behind_by least t ts false q e = behind_other least t ts q e

behind : (least : ℕ) (t : Terminal) (ts : List Terminal) → rises least (t ∷ ts) ≡ true → Behind least ts
behind least t ts e = behind_by least t ts (begins kind.LeftBrace (t ∷ ts)) refl e

-- Terminals before a `{`

pub above : (before : List Terminal) (at : Extent) (rest : List Terminal) (least : ℕ) → rises least (before ++ Sign kind.LeftBrace at ∷ rest) ≡ true → least ≤ at.0
above [] at rest least e = (rises_brace least at rest e).0
above (t ∷ bs) at rest least e = let r = behind least t (bs ++ Sign kind.LeftBrace at ∷ rest) e in omega (arith, r.1, above bs at rest r.0 r.2)

other_brace : (bs : List Terminal) (at : Extent) (rest : List Terminal) (least : ℕ) {ts us : List Terminal} → Takes kind.LeftBrace ts us → us ≡ bs ++ Sign kind.LeftBrace at ∷ rest → rises least ts ≡ true → opens at.0 ts ≡ false
other_brace bs at rest least {us = us} (takes a) q e =
    let r = rises_brace least a us e in
    let l : suc a.0 ≤ at.0 = above bs at rest (suc a.0) (subst (λ w. rises (suc a.0) w ≡ true) q r.1) in
    unequal a.0 at.0 (omega (arith, l))

not_here_by : (t : Terminal) (bs : List Terminal) (at : Extent) (rest : List Terminal) (least : ℕ) (c : Bool) → begins kind.LeftBrace (t ∷ (bs ++ Sign kind.LeftBrace at ∷ rest)) ≡ c
    → rises least (t ∷ (bs ++ Sign kind.LeftBrace at ∷ rest)) ≡ true → opens at.0 (t ∷ (bs ++ Sign kind.LeftBrace at ∷ rest)) ≡ false
not_here_by t bs at rest least true q e = other_brace bs at rest least (taken kind.LeftBrace (t ∷ (bs ++ Sign kind.LeftBrace at ∷ rest)) q) refl e
not_here_by t bs at rest least false q e = ap (λ (b : Bool). if b then nat_eq (start_at (t ∷ (bs ++ Sign kind.LeftBrace at ∷ rest))) at.0 else false) q

not_here : (t : Terminal) (bs : List Terminal) (at : Extent) (rest : List Terminal) (least : ℕ) → rises least (t ∷ (bs ++ Sign kind.LeftBrace at ∷ rest)) ≡ true → opens at.0 (t ∷ (bs ++ Sign kind.LeftBrace at ∷ rest)) ≡ false
not_here t bs at rest least e = not_here_by t bs at rest least (begins kind.LeftBrace (t ∷ (bs ++ Sign kind.LeftBrace at ∷ rest))) refl e

-- a `{` is found by its offset
pub found : (before : List Terminal) (at : Extent) (rest : List Terminal) (least : ℕ) → rises least (before ++ Sign kind.LeftBrace at ∷ rest) ≡ true → from_brace at.0 (before ++ Sign kind.LeftBrace at ∷ rest) ≡ Sign kind.LeftBrace at ∷ rest
unfolding from_brace
found [] at rest least e = ap (λ (b : Bool). if b then Sign kind.LeftBrace at ∷ rest else from_brace at.0 rest) (itself at.0)
found (t ∷ bs) at rest least e =
    let r = behind least t (bs ++ Sign kind.LeftBrace at ∷ rest) e in
    ap (λ (b : Bool). if b then t ∷ (bs ++ Sign kind.LeftBrace at ∷ rest) else from_brace at.0 (bs ++ Sign kind.LeftBrace at ∷ rest)) (not_here t bs at rest least e) ∙ found bs at rest r.0 r.2

-- the same where it ends the terminals
pub found_at : {ts : List Terminal} (at : Extent) (rest : List Terminal) (least : ℕ) → IsEnd (Sign kind.LeftBrace at ∷ rest) ts → rises least ts ≡ true → from_brace at.0 ts ≡ Sign kind.LeftBrace at ∷ rest
found_at at rest least k e = ap (from_brace at.0) k.parts ∙ found k.before at rest least (subst (λ w. rises least w ≡ true) k.parts e)

-- Two of them

no_order : (at other : Extent) → at ≡ other → at.0 < other.0 → ⊥
no_order at other e l = let q : at.0 ≡ other.0 = ap (λ (x : Extent). x.0) e in absurd (omega (arith, l, q))

same_extent : (at other : Extent) (a u : List Terminal) → Sign kind.LeftBrace at ∷ a ≡ Sign kind.LeftBrace other ∷ u → at ≡ other
same_extent at other a u e = cc

heads : {t v : Terminal} {ts us : List Terminal} → t ∷ ts ≡ v ∷ us → t ≡ v
heads e = cc

tails : {t v : Terminal} {ts us : List Terminal} → t ∷ ts ≡ v ∷ us → ts ≡ us
tails e = cc

later_by : (first second : List Terminal) (at other : Extent) (a u : List Terminal) (least : ℕ) → first ++ Sign kind.LeftBrace at ∷ a ≡ second ++ Sign kind.LeftBrace other ∷ u
    → rises least (first ++ Sign kind.LeftBrace at ∷ a) ≡ true → at.0 < other.0 → IsEnd (Sign kind.LeftBrace other ∷ u) a
later_by [] [] at other a u least q e l = absurd (no_order at other (same_extent at other a u q) l)
later_by [] (t ∷ second) at other a u least q e l = record { before = second; parts = tails q }
later_by (t ∷ first) [] at other a u least q e l =
    let r = rises_brace least other (first ++ Sign kind.LeftBrace at ∷ a) (subst (λ w. rises least (w ∷ (first ++ Sign kind.LeftBrace at ∷ a)) ≡ true) (heads q) e) in
    absurd (omega (arith, l, above first at a (suc other.0) r.1))
later_by (t ∷ first) (v ∷ second) at other a u least q e l =
    let r = behind least t (first ++ Sign kind.LeftBrace at ∷ a) e in
    later_by first second at other a u r.0 (tails q) r.2 l

-- of two, the one of the greater offset stands behind the other
pub later : {ts : List Terminal} (at other : Extent) (a u : List Terminal) (least : ℕ) → IsEnd (Sign kind.LeftBrace at ∷ a) ts → IsEnd (Sign kind.LeftBrace other ∷ u) ts → rises least ts ≡ true → at.0 < other.0 → IsEnd (Sign kind.LeftBrace other ∷ u) a
later at other a u least k m e l = later_by k.before m.before at other a u least (sym k.parts ∙ m.parts) (subst (λ w. rises least w ≡ true) k.parts e) l

-- Ends

ends_rise_by : (before a : List Terminal) (least : ℕ) → rises least (before ++ a) ≡ true → (m : ℕ) × (rises m a ≡ true)
ends_rise_by [] a least e = (least, e)
ends_rise_by (t ∷ bs) a least e = let r = behind least t (bs ++ a) e in ends_rise_by bs a r.0 r.2

pub ends_rise : {ts a : List Terminal} (least : ℕ) → IsEnd a ts → rises least ts ≡ true → (m : ℕ) × (rises m a ≡ true)
ends_rise {a = a} least k e = ends_rise_by k.before a least (subst (λ w. rises least w ≡ true) k.parts e)

from_end_by : (start : ℕ) (t : Terminal) (ts : List Terminal) → IsEnd (from_brace start ts) ts → (c : Bool) → IsEnd (if c then t ∷ ts else from_brace start ts) (t ∷ ts)
from_end_by start t ts k true = end_none
from_end_by start t ts k false = end_and (end_one t ts) k

pub from_end : (start : ℕ) (ts : List Terminal) → IsEnd (from_brace start ts) ts
unfolding from_brace
from_end start [] = end_none
from_end start (t ∷ ts) = from_end_by start t ts (from_end start ts) (opens start (t ∷ ts))

-- What was found

-- the `{` that was found has the offset that was asked for, which is at least the bound, and those behind it are greater
pub record Reached (least start : ℕ) (at : Extent) (a : List Terminal) : Type 0 where
  pub start_is : at.0 ≡ start
  pub bound : least ≤ start
  pub rises_on : rises (suc start) a ≡ true

reached_here : (least start : ℕ) (at : Extent) (a ws : List Terminal) → ws ≡ Sign kind.LeftBrace at ∷ a → opens start ws ≡ true → rises least ws ≡ true → Reached least start at a
reached_here least start at a ws q o e =
    let s : at.0 ≡ start = equal at.0 start (subst (λ w. opens start w ≡ true) q o) in
    let r = rises_brace least at a (subst (λ w. rises least w ≡ true) q e) in
    record { start_is = s; bound = omega (arith, r.0, s); rises_on = subst (λ n. rises (suc n) a ≡ true) s r.1 }

pub reached : (ahead : List Terminal) (least start : ℕ) (at : Extent) (a : List Terminal) → rises least ahead ≡ true → from_brace start ahead ≡ Sign kind.LeftBrace at ∷ a → Reached least start at a
unfolding from_brace
reached [] least start at a e q = absurd (cc)
reached (t ∷ ts) least start at a e q = branch (opens start (t ∷ ts)) q
    (λ o w. reached_here least start at a (t ∷ ts) w o e)
    (λ o w. let r = behind least t ts e in let k = reached ts r.0 start at a r.2 w in record { start_is = k.start_is; bound = omega (arith, r.1, k.bound); rises_on = k.rises_on })
