-- The readers at height 0, and above it.
use Rattle.std.proofs.Common.{◌≡◌, ℕ, zero, suc, Bool, true, false, List, None, ap, sym, ◌∙◌, refl}
use Rattle.go_syntax.specs.declared.body.BodyRange.{BodyRange}
use Rattle.go_syntax.specs.grammar.Terminals.{Terminal}
use Rattle.go_cursor.specs.Reading.{Reader}
use Rattle.go_descent.specs.Rules.{Parts, no_parts, whole_parts, parts}
use Rattle.go_cursor.specs.Skipping.{skipped_body}
use Rattle.go_descent.specs.Levels.{levels}

-- none below 0
pub bottom : (h : ℕ) → h ≡ 0 → levels h ≡ no_parts
unfolding parts
bottom h e = ap levels e

-- and those of the height below
pub higher : (h k : ℕ) → h ≡ suc k → levels h ≡ whole_parts skipped_body (levels k)
unfolding parts
higher h k e = ap levels e

pub bottom_deep : (h : ℕ) → h ≡ 0 → false ≡ (levels h).deep
bottom_deep h e = sym (ap (λ (l : Parts). l.deep) (bottom h e))

pub higher_deep : (h k : ℕ) → h ≡ suc k → true ≡ (levels h).deep
higher_deep h k e = sym (ap (λ (l : Parts). l.deep) (higher h k e))

abbrev pub body_of : (deep : Bool) → Reader BodyRange
body_of true = skipped_body
body_of false = λ ts. None

pub bodies : (h : ℕ) (ts : List Terminal) → (levels h).body ts ≡ body_of (levels h).deep ts
unfolding parts
bodies zero ts = refl
bodies (suc h) ts = refl

-- no body where there are no lower trees
pub no_body : (h : ℕ) (ts : List Terminal) → (levels h).deep ≡ false → (levels h).body ts ≡ None
no_body h ts e = bodies h ts ∙ ap (λ (b : Bool). body_of b ts) e

pub some_body : (h : ℕ) (ts : List Terminal) → (levels h).deep ≡ true → (levels h).body ts ≡ skipped_body ts
some_body h ts e = bodies h ts ∙ ap (λ (b : Bool). body_of b ts) e
