-- What is read of a body, where there are lower trees.
use Rattle.std.proofs.Common.{◌≡◌, ℕ, true, List, Result, sym, subst}
use Rattle.go_syntax.specs.declared.body.BodyRange.{BodyRange}
use Rattle.go_syntax.specs.declared.token.Token.{Token}
use Rattle.go_syntax.specs.grammar.Terminals.{Terminal}
use Rattle.go_cursor.specs.declared.error.ParseError.{ParseError}
use Rattle.go_cursor.specs.Reading.{Found}
use Rattle.go_cursor.specs.Reads.{Reads}
use Rattle.go_cursor.specs.Skipping.{skipped_body}
use Rattle.go_descent.specs.Levels.{levels}
use Rattle.go_descent.proofs.Heights.{some_body}

pub body_above : (h : ℕ) → (levels h).deep ≡ true → (ts : List Terminal) (r : Result BodyRange ParseError) (new : List Token) → Reads {A = BodyRange} (skipped_body ts) r new → Reads {A = BodyRange} ((levels h).body ts) r new
body_above h e ts r new d = subst (λ (f : Found BodyRange). Reads {A = BodyRange} f r new) (sym (some_body h ts e)) d
