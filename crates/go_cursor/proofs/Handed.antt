-- An error that a reader hands on.
use Rattle.std.proofs.Common.{◌≡◌, List, None, Result, Ok, Err}
use Rattle.std.specs.Result.{IsErrAnd}
use Rattle.go_syntax.specs.declared.token.Token.{Token}
use Rattle.go_cursor.specs.declared.error.ParseError.{ParseError}
use Rattle.go_cursor.specs.declared.error.ParseError.TheVariants.{Syntax, NoMemory}
use Rattle.go_cursor.specs.Reading.{Found}
use Rattle.go_cursor.specs.Reads.{Reads}

pub handed : {A B : Type 0} (found : Found A) (inner : Found B) (e : ParseError) (r : Result A ParseError) (old new : List Token)
    → IsErrAnd r (λ x. x ≡ e) → Reads {A = B} inner (Err e) old → (inner ≡ None → found ≡ None) → Reads found r new
handed found inner e (Ok a) old new h q g = absurd h
handed found inner e (Err NoMemory) old new h q g = tt
handed found inner Syntax (Err Syntax) old new h q g = g q
handed found inner NoMemory (Err Syntax) old new h q g = absurd (cc)
