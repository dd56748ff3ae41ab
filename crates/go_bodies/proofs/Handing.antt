-- Errors that the readers of blocks hand on.
use Rattle.std.proofs.Common.{◌≡◌, List, None, Option, Result, Ok, Err}
use Rattle.std.specs.Result.{IsErrAnd}
use Rattle.go_bodies.specs.Reading.{Opening, Progress}
use Rattle.go_bodies.specs.Reads.{FindsBody, Goes, HasRead, Opens}
use Rattle.go_cursor.specs.declared.error.ParseError.{ParseError}
use Rattle.go_cursor.specs.declared.error.ParseError.TheVariants.{NoMemory, Syntax}
use Rattle.go_cursor.specs.Reading.{Found}
use Rattle.go_cursor.specs.Reads.{Reads}
use Rattle.go_function_literals.specs.declared.place.LiteralPlace.{LiteralPlace}
use Rattle.go_syntax.specs.declared.statement.LiteralBlock.{LiteralBlock}
use Rattle.go_syntax.specs.declared.statement.ParsedBody.{ParsedBody}
use Rattle.go_syntax.specs.declared.statement.Stmt.{Stmt}
use Rattle.go_syntax.specs.declared.token.Token.{Token}

pub opens_not : (found : Opening) (inner : Found (List Stmt)) (e : ParseError) (r : Result (List LiteralPlace) ParseError) (old new : List Token) (blocks : List LiteralBlock)
    → IsErrAnd r (λ x. x ≡ e) → Reads {A = List Stmt} inner (Err e) old → (inner ≡ None → found ≡ None) → Opens found r new blocks
opens_not found inner e (Ok a) old new blocks h q g = absurd h
opens_not found inner e (Err NoMemory) old new blocks h q g = tt
opens_not found inner Syntax (Err Syntax) old new blocks h q g = g q
opens_not found inner NoMemory (Err Syntax) old new blocks h q g = absurd (cc)

pub goes_not : (found : Option Progress) (inner : Opening) (e : ParseError) (r : Result (Unit {0}) ParseError) (old new : List Token) (kept blocks : List LiteralBlock)
    → IsErrAnd r (λ x. x ≡ e) → Opens inner (Err e) old kept → (inner ≡ None → found ≡ None) → Goes found r new blocks
goes_not found inner e (Ok a) old new kept blocks h q g = absurd h
goes_not found inner e (Err NoMemory) old new kept blocks h q g = tt
goes_not found inner Syntax (Err Syntax) old new kept blocks h q g = g q
goes_not found inner NoMemory (Err Syntax) old new kept blocks h q g = absurd (cc)

pub goes_no_further : (found inner : Option Progress) (e : ParseError) (r : Result (Unit {0}) ParseError) (old new : List Token) (kept blocks : List LiteralBlock)
    → IsErrAnd r (λ x. x ≡ e) → Goes inner (Err e) old kept → (inner ≡ None → found ≡ None) → Goes found r new blocks
goes_no_further found inner e (Ok a) old new kept blocks h q g = absurd h
goes_no_further found inner e (Err NoMemory) old new kept blocks h q g = tt
goes_no_further found inner Syntax (Err Syntax) old new kept blocks h q g = g q
goes_no_further found inner NoMemory (Err Syntax) old new kept blocks h q g = absurd (cc)

pub reads_not : (found inner : Option Progress) (e : ParseError) (r : Result (List LiteralBlock) ParseError) (old : List Token) (kept : List LiteralBlock)
    → IsErrAnd r (λ x. x ≡ e) → Goes inner (Err e) old kept → (inner ≡ None → found ≡ None) → HasRead found r
reads_not found inner e (Ok a) old kept h q g = absurd h
reads_not found inner e (Err NoMemory) old kept h q g = tt
reads_not found inner Syntax (Err Syntax) old kept h q g = g q
reads_not found inner NoMemory (Err Syntax) old kept h q g = absurd (cc)

pub fills_not : (found : Option ParsedBody) (inner : Option Progress) (e : ParseError) (r : Result ParsedBody ParseError)
    → IsErrAnd r (λ x. x ≡ e) → HasRead inner (Err e) → (inner ≡ None → found ≡ None) → FindsBody found r
fills_not found inner e (Ok a) h q g = absurd h
fills_not found inner e (Err NoMemory) h q g = tt
fills_not found inner Syntax (Err Syntax) h q g = g q
fills_not found inner NoMemory (Err Syntax) h q g = absurd (cc)

pub finds_not : (found : Option ParsedBody) (inner : Found (List Stmt)) (e : ParseError) (r : Result ParsedBody ParseError) (old : List Token)
    → IsErrAnd r (λ x. x ≡ e) → Reads {A = List Stmt} inner (Err e) old → (inner ≡ None → found ≡ None) → FindsBody found r
finds_not found inner e (Ok a) old h q g = absurd h
finds_not found inner e (Err NoMemory) old h q g = tt
finds_not found inner Syntax (Err Syntax) old h q g = g q
finds_not found inner NoMemory (Err Syntax) old h q g = absurd (cc)
