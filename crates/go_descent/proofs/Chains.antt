-- Loops over operands, beside the recursion on the turns that are left: what a turn makes of each kind of loop.
use Rattle.std.proofs.Common.{◌≡◌, ℕ, ◌+◌, ◌-◌, ◌<◌, ◌≤◌, Bool, true, false, if◌then◌else◌, List, [], ◌∷◌, ◌++◌, length, drop, Option, Some, None, Result, Ok, Err, refl, ap, sym, subst, ◌∙◌, arith}
use Rattle.std.specs.Result.{IsErrAnd}
use Rattle.go_syntax.specs.declared.expression.Expr.{Expr}
use Rattle.go_syntax.specs.declared.token.Token.{Token}
use Rattle.go_syntax.specs.declared.token.TokenKind.{TokenKind}
use Rattle.go_syntax.specs.grammar.Symbols.{sign_at}
use Rattle.go_syntax.specs.grammar.Terminals.{Terminal, terminals}
use Rattle.go_cursor.specs.declared.error.ParseError.{ParseError}
use Rattle.go_cursor.specs.declared.error.ParseError.TheVariants.{Syntax, NoMemory}
use Rattle.go_cursor.specs.Reading.{Found, Reader, Next, Stop, Fail, More, bind, loop, run, put, after, step_of}
use Rattle.go_cursor.specs.Reads.{Reads, ReadsNext}
use Rattle.go_descent.specs.Rules.{operator_at, operated, operation, put_both, step_both}
use Rattle.go_cursor.proofs.Turns.{one_more, no_more, turn_stops, turn_fails, turn_goes_on}

-- an error that is handed on, of a reading
pub handed : {A B : Type 0} (found : Found B) (inner : Found A) (e : ParseError) (r : Result B ParseError) (old new : List Token)
    → IsErrAnd r (λ x. x ≡ e) → Reads {A = A} inner (Err e) old → (inner ≡ None → found ≡ None) → Reads found r new
handed found inner e (Ok a) old new h q g = absurd h
handed found inner e (Err NoMemory) old new h q g = tt
handed found inner Syntax (Err Syntax) old new h q g = g q
handed found inner NoMemory (Err Syntax) old new h q g = absurd (cc)

-- and of a turn
pub handed_next : {A B : Type 0} (found : Found B) (next : Next A) (ts : List Terminal) (e : ParseError) (r : Result B ParseError) (old new : List Token)
    → IsErrAnd r (λ x. x ≡ e) → ReadsNext {A = A} next ts (Err e) old → (next ≡ Fail → found ≡ None) → Reads found r new
handed_next found next ts e (Ok a) old new h q g = absurd h
handed_next found next ts e (Err NoMemory) old new h q g = tt
handed_next found next ts Syntax (Err Syntax) old new h q g = g q
handed_next found next ts NoMemory (Err Syntax) old new h q g = absurd (cc)

-- before the first turn
pub began : {A : Type 0} (step : A → List Terminal → Next A) (first acc : A) (ts : List Terminal) (turns : ℕ)
    → turns ≡ length ts → acc ≡ first → run step first ts ≡ loop step (turns - 0) acc ts
unfolding run
began step first acc ts turns n q =
    let all : length ts ≡ turns - 0 = omega (arith, n) in
    ap (λ k. loop step k first ts) all ∙ ap (λ a. loop step (turns - 0) a ts) (sym q)

module _ {A B : Type 0} where
  abbrev pair : List A → List B → List A × List B
  pair as' bs = (as', bs)

  pub both_empty : (as' : List A) (bs : List B) → as' ≡ [] → bs ≡ [] → pair as' bs ≡ pair [] []
  both_empty as' bs e q = ap (λ (x : List A). pair x bs) e ∙ ap (pair []) q

-- after the last one
pub ran_out : {A : Type 0} (found : Found A) (step : A → List Terminal → Next A) (turns at : ℕ) (acc : A) (ts : List Terminal)
    → turns ≤ at → found ≡ loop step (turns - at) acc ts → found ≡ Some (acc, ts)
unfolding loop
ran_out found step turns at acc ts done so_far = no_more (λ n. loop step n acc ts) turns at done so_far

-- in a turn of any loop
module _ {A : Type 0} (found : Found A) (step : A → List Terminal → Next A) (turns at : ℕ) (acc : A) (ts : List Terminal)
    (below : at < turns) (so_far : found ≡ loop step (turns - at) acc ts) where
  stopped : step acc ts ≡ Stop → found ≡ Some (acc, ts)
  stopped e = one_more (λ n. loop step n acc ts) turns at below so_far ∙ turn_stops step (turns - (at + 1)) acc ts e

  failed : step acc ts ≡ Fail → found ≡ None
  failed e = one_more (λ n. loop step n acc ts) turns at below so_far ∙ turn_fails step (turns - (at + 1)) acc ts e

  gone_on : (b : A) (rest : List Terminal) → step acc ts ≡ More b rest → (more : A) → more ≡ b → found ≡ loop step (turns - (at + 1)) more rest
  gone_on b rest e more q = one_more (λ n. loop step n acc ts) turns at below so_far
      ∙ turn_goes_on step (turns - (at + 1)) acc ts b rest e ∙ ap (λ a. loop step (turns - (at + 1)) a rest) (sym q)

-- what a turn found, by cases
module _ {A : Type 0} (next : Next A) (ts : List Terminal) (found : Option A) (new : List Token) (so : ReadsNext next ts (Ok found) new) where
  pub found_none : found ≡ None → (next ≡ Stop) × (terminals new ≡ ts)
  found_none e = subst (λ (o : Option A). ReadsNext next ts (Ok o) new) e so

  pub found_one : (a : A) → found ≡ Some a → next ≡ More a (terminals new)
  found_one a e = subst (λ (o : Option A). ReadsNext next ts (Ok o) new) e so

-- in a turn that an item is read in
module _ {A : Type 0} (found : Found (List A)) (item : List Terminal → Next A) (turns at : ℕ) (xs : List A) (ts : List Terminal)
    (below : at < turns) (so_far : found ≡ loop (step_of item) (turns - at) xs ts) where
  pub no_item : (new : List Terminal) → (item ts ≡ Stop) × (new ≡ ts) → found ≡ Some (xs, new)
  no_item new e = stopped found (step_of item) turns at xs ts below so_far (ap (put xs) e.0) ∙ ap (λ us. Some (xs, us)) (sym e.1)

  pub bad_item : item ts ≡ Fail → found ≡ None
  bad_item e = failed found (step_of item) turns at xs ts below so_far (ap (put xs) e)

  pub one_item : (x : A) (rest : List Terminal) → item ts ≡ More x rest → (more : List A) → more ≡ xs ++ x ∷ [] → found ≡ loop (step_of item) (turns - (at + 1)) more rest
  one_item x rest e more q = gone_on found (step_of item) turns at xs ts below so_far (xs ++ x ∷ []) rest (ap (put xs) e) more q

-- an operand behind one token, where a test holds
abbrev pub behind : (List Terminal → Bool) → Reader Expr → List Terminal → Next Expr
behind test operand ts = if test ts then after (operand (drop 1 ts)) else Stop

module _ (found : Found (List Expr)) (test : List Terminal → Bool) (operand : Reader Expr) (turns at : ℕ) (xs : List Expr) (ts : List Terminal)
    (below : at < turns) (so_far : found ≡ loop (step_of (behind test operand)) (turns - at) xs ts) where
  tested : (b : Bool) → test ts ≡ b → behind test operand ts ≡ (if b then after (operand (drop 1 ts)) else Stop)
  tested b e = ap (λ (t : Bool). if t then after (operand (drop 1 ts)) else Stop) e

  given : (us : List Terminal) (r : Found Expr) → test ts ≡ true → us ≡ drop 1 ts → operand us ≡ r → behind test operand ts ≡ after r
  given us r e s q = tested true e ∙ ap after (ap operand (sym s) ∙ q)

  pub none_behind : test ts ≡ false → found ≡ Some (xs, ts)
  none_behind e = no_item found (behind test operand) turns at xs ts below so_far ts (tested false e, refl)

  pub bad_behind : (us : List Terminal) → test ts ≡ true → us ≡ drop 1 ts → operand us ≡ None → found ≡ None
  bad_behind us e s q = bad_item found (behind test operand) turns at xs ts below so_far (given us None e s q)

  pub one_behind : (x : Expr) (us rest : List Terminal) → test ts ≡ true → us ≡ drop 1 ts → operand us ≡ Some (x, rest)
      → (more : List Expr) → more ≡ xs ++ x ∷ [] → found ≡ loop (step_of (behind test operand)) (turns - (at + 1)) more rest
  one_behind x us rest e s q more p = one_item found (behind test operand) turns at xs ts below so_far x rest (given us (Some (x, rest)) e s q) more p

-- an operator, and an operand behind it
module _ {O : Type 0} (found : Found (List O × List Expr)) (operator : TokenKind → Option O) (operand : Reader Expr) (turns at : ℕ) (ops : List O) (xs : List Expr) (ts : List Terminal)
    (below : at < turns) (so_far : found ≡ loop (step_both (operation operator operand)) (turns - at) (ops, xs) ts)
    (sign : Option TokenKind) (same : sign ≡ sign_at ts) where
  chosen : (o : Option O) → o ≡ operator_at operator sign → step_both (operation operator operand) (ops, xs) ts ≡ put_both ops xs (operated operand o ts)
  chosen o e = ap (λ (t : Option O). put_both ops xs (operated operand t ts)) (ap (operator_at operator) (sym same) ∙ sym e)

  operated_by : (o : O) (us : List Terminal) (r : Found Expr) → Some o ≡ operator_at operator sign → us ≡ drop 1 ts → operand us ≡ r
      → step_both (operation operator operand) (ops, xs) ts ≡ put_both ops xs (after (bind r (λ x u. Some ((o, x), u))))
  operated_by o us r e s q = chosen (Some o) e ∙ ap (λ (f : Found Expr). put_both ops xs (after (bind f (λ x u. Some ((o, x), u))))) (ap operand (sym s) ∙ q)

  pub no_operator : None ≡ operator_at operator sign → found ≡ Some ((ops, xs), ts)
  no_operator e = stopped found (step_both (operation operator operand)) turns at (ops, xs) ts below so_far (chosen None e)

  pub no_operand : (o : O) (us : List Terminal) → Some o ≡ operator_at operator sign → us ≡ drop 1 ts → operand us ≡ None → found ≡ None
  no_operand o us e s q = failed found (step_both (operation operator operand)) turns at (ops, xs) ts below so_far (operated_by o us None e s q)

  pub one_operation : (o : O) (x : Expr) (us rest : List Terminal) → Some o ≡ operator_at operator sign → us ≡ drop 1 ts → operand us ≡ Some (x, rest)
      → (more : List O) (more_xs : List Expr) → more ≡ ops ++ o ∷ [] → more_xs ≡ xs ++ x ∷ []
      → found ≡ loop (step_both (operation operator operand)) (turns - (at + 1)) (more, more_xs) rest
  one_operation o x us rest e s q more more_xs p w =
      gone_on found (step_both (operation operator operand)) turns at (ops, xs) ts below so_far (ops ++ o ∷ [], xs ++ x ∷ []) rest (operated_by o us (Some (x, rest)) e s q) (more, more_xs)
      (ap (λ (l : List O). (l, more_xs)) p ∙ ap (λ (l : List Expr). (ops ++ o ∷ [], l)) w)
