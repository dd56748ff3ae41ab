-- What a turn makes of a loop that counts its turns up, for each kind of turn.
use Rattle.std.proofs.Common.{◌≡◌, ℕ, ◌+◌, ◌-◌, ◌<◌, List, [], ◌∷◌, ◌++◌, length, drop, Bool, true, false, if◌then◌else◌, Option, Some, None, Result, Ok, Err, refl, sym, ap, ◌∙◌, subst, arith}
use Rattle.std.specs.Result.{IsErrAnd}
use Rattle.go_syntax.specs.declared.token.Token.{Token}
use Rattle.go_syntax.specs.declared.token.TokenKind.TheVariants as kind
use Rattle.go_syntax.specs.grammar.Symbols.{begins, closes}
use Rattle.go_syntax.specs.grammar.Terminals.{Terminal, terminals}
use Rattle.go_cursor.specs.declared.error.ParseError.{ParseError}
use Rattle.go_cursor.specs.declared.error.ParseError.TheVariants.{Syntax, NoMemory}
use Rattle.go_cursor.specs.Reading.{Found, Reader, Next, Stop, Fail, More, bind, after, loop, run, put, step_of, ended, spec_item, put_all, step_all}
use Rattle.go_cursor.specs.Reads.{Reads, ReadsNext}
use Rattle.go_cursor.proofs.Turns.{one_more, turn_stops, turn_fails, turn_goes_on}

-- an error that is handed on
pub handed : {B : Type 0} (found : Found B) (e : ParseError) (r : Result B ParseError) (new : List Token) → IsErrAnd r (λ x. x ≡ e) → (e ≡ Syntax → found ≡ None) → Reads found r new
handed found e (Ok a) new h g = absurd h
handed found e (Err NoMemory) new h g = tt
handed found e (Err Syntax) new h g = g (sym h)

-- what a syntax error says of a reading
pub nothing_found : {A : Type 0} (found : Found A) (e : ParseError) (new : List Token) → Reads found (Err e) new → e ≡ Syntax → found ≡ None
nothing_found found Syntax new r q = r
nothing_found found NoMemory new r q = absurd (cc)

-- and of a turn
pub turn_failed : {A : Type 0} (next : Next A) (old : List Terminal) (e : ParseError) (new : List Token) → ReadsNext next old (Err e) new → e ≡ Syntax → next ≡ Fail
turn_failed next old Syntax new r q = r
turn_failed next old NoMemory new r q = absurd (cc)

-- what a turn that stops or goes on says
pub turn_stopped : {A : Type 0} (next : Next A) (old : List Terminal) (r : Option A) (new : List Token) → r ≡ None → ReadsNext next old (Ok r) new → (next ≡ Stop) × (terminals new ≡ old)
turn_stopped next old None new e q = q
turn_stopped next old (Some a) new e q = absurd (cc)

pub turn_went_on : {A : Type 0} (next : Next A) (old : List Terminal) (r : Option A) (new : List Token) (a : A) → r ≡ Some a → ReadsNext next old (Ok r) new → next ≡ More a (terminals new)
turn_went_on {A} next old r new a e q = subst (λ (o : Option A). ReadsNext next old (Ok o) new) e q

-- before the first turn
pub starts : {A : Type 0} (step : A → List Terminal → Next A) (first acc : A) (ts : List Terminal) (turns : ℕ) → turns ≡ length ts → acc ≡ first → run step first ts ≡ loop step (turns - 0) acc ts
unfolding run
starts step first acc ts turns n q = let all : length ts ≡ turns - 0 = omega (arith, n) in ap (λ k. loop step k first ts) all ∙ ap (λ a. loop step (turns - 0) a ts) (sym q)

-- any loop
module _ {A : Type 0} (step : A → List Terminal → Next A) (turns at : ℕ) (acc : A) (ts : List Terminal) (x : Found A) (below : at < turns) (so : x ≡ loop step (turns - at) acc ts) where
  pub stops : step acc ts ≡ Stop → x ≡ Some (acc, ts)
  stops e = one_more (λ n. loop step n acc ts) turns at below so ∙ turn_stops step _ acc ts e

  pub fails : step acc ts ≡ Fail → x ≡ None
  fails e = one_more (λ n. loop step n acc ts) turns at below so ∙ turn_fails step _ acc ts e

  pub goes_on : (b : A) (rest : List Terminal) → step acc ts ≡ More b rest → (next : A) → next ≡ b → x ≡ loop step (turns - (at + 1)) next rest
  goes_on b rest e next q = one_more (λ n. loop step n acc ts) turns at below so ∙ turn_goes_on step (turns - (at + 1)) acc ts b rest e ∙ ap (λ c. loop step (turns - (at + 1)) c rest) (sym q)

-- one item a turn
module _ {A : Type 0} (item : List Terminal → Next A) (turns at : ℕ) (items : List A) (ts : List Terminal) (x : Found (List A)) (below : at < turns) (so : x ≡ loop (step_of item) (turns - at) items ts) where
  pub items_stop : (new : List Terminal) → (item ts ≡ Stop) × (new ≡ ts) → x ≡ Some (items, new)
  items_stop new e = stops (step_of item) turns at items ts x below so (ap (put items) e.0) ∙ ap (λ w. Some (items, w)) (sym e.1)

  pub items_fail : item ts ≡ Fail → x ≡ None
  items_fail e = fails (step_of item) turns at items ts x below so (ap (put items) e)

  pub items_more : (a : A) (rest : List Terminal) → item ts ≡ More a rest → (more : List A) → more ≡ items ++ a ∷ [] → x ≡ loop (step_of item) (turns - (at + 1)) more rest
  items_more a rest e more q = goes_on (step_of item) turns at items ts x below so (items ++ a ∷ []) rest (ap (put items) e) more q

-- any number of items a turn
module _ {A : Type 0} (item : List Terminal → Next (List A)) (turns at : ℕ) (items : List A) (ts : List Terminal) (x : Found (List A)) (below : at < turns) (so : x ≡ loop (step_all item) (turns - at) items ts) where
  pub all_stop : (new : List Terminal) → (item ts ≡ Stop) × (new ≡ ts) → x ≡ Some (items, new)
  all_stop new e = stops (step_all item) turns at items ts x below so (ap (put_all items) e.0) ∙ ap (λ w. Some (items, w)) (sym e.1)

  pub all_fail : item ts ≡ Fail → x ≡ None
  all_fail e = fails (step_all item) turns at items ts x below so (ap (put_all items) e)

  pub all_more : (xs : List A) (rest : List Terminal) → item ts ≡ More xs rest → (more : List A) → more ≡ items ++ xs → x ≡ loop (step_all item) (turns - (at + 1)) more rest
  all_more xs rest e more q = goes_on (step_all item) turns at items ts x below so (items ++ xs) rest (ap (put_all items) e) more q

-- the end of an item, whatever the item is
abbrev ended_by : {A : Type 0} → A → Bool → Bool → Reader A
ended_by a b c u = if b then Some (a, drop 1 u) else if c then Some (a, u) else None

abbrev holding : {A : Type 0} → A → Found (Unit {0}) → Found A
holding a None = None
holding a (Some p) = Some (a, p.1)

holds_by : {A : Type 0} (a : A) (b c : Bool) (u : List Terminal) → ended_by a b c u ≡ holding a (ended_by tt b c u)
holds_by a true c u = refl
holds_by a false true u = refl
holds_by a false false u = refl

ended_holds : {A : Type 0} (a : A) (u : List Terminal) → ended a u ≡ holding a (ended {A = Unit {0}} tt u)
unfolding ended
ended_holds a u = holds_by a (begins kind.Semicolon u) (closes u) u

-- one item a turn, and its end, up to a closing bracket
module _ {A : Type 0} (read : Reader A) (turns at : ℕ) (items : List A) (ts : List Terminal) (x : Found (List A)) (below : at < turns) (so : x ≡ loop (step_of (spec_item read)) (turns - at) items ts) where
  spec_by : (c : Bool) → closes ts ≡ c → spec_item read ts ≡ (if c then Stop else after (bind (read ts) ended))
  spec_by c e = ap (λ (b : Bool). if b then Stop else after (bind (read ts) ended)) e

  read_then : (found : Found A) → closes ts ≡ false → read ts ≡ found → spec_item read ts ≡ after (bind found ended)
  read_then found e q = spec_by false e ∙ ap (λ (f : Found A). after (bind f ended)) q

  end_then : (a : A) (u : List Terminal) (end : Found (Unit {0})) → closes ts ≡ false → read ts ≡ Some (a, u) → ended {A = Unit {0}} tt u ≡ end → spec_item read ts ≡ after (holding a end)
  end_then a u end e q n = read_then (Some (a, u)) e q ∙ ap after (ended_holds a u ∙ ap (holding a) n)

  pub specs_stop : closes ts ≡ true → x ≡ Some (items, ts)
  specs_stop e = items_stop (spec_item read) turns at items ts x below so ts (spec_by true e, refl)

  pub specs_fail : closes ts ≡ false → read ts ≡ None → x ≡ None
  specs_fail e q = items_fail (spec_item read) turns at items ts x below so (read_then None e q)

  pub specs_unended : (a : A) (u : List Terminal) → closes ts ≡ false → read ts ≡ Some (a, u) → ended {A = Unit {0}} tt u ≡ None → x ≡ None
  specs_unended a u e q n = items_fail (spec_item read) turns at items ts x below so (end_then a u None e q n)

  pub specs_more : (a : A) (u rest : List Terminal) → closes ts ≡ false → read ts ≡ Some (a, u) → ended {A = Unit {0}} tt u ≡ Some (tt {0}, rest) → (more : List A) → more ≡ items ++ a ∷ [] → x ≡ loop (step_of (spec_item read)) (turns - (at + 1)) more rest
  specs_more a u rest e q n more m = items_more (spec_item read) turns at items ts x below so a rest (end_then a u (Some (tt {0}, rest)) e q n) more m
