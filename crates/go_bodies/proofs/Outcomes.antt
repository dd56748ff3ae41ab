-- What the reader of a body answers, and what it does where literals are left.
use Rattle.std.proofs.Common.{◌≡◌, ◌<◌, ◌≤◌, ◌+◌, ◌∙◌, ◌++◌, ℕ, suc, true, false, List, [], ◌∷◌, add-one, drop, drop-cons, get_or, length, Option, None, Some, Result, Ok, Err, IfOk, sym, ap, arith}
use Rattle.std.specs.Prelude.{IsErrOf}
use Rattle.go_base.proofs.Lists.{drop_past}
use Rattle.go_bodies.specs.Bodies.{HasBody}
use Rattle.go_bodies.specs.Braces.{from_brace, rises}
use Rattle.go_bodies.specs.Reading.{Opening, Progress, body, body_by, least, literals, made, opened, opened_at, opened_by, progress, with_opened, with_progress}
use Rattle.go_bodies.specs.Reads.{FindsBody}
use Rattle.go_bodies.proofs.CompleteBodies.{body_reads, one_body}
use Rattle.go_bodies.proofs.SoundBodies.{IsBodyOf, body_found}
use Rattle.go_bodies.proofs.Steps.{no_literals}
use Rattle.go_cursor.specs.declared.error.ParseError.{ParseError}
use Rattle.go_cursor.specs.declared.error.ParseError.TheVariants.{NoMemory, Syntax}
use Rattle.go_function_literals.specs.declared.place.LiteralPlace.{LiteralPlace}
use Rattle.go_function_literals.specs.Places.{below}
use Rattle.go_function_literals.specs.StatementPlaces.{stmts_places}
use Rattle.go_stmts.specs.go_stmt_descent.Statements.{statements}
use Rattle.go_syntax.specs.declared.statement.LiteralBlock.{LiteralBlock}
use Rattle.go_syntax.specs.declared.statement.ParsedBody.{ParsedBody}
use Rattle.go_syntax.specs.declared.statement.Stmt.{Stmt}
use Rattle.go_syntax.specs.declared.token.Token.{Token}
use Rattle.go_syntax.specs.grammar.Brackets.{body_range}
use Rattle.go_syntax.specs.grammar.ParsedBodies.{literal_block}
use Rattle.go_syntax.specs.grammar.Terminals.{Terminal, terminals}

-- Literals that are left

pub no_height : (most : ℕ) (p : LiteralPlace) (ps : List LiteralPlace) (s : Progress) → most ≡ 0 → literals most (p ∷ ps) s ≡ None
unfolding literals
no_height most p ps s e = ap (λ n. literals n (p ∷ ps) s) e

pub one_more : (most n : ℕ) (p : LiteralPlace) (ps : List LiteralPlace) (s : Progress) → most ≡ suc n → literals most (p ∷ ps) s ≡ with_progress (with_opened (opened n p s) (literals n)) (literals most ps)
unfolding literals
one_more most n p ps s e = ap (λ k. literals k (p ∷ ps) s) e ∙ ap (λ k. with_progress (with_opened (opened n p s) (literals n)) (literals k ps)) (sym e)

module _ (most n : ℕ) (p : LiteralPlace) (ps : List LiteralPlace) (s : Progress) (height : most ≡ suc n) where
  pub not_opened : opened n p s ≡ None → literals most (p ∷ ps) s ≡ None
  not_opened e = one_more most n p ps s height ∙ ap (λ (o : Opening). with_progress (with_opened o (literals n)) (literals most ps)) e

  within : (inner : List LiteralPlace) (t : Progress) → opened n p s ≡ Some (inner, t) → literals most (p ∷ ps) s ≡ with_progress (literals n inner t) (literals most ps)
  within inner t e = one_more most n p ps s height ∙ ap (λ (o : Opening). with_progress (with_opened o (literals n)) (literals most ps)) e

  pub not_read : (inner : List LiteralPlace) (t : Progress) → opened n p s ≡ Some (inner, t) → literals n inner t ≡ None → literals most (p ∷ ps) s ≡ None
  not_read inner t e f = within inner t e ∙ ap (λ (r : Option Progress). with_progress r (literals most ps)) f

  pub goes_on : (inner : List LiteralPlace) (t end : Progress) → opened n p s ≡ Some (inner, t) → literals n inner t ≡ Some end → literals most (p ∷ ps) s ≡ literals most ps end
  goes_on inner t end e f = within inner t e ∙ ap (λ (r : Option Progress). with_progress r (literals most ps)) f

-- the item of a list of places where none stands
abbrev pub no_place : LiteralPlace
no_place = record { body = body_range 0 0; height = 0 }

-- the literals from one of them on
pub from_place : (ps : List LiteralPlace) (i : ℕ) → i < length ps → drop i ps ≡ get_or ps i no_place ∷ drop (i + 1) ps
from_place ps i l = drop-cons ps i no_place l ∙ ap (λ n. get_or ps i no_place ∷ drop n ps) (sym (add-one i))

-- no literal is left
pub past_all : (most : ℕ) (ps : List LiteralPlace) (i : ℕ) (s : Progress) → length ps ≤ i → literals most (drop i ps) s ≡ Some s
past_all most ps i s l = ap (λ qs. literals most qs s) (drop_past i ps l) ∙ no_literals most s

-- all of them, from the first token on
pub from_first : (most : ℕ) (ps : List LiteralPlace) (tokens ahead : List Token) (blocks : List LiteralBlock) → ahead ≡ tokens → blocks ≡ [] → literals most ps (progress (terminals tokens) []) ≡ literals most ps (progress (terminals ahead) blocks)
from_first most ps tokens ahead blocks e f = ap (λ (l : List Token). literals most ps (progress (terminals l) [])) (sym e) ∙ ap (λ (l : List LiteralBlock). literals most ps (progress (terminals ahead) l)) (sym f)

-- One literal

module _ (most : ℕ) (p : LiteralPlace) (ts us : List Terminal) (blocks : List LiteralBlock) (height : ℕ) (begins : us ≡ from_brace p.body.start ts) (bounded : height ≡ least p.height most) where
  pub opened_there : opened most p (progress ts blocks) ≡ opened_at height p.body.start blocks us
  unfolding opened
  opened_there = ap (λ h. opened_at h p.body.start blocks (from_brace p.body.start ts)) (sym bounded) ∙ ap (λ w. opened_at height p.body.start blocks w) (sym begins)

  pub no_block : (statements height).block us ≡ None → opened most p (progress ts blocks) ≡ None
  no_block e = opened_there ∙ ap (opened_by height p.body.start blocks us) e

  a_block : (ss : List Stmt) (rest : List Terminal) → (statements height).block us ≡ Some (ss, rest) → opened most p (progress ts blocks) ≡ Some (stmts_places ss (below height), progress (drop 1 us) (blocks ++ literal_block p.body.start ss ∷ []))
  a_block ss rest e = opened_there ∙ ap (opened_by height p.body.start blocks us) e

  pub opens_a_block : (ss : List Stmt) (rest vs : List Terminal) (inner : List LiteralPlace) (kept : List LiteralBlock) → (statements height).block us ≡ Some (ss, rest) → inner ≡ stmts_places ss (below height) → vs ≡ drop 1 us → kept ≡ blocks ++ literal_block p.body.start ss ∷ []
      → opened most p (progress ts blocks) ≡ Some (inner, progress vs kept)
  opens_a_block ss rest vs inner kept e f g k =
      a_block ss rest e
      ∙ ap (λ l. Some (l, progress (drop 1 us) (blocks ++ literal_block p.body.start ss ∷ []))) (sym f)
      ∙ ap (λ w. Some (inner, progress w (blocks ++ literal_block p.body.start ss ∷ []))) (sym g)
      ∙ ap (λ l. Some (inner, progress vs l)) (sym k)

-- The literals of a block

-- the same literals, by what was taken and made of the block
pub same_literals : (h low : ℕ) (block stmts items : List Stmt) (inner places : List LiteralPlace) (ts : List Terminal) → stmts ≡ block → items ≡ stmts → low ≡ below h → inner ≡ stmts_places items low → places ≡ inner
    → literals h (stmts_places block (below h)) (progress ts []) ≡ literals h places (progress ts [])
same_literals h low block stmts items inner places ts s t l i p =
    let same : places ≡ stmts_places block (below h) = p ∙ i ∙ ap (λ (ss : List Stmt). stmts_places ss low) (t ∙ s) ∙ ap (stmts_places block) l in
    ap (λ (w : List LiteralPlace). literals h w (progress ts [])) (sym same)

-- a body of the block and the blocks that were read
pub made_of : (block stmts : List Stmt) (blocks taken : List LiteralBlock) (behind : List Terminal) (r : Option Progress) → stmts ≡ block → taken ≡ blocks → r ≡ Some (progress behind blocks) → made block r ≡ Some (record { block = stmts; literals = taken })
made_of block stmts blocks taken behind r s t e =
    ap (made block) e ∙ ap (λ (ss : List Stmt). Some (record { block = ss; literals = blocks })) (sym s) ∙ ap (λ (l : List LiteralBlock). Some (record { block = stmts; literals = l })) (sym t)

-- The body

module _ (h : ℕ) (ts : List Terminal) where
  pub no_body : (statements h).block ts ≡ None → body h ts ≡ None
  unfolding body
  no_body e = ap (body_by h ts) e

  -- tokens behind the block
  pub more_tokens : (ss : List Stmt) (rest : List Terminal) → (statements h).block ts ≡ Some (ss, rest) → 0 < length rest → body h ts ≡ None
  unfolding body
  more_tokens ss [] e l = absurd (omega arith)
  more_tokens ss (t ∷ rest) e l = ap (body_by h ts) e

  pub whole_body : (ss : List Stmt) (rest : List Terminal) → (statements h).block ts ≡ Some (ss, rest) → length rest ≤ 0 → body h ts ≡ made ss (literals h (stmts_places ss (below h)) (progress ts []))
  unfolding body
  whole_body ss [] e l = ap (body_by h ts) e
  whole_body ss (t ∷ rest) e l = absurd (omega arith)

of_height : {tokens : List Token} {p : ParsedBody} → HasBody tokens p → IsBodyOf 256 (terminals tokens) p
of_height d = record { derives = d.parsed.derives; carries = d.parsed.carries; ordered = d.parsed.ordered }

has_body : (tokens : List Token) (p : ParsedBody) → rises 0 (terminals tokens) ≡ true → body 256 (terminals tokens) ≡ Some p → HasBody tokens p
has_body tokens p r e = let d = body_found 256 (terminals tokens) p r e in record { rising = r; parsed = record { derives = d.derives; carries = d.carries; ordered = d.ordered } }

none_some : {p : ParsedBody} → ◌≡◌ {A = Option ParsedBody} None (Some p) → ⊥
none_some e = cc

truth_lie : true ≡ false → ⊥
truth_lie e = cc

pub not_rising : (tokens : List Token) (p : ParsedBody) → rises 0 (terminals tokens) ≡ false → HasBody tokens p → ⊥
not_rising tokens p f d = truth_lie (sym d.rising ∙ f)

pub found : (tokens : List Token) (r : Result ParsedBody ParseError) → rises 0 (terminals tokens) ≡ true → FindsBody (body 256 (terminals tokens)) r → IfOk r (HasBody tokens)
found tokens (Ok p) rising e = has_body tokens p rising e
found tokens (Err e) rising f = tt

pub refused : (tokens : List Token) (r : Result ParsedBody ParseError) → FindsBody (body 256 (terminals tokens)) r → IsErrOf r Syntax → (p : ParsedBody) → HasBody tokens p → ⊥
refused tokens (Ok q) e s p d = absurd (cc)
refused tokens (Err NoMemory) e s p d = absurd (cc)
refused tokens (Err Syntax) e s p d = none_some (sym e ∙ body_reads 256 (terminals tokens) p d.rising (of_height d))

pub same_body : (tokens : List Token) (p q : ParsedBody) → HasBody tokens p → HasBody tokens q → p ≡ q
same_body tokens p q d e = one_body 256 (terminals tokens) p q d.rising (of_height d) (of_height e)
