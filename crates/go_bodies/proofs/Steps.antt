-- What the steps of a reading of blocks found, and what they find.
use Rattle.std.proofs.Common.{◌≡◌, ◌≤◌, ℕ, zero, suc, if◌then◌else◌, List, [], ◌∷◌, ◌++◌, drop, Option, Some, None, refl, sym, ap, append_assoc, ◌∙◌}
use Rattle.go_bodies.specs.Reading.{Opening, Progress, body_by, least, literals, made, opened_by, progress, whole, with_opened, with_progress}
use Rattle.go_bodies.proofs.Numbers.{at_most}
use Rattle.go_cursor.specs.Reading.{Found}
use Rattle.go_function_literals.specs.declared.place.LiteralPlace.{LiteralPlace}
use Rattle.go_function_literals.specs.Places.{below}
use Rattle.go_function_literals.specs.StatementPlaces.{stmts_places}
use Rattle.go_syntax.specs.declared.statement.LiteralBlock.{LiteralBlock}
use Rattle.go_syntax.specs.declared.statement.ParsedBody.{ParsedBody}
use Rattle.go_syntax.specs.declared.statement.Stmt.{Stmt}
use Rattle.go_syntax.specs.grammar.ParsedBodies.{literal_block}
use Rattle.go_syntax.specs.grammar.Terminals.{Terminal}

pub some_progress : {s t : Progress} → ◌≡◌ {A = Option Progress} (Some s) (Some t) → s ≡ t
some_progress e = cc

some_opening : {p q : List LiteralPlace × Progress} → ◌≡◌ {A = Opening} (Some p) (Some q) → p ≡ q
some_opening e = cc

some_body : {p q : ParsedBody} → ◌≡◌ {A = Option ParsedBody} (Some p) (Some q) → p ≡ q
some_body e = cc

pub progress_found : (r : Option Progress) (go : Progress → Option Progress) (s : Progress) → with_progress r go ≡ Some s → (t : Progress) × (r ≡ Some t) × (go t ≡ Some s)
progress_found None go s e = absurd (cc)
progress_found (Some t) go s e = (t, refl, e)

pub opening_found : (o : Opening) (go : List LiteralPlace → Progress → Option Progress) (s : Progress) → with_opened o go ≡ Some s → (q : List LiteralPlace × Progress) × (o ≡ Some q) × (go q.0 q.1 ≡ Some s)
opening_found None go s e = absurd (cc)
opening_found (Some q) go s e = (q, refl, e)

-- a block that was read for a literal
pub record BlockRead (height start : ℕ) (blocks : List LiteralBlock) (us : List Terminal) (f : Found (List Stmt)) (q : List LiteralPlace × Progress) : Type 0 where
  pub block : List Stmt
  pub rest : List Terminal
  pub is : f ≡ Some (block, rest)
  pub given : q ≡ (stmts_places block (below height), progress (drop 1 us) (blocks ++ literal_block start block ∷ []))

pub block_read : (height start : ℕ) (blocks : List LiteralBlock) (us : List Terminal) (f : Found (List Stmt)) (q : List LiteralPlace × Progress) → opened_by height start blocks us f ≡ Some q → BlockRead height start blocks us f q
block_read height start blocks us None q e = absurd (cc)
block_read height start blocks us (Some p) q e = record { block = p.0; rest = p.1; is = refl; given = sym (some_opening e) }

pub least_is : (m n : ℕ) → m ≤ n → least m n ≡ m
least_is m n l = ap (λ b. if b then m else n) (at_most m n l)

pub no_literals : (n : ℕ) (s : Progress) → literals n [] s ≡ Some s
unfolding literals
no_literals zero s = refl
no_literals (suc n) s = refl

-- blocks of one literal, of those in it, and of those behind it
pub regrouped : (blocks : List LiteralBlock) (b : LiteralBlock) (inner others : List LiteralBlock) → ((blocks ++ b ∷ []) ++ inner) ++ others ≡ blocks ++ b ∷ (inner ++ others)
regrouped blocks b inner others = append_assoc (blocks ++ b ∷ []) inner others ∙ append_assoc blocks (b ∷ []) (inner ++ others)

-- The whole body

pub record BodyRead (h : ℕ) (ts : List Terminal) (f : Found (List Stmt)) (p : ParsedBody) : Type 0 where
  pub block : List Stmt
  pub end : Progress
  pub is : f ≡ Some (block, [])
  pub read : literals h (stmts_places block (below h)) (progress ts []) ≡ Some end
  pub given : p ≡ record { block = block; literals = end.blocks }

made_read : (h : ℕ) (ts : List Terminal) (ss : List Stmt) (p : ParsedBody) (r : Option Progress) → literals h (stmts_places ss (below h)) (progress ts []) ≡ r → made ss r ≡ Some p → BodyRead h ts (Some (ss, [])) p
made_read h ts ss p None q e = absurd (cc)
made_read h ts ss p (Some s) q e = record { block = ss; end = s; is = refl; read = q; given = sym (some_body e) }

whole_read : (h : ℕ) (ts : List Terminal) (ss : List Stmt) (rest : List Terminal) (p : ParsedBody) → whole h ts ss rest ≡ Some p → BodyRead h ts (Some (ss, rest)) p
whole_read h ts ss [] p e = made_read h ts ss p (literals h (stmts_places ss (below h)) (progress ts [])) refl e
whole_read h ts ss (t ∷ rest) p e = absurd (cc)

pub body_read : (h : ℕ) (ts : List Terminal) (f : Found (List Stmt)) (p : ParsedBody) → body_by h ts f ≡ Some p → BodyRead h ts f p
body_read h ts None p e = absurd (cc)
body_read h ts (Some q) p e = whole_read h ts q.0 q.1 p e
