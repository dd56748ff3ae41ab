-- The parsed body is found, where there is one; so there is at most one.
use Rattle.std.proofs.Common.{◌≡◌, ◌∙◌, ◌≤◌, ℕ, zero, suc, true, List, [], ◌∷◌, ◌++◌, map, Option, Some, sym, ap, subst, append-nil, arith}
use Rattle.go_base.specs.Lists.{Each}
use Rattle.go_bodies.specs.Braces.{from_brace, rises}
use Rattle.go_bodies.specs.Reading.{Opening, Progress, body, body_by, each_place, literals, made, opened, opened_at, opened_by, progress, with_opened, with_progress}
use Rattle.go_bodies.proofs.Blocks.{body_block, carried, carries_nothing, has_left, has_right, one_block, opened_block, skipped_starts}
use Rattle.go_bodies.proofs.RisingBraces.{ends_rise, found_at, later}
use Rattle.go_bodies.proofs.Orders.{Ascends, ascends_all, ascends_parts}
use Rattle.go_bodies.proofs.SoundBodies.{IsBodyOf}
use Rattle.go_bodies.proofs.Steps.{least_is, no_literals, regrouped}
use Rattle.go_cursor.specs.Reading.{Found}
use Rattle.go_descent.proofs.BalancedStatements.{literals_skipped}
use Rattle.go_function_literals.specs.Places.{below}
use Rattle.go_function_literals.specs.Sites.{Bodied, Collected, IsEnd, Site, Stands, place_of, range_of}
use Rattle.go_function_literals.specs.StatementPlaces.{stmts_places}
use Rattle.go_function_literals.proofs.BodyEnds.{parsed_end}
use Rattle.go_function_literals.proofs.Sites.{end_and, end_none, end_one, map_both, stand_within}
use Rattle.go_function_literals.proofs.StatementSites.{stmts_sites}
use Rattle.go_stmts.specs.go_stmt_descent.Statements.{statements}
use Rattle.go_stmts.proofs.go_stmt_descent_proofs.CompleteKinds.{statements_read}
use Rattle.go_stmts.proofs.go_stmt_descent_proofs.OtherBodies as others
use Rattle.go_syntax.specs.declared.statement.LiteralBlock.{LiteralBlock}
use Rattle.go_syntax.specs.declared.statement.ParsedBody.{ParsedBody}
use Rattle.go_syntax.specs.declared.statement.Stmt.{Stmt}
use Rattle.go_syntax.specs.declared.token.TokenKind.TheVariants as kind
use Rattle.go_syntax.specs.grammar.ParsedBodies.{Carries, HasBlock, IsBody, LiteralBodies, block_here, block_later, literal_block, start_of_block}
use Rattle.go_syntax.specs.grammar.SourceFiles.{Skips}
use Rattle.go_syntax.specs.grammar.Statements.{IsBlock, IsStmts}
use Rattle.go_syntax.specs.grammar.Terminals.{Extent, Sign, Terminal}
use Rattle.go_syntax.specs.Literals.{block_literals}

same_brace : (at other : Extent) (u v : List Terminal) → Sign kind.LeftBrace at ∷ u ≡ Sign kind.LeftBrace other ∷ v → at ≡ other
same_brace at other u v e = cc

-- a block that is derived with parsed bodies is found
block_read_as : (all : List LiteralBlock) (k : ℕ) (h : ℕ) (ts : List Terminal) (ss : List Stmt) (rest : List Terminal) → IsBlock (LiteralBodies all k) h ts ss rest → (statements h).block ts ≡ Some (ss, rest)
block_read_as all k h ts ss rest d = (statements_read h).block ts ss rest (others.block_of (λ n w b v s. literals_skipped all k n w b v s) d)

module _ (ts : List Terminal) (rising : rises 0 ts ≡ true) where
  -- each `{` whose offset is at least the bound is still ahead
  abbrev pub Sees : List Terminal → ℕ → Type 0
  Sees ahead bound = (at : Extent) (u : List Terminal) → IsEnd (Sign kind.LeftBrace at ∷ u) ts → bound ≤ at.0 → IsEnd (Sign kind.LeftBrace at ∷ u) ahead

  module _ (all : List LiteralBlock) (first last : ℕ) (ordered : Ascends first (map start_of_block all) last) where
    -- A literal whose block is at the head of the list

    record Literal (x : Site) (k : ℕ) (block : List Stmt) (ahead : List Terminal) : Type 0 where
      pub height : ℕ
      pub start_end : ℕ
      pub end_start : ℕ
      pub end : ℕ
      pub inside : List Terminal
      pub height_is : x.height ≡ suc height
      pub begins : x.begins ≡ Sign kind.LeftBrace (x.body.start, start_end) ∷ inside
      pub derives : IsStmts (LiteralBodies all k) height inside block (Sign kind.RightBrace (end_start, end) ∷ x.rest)
      pub found : from_brace x.body.start ahead ≡ Sign kind.LeftBrace (x.body.start, start_end) ∷ inside
      pub read : (statements x.height).block (Sign kind.LeftBrace (x.body.start, start_end) ∷ inside) ≡ Some (block, x.rest)

    one_literal : (k : ℕ) (x : Site) (block : List Stmt) (low : ℕ) (ahead : List Terminal) → Bodied (LiteralBodies all (suc k)) x → IsEnd x.begins ts → HasBlock all x.body.start block → low ≤ x.body.start → IsEnd ahead ts → Sees ahead low → Literal x k block ahead
    one_literal k x block low ahead holds within has bound ends sees =
        let same : holds.0 ≡ block = one_block all first last x.body.start holds.0 block ordered holds.1 has in
        let d : IsBlock (LiteralBodies all k) x.height x.begins block x.rest = body_block (subst (λ ss. IsBody (LiteralBodies all k) x.height x.begins x.body ss x.rest) same holds.2) in
        let o = opened_block d in
        let b = skipped_starts (literals_skipped all (suc k) x.height x.begins x.body x.rest holds) in
        let at_start : o.start ≡ x.body.start = ap (λ (e : Extent). e.0) (same_brace (o.start, o.start_end) b.at o.inside b.inside (sym o.begins ∙ b.begins)) ∙ b.start_is in
        let begins : x.begins ≡ Sign kind.LeftBrace (x.body.start, o.start_end) ∷ o.inside = o.begins ∙ ap (λ n. Sign kind.LeftBrace (n, o.start_end) ∷ o.inside) at_start in
        let here : IsEnd (Sign kind.LeftBrace (x.body.start, o.start_end) ∷ o.inside) ahead = sees (x.body.start, o.start_end) o.inside (subst (λ w. IsEnd w ts) begins within) bound in
        let r = ends_rise 0 ends rising in
        record {
          height = o.height;
          start_end = o.start_end;
          end_start = o.end_start;
          end = o.end;
          inside = o.inside;
          height_is = o.height_is;
          begins = begins;
          derives = o.derives;
          found = found_at (x.body.start, o.start_end) o.inside r.0 here r.1;
          read = subst (λ w. (statements x.height).block w ≡ Some (block, x.rest)) begins (block_read_as all k x.height x.begins block x.rest d);
        }

    opens : (m k : ℕ) (x : Site) (block : List Stmt) (ahead : List Terminal) (blocks : List LiteralBlock) → x.height ≤ m → (o : Literal x k block ahead)
        → opened m (place_of x) (progress ahead blocks) ≡ Some (stmts_places block o.height, progress o.inside (blocks ++ literal_block x.body.start block ∷ []))
    unfolding opened
    opens m k x block ahead blocks l o =
        let us : List Terminal = Sign kind.LeftBrace (x.body.start, o.start_end) ∷ o.inside in
        ap (λ h. opened_at h x.body.start blocks (from_brace x.body.start ahead)) (least_is x.height m l)
        ∙ ap (λ w. opened_at x.height x.body.start blocks w) o.found
        ∙ ap (λ (f : Found (List Stmt)). opened_by x.height x.body.start blocks us f) o.read
        ∙ ap (λ h. Some (stmts_places block (below h), progress o.inside (blocks ++ literal_block x.body.start block ∷ []))) o.height_is

    -- Literals one after another

    pub record Gone (n : ℕ) (sites : List Site) (ahead : List Terminal) (blocks added : List LiteralBlock) (high : ℕ) : Type 0 where
      pub behind : List Terminal
      pub reads : literals n (map place_of sites) (progress ahead blocks) ≡ Some (progress behind (blocks ++ added))
      pub ends : IsEnd behind ts
      pub sees : Sees behind high

    abbrev pub Goes : ℕ → Type 0
    Goes n = (sites : List Site) (k : ℕ) (added : List LiteralBlock) (low high : ℕ) (ahead : List Terminal) (blocks : List LiteralBlock) → Each (Stands (LiteralBodies all k) n ts) sites → Carries (map range_of sites) added
        → ((start : ℕ) (ss : List Stmt) → HasBlock added start ss → HasBlock all start ss) → Ascends low (map start_of_block added) high → IsEnd ahead ts → Sees ahead low → Gone n sites ahead blocks added high

    none_gone : (n : ℕ) (added : List LiteralBlock) (low high : ℕ) (ahead : List Terminal) (blocks : List LiteralBlock) → Carries [] added → Ascends low (map start_of_block added) high → IsEnd ahead ts → Sees ahead low → Gone n [] ahead blocks added high
    none_gone n added low high ahead blocks c a ends sees =
        let none : added ≡ [] = carries_nothing c in
        let bound : low ≤ high = subst (λ l. Ascends low (map start_of_block l) high) none a in
        record {
          behind = ahead;
          reads = no_literals n (progress ahead blocks) ∙ ap (λ l. Some (progress ahead l)) (sym (append-nil blocks) ∙ ap (λ l. blocks ++ l) (sym none));
          ends = ends;
          sees = λ at u e l. sees at u e (omega (arith, bound, l));
        }

    step : (m : ℕ) → Goes m → Goes (suc m)
    unfolding literals
    step m ih [] k added low high ahead blocks st c into a ends sees = none_gone (suc m) added low high ahead blocks c a ends sees
    step m ih (x ∷ xs) zero added low high ahead blocks st c into a ends sees = absurd st.0.holds
    step m ih (x ∷ xs) (suc k) added low high ahead blocks st c into a ends sees =
        let d = carried c in
        let head : LiteralBlock = literal_block x.body.start d.block in
        let ascends = subst (λ l. Ascends low (map start_of_block l) high) d.list_is a in
        let parts = ascends_parts (suc x.body.start) (map start_of_block d.inner) (map start_of_block d.others) high (subst (λ l. Ascends (suc x.body.start) l high) (map_both start_of_block d.inner d.others) ascends.1) in
        let within : (start : ℕ) (ss : List Stmt) → HasBlock (head ∷ (d.inner ++ d.others)) start ss → HasBlock all start ss = λ start ss h. into start ss (subst (λ l. HasBlock l start ss) (sym d.list_is) h) in
        let o = one_literal k x d.block low ahead st.0.holds st.0.within (within x.body.start d.block block_here) ascends.0 ends sees in
        let e : Collected (LiteralBodies all k) Skips o.height o.inside (Sign kind.RightBrace (o.end_start, o.end) ∷ x.rest) (stmts_places d.block o.height) (block_literals d.block) (IsStmts Skips o.height o.inside d.block (Sign kind.RightBrace (o.end_start, o.end) ∷ x.rest)) = stmts_sites (parsed_end all k) o.derives in
        let brace : IsEnd (Sign kind.LeftBrace (x.body.start, o.start_end) ∷ o.inside) ts = subst (λ w. IsEnd w ts) o.begins st.0.within in
        let inside : IsEnd o.inside ts = end_and brace (end_one (Sign kind.LeftBrace (x.body.start, o.start_end)) o.inside) in
        let inner : Progress = progress o.inside (blocks ++ head ∷ []) in
        let i = ih e.sites k d.inner (suc x.body.start) parts.middle o.inside (blocks ++ head ∷ [])
        (stand_within (LiteralBodies all k) o.height m o.inside ts e.sites inside (omega (arith, o.height_is, st.0.lower)) e.stand)
        (subst (λ w. Carries w d.inner) (sym e.ranged) d.within) (λ start ss h. within start ss (block_later (has_left d.others h))) parts.first inside
        (λ at u q b. later (x.body.start, o.start_end) at o.inside u 0 brace q rising (omega (arith, b))) in
        let j = step m ih xs (suc k) d.others parts.middle high i.behind ((blocks ++ head ∷ []) ++ d.inner) st.1 d.behind (λ start ss h. within start ss (block_later (has_right d.inner h))) parts.second i.ends i.sees in
        let others_read : Progress → Option Progress = each_place (λ p t. with_opened (opened m p t) (literals m)) (map place_of xs) in
        record {
          behind = j.behind;
          reads = ap (λ (q : Opening). with_progress (with_opened q (literals m)) others_read) (opens m k x d.block ahead blocks (omega (arith, st.0.lower)) o)
              ∙ ap (λ w. with_progress (literals m w inner) others_read) (sym e.placed)
              ∙ ap (λ (r : Option Progress). with_progress r others_read) i.reads
              ∙ j.reads
              ∙ ap (λ w. Some (progress j.behind w)) (regrouped blocks head d.inner d.others ∙ ap (λ w. blocks ++ w) (sym d.list_is));
          ends = j.ends;
          sees = j.sees;
        }

    nowhere : Goes zero
    nowhere [] k added low high ahead blocks st c into a ends sees = none_gone zero added low high ahead blocks c a ends sees
    nowhere (x ∷ xs) k added low high ahead blocks st c into a ends sees = absurd (omega (arith, st.0.lower))

    pub goes : (n : ℕ) → Goes n
    goes zero = nowhere
    goes (suc m) = step m (goes m)

-- The whole body

whole_is : (h : ℕ) (ts : List Terminal) (p : ParsedBody) (r : Option Progress) (behind : List Terminal) → r ≡ Some (progress behind p.literals) → made p.block r ≡ Some p
whole_is h ts p r behind e = ap (made p.block) e

pub body_reads : (h : ℕ) (ts : List Terminal) (p : ParsedBody) → rises 0 ts ≡ true → IsBodyOf h ts p → body h ts ≡ Some p
unfolding body
body_reads h ts p rising d =
    let n : ℕ = d.derives.0 in
    let b : IsBlock (LiteralBodies p.literals n) h ts p.block [] = d.derives.1 in
    let o = opened_block b in
    let a = ascends_all (map start_of_block p.literals) d.ordered in
    let e : Collected (LiteralBodies p.literals n) Skips o.height o.inside (Sign kind.RightBrace (o.end_start, o.end) ∷ []) (stmts_places p.block o.height) (block_literals p.block) (IsStmts Skips o.height o.inside p.block (Sign kind.RightBrace (o.end_start, o.end) ∷ [])) = stmts_sites (parsed_end p.literals n) o.derives in
    let inside : IsEnd o.inside ts = subst (λ w. IsEnd o.inside w) (sym o.begins) (end_one (Sign kind.LeftBrace (o.start, o.start_end)) o.inside) in
    let g = goes ts rising p.literals 0 a.0 a.1 h e.sites n p.literals 0 a.0 ts []
    (stand_within (LiteralBodies p.literals n) o.height h o.inside ts e.sites inside (omega (arith, o.height_is)) e.stand)
    (subst (λ w. Carries w p.literals) (sym e.ranged) d.carries) (λ start ss k. k) a.1 end_none (λ at u q l. q) in
    ap (body_by h ts) (block_read_as p.literals n h ts p.block [] b)
    ∙ whole_is h ts p (literals h (stmts_places p.block (below h)) (progress ts [])) g.behind (ap (λ w. literals h w (progress ts [])) (ap (λ k. stmts_places p.block (below k)) o.height_is ∙ sym e.placed) ∙ g.reads)

some_body : (p q : ParsedBody) → ◌≡◌ {A = Option ParsedBody} (Some p) (Some q) → p ≡ q
some_body p q e = cc

pub one_body : (h : ℕ) (ts : List Terminal) (p q : ParsedBody) → rises 0 ts ≡ true → IsBodyOf h ts p → IsBodyOf h ts q → p ≡ q
one_body h ts p q rising d e = some_body p q (sym (body_reads h ts p rising d) ∙ body_reads h ts q rising e)
