-- What the reader of a body finds is its parsed body.
use Rattle.std.proofs.Common.{◌≡◌, ◌∙◌, ◌≤◌, ℕ, zero, suc, true, List, [], ◌∷◌, ◌++◌, map, drop, Some, sym, ap, subst, append-nil, nat_cmp, arith}
use Rattle.std.specs.List.Sorted.{IsStrictlySortedBy}
use Rattle.go_base.specs.Lists.{Each}
use Rattle.go_bodies.specs.Braces.{from_brace, rises}
use Rattle.go_bodies.specs.Reading.{Progress, body, each_place, least, literals, opened, progress, with_opened}
use Rattle.go_bodies.proofs.Blocks.{Opened, Starts, has_left, has_right, opened_block, skipped_starts}
use Rattle.go_bodies.proofs.RisingBraces.{found_at, from_end, reached}
use Rattle.go_bodies.proofs.Orders.{Ascends, ascends_both, in_order}
use Rattle.go_bodies.proofs.Steps.{BlockRead, block_read, body_read, least_is, no_literals, opening_found, progress_found, regrouped, some_progress}
use Rattle.go_cursor.specs.Reading.{Found}
use Rattle.go_cursor.proofs.Runs.{complete_skipped}
use Rattle.go_descent.proofs.BalancedStatements.{stmts_run}
use Rattle.go_descent.proofs.Bodies.{skips_balance}
use Rattle.go_function_literals.specs.declared.place.LiteralPlace.{LiteralPlace}
use Rattle.go_function_literals.specs.Places.{below}
use Rattle.go_function_literals.specs.Sites.{Bodied, Collected, IsEnd, Site, Stands, place_of, range_of}
use Rattle.go_function_literals.specs.StatementPlaces.{stmts_places}
use Rattle.go_function_literals.proofs.BodyEnds.{skipped_end}
use Rattle.go_function_literals.proofs.Sites.{end_and, end_none, end_one, map_both, stand_within}
use Rattle.go_function_literals.proofs.StatementSites.{stmts_sites}
use Rattle.go_stmts.specs.go_stmt_descent.Statements.{statements}
use Rattle.go_stmts.proofs.go_stmt_descent_proofs.SoundStatements.{statements_found}
use Rattle.go_syntax.specs.declared.body.BodyRange.{BodyRange}
use Rattle.go_syntax.specs.declared.statement.LiteralBlock.{LiteralBlock}
use Rattle.go_syntax.specs.declared.statement.ParsedBody.{ParsedBody}
use Rattle.go_syntax.specs.declared.statement.Stmt.{Stmt}
use Rattle.go_syntax.specs.declared.token.TokenKind.TheVariants as kind
use Rattle.go_syntax.specs.grammar.Brackets.{IsSkipped, body_range, skipped}
use Rattle.go_syntax.specs.grammar.ParsedBodies.{Carries, HasBlock, IsBody, LiteralBodies, block_here, block_later, body_of, carries_more, carries_none, literal_block, start_of_block}
use Rattle.go_syntax.specs.grammar.SourceFiles.{Skips}
use Rattle.go_syntax.specs.grammar.Statements.{IsBlock, IsStmts, block_of}
use Rattle.go_syntax.specs.grammar.Symbols.{takes}
use Rattle.go_syntax.specs.grammar.Terminals.{Extent, Sign, Terminal}
use Rattle.go_syntax.specs.Literals.{block_literals}

some_skip : (p q : BodyRange × List Terminal) → ◌≡◌ {A = Found BodyRange} (Some p) (Some q) → p ≡ q
some_skip p q e = cc

-- at most one range is skipped
same_skip : (us : List Terminal) (b c : BodyRange) (u v : List Terminal) → IsSkipped us b u → IsSkipped us c v → (b ≡ c) × (u ≡ v)
same_skip us b c u v d e = let p = some_skip (b, u) (c, v) (sym (complete_skipped d) ∙ complete_skipped e) in (ap (λ (x : BodyRange × List Terminal). x.0) p, ap (λ (x : BodyRange × List Terminal). x.1) p)

-- The block of one literal, which stands at its site

record Literal (x : Site) (s : Progress) (q : List LiteralPlace × Progress) (low : ℕ) : Type 0 where
  pub height : ℕ
  pub start_end : ℕ
  pub end_start : ℕ
  pub end : ℕ
  pub inside : List Terminal
  pub block : List Stmt
  pub height_is : x.height ≡ suc height
  pub begins : x.begins ≡ Sign kind.LeftBrace (x.body.start, start_end) ∷ inside
  pub range_is : x.body ≡ body_range x.body.start end
  pub derives : IsStmts Skips height inside block (Sign kind.RightBrace (end_start, end) ∷ x.rest)
  pub given : q ≡ (stmts_places block height, progress inside (s.blocks ++ literal_block x.body.start block ∷ []))
  pub bound : low ≤ x.body.start
  pub rises_on : rises (suc x.body.start) inside ≡ true

as_body : {x : Site} {s : Progress} {q : List LiteralPlace × Progress} {low : ℕ} (all : List LiteralBlock) (m : ℕ) (o : Literal x s q low) → IsStmts (LiteralBodies all m) o.height o.inside o.block (Sign kind.RightBrace (o.end_start, o.end) ∷ x.rest)
    → IsBody (LiteralBodies all m) x.height x.begins x.body o.block x.rest
as_body {x = x} all m o d =
    let at_braces : IsBody (LiteralBodies all m) (suc o.height) (Sign kind.LeftBrace (x.body.start, o.start_end) ∷ o.inside) (body_range x.body.start o.end) o.block x.rest = body_of x.body.start o.start_end o.end_start o.end d in
    let in_range : IsBody (LiteralBodies all m) (suc o.height) (Sign kind.LeftBrace (x.body.start, o.start_end) ∷ o.inside) x.body o.block x.rest = subst (λ b. IsBody (LiteralBodies all m) (suc o.height) (Sign kind.LeftBrace (x.body.start, o.start_end) ∷ o.inside) b o.block x.rest) (sym o.range_is) at_braces in
    let at_site : IsBody (LiteralBodies all m) (suc o.height) x.begins x.body o.block x.rest = subst (λ w. IsBody (LiteralBodies all m) (suc o.height) w x.body o.block x.rest) (sym o.begins) in_range in
    subst (λ h. IsBody (LiteralBodies all m) h x.begins x.body o.block x.rest) (sym o.height_is) at_site

-- two `{`s that are found by one offset are the same
same_brace : (ts a u : List Terminal) (at other : Extent) (start : ℕ) → from_brace at.0 ts ≡ Sign kind.LeftBrace at ∷ a → from_brace other.0 ts ≡ Sign kind.LeftBrace other ∷ u → at.0 ≡ start → other.0 ≡ start → Sign kind.LeftBrace at ∷ a ≡ Sign kind.LeftBrace other ∷ u
same_brace ts a u at other start e f p q = sym e ∙ ap (λ n. from_brace n ts) (p ∙ sym q) ∙ f

-- what was read, as it is given
given_by : (q : List LiteralPlace × Progress) (block : List Stmt) (blocks : List LiteralBlock) (h height : ℕ) (us inside : List Terminal) (t : Terminal) → q ≡ (stmts_places block (below h), progress (drop 1 us) blocks) → h ≡ suc height → us ≡ t ∷ inside
    → q ≡ (stmts_places block height, progress inside blocks)
given_by q block blocks h height us inside t e f g = e ∙ ap (λ n. (stmts_places block (below n), progress (drop 1 us) blocks)) f ∙ ap (λ w. (stmts_places block height, progress (drop 1 w) blocks)) g

module _ (ts : List Terminal) (rising : rises 0 ts ≡ true) where
  literal_by : (m low : ℕ) (x : Site) (s : Progress) (q : List LiteralPlace × Progress) → IsEnd s.ahead ts → rises low s.ahead ≡ true → Stands Skips (suc m) ts x → Starts x.begins x.body → least x.height m ≡ x.height
      → (f : BlockRead (least x.height m) x.body.start s.blocks (from_brace x.body.start s.ahead) ((statements (least x.height m)).block (from_brace x.body.start s.ahead)) q) → Opened Skips x.height (from_brace x.body.start s.ahead) f.block f.rest → Literal x s q low
  literal_by m low x s q a r k b height_at f o =
      let us : List Terminal = from_brace x.body.start s.ahead in
      let g = reached s.ahead low x.body.start (o.start, o.start_end) o.inside r o.begins in
      let mine = found_at (o.start, o.start_end) o.inside 0 (subst (λ w. IsEnd w ts) o.begins (end_and a (from_end x.body.start s.ahead))) rising in
      let its = found_at b.at b.inside 0 (subst (λ w. IsEnd w ts) b.begins k.within) rising in
      let same : x.begins ≡ Sign kind.LeftBrace (o.start, o.start_end) ∷ o.inside = b.begins ∙ same_brace ts b.inside o.inside b.at (o.start, o.start_end) x.body.start its mine b.start_is g.start_is in
      let ranges = same_skip (Sign kind.LeftBrace (o.start, o.start_end) ∷ o.inside) x.body (body_range o.start o.end) x.rest f.rest (subst (λ w. IsSkipped w x.body x.rest) same k.holds) (skipped o.start o.start_end o.end_start o.end (stmts_run skips_balance o.derives)) in
      record {
        height = o.height;
        start_end = o.start_end;
        end_start = o.end_start;
        end = o.end;
        inside = o.inside;
        block = f.block;
        height_is = o.height_is;
        begins = same ∙ ap (λ n. Sign kind.LeftBrace (n, o.start_end) ∷ o.inside) g.start_is;
        range_is = ranges.0 ∙ ap (λ n. body_range n o.end) g.start_is;
        derives = subst (λ w. IsStmts Skips o.height o.inside f.block (Sign kind.RightBrace (o.end_start, o.end) ∷ w)) (sym ranges.1) o.derives;
        given = given_by q f.block (s.blocks ++ literal_block x.body.start f.block ∷ []) (least x.height m) o.height us o.inside (Sign kind.LeftBrace (o.start, o.start_end)) f.given (height_at ∙ o.height_is) o.begins;
        bound = g.bound;
        rises_on = g.rises_on;
      }

  one_literal : (m low : ℕ) (x : Site) (s : Progress) (q : List LiteralPlace × Progress) → opened m (place_of x) s ≡ Some q → Stands Skips (suc m) ts x → IsEnd s.ahead ts → rises low s.ahead ≡ true → Literal x s q low
  unfolding opened
  one_literal m low x s q e k a r =
      let us : List Terminal = from_brace x.body.start s.ahead in
      let height_at : least x.height m ≡ x.height = least_is x.height m (omega (arith, k.lower)) in
      let f = block_read (least x.height m) x.body.start s.blocks us ((statements (least x.height m)).block us) q e in
      let d : IsBlock Skips x.height us f.block f.rest = subst (λ h. IsBlock Skips h us f.block f.rest) height_at ((statements_found (least x.height m)).block us f.block f.rest f.is) in
      literal_by m low x s q a r k (skipped_starts k.holds) height_at f (opened_block d)

  -- The blocks of literals, which stand at these sites

  module _ (all : List LiteralBlock) where
    pub record Added (n : ℕ) (sites : List Site) (s end : Progress) (low : ℕ) : Type 0 where
      pub added : List LiteralBlock
      pub appended : end.blocks ≡ s.blocks ++ added
      pub carries : Carries (map range_of sites) added
      pub parsed : ((start : ℕ) (ss : List Stmt) → HasBlock added start ss → HasBlock all start ss) → Each (Bodied (LiteralBodies all n)) sites
      pub ends : IsEnd end.ahead ts
      pub high : ℕ
      pub ascends : Ascends low (map start_of_block added) high
      pub rises_on : rises high end.ahead ≡ true

    abbrev pub Adds : ℕ → Type 0
    Adds n = (sites : List Site) (s end : Progress) (low : ℕ) → literals n (map place_of sites) s ≡ Some end → Each (Stands Skips n ts) sites → IsEnd s.ahead ts → rises low s.ahead ≡ true → Added n sites s end low

    none_added : (n : ℕ) (s end : Progress) (low : ℕ) → literals n [] s ≡ Some end → IsEnd s.ahead ts → rises low s.ahead ≡ true → Added n [] s end low
    none_added n s end low e k r = subst (λ (t : Progress). Added n [] s t low) (some_progress (sym (no_literals n s) ∙ e))
        (record { added = []; appended = sym (append-nil s.blocks); carries = carries_none; parsed = λ into. tt; ends = k; high = low; ascends = omega arith; rises_on = r })

    -- the block of a literal, those of the literals in it, and those of the literals behind it
    one_more : (m low : ℕ) (x : Site) (xs : List Site) (s middle end : Progress) (q : List LiteralPlace × Progress) (o : Literal x s q low) (sites : List Site) → map range_of sites ≡ block_literals o.block
        → (Each (Bodied (LiteralBodies all m)) sites → IsStmts (LiteralBodies all m) o.height o.inside o.block (Sign kind.RightBrace (o.end_start, o.end) ∷ x.rest))
        → (i : Added m sites (progress o.inside (s.blocks ++ literal_block x.body.start o.block ∷ [])) middle (suc x.body.start)) → Added (suc m) xs middle end i.high → Added (suc m) (x ∷ xs) s end low
    one_more m low x xs s middle end q o sites ranged derives i j =
        let first : LiteralBlock = literal_block x.body.start o.block in
        record {
          added = first ∷ (i.added ++ j.added);
          appended = j.appended ∙ ap (λ l. l ++ j.added) i.appended ∙ regrouped s.blocks first i.added j.added;
          carries = carries_more {b = x.body} {bs = map range_of xs} {ss = o.block} {inner = i.added} {others = j.added} (subst (λ l. Carries l i.added) ranged i.carries) j.carries;
          parsed = λ into. (
            (o.block, into x.body.start o.block block_here, as_body all m o (derives (i.parsed (λ n ss h. into n ss (block_later (has_left j.added h)))))),
            j.parsed (λ n ss h. into n ss (block_later (has_right i.added h))),
          );
          ends = j.ends;
          high = j.high;
          ascends = (o.bound, subst (λ l. Ascends (suc x.body.start) l j.high) (sym (map_both start_of_block i.added j.added)) (ascends_both (suc x.body.start) (map start_of_block i.added) (map start_of_block j.added) i.high j.high i.ascends j.ascends));
          rises_on = j.rises_on;
        }

    step : (m : ℕ) → Adds m → Adds (suc m)
    unfolding literals
    step m ih [] s end low e st k r = none_added (suc m) s end low e k r
    step m ih (x ∷ xs) s end low e st k r =
        let a = progress_found (with_opened (opened m (place_of x) s) (literals m)) (each_place (λ p t. with_opened (opened m p t) (literals m)) (map place_of xs)) end e in
        let b = opening_found (opened m (place_of x) s) (literals m) a.0 a.1 in
        let o = one_literal m low x s b.0 b.1 st.0 k r in
        let first : LiteralBlock = literal_block x.body.start o.block in
        let inner : Progress = progress o.inside (s.blocks ++ first ∷ []) in
        let c : Collected Skips (LiteralBodies all m) o.height o.inside (Sign kind.RightBrace (o.end_start, o.end) ∷ x.rest) (stmts_places o.block o.height) (block_literals o.block) (IsStmts (LiteralBodies all m) o.height o.inside o.block (Sign kind.RightBrace (o.end_start, o.end) ∷ x.rest)) = stmts_sites skipped_end o.derives in
        let inside : IsEnd o.inside ts = end_and (subst (λ w. IsEnd w ts) o.begins st.0.within) (end_one (Sign kind.LeftBrace (x.body.start, o.start_end)) o.inside) in
        let i = ih c.sites inner a.0 (suc x.body.start) (ap (λ l. literals m l inner) c.placed ∙ ap (λ (q : List LiteralPlace × Progress). literals m q.0 q.1) (sym o.given) ∙ b.2)
        (stand_within Skips o.height m o.inside ts c.sites inside (omega (arith, o.height_is, st.0.lower)) c.stand) inside o.rises_on in
        let j = step m ih xs a.0 end i.high a.2 st.1 i.ends i.rises_on in
        one_more m low x xs s a.0 end b.0 o c.sites c.ranged c.derives i j

    nowhere : Adds zero
    nowhere [] s end low e st k r = none_added zero s end low e k r
    nowhere (x ∷ xs) s end low e st k r = absurd (omega (arith, st.0.lower))

    pub blocks_added : (n : ℕ) → Adds n
    blocks_added zero = nowhere
    blocks_added (suc m) = step m (blocks_added m)

-- The whole body

-- these terminals are this body, of at most this height
pub record IsBodyOf (h : ℕ) (ts : List Terminal) (p : ParsedBody) : Type 0 where
  pub derives : (n : ℕ) × IsBlock (LiteralBodies p.literals n) h ts p.block []
  pub carries : Carries (block_literals p.block) p.literals
  pub ordered : IsStrictlySortedBy nat_cmp (map start_of_block p.literals)

pub body_found : (h : ℕ) (ts : List Terminal) (p : ParsedBody) → rises 0 ts ≡ true → body h ts ≡ Some p → IsBodyOf h ts p
unfolding body
body_found h ts p rising e =
    let f = body_read h ts ((statements h).block ts) p e in
    let all : List LiteralBlock = f.end.blocks in
    let o = opened_block ((statements_found h).block ts f.block [] f.is) in
    let c : Collected Skips (LiteralBodies all h) o.height o.inside (Sign kind.RightBrace (o.end_start, o.end) ∷ []) (stmts_places f.block o.height) (block_literals f.block) (IsStmts (LiteralBodies all h) o.height o.inside f.block (Sign kind.RightBrace (o.end_start, o.end) ∷ [])) = stmts_sites skipped_end o.derives in
    let inside : IsEnd o.inside ts = subst (λ w. IsEnd o.inside w) (sym o.begins) (end_one (Sign kind.LeftBrace (o.start, o.start_end)) o.inside) in
    let a = blocks_added ts rising all h c.sites (progress ts []) f.end 0 (ap (λ l. literals h l (progress ts [])) (c.placed ∙ ap (λ n. stmts_places f.block (below n)) (sym o.height_is)) ∙ f.read)
    (stand_within Skips o.height h o.inside ts c.sites inside (omega (arith, o.height_is)) c.stand) end_none rising in
    let d : IsStmts (LiteralBodies all h) o.height o.inside f.block (Sign kind.RightBrace (o.end_start, o.end) ∷ []) = c.derives (a.parsed (λ n ss k. subst (λ l. HasBlock l n ss) (sym a.appended) k)) in
    let at_brace : IsBlock (LiteralBodies all h) (suc o.height) (Sign kind.LeftBrace (o.start, o.start_end) ∷ o.inside) f.block [] = block_of (takes (o.start, o.start_end)) d (takes (o.end_start, o.end)) in
    let whole : IsBlock (LiteralBodies all h) h ts f.block [] = subst (λ n. IsBlock (LiteralBodies all h) n ts f.block []) (sym o.height_is) (subst (λ w. IsBlock (LiteralBodies all h) (suc o.height) w f.block []) (sym o.begins) at_brace) in
    subst (IsBodyOf h ts) (sym f.given) (record {
      derives = (h, whole);
      carries = subst (Carries (block_literals f.block)) (sym a.appended) (subst (λ l. Carries l a.added) c.ranged a.carries);
      ordered = subst (λ (l : List LiteralBlock). IsStrictlySortedBy nat_cmp (map start_of_block l)) (sym a.appended) (in_order 0 (map start_of_block a.added) a.high a.ascends);
    })
