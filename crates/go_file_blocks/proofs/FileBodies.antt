-- The bodies of a file that stand in no other: where each one is found, and what the reader of their blocks finds.
use Rattle.std.proofs.Common.{◌≡◌, ◌∙◌, ◌<◌, ℕ, suc, Bool, true, false, if◌then◌else◌, nat_cmp, List, [], ◌∷◌, map, drop, Option, None, Some, refl, sym, ap, subst, arith}
use Rattle.std.specs.List.Sorted.{IsStrictlySortedBy}
use Rattle.go_base.specs.Lists.{Each}
use Rattle.go_bodies.specs.Braces.{from_brace, rises}
use Rattle.go_file_blocks.specs.FileBlocks.{HaveBlocks}
use Rattle.go_bodies.specs.Reading.{Progress, literals, progress}
use Rattle.go_file_blocks.specs.FileReading.{all_stand, blocks_of, is_range}
use Rattle.go_bodies.proofs.Blocks.{carried, skipped_starts}
use Rattle.go_bodies.proofs.RisingBraces.{ends_rise, found_at, from_end, later, reached}
use Rattle.go_bodies.proofs.CompleteBodies.{Sees, goes}
use Rattle.go_bodies.proofs.Numbers.{equal, itself}
use Rattle.go_bodies.proofs.Orders.{Ascends, ascends_all, ascends_parts, bounds, in_order}
use Rattle.go_bodies.proofs.SoundBodies.{blocks_added}
use Rattle.go_cursor.specs.Reading.{Found}
use Rattle.go_cursor.specs.Skipping.{skipped_body}
use Rattle.go_cursor.proofs.Runs.{complete_skipped, sound_skipped}
use Rattle.go_cursor.proofs.Steps.{branch}
use Rattle.go_descent.proofs.BalancedStatements.{literals_skipped}
use Rattle.go_function_literals.specs.declared.place.LiteralPlace.{LiteralPlace}
use Rattle.go_function_literals.specs.Sites.{Bodied, IsEnd, Site, Stands, place_of, range_of}
use Rattle.go_function_literals.proofs.Sites.{end_and, end_none, end_one, map_both}
use Rattle.go_syntax.specs.declared.body.BodyRange.{BodyRange}
use Rattle.go_syntax.specs.declared.statement.LiteralBlock.{LiteralBlock}
use Rattle.go_syntax.specs.declared.token.TokenKind.TheVariants as kind
use Rattle.go_syntax.specs.grammar.Brackets.{IsSkipped, body_range}
use Rattle.go_syntax.specs.grammar.ParsedBodies.{Carries, HasBlock, LiteralBodies, start_of_block}
use Rattle.go_syntax.specs.grammar.SourceFiles.{Skips}
use Rattle.go_syntax.specs.grammar.Symbols.{Rule}
use Rattle.go_syntax.specs.grammar.Terminals.{Sign, Terminal}

-- A body that was found

ranged_by : (f : Found BodyRange) (b : BodyRange) → is_range f b ≡ true → (c : BodyRange) × (rest : List Terminal) × (f ≡ Some (c, rest)) × (c.end ≡ b.end)
ranged_by None b e = absurd (cc)
ranged_by (Some p) b e = (p.0, p.1, refl, equal p.0.end b.end e)

same_range : (c b : BodyRange) → c.start ≡ b.start → c.end ≡ b.end → c ≡ b
same_range c b s e = ap (λ n. body_range n c.end) s ∙ ap (λ n. body_range b.start n) e

-- bodies of the terminals whose places are these
pub record Sited (n : ℕ) (ts : List Terminal) (places : List LiteralPlace) : Type 0 where
  pub sites : List Site
  pub are : map place_of sites ≡ places
  pub stand : Each (Stands Skips n ts) sites

-- each of them is of a lower height
abbrev pub AreBelow : ℕ → List LiteralPlace → Type 0
AreBelow n [] = Unit {0}
AreBelow n (p ∷ ps) = (p.height < n) × AreBelow n ps

module _ (n : ℕ) (ts : List Terminal) where
  sited : (places : List LiteralPlace) (ahead : List Terminal) (low : ℕ) → AreBelow n places → all_stand ahead places ≡ true → IsEnd ahead ts → rises low ahead ≡ true → Sited n ts places
  unfolding all_stand
  sited [] ahead low l e k r = record { sites = []; are = refl; stand = tt }
  sited (p ∷ ps) ahead low l e k r = branch (is_range (skipped_body (from_brace p.body.start ahead)) p.body) e (λ q more.
      let us : List Terminal = from_brace p.body.start ahead in
      let f = ranged_by (skipped_body us) p.body q in
      let d : IsSkipped us f.0 f.1 = sound_skipped us f.0 f.1 f.2 in
      let b = skipped_starts d in
      let g = reached ahead low p.body.start b.at b.inside r b.begins in
      let range : f.0 ≡ p.body = same_range f.0 p.body (sym b.start_is ∙ g.start_is) f.3 in
      let end : IsEnd us ts = end_and k (from_end p.body.start ahead) in
      let behind : IsEnd (drop 1 us) ts = subst (λ w. IsEnd (drop 1 w) ts) (sym b.begins) (end_and (subst (λ w. IsEnd w ts) b.begins end) (end_one (Sign kind.LeftBrace b.at) b.inside)) in
      let rest : rises (suc p.body.start) (drop 1 us) ≡ true = subst (λ w. rises (suc p.body.start) (drop 1 w) ≡ true) (sym b.begins) g.rises_on in
      let others = sited ps (drop 1 us) (suc p.body.start) l.1 more behind rest in
      record {
        sites = record { height = p.height; begins = us; body = p.body; rest = f.1 } ∷ others.sites;
        are = ap (λ w. p ∷ w) others.are;
        stand = (record { holds = subst (λ c. IsSkipped us c f.1) range d; within = end; lower = l.0 }, others.stand);
      }) (λ q more. absurd (cc))

-- What is read of a file has its blocks

chosen : (b : Bool) (r : Option Progress) (s : Progress) → if◌then◌else◌ {A = Option Progress} b r None ≡ Some s → (b ≡ true) × (r ≡ Some s)
chosen true r s e = (refl, e)
chosen false r s e = absurd (cc)

stands_with : (Body : ℕ → Rule BodyRange) (n : ℕ) (ts : List Terminal) (sites : List Site) → Each (Stands Skips n ts) sites → Each (Bodied Body) sites → Each (Stands Body n ts) sites
stands_with Body n ts [] h k = tt
stands_with Body n ts (x ∷ xs) h k = (record { holds = k.0; within = h.0.within; lower = h.0.lower }, stands_with Body n ts xs h.1 k.1)

pub file_found : (n : ℕ) (places : List LiteralPlace) (ts : List Terminal) (s : Progress) → AreBelow n places → rises 0 ts ≡ true → blocks_of n places ts ≡ Some s → HaveBlocks n ts places s.blocks
unfolding blocks_of
file_found n places ts s low rising e =
    let c = chosen (all_stand ts places) (literals n places (progress ts [])) s e in
    let d = sited n ts places ts 0 low c.0 end_none rising in
    let a = blocks_added ts rising s.blocks n d.sites (progress ts []) s 0 (ap (λ l. literals n l (progress ts [])) d.are ∙ c.1) d.stand end_none rising in
    record {
      depth = n;
      sites = d.sites;
      are = d.are;
      stand = stands_with (LiteralBodies s.blocks n) n ts d.sites d.stand (a.parsed (λ m ss h. subst (λ l. HasBlock l m ss) (sym a.appended) h));
      carries = subst (Carries (map range_of d.sites)) (sym a.appended) a.carries;
      ordered = subst (λ (l : List LiteralBlock). IsStrictlySortedBy nat_cmp (map start_of_block l)) (sym a.appended) (in_order 0 (map start_of_block a.added) a.high a.ascends);
    }

-- and where it has blocks, they are read

module _ (ts : List Terminal) (rising : rises 0 ts ≡ true) where
  all_found : (n : ℕ) (all : List LiteralBlock) (depth : ℕ) (sites : List Site) (added : List LiteralBlock) (low high : ℕ) (ahead : List Terminal) → Each (Stands (LiteralBodies all depth) n ts) sites → Carries (map range_of sites) added
      → Ascends low (map start_of_block added) high → IsEnd ahead ts → Sees ts rising ahead low → all_stand ahead (map place_of sites) ≡ true
  unfolding all_stand
  all_found n all depth [] added low high ahead st c a ends sees = refl
  all_found n all depth (x ∷ xs) added low high ahead st c a ends sees =
      let d = carried c in
      let ascends = subst (λ l. Ascends low (map start_of_block l) high) d.list_is a in
      let parts = ascends_parts (suc x.body.start) (map start_of_block d.inner) (map start_of_block d.others) high (subst (λ l. Ascends (suc x.body.start) l high) (map_both start_of_block d.inner d.others) ascends.1) in
      let s : IsSkipped x.begins x.body x.rest = literals_skipped all depth x.height x.begins x.body x.rest st.0.holds in
      let b = skipped_starts s in
      let brace : IsEnd (Sign kind.LeftBrace b.at ∷ b.inside) ts = subst (λ w. IsEnd w ts) b.begins st.0.within in
      let here : IsEnd (Sign kind.LeftBrace b.at ∷ b.inside) ahead = sees b.at b.inside brace (omega (arith, ascends.0, b.start_is)) in
      let r = ends_rise 0 ends rising in
      let found : from_brace x.body.start ahead ≡ x.begins = ap (λ m. from_brace m ahead) (sym b.start_is) ∙ found_at b.at b.inside r.0 here r.1 ∙ sym b.begins in
      let ranged : is_range (skipped_body (from_brace x.body.start ahead)) x.body ≡ true = ap (λ w. is_range (skipped_body w) x.body) found ∙ ap (λ (f : Found BodyRange). is_range f x.body) (complete_skipped s) ∙ itself x.body.end in
      let inside : IsEnd b.inside ts = end_and brace (end_one (Sign kind.LeftBrace b.at) b.inside) in
      let behind : drop 1 (from_brace x.body.start ahead) ≡ b.inside = ap (drop 1) (found ∙ b.begins) in
      let on : all_stand b.inside (map place_of xs) ≡ true = all_found n all depth xs d.others parts.middle high b.inside st.1 d.behind parts.second inside
      (λ at u q l. later b.at at b.inside u 0 brace q rising (omega (arith, l, b.start_is, bounds (suc x.body.start) (map start_of_block d.inner) parts.middle parts.first))) in
      ap (λ (t : Bool). if t then all_stand (drop 1 (from_brace x.body.start ahead)) (map place_of xs) else false) ranged ∙ ap (λ w. all_stand w (map place_of xs)) behind ∙ on

  pub file_reads : (n : ℕ) (places : List LiteralPlace) (blocks : List LiteralBlock) → HaveBlocks n ts places blocks → (behind : List Terminal) × (blocks_of n places ts ≡ Some (progress behind blocks))
  unfolding blocks_of
  file_reads n places blocks h =
      let a = ascends_all (map start_of_block blocks) h.ordered in
      let g = goes ts rising blocks 0 a.0 a.1 n h.sites h.depth blocks 0 a.0 ts [] h.stand h.carries (λ start ss k. k) a.1 end_none (λ at u q l. q) in
      let stand : all_stand ts places ≡ true = ap (all_stand ts) (sym h.are) ∙ all_found n blocks h.depth h.sites blocks 0 a.0 ts h.stand h.carries a.1 end_none (λ at u q l. q) in
      (g.behind, ap (λ (t : Bool). if t then literals n places (progress ts []) else None) stand ∙ ap (λ l. literals n l (progress ts [])) (sym h.are) ∙ g.reads)
