-- What the reader of the blocks of a file answers.
use Rattle.std.proofs.Common.{◌≡◌, ◌∙◌, ◌≤◌, ℕ, Bool, true, false, if◌then◌else◌, List, [], ◌∷◌, map, drop, length, Option, None, Some, Result, Ok, Err, IfOk, sym, ap, subst, arith}
use Rattle.std.specs.Prelude.{IsErrOf}
use Rattle.std.specs.Result.{IsErrAnd}
use Rattle.go_base.proofs.Lists.{drop_past}
use Rattle.go_bodies.specs.Braces.{from_brace, rises}
use Rattle.go_file_blocks.specs.FileBlocks.{HasFileBlocks, alone, file_bodies}
use Rattle.go_bodies.specs.Reading.{Progress, literals, progress}
use Rattle.go_file_blocks.specs.FileReading.{all_stand, blocks_of, is_range}
use Rattle.go_bodies.specs.Reads.{HasRead}
use Rattle.go_file_blocks.proofs.FileBodies.{AreBelow, file_found, file_reads}
use Rattle.go_cursor.specs.declared.error.ParseError.{ParseError}
use Rattle.go_cursor.specs.declared.error.ParseError.TheVariants.{NoMemory, Syntax}
use Rattle.go_cursor.specs.Skipping.{skipped_body}
use Rattle.go_function_literals.specs.declared.place.LiteralPlace.{LiteralPlace}
use Rattle.go_syntax.specs.declared.declaration.File.{File}
use Rattle.go_syntax.specs.declared.statement.LiteralBlock.{LiteralBlock}
use Rattle.go_syntax.specs.declared.token.Token.{Token}
use Rattle.go_syntax.specs.grammar.Terminals.{Terminal, terminals}

low_bodies : (ps : List LiteralPlace) → AreBelow 257 (map alone ps)
low_bodies [] = tt
low_bodies (p ∷ ps) = (omega arith, low_bodies ps)

none_some : {s : Progress} → ◌≡◌ {A = Option Progress} None (Some s) → ⊥
none_some e = cc

same_progress : {s t : Progress} → ◌≡◌ {A = Option Progress} (Some s) (Some t) → s ≡ t
same_progress e = cc

truth_lie : true ≡ false → ⊥
truth_lie e = cc

pub not_rising : (tokens : List Token) (f : File) (bs : List LiteralBlock) → rises 0 (terminals tokens) ≡ false → HasFileBlocks tokens f bs → ⊥
not_rising tokens f bs e d = truth_lie (sym d.rising ∙ e)

pub has_blocks : (tokens : List Token) (f : File) (bs : List LiteralBlock) (behind : List Terminal) → AreBelow 257 (file_bodies f) → rises 0 (terminals tokens) ≡ true → blocks_of 257 (file_bodies f) (terminals tokens) ≡ Some (progress behind bs) → HasFileBlocks tokens f bs
has_blocks tokens f bs behind low rising e = record { rising = rising; stand = file_found 257 (file_bodies f) (terminals tokens) (progress behind bs) low rising e }

pub found : (tokens : List Token) (f : File) (places : List LiteralPlace) (bs : List LiteralBlock) → file_bodies f ≡ map alone places → rises 0 (terminals tokens) ≡ true → HasRead (blocks_of 257 (file_bodies f) (terminals tokens)) (Ok bs) → HasFileBlocks tokens f bs
found tokens f places bs q rising r = has_blocks tokens f bs r.0 (subst (AreBelow 257) (sym q) (low_bodies places)) rising r.1

-- what answers an error that the reader answers
pub fails : (tokens : List Token) (f : File) (e : ParseError) (r : Result (List LiteralBlock) ParseError) → IsErrAnd r (λ x. x ≡ e) → IfOk r (HasFileBlocks tokens f)
fails tokens f e (Ok bs) h = absurd h
fails tokens f e (Err x) h = tt

pub refused : (tokens : List Token) (f : File) (e : ParseError) (r : Result (List LiteralBlock) ParseError) → IsErrAnd r (λ x. x ≡ e) → HasRead (blocks_of 257 (file_bodies f) (terminals tokens)) (Err e) → IsErrOf r Syntax → (bs : List LiteralBlock) → HasFileBlocks tokens f bs → ⊥
refused tokens f e (Ok cs) h r s bs d = absurd h
refused tokens f e (Err NoMemory) h r s bs d = absurd (cc)
refused tokens f NoMemory (Err Syntax) h r s bs d = absurd (cc)
refused tokens f Syntax (Err Syntax) h r s bs d = none_some (sym r ∙ (file_reads (terminals tokens) d.rising 257 (file_bodies f) bs d.stand).1)

-- The blocks of bodies of which none stands in another

pub not_standing : (n : ℕ) (ps : List LiteralPlace) (ts : List Terminal) → all_stand ts ps ≡ false → blocks_of n ps ts ≡ None
unfolding blocks_of
not_standing n ps ts e = ap (λ (b : Bool). if b then literals n ps (progress ts []) else None) e

pub standing : (n : ℕ) (ps : List LiteralPlace) (ts : List Terminal) → all_stand ts ps ≡ true → blocks_of n ps ts ≡ literals n ps (progress ts [])
unfolding blocks_of
standing n ps ts e = ap (λ (b : Bool). if b then literals n ps (progress ts []) else None) e

-- Bodies one behind another

module _ (ts us : List Terminal) (p : LiteralPlace) (ps : List LiteralPlace) (begins : us ≡ from_brace p.body.start ts) where
  stand_by : (b : Bool) → is_range (skipped_body us) p.body ≡ b → all_stand ts (p ∷ ps) ≡ (if b then all_stand (drop 1 us) ps else false)
  unfolding all_stand
  stand_by b e = ap (λ w. if is_range (skipped_body w) p.body then all_stand (drop 1 w) ps else false) (sym begins) ∙ ap (λ (c : Bool). if c then all_stand (drop 1 us) ps else false) e

  pub stands_not : is_range (skipped_body us) p.body ≡ false → all_stand ts (p ∷ ps) ≡ false
  stands_not e = stand_by false e

  pub stands_on : (vs : List Terminal) → is_range (skipped_body us) p.body ≡ true → vs ≡ drop 1 us → all_stand ts (p ∷ ps) ≡ all_stand vs ps
  stands_on vs e d = stand_by true e ∙ ap (λ w. all_stand w ps) (sym d)

pub stand_all : (ts : List Terminal) (ps : List LiteralPlace) (i : ℕ) → length ps ≤ i → all_stand ts (drop i ps) ≡ true
unfolding all_stand
stand_all ts ps i l = ap (all_stand ts) (drop_past i ps l)

pub same_blocks : (tokens : List Token) (f : File) (bs cs : List LiteralBlock) → HasFileBlocks tokens f bs → HasFileBlocks tokens f cs → bs ≡ cs
same_blocks tokens f bs cs d e =
    let a = file_reads (terminals tokens) d.rising 257 (file_bodies f) bs d.stand in
    let b = file_reads (terminals tokens) d.rising 257 (file_bodies f) cs e.stand in
    ap (λ (s : Progress). s.blocks) (same_progress (sym a.1 ∙ b.1))
