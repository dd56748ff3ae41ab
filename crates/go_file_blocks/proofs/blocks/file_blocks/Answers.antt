use Rattle.std.proofs.Common.{◌≡◌, ◌∙◌, true, false, List, Result, Ok, Err, refl, sym, subst}
use Rattle.go_bodies.specs.Braces.{rises}
use Rattle.go_bodies.specs.Reads.{HasRead}
use Rattle.go_cursor.specs.declared.error.ParseError.{ParseError}
use Rattle.go_file_blocks.specs.FileBlocks.{file_bodies}
use Rattle.go_file_blocks.specs.FileReading.{blocks_of}
use Rattle.go_file_blocks.proofs.FileOutcomes.{fails, found, not_rising, refused}
use Rattle.go_file_blocks.proofs.blocks.file_blocks.Goals as goal
use Rattle.go_function_literals.specs.DeclarationPlaces.{file_places}
use Rattle.go_syntax.specs.declared.declaration.File.{File}
use Rattle.go_syntax.specs.declared.statement.LiteralBlock.{LiteralBlock}
use Rattle.go_syntax.specs.declared.token.Token.{Token}
use Rattle.go_syntax.specs.grammar.Terminals.{terminals}

-- what is read of the cursor's tokens
abbrev Read : List Token → File → Result (List LiteralBlock) ParseError → Type 0
Read tokens f r = HasRead (blocks_of 257 (file_bodies f) (terminals tokens)) r

pub returns-then-not-rise : goal.returns-then-not-rise
returns-then-not-rise c =
    let f : rises 0 (terminals c.args.tokens.now) ≡ false = subst (λ (tokens : List Token). rises 0 (terminals tokens) ≡ false) c.new-cursor.ensures (sym c.rise.ensures ∙ c.if-not-rise.true) in
    record { blocks = tt; syntax = λ s bs d. not_rising c.args.tokens.now c.args.outline.now bs f d }

pub returns-in_err-blocks : goal.returns-in_err-blocks
returns-in_err-blocks c =
    let e : ParseError = c.in_err-blocks.field-0.0 in
    let r : Read c.args.tokens.now c.args.outline.now (Err e) = subst (λ (tokens : List Token). Read tokens c.args.outline.now (Err e)) c.new-cursor.ensures c.in_err-blocks.ensures in
    record {
      blocks = fails c.args.tokens.now c.args.outline.now e c.from_residual.result c.from_residual.ensures.1;
      syntax = λ s bs d. refused c.args.tokens.now c.args.outline.now e c.from_residual.result c.from_residual.ensures.1 r s bs d;
    }

pub returns : goal.returns
returns c =
    let t : rises 0 (terminals c.args.tokens.now) ≡ true = subst (λ (tokens : List Token). rises 0 (terminals tokens) ≡ true) c.new-cursor.ensures (sym c.rise.ensures ∙ c.if-not-rise.false) in
    let r : Read c.args.tokens.now c.args.outline.now (Ok c.in_ok-blocks.blocks) = subst (λ (tokens : List Token). Read tokens c.args.outline.now (Ok c.in_ok-blocks.blocks)) c.new-cursor.ensures c.in_ok-blocks.ensures in
    let q : Read c.args.tokens.now c.args.outline.now (Ok c.take.result) = subst (λ (bs : List LiteralBlock). Read c.args.tokens.now c.args.outline.now (Ok bs)) (sym c.take.ensures) r in
    record { blocks = found c.args.tokens.now c.args.outline.now (file_places c.args.outline.now 256) c.take.result refl t q; syntax = λ s bs d. absurd (cc) }
