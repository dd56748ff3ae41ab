-- The blocks of a file: that of each function and of each function literal, those inside others included, in the order of their
-- places. The body of a function, and a function literal outside of bodies, is measured by itself: its height is at most 256, as if
-- the blocks of the literals in it stood in its tree.
-- Public source: Go specification, "Function declarations" and "Function literals"; the form is own.
use Rattle.std.specs.Prelude.{◌≡◌, ℕ, true, List, map}
use Rattle.std.specs.List.Sorted.{IsStrictlySortedBy}
use Rattle.std.specs.Ordering.{nat_cmp}
use Rattle.go_base.specs.Lists.{Each}
use Rattle.go_bodies.specs.Braces.{rises}
use Rattle.go_function_literals.specs.DeclarationPlaces.{file_places}
use Rattle.go_function_literals.specs.declared.place.LiteralPlace.{LiteralPlace}
use Rattle.go_function_literals.specs.Sites.{Site, Stands, place_of, range_of}
use Rattle.go_syntax.specs.declared.declaration.File.{File}
use Rattle.go_syntax.specs.declared.statement.LiteralBlock.{LiteralBlock}
use Rattle.go_syntax.specs.declared.token.Token.{Token}
use Rattle.go_syntax.specs.grammar.ParsedBodies.{Carries, LiteralBodies, start_of_block}
use Rattle.go_syntax.specs.grammar.Terminals.{Terminal, terminals}

-- the same body where it is measured by itself
abbrev pub alone : LiteralPlace → LiteralPlace
alone p = record { body = p.body; height = 256 }

-- the bodies of a file that stand in no other
abbrev pub file_bodies : File → List LiteralPlace
file_bodies f = map alone (file_places f 256)

-- these bodies, of a height below this one, stand among the terminals with the blocks of a list
pub record HaveBlocks (above : ℕ) (ts : List Terminal) (places : List LiteralPlace) (blocks : List LiteralBlock) : Type 0 where
  pub depth : ℕ
  pub sites : List Site
  pub are : map place_of sites ≡ places
  pub stand : Each (Stands (LiteralBodies blocks depth) above ts) sites
  pub carries : Carries (map range_of sites) blocks
  pub ordered : IsStrictlySortedBy nat_cmp (map start_of_block blocks)

-- the blocks of a file with these tokens and this outline. A block is found by the offset of its `{`, so those offsets have to rise
pub record HasFileBlocks (tokens : List Token) (f : File) (blocks : List LiteralBlock) : Type 0 where
  pub rising : rises 0 (terminals tokens) ≡ true
  pub stand : HaveBlocks 257 (terminals tokens) (file_bodies f) blocks
