-- The function literals of a derivation: where the body of each one stands, the height that it may have there, and that the tree is
-- derived in the same way where the bodies are of another kind.
-- Own: how a tree and the bodies of its function literals are joined.
use Rattle.std.specs.Prelude.{◌≡◌, ◌<◌, ℕ, List, ◌++◌, map}
use Rattle.go_base.specs.Lists.{Each}
use Rattle.go_function_literals.specs.declared.place.LiteralPlace.{LiteralPlace}
use Rattle.go_syntax.specs.declared.body.BodyRange.{BodyRange}
use Rattle.go_syntax.specs.grammar.Symbols.{Rule}
use Rattle.go_syntax.specs.grammar.Terminals.{Terminal}

-- the first terminals end the second
pub record IsEnd (rest ts : List Terminal) : Type 0 where
  pub before : List Terminal
  pub parts : ts ≡ before ++ rest

-- a body: the height that it may have, the terminals that it begins, and those behind it
pub record Site : Type 0 where
  pub height : ℕ
  pub begins : List Terminal
  pub body : BodyRange
  pub rest : List Terminal

abbrev pub place_of : Site → LiteralPlace
place_of s = record { body = s.body; height = s.height }

abbrev pub range_of : Site → BodyRange
range_of s = s.body

-- a body of this kind stands there
abbrev pub Bodied : (ℕ → Rule BodyRange) → Site → Type 0
Bodied Body s = Body s.height s.begins s.body s.rest

-- the same within these terminals, below this height
pub record Stands (Body : ℕ → Rule BodyRange) (h : ℕ) (ts : List Terminal) (s : Site) : Type 0 where
  pub holds : Bodied Body s
  pub within : IsEnd s.begins ts
  pub lower : s.height < h

-- the bodies in a tree of this height that reaches from these terminals to those, with their places and ranges in order, and
-- what holds where each is of the other kind
pub record Collected (Body Other : ℕ → Rule BodyRange) (h : ℕ) (ts rest : List Terminal) (places : List LiteralPlace) (ranges : List BodyRange) (Derived : Type 0) : Type 0 where
  pub sites : List Site
  pub stand : Each (Stands Body h ts) sites
  pub ends : IsEnd rest ts
  pub placed : map place_of sites ≡ places
  pub ranged : map range_of sites ≡ ranges
  pub derives : Each (Bodied Other) sites → Derived
