-- The reading of a build expression from the first of its parts, one function for each rule of the
-- grammar. Each takes the reader of an expression in parentheses, which may nest one level less.
use Rattle.std.specs.Prelude.{ℕ, zero, suc, List, [], ◌∷◌, ◌++◌, length, Option, Some, None}
use Rattle.go_model.specs.declared.files.build.ConstraintPart.{ConstraintPart}
use Rattle.go_model.specs.declared.files.build.ConstraintPart.TheVariants as part
use Rattle.go_model.specs.declared.files.build.Constraint.{Constraint}
use Rattle.go_model.specs.declared.files.build.Constraint.TheVariants as c
use Rattle.go_model.specs.files.BuildConstraints.{or_chain, and_chain}

-- what was read, and the parts behind it
abbrev pub Found : Type 0 → Type 0
Found A = Option (A × List ConstraintPart)

-- a reading from the first of some parts
abbrev pub Reader : Type 0 → Type 0
Reader A = List ConstraintPart → Found A

-- the second reader goes on where the first one ended
abbrev pub then_read : {A B : Type 0} → Found A → (A → Reader B) → Found B
then_read None next = None
then_read (Some found) next = next found.0 found.1

-- what a turn of a loop over operands does: the chain ends, an operand is missing, or there is one more
pub data Turn : Type 0 where
  Ends : Turn
  Lacks : Turn
  Grows : List Constraint → List ConstraintPart → Turn

-- a turn that reads an operand
abbrev pub grown : List Constraint → Found Constraint → Turn
grown operands None = Lacks
grown operands (Some found) = Grows (operands ++ (found.0 ∷ [])) found.1

-- what a loop finds after a turn, where it goes on by `go`
abbrev pub after_turn : (List Constraint → Reader (List Constraint)) → List Constraint → List ConstraintPart → Turn → Found (List Constraint)
after_turn go operands parts Ends = Some (operands, parts)
after_turn go operands parts Lacks = None
after_turn go operands parts (Grows more rest) = go more rest

-- at most so many turns
unfoldable pub turns : (List Constraint → List ConstraintPart → Turn) → ℕ → List Constraint → Reader (List Constraint)
turns step zero operands parts = Some (operands, parts)
turns step (suc n) operands parts = after_turn (turns step n) operands parts (step operands parts)

-- turns until the chain ends
unfoldable pub all_turns : (List Constraint → List ConstraintPart → Turn) → List Constraint → Reader (List Constraint)
all_turns step operands parts = turns step (length parts) operands parts

-- an operand behind `||`
abbrev pub or_turn : Reader Constraint → List Constraint → List ConstraintPart → Turn
or_turn operand operands (part.Or ∷ parts) = grown operands (operand parts)
or_turn operand operands _ = Ends

-- an operand behind `&&`
abbrev pub and_turn : Reader Constraint → List Constraint → List ConstraintPart → Turn
and_turn operand operands (part.And ∷ parts) = grown operands (operand parts)
and_turn operand operands _ = Ends

-- the first operand of a chain, and the others
unfoldable pub chain_of : (List Constraint → List ConstraintPart → Turn) → Reader Constraint → Reader (Constraint × List Constraint)
chain_of step operand parts = then_read (operand parts) (λ first rest. then_read (all_turns step [] rest) (λ others end. Some ((first, others), end)))

-- a closing parenthesis
abbrev pub closed : Constraint → Reader Constraint
closed x (part.Close ∷ parts) = Some (x, parts)
closed x _ = None

-- a tag, or an expression in parentheses
unfoldable pub operand_of : Reader Constraint → Reader Constraint
operand_of inner (part.Tag name ∷ parts) = Some (c.Tag name, parts)
operand_of inner (part.Open ∷ parts) = then_read (inner parts) (λ x. closed (c.Paren x))
operand_of inner _ = None

-- an operand, or its negation
unfoldable pub not_of : Reader Constraint → Reader Constraint
not_of inner (part.Not ∷ parts) = then_read (operand_of inner parts) (λ x rest. Some (c.Not x, rest))
not_of inner parts = operand_of inner parts

-- a chain of `&&`
unfoldable pub and_of : Reader Constraint → Reader Constraint
and_of inner parts = then_read (chain_of (and_turn (not_of inner)) (not_of inner) parts) (λ chain end. Some (and_chain chain.0 chain.1, end))

-- a chain of `||`
unfoldable pub or_of : Reader Constraint → Reader Constraint
or_of inner parts = then_read (chain_of (or_turn (and_of inner)) (and_of inner) parts) (λ chain end. Some (or_chain chain.0 chain.1, end))

-- an expression with parentheses less deep than the number
unfoldable pub or_below : ℕ → Reader Constraint
or_below zero parts = None
or_below (suc depth) parts = or_of (or_below depth) parts
