-- Build expressions: how a text is cut into signs and tags, and the grammar of these.
-- Public source: "Build constraints" of Go's package go/build, and package go/build/constraint. Beyond Go, parentheses
-- nest at most to a bound.
-- In crate go_tags, proofs/CompleteExpressions.antt and proofs/SoundExpressions.antt show that the reader finds exactly
-- the trees of this grammar, and that there is at most one.
use Rattle.std.specs.Prelude.{◌≡◌, ◌≢◌, ℕ, suc, true, List, [], ◌∷◌, ◌++◌}
use Rattle.go_base.specs.Characters.{is_tag_character, IsRun}
use Rattle.go_base.specs.Comments.{is_blank}
use Rattle.go_model.specs.declared.files.build.ConstraintPart.{ConstraintPart}
use Rattle.go_model.specs.declared.files.build.ConstraintPart.TheVariants as part
use Rattle.go_model.specs.declared.files.build.Constraint.{Constraint}
use Rattle.go_model.specs.declared.files.build.Constraint.TheVariants as c

-- the text is these parts, with blanks between them
pub data AreParts : List ℕ → List ConstraintPart → Type 0 where
  no_part : AreParts [] []
  blank : {b : ℕ} {text : List ℕ} {parts : List ConstraintPart} → is_blank b ≡ true → AreParts text parts → AreParts (b ∷ text) parts
  or_sign : {text : List ℕ} {parts : List ConstraintPart} → AreParts text parts → AreParts (124 ∷ 124 ∷ text) (part.Or ∷ parts)
  and_sign : {text : List ℕ} {parts : List ConstraintPart} → AreParts text parts → AreParts (38 ∷ 38 ∷ text) (part.And ∷ parts)
  not_sign : {text : List ℕ} {parts : List ConstraintPart} → AreParts text parts → AreParts (33 ∷ text) (part.Not ∷ parts)
  open_sign : {text : List ℕ} {parts : List ConstraintPart} → AreParts text parts → AreParts (40 ∷ text) (part.Open ∷ parts)
  close_sign : {text : List ℕ} {parts : List ConstraintPart} → AreParts text parts → AreParts (41 ∷ text) (part.Close ∷ parts)
  tag : {name text : List ℕ} {parts : List ConstraintPart} → name ≢ [] → IsRun is_tag_character name text → AreParts text parts → AreParts (name ++ text) (part.Tag name ∷ parts)

-- a chain of `||`, where one operand alone is that operand
abbrev pub or_chain : Constraint → List Constraint → Constraint
or_chain first [] = first
or_chain first (x ∷ xs) = c.Or first (x ∷ xs)

-- the same of `&&`
abbrev pub and_chain : Constraint → List Constraint → Constraint
and_chain first [] = first
and_chain first (x ∷ xs) = c.And first (x ∷ xs)

mutual
  -- Or = And { "||" And } . The number is how deep parentheses may nest.
  pub data IsOr : ℕ → List ConstraintPart → Constraint → Type 0 where
    or : {depth : ℕ} {parts : List ConstraintPart} {x : Constraint} {xs : List Constraint} → AreOrs depth parts x xs → IsOr depth parts (or_chain x xs)

  -- the first operand of an Or, and the others
  pub data AreOrs : ℕ → List ConstraintPart → Constraint → List Constraint → Type 0 where
    or_first : {depth : ℕ} {parts : List ConstraintPart} {x : Constraint} → IsAnd depth parts x → AreOrs depth parts x []
    or_next : {depth : ℕ} {before after : List ConstraintPart} {x y : Constraint} {xs : List Constraint} → AreOrs depth before x xs → IsAnd depth after y → AreOrs depth (before ++ (part.Or ∷ after)) x (xs ++ (y ∷ []))

  -- And = Not { "&&" Not } .
  pub data IsAnd : ℕ → List ConstraintPart → Constraint → Type 0 where
    and : {depth : ℕ} {parts : List ConstraintPart} {x : Constraint} {xs : List Constraint} → AreAnds depth parts x xs → IsAnd depth parts (and_chain x xs)

  -- the first operand of an And, and the others
  pub data AreAnds : ℕ → List ConstraintPart → Constraint → List Constraint → Type 0 where
    and_first : {depth : ℕ} {parts : List ConstraintPart} {x : Constraint} → IsNot depth parts x → AreAnds depth parts x []
    and_next : {depth : ℕ} {before after : List ConstraintPart} {x y : Constraint} {xs : List Constraint} → AreAnds depth before x xs → IsNot depth after y → AreAnds depth (before ++ (part.And ∷ after)) x (xs ++ (y ∷ []))

  -- Not = [ "!" ] ( "(" Or ")" | Tag ) .
  pub data IsNot : ℕ → List ConstraintPart → Constraint → Type 0 where
    plain : {depth : ℕ} {parts : List ConstraintPart} {x : Constraint} → IsOperand depth parts x → IsNot depth parts x
    negated : {depth : ℕ} {parts : List ConstraintPart} {x : Constraint} → IsOperand depth parts x → IsNot depth (part.Not ∷ parts) (c.Not x)

  -- what stands behind the sign
  pub data IsOperand : ℕ → List ConstraintPart → Constraint → Type 0 where
    tag_operand : {depth : ℕ} (name : List ℕ) → IsOperand depth (part.Tag name ∷ []) (c.Tag name)
    parenthesized : {depth : ℕ} {parts : List ConstraintPart} {x : Constraint} → IsOr depth parts x → IsOperand (suc depth) (part.Open ∷ (parts ++ (part.Close ∷ []))) (c.Paren x)

-- the text is this build expression, with parentheses at most 256 deep
abbrev pub IsExpression : List ℕ → Constraint → Type 0
IsExpression text constraint = (parts : List ConstraintPart) × AreParts text parts × IsOr 256 parts constraint
