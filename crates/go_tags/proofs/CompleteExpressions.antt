-- Each tree of the grammar is found, so there is at most one.
use Rattle.std.proofs.Common.{◌≡◌, ◌≢◌, ℕ, zero, suc, ◌≤◌, List, [], ◌∷◌, ◌++◌, length, Bool, true, false, Some, None, refl, sym, ap, ◌∙◌, subst, append_assoc, arith}
use Rattle.std.proofs.lemmas.List.{append-nil}
use Rattle.go_model.specs.declared.files.build.ConstraintPart.{ConstraintPart}
use Rattle.go_model.specs.declared.files.build.ConstraintPart.TheVariants as part
use Rattle.go_model.specs.declared.files.build.Constraint.{Constraint}
use Rattle.go_model.specs.declared.files.build.Constraint.TheVariants as c
use Rattle.go_model.specs.files.BuildConstraints.{or_chain, and_chain, IsOr, or as an_or, AreOrs, or_first, or_next, IsAnd, and as an_and, AreAnds, and_first, and_next, IsNot, plain, negated, IsOperand, tag_operand, parenthesized}
use Rattle.go_tags.specs.inner.RecursiveDescent.{Found, Reader, Turn, Ends, Grows, then_read, grown, after_turn, turns, all_turns, or_turn, and_turn, chain_of, closed, operand_of, not_of, and_of, or_of, or_below}

-- whether the first part is this sign
abbrev begins_or : List ConstraintPart → Bool
begins_or (part.Or ∷ parts) = true
begins_or _ = false

abbrev begins_and : List ConstraintPart → Bool
begins_and (part.And ∷ parts) = true
begins_and _ = false

-- from here on the loop finds this
abbrev Finds : (List Constraint → List ConstraintPart → Turn) → List Constraint → List ConstraintPart → Found (List Constraint) → Type 0
Finds step operands parts found = (n : ℕ) → length parts ≤ n → turns step n operands parts ≡ found

stops : (step : List Constraint → List ConstraintPart → Turn) (operands : List Constraint) (rest : List ConstraintPart) → step operands rest ≡ Ends → Finds step operands rest (Some (operands, rest))
unfolding turns
stops step operands rest e zero h = refl
stops step operands rest e (suc n) h = ap (after_turn (turns step n) operands rest) e

goes_on : (step : List Constraint → List ConstraintPart → Turn) (operands more : List Constraint) (sign : ConstraintPart) (parts rest : List ConstraintPart) (found : Found (List Constraint))
    → step operands (sign ∷ parts) ≡ Grows more rest → length rest ≤ length parts → Finds step more rest found → Finds step operands (sign ∷ parts) found
unfolding turns
goes_on step operands more sign parts rest found e shorter go zero h = absurd (omega arith)
goes_on step operands more sign parts rest found e shorter go (suc n) h = ap (after_turn (turns step n) operands (sign ∷ parts)) e ∙ go n (omega arith)

or_stop : (operand : Reader Constraint) (operands : List Constraint) (parts : List ConstraintPart) → begins_or parts ≡ false → or_turn operand operands parts ≡ Ends
or_stop operand operands [] h = refl
or_stop operand operands (part.Or ∷ parts) h = cc
or_stop operand operands (_ ∷ parts) h = refl

and_stop : (operand : Reader Constraint) (operands : List Constraint) (parts : List ConstraintPart) → begins_and parts ≡ false → and_turn operand operands parts ≡ Ends
and_stop operand operands [] h = refl
and_stop operand operands (part.And ∷ parts) h = cc
and_stop operand operands (_ ∷ parts) h = refl

-- an operand begins without a sign
no_sign : {depth : ℕ} {parts : List ConstraintPart} {x : Constraint} → IsOperand depth parts x → (inner : Reader Constraint) (rest : List ConstraintPart) → not_of inner (parts ++ rest) ≡ operand_of inner (parts ++ rest)
unfolding not_of
no_sign (tag_operand name) inner rest = refl
no_sign (parenthesized d) inner rest = refl

seam : (xs : List ConstraintPart) (x : ConstraintPart) (ys zs : List ConstraintPart) → (xs ++ (x ∷ ys)) ++ zs ≡ xs ++ (x ∷ (ys ++ zs))
seam xs x ys zs = append_assoc xs (x ∷ ys) zs

no_shorter : (xs ys : List ConstraintPart) → length ys ≤ length (xs ++ ys)
no_shorter [] ys = omega arith
no_shorter (x ∷ xs) ys = omega (arith, no_shorter xs ys)

mutual
  unfolding or_of and_of not_of operand_of chain_of all_turns or_below

  complete_or : {depth : ℕ} {parts : List ConstraintPart} {x : Constraint} → IsOr depth parts x → (rest : List ConstraintPart)
      → begins_or rest ≡ false → begins_and rest ≡ false → or_of (or_below depth) (parts ++ rest) ≡ Some (x, rest)
  complete_or {depth} (an_or {x = x} {xs = xs} d) rest o a =
      ap (λ r. then_read r (λ chain end. Some (or_chain chain.0 chain.1, end)))
      (complete_ors d rest (Some (xs, rest)) (stops (or_turn (and_of (or_below depth))) xs rest (or_stop (and_of (or_below depth)) xs rest o)) a)

  complete_ors : {depth : ℕ} {parts : List ConstraintPart} {x : Constraint} {xs : List Constraint} → AreOrs depth parts x xs → (rest : List ConstraintPart) (found : Found (List Constraint))
      → Finds (or_turn (and_of (or_below depth))) xs rest found → begins_and rest ≡ false
      → chain_of (or_turn (and_of (or_below depth))) (and_of (or_below depth)) (parts ++ rest) ≡ then_read found (λ others end. Some ((x, others), end))
  complete_ors {depth} {parts} {x} (or_first d) rest found go a =
      ap (λ r. then_read r (λ first w. then_read (all_turns (or_turn (and_of (or_below depth))) [] w) (λ others end. Some ((first, others), end)))) (complete_and d rest a)
      ∙ ap (λ r. then_read r (λ others end. Some ((x, others), end))) (go (length rest) (omega arith))
  complete_ors {depth} (or_next {before = before} {after = after} {x = x} {y = y} {xs = xs} d e) rest found go a =
      ap (chain_of (or_turn (and_of (or_below depth))) (and_of (or_below depth))) (seam before part.Or after rest)
      ∙ complete_ors d (part.Or ∷ (after ++ rest)) found
      (goes_on (or_turn (and_of (or_below depth))) xs (xs ++ (y ∷ [])) part.Or (after ++ rest) rest found (ap (grown xs) (complete_and e rest a)) (no_shorter after rest) go)
      refl

  complete_and : {depth : ℕ} {parts : List ConstraintPart} {x : Constraint} → IsAnd depth parts x → (rest : List ConstraintPart)
      → begins_and rest ≡ false → and_of (or_below depth) (parts ++ rest) ≡ Some (x, rest)
  complete_and {depth} (an_and {x = x} {xs = xs} d) rest a =
      ap (λ r. then_read r (λ chain end. Some (and_chain chain.0 chain.1, end)))
      (complete_ands d rest (Some (xs, rest)) (stops (and_turn (not_of (or_below depth))) xs rest (and_stop (not_of (or_below depth)) xs rest a)))

  complete_ands : {depth : ℕ} {parts : List ConstraintPart} {x : Constraint} {xs : List Constraint} → AreAnds depth parts x xs → (rest : List ConstraintPart) (found : Found (List Constraint))
      → Finds (and_turn (not_of (or_below depth))) xs rest found
      → chain_of (and_turn (not_of (or_below depth))) (not_of (or_below depth)) (parts ++ rest) ≡ then_read found (λ others end. Some ((x, others), end))
  complete_ands {depth} {parts} {x} (and_first d) rest found go =
      ap (λ r. then_read r (λ first w. then_read (all_turns (and_turn (not_of (or_below depth))) [] w) (λ others end. Some ((first, others), end)))) (complete_not d rest)
      ∙ ap (λ r. then_read r (λ others end. Some ((x, others), end))) (go (length rest) (omega arith))
  complete_ands {depth} (and_next {before = before} {after = after} {x = x} {y = y} {xs = xs} d e) rest found go =
      ap (chain_of (and_turn (not_of (or_below depth))) (not_of (or_below depth))) (seam before part.And after rest)
      ∙ complete_ands d (part.And ∷ (after ++ rest)) found
      (goes_on (and_turn (not_of (or_below depth))) xs (xs ++ (y ∷ [])) part.And (after ++ rest) rest found (ap (grown xs) (complete_not e rest)) (no_shorter after rest) go)

  complete_not : {depth : ℕ} {parts : List ConstraintPart} {x : Constraint} → IsNot depth parts x → (rest : List ConstraintPart) → not_of (or_below depth) (parts ++ rest) ≡ Some (x, rest)
  complete_not {depth} (plain d) rest = no_sign d (or_below depth) rest ∙ complete_operand d rest
  complete_not {depth} (negated d) rest = ap (λ r. then_read r (λ x end. Some (c.Not x, end))) (complete_operand d rest)

  complete_operand : {depth : ℕ} {parts : List ConstraintPart} {x : Constraint} → IsOperand depth parts x → (rest : List ConstraintPart) → operand_of (or_below depth) (parts ++ rest) ≡ Some (x, rest)
  complete_operand (tag_operand name) rest = refl
  complete_operand (parenthesized {depth = depth} {parts = parts} {x = x} d) rest =
      ap (λ w. then_read (or_below (suc depth) w) (λ y. closed (c.Paren y))) (append_assoc parts (part.Close ∷ []) rest)
      ∙ ap (λ r. then_read r (λ y. closed (c.Paren y))) (complete_or d (part.Close ∷ rest) refl refl)

one : {p q : Constraint × List ConstraintPart} → ◌≡◌ {A = Found Constraint} (Some p) (Some q) → p ≡ q
one e = cc

-- all of some parts, where they are an expression, are read as that expression
pub expression_read : {depth : ℕ} {parts : List ConstraintPart} {x : Constraint} → IsOr depth parts x → or_of (or_below depth) parts ≡ Some (x, [])
expression_read {depth} {parts} {x} d = ap (or_of (or_below depth)) (sym (append-nil parts)) ∙ complete_or d [] refl refl

-- no parts are two expressions
pub expression_once : (depth : ℕ) (parts : List ConstraintPart) (x y : Constraint) → IsOr depth parts x → IsOr depth parts y → x ≡ y
expression_once depth parts x y d e = ap (λ p. p.0) (one (sym (expression_read d) ∙ expression_read e))

pub nothing_read : (depth : ℕ) (parts : List ConstraintPart) → or_of (or_below depth) parts ≡ None → (x : Constraint) → IsOr depth parts x → ⊥
nothing_read depth parts none x d = let some : or_of (or_below depth) parts ≡ Some (x, []) = expression_read d in absurd (cc)

pub more_left : (depth : ℕ) (parts : List ConstraintPart) (y : Constraint) (rest : List ConstraintPart) → or_of (or_below depth) parts ≡ Some (y, rest) → rest ≢ [] → (x : Constraint) → IsOr depth parts x → ⊥
more_left depth parts y rest some more x d = more (ap (λ p. p.1) (one (sym some ∙ expression_read d)))

-- the same, where the number of levels is known by an equation
module _ (depth n : ℕ) (is : n ≡ suc depth) (parts : List ConstraintPart) where
  pub refused : or_below n parts ≡ None → (x : Constraint) → IsOr depth parts x → ⊥
  unfolding or_below
  refused none = nothing_read depth parts (subst (λ (m : ℕ). or_below m parts ≡ None) is none)

  pub left_over : (y : Constraint) (rest : List ConstraintPart) → or_below n parts ≡ Some (y, rest) → rest ≢ [] → (x : Constraint) → IsOr depth parts x → ⊥
  unfolding or_below
  left_over y rest some more = more_left depth parts y rest (subst (λ (m : ℕ). or_below m parts ≡ Some (y, rest)) is some) more
