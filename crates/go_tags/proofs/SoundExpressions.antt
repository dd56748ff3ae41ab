-- What is found is a tree of the grammar.
use Rattle.std.proofs.Common.{◌≡◌, ℕ, zero, suc, List, [], ◌∷◌, ◌++◌, length, Some, None, refl, sym, ap, ◌∙◌, subst, append_assoc}
use Rattle.std.proofs.lemmas.List.{append-nil}
use Rattle.go_model.specs.declared.files.build.ConstraintPart.{ConstraintPart}
use Rattle.go_model.specs.declared.files.build.ConstraintPart.TheVariants as part
use Rattle.go_model.specs.declared.files.build.Constraint.{Constraint}
use Rattle.go_model.specs.declared.files.build.Constraint.TheVariants as c
use Rattle.go_model.specs.files.BuildConstraints.{or_chain, and_chain, IsOr, or as an_or, AreOrs, or_first, or_next, IsAnd, and as an_and, AreAnds, and_first, and_next, IsNot, plain, negated, IsOperand, tag_operand, parenthesized}
use Rattle.go_tags.specs.inner.RecursiveDescent.{Found, Reader, Turn, Ends, Lacks, Grows, then_read, grown, after_turn, turns, all_turns, or_turn, and_turn, chain_of, closed, operand_of, not_of, and_of, or_of, or_below}

-- a prefix of the parts is derived, and the rest is left
record Took {A : Type 0} (D : List ConstraintPart → A → Type 0) (parts : List ConstraintPart) (a : A) (rest : List ConstraintPart) : Type 0 where
  prefix : List ConstraintPart
  whole : parts ≡ prefix ++ rest
  derives : D prefix a

abbrev Sound : {A : Type 0} → (List ConstraintPart → A → Type 0) → Reader A → Type 0
Sound {A} D read = (parts : List ConstraintPart) (a : A) (rest : List ConstraintPart) → read parts ≡ Some (a, rest) → Took D parts a rest

-- a rule one level down, which nothing meets at the bottom
abbrev Below : (ℕ → List ConstraintPart → Constraint → Type 0) → ℕ → List ConstraintPart → Constraint → Type 0
Below D zero parts x = ⊥
Below D (suc depth) parts x = D depth parts x

same_found : {A : Type 0} (p q : A × List ConstraintPart) → ◌≡◌ {A = Found A} (Some p) (Some q) → p ≡ q
same_found p q e = cc

read_twice : {A B : Type 0} (r : Found A) (next : A → Reader B) (b : B) (rest : List ConstraintPart) → then_read r next ≡ Some (b, rest)
    → (a : A) × (w : List ConstraintPart) × (r ≡ Some (a, w)) × (next a w ≡ Some (b, rest))
read_twice None next b rest e = absurd (cc)
read_twice (Some (a, w)) next b rest e = (a, w, refl, e)

seam : (xs : List ConstraintPart) (x : ConstraintPart) (ys zs : List ConstraintPart) → xs ++ (x ∷ (ys ++ zs)) ≡ (xs ++ (x ∷ ys)) ++ zs
seam xs x ys zs = sym (append_assoc xs (x ∷ ys) zs)

-- a turn that grows has read the sign and an operand
abbrev GrowsBy : ConstraintPart → Reader Constraint → (List Constraint → List ConstraintPart → Turn) → Type 0
GrowsBy sign operand step = (operands : List Constraint) (parts : List ConstraintPart) (more : List Constraint) (rest : List ConstraintPart) → step operands parts ≡ Grows more rest
    → (behind : List ConstraintPart) × (y : Constraint) × (parts ≡ sign ∷ behind) × (operand behind ≡ Some (y, rest)) × (operands ++ (y ∷ []) ≡ more)

grown_by : (operands : List Constraint) (r : Found Constraint) (more : List Constraint) (rest : List ConstraintPart) → grown operands r ≡ Grows more rest → (y : Constraint) × (r ≡ Some (y, rest)) × (operands ++ (y ∷ []) ≡ more)
grown_by operands None more rest e = absurd (cc)
grown_by operands (Some (y, w)) more rest e = (y, (cc), (cc))

or_grows : (operand : Reader Constraint) → GrowsBy part.Or operand (or_turn operand)
or_grows operand operands [] more rest e = absurd (cc)
or_grows operand operands (part.Or ∷ parts) more rest e = let g = grown_by operands (operand parts) more rest e in (parts, g.0, refl, g.1, g.2)
or_grows operand operands (_ ∷ parts) more rest e = absurd (cc)

and_grows : (operand : Reader Constraint) → GrowsBy part.And operand (and_turn operand)
and_grows operand operands [] more rest e = absurd (cc)
and_grows operand operands (part.And ∷ parts) more rest e = let g = grown_by operands (operand parts) more rest e in (parts, g.0, refl, g.1, g.2)
and_grows operand operands (_ ∷ parts) more rest e = absurd (cc)

-- a chain of operands: U is the rule of an operand, P that of the chain
module _ (sign : ConstraintPart) (operand : Reader Constraint) (step : List Constraint → List ConstraintPart → Turn) (grows : GrowsBy sign operand step)
    (U : List ConstraintPart → Constraint → Type 0) (P : List ConstraintPart → Constraint → List Constraint → Type 0)
    (first : (parts : List ConstraintPart) (x : Constraint) → U parts x → P parts x [])
    (next : (before after : List ConstraintPart) (x y : Constraint) (xs : List Constraint) → P before x xs → U after y → P (before ++ (sign ∷ after)) x (xs ++ (y ∷ [])))
    (sound : Sound U operand) where
  -- from here on what a loop finds is a chain
  abbrev Chains : Constraint → (List Constraint → Reader (List Constraint)) → Type 0
  Chains x go = (prefix : List ConstraintPart) (xs : List Constraint) (parts : List ConstraintPart) (ys : List Constraint) (rest : List ConstraintPart)
      → P prefix x xs → go xs parts ≡ Some (ys, rest) → Took (λ f a. P f x a) (prefix ++ parts) ys rest

  ends_sound : (x : Constraint) → Chains x (λ xs parts. Some (xs, parts))
  ends_sound x prefix xs parts ys rest d e =
      let same = same_found (xs, parts) (ys, rest) e in
      record { prefix = prefix; whole = ap (λ p. prefix ++ p.1) same; derives = subst (λ (p : List Constraint × List ConstraintPart). P prefix x p.0) same d }

  turn_sound : (x : Constraint) (go : List Constraint → Reader (List Constraint)) → Chains x go → (prefix : List ConstraintPart) (xs : List Constraint) (parts : List ConstraintPart) (ys : List Constraint) (rest : List ConstraintPart)
      → P prefix x xs → (t : Turn) → step xs parts ≡ t → after_turn go xs parts t ≡ Some (ys, rest) → Took (λ f a. P f x a) (prefix ++ parts) ys rest
  turn_sound x go later prefix xs parts ys rest d Ends s e = ends_sound x prefix xs parts ys rest d e
  turn_sound x go later prefix xs parts ys rest d Lacks s e = absurd (cc)
  turn_sound x go later prefix xs parts ys rest d (Grows more w) s e =
      let g = grows xs parts more w s in
      let k = sound g.0 g.1 w g.3 in
      let longer : P (prefix ++ (sign ∷ k.prefix)) x more = subst (P (prefix ++ (sign ∷ k.prefix)) x) g.4 (next prefix k.prefix x g.1 xs d k.derives) in
      let l = later (prefix ++ (sign ∷ k.prefix)) more w ys rest longer e in
      record { prefix = l.prefix; whole = ap (λ v. prefix ++ v) (g.2 ∙ ap (λ v. sign ∷ v) k.whole) ∙ seam prefix sign k.prefix w ∙ l.whole; derives = l.derives }

  turns_sound : (x : Constraint) (n : ℕ) → Chains x (turns step n)
  unfolding turns
  turns_sound x zero prefix xs parts ys rest d e = ends_sound x prefix xs parts ys rest d e
  turns_sound x (suc n) prefix xs parts ys rest d e = turn_sound x (turns step n) (turns_sound x n) prefix xs parts ys rest d (step xs parts) refl e

  chain_sound : (parts : List ConstraintPart) (x : Constraint) (xs : List Constraint) (rest : List ConstraintPart) → chain_of step operand parts ≡ Some ((x, xs), rest) → Took (λ f a. P f x a) parts xs rest
  unfolding chain_of all_turns
  chain_sound parts x xs rest e =
      let b = read_twice (operand parts) (λ z w. then_read (all_turns step [] w) (λ others end. Some ((z, others), end))) (x, xs) rest e in
      let d = read_twice (all_turns step [] b.1) (λ others end. Some ((b.0, others), end)) (x, xs) rest b.3 in
      let same = same_found ((b.0, d.0), d.1) ((x, xs), rest) d.3 in
      let k = sound parts b.0 b.1 b.2 in
      let l = turns_sound b.0 (length b.1) k.prefix [] b.1 d.0 d.1 (first k.prefix b.0 k.derives) d.2 in
      record {
        prefix = l.prefix;
        whole = k.whole ∙ l.whole ∙ ap (λ p. l.prefix ++ p.1) same;
        derives = subst (λ (p : (Constraint × List Constraint) × List ConstraintPart). P l.prefix p.0.0 p.0.1) same l.derives;
      }

closed_some : (a : Constraint) (parts : List ConstraintPart) (b : Constraint) (rest : List ConstraintPart) → closed a parts ≡ Some (b, rest) → (parts ≡ part.Close ∷ rest) × (a ≡ b)
closed_some a [] b rest e = absurd (cc)
closed_some a (part.Close ∷ parts) b rest e = let same = same_found (a, parts) (b, rest) e in (ap (λ p. part.Close ∷ p.1) same, ap (λ p. p.0) same)
closed_some a (_ ∷ parts) b rest e = absurd (cc)

paren : (depth : ℕ) (parts : List ConstraintPart) (x : Constraint) → Below IsOr depth parts x → IsOperand depth (part.Open ∷ (parts ++ (part.Close ∷ []))) (c.Paren x)
paren zero parts x d = absurd d
paren (suc depth) parts x d = parenthesized d

module _ (depth : ℕ) (inner : Reader Constraint) (sound : Sound (Below IsOr depth) inner) where
  operand_sound : Sound (IsOperand depth) (operand_of inner)
  unfolding operand_of
  operand_sound (part.Tag name ∷ parts) a rest e =
      let same = same_found (c.Tag name, parts) (a, rest) e in
      record { prefix = part.Tag name ∷ []; whole = ap (λ p. part.Tag name ∷ p.1) same; derives = subst (λ (p : Constraint × List ConstraintPart). IsOperand depth (part.Tag name ∷ []) p.0) same (tag_operand name) }
  operand_sound (part.Open ∷ parts) a rest e =
      let b = read_twice (inner parts) (λ x. closed (c.Paren x)) a rest e in
      let k = sound parts b.0 b.1 b.2 in
      let l = closed_some (c.Paren b.0) b.1 a rest b.3 in
      record {
        prefix = part.Open ∷ (k.prefix ++ (part.Close ∷ []));
        whole = ap (λ w. part.Open ∷ w) (k.whole ∙ ap (λ w. k.prefix ++ w) l.0 ∙ sym (append_assoc k.prefix (part.Close ∷ []) rest));
        derives = subst (IsOperand depth (part.Open ∷ (k.prefix ++ (part.Close ∷ [])))) l.1 (paren depth k.prefix b.0 k.derives);
      }
  operand_sound [] a rest e = absurd (cc)
  operand_sound (_ ∷ parts) a rest e = absurd (cc)

  plain_sound : (parts : List ConstraintPart) (a : Constraint) (rest : List ConstraintPart) → operand_of inner parts ≡ Some (a, rest) → Took (IsNot depth) parts a rest
  plain_sound parts a rest e = let k = operand_sound parts a rest e in record { prefix = k.prefix; whole = k.whole; derives = plain k.derives }

  not_sound : Sound (IsNot depth) (not_of inner)
  unfolding not_of
  not_sound (part.Not ∷ parts) a rest e =
      let b = read_twice (operand_of inner parts) (λ x w. Some (c.Not x, w)) a rest e in
      let k = operand_sound parts b.0 b.1 b.2 in
      let same = same_found (c.Not b.0, b.1) (a, rest) b.3 in
      record {
        prefix = part.Not ∷ k.prefix;
        whole = ap (λ w. part.Not ∷ w) (k.whole ∙ ap (λ p. k.prefix ++ p.1) same);
        derives = subst (λ (p : Constraint × List ConstraintPart). IsNot depth (part.Not ∷ k.prefix) p.0) same (negated k.derives);
      }
  not_sound [] a rest e = plain_sound [] a rest e
  not_sound (p ∷ parts) a rest e = plain_sound (p ∷ parts) a rest e

  and_sound : Sound (IsAnd depth) (and_of inner)
  unfolding and_of
  and_sound parts a rest e =
      let b = read_twice (chain_of (and_turn (not_of inner)) (not_of inner) parts) (λ chain end. Some (and_chain chain.0 chain.1, end)) a rest e in
      let k = chain_sound part.And (not_of inner) (and_turn (not_of inner)) (and_grows (not_of inner)) (IsNot depth) (AreAnds depth) (λ ps x d. and_first d) (λ before after x y xs d f. and_next d f) not_sound parts b.0.0 b.0.1 b.1 b.2 in
      let same = same_found (and_chain b.0.0 b.0.1, b.1) (a, rest) b.3 in
      record { prefix = k.prefix; whole = k.whole ∙ ap (λ p. k.prefix ++ p.1) same; derives = subst (λ (p : Constraint × List ConstraintPart). IsAnd depth k.prefix p.0) same (an_and k.derives) }

  or_sound : Sound (IsOr depth) (or_of inner)
  unfolding or_of
  or_sound parts a rest e =
      let b = read_twice (chain_of (or_turn (and_of inner)) (and_of inner) parts) (λ chain end. Some (or_chain chain.0 chain.1, end)) a rest e in
      let k = chain_sound part.Or (and_of inner) (or_turn (and_of inner)) (or_grows (and_of inner)) (IsAnd depth) (AreOrs depth) (λ ps x d. or_first d) (λ before after x y xs d f. or_next d f) and_sound parts b.0.0 b.0.1 b.1 b.2 in
      let same = same_found (or_chain b.0.0 b.0.1, b.1) (a, rest) b.3 in
      record { prefix = k.prefix; whole = k.whole ∙ ap (λ p. k.prefix ++ p.1) same; derives = subst (λ (p : Constraint × List ConstraintPart). IsOr depth k.prefix p.0) same (an_or k.derives) }

below_sound : (depth : ℕ) → Sound (Below IsOr depth) (or_below depth)
unfolding or_below
below_sound zero parts a rest e = absurd (cc)
below_sound (suc depth) parts a rest e = or_sound depth (or_below depth) (below_sound depth) parts a rest e

-- parts that are read whole are that expression
pub whole_expression : (depth : ℕ) (parts : List ConstraintPart) (x : Constraint) (rest : List ConstraintPart) → or_of (or_below depth) parts ≡ Some (x, rest) → rest ≡ [] → IsOr depth parts x
whole_expression depth parts x rest e done =
    let k = or_sound depth (or_below depth) (below_sound depth) parts x rest e in
    subst (λ (w : List ConstraintPart). IsOr depth w x) (sym (k.whole ∙ ap (λ w. k.prefix ++ w) done ∙ append-nil k.prefix)) k.derives

-- the same, where the number of levels is known by an equation
pub whole_below : (depth n : ℕ) → n ≡ suc depth → (parts : List ConstraintPart) (x : Constraint) (rest : List ConstraintPart) → or_below n parts ≡ Some (x, rest) → rest ≡ [] → IsOr depth parts x
unfolding or_below
whole_below depth n is parts x rest e done = whole_expression depth parts x rest (subst (λ (m : ℕ). or_below m parts ≡ Some (x, rest)) is e) done
