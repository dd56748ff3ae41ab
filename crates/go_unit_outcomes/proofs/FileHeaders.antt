-- A file has a header, or one fault of it.
use Rattle.std.proofs.Common.{◌≡◌, ◌⊎◌, ℕ, zero, suc, ◌-◌, ◌<◌, ◌≤◌, Bool, true, false, List, [], ◌∷◌, length, take, drop, Option, Some, None, refl, sym, ap, ◌∙◌, subst, inl, inr, arith}
use Rattle.std.specs.Prelude.{if◌then◌else◌}
use Rattle.std.proofs.lemmas.List.{length-drop}
use Rattle.go_base.specs.Comments.{IsFront, comment_len, front_end, front_more, is_space, piece_len, without_mark}
use Rattle.go_existence.specs.Existence.{NotNone}
use Rattle.go_existence.proofs.DoubleNegation.{decided, so, sure, bind}
use Rattle.go_model.specs.declared.files.build.Constraint.{Constraint}
use Rattle.go_model.specs.declared.files.build.Header.{Header}
use Rattle.go_model.specs.files.BuildConstraints.{IsExpression}
use Rattle.go_model.specs.files.Headers.{BeginsClause, HasBadExpression, HasHeader, HasPlusAlone, HasTwoBuildLines, IsClause, IsConstraint, IsHeader, build_texts, has_plus_line, opening_comments}
use Rattle.go_unit_outcomes.proofs.FileTokens.{comment_some}

piece_by : (b : Bool) (bytes : List ℕ) (n : ℕ) → (if b then Some 1 else comment_len bytes) ≡ Some n → 0 < n
piece_by true bytes n e = let f : 1 ≡ n = cc in omega (arith, f)
piece_by false bytes n e = comment_some bytes n e

piece_some : (bytes : List ℕ) (n : ℕ) → piece_len bytes ≡ Some n → (0 < n) × (0 < length bytes)
piece_some [] n e = absurd (let f : ◌≡◌ {A = Option ℕ} None (Some n) = e in cc)
piece_some (b ∷ bs) n e = (piece_by (is_space b) (b ∷ bs) n e, omega arith)

abbrev Front : List ℕ → Type 0
Front bytes = (pieces : List (List ℕ)) × (rest : List ℕ) × IsFront bytes pieces rest

piece_or : (o : Option ℕ) → ((n : ℕ) × (o ≡ Some n)) ⊎ (o ≡ None)
piece_or None = inr refl
piece_or (Some n) = inl (n, refl)

front_to : (k : ℕ) (bytes : List ℕ) → length bytes ≤ k → Front bytes
front_to zero bytes few = elim (piece_or (piece_len bytes)) [
  | inl n ↦ absurd (let s = (piece_some bytes n.0 n.1).1 in omega (arith, s, few))
  | inr e ↦ ([], bytes, front_end e)
]
front_to (suc k) bytes few = elim (piece_or (piece_len bytes)) [
  | inl n ↦ (
      let s = piece_some bytes n.0 n.1 in
      let r = front_to k (drop n.0 bytes) (let l = length-drop n.0 bytes in let a = s.0 in let b = s.1 in omega (arith, l, a, b, few)) in
      (take n.0 bytes ∷ r.0, r.1, front_more n.1 r.2)
      )
  | inr e ↦ ([], bytes, front_end e)
]

-- ---- headers

clause : (bytes : List ℕ) → NotNone ((o : Option (List ℕ)) × IsClause bytes o)
clause bytes = so (decided ((name : List ℕ) × BeginsClause bytes name)) (λ d. elim d [ inl n ↦ (Some n.0, n.1) | inr never ↦ (None, λ name k. never (name, k)) ])

abbrev Headed : List ℕ → Type 0
Headed bytes = ((h : Header) × IsHeader bytes h) ⊎ (HasBadExpression bytes ⊎ (HasTwoBuildLines bytes ⊎ HasPlusAlone bytes))

module _ (bytes : List ℕ) (comments : List (List ℕ)) (rest : List ℕ) (has : HasHeader bytes comments rest) (o : Option (List ℕ)) (is : IsClause rest o) where
  none_by : (b : Bool) → has_plus_line comments ≡ b → build_texts comments ≡ [] → Headed bytes
  none_by true p e = inr (inr (inr (comments, rest, has, e, p)))
  none_by false p e = inl (record { constraint = None; clause = o }, (comments, rest, has, subst (λ (ts : List (List ℕ)). IsConstraint ts (has_plus_line comments) None) (sym e) p, is))

  one_by : (text : List ℕ) → build_texts comments ≡ text ∷ [] → NotNone (Headed bytes)
  one_by text e = so (decided ((c : Constraint) × IsExpression text c)) (λ d. elim d [
    | inl c ↦ inl (record { constraint = Some c.0; clause = o }, (comments, rest, has, subst (λ (ts : List (List ℕ)). IsConstraint ts (has_plus_line comments) (Some c.0)) (sym e) c.1, is))
    | inr never ↦ inr (inl (comments, rest, has, text, e, λ c k. never (c, k)))
  ])

  by_texts : (ts : List (List ℕ)) → build_texts comments ≡ ts → NotNone (Headed bytes)
  by_texts [] e = sure (none_by (has_plus_line comments) refl e)
  by_texts (t ∷ []) e = one_by t e
  by_texts (t ∷ u ∷ ts) e = sure (inr (inr (inl (comments, rest, has, (let l : length (build_texts comments) ≡ length (t ∷ u ∷ ts) = ap length e in omega (arith, l))))))

pub header_or_fault : (bytes : List ℕ) → NotNone (((h : Header) × IsHeader bytes h) ⊎ (HasBadExpression bytes ⊎ (HasTwoBuildLines bytes ⊎ HasPlusAlone bytes)))
header_or_fault bytes =
    let f = front_to (length (without_mark bytes)) (without_mark bytes) (omega arith) in
    let comments = opening_comments true f.0 in
    bind (clause f.1) (λ c. by_texts bytes comments f.1 (record { pieces = f.0; front = f.2; opening = refl }) c.0 c.1 (build_texts comments) refl)
