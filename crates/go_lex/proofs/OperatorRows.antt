-- The longest operator at the start of some bytes.
use Rattle.std.proofs.Common.{◌≡◌, ℕ, ◌<◌, ◌≤◌, Bool, true, false, ◌&&◌, ◌==◌, List, [], ◌∷◌, ◌++◌, length, take, refl, sym, ap, ◌∙◌, subst, arith, Option, Some, None}
use Rattle.std.specs.Prelude.{bytes_eq}
use Rattle.std.specs.List.{list_all}
use Rattle.std.proofs.lemmas.Bool.Decides.{nat_tests}
use Rattle.std.proofs.lemmas.Slice.Eq.{bytes_eq-Decides}
use Rattle.go_syntax.specs.declared.token.TokenKind.{TokenKind}
use Rattle.go_syntax.specs.lexical.Words.{KindTable, kind_in, operators, operators_of_three, operators_of_two, operators_of_one}
use Rattle.go_lex.specs.declared.operator.Operator.{Operator}
use Rattle.go_lex.specs.inner.LongestOperators.{or_shorter, operator_at}
use Rattle.go_lex.proofs.KeywordParts.{or_else, found, missed, kind_in-append}

both : (a b : Bool) → (a && b) ≡ true → (a ≡ true) × (b ≡ true)
both true b h = (refl, h)
both false b h = absurd (cc)

same_some : (k j : TokenKind) → ◌≡◌ {A = Option TokenKind} (Some k) (Some j) → k ≡ j
same_some k j e = cc

-- what holds of each row's text holds of a text in the table
pub in_table : (test : List ℕ → Bool) (table : KindTable) (text : List ℕ) (kind : TokenKind) → list_all (λ row. test row.0) table ≡ true → kind_in table text ≡ Some kind → test text ≡ true
in_table test [] text kind h e = absurd (cc)
in_table test (row ∷ rows) text kind h e =
    let parts = both (test row.0) (list_all (λ r. test r.0) rows) h in
    elim (bytes_eq text row.0) as (λ t. bytes_eq text row.0 ≡ t → test text ≡ true) [
      | true ↦ (λ s. subst (λ (xs : List ℕ). test xs ≡ true) (sym ((bytes_eq-Decides text row.0).0 s)) parts.0)
      | false ↦ (λ s. in_table test rows text kind parts.1 (rw s at e))
    ]
    refl

has_length : ℕ → List ℕ → Bool
has_length n text = length text == n

three_long : list_all (λ row. has_length 3 row.0) operators_of_three ≡ true
unfolding has_length operators_of_three
three_long = refl

two_long : list_all (λ row. has_length 2 row.0) operators_of_two ≡ true
unfolding has_length operators_of_two
two_long = refl

one_long : list_all (λ row. has_length 1 row.0) operators_of_one ≡ true
unfolding has_length operators_of_one
one_long = refl

length_of : (n : ℕ) (text : List ℕ) → has_length n text ≡ true → length text ≡ n
unfolding has_length
length_of n text h = grind (arith, nat_tests)

pub three_length : (text : List ℕ) (kind : TokenKind) → kind_in operators_of_three text ≡ Some kind → length text ≡ 3
three_length text kind e = length_of 3 text (in_table (has_length 3) operators_of_three text kind three_long e)

two_length : (text : List ℕ) (kind : TokenKind) → kind_in operators_of_two text ≡ Some kind → length text ≡ 2
two_length text kind e = length_of 2 text (in_table (has_length 2) operators_of_two text kind two_long e)

one_length : (text : List ℕ) (kind : TokenKind) → kind_in operators_of_one text ≡ Some kind → length text ≡ 1
one_length text kind e = length_of 1 text (in_table (has_length 1) operators_of_one text kind one_long e)

-- a row of one of the three tables
data Row (text : List ℕ) (kind : TokenKind) : Type 0 where
  of_three : kind_in operators_of_three text ≡ Some kind → Row text kind
  of_two : kind_in operators_of_two text ≡ Some kind → Row text kind
  of_one : kind_in operators_of_one text ≡ Some kind → Row text kind

by_parts : (text : List ℕ) → kind_in operators text ≡ or_else (kind_in operators_of_three text) (or_else (kind_in operators_of_two text) (kind_in operators_of_one text))
by_parts text =
    kind_in-append operators_of_three (operators_of_two ++ operators_of_one) text
    ∙ ap (or_else (kind_in operators_of_three text)) (kind_in-append operators_of_two operators_of_one text)

row_from : (text : List ℕ) (kind : TokenKind) (x y z : Option TokenKind) → kind_in operators_of_three text ≡ x → kind_in operators_of_two text ≡ y → kind_in operators_of_one text ≡ z → or_else x (or_else y z) ≡ Some kind → Row text kind
unfolding or_else
row_from text kind (Some k) y z a b c e = of_three (a ∙ e)
row_from text kind None (Some k) z a b c e = of_two (b ∙ e)
row_from text kind None None z a b c e = of_one (c ∙ e)

row_of : (text : List ℕ) (kind : TokenKind) → kind_in operators text ≡ Some kind → Row text kind
row_of text kind e = row_from text kind _ _ _ refl refl refl (sym (by_parts text) ∙ e)

not_three : (text : List ℕ) (o : Option TokenKind) → kind_in operators_of_three text ≡ o → (length text ≡ 3 → ⊥) → o ≡ None
not_three text None e h = refl
not_three text (Some k) e h = absurd (h (three_length text k e))

not_two : (text : List ℕ) (o : Option TokenKind) → kind_in operators_of_two text ≡ o → (length text ≡ 2 → ⊥) → o ≡ None
not_two text None e h = refl
not_two text (Some k) e h = absurd (h (two_length text k e))

row_three : (text : List ℕ) (kind : TokenKind) → kind_in operators_of_three text ≡ Some kind → kind_in operators text ≡ Some kind
row_three text kind e = sym (found _ _ _ kind (by_parts text) e)

row_two : (text : List ℕ) (kind : TokenKind) → length text ≡ 2 → kind_in operators_of_two text ≡ Some kind → kind_in operators text ≡ Some kind
row_two text kind l e =
    let past = missed _ _ _ (by_parts text) (not_three text _ refl (λ h. omega arith)) in
    sym (found _ _ _ kind past e)

row_one : (text : List ℕ) (kind : TokenKind) → length text ≡ 1 → kind_in operators_of_one text ≡ Some kind → kind_in operators text ≡ Some kind
row_one text kind l e =
    let past = missed _ _ _ (by_parts text) (not_three text _ refl (λ h. omega arith)) in
    missed _ _ _ past (not_two text _ refl (λ h. omega arith)) ∙ e

-- an operator is no longer than the one found
pub record OperatorClaim (text : List ℕ) (kind : TokenKind) (o : Operator) : Type 0 where
  pub bound : length text ≤ o.len
  pub same : length text ≡ o.len → kind ≡ o.kind

abbrev Claimed : List ℕ → List ℕ → TokenKind → Type 0
Claimed bytes text kind = (o : Operator) × (operator_at bytes ≡ Some o) × OperatorClaim text kind o

longer : (text : List ℕ) (kind j : TokenKind) (n : ℕ) (rest : Option Operator) (first : Option TokenKind) → length text < n → ((o : Operator) × (rest ≡ Some o) × OperatorClaim text kind o)
    → (o : Operator) × (or_shorter n first rest ≡ Some o) × OperatorClaim text kind o
longer text kind j n rest None h c = c
longer text kind j n rest (Some k) h c = (record { kind = k; len = n }, refl, record { bound = omega arith; same = λ e. absurd (omega arith) })

exact : (text : List ℕ) (kind : TokenKind) (n : ℕ) (rest : Option Operator) (first : Option TokenKind) → length text ≡ n → first ≡ Some kind → (o : Operator) × (or_shorter n first rest ≡ Some o) × OperatorClaim text kind o
exact text kind n rest first l e =
    (record { kind = kind; len = n }, ap (λ (x : Option TokenKind). or_shorter n x rest) e, record { bound = omega arith; same = λ _. refl })

claim_three : (text more : List ℕ) (kind : TokenKind) → kind_in operators_of_three text ≡ Some kind → length text ≡ 3 → Claimed (text ++ more) text kind
claim_three [] more kind e l = absurd (omega arith)
claim_three (a ∷ []) more kind e l = absurd (omega arith)
claim_three (a ∷ (b ∷ [])) more kind e l = absurd (omega arith)
claim_three (a ∷ (b ∷ (c ∷ []))) more kind e l = exact (a ∷ (b ∷ (c ∷ []))) kind 3 _ _ refl e
claim_three (a ∷ (b ∷ (c ∷ (d ∷ ds)))) more kind e l = absurd (omega arith)

claim_two : (text more : List ℕ) (kind : TokenKind) → kind_in operators_of_two text ≡ Some kind → length text ≡ 2 → Claimed (text ++ more) text kind
claim_two [] more kind e l = absurd (omega arith)
claim_two (a ∷ []) more kind e l = absurd (omega arith)
claim_two (a ∷ (b ∷ [])) [] kind e l = exact (a ∷ (b ∷ [])) kind 2 _ _ refl e
claim_two (a ∷ (b ∷ [])) (c ∷ cs) kind e l = longer (a ∷ (b ∷ [])) kind kind 3 _ _ (omega arith) (exact (a ∷ (b ∷ [])) kind 2 _ _ refl e)
claim_two (a ∷ (b ∷ (c ∷ cs))) more kind e l = absurd (omega arith)

claim_one : (text more : List ℕ) (kind : TokenKind) → kind_in operators_of_one text ≡ Some kind → length text ≡ 1 → Claimed (text ++ more) text kind
claim_one [] more kind e l = absurd (omega arith)
claim_one (a ∷ []) [] kind e l = exact (a ∷ []) kind 1 _ _ refl e
claim_one (a ∷ []) (b ∷ []) kind e l = longer (a ∷ []) kind kind 2 _ _ (omega arith) (exact (a ∷ []) kind 1 _ _ refl e)
claim_one (a ∷ []) (b ∷ (c ∷ cs)) kind e l = longer (a ∷ []) kind kind 3 _ _ (omega arith) (longer (a ∷ []) kind kind 2 _ _ (omega arith) (exact (a ∷ []) kind 1 _ _ refl e))
claim_one (a ∷ (b ∷ bs)) more kind e l = absurd (omega arith)

claim_row : (text more : List ℕ) (kind : TokenKind) → Row text kind → Claimed (text ++ more) text kind
claim_row text more kind (of_three e) = claim_three text more kind e (three_length text kind e)
claim_row text more kind (of_two e) = claim_two text more kind e (two_length text kind e)
claim_row text more kind (of_one e) = claim_one text more kind e (one_length text kind e)

pub operator_claim : (text more : List ℕ) (kind : TokenKind) → kind_in operators text ≡ Some kind → Claimed (text ++ more) text kind
operator_claim text more kind e = claim_row text more kind (row_of text kind e)

-- the operator found stands there
pub record OperatorStands (bytes : List ℕ) (o : Operator) : Type 0 where
  pub some : 0 < o.len
  pub within : o.len ≤ length bytes
  pub stands : kind_in operators (take o.len bytes) ≡ Some o.kind

same_operator : (o p : Operator) → ◌≡◌ {A = Option Operator} (Some o) (Some p) → o ≡ p
same_operator o p e = cc

-- the operator of so many bytes, or a shorter one
stands_or : (bytes : List ℕ) (n : ℕ) (first : Option TokenKind) (rest : Option Operator) (o : Operator) → ((k : TokenKind) → first ≡ Some k → OperatorStands bytes (record { kind = k; len = n })) → (rest ≡ Some o → OperatorStands bytes o)
    → or_shorter n first rest ≡ Some o → OperatorStands bytes o
stands_or bytes n None rest o f g e = g e
stands_or bytes n (Some k) rest o f g e = subst (OperatorStands bytes) (same_operator (record { kind = k; len = n }) o e) (f k refl)

stands_one : (a : ℕ) (bs : List ℕ) (k : TokenKind) → kind_in operators_of_one (a ∷ []) ≡ Some k → OperatorStands (a ∷ bs) (record { kind = k; len = 1 })
stands_one a bs k e = record { some = omega arith; within = omega arith; stands = row_one (a ∷ []) k refl e }

stands_two : (a b : ℕ) (bs : List ℕ) (k : TokenKind) → kind_in operators_of_two (a ∷ (b ∷ [])) ≡ Some k → OperatorStands (a ∷ (b ∷ bs)) (record { kind = k; len = 2 })
stands_two a b bs k e = record { some = omega arith; within = omega arith; stands = row_two (a ∷ (b ∷ [])) k refl e }

stands_three : (a b c : ℕ) (bs : List ℕ) (k : TokenKind) → kind_in operators_of_three (a ∷ (b ∷ (c ∷ []))) ≡ Some k → OperatorStands (a ∷ (b ∷ (c ∷ bs))) (record { kind = k; len = 3 })
stands_three a b c bs k e = record { some = omega arith; within = omega arith; stands = row_three (a ∷ (b ∷ (c ∷ []))) k e }

none_stands : (bytes : List ℕ) (o : Operator) → ◌≡◌ {A = Option Operator} None (Some o) → OperatorStands bytes o
none_stands bytes o e = absurd (cc)

pub operator_stands : (bytes : List ℕ) (o : Operator) → operator_at bytes ≡ Some o → OperatorStands bytes o
operator_stands [] o e = none_stands [] o e
operator_stands (a ∷ []) o e = stands_or (a ∷ []) 1 _ _ o (stands_one a []) (none_stands (a ∷ []) o) e
operator_stands (a ∷ (b ∷ [])) o e =
    stands_or (a ∷ (b ∷ [])) 2 _ _ o (stands_two a b []) (stands_or (a ∷ (b ∷ [])) 1 _ _ o (stands_one a (b ∷ [])) (none_stands (a ∷ (b ∷ [])) o)) e
operator_stands (a ∷ (b ∷ (c ∷ cs))) o e =
    let bytes = a ∷ (b ∷ (c ∷ cs)) in
    stands_or bytes 3 _ _ o (stands_three a b c cs) (stands_or bytes 2 _ _ o (stands_two a b (c ∷ cs)) (stands_or bytes 1 _ _ o (stands_one a (b ∷ (c ∷ cs))) (none_stands bytes o))) e
