-- The least flagged number of a row that isn't its own, member by member.
use Rattle.std.proofs.Common.{◌≡◌, ◌≢◌, ◌<◌, ◌≤◌, ◌+◌, ℕ, Bool, true, false, List, Option, None, Some, arith, get_or, length, take, refl, sym, ◌∙◌, subst, ◌⊎◌, inl, inr}
use Rattle.go_base.specs.Lists.{Has}
use Rattle.go_graphs.specs.Flags.{is_flagged}
use Rattle.std.proofs.lemmas.Bool.Decides.{nat_tests}
use Rattle.std.specs.Prelude.{◌==◌, if◌then◌else◌, nat_lt}
use Rattle.go_graphs.proofs.Flagging.{apart, either}
use Rattle.go_graphs.proofs.Members.{has_before, has_more, has_next}
use Rattle.go_reach.specs.LeastOthers.{IsLeastOther, IsOther, lesser, with_next}

less_or_not : (m n : ℕ) → (m < n) ⊎ (n ≤ m)
less_or_not m n = grind arith

is_less : (m n : ℕ) → m < n → nat_lt m n ≡ true
is_less m n h = grind (arith, nat_tests, h)

not_less : (m n : ℕ) → n ≤ m → nat_lt m n ≡ false
not_less m n h = grind (arith, nat_tests, h)

same_some : (x y : ℕ) → ◌≡◌ {A = Option ℕ} (Some x) (Some y) → x ≡ y
same_some x y e = cc

no_some : (x : ℕ) → ◌≡◌ {A = Option ℕ} None (Some x) → ⊥
no_some x e = absurd (cc)

module _ (flags : List Bool) (n : ℕ) (row : List ℕ) (i : ℕ) (within : i < length row) where
  abbrev k : ℕ
  k = get_or row i 0

  before : {m : ℕ} → IsOther (take i row) flags n m → IsOther (take (i + 1) row) flags n m
  before {m = m} o = record { other = o.other; has = has_before row i m o.has; flagged = o.flagged }

  split : {m : ℕ} → IsOther (take (i + 1) row) flags n m → IsOther (take i row) flags n m ⊎ (k ≡ m)
  split {m = m} o = elim (has_more row i m within o.has) [ inl h ↦ inl (record { other = o.other; has = h; flagged = o.flagged }) | inr e ↦ inr e ]

  -- the next member isn't another that is flagged
  pub least_same : (least : Option ℕ) → (k ≢ n → is_flagged flags k ≡ true → ⊥) → IsLeastOther (take i row) flags n least → IsLeastOther (take (i + 1) row) flags n least
  least_same None out l = λ m o. elim (split o) [ inl p ↦ l m p | inr e ↦ out (λ q. o.other (sym e ∙ q)) (subst (λ (z : ℕ). is_flagged flags z ≡ true) (sym e) o.flagged) ]
  least_same (Some b) out l = (before l.0, λ m h o. elim (split o) [ inl p ↦ l.1 m h p | inr e ↦ out (λ q. o.other (sym e ∙ q)) (subst (λ (z : ℕ). is_flagged flags z ≡ true) (sym e) o.flagged) ])

  -- it isn't less
  pub least_kept : (b : ℕ) → b ≤ k → IsLeastOther (take i row) flags n (Some b) → IsLeastOther (take (i + 1) row) flags n (Some b)
  least_kept b h l = (before l.0, λ m g o. elim (split o) [ inl p ↦ l.1 m g p | inr e ↦ omega (arith, h, g, e) ])

  -- it is the least
  pub least_new : (least : Option ℕ) → k ≢ n → is_flagged flags k ≡ true → ((b : ℕ) → least ≡ Some b → k < b) → IsLeastOther (take i row) flags n least → IsLeastOther (take (i + 1) row) flags n (Some k)
  least_new least o f less l = (record { other = o; has = has_next row i within; flagged = f }, λ m g p. elim (split p) [ inl q ↦ below least less l m g q | inr e ↦ omega (arith, g, e) ])
    where
      below : (c : Option ℕ) → ((b : ℕ) → c ≡ Some b → k < b) → IsLeastOther (take i row) flags n c → (m : ℕ) → m < k → IsOther (take i row) flags n m → ⊥
      below None h w m g q = w m q
      below (Some b) h w m g q = w.1 m (let z = h b refl in omega (arith, g, z)) q

  least_by : (least : Option ℕ) → k ≢ n → is_flagged flags k ≡ true → IsLeastOther (take i row) flags n least → IsLeastOther (take (i + 1) row) flags n (lesser least k)
  least_by None o f l = least_new None o f (λ b e. absurd (no_some b e)) l
  least_by (Some b) o f l = elim (less_or_not k b) [
    | inl h ↦ subst (λ (t : Bool). IsLeastOther (take (i + 1) row) flags n (if t then Some k else Some b)) (sym (is_less k b h)) (least_new (Some b) o f (λ c e. let q = same_some b c e in omega (arith, h, q)) l)
    | inr h ↦ subst (λ (t : Bool). IsLeastOther (take (i + 1) row) flags n (if t then Some k else Some b)) (sym (not_less k b h)) (least_kept b h l)
  ]

  -- the next member counts, or not
  pub least_next : (least : Option ℕ) → IsLeastOther (take i row) flags n least → IsLeastOther (take (i + 1) row) flags n (with_next flags n least k)
  least_next least l = elim (either (k == n)) [
    | inl e ↦ subst (λ (t : Bool). IsLeastOther (take (i + 1) row) flags n (if t then least else (if is_flagged flags k then lesser least k else least))) (sym e) (least_same least (λ o f. o (grind (arith, nat_tests, e))) l)
    | inr e ↦ subst (λ (t : Bool). IsLeastOther (take (i + 1) row) flags n (if t then least else (if is_flagged flags k then lesser least k else least))) (sym e) (elim (either (is_flagged flags k)) [
      | inl f ↦ subst (λ (t : Bool). IsLeastOther (take (i + 1) row) flags n (if t then lesser least k else least)) (sym f) (least_by least (λ q. absurd (grind (arith, nat_tests, e, q))) f l)
      | inr f ↦ subst (λ (t : Bool). IsLeastOther (take (i + 1) row) flags n (if t then lesser least k else least)) (sym f) (least_same least (λ o g. apart (sym g ∙ f)) l)
    ])
  ]
