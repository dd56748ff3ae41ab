-- The indices of slice expressions: what they make of a slice, and where they make nothing.
use Rattle.std.proofs.Common.{◌≡◌, ℕ, true, false, Option, subst, [], ◌∷◌}
use Rattle.go_rules.specs.Environments.{Env}
use Rattle.go_rules.specs.Expressions.{Ascend, IsIndex, Slices}
use Rattle.go_rules.specs.declared.operand.Operand.{Operand}
use Rattle.go_rules.proofs.OneResult.{one_index, one_limit}
use Rattle.go_elements.specs.SliceExpressions.{IsOptionalIndex, SlicesSimply, slices_simply, SlicesFully, slices_fully}
use Rattle.go_elements.proofs.IndexValues.{one_optional}
use Rattle.go_elements.proofs.Slicing.{Pair}

abbrev pub Ascends : Option ℕ → Option ℕ → Option ℕ → Type 0
Ascends i j n = Ascend (i ∷ j ∷ []) n

abbrev pub AscendThrough : Option ℕ → Option ℕ → Option ℕ → Option ℕ → Type 0
AscendThrough i j k n = Ascend (i ∷ j ∷ k ∷ []) n

ascends_so : {h i j k m n : Option ℕ} → h ≡ i → j ≡ k → m ≡ n → Ascends h j m → Ascends i k n
ascends_so {i = i} {j = j} {k = k} {m = m} {n = n} e f g a =
    subst (Ascends i k) g (subst (λ (x : Option ℕ). Ascends i x m) f (subst (λ (x : Option ℕ). Ascends x j m) e a))

through_so : {f g h i j k m n : Option ℕ} → f ≡ g → h ≡ i → j ≡ k → m ≡ n → AscendThrough f h j m → AscendThrough g i k n
through_so {g = g} {h = h} {i = i} {j = j} {k = k} {m = m} {n = n} p q r s a =
    subst (AscendThrough g i k) s (subst (λ (x : Option ℕ). AscendThrough g i x m) r (subst (λ (x : Option ℕ). AscendThrough g x j m) q (subst (λ (x : Option ℕ). AscendThrough x h j m) p a)))

module _ (E : Env) (o : Operand) (low : Option Operand) where
  -- ---- two indices

  simple_slice : {high : Option Operand} {r : Operand} → SlicesSimply E o low high r → (p : Pair) × Slices E true o p.0 p.1
  simple_slice (slices_simply {r = r} {n = n} s a b d) = ((n, r), s)

  simple_ascends : {high : Option Operand} {r s : Operand} {i j n : Option ℕ} → Slices E true o n r → IsOptionalIndex E low i → IsOptionalIndex E high j → SlicesSimply E o low high s → Ascends i j n
  simple_ascends t x y (slices_simply s a b d) = ascends_so (one_optional E a x) (one_optional E b y) (one_limit s t) d

  pub simple_no_slice : (high : Option Operand) → ((p : Pair) → Slices E true o p.0 p.1 → ⊥) → (r : Operand) → SlicesSimply E o low high r → ⊥
  simple_no_slice high none r x = none _ (simple_slice x).1

  pub simple_some : (high : Option Operand) (i j n : Option ℕ) (r : Operand) → Slices E true o n r → IsOptionalIndex E low i → IsOptionalIndex E high j → Ascends i j n → SlicesSimply E o low high r
  simple_some high i j n r s a b d = slices_simply s a b d

  pub simple_none : (high : Option Operand) (i j n : Option ℕ) (r : Operand) → Slices E true o n r → IsOptionalIndex E low i → IsOptionalIndex E high j → (Ascends i j n → ⊥) → (s : Operand) → SlicesSimply E o low high s → ⊥
  simple_none high i j n r s a b d q x = d (simple_ascends s a b x)

  -- ---- three indices

  full_bound : {high bound r : Operand} → SlicesFully E o low high bound r → (i : Option ℕ) × IsIndex E bound i
  full_bound (slices_fully s a b c d) = (_, c)

  full_slice : {high bound r : Operand} → SlicesFully E o low high bound r → (p : Pair) × Slices E false o p.0 p.1
  full_slice (slices_fully {r = r} {n = n} s a b c d) = ((n, r), s)

  full_ascends : {high bound r s : Operand} {i j k n : Option ℕ} → Slices E false o n r → IsOptionalIndex E low i → IsIndex E high j → IsIndex E bound k → SlicesFully E o low high bound s → AscendThrough i j k n
  full_ascends t x y z (slices_fully s a b c d) = through_so (one_optional E a x) (one_index b y) (one_index c z) (one_limit s t) d

  module _ (high bound : Operand) where
    pub full_no_bound : ((i : Option ℕ) → IsIndex E bound i → ⊥) → (r : Operand) → SlicesFully E o low high bound r → ⊥
    full_no_bound none r x = none _ (full_bound x).1

    pub full_no_slice : ((p : Pair) → Slices E false o p.0 p.1 → ⊥) → (r : Operand) → SlicesFully E o low high bound r → ⊥
    full_no_slice none r x = none _ (full_slice x).1

    pub full_some : (i j k n : Option ℕ) (r : Operand) → Slices E false o n r → IsOptionalIndex E low i → IsIndex E high j → IsIndex E bound k → AscendThrough i j k n → SlicesFully E o low high bound r
    full_some i j k n r s a b c d = slices_fully s a b c d

    pub full_none : (i j k n : Option ℕ) (r : Operand) → Slices E false o n r → IsOptionalIndex E low i → IsIndex E high j → IsIndex E bound k → (AscendThrough i j k n → ⊥) → (s : Operand) → SlicesFully E o low high bound s → ⊥
    full_none i j k n r s a b c d q x = d (full_ascends s a b c x)
