-- Texts that grow piece by piece.
use Rattle.std.proofs.Common.{◌≡◌, ℕ, List, ◌++◌, ap, ◌∙◌, append_assoc}

-- after a piece went one more
pub one_more : (old a b x y : List ℕ) → x ≡ old ++ a → y ≡ x ++ b → y ≡ old ++ (a ++ b)
one_more old a b x y e h = h ∙ ap (λ (w : List ℕ). w ++ b) e ∙ append_assoc old a b
