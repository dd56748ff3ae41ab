-- At most one release follows.
use Rattle.std.proofs.Common.{◌≡◌, Option, Some, None, refl, ap, arith}
use Rattle.api_advice.specs.Advice.{IsNext, IsNotAfter}
use Rattle.api_advice.specs.declared.class.Class.{Class}
use Rattle.api_advice.specs.declared.release.Release.{Release}

one_of : (a b : Release) → IsNotAfter a b → IsNotAfter b a → a ≡ b
one_of a b h k =
    let major : a.major ≡ b.major = grind arith in
    let minor : a.minor ≡ b.minor = grind arith in
    let patch : a.patch ≡ b.patch = grind arith in
    λ i. record { major = major i; minor = minor i; patch = patch i }

pub same_next : (r : Release) (c : Class) (a b : Option Release) → IsNext r c a → IsNext r c b → a ≡ b
same_next r c None None h k = refl
same_next r c None (Some b) h k = absurd (omega (arith, h, k.0))
same_next r c (Some a) None h k = absurd (omega (arith, h.0, k))
same_next r c (Some a) (Some b) h k = ap Some (one_of a b (h.1.least b k.1.allowed) (k.1.least a h.1.allowed))
