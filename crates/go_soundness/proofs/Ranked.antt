-- Ranks tell which declarations have one.
use Rattle.std.proofs.Common.{◌≡◌, ℕ, zero, suc, ◌<◌, Option, Some, None, length, ap, arith}
use Rattle.std.specs.Option.{unwrap_or}
use Rattle.go_typings.specs.Declarations.{declarations}
use Rattle.go_typings.specs.PackageEnvironments.{Entries, environment}
use Rattle.go_typings.specs.Sources.{PackageSource, Setting}
use Rattle.go_typings.proofs.SoundDeclarations.{refers_within}
use Rattle.go_soundness.proofs.OwnReferences.{strong_depends}
use Rattle.go_soundness.specs.Ranks.{AreRanks, ComesAfter, HasRank, ranked}

module _ (s : Setting) (u : PackageSource) (a : Entries) (ranks : ℕ → Option ℕ) (k : AreRanks s u a ranks) where
  by_rank : (b m r : ℕ) → r < b → ranks m ≡ Some r → HasRank s u a m
  by_rank zero m r l e = absurd (omega (arith, l))
  by_rank (suc b) m r l e = ranked (λ n h. let q = k.falls m n r e h in let o = q.2 in by_rank b n q.0 (omega (arith, o, l)) q.1)

  pub has_rank : (m r : ℕ) → ranks m ≡ Some r → HasRank s u a m
  has_rank m r e = by_rank (suc r) m r (omega arith) e

  -- one without a rank comes after another without one, and that is declared
  pub no_rank : (m : ℕ) → m < length (declarations u) → ranks m ≡ None → HasRank s u a m → ⊥
  no_rank m l e (ranked h) = let q = k.stuck m l e in no_rank q.0 (named q.0 q.1) q.2 (h q.0 q.1)
    where
      named : (n : ℕ) → ComesAfter s u a m n → n < length (declarations u)
      named n c = refers_within u c.0.form n (strong_depends (environment s u a c.0) u c.0.form n c.2)

  -- the ranks as numbers fall
  pub rank_falls : (m n r : ℕ) → ranks m ≡ Some r → ComesAfter s u a m n → unwrap_or (ranks n) 0 < unwrap_or (ranks m) 0
  rank_falls m n r e h = let q = k.falls m n r e h in let o = q.2 in let x = ap (λ c. unwrap_or c 0) e in let y = ap (λ c. unwrap_or c 0) q.1 in omega (arith, o, x, y)
