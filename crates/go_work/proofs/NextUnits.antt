-- What the next unit does to the world of those before it.
use Rattle.std.proofs.Common.{◌≡◌, ℕ, suc, List, [], ◌∷◌, ◌++◌, Some, length, slice_get, refl, sym, ap, ◌∙◌, subst, inl, inr}
use Rattle.go_base.specs.Lists.{Has}
use Rattle.go_check.specs.Answers.{IsRefusedAs, refusal_of}
use Rattle.go_check.specs.declared.error.CheckError.{CheckError}
use Rattle.go_check.specs.declared.error.CheckError.TheVariants as check
use Rattle.go_model.specs.worlds.Worlds.{Packages}
use Rattle.go_sources.specs.UnitSources.{source_of}
use Rattle.go_exposed.specs.OfferedWorlds.{IsFirstRefused, IsWorldOf}
use Rattle.go_exposed.specs.Refusals.{IsRefused}
use Rattle.go_typings.specs.PackageWorlds.{AreTyped, over}
use Rattle.go_typings.specs.Refusals.{Refusal, redeclared, missing_import, unsound}
use Rattle.go_typings.specs.Sources.{PackageSource}
use Rattle.go_units.specs.declared.unit.«Unit».{«Unit» as PackageUnit}
use Rattle.go_work.specs.Answers.{HandsBack, Refuses, sources}
use Rattle.go_work.specs.inner.NextUnits.{IsErrorOf, error_at}
use Rattle.go_work.specs.declared.error.WorkError.{WorkError}
use Rattle.go_work.proofs.TypedUnits.{first_refused}

-- an item that stands in a list is one of it
pub has_at : (front rest : List PackageUnit) (u : PackageUnit) → Has (front ++ u ∷ rest) u
has_at [] rest u = inl refl
has_at (x ∷ front) rest u = inr (has_at front rest u)

got_at : (front rest : List PackageUnit) (u : PackageUnit) → slice_get (front ++ u ∷ rest) (length front) ≡ Some u
got_at [] rest u = refl
got_at (x ∷ front) rest u = got_at front rest u

pub joined : (us vs : List PackageUnit) → sources (us ++ vs) ≡ sources us ++ sources vs
joined [] vs = refl
joined (u ∷ us) vs = ap (λ xs. source_of u ∷ xs) (joined us vs)

as_many : (us : List PackageUnit) → length (sources us) ≡ length us
as_many [] = refl
as_many (u ∷ us) = ap suc (as_many us)

module _ (bits : ℕ) (front rest : List PackageUnit) (u : PackageUnit) (w : Packages) (before : IsWorldOf bits (sources front) w) (imports : AreTyped w (source_of u)) where
  refused_first : (r : Refusal) → IsRefused (over bits w) (source_of u) r → IsFirstRefused bits (sources (front ++ u ∷ rest)) (length front) r
  refused_first r a =
      subst (λ (q : List PackageSource × ℕ). IsFirstRefused bits q.0 q.1 r)
      (λ i. (sym (joined front (u ∷ rest)) i, as_many front i))
      (first_refused bits (sources front) w (source_of u) (sources rest) r before (imports, a))

  refuses_by : (e : CheckError) → IsRefusedAs (over bits w) (source_of u) (refusal_of e) → Refuses bits (sources (front ++ u ∷ rest)) (error_at (length front) u e)
  refuses_by (check.Redeclared p) a = (redeclared p, refl, refused_first (redeclared p) a)
  refuses_by (check.MissingImport p) a = (missing_import p, refl, refused_first (missing_import p) a)
  refuses_by (check.Unsound p) a = (unsound p, refl, refused_first (unsound p) a)
  refuses_by check.NoMemory a = tt

  hands_by : (e : CheckError) → HandsBack (front ++ u ∷ rest) (error_at (length front) u e)
  hands_by (check.Redeclared p) = got_at front rest u
  hands_by (check.MissingImport p) = got_at front rest u
  hands_by (check.Unsound p) = got_at front rest u
  hands_by check.NoMemory = tt

  -- the error of a unit that is refused, and the unit that it hands back
  pub refused_next : (us : List PackageUnit) (n : ℕ) (r : WorkError) → us ≡ front ++ u ∷ rest → n ≡ length front → IsErrorOf bits u n w r → Refuses bits (sources us) r × HandsBack us r
  refused_next us n r parts is a =
      subst (λ (q : List PackageUnit × WorkError). Refuses bits (sources q.0) q.1 × HandsBack q.0 q.1)
      (λ i. (sym parts i, sym (a.2 ∙ ap (λ (m : ℕ). error_at m u a.0) is) i))
      (refuses_by a.0 a.1, hands_by a.0)
