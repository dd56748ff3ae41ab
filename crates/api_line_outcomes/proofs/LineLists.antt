-- Lists of lines that the definitions give.
use Rattle.std.proofs.Common.{◌≡◌, ◌⊎◌, ℕ, List, [], ◌∷◌, Option, Some, None, refl, sym, subst, inl, inr}
use Rattle.std.specs.List.{zip}
use Rattle.go_base.specs.Lists.{Has}
use Rattle.go_existence.specs.Existence.{AreFinite, NotNone}
use Rattle.go_existence.proofs.DoubleNegation.{so}
use Rattle.go_existence.proofs.FiniteSets.{finite_image, finite_less, finite_list, finite_or, finite_over}
use Rattle.go_existence.proofs.OrderedTexts.{in_order, strictly}
use Rattle.go_model.specs.declared.files.platform.Platform.{Platform}
use Rattle.go_model.specs.worlds.Worlds.{Packages}
use Rattle.api_features.specs.Features.{IsFeature}
use Rattle.api_lines.specs.Lines.{IsListing, in_context, printed}
use Rattle.api_lines.specs.Merging.{IsMerged, IsMergedIn, IsOn}
use Rattle.api_lines.specs.declared.line.Line.{Line}
use Rattle.api_line_outcomes.proofs.FeatureSets.{features_finite}

pub listing : (P : Line → Type 0) → AreFinite P → NotNone ((lines : List Line) × IsListing P lines)
listing P h = so (in_order printed P h) (λ k. (k.0, record { sound = k.1.sound; complete = k.1.complete; ordered = strictly printed k.0 k.2 }))

pub features_listed : (w : Packages) → NotNone ((lines : List Line) × IsListing (IsFeature w) lines)
features_listed w = listing (IsFeature w) (features_finite w)

module _ (lists : List (List Line)) (platforms : List Platform) where
  -- a line of one of the lists, in a context or in none
  abbrev pairs : List (List Line × Platform)
  pairs = zip lists platforms

  abbrev IsListed : Line → Type 0
  IsListed l = (pair : List Line × Platform) × Has pairs pair × Has pair.0 l

  abbrev IsIn : (Line → Line) → Line → Type 0
  IsIn f l = (m : Line) × IsListed m × (f m ≡ l)

  abbrev Possible : Line → Type 0
  Possible l = IsListed l ⊎ ((p : List Line × Platform) × Has pairs p × IsIn (in_context (Some p.1)) l)

  listed_finite : AreFinite IsListed
  listed_finite = finite_over (Has pairs) (λ (pair : List Line × Platform). Has pair.0) (finite_list pairs) (λ p h. finite_list p.0)

  possible : (l : Line) → IsMerged lists platforms l → Possible l
  possible l h = by l.context refl h
    where
      listed : (p : Platform) (m : Line) → IsOn lists platforms p m → IsListed m
      listed p m on = ((on.0, p), on.1, on.2)

      by : (c : Option Platform) → l.context ≡ c → IsMergedIn lists platforms c l → Possible l
      by None e k = inl (listed k.0.0 l k.0.1)
      by (Some p) e k = inr ((k.0.0, p), k.0.1, (in_context None l, listed p (in_context None l) k.0, λ i. record { path = l.path; context = sym e i; rest = l.rest }))

  pub lines_merged : NotNone ((merged : List Line) × IsListing (IsMerged lists platforms) merged)
  lines_merged =
      listing (IsMerged lists platforms)
      (finite_less (IsMerged lists platforms) Possible possible
      (finite_or IsListed (λ l. (p : List Line × Platform) × Has pairs p × IsIn (in_context (Some p.1)) l) listed_finite
      (finite_over (Has pairs) (λ (p : List Line × Platform). IsIn (in_context (Some p.1))) (finite_list pairs) (λ p h. finite_image (in_context (Some p.1)) IsListed listed_finite))))
