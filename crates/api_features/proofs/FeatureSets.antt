-- The features of a whole world.
use Rattle.std.proofs.Common.{◌≡◌, ℕ, List, [], sym, ap, subst, inl, inr}
use Rattle.go_base.specs.Characters.{BeginsPassing, is_upper}
use Rattle.go_base.specs.Growing.{Grows}
use Rattle.go_base.specs.Lists.{Has}
use Rattle.go_model.specs.declared.types.package.Object.{Object}
use Rattle.go_model.specs.declared.types.package.Package.{Package}
use Rattle.go_model.specs.worlds.Worlds.{Packages}
use Rattle.api_lines.specs.declared.line.Line.{Line}
use Rattle.api_features.specs.Features.{IsFeature, IsFeatureExcept, IsRest}
use Rattle.api_lines.specs.Lines.{IsListing}
use Rattle.api_features.specs.inner.FeatureLines.{IsLineIn, IsObjectLine, IsPackageLine, IsSomeObjectLine}
use Rattle.api_lines.proofs.Growing.{grows_as, OfSome}

pub exported_lines : (world : Packages) (p : Package) (o : Object) (old new : List Line) → BeginsPassing is_upper o.name → Grows (IsLineIn (IsRest world.packages p.path o.name o.entity) p.path) old new → Grows (IsObjectLine world p o) old new
exported_lines world p o old new e g = grows_as (IsLineIn (IsRest world.packages p.path o.name o.entity) p.path) (IsObjectLine world p o) old new (λ l w. (e, w)) (λ l w. w.1) g

pub public_lines : (public except : List (List ℕ)) (world : Packages) (p : Package) (old new : List Line) → Has public p.path → (Has except p.path → ⊥) → Grows (IsSomeObjectLine world p) old new → Grows (IsPackageLine public except world p) old new
public_lines public except world p old new h n g = grows_as (IsSomeObjectLine world p) (IsPackageLine public except world p) old new (λ l w. (h, n, w)) (λ l w. w.2) g

module _ (world : Packages) (public except : List (List ℕ)) (all result : List Line) (p : Grows (Has world.publics) [] public) (g : Grows (OfSome (IsPackageLine public except world) world.packages) [] all) (listed : IsListing (Has all) result) where
  to_feature : (l : Line) → OfSome (IsPackageLine public except world) world.packages l → IsFeatureExcept except world l
  to_feature l w =
      let o = w.2.2 in
      let r = o.2.1 in
      let path : w.0.path ≡ l.path = ap (λ (x : Line). x.path) r.2 in (
        record {
          of = w.0;
          here = w.1;
          public = elim (p.sound w.0.path w.2.0) [ inl n ↦ absurd n | inr h ↦ h ];
          object = o.0;
          there = o.1;
          exported = o.2.0;
          path = path;
          context = sym (ap (λ (x : Line). x.context) r.2);
          rest = subst (IsRest world.packages w.0.path o.0.name o.0.entity) (ap (λ (x : Line). x.rest) r.2) r.1;
        },
        λ h. w.2.1 (subst (Has except) (sym path) h),
      )

  from_feature : (l : Line) → IsFeatureExcept except world l → OfSome (IsPackageLine public except world) world.packages l
  from_feature l w =
      let f = w.0 in
      (f.of, f.here, (p.complete f.of.path f.public, (λ h. w.1 (subst (Has except) f.path h)), (f.object, f.there, (f.exported, (l.rest, f.rest, (λ i. record { path = f.path i; context = sym f.context i; rest = l.rest }))))))

  pub others_listed : IsListing (IsFeatureExcept except world) result
  others_listed = record {
    sound = λ l h. elim (g.sound l (listed.sound l h)) [ inl n ↦ absurd n | inr w ↦ to_feature l w ];
    complete = λ l f. listed.complete l (g.complete l (from_feature l f));
    ordered = listed.ordered;
  }

-- where no package is excepted, all features are listed
pub all_listed : (world : Packages) (result : List Line) → IsListing (IsFeatureExcept [] world) result → IsListing (IsFeature world) result
all_listed world result k = record { sound = λ l h. (k.sound l h).0; complete = λ l f. k.complete l (f, λ n. n); ordered = k.ordered }
