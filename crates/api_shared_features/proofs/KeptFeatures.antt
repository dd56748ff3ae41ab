-- The features of packages that two worlds share stay, and with those of the other packages they are all features of the second world.
use Rattle.std.proofs.Common.{◌≡◌, ◌<◌, ◌+◌, ℕ, Bool, true, false, List, [], ◌∷◌, ◌++◌, length, take, get_or, refl, sym, ap, ◌∙◌, subst, inl, inr, ◌⊎◌}
use mathlib.Core.Bool.{true≢false}
use Rattle.api_features.specs.Features.{IsFeature, IsFeatureExcept}
use Rattle.api_lines.proofs.Growing.{taken as taken_more}
use Rattle.api_lines.specs.Lines.{HasText, IsLineAt, IsListing, IsOfEither, printed}
use Rattle.api_lines.specs.declared.line.Line.{Line}
use Rattle.api_shared_features.proofs.PlainLines.{IsSimple, one_line}
use Rattle.api_shared_features.specs.SharedPackages.{AreShared}
use Rattle.api_shared_features.specs.UnitWorlds.{sources}
use Rattle.api_shared_features.specs.inner.KeptFeatures.{AreKept, IsPlain, IsSomeTakenAndPublic}
use Rattle.go_base.proofs.Members.{each_has}
use Rattle.go_base.specs.Growing.{Grows}
use Rattle.go_base.specs.Keys.{first_with}
use Rattle.go_base.specs.Lists.{Each, Has, Passes}
use Rattle.go_exposed.specs.OfferedWorlds.{IsWorldOf}
use Rattle.go_model.specs.worlds.Worlds.{IsWorld, Packages, path_of}
use Rattle.go_sources.specs.UnitSources.{source_of}
use Rattle.go_taken_units.proofs.go_taken_packages_proofs.OverAll.{nothing_at_empty}
use Rattle.go_taken_units.proofs.go_taken_packages_proofs.SameReach.{or_left}
use Rattle.go_taken_units.proofs.go_taken_packages_proofs.SoFar.{SoFar, among, among_has, held, held_taken, is_held, listed_has, so_far_all, so_far_none, with_paths}
use Rattle.go_taken_units.proofs.go_taken_packages_proofs.TakenOver.{packages}
use Rattle.go_taken_units.proofs.go_taken_packages_proofs.WorldsInOrder.{in_order}
use Rattle.go_taken_units.specs.go_taken_packages.InOrder.{BecomeInOrder, HavePathsOfTheirOwn}
use Rattle.go_taken_units.specs.go_taken_packages.TakenPaths.{AreTaken}
use Rattle.go_taken_units.specs.go_taken_packages.ToldPackages.{is_among}
use Rattle.go_typings.proofs.Cells.{either}
use Rattle.go_typings.proofs.HeldImports.{is_empty, with_empty}
use Rattle.go_typings.specs.PackageWorlds.{Outcome, is_typed}
use Rattle.go_typings.specs.Sources.{PackageSource}
use Rattle.go_units.specs.declared.unit.«Unit».{«Unit» as PackageUnit}

-- ---- what was taken is shared

module _ (bits : ℕ) (us vs : List PackageSource) (w v : Packages) (taken : List ℕ → Bool) (own : HavePathsOfTheirOwn us) (other : HavePathsOfTheirOwn vs) (t : AreTaken us vs taken) (k : IsWorldOf bits us w) (l : IsWorldOf bits vs v) where
  abbrev InOrder : List PackageSource → Packages → Type 0
  InOrder ps p = (xs : List Outcome) × BecomeInOrder bits ps xs p × Passes is_typed xs

  first : InOrder us w
  first = in_order bits us w k

  second : InOrder vs v
  second = in_order bits vs v l

  last : SoFar taken (with_paths taken [] us) w []
  last = so_far_all taken bits [] first.1.become (so_far_none taken us own t.imports first.1.after)

  -- the paths of packages that were taken, and the empty one
  abbrev all_taken : List ℕ → Bool
  all_taken = held taken (with_paths taken [] us)

  abbrev pub reach : List ℕ → Bool
  reach = with_empty all_taken

  same_at : (path : List ℕ) → reach path ≡ true → first_with path_of w.packages path ≡ first_with path_of v.packages path
  same_at path i = elim (either (all_taken path)) [
    | inl h ↦ (let p = packages bits us vs w v taken own other t k l path (held_taken taken (with_paths taken [] us) path h) in p.1 ∙ sym p.2)
    | inr n ↦ (
        let e : path ≡ [] = is_empty all_taken path n i in
        ap (first_with path_of w.packages) e ∙ last.empty ∙ sym (nothing_at_empty bits vs second.0 v other second.1) ∙ ap (first_with path_of v.packages) (sym e)
        )
  ]

  pub taken_shared : AreShared reach w v
  taken_shared = record { same = same_at; closed = last.closed }

  pub taken_reached : (path : List ℕ) → taken path ≡ true → reach path ≡ true
  taken_reached path i =
      let q = t.same path i in
      or_left (all_taken path) _ (is_held taken (with_paths taken [] us) path i (subst (Has (with_paths taken [] us)) q.place (listed_has taken us [] q.source q.here)))

-- the packages of taken paths that are public are kept
pub kept_of : (bits : ℕ) (us vs : List PackageSource) (w v : Packages) (keys public kept : List (List ℕ)) → HavePathsOfTheirOwn us → HavePathsOfTheirOwn vs → AreTaken us vs (is_among keys) → IsWorldOf bits us w → IsWorldOf bits vs v
    → Grows (Has v.publics) [] public → Grows (IsSomeTakenAndPublic keys public w.publics) [] kept → AreKept kept w v
kept_of bits us vs w v keys public kept own other t k l p g = record {
  before = λ path h. (let q = one path h in subst (Has w.publics) q.2.2 q.1);
  now = λ path h. (let q = one path h in subst (Has v.publics) q.2.2 (elim (p.sound q.0 q.2.1) [ inl n ↦ absurd n | inr i ↦ i ]));
  shared = reach bits us vs w v (is_among keys) own other t k l;
  among = λ path h. (let q = one path h in taken_reached bits us vs w v (is_among keys) own other t k l path (subst (λ (x : List ℕ). is_among keys x ≡ true) q.2.2 q.2.0));
  share = taken_shared bits us vs w v (is_among keys) own other t k l;
}
  where
    one : (path : List ℕ) → Has kept path → IsSomeTakenAndPublic keys public w.publics path
    one path h = elim (g.sound path h) [ inl n ↦ absurd n | inr q ↦ q ]

-- the packages with one more
pub sources_more : (us : List PackageUnit) (i : ℕ) (u : PackageUnit) → i < length us → u ≡ get_or us i u → sources (take (i + 1) us) ≡ sources (take i us) ++ source_of u ∷ []
sources_more us i u h is = ap sources (taken_more us i u h is) ∙ behind (take i us)
  where
    behind : (xs : List PackageUnit) → sources (xs ++ u ∷ []) ≡ sources xs ++ source_of u ∷ []
    behind [] = refl
    behind (x ∷ xs) = ap (λ (ys : List PackageSource). source_of x ∷ ys) (behind xs)

-- ---- the listing

-- a feature of the first world is one of the second, where these share its package, which is public there
abbrev pub IsThere : Type 0
IsThere = (shared : List ℕ → Bool) (w v : Packages) (l : Line) → IsWorld w → IsWorld v → AreShared shared w v → shared l.path ≡ true → Has v.publics l.path → IsFeature w l → IsFeature v l

abbrev pub IsTurned : Type 0
IsTurned = (shared : List ℕ → Bool) (w v : Packages) → AreShared shared w v → AreShared shared v w

member_or : (paths : List (List ℕ)) (path : List ℕ) → Has paths path ⊎ (Has paths path → ⊥)
member_or paths path = elim (either (is_among paths path)) [
  | inl e ↦ inl (among_has paths path e)
  | inr e ↦ inr (λ h. true≢false (sym (among paths path h) ∙ e))
]

module _ (there : IsThere) (back : IsTurned) (w v : Packages) (i : IsWorld w) (j : IsWorld v) (plain : Each IsPlain w.publics) (paths : List (List ℕ)) (kept : AreKept paths w v) where
  to_second : (l : Line) → Has paths l.path → IsFeature w l → IsFeature v l
  to_second l h f = there kept.shared w v l i j kept.share (kept.among l.path h) (kept.now l.path h) f

  to_first : (l : Line) → Has paths l.path → IsFeature v l → IsFeature w l
  to_first l h f = there kept.shared v w l j i (back kept.shared w v kept.share) (kept.among l.path h) (kept.before l.path h) f

  simple : (l : Line) → IsFeature w l → IsSimple l
  simple l f = record { context = f.context; path = subst IsPlain f.path (each_has IsPlain w.publics f.of.path plain f.public) }

  module _ (lines stay fresh all : List Line) (a : IsListing (IsFeature w) lines) (b : IsListing (IsLineAt paths lines) stay) (c : IsListing (IsFeatureExcept paths v) fresh) (d : IsListing (IsOfEither stay fresh) all) where
    stays : (l : Line) → Has paths l.path → IsFeature v l → HasText stay (printed l)
    stays l h f =
        let g = to_first l h f in
        let m = a.complete l g in
        let same : m.0 ≡ l = one_line m.0 l (simple m.0 (a.sound m.0 m.1)) (simple l g) m.2 in
        b.complete l (subst (Has lines) same m.1, h)

    of_one : (l m : Line) → IsOfEither stay fresh m → printed m ≡ printed l → HasText all (printed l)
    of_one l m h e = let k = d.complete m h in (k.0, k.1, k.2 ∙ e)

    pub all_features : IsListing (IsFeature v) all
    all_features = record {
      sound = λ l h. elim (d.sound l h) [
        | inl s ↦ (let q = b.sound l s in to_second l q.1 (a.sound l q.0))
        | inr s ↦ (c.sound l s).0
      ];
      complete = λ l f. elim (member_or paths l.path) [
        | inl h ↦ (let m = stays l h f in of_one l m.0 (inl m.1) m.2)
        | inr n ↦ (let m = c.complete l (f, n) in of_one l m.0 (inr m.1) m.2)
      ];
      ordered = d.ordered;
    }
