-- Under settings that are the same in all that a package reaches the same is left out of it.
use Rattle.std.proofs.Common.{◌≡◌, ℕ, Bool, [], None, refl, sym, ap, ◌∙◌, ◌⊎◌, inl, inr}
use Rattle.go_base.specs.Keys.{first_with}
use Rattle.go_model.specs.declared.types.package.Package.{Package}
use Rattle.go_model.specs.worlds.Worlds.{path_of}
use Rattle.go_typings.specs.go_rules.Environments.{Env}
use Rattle.go_typings.specs.go_rules.Growth.{Grows}
use Rattle.go_typings.specs.go_rules.Regions.{IsClosed, Region, cut}
use Rattle.go_typings.specs.Declarations.{Form, Declaration}
use Rattle.go_typings.specs.PackageEnvironments.{Entries, environment}
use Rattle.go_typings.specs.ReachedPackages.{HoldImports, ReachesSame}
use Rattle.go_typings.specs.Refusals.{Refusal, redeclared, missing_import, unsound}
use Rattle.go_typings.specs.Sources.{PackageSource, Setting}
use Rattle.go_typings.specs.Typings.{IsSound, Typing}
use Rattle.go_typings.proofs.Cells.{either}
use Rattle.go_typings.proofs.HeldImports.{are_more, is_empty, with_empty}
use Rattle.go_typings.proofs.LocalRules.{all_refer}
use Rattle.go_typings.proofs.ReachedRegion.{closed_region, region}
use Rattle.go_typings.proofs.SameImports.{cut_grows, entries_in}
use Rattle.go_typings.proofs.SameTypings.{sound_same, turned, typing_same}
use Rattle.go_typings.specs.DeclarationNodes.{nodes}
use Rattle.go_exposed.proofs.InexactMoves.{type_grows, type_in, value_grows, value_in}
use Rattle.go_exposed.specs.BeyondProfile.{HasInexactType, HasInexactValue, HoldsTyped, IsBeyond, beyond_number, beyond_type, beyond_value, beyond_import, beyond_another}
use Rattle.go_exposed.specs.ExposedDeclarations.{IsExposed}
use Rattle.go_exposed.specs.KeptDeclarations.{IsLeftOut, LeavesOut}
use Rattle.go_exposed.specs.OfferedPackages.{IsOfferedAs}
use Rattle.go_exposed.specs.Refusals.{IsFirstWrong, IsRefused}

-- where no package has the empty path, they are the same in that too
abbrev pub with_nothing : (u : PackageSource) (s t : Setting) → first_with path_of s.world.packages [] ≡ None → first_with path_of t.world.packages [] ≡ None → ReachesSame u s t → ReachesSame u s t
with_nothing u s t none nil m = record {
  reached = with_empty m.reached;
  are = are_more s.world u m.reached none m.are;
  same = λ path i. elim (either (m.reached path)) [
    | inl k ↦ m.same path k
    | inr k ↦ ap (first_with path_of s.world.packages) (is_empty m.reached path k i) ∙ none ∙ sym nil ∙ ap (first_with path_of t.world.packages) (sym (is_empty m.reached path k i))
  ];
  bits = m.bits;
  profile = m.profile;
}

module _ (u : PackageSource) (s t : Setting) (m : ReachesSame u s t) (all : HoldImports u m.reached) where
  abbrev R : Region
  R = region u m.reached

  module _ (S : ℕ → Bool) (a : Entries) (T : Typing s u S a) (d : Declaration) where
    abbrev E : Env
    E = environment s u a d

    abbrev F : Env
    F = environment t u a d

    abbrev C : Env
    C = cut R E

    closed : IsClosed E R
    closed = closed_region s u m.reached m.are all a (entries_in u s t m all S a T.had) d

    grows : Grows C F
    grows = cut_grows u s t m all a d

    pub type_there : (f : Form) → HasInexactType E f → HasInexactType F f
    type_there f k = type_grows C F grows f (type_in E R closed f (all_refer R (λ name. refl) (nodes f)) k)

    pub value_there : (f : Form) → HasInexactValue E f → HasInexactValue F f
    value_there f k = value_grows C F grows f (value_in E R closed f (all_refer R (λ name. refl) (nodes f)) k)

  holds_same : (P : Env → Form → Type 0) (n : ℕ) → ((S : ℕ → Bool) (a : Entries) → Typing s u S a → (d : Declaration) → P (environment s u a d) d.form → P (environment t u a d) d.form) → HoldsTyped s u P n → HoldsTyped t u P n
  holds_same P n h k = record {
    within = k.within;
    entries = k.entries;
    closed = k.closed;
    typing = typing_same u s t m all k.within k.entries k.typing;
    needed = k.needed;
    holds = (k.holds.0, k.holds.1, h k.within k.entries k.typing k.holds.0 k.holds.2);
  }

  pub beyond_same : {n : ℕ} → IsBeyond s u n → IsBeyond t u n
  beyond_same (beyond_number k) = beyond_number k
  beyond_same (beyond_type {n = n} k) = beyond_type (holds_same HasInexactType n (λ S a T d h. type_there S a T d d.form h) k)
  beyond_same (beyond_value {n = n} k) = beyond_value (holds_same HasInexactValue n (λ S a T d h. value_there S a T d d.form h) k)
  beyond_same (beyond_import k) = beyond_import k
  beyond_same (beyond_another n k b) = beyond_another n k (beyond_same b)

module _ (u : PackageSource) (s t : Setting) (m : ReachesSame u s t) (all : HoldImports u m.reached) where
  abbrev back : ReachesSame u t s
  back = turned u s t m

  left_out_same : (n : ℕ) → IsLeftOut s u n → IsLeftOut t u n
  left_out_same n k = record { unsound = λ h. k.unsound (sound_same u t s back all n h); unseen = k.unseen; beyond = beyond_same u s t m all k.beyond }

  pub kept_same : (S : ℕ → Bool) (a : Entries) → LeavesOut s u S a → LeavesOut t u S a
  kept_same S a k = record { typing = typing_same u s t m all S a k.typing; closed = k.closed; rest = λ n l e. left_out_same n (k.rest n l e) }

  pub offered_same : (p : Package) → IsOfferedAs s u p → IsOfferedAs t u p
  offered_same p o = record { once = o.once; found = o.found; within = o.within; entries = o.entries; kept = kept_same o.within o.entries o.kept; «package» = o.«package» }

  counts_same : (n : ℕ) → IsExposed u n ⊎ (IsBeyond s u n → ⊥) → IsExposed u n ⊎ (IsBeyond t u n → ⊥)
  counts_same n (inl e) = inl e
  counts_same n (inr f) = inr (λ b. f (beyond_same u t s back all b))

  right_same : (n : ℕ) → IsSound s u n ⊎ IsLeftOut s u n → IsSound t u n ⊎ IsLeftOut t u n
  right_same n (inl h) = inl (sound_same u s t m all n h)
  right_same n (inr h) = inr (left_out_same n h)

  wrong_same : (n : ℕ) → IsFirstWrong s u n → IsFirstWrong t u n
  wrong_same n w = record {
    is = w.is;
    wrong = record { unsound = λ h. w.wrong.unsound (sound_same u t s back all n h); counts = counts_same n w.wrong.counts };
    first = λ k l. right_same k (w.first k l);
  }

  pub refused_same : (r : Refusal) → IsRefused s u r → IsRefused t u r
  refused_same (redeclared p) k = k
  refused_same (missing_import p) k = k
  refused_same (unsound p) k = (k.0, k.1, (k.2.0, wrong_same k.2.0 k.2.1, k.2.2))
