-- Worlds with one more package.
use Rattle.std.proofs.Common.{◌≡◌, ℕ, Bool, true, false, List, refl, sym, ap, ◌∙◌, subst, OnOk, OnErr, IsOk}
use mathlib.Core.Bool.{true≢false}
use Rattle.std.specs.declared.result.Result.{Result}
use Rattle.std.specs.declared.result.Result.TheVariants.{Ok, Err}
use Rattle.go_base.specs.declared.memory.NoMemory.{NoMemory}
use Rattle.go_model.specs.declared.types.package.Package.{Package}
use Rattle.go_base.specs.Keys.{placed}
use Rattle.go_model.specs.worlds.Worlds.{Packages, IsWorld, with_package, path_of}

abbrev pub made : List Package → List (List ℕ) → Packages
made packages publics = record { packages = packages; publics = publics }

pub same_world : (packages new : List Package) (publics texts : List (List ℕ)) → new ≡ packages → texts ≡ publics → IsWorld (made packages publics) → IsWorld (made new texts)
same_world packages new publics texts e f w = subst (λ (x : List Package). IsWorld (made x texts)) (sym e) (subst (λ (x : List (List ℕ)). IsWorld (made packages x)) (sym f) w)

module _ (old : List Package) (publics : List (List ℕ)) (w : Packages) (view : made old publics ≡ w) (p : Package) (public : Bool) (needed : IsWorld (with_package w p public)) where
  asked : (b : Bool) → public ≡ b → IsWorld (with_package (made old publics) p b)
  asked b e = subst (λ (x : Bool). IsWorld (with_package (made old publics) p x)) e (subst (λ (v : Packages). IsWorld (with_package v p public)) (sym view) needed)

  pub private_added : (new : List Package) (r : Result (Unit {0}) NoMemory) → public ≡ false → OnOk r (new ≡ placed path_of p old) → OnErr r (new ≡ old) → IsWorld (made old publics) → IsWorld (made new publics)
  private_added new (Ok u) hidden ok err i = same_world (placed path_of p old) new publics publics ok refl (asked false hidden)
  private_added new (Err e) hidden ok err i = same_world old new publics publics err refl i

  pub public_added : (new : List Package) (texts before : List (List ℕ)) (path : List ℕ) (r : Result (Unit {0}) NoMemory) → public ≡ true → new ≡ placed path_of p old → before ≡ publics → path ≡ p.path → IsOk r → OnOk r (texts ≡ placed (λ t. t) path before) → IsWorld (made new texts)
  public_added new texts before path (Ok u) shown e f g h ok = same_world (placed path_of p old) new (placed (λ t. t) p.path publics) texts e (ok ∙ ap (λ x. placed (λ t. t) x before) g ∙ ap (placed (λ t. t) p.path) f) (asked true shown)
  public_added new texts before path (Err e) shown i f g h ok = absurd (true≢false (sym h))
