-- Packages in a list become one thing each: they have one world or one first refusal.
use Rattle.std.proofs.Common.{◌≡◌, ℕ, suc, List, ◌∷◌, refl, sym, ap, ◌∙◌, subst}
use Rattle.go_references.specs.go_base.Lists.{Passes}
use Rattle.go_rules.specs.go_model.worlds.Worlds.{Packages}
use Rattle.go_rules.proofs.OneKind.{no_truth}
use Rattle.go_typings.specs.PackageWorlds.{Become, become_none, become_more, Becomes, IsFirstRefused, IsRefusedAt, refused_here, refused_later, IsWorldOf, Outcome, typed, refused, blocked, is_refused, is_typed, over, with_outcome}
use Rattle.go_typings.specs.Refusals.{Refusal}
use Rattle.go_typings.specs.Sources.{PackageSource, Setting}
use Rattle.go_typings.proofs.OnePackage.{one_package}
use Rattle.go_typings.proofs.OneRefusal.{one_refusal, typed_or_refused}

pub one_outcome : (s : Setting) (u : PackageSource) (x y : Outcome) → Becomes s u x → Becomes s u y → x ≡ y
one_outcome s u (typed p) (typed q) a b = ap typed (one_package s u p q a.1 b.1)
one_outcome s u (typed p) (refused r) a b = absurd (typed_or_refused s u p r a.1 b.1)
one_outcome s u (typed p) blocked a b = absurd (b a.0)
one_outcome s u (refused r) (typed p) a b = absurd (typed_or_refused s u p r b.1 a.1)
one_outcome s u (refused q) (refused r) a b = ap refused (one_refusal s u q r a.1 b.1)
one_outcome s u (refused r) blocked a b = absurd (b a.0)
one_outcome s u blocked (typed p) a b = absurd (a b.0)
one_outcome s u blocked (refused r) a b = absurd (a b.0)
one_outcome s u blocked blocked a b = refl

module _ (bits : ℕ) where
  moved : {w x : Packages} (u : PackageSource) (o : Outcome) → w ≡ x → Becomes (over bits w) u o → Becomes (over bits x) u o
  moved u o e a = subst (λ z. Becomes (over bits z) u o) e a

  pub one_become : {w x : Packages} {us : List PackageSource} {xs ys : List Outcome} {v z : Packages} → w ≡ x → Become bits w us xs v → Become bits x us ys z → (xs ≡ ys) × (v ≡ z)
  one_become e become_none become_none = (refl, e)
  one_become e (become_more {w = w} {u = u} {x = o} a r) (become_more {w = x} {x = p} b q) =
      let f = one_outcome _ u o p (moved u o e a) b in
      let t = one_become (λ i. with_outcome (e i) u (f i)) r q in
      ((λ i. f i ∷ t.0 i), t.1)

  pub one_world : (us : List PackageSource) (v w : Packages) → IsWorldOf bits us v → IsWorldOf bits us w → v ≡ w
  one_world us v w a b = (one_become refl a.become b.become).1

  refusal_in : Outcome → Refusal → Refusal
  refusal_in (refused q) r = q
  refusal_in x r = r

  refused_once : (q r : Refusal) → ◌≡◌ {A = Outcome} (refused q) (refused r) → q ≡ r
  unfolding refusal_in
  refused_once q r e = ap (λ x. refusal_in x q) e

  one_refused : {w x : Packages} {us : List PackageSource} {m n : ℕ} {q r : Refusal} → w ≡ x → IsRefusedAt bits w us m q → IsRefusedAt bits x us n r → (m ≡ n) × (q ≡ r)
  one_refused {q = q} {r = r} e (refused_here {u = u} a) (refused_here b) = (refl, refused_once q r (one_outcome _ u (refused q) (refused r) (moved u (refused q) e a) b))
  one_refused {q = q} e (refused_here {u = u} a) (refused_later y b h k) = absurd (no_truth (ap is_refused (one_outcome _ u (refused q) y (moved u (refused q) e a) b) ∙ h))
  one_refused {r = r} e (refused_later {u = u} o a h k) (refused_here b) = absurd (no_truth (ap is_refused (sym (one_outcome _ u o (refused r) (moved u o e a) b)) ∙ h))
  one_refused e (refused_later {u = u} o a h k) (refused_later p b j l) =
      let f = one_outcome _ u o p (moved u o e a) b in
      let t = one_refused (λ i. with_outcome (e i) u (f i)) k l in
      (ap suc t.0, t.1)

  pub one_first : (us : List PackageSource) (m n : ℕ) (q r : Refusal) → IsFirstRefused bits us m q → IsFirstRefused bits us n r → (m ≡ n) × (q ≡ r)
  one_first us m n q r a b = one_refused refl a b

  no_refusal : {w x v : Packages} {us : List PackageSource} {xs : List Outcome} {n : ℕ} {r : Refusal} → w ≡ x → Become bits w us xs v → Passes is_typed xs → IsRefusedAt bits x us n r → ⊥
  no_refusal e become_none t b = elim b [ ]
  no_refusal {r = r} e (become_more {u = u} {x = o} a k) t (refused_here b) = no_truth (sym t.0 ∙ ap is_typed (one_outcome _ u o (refused r) (moved u o e a) b))
  no_refusal e (become_more {u = u} {x = o} a k) t (refused_later p b h l) = let f = one_outcome _ u o p (moved u o e a) b in no_refusal (λ i. with_outcome (e i) u (f i)) k t.1 l

  pub world_or_refused : (us : List PackageSource) (w : Packages) (n : ℕ) (r : Refusal) → IsWorldOf bits us w → IsFirstRefused bits us n r → ⊥
  world_or_refused us w n r a b = no_refusal refl a.become a.all_typed b
