-- Which declarations are beyond the profile is told in the entries that are had and by what a sieve holds back.
use Rattle.std.proofs.Common.{◌≡◌, ℕ, ◌<◌, Bool, true, false, Option, Some, None, length, refl, sym, ap, ◌∙◌, inl, inr, arith}
use Rattle.std.specs.Prelude.{◌&&◌, is_some, not, slice_get}
use Rattle.std.proofs.lemmas.Bool.Decides.{nat_tests}
use Rattle.go_base.specs.Lists.{Each, Has}
use Rattle.go_typings.specs.go_rules.Environments.{Env}
use Rattle.go_typings.specs.go_rules.Growth.{Grows}
use Rattle.go_typings.specs.go_rules.Nodes.{Node, Stands}
use Rattle.go_typings.specs.go_rules.Regions.{IsClosed, NameIn, RefersIn, Region, cut, node_names}
use Rattle.go_typings.proofs.go_rules_proofs.LocalTypes.{each_made}
use Rattle.go_syntax.specs.declared.name.Name.{Name}
use Rattle.go_typings.specs.Assignments.{At, all_of}
use Rattle.go_typings.specs.DeclarationNodes.{nodes}
use Rattle.go_typings.specs.Declarations.{Declaration, Declared, Form, declarations, declared}
use Rattle.go_typings.specs.PackageEnvironments.{Entries, Entry, environment}
use Rattle.go_typings.specs.References.{DependsOn, by_name}
use Rattle.go_typings.specs.Sources.{PackageSource, Setting}
use Rattle.go_typings.specs.Typings.{IsClosed as IsClosedSet, IsSound}
use Rattle.go_typings.proofs.Cells.{either, if_true}
use Rattle.go_typings.proofs.GrowEnvironments.{environment_more}
use Rattle.go_typings.proofs.ReachedRegion.{EntryIn}
use Rattle.go_typings.proofs.SoundDeclarations.{refers_within}
use Rattle.go_soundness.specs.Apart.{IsApart}
use Rattle.go_soundness.specs.Settled.{AreAll, AreSifted, is_had}
use Rattle.go_soundness.proofs.NamedReferences.{named_reference}
use Rattle.go_soundness.proofs.SetEntries.{entries_in}
use Rattle.go_soundness.proofs.SetGrowth.{cut_grows}
use Rattle.go_soundness.proofs.SetRegion.{closed_region, is_kept, region}
use Rattle.go_soundness.proofs.Unsound.{all_within, lost_unsound}
use Rattle.go_exposed.specs.BeyondProfile.{HasInexactType, HasInexactValue, HoldsTyped, IsBeyond, beyond_number, beyond_type, beyond_value, beyond_import, beyond_another}
use Rattle.go_exposed.specs.Causes.{IsInexactConstant, IsToldInexact}
use Rattle.go_exposed.specs.KeptDeclarations.{entries_of, not_lost}
use Rattle.go_exposed.specs.ToldBeyond.{DependsOnKept, IsToldBeyond, told_number, told_import, told_type, told_value, told_another}
use Rattle.go_exposed.proofs.InexactMoves.{type_grows, type_in, value_grows, value_in}
use Rattle.go_exposed.proofs.KeptFromSieve.{through_closed, through_typing}

of_both : (b c : Bool) → b ≡ true → c ≡ true → (b && c) ≡ true
of_both b c e f = ap (λ z. z && c) e ∙ f

module _ (s : Setting) (u : PackageSource) (a : Entries) (lost : ℕ → Bool) (apart : IsApart s u) (A : AreAll s u a) (F : AreSifted s u a lost) where
  abbrev S : ℕ → Bool
  S = not_lost u lost

  abbrev R : Region
  R = region u S

  closed : IsClosedSet s u S
  closed = through_closed s u a lost apart A F

  is_through : (n : ℕ) → n < length (declarations u) → lost n ≡ false → S n ≡ true
  is_through n l e = of_both (all_of (declarations u) n) (not (lost n)) (grind (arith, nat_tests, l)) (ap not e)

  filled : (n : ℕ) → S n ≡ true → is_had a n ≡ true
  filled n i = let k = (through_typing s u a lost apart A F).had.below n i in ap is_some (sym (if_true (S n) (a n) None i) ∙ k.2.1)

  inside : (n : ℕ) (x : Entry) → S n ≡ true → a n ≡ Some x → EntryIn R x
  inside n x i e = entries_in s u apart S closed (is_had a) a A.had filled n x i e

  same : (n : ℕ) → S n ≡ true → a n ≡ entries_of S a n
  same n i = sym (if_true (S n) (a n) None i)

  module _ (n : ℕ) (kept : DependsOnKept s u a lost n) where
    depends_through : (m : ℕ) → At (declarations u) n (λ d. DependsOn u d.form m) → S m ≡ true
    depends_through m k = is_through m (refers_within u k.0.form m k.2) (kept m k)

    name_in : (d : Declaration) → slice_get (declarations u) n ≡ Some d → (at b : Node) (x : Name) → Has (nodes d.form) at → Stands at b → Has (node_names b) x → NameIn R x
    name_in d e at b x k t h = at_of (declared (declarations u) x.text) refl
      where
        at_of : (c : Option Declared) → declared (declarations u) x.text ≡ c → is_kept S c ≡ true
        at_of None f = refl
        at_of (Some w) f = let r = named_reference d.form at b x k t h in depends_through w.number (d, e, by_name r.0 r.1 (w, ap (λ (z : Name). declared (declarations u) z.text) r.2 ∙ f, refl))

    refers : (d : Declaration) → slice_get (declarations u) n ≡ Some d → Each (RefersIn R) (nodes d.form)
    refers d e = each_made (nodes d.form) (λ at k b t. each_made (node_names b) (λ x h. name_in d e at b x k t h))

    region_closed : (d : Declaration) → IsClosed (environment s u a d) R
    region_closed d = closed_region s u apart S closed a inside d

    grows : (d : Declaration) → Grows (cut R (environment s u a d)) (environment s u (entries_of S a) d)
    grows d = cut_grows s u apart S closed a (entries_of S a) same d

    holds : (P : Env → Form → Type 0) → At (declarations u) n (λ d. P (environment s u (entries_of S a) d) d.form) → HoldsTyped s u P n
    holds P k = record { within = S; entries = entries_of S a; closed = closed; typing = through_typing s u a lost apart A F; needed = depends_through; holds = k }

    type_holds : At (declarations u) n (λ d. HasInexactType (environment s u a d) d.form) → HoldsTyped s u HasInexactType n
    type_holds k = let d = k.0 in holds HasInexactType (d, k.1, type_grows (cut R (environment s u a d)) (environment s u (entries_of S a) d) (grows d) d.form (type_in (environment s u a d) R (region_closed d) d.form (refers d k.1) k.2))

    value_holds : At (declarations u) n (λ d. HasInexactValue (environment s u a d) d.form) → HoldsTyped s u HasInexactValue n
    value_holds k = let d = k.0 in holds HasInexactValue (d, k.1, value_grows (cut R (environment s u a d)) (environment s u (entries_of S a) d) (grows d) d.form (value_in (environment s u a d) R (region_closed d) d.form (refers d k.1) k.2))

  pub told_inexact : (n : ℕ) → IsToldInexact s u a lost n → IsInexactConstant s u n
  told_inexact n k = elim k.holds.2 [
    | inl t ↦ inl (type_holds n k.kept (k.holds.0, k.holds.1, t))
    | inr v ↦ inr (value_holds n k.kept (k.holds.0, k.holds.1, v))
  ]

  pub told_beyond : {n : ℕ} → IsToldBeyond s u a lost n → IsBeyond s u n
  told_beyond (told_number k) = beyond_number k
  told_beyond (told_import k) = beyond_import k
  told_beyond (told_type {n = n} kept k) = beyond_type (type_holds n kept k)
  told_beyond (told_value {n = n} kept k) = beyond_value (value_holds n kept k)
  told_beyond (told_another n k b) = beyond_another n k (told_beyond b)

  -- ---- the other way round

  module _ (P : Env → Form → Type 0) (n : ℕ) (k : HoldsTyped s u P n) where
    sound_needed : (m : ℕ) → At (declarations u) n (λ d. DependsOn u d.form m) → IsSound s u m
    sound_needed m j = record { within = k.within; entries = k.entries; holds = k.needed m j; closed = k.closed; typing = k.typing }

    needed_kept : DependsOnKept s u a lost n
    needed_kept m j = elim (either (lost m)) [
      | inl e ↦ absurd (lost_unsound s u a m apart A (F.marked m (refers_within u j.0.form m j.2) e) (sound_needed m j))
      | inr e ↦ e
    ]

    grown : (d : Declaration) → Grows (environment s u k.entries d) (environment s u a d)
    grown d = environment_more k.entries a (all_within s u a A k.within k.entries k.typing.had) s u d

  type_there : (n : ℕ) (k : HoldsTyped s u HasInexactType n) → At (declarations u) n (λ d. HasInexactType (environment s u a d) d.form)
  type_there n k = let h = k.holds in (h.0, h.1, type_grows (environment s u k.entries h.0) (environment s u a h.0) (grown HasInexactType n k h.0) h.0.form h.2)

  value_there : (n : ℕ) (k : HoldsTyped s u HasInexactValue n) → At (declarations u) n (λ d. HasInexactValue (environment s u a d) d.form)
  value_there n k = let h = k.holds in (h.0, h.1, value_grows (environment s u k.entries h.0) (environment s u a h.0) (grown HasInexactValue n k h.0) h.0.form h.2)

  pub inexact_told : (n : ℕ) → IsInexactConstant s u n → IsToldInexact s u a lost n
  inexact_told n (inl k) = record { kept = needed_kept HasInexactType n k; holds = (let h = type_there n k in (h.0, h.1, inl h.2)) }
  inexact_told n (inr k) = record { kept = needed_kept HasInexactValue n k; holds = (let h = value_there n k in (h.0, h.1, inr h.2)) }

  pub beyond_told : {n : ℕ} → IsBeyond s u n → IsToldBeyond s u a lost n
  beyond_told (beyond_number k) = told_number k
  beyond_told (beyond_import k) = told_import k
  beyond_told (beyond_type {n = n} k) = told_type (needed_kept HasInexactType n k) (type_there n k)
  beyond_told (beyond_value {n = n} k) = told_value (needed_kept HasInexactValue n k) (value_there n k)
  beyond_told (beyond_another n k b) = told_another n k (beyond_told b)
