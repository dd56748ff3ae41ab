-- The entries of a closed set are of its region, and are had from below by themselves.
use Rattle.std.proofs.Common.{◌≡◌, ℕ, zero, suc, ◌<◌, Bool, true, Some, None, sym, ap, ◌∙◌, subst, arith}
use Rattle.std.specs.Prelude.{if◌then◌else◌, nat_lt, slice_get}
use Rattle.go_typings.specs.go_rules.Regions.{Region, cut}
use Rattle.go_typings.specs.Assignments.{Below, before}
use Rattle.go_typings.specs.Declarations.{Declaration, declarations}
use Rattle.go_typings.specs.PackageEnvironments.{Entries, Entry, environment}
use Rattle.go_typings.specs.Sources.{PackageSource, Setting}
use Rattle.go_typings.specs.Typings.{IsClosed as IsClosedSet, given}
use Rattle.go_typings.proofs.Cells.{before_has, if_false, if_true, some_once}
use Rattle.go_typings.proofs.GrowRules.{gives_more}
use Rattle.go_typings.proofs.LocalRules.{gives_local}
use Rattle.go_typings.proofs.ReachedRegion.{EntryIn}
use Rattle.go_soundness.specs.Apart.{IsApart}
use Rattle.go_soundness.proofs.SetReferences.{form_refers}
use Rattle.go_soundness.proofs.SetGrowth.{cut_grows}
use Rattle.go_soundness.proofs.SetRegion.{closed_region, region}

-- the entries of a set alone
abbrev pub kept : (ℕ → Bool) → Entries → Entries
kept S a n = if S n then a n else None

pub kept_same : (S : ℕ → Bool) (a : Entries) (n : ℕ) → S n ≡ true → a n ≡ kept S a n
kept_same S a n i = sym (if_true (S n) (a n) None i)

module _ (s : Setting) (u : PackageSource) (apart : IsApart s u) (S : ℕ → Bool) (closed : IsClosedSet s u S)
    (filled : ℕ → Bool) (a : Entries) (T : Below (given s u) (declarations u) filled a) (within : (n : ℕ) → S n ≡ true → filled n ≡ true) where
  abbrev R : Region
  R = region u S

  abbrev part : ℕ → Entries
  part n = before T.order (T.order n) a

  entry_in_by : (k n : ℕ) → T.order n < k → S n ≡ true → (x : Entry) → a n ≡ Some x → EntryIn R x
  entry_in_by zero n l i x e = absurd (omega (arith, l))
  entry_in_by (suc k) n l i x e =
      let g = T.below n (within n i) in
      let h : (j : ℕ) (y : Entry) → S j ≡ true → part n j ≡ Some y → EntryIn R y = λ j y p f. (let q = before_has T.order (T.order n) a j y f in let o = q.0 in entry_in_by k j (omega (arith, o, l)) p y q.1) in
      subst (EntryIn R) (some_once g.2.0 x (sym g.2.1 ∙ e)) (gives_local (environment s u (part n) g.0) R (closed_region s u apart S closed (part n) h g.0) (form_refers s u apart S closed n g.0 i g.1) g.2.2).1

  pub entries_in : (n : ℕ) (x : Entry) → S n ≡ true → a n ≡ Some x → EntryIn R x
  entries_in n x i e = entry_in_by (suc (T.order n)) n (omega arith) i x e

  abbrev cut_part : ℕ → Entries
  cut_part n = before T.order (T.order n) (kept S a)

  part_same : (n j : ℕ) → S j ≡ true → part n j ≡ cut_part n j
  part_same n j i = ap (λ z. if nat_lt (T.order j) (T.order n) then z else None) (kept_same S a j i)

  moved : (n : ℕ) (d : Declaration) (x : Entry) → S n ≡ true → slice_get (declarations u) n ≡ Some d → given s u (part n) d x → given s u (cut_part n) d x
  moved n d x i e g =
      let h : (j : ℕ) (y : Entry) → S j ≡ true → part n j ≡ Some y → EntryIn R y = λ j y p f. entries_in j y p (before_has T.order (T.order n) a j y f).1 in
      let q = gives_local (environment s u (part n) d) R (closed_region s u apart S closed (part n) h d) (form_refers s u apart S closed n d i e) g in
      gives_more (cut R (environment s u (part n) d)) (environment s u (cut_part n) d) (cut_grows s u apart S closed (part n) (cut_part n) (part_same n) d) q.0

  pub had_kept : Below (given s u) (declarations u) S (kept S a)
  had_kept = record {
    only = λ n e. if_false (S n) (a n) None e;
    order = T.order;
    below = λ n i. (let g = T.below n (within n i) in (g.0, g.1, (g.2.0, sym (kept_same S a n i) ∙ g.2.1, moved n g.0 g.2.0 i g.1 g.2.2)));
  }
