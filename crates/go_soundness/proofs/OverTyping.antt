-- A typing of a closed set holds among more entries too.
use Rattle.std.proofs.Common.{◌≡◌, ℕ, ◌<◌, Bool, true, List, Some, sym, ◌∙◌}
use Rattle.std.specs.Prelude.{slice_get}
use Rattle.go_typings.specs.go_references.declared.references.Reference.{Reference}
use Rattle.go_typings.specs.Assignments.{At, Within}
use Rattle.go_typings.specs.DeclarationNodes.{length_references, references, strong_references}
use Rattle.go_typings.specs.Declarations.{Declaration, declarations}
use Rattle.go_typings.specs.PackageEnvironments.{Entries, Entry, environment}
use Rattle.go_typings.specs.References.{LeadsTo, leads_here, leads_by_name, leads_by_method, NamesDeclaration}
use Rattle.go_typings.specs.Sources.{PackageSource, Setting}
use Rattle.go_typings.specs.Typings.{IsClosed as IsClosedSet, Typing, given}
use Rattle.go_typings.proofs.Agree.{held}
use Rattle.go_typings.proofs.OneTyping.{grows, one}
use Rattle.go_typings.proofs.ReachedRegion.{EntryIn}
use Rattle.go_soundness.specs.Apart.{IsApart}
use Rattle.go_soundness.specs.LostDeclarations.{HasInLength, MeetsAsks}
use Rattle.go_soundness.specs.Ranks.{ComesAfter}
use Rattle.go_soundness.proofs.SetEntries.{entries_in}
use Rattle.go_soundness.proofs.MoreMoves.{asks_grown, names_fewer}
use Rattle.go_soundness.proofs.OwnReferences.{length_depends, names_depends, strong_depends}
use Rattle.go_soundness.proofs.SetMoves.{finds_same, found_kept}
use Rattle.go_soundness.proofs.SetRegion.{region}

pub at_of : {P Q : Declaration → Type 0} (ds : List Declaration) (n : ℕ) → ((d : Declaration) → slice_get ds n ≡ Some d → P d → Q d) → At ds n P → At ds n Q
at_of ds n f k = (k.0, k.1, f k.0 k.1 k.2)

module _ (s : Setting) (u : PackageSource) (apart : IsApart s u) (S : ℕ → Bool) (closed : IsClosedSet s u S) (b : Entries) (T : Typing s u S b) (a : Entries) (h : Within b a) where
  same : (n : ℕ) → S n ≡ true → b n ≡ a n
  same n i = let g = T.had.below n i in g.2.1 ∙ sym (h n g.2.0 g.2.1)

  inside : (n : ℕ) (x : Entry) → S n ≡ true → a n ≡ Some x → EntryIn (region u S) x
  inside n x i e = entries_in s u apart S closed S b T.had (λ k j. j) n x i (same n i ∙ e)

  only : (n : ℕ) (x : Entry) → b n ≡ Some x → S n ≡ true
  only n x e = held (given s u) (grows s u) (one s u) (declarations u) S b T.had n x e

  fewer : (rs : Declaration → List Reference) (m n : ℕ) → At (declarations u) m (λ d. NamesDeclaration (environment s u a d) u d.form (rs d) n) → At (declarations u) m (λ d. NamesDeclaration (environment s u b d) u d.form (rs d) n)
  fewer rs m n k = at_of (declarations u) m (λ d e j. names_fewer s u b a h d (rs d) n j) k

  next : (m n : ℕ) → S m ≡ true → At (declarations u) m (λ d. NamesDeclaration (environment s u a d) u d.form (references d.form) n) → S n ≡ true
  next m n i k = closed m n i (at_of (declarations u) m (λ d e j. names_depends (environment s u a d) u d.form n j) k)

  pub strong_kept : (m n : ℕ) → S m ≡ true → ComesAfter s u a m n → S n ≡ true
  strong_kept m n i k = closed m n i (at_of (declarations u) m (λ d e j. strong_depends (environment s u a d) u d.form n j) k)

  pub falls_over : (m n : ℕ) → S m ≡ true → ComesAfter s u a m n → T.rank n < T.rank m
  falls_over m n i k = T.falls m n i (fewer (λ d. strong_references d.form) m n k)

  leads : {k n : ℕ} → S k ≡ true → LeadsTo s u a k n → LeadsTo s u b k n
  leads i leads_here = leads_here
  leads {k = k} i (leads_by_name m j r) = leads_by_name m (fewer (λ d. references d.form) k m j) (leads (next k m i j) r)
  leads {k = k} i (leads_by_method m j r) =
      let g = at_of (declarations u) k (λ d e f. finds_same s u apart S closed a b (λ n q. sym (same n q)) inside k d i e m f) j in
      leads_by_method m g (leads (found_kept s u apart S closed b only g.0 g.0.form m g.2) r)

  pub straight_over : (m n : ℕ) → S m ≡ true → HasInLength s u a m n → LeadsTo s u a n m → ⊥
  straight_over m n i k r = T.lengths m n i (fewer (λ d. length_references d.form) m n k) (leads (closed m n i (at_of (declarations u) m (λ d e j. length_depends (environment s u a d) u d.form n j) k)) r)

  pub asks_over : (n : ℕ) → S n ≡ true → MeetsAsks s u a n
  asks_over n i = at_of (declarations u) n (λ d e k. asks_grown s u b a h d n k) (T.asks n i)
