-- What a sieve lets through has a typing, and where it lets all through, so has the package.
use Rattle.std.proofs.Common.{◌≡◌, ℕ, ◌<◌, ◌≤◌, Bool, true, false, ◌&&◌, List, length, Some, None, refl, ap, ◌∙◌, inl, inr, arith}
use Rattle.std.specs.Prelude.{not, slice_get}
use Rattle.std.proofs.lemmas.Bool.Decides.{nat_tests}
use Rattle.std.proofs.lemmas.Option.{slice_get_within}
use Rattle.go_typings.specs.go_references.declared.references.Reference.{Reference}
use Rattle.go_typings.specs.Assignments.{Within, all_of}
use Rattle.go_typings.specs.DeclarationNodes.{length_references, references, strong_references}
use Rattle.go_typings.specs.Declarations.{Declaration, declarations}
use Rattle.go_typings.specs.PackageEnvironments.{Entries, Entry, environment}
use Rattle.go_typings.specs.References.{LeadsTo, leads_here, leads_by_name, leads_by_method, NamesDeclaration}
use Rattle.go_typings.specs.Sources.{PackageSource, Setting}
use Rattle.go_typings.specs.Typings.{IsClosed as IsClosedSet, IsFirstUnsound, IsSound, IsTyping, Typing, given}
use Rattle.go_typings.proofs.Agree.{held}
use Rattle.go_typings.proofs.Cells.{either, if_false, none_some}
use Rattle.go_typings.proofs.OneTyping.{grows, one}
use Rattle.go_typings.proofs.ReachedRegion.{EntryIn}
use Rattle.go_typings.proofs.SoundDeclarations.{refers_within}
use Rattle.go_soundness.specs.Apart.{IsApart}
use Rattle.go_soundness.specs.Settled.{is_had, AreAll, AreSifted}
use Rattle.go_soundness.proofs.SetEntries.{entries_in, had_kept, kept, kept_same}
use Rattle.go_soundness.proofs.MoreMoves.{finds_grown}
use Rattle.go_soundness.proofs.OverTyping.{at_of}
use Rattle.go_soundness.proofs.OwnReferences.{length_depends, names_depends}
use Rattle.go_soundness.proofs.SetMoves.{asks_kept, found_kept, names_same}
use Rattle.go_soundness.proofs.SetRegion.{region}
use Rattle.go_soundness.proofs.Unsound.{lost_unsound}

both : (b c : Bool) → (b && c) ≡ true → (b ≡ true) × (c ≡ true)
both true c e = (refl, e)
both false c e = let g : false ≡ true = e in absurd (cc)

of_both : (b c : Bool) → b ≡ true → c ≡ true → (b && c) ≡ true
of_both b c e f = ap (λ z. z && c) e ∙ f

not_true : (b : Bool) → not b ≡ true → b ≡ false
not_true true e = let g : false ≡ true = e in absurd (cc)
not_true false e = refl

module _ (s : Setting) (u : PackageSource) (a : Entries) (A : AreAll s u a) (lost : ℕ → Bool) (F : AreSifted s u a lost) where
  -- what isn't lost
  abbrev S : ℕ → Bool
  S n = all_of (declarations u) n && not (lost n)

  is_within : (n : ℕ) → S n ≡ true → n < length (declarations u)
  is_within n i = let h = (both (all_of (declarations u) n) (not (lost n)) i).0 in grind (arith, nat_tests, h)

  is_not_lost : (n : ℕ) → S n ≡ true → lost n ≡ false
  is_not_lost n i = not_true (lost n) (both (all_of (declarations u) n) (not (lost n)) i).1

  is_kept : (n : ℕ) → n < length (declarations u) → lost n ≡ false → S n ≡ true
  is_kept n l e = of_both (all_of (declarations u) n) (not (lost n)) (grind (arith, nat_tests, l)) (ap not e)

  closed : IsClosedSet s u S
  closed m n i k = is_kept n (refers_within u k.0.form n k.2) (F.closed m n (is_not_lost m i) k)

  is_filled : (n : ℕ) → S n ≡ true → is_had a n ≡ true
  is_filled n i = let x = F.entered n (is_within n i) (is_not_lost n i) in held (given s u) (grows s u) (one s u) (declarations u) (is_had a) a A.had n x.0 x.1

  module _ (apart : IsApart s u) where
    abbrev b : Entries
    b = kept S a

    same : (n : ℕ) → S n ≡ true → a n ≡ b n
    same n i = kept_same S a n i

    inside : (n : ℕ) (x : Entry) → S n ≡ true → a n ≡ Some x → EntryIn (region u S) x
    inside n x i e = entries_in s u apart S closed (is_had a) a A.had is_filled n x i e

    only : (n : ℕ) (x : Entry) → b n ≡ Some x → S n ≡ true
    only n x e = elim (either (S n)) [ inl i ↦ i | inr i ↦ none_some (b n) x (if_false (S n) (a n) None i) e ]

    b_within : Within b a
    b_within n x e = same n (only n x e) ∙ e

    more : (m : ℕ) (i : S m ≡ true) (d : Declaration) (e : slice_get (declarations u) m ≡ Some d) (rs : List Reference) (n : ℕ) → NamesDeclaration (environment s u b d) u d.form rs n → NamesDeclaration (environment s u a d) u d.form rs n
    more m i d e rs n k = names_same s u apart S closed a b same inside m d i e rs n k

    leads : {k n : ℕ} → S k ≡ true → LeadsTo s u b k n → LeadsTo s u a k n
    leads i leads_here = leads_here
    leads {k = k} i (leads_by_name m h r) =
        let j = at_of (declarations u) k (λ d e f. more k i d e (references d.form) m f) h in
        leads_by_name m j (leads (closed k m i (at_of (declarations u) k (λ d e f. names_depends (environment s u a d) u d.form m f) j)) r)
    leads {k = k} i (leads_by_method m h r) = leads_by_method m (at_of (declarations u) k (λ d e f. finds_grown s u b a b_within d m f) h) (leads (found_kept s u apart S closed b only h.0 h.0.form m h.2) r)

    typing : Typing s u S b
    typing = record {
      had = had_kept s u apart S closed (is_had a) a A.had is_filled;
      asks = λ n i. at_of (declarations u) n (λ d e k. asks_kept s u apart S closed a b same inside n d i e n k) (F.meets n (is_within n i) (is_not_lost n i));
      rank = F.rank;
      falls = λ m n i h. F.falls m n (is_not_lost m i) (at_of (declarations u) m (λ d e k. more m i d e (strong_references d.form) n k) h);
      lengths = λ m n i h r. (let k = at_of (declarations u) m (λ d e f. more m i d e (length_references d.form) n f) h in
          F.straight m n (is_not_lost m i) k (leads (closed m n i (at_of (declarations u) m (λ d e f. length_depends (environment s u a d) u d.form n f) k)) r));
    }

    pub sound : (n : ℕ) → n < length (declarations u) → lost n ≡ false → IsSound s u n
    sound n l e = record { within = S; entries = b; holds = is_kept n l e; closed = closed; typing = typing }

    pub first_unsound : (n : ℕ) → n < length (declarations u) → lost n ≡ true → ((m : ℕ) → m < n → lost m ≡ false) → IsFirstUnsound s u n
    first_unsound n l e h = record { is = l; unsound = lost_unsound s u a n apart A (F.marked n l e); first = λ m k. sound m (omega (arith, k, l)) (h m k) }

  -- ---- none is lost

  module _ (none : (n : ℕ) → n < length (declarations u) → lost n ≡ false) where
    declared_within : (n : ℕ) → all_of (declarations u) n ≡ true → n < length (declarations u)
    declared_within n i = grind (arith, nat_tests, i)

    past : (n : ℕ) → all_of (declarations u) n ≡ false → is_had a n ≡ true → ⊥
    past n e i = let k = A.had.below n i in let l = slice_get_within (declarations u) n k.0 k.1 in let h : length (declarations u) ≤ n = grind (arith, nat_tests, e) in absurd (omega (arith, l, h))

    empty : (n : ℕ) → all_of (declarations u) n ≡ false → a n ≡ None
    empty n e = elim (either (is_had a n)) [ inl i ↦ absurd (past n e i) | inr i ↦ A.had.only n i ]

    entered : (n : ℕ) → all_of (declarations u) n ≡ true → is_had a n ≡ true
    entered n i = let l = declared_within n i in let x = F.entered n l (none n l) in held (given s u) (grows s u) (one s u) (declarations u) (is_had a) a A.had n x.0 x.1

    pub typed : IsTyping s u a
    typed = record {
      had = record { only = empty; order = A.had.order; below = λ n i. A.had.below n (entered n i) };
      asks = λ n i. F.meets n (declared_within n i) (none n (declared_within n i));
      rank = F.rank;
      falls = λ m n i h. F.falls m n (none m (declared_within m i)) h;
      lengths = λ m n i h r. F.straight m n (none m (declared_within m i)) h r;
    }
