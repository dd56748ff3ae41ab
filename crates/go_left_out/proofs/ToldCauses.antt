-- The cause of a declaration, told by flags.
use Rattle.std.proofs.Common.{◌≡◌, ◌<◌, ℕ, Bool, true, false, List, Some, length, sym, ◌∙◌, subst}
use Rattle.std.proofs.lemmas.Option.{slice_get_within}
use Rattle.go_exposed.specs.Causes.{HasToldCause, IsOfMissing, IsOfNumber, IsThrough, IsToldInexact, by_another, constant_type, first_name, import_not_found, number, of_another, of_constant_type, of_import, of_number, shown_names}
use Rattle.go_exposed.specs.SkippedValues.{cause_of}
use Rattle.go_exposed.specs.ToldBeyond.{IsToldBeyond, told_number, told_import, told_type, told_value, told_another}
use Rattle.go_exposed.specs.declared.skipped.Cause.{Cause}
use Rattle.go_exposed.specs.declared.skipped.Cause.TheVariants as cause
use Rattle.go_graphs.specs.Flags.{is_flagged}
use Rattle.go_graphs.specs.Walks.{row_of}
use Rattle.go_graphs.proofs.Flagging.{apart}
use Rattle.go_left_out.specs.Told.{AreTold}
use Rattle.go_left_out.specs.declared.told.Told.{Told}
use Rattle.go_left_out.specs.inner.Causes.{IsBy}
use Rattle.go_reach.specs.LeastOthers.{IsLeastOther, IsOther}
use Rattle.go_sifting.specs.Graphs.{AreRows}
use Rattle.go_soundness.specs.LostDeclarations.{Depends}
use Rattle.go_typings.specs.Assignments.{At}
use Rattle.go_typings.specs.Declarations.{Declaration, declarations}
use Rattle.go_typings.specs.PackageEnvironments.{Entries}
use Rattle.go_typings.specs.Sources.{PackageSource, Setting}

module _ (s : Setting) (u : PackageSource) (a : Entries) (lost : ℕ → Bool) (t : Told) (told : AreTold s u a lost t) where
  beyond_within : (k : ℕ) → IsToldBeyond s u a lost k → k < length (declarations u)
  beyond_within k (told_number h) = slice_get_within (declarations u) k h.0 h.1
  beyond_within k (told_import h) = slice_get_within (declarations u) k h.0 h.1
  beyond_within k (told_type e h) = slice_get_within (declarations u) k h.0 h.1
  beyond_within k (told_value e h) = slice_get_within (declarations u) k h.0 h.1
  beyond_within k (told_another m h b) = slice_get_within (declarations u) k h.0 h.1

  module _ (n : ℕ) (within : n < length (declarations u)) where
    pub number_cause : is_flagged t.numbers.items n ≡ true → HasToldCause s u a lost n number
    number_cause e = of_number (told.numbers.sound n e)

    module _ (no_number : is_flagged t.numbers.items n ≡ false) where
      not_number : IsOfNumber u (IsToldInexact s u a lost) (IsToldBeyond s u a lost) n → ⊥
      not_number k = apart (sym (told.numbers.complete n within k) ∙ no_number)

      pub inexact_cause : is_flagged t.inexact.items n ≡ true → HasToldCause s u a lost n constant_type
      inexact_cause e = of_constant_type not_number (told.inexact.sound n e)

      module _ (no_inexact : is_flagged t.inexact.items n ≡ false) where
        not_inexact : IsToldInexact s u a lost n → ⊥
        not_inexact k = apart (sym (told.inexact.complete n within k) ∙ no_inexact)

        pub missing_cause : is_flagged t.missing.items n ≡ true → HasToldCause s u a lost n import_not_found
        missing_cause e = of_import not_number not_inexact (told.missing.sound n e)

        module _ (no_missing : is_flagged t.missing.items n ≡ false) (rows : List (List ℕ)) (are : AreRows s u a (Depends s u a) rows) where
          not_missing : IsOfMissing u (IsToldInexact s u a lost) (IsToldBeyond s u a lost) n → ⊥
          not_missing k = apart (sym (told.missing.complete n within k) ∙ no_missing)

          through : (k : ℕ) → IsThrough u (IsToldInexact s u a lost) (IsToldBeyond s u a lost) n k → IsOther (row_of rows n) t.beyond.items n k
          through k h = record { other = h.other; has = (are.exact n k).1 h.depends; flagged = told.beyond.complete k (beyond_within k h.beyond) h.beyond }

          pub other_cause : (m : ℕ) (c : Cause) → IsLeastOther (row_of rows n) t.beyond.items n (Some m) → IsBy (declarations u) m c → HasToldCause s u a lost n (cause_of c)
          other_cause m (cause.By name) l by =
              of_another not_number not_inexact not_missing
              (record { through = record { other = l.0.other; depends = (are.exact n m).0 l.0.has; beyond = told.beyond.sound m l.0.flagged }; first = λ k h j. l.1 k h (through k j) }) by
          other_cause m cause.Number l by = absurd by
          other_cause m cause.ConstantType l by = absurd by
          other_cause m cause.ImportNotFound l by = absurd by
