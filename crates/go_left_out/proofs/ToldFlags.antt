-- What leads along the rows of dependencies to what is beyond the profile by itself is what is beyond it.
use Rattle.std.proofs.Common.{◌≡◌, ◌<◌, ℕ, Bool, true, List, arith, length, refl, sym, ◌∙◌, subst, inl, inr}
use Rattle.std.proofs.lemmas.Option.{slice_get_within}
use Rattle.go_base.specs.Lists.{Has}
use Rattle.go_exposed.specs.Causes.{IsOfMissing, IsOfNumber, IsToldInexact}
use Rattle.go_exposed.specs.ToldBeyond.{IsToldBeyond, told_number, told_import, told_type, told_value, told_another}
use Rattle.go_graphs.specs.Flags.{AreFlagsOf, is_flagged}
use Rattle.go_graphs.specs.Walks.{LeadsInto, is_end, leads_by}
use Rattle.go_reach.specs.AnyFlags.{AreAny}
use Rattle.go_reach.proofs.JoinedFlags.{of_first, of_second, of_third, which}
use Rattle.go_reach.specs.Numbers.{AreFlagged}
use Rattle.go_sifting.specs.Graphs.{AreRows}
use Rattle.go_soundness.specs.LostDeclarations.{Depends}
use Rattle.go_typings.specs.Declarations.{declarations}
use Rattle.go_typings.specs.PackageEnvironments.{Entries}
use Rattle.go_typings.specs.Sources.{PackageSource, Setting}

module _ (s : Setting) (u : PackageSource) (a : Entries) (lost : ℕ → Bool) (rows : List (List ℕ)) (are : AreRows s u a (Depends s u a) rows) where
  abbrev count : ℕ
  count = length (declarations u)

  abbrev Inexact : ℕ → Type 0
  Inexact = IsToldInexact s u a lost

  abbrev Beyond : ℕ → Type 0
  Beyond = IsToldBeyond s u a lost

  module _
      (numbers inexact missing alone : List Bool) (ends : List ℕ)
      (num : AreFlagsOf count (IsOfNumber u Inexact Beyond) numbers)
      (inx : AreFlagsOf count Inexact inexact)
      (mis : AreFlagsOf count (IsOfMissing u Inexact Beyond) missing)
      (any : AreAny numbers inexact missing (length rows) alone)
      (flagged : AreFlagged alone (length rows) ends) where
    inexact_told : (n : ℕ) → Inexact n → Beyond n
    inexact_told n t = elim t.holds.2 [
      | inl x ↦ told_type t.kept (t.holds.0, t.holds.1, x)
      | inr x ↦ told_value t.kept (t.holds.0, t.holds.1, x)
    ]

    by_itself : (n : ℕ) → Has ends n → Beyond n
    by_itself n h =
        let k = (flagged n).0 h in
        elim (which (is_flagged numbers n) (is_flagged inexact n) (is_flagged missing n) (sym (any.exact n k.0) ∙ k.1)) [
          | inl e ↦ told_number (num.sound n e)
          | inr r ↦ elim r [ inl e ↦ inexact_told n (inx.sound n e) | inr e ↦ told_import (mis.sound n e) ]
        ]

    walk_told : {n : ℕ} → LeadsInto rows ends n → Beyond n
    walk_told {n = n} (is_end h) = by_itself n h
    walk_told {n = n} (leads_by m h k) = told_another m ((are.exact n m).0 h) (walk_told k)

    within : (n : ℕ) → n < count → n < length rows
    within n l = let q = are.size in omega (arith, l, q)

    end_of : (n : ℕ) → n < count → is_flagged alone n ≡ true → LeadsInto rows ends n
    end_of n l e = is_end ((flagged n).1 (within n l, e))

    told_walk : {n : ℕ} → Beyond n → LeadsInto rows ends n
    told_walk {n = n} (told_number k) =
        let l = slice_get_within (declarations u) n k.0 k.1 in
        end_of n l (any.exact n (within n l) ∙ of_first (is_flagged numbers n) (is_flagged inexact n) (is_flagged missing n) (num.complete n l k))
    told_walk {n = n} (told_import k) =
        let l = slice_get_within (declarations u) n k.0 k.1 in
        end_of n l (any.exact n (within n l) ∙ of_third (is_flagged numbers n) (is_flagged inexact n) (is_flagged missing n) (mis.complete n l k))
    told_walk {n = n} (told_type kept k) =
        let l = slice_get_within (declarations u) n k.0 k.1 in
        end_of n l (any.exact n (within n l) ∙ of_second (is_flagged numbers n) (is_flagged inexact n) (is_flagged missing n) (inx.complete n l (record { kept = kept; holds = (k.0, k.1, inl k.2) })))
    told_walk {n = n} (told_value kept k) =
        let l = slice_get_within (declarations u) n k.0 k.1 in
        end_of n l (any.exact n (within n l) ∙ of_second (is_flagged numbers n) (is_flagged inexact n) (is_flagged missing n) (inx.complete n l (record { kept = kept; holds = (k.0, k.1, inr k.2) })))
    told_walk {n = n} (told_another m k b) = leads_by m ((are.exact n m).1 k) (told_walk b)

    pub told_flags : (flags : List Bool) → AreFlagsOf (length rows) (LeadsInto rows ends) flags → AreFlagsOf count Beyond flags
    told_flags flags is = record {
      size = is.size ∙ are.size;
      sound = λ n e. walk_told (is.sound n e);
      complete = λ n l b. is.complete n (within n l) (told_walk b);
    }
