-- Whether a seen declaration of a file selects from an import, declaration by declaration.
use Rattle.std.proofs.Common.{◌≡◌, ◌<◌, ◌+◌, ℕ, Bool, true, false, List, arith, get_or, length, sym, ap, ◌∙◌, subst, ◌⊎◌, inl, inr}
use Rattle.std.proofs.lemmas.Option.{slice_get_within}
use Rattle.go_beyond.proofs.DecidedFlags.{borrowed_at, listed_length}
use Rattle.go_declarations.specs.Listings.{declaration_of, declarations_of}
use Rattle.go_declarations.specs.declared.listing.Declaration.{Declaration as Borrowed}
use Rattle.go_exposed.specs.ExposedDeclarations.{IsExposed}
use Rattle.go_exposed.specs.ImportUses.{SelectsFrom}
use Rattle.go_exposed.specs.Refusals.{IsSeenIn}
use Rattle.go_graphs.specs.Flags.{AreFlagsOf, is_flagged}
use Rattle.go_import_uses.proofs.OneOf.{is_not, is_so}
use Rattle.go_selectors.specs.Answers.{Decides}
use Rattle.go_typings.specs.Assignments.{At}
use Rattle.go_typings.specs.Declarations.{Declaration, declarations}
use Rattle.go_typings.specs.Sources.{Import, PackageSource}
use Rattle.go_typings.proofs.Cells.{some_once}

last_or_before : (n k : ℕ) → n < k + 1 → (n ≡ k) ⊎ (n < k)
last_or_before n k h = grind (arith, h)

module _ (u : PackageSource) (ds : List Borrowed) (listed : declarations_of ds ≡ declarations u) (seen : List Bool) (file : ℕ) (i : Import) where
  abbrev pub Counts : ℕ → Declaration → Type 0
  Counts k d = (is_flagged seen k ≡ true) × (d.file ≡ file) × SelectsFrom u d i

  abbrev pub NoneBelow : ℕ → Type 0
  NoneBelow n = (k : ℕ) → k < n → At (declarations_of ds) k (Counts k) → ⊥

  module _ (n : ℕ) (x : Borrowed) (within : n < length ds) (is : x ≡ get_or ds n x) (b : Bool) (d : Decides b ((is_flagged seen n ≡ true) × ((declaration_of x).file ≡ file) × SelectsFrom u (declaration_of x) i)) where
    pub none_more : b ≡ false → NoneBelow n → NoneBelow (n + 1)
    none_more e w k l a = elim (last_or_before k n l) [
      | inl q ↦ (let h : At (declarations_of ds) n (Counts n) = subst (λ (z : ℕ). At (declarations_of ds) z (Counts z)) q a in
          is_not (Counts n (declaration_of x)) b e d (subst (Counts n) (sym (some_once (declaration_of x) h.0 (sym (borrowed_at ds n x within is) ∙ h.1))) h.2))
      | inr m ↦ w k m a
    ]

    pub seen_here : b ≡ true → AreFlagsOf (length (declarations u)) (IsExposed u) seen → IsSeenIn u file i
    seen_here e are =
        let k = is_so (Counts n (declaration_of x)) b e d in
        record {
          number = n;
          seen = are.sound n k.0;
          selects = subst (λ (es : List Declaration). At es n (λ d. (d.file ≡ file) × SelectsFrom u d i)) listed (declaration_of x, borrowed_at ds n x within is, (k.1, k.2));
        }

  pub none_seen : (n : ℕ) → length ds < n + 1 → NoneBelow n → AreFlagsOf (length (declarations u)) (IsExposed u) seen → IsSeenIn u file i → ⊥
  none_seen n h w are k =
      let a = k.selects in
      let l = slice_get_within (declarations u) k.number a.0 a.1 in
      let m = listed_length ds in
      let p = ap length listed in
      w k.number (omega (arith, h, l, m, p)) (subst (λ (es : List Declaration). At es k.number (Counts k.number)) (sym listed) (a.0, a.1, (are.complete k.number l k.seen, a.2.0, a.2.1)))
