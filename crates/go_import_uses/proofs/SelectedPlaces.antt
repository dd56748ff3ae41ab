-- The places of the imports from which references and declarations select, one by one.
use Rattle.std.proofs.Common.{◌≡◌, ◌<◌, ◌+◌, ℕ, Bool, true, false, List, [], ◌∷◌, Some, None, arith, get_or, length, refl, sym, ap, ◌∙◌, subst, ◌⊎◌, inl, inr, ◌||◌}
use mathlib.Core.Bool.{true≢false}
use Rattle.std.specs.BTreeMap.{is_at}
use Rattle.std.specs.FinMap.{nat_cmp-IsAntisymmetric}
use Rattle.std.specs.List.{list_any}
use Rattle.std.specs.Ordering.{nat_cmp, is_eq}
use Rattle.std.specs.declared.cmp.Ordering.{Ordering}
use Rattle.std.specs.declared.cmp.Ordering.TheVariants.{Less, Equal, Greater}
use Rattle.std.proofs.lemmas.Cmp.{nat_cmp_total, tied_itself}
use Rattle.std.proofs.lemmas.Option.{slice_get_within}
use Rattle.go_base.specs.Growing.{Grows}
use Rattle.go_base.specs.Lists.{Has}
use Rattle.go_beyond.proofs.DecidedFlags.{borrowed_at, listed_length}
use Rattle.go_declarations.specs.Listings.{declaration_of, declarations_of}
use Rattle.go_declarations.specs.declared.listing.Declaration.{Declaration as Borrowed}
use Rattle.go_exposed.specs.ExposedDeclarations.{IsExposed}
use Rattle.go_exposed.specs.Refusals.{IsSeenIn}
use Rattle.go_graphs.specs.Flags.{AreFlagsOf, is_flagged}
use Rattle.go_import_uses.proofs.OneOf.{is_not, is_so}
use Rattle.go_import_uses.proofs.Selected.{not_selected, nothing_selected}
use Rattle.go_import_uses.specs.Selecting.{import_in}
use Rattle.go_import_uses.specs.inner.SelectedPlaces.{CountsAt, HoldsBelow, HoldsPlaces, SelectsAt, SelectsFromAt, SomeSelectsAt}
use Rattle.go_imports.proofs.GrowingSets.{grows_as, grows_nothing}
use Rattle.go_references.specs.References.{is_selected}
use Rattle.go_references.specs.declared.references.Reference.{Reference}
use Rattle.go_selectors.specs.Answers.{Decides}
use Rattle.go_sources.specs.UnitSources.{import_of}
use Rattle.go_typings.proofs.Cells.{some_once}
use Rattle.go_typings.specs.Assignments.{At}
use Rattle.go_typings.specs.DeclarationNodes.{references}
use Rattle.go_typings.specs.Declarations.{Declaration, declarations}
use Rattle.go_typings.specs.Sources.{Import, PackageSource, imports_of}
use Rattle.go_units.specs.declared.unit.UsedImport.{UsedImport}

-- ---- keys of an ordered set of numbers

key_by : (n k : ℕ) (ks : List ℕ) (o : Ordering) → nat_cmp n k ≡ o → (is_eq o || list_any (is_at (nat_cmp n)) ks) ≡ true → (list_any (is_at (nat_cmp n)) ks ≡ true → Has ks n) → Has (k ∷ ks) n
key_by n k ks Less e h rest = inr (rest h)
key_by n k ks Equal e h rest = inl (sym (nat_cmp-IsAntisymmetric n k e))
key_by n k ks Greater e h rest = inr (rest h)

pub key_has : (ks : List ℕ) (n : ℕ) → list_any (is_at (nat_cmp n)) ks ≡ true → Has ks n
key_has [] n h = true≢false (sym h)
key_has (k ∷ ks) n h = key_by n k ks (nat_cmp n k) refl h (key_has ks n)

or_right : (a b : Bool) → b ≡ true → (a || b) ≡ true
or_right true b e = refl
or_right false b e = e

pub has_key : (ks : List ℕ) (n : ℕ) → Has ks n → list_any (is_at (nat_cmp n)) ks ≡ true
has_key [] n h = absurd h
has_key (k ∷ ks) n (inl e) = ap (λ o. is_eq o || list_any (is_at (nat_cmp n)) ks) (ap (nat_cmp n) e ∙ tied_itself nat_cmp_total n)
has_key (k ∷ ks) n (inr h) = or_right (is_at (nat_cmp n) k) (list_any (is_at (nat_cmp n)) ks) (has_key ks n h)

-- ---- references

module _ (is : List Import) (r : Reference) where
  pub none_placed : (old : List ℕ) → is_selected r.selected ≡ false → Grows (SelectsAt is r) old old
  none_placed old e = grows_nothing (SelectsAt is r) old (λ p s. not_selected is r s.0 e s.1)

  pub nothing_placed : (old : List ℕ) → None ≡ import_in is r.name.text → Grows (SelectsAt is r) old old
  nothing_placed old e = grows_nothing (SelectsAt is r) old (λ p s. nothing_selected is r s.0 e s.1)

  pub one_placed : (i : UsedImport) (old new : List ℕ) → is_selected r.selected ≡ true → Some (import_of i) ≡ import_in is r.name.text → Grows (λ p. i.place ≡ p) old new → Grows (SelectsAt is r) old new
  one_placed i old new e w g =
      grows_as (λ (p : ℕ). i.place ≡ p) (SelectsAt is r) old new
      (λ p q. (import_of i, record { selects = e; means = sym w }, q))
      (λ p s. ap (λ (j : Import). j.place) (some_once (import_of i) s.0 (w ∙ s.1.means)) ∙ s.2)
      g

-- ---- a declaration

module _ (u : PackageSource) (d : Declaration) where
  told_at : (p : ℕ) → SomeSelectsAt (imports_of u d.file) (references d.form) p → SelectsFromAt u d p
  told_at p k = (k.2.0, record { reference = k.0; has = k.1; selects = k.2.1.selects; means = k.2.1.means }, k.2.2)

  at_told : (p : ℕ) → SelectsFromAt u d p → SomeSelectsAt (imports_of u d.file) (references d.form) p
  at_told p s = (s.1.reference, s.1.has, (s.0, record { selects = s.1.selects; means = s.1.means }, s.2))

  module _ (is_seen : Bool) (file : ℕ) where
    abbrev Stands : Type 0
    Stands = (is_seen ≡ true) × (d.file ≡ file)

    pub not_counted : (old : List ℕ) (b : Bool) → b ≡ false → Decides b Stands → Grows (CountsAt u is_seen file d) old old
    not_counted old b e k = grows_nothing (CountsAt u is_seen file d) old (λ p s. is_not Stands b e k (s.0, s.1))

    pub counted : (old new : List ℕ) (b : Bool) → b ≡ true → Decides b Stands → (is : List Import) (rs : List Reference) → is ≡ imports_of u file → rs ≡ references d.form
        → Grows (SomeSelectsAt is rs) old new → Grows (CountsAt u is_seen file d) old new
    counted old new b e k is rs f h g =
        let stands = is_so Stands b e k in
        grows_as (SomeSelectsAt (imports_of u d.file) (references d.form)) (CountsAt u is_seen file d) old new
        (λ p s. (stands.0, stands.1, told_at p s))
        (λ p s. at_told p s.2)
        (subst (λ (q : List Import × List Reference). Grows (SomeSelectsAt q.0 q.1) old new) (λ i. ((f ∙ ap (imports_of u) (sym stands.1)) i, h i)) g)

-- ---- declarations

last_or_before : (n k : ℕ) → n < k + 1 → (n ≡ k) ⊎ (n < k)
last_or_before n k h = grind (arith, h)

module _ (u : PackageSource) (ds : List Borrowed) (seen : List Bool) (file : ℕ) where
  pub held_more : (n : ℕ) (x : Borrowed) → n < length ds → x ≡ get_or ds n x → (old new : List ℕ) → Grows (CountsAt u (is_flagged seen n) file (declaration_of x)) old new → HoldsBelow u ds seen file n old → HoldsBelow u ds seen file (n + 1) new
  held_more n x within is old new g w k l p a = elim (last_or_before k n l) [
    | inl q ↦ (let h : At (declarations_of ds) n (λ d. CountsAt u (is_flagged seen n) file d p) = subst (λ (z : ℕ). At (declarations_of ds) z (λ d. CountsAt u (is_flagged seen z) file d p)) q a in
        g.complete p (subst (λ (d : Declaration). CountsAt u (is_flagged seen n) file d p) (sym (some_once (declaration_of x) h.0 (sym (borrowed_at ds n x within is) ∙ h.1))) h.2))
    | inr m ↦ g.kept p (w k m p a)
  ]

  pub held_whole : (n : ℕ) (places : List ℕ) → length ds < n + 1 → HoldsBelow u ds seen file n places → HoldsPlaces u ds seen file places
  held_whole n places h w k p a =
      let l = slice_get_within (declarations_of ds) k a.0 a.1 in
      let m = listed_length ds in
      w k (omega (arith, h, l, m)) p a

  -- an import isn't needed where its place isn't one of these
  pub spared : (places : List ℕ) (i : Import) → declarations_of ds ≡ declarations u → HoldsPlaces u ds seen file places → (Has places i.place → ⊥) → AreFlagsOf (length (declarations u)) (IsExposed u) seen → IsSeenIn u file i → ⊥
  spared places i listed held none are k =
      let a = k.selects in
      let l = slice_get_within (declarations u) k.number a.0 a.1 in
      none (held k.number i.place
      (subst (λ (es : List Declaration). At es k.number (λ d. CountsAt u (is_flagged seen k.number) file d i.place)) (sym listed)
      (a.0, a.1, (are.complete k.number l k.seen, a.2.0, (i, a.2.1, refl)))))
