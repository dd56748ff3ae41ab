-- A name's parts, cut at the last underscore.
use Rattle.std.proofs.Common.{◌≡◌, ℕ, suc, ◌+◌, ◌-◌, ◌<◌, ◌≤◌, Bool, true, false, cond, List, [], ◌∷◌, ◌++◌, length, get_or, take, drop, reverse, refl, sym, ap, ◌∙◌, arith, ◌==◌, add-one, nat_lt, None, Some}
use Rattle.std.specs.List.{slice_split, onto_first, All, position_or_len, position, before_first, list_all}
use Rattle.std.proofs.lemmas.List.{reverse-append}
use Rattle.std.proofs.lemmas.List.Splits.{slice_split_none, slice_split_first, length-slice_split}
use Rattle.std.proofs.lemmas.List.Sums.{fails_before_first}
use Rattle.std.proofs.lemmas.Bool.Decides.{nat_tests}
use Rattle.go_model.specs.declared.files.platform.Platform.{Platform}
use Rattle.go_model.specs.files.BuildTags.{is_satisfied}
use Rattle.go_model.specs.files.BuildValues.{without_test, demanded, name_holds}
use Rattle.go_tags.specs.inner.NameParts.{parts_back}
use Rattle.go_base.proofs.Lists.{split_at, rest_from, take_past}

abbrev underscore : ℕ → Bool
underscore b = b == 95

onto_longer : (x : ℕ) (parts more : List (List ℕ)) → 0 < length parts → onto_first x (parts ++ more) ≡ onto_first x parts ++ more
onto_longer x [] more h = absurd (omega arith)
onto_longer x (part ∷ parts) more h = refl

one_longer : (b : Bool) (x : ℕ) (parts longer more : List (List ℕ)) → 0 < length parts → longer ≡ parts ++ more
    → cond b ([] ∷ longer) (onto_first x longer) ≡ cond b ([] ∷ parts) (onto_first x parts) ++ more
one_longer true x parts longer more h e = ap (λ ps. [] ∷ ps) e
one_longer false x parts longer more h e = ap (onto_first x) e ∙ onto_longer x parts more h

-- the parts of a text that ends with an underscore and one more part
split_end : (xs ys : List ℕ) → All (λ b. underscore b ≡ false) ys → slice_split underscore (xs ++ (95 ∷ ys)) ≡ slice_split underscore xs ++ (ys ∷ [])
split_end [] ys apart = ap (λ ps. [] ∷ ps) (slice_split_none underscore ys apart)
split_end (x ∷ xs) ys apart =
    one_longer (underscore x) x (slice_split underscore xs) (slice_split underscore (xs ++ (95 ∷ ys))) (ys ∷ []) (omega (arith, length-slice_split underscore xs)) (split_end xs ys apart)

pub cut_here : (text : List ℕ) (at : ℕ) → at < length text → get_or text at 0 ≡ 95 → All (λ b. underscore b ≡ false) (drop (suc at) text)
    → parts_back text ≡ take (length text - (at + 1)) (drop (at + 1) text) ∷ parts_back (take at text)
cut_here text at h e apart =
    rw (add-one, rest_from)
    (ap parts_back (split_at at text 0 95 h e)
    ∙ ap reverse (split_end (take at text) (drop (suc at) text) apart)
    ∙ reverse-append (slice_split underscore (take at text)) (drop (suc at) text ∷ []))

pub no_cut : (text : List ℕ) → All (λ b. underscore b ≡ false) text → parts_back text ≡ text ∷ []
no_cut text apart = ap reverse (slice_split_none underscore text apart)

-- without an underscore no part is left
pub no_parts : (stem : List ℕ) → length stem ≤ position_or_len underscore stem → drop 1 (slice_split underscore stem) ≡ []
no_parts stem h = ap (λ (parts : List (List ℕ)). drop 1 parts) (slice_split_none underscore stem (λ k d below. fails_before_first underscore stem k d (omega arith)))

-- what stands after the first underscore is cut at the others
pub later_parts : (stem : List ℕ) (at : ℕ) → at ≡ position_or_len underscore stem → at < length stem → drop 1 (slice_split underscore stem) ≡ slice_split underscore (take (length stem - (at + 1)) (drop (at + 1) stem))
later_parts stem at e h =
    rw rest_from
    (ap (λ (parts : List (List ℕ)). drop 1 parts) (slice_split_first underscore stem 0 (omega arith))
    ∙ ap (λ (n : ℕ). slice_split underscore (drop (n + 1) stem)) (sym e))

none_at : (at end : ℕ) → cond (nat_lt at end) (Some at) None ≡ None → end ≤ at
none_at at end e = elim (nat_lt at end) as (λ b. nat_lt at end ≡ b → cond b (Some at) None ≡ None → end ≤ at) [ true ↦ (λ t n. absurd (cc)) | false ↦ (λ t n. grind (arith, nat_tests)) ] refl e

some_at : (at end found : ℕ) → cond (nat_lt at end) (Some at) None ≡ Some found → (found ≡ at) × (at < end)
some_at at end found e = elim (nat_lt at end) as (λ b. nat_lt at end ≡ b → cond b (Some at) None ≡ Some found → (found ≡ at) × (at < end)) [ true ↦ (λ t n. (cc, grind (arith, nat_tests))) | false ↦ (λ t n. absurd (cc)) ] refl e

abbrev rest_holds : Platform → List (List ℕ) → Bool
rest_holds platform parts = list_all (is_satisfied platform) (demanded (without_test (reverse parts)))

module _ (platform : Platform) (name stem : List ℕ) (is : stem ≡ before_first (λ b. b == 46) name) where
  by_stem : rest_holds platform (drop 1 (slice_split underscore stem)) ≡ name_holds platform name
  by_stem = ap (λ (s : List ℕ). rest_holds platform (drop 1 (slice_split underscore s))) is

  pub no_underscore : position underscore stem ≡ None → true ≡ name_holds platform name
  no_underscore none = sym (ap (rest_holds platform) (no_parts stem (none_at (position_or_len underscore stem) (length stem) none))) ∙ by_stem

  pub first_underscore : (at : ℕ) → position underscore stem ≡ Some at
      → list_all (is_satisfied platform) (demanded (without_test (parts_back (take (length stem - (at + 1)) (drop (at + 1) stem))))) ≡ name_holds platform name
  first_underscore at some =
      let found = some_at (position_or_len underscore stem) (length stem) at some in
      sym (ap (rest_holds platform) (later_parts stem at found.0 (omega (arith, found.0, found.1)))) ∙ by_stem

-- what stands before the first byte that passes, where it is known
pub before_found : (p : ℕ → Bool) (text : List ℕ) (at : ℕ) → position p text ≡ Some at → take at text ≡ before_first p text
before_found p text at some = ap (λ (n : ℕ). take n text) (some_at (position_or_len p text) (length text) at some).0

pub before_none : (p : ℕ → Bool) (text : List ℕ) → position p text ≡ None → text ≡ before_first p text
before_none p text none = sym (take_past (position_or_len p text) text (none_at (position_or_len p text) (length text) none))
