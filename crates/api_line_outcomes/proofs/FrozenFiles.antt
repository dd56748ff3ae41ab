-- A file of frozen lines gives its feature lines, or has a first fault.
use Rattle.std.proofs.Common.{◌≡◌, ◌≢◌, ◌⊎◌, ◌<◌, ◌≤◌, ◌+◌, ◌-◌, ℕ, zero, suc, Bool, true, false, List, [], ◌∷◌, ◌++◌, length, take, refl, sym, ap, ◌∙◌, subst, inl, inr, arith}
use Rattle.std.specs.Prelude.{IsUtf8}
use Rattle.std.specs.Str.{IsValidUpTo}
use Rattle.std.specs.Str.Lines.{lines}
use Rattle.std.proofs.lemmas.Str.{IsUtf8-nil}
use Rattle.go_base.proofs.Lists.{take_past}
use Rattle.go_existence.specs.Existence.{NotNone}
use Rattle.go_existence.proofs.DoubleNegation.{decided, less_or, so, sure, bind}
use Rattle.go_existence.proofs.LeastNumbers.{greatest}
use Rattle.api_frozen.specs.FrozenFiles.{AreFrozen, HasCause, IsBad, IsCut, IsFirstBad, IsFrozenFile, frozen_line, frozen_none, frozen_skipped, is_skipped}
use Rattle.api_frozen.specs.LineShapes.{IsFeatureLine}
use Rattle.api_frozen.specs.declared.error.FrozenError.{FrozenError}
use Rattle.api_frozen.specs.declared.error.FrozenError.TheVariants as error

-- ---- lines

abbrev Ends : List (List ℕ) → Type 0
Ends ls = ((texts : List (List ℕ)) × AreFrozen ls texts) ⊎ ((number : ℕ) × IsFirstBad ls number)

later : (l : List ℕ) (ls : List (List ℕ)) → ((front texts : List (List ℕ)) → AreFrozen front texts → (more : List (List ℕ)) × AreFrozen (l ∷ front) more) → Ends ls → Ends (l ∷ ls)
later l ls f (inl k) = inl (f ls k.0 k.1)
later l ls f (inr (number, (before, line, after, texts, parts, frozen, bad, is))) =
    let more = f before texts frozen in
    inr (suc number, (l ∷ before, line, after, more.0, ap (λ xs. l ∷ xs) parts, more.1, bad, (let i = is in omega (arith, i))))

ends_by : (l : List ℕ) (ls : List (List ℕ)) (b : Bool) → is_skipped l ≡ b → Ends ls → NotNone (Ends (l ∷ ls))
ends_by l ls true e k = sure (later l ls (λ front texts h. (texts, frozen_skipped e h)) k)
ends_by l ls false e k = so (decided ((text : List ℕ) × IsCut l text × IsFeatureLine text)) (λ d. elim d [
  | inl t ↦ later l ls (λ front texts h. (t.0 ∷ texts, frozen_line e t.1 t.2 h)) k
  | inr never ↦ inr (1, ([], l, ls, [], refl, frozen_none, record { counts = e; other = λ text cut feature. never (text, cut, feature) }, refl))
])

ends : (ls : List (List ℕ)) → NotNone (Ends ls)
ends [] = sure (inl ([], frozen_none))
ends (l ∷ ls) = bind (ends ls) (ends_by l ls (is_skipped l) refl)

-- ---- bytes

short : (bytes : List ℕ) → (IsUtf8 bytes → ⊥) → (n : ℕ) → IsUtf8 (take n bytes) → n < length bytes
short bytes bad n h = elim (less_or n (length bytes)) [ inl l ↦ l | inr past ↦ absurd (bad (subst IsUtf8 (take_past n bytes past) h)) ]

-- bytes that aren't UTF-8 begin with a longest front that is
valid_up_to : (bytes : List ℕ) → (IsUtf8 bytes → ⊥) → NotNone ((at : ℕ) × IsValidUpTo bytes at)
valid_up_to bytes bad = so (greatest (λ n. IsUtf8 (take n bytes)) (length bytes) (short bytes bad) 0 IsUtf8-nil) (λ m. (
  m.0,
  record {
    short = short bytes bad m.0 m.1;
    front = m.1;
    longest = λ n above h. m.2 n above h;
  },
))

pub lines_read : (bytes : List ℕ) → NotNone (((texts : List (List ℕ)) × IsFrozenFile bytes texts) ⊎ ((e : FrozenError) × (e ≢ error.NoMemory) × HasCause bytes e))
lines_read bytes = bind (decided (IsUtf8 bytes)) (λ d. elim d [
  | inl valid ↦ so (ends (lines bytes)) (λ k. elim k [
    | inl t ↦ inl (t.0, record { utf8 = valid; frozen = t.1 })
    | inr n ↦ inr (error.NotALine n.0, (λ e. cc), (valid, n.1))
  ])
  | inr bad ↦ so (valid_up_to bytes bad) (λ m. inr (error.NotUtf8 m.0, (λ e. cc), m.1))
])
