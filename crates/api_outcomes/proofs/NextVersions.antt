-- A release has a next one, or has no room for one; what is asked for a version has advice, or a refusal.
use Rattle.std.proofs.Common.{◌≡◌, ◌≤◌, ◌<◌, ◌+◌, ◌^◌, ◌⊎◌, ℕ, zero, suc, List, [], ◌∷◌, Option, Some, None, refl, sym, ◌∙◌, ap, subst, inl, inr, arith}
use Rattle.api_advice.specs.Advice.{IsLeast, IsNext, IsNotAfter, MayFollow, Raises, last_number, number_of, number_to_raise, raised}
use Rattle.api_advice.specs.declared.advice.Number.{Number}
use Rattle.api_advice.specs.declared.advice.Number.TheVariants as number
use Rattle.api_advice.specs.declared.class.Class.{Class}
use Rattle.api_advice.specs.declared.release.Release.{Release}
use Rattle.api_advice.specs.inner.Raising.{with_raised}
use Rattle.api_gate.specs.runs.Outcomes.{IsAdvice, IsAdviceRefusal, no_release, no_version}
use Rattle.api_reports.specs.Reports.{version_text}
use Rattle.api_texts.specs.FaultLines.{no_version_line, not_release_line}
use Rattle.api_words.specs.Words.{IsAskedVersion, IsRequest, IsVersion, release_of, without_v}
use Rattle.api_words.specs.declared.request.AskedVersion.{AskedVersion}
use Rattle.api_words.specs.declared.request.Request.{Request}
use Rattle.semver.proofs.Grammar.{version_parts-sound}
use Rattle.semver.specs.Grammar.{IsValid}
use Rattle.semver.specs.Parse.{Parts}

-- ---- the least release that may follow

below_or_same : (a b : ℕ) → a ≤ b → (a < b) ⊎ (a ≡ b)
below_or_same zero zero le = inr refl
below_or_same zero (suc b) le = inl (omega arith)
below_or_same (suc a) zero le = absurd (omega (arith, le))
below_or_same (suc a) (suc b) le = elim (below_or_same a b (omega (arith, le))) [ inl k ↦ inl (omega (arith, k)) | inr e ↦ inr (ap suc e) ]

raises : (n : Number) (r : Release) → Raises n r (with_raised n r)
raises number.Major r = omega arith
raises number.Minor r = (refl, omega arith)
raises number.Patch r = (refl, refl, omega arith)

none_before : (m p : ℕ) → (0 < m) ⊎ ((0 ≡ m) × (0 ≤ p))
none_before m p = elim (below_or_same 0 m (omega arith)) [ inl k ↦ inl k | inr e ↦ inr (e, omega arith) ]

least : (n : Number) (r other : Release) → Raises n r other → IsNotAfter (with_raised n r) other
least number.Major r o h = elim (below_or_same (r.major + 1) o.major (omega (arith, h))) [ inl k ↦ inl k | inr e ↦ inr (e, none_before o.minor o.patch) ]
least number.Minor r o h = inr (sym h.0, elim (below_or_same (r.minor + 1) o.minor (omega (arith, h.1))) [ inl k ↦ inl k | inr e ↦ inr (e, omega arith) ])
least number.Patch r o h = inr (sym h.0, inr (sym h.1, omega (arith, h.2)))

next_there : (r : Release) (c : Class) → number_to_raise r c ≤ last_number → (o : Option Release) × IsNext r c o
next_there r c le = elim (below_or_same (number_to_raise r c) last_number le) [
  | inl k ↦ (Some (with_raised (raised r.major c) r), (k, record { allowed = raises (raised r.major c) r; least = λ o h. least (raised r.major c) r o h }))
  | inr e ↦ (None, e)
]

-- ---- releases in words

-- the numbers of a release have room in 64 bits
pub record HasRoom (r : Release) : Type 0 where
  pub major : r.major < 2 ^ 64
  pub minor : r.minor < 2 ^ 64
  pub patch : r.patch < 2 ^ 64

some_same : {A : Type 0} (x y : A) → ◌≡◌ {A = Option A} (Some x) (Some y) → x ≡ y
some_same x y e = cc

none_some : {A : Type 0} (x : A) → ◌≡◌ {A = Option A} None (Some x) → ⊥
none_some x e = absurd (cc)

room_of : (p : Parts) (last : Release) → release_of p ≡ Some last → IsValid p → HasRoom last
room_of (a, b, c, [], []) last e v = subst HasRoom (some_same (record { major = a; minor = b; patch = c }) last e) (record { major = v.0; minor = v.1; patch = v.2 })
room_of (a, b, c, [], y ∷ ys) last e v = absurd (none_some last e)
room_of (a, b, c, x ∷ xs, ys) last e v = absurd (none_some last e)

room_for : (n : Number) (r : Release) → HasRoom r → number_of n r ≤ last_number
room_for number.Major r h = omega (arith, h.major)
room_for number.Minor r h = omega (arith, h.minor)
room_for number.Patch r h = omega (arith, h.patch)

asked_room : (value : List ℕ) (v : AskedVersion) (last : Release) → IsAskedVersion value v → v.release ≡ Some last → HasRoom last
asked_room value v last a e = room_of a.parts last (sym a.release ∙ e) (version_parts-sound (without_v value) a.parts a.parsed).1

-- the release of a version that is asked for has room
abbrev pub IsRoomy : Option AskedVersion → Type 0
IsRoomy o = (v : AskedVersion) (last : Release) → o ≡ Some v → v.release ≡ Some last → HasRoom last

roomy : (given : Option (List ℕ)) (o : Option AskedVersion) → IsVersion given o → IsRoomy o
roomy None o is = λ v last e f. absurd (none_some v (sym is ∙ e))
roomy (Some value) o is = λ v last e f. asked_room value v last (subst (IsAskedVersion value) (some_same is.0 v (sym is.2 ∙ e)) is.1) f

pub request_roomy : (words : List (List ℕ)) (r : Request) → IsRequest words r → IsRoomy r.version
request_roomy words r i = roomy i.asked.version.0 r.version i.asked.version.2

-- ---- advice

module _ (c : Class) where
  abbrev pub Advised : Option AskedVersion → Type 0
  Advised o = ((text : List ℕ) × IsAdvice o c text) ⊎ ((v : AskedVersion) × (line : List ℕ) × (o ≡ Some v) × IsAdviceRefusal v c line)

  by_next : (v : AskedVersion) (last : Release) → v.release ≡ Some last → (o : Option Release) → IsNext last c o → Advised (Some v)
  by_next v last e None is = inr (v, no_version_line v.word, refl, no_version last e is)
  by_next v last e (Some next) is = inl (version_text v.word next, (last, next, e, is, refl))

  by_release : (v : AskedVersion) → IsRoomy (Some v) → (o : Option Release) → v.release ≡ o → Advised (Some v)
  by_release v room None e = inr (v, not_release_line v.word, refl, no_release e)
  by_release v room (Some last) e = let n = next_there last c (room_for (raised last.major c) last (room v last refl e)) in by_next v last e n.0 n.1

  pub advice_there : (o : Option AskedVersion) → IsRoomy o → Advised o
  advice_there None room = inl ([], refl)
  advice_there (Some v) room = by_release v room v.release refl
