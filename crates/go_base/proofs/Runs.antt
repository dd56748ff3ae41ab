-- Runs of characters.
use Rattle.std.proofs.Common.{◌≡◌, ◌≢◌, ℕ, zero, suc, ◌+◌, ◌-◌, ◌<◌, ◌≤◌, Bool, true, false, List, [], ◌∷◌, ◌++◌, length, get_or, take, drop, refl, sym, ap, ◌∙◌, subst, arith, length-append, length-drop, zero-add, add-zero, append_assoc, min, ◌&&◌}
use Rattle.std.specs.Prelude.{IsUtf8}
use Rattle.std.specs.Char.{IsScalar, encode_utf8, len_utf8}
use Rattle.std.proofs.lemmas.Str.{encode_same, encode_ascii, len_utf8_ascii, length-encode, len_utf8_bounds, IsUtf8-encode, cons_from_encodes}
use Rattle.std.proofs.lemmas.Bool.Decides.{nat_tests}
use Rattle.std.proofs.lemmas.List.{take_at, drop_at, drop-drop, take-append-drop}
use Rattle.std.proofs.Math.Seq.{take-add}
use Rattle.std.specs.Str.{StartsWithNoChar, all_scalars}
use Rattle.go_base.specs.Characters.{BeginsPassing, IsRun, run_end, run_more}
use Rattle.go_base.specs.Alphabets.{BeginsWith}
use Rattle.go_base.proofs.Lists.{length_take}

add_assoc_sym : (a b n : ℕ) → a + (b + n) ≡ a + b + n
add_assoc_sym a b n = omega arith

-- however the run goes on from a place, it is one from the start
pub record Running (test : ℕ → Bool) (bytes : List ℕ) (at : ℕ) : Type 0 where
  pub within : at ≤ length bytes
  pub whole : (n : ℕ) → IsRun test (take n (drop at bytes)) (drop n (drop at bytes)) → IsRun test (take (at + n) bytes) (drop (at + n) bytes)

pub running_none : (test : ℕ → Bool) (bytes : List ℕ) → Running test bytes 0
running_none test bytes = record { within = omega arith; whole = λ n d. rw zero-add d }

-- one more character of the run
run_longer : (test : ℕ → Bool) (bytes : List ℕ) (n k : ℕ) → BeginsWith test bytes k → IsRun test (take n (drop k bytes)) (drop n (drop k bytes)) → IsRun test (take (k + n) bytes) (drop (k + n) bytes)
run_longer test bytes n k b d =
    let first : take k bytes ≡ encode_utf8 b.0 = ap (take k) b.4 ∙ take_at (encode_utf8 b.0) (drop k bytes) k (length-encode b.0 ∙ sym b.3) in
    subst (λ (p : List ℕ × List ℕ). IsRun test p.0 p.1)
    (λ i. ((ap (λ (w : List ℕ). w ++ take n (drop k bytes)) (sym first) ∙ sym (take-add k n bytes)) i, drop-drop n k bytes i))
    (run_more b.1 b.2 d)

begins_within : (test : ℕ → Bool) (bytes : List ℕ) (k : ℕ) → BeginsWith test bytes k → (k ≤ length bytes) × (0 < k)
begins_within test bytes k b =
    let size : length bytes ≡ length (encode_utf8 b.0) + length (drop k bytes) = ap length b.4 ∙ length-append (encode_utf8 b.0) (drop k bytes) in
    (omega (arith, size, length-encode b.0, b.3), omega (arith, b.3, (len_utf8_bounds b.0).0))

pub running_more : (test : ℕ → Bool) (bytes : List ℕ) (at k : ℕ) → Running test bytes at → BeginsWith test (drop at bytes) k → Running test bytes (at + k)
running_more test bytes at k r b = record {
  within = omega (arith, (begins_within test (drop at bytes) k b).0, length-drop at bytes, r.within);
  whole = λ n d.
      subst (λ (m : ℕ). IsRun test (take m bytes) (drop m bytes)) (add_assoc_sym at k n)
      (r.whole (k + n) (run_longer test (drop at bytes) n k b (subst (λ (w : List ℕ). IsRun test (take n w) (drop n w)) (sym (drop-drop k at bytes)) d)));
}

pub run_smaller : (test : ℕ → Bool) (bytes : List ℕ) (at k : ℕ) → Running test bytes at → BeginsWith test (drop at bytes) k → length bytes - (at + k) < length bytes - at
run_smaller test bytes at k r b = omega (arith, begins_within test (drop at bytes) k b, length-drop at bytes, r.within)

pub run_fits : (test : ℕ → Bool) (bytes : List ℕ) (at k : ℕ) → Running test bytes at → BeginsWith test (drop at bytes) k → at + k ≤ length bytes
run_fits test bytes at k r b = (running_more test bytes at k r b).within

pub run_done : (test : ℕ → Bool) (bytes : List ℕ) (at : ℕ) → Running test bytes at → (BeginsPassing test (drop at bytes) → ⊥) → IsRun test (take at bytes) (drop at bytes)
run_done test bytes at r none = subst (λ (m : ℕ). IsRun test (take m bytes) (drop m bytes)) (add-zero at) (r.whole zero (run_end none))

-- a text has one run at its front
pub run_once : (test : ℕ → Bool) (a r b s : List ℕ) → IsRun test a r → IsRun test b s → a ++ r ≡ b ++ s → (a ≡ b) × (r ≡ s)
run_once test a r b s (run_end no1) (run_end no2) same = (refl, same)
run_once test a r b s (run_end no1) (run_more {c = c} {front = front} {rest = rest} t u e) same = absurd (no1 (c, front ++ s, t, u, same ∙ append_assoc (encode_utf8 c) front s))
run_once test a r b s (run_more {c = c} {front = front} t u d) (run_end no2) same = absurd (no2 (c, front ++ r, t, u, sym same ∙ append_assoc (encode_utf8 c) front r))
run_once test a r b s (run_more {c = c} {front = front} t u d) (run_more {c = c2} {front = front2} t2 u2 e) same =
    let first = encode_same c c2 (front ++ r) (front2 ++ s) (sym (append_assoc (encode_utf8 c) front r) ∙ same ∙ append_assoc (encode_utf8 c2) front2 s) in
    let later = run_once test front r front2 s d e first.1 in
    ((λ i. encode_utf8 (first.0 i) ++ later.0 i), later.1)

-- the first character of UTF-8 that begins some bytes
pub known_char : (bytes text behind more : List ℕ) (c : ℕ) → bytes ≡ text ++ behind → text ≡ encode_utf8 c ++ more → bytes ≡ encode_utf8 c ++ drop (len_utf8 c) bytes
known_char bytes text behind more c e f =
    let whole : bytes ≡ encode_utf8 c ++ (more ++ behind) = e ∙ ap (λ (w : List ℕ). w ++ behind) f ∙ append_assoc (encode_utf8 c) more behind in
    let rest : drop (len_utf8 c) bytes ≡ more ++ behind = ap (drop (len_utf8 c)) whole ∙ drop_at (encode_utf8 c) (more ++ behind) (len_utf8 c) (length-encode c) in
    whole ∙ ap (λ (w : List ℕ). encode_utf8 c ++ w) (sym rest)

and_first : (a b : Bool) → (a && b) ≡ true → a ≡ true
and_first true b h = refl
and_first false b h = h

scalar_first : (c : ℕ) (cs : List ℕ) → all_scalars (c ∷ cs) ≡ true → IsScalar c
scalar_first c cs h = and_first _ (all_scalars cs) h

pub known_scalar : (text more : List ℕ) (c : ℕ) → IsUtf8 text → text ≡ encode_utf8 c ++ more → IsScalar c
known_scalar text more c u e = let first = cons_from_encodes u.0 more c (u.1.1 ∙ e) in scalar_first c first.0 (subst (λ (cs : List ℕ). all_scalars cs ≡ true) first.1 u.1.0)

take_take : (n m : ℕ) (xs : List ℕ) → n ≤ m → take n (take m xs) ≡ take n xs
take_take zero m xs h = refl
take_take (suc n) zero xs h = absurd (omega arith)
take_take (suc n) (suc m) [] h = refl
take_take (suc n) (suc m) (x ∷ xs) h = ap (λ ys. x ∷ ys) (take_take n m xs (omega arith))

-- the front of a front, and what follows it
pub front_of : (n m : ℕ) (text bytes : List ℕ) → text ≡ take n (take m bytes) → (behind : List ℕ) × (bytes ≡ text ++ behind)
front_of n m text bytes e = (
  drop n (take m bytes) ++ drop m bytes,
  sym (ap (λ (w : List ℕ). w ++ (drop n (take m bytes) ++ drop m bytes)) e ∙ sym (append_assoc (take n (take m bytes)) (drop n (take m bytes)) (drop m bytes))
      ∙ ap (λ (w : List ℕ). w ++ drop m bytes) (take-append-drop n (take m bytes)) ∙ take-append-drop m bytes),
)

-- where no front of four bytes is UTF-8, no character begins
pub no_char : (bytes : List ℕ) (m : ℕ) → m ≡ min (length bytes) 4 → ((n : ℕ) → 0 < n → n ≤ length (take m bytes) → IsUtf8 (take n (take m bytes)) → ⊥) → StartsWithNoChar bytes
no_char bytes m is none c rest scalar e =
    let size : length bytes ≡ length (encode_utf8 c) + length rest = ap length e ∙ length-append (encode_utf8 c) rest in
    let bounds = len_utf8_bounds c in
    let width : length (encode_utf8 c) ≡ len_utf8 c = length-encode c in
    let fits : len_utf8 c ≤ m = omega (arith, size, bounds.1, width) in
    let long : length (take m bytes) ≡ m = length_take m bytes (omega arith) in
    none (len_utf8 c) (omega (arith, bounds.0)) (omega (arith, long, fits))
    (subst IsUtf8 (sym (take_take (len_utf8 c) m bytes fits ∙ ap (take (len_utf8 c)) e ∙ take_at (encode_utf8 c) rest (len_utf8 c) width)) (IsUtf8-encode c scalar))

-- the first character is the only one that begins the bytes
pub fails_first : (test : ℕ → Bool) (bytes rest : List ℕ) (c : ℕ) → bytes ≡ encode_utf8 c ++ rest → test c ≡ false → BeginsPassing test bytes → ⊥
fails_first test bytes rest c e fails b =
    let same : c ≡ b.0 = (encode_same c b.0 rest b.1 (sym e ∙ b.4)).0 in
    let passes : test c ≡ true = ap test same ∙ b.2 in
    absurd (cc)

-- whether the bytes begin with a character that passes, by the first one
pub first_decides : (test : ℕ → Bool) (bytes rest : List ℕ) (c : ℕ) (r : Bool) → bytes ≡ encode_utf8 c ++ rest → IsScalar c → r ≡ test c → (r ≡ true → BeginsPassing test bytes) × (BeginsPassing test bytes → r ≡ true)
first_decides test bytes rest c r e scalar is =
    ((λ t. (c, rest, sym is ∙ t, scalar, e)), (λ b. is ∙ ap test (encode_same c b.0 rest b.1 (sym e ∙ b.4)).0 ∙ b.2))

some_encoded : (c : ℕ) (front : List ℕ) → encode_utf8 c ++ front ≡ [] → ⊥
some_encoded c front e = absurd (omega (arith, ap length e, length-append (encode_utf8 c) front, length-encode c, (len_utf8_bounds c).0))

pub empty_run : (test : ℕ → Bool) {front rest : List ℕ} → IsRun test front rest → front ≡ [] → BeginsPassing test rest → ⊥
empty_run test (run_end none) e = none
empty_run test (run_more {c = c} {front = front} t s d) e = absurd (some_encoded c front e)

pub full_run : (test : ℕ → Bool) {front rest : List ℕ} → IsRun test front rest → front ≢ [] → BeginsPassing test (front ++ rest)
full_run test (run_end none) some = absurd (some refl)
full_run test (run_more {c = c} {front = front} {rest = rest} t s d) some = (c, front ++ rest, t, s, append_assoc (encode_utf8 c) front rest)

-- the run at the front of some bytes has no byte exactly where no character passes
pub run_zero : (test : ℕ → Bool) (bytes : List ℕ) (n : ℕ) → IsRun test (take n bytes) (drop n bytes) → n ≡ 0 → BeginsPassing test bytes → ⊥
run_zero test bytes n d e = empty_run test (subst (λ (m : ℕ). IsRun test (take m bytes) (drop m bytes)) e d) refl

pub run_some : (test : ℕ → Bool) (bytes : List ℕ) (n : ℕ) → IsRun test (take n bytes) (drop n bytes) → n ≤ length bytes → 0 < n → BeginsPassing test bytes
run_some test bytes n d within some =
    subst (BeginsPassing test) (take-append-drop n bytes) (full_run test d (λ empty. omega (arith, ap length empty, length_take n bytes within, some)))

ascii_scalar : (c : ℕ) → c < 128 → IsScalar c
ascii_scalar c h = grind (arith, nat_tests)

-- a byte of ASCII at the front is a character
pub ascii_first : (bytes : List ℕ) (b : ℕ) → 0 < length bytes → get_or bytes 0 0 ≡ b → b < 128 → (bytes ≡ encode_utf8 b ++ drop (len_utf8 b) bytes) × IsScalar b
ascii_first [] b some e h = absurd (omega arith)
ascii_first (x ∷ xs) b some e h =
    let one : len_utf8 b ≡ 1 = len_utf8_ascii b h in (
      ap (λ (y : ℕ). y ∷ xs) e ∙ ap (λ (ys : List ℕ). ys ++ xs) (sym (encode_ascii b h)) ∙ ap (λ (n : ℕ). encode_utf8 b ++ drop n (x ∷ xs)) (sym one),
      ascii_scalar b h,
    )
