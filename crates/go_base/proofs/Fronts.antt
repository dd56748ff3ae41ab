-- White space and comments in front of bytes.
use Rattle.std.proofs.Common.{◌≡◌, ℕ, suc, ◌+◌, ◌<◌, ◌≤◌, false, List, [], ◌∷◌, length, get_or, take, drop, refl, sym, ap, ◌∙◌, subst, arith, Option, Some, None, length-drop, drop-cons, add-one, option_map}
use Rattle.std.specs.Prelude.{codes}
use Rattle.std.proofs.lemmas.List.{drop-drop}
use Rattle.go_base.specs.Comments.{starts_with, close_len, piece_len, IsFront, front_end, front_more}

-- however the front goes on from a place, it is one from the start
pub record Passing (bytes : List ℕ) (at : ℕ) : Type 0 where
  pub within : at ≤ length bytes
  pub whole : (pieces : List (List ℕ)) (rest : List ℕ) → IsFront (drop at bytes) pieces rest → (all : List (List ℕ)) × IsFront bytes all rest

pub passing_none : (bytes : List ℕ) → Passing bytes 0
passing_none bytes = record { within = omega arith; whole = λ pieces rest d. (pieces, d) }

pub passing_more : (bytes : List ℕ) (at n : ℕ) → Passing bytes at → piece_len (drop at bytes) ≡ Some n → n ≤ length (drop at bytes) → Passing bytes (at + n)
passing_more bytes at n p e within = record {
  within = omega (arith, within, length-drop at bytes, p.within);
  whole = λ pieces rest d. p.whole (take n (drop at bytes) ∷ pieces) rest (front_more e (subst (λ (w : List ℕ). IsFront w pieces rest) (sym (drop-drop n at bytes)) d));
}

pub passing_done : (bytes : List ℕ) (at : ℕ) → Passing bytes at → piece_len (drop at bytes) ≡ None → (pieces : List (List ℕ)) × IsFront bytes pieces (drop at bytes)
passing_done bytes at p e = p.whole [] (drop at bytes) (front_end e)

same_some : (m n : ℕ) → ◌≡◌ {A = Option ℕ} (Some m) (Some n) → m ≡ n
same_some m n e = cc

-- bytes have one front
pub front_once : {bytes : List ℕ} {pieces : List (List ℕ)} {rest : List ℕ} → IsFront bytes pieces rest → (pieces2 : List (List ℕ)) (rest2 bytes2 : List ℕ) → bytes ≡ bytes2 → IsFront bytes2 pieces2 rest2 → (pieces ≡ pieces2) × (rest ≡ rest2)
front_once (front_end none) pieces2 rest2 bytes2 e (front_end none2) = (refl, e)
front_once (front_end none) pieces2 rest2 bytes2 e (front_more some d) = let x = ap piece_len e in absurd (cc)
front_once (front_more some d) pieces2 rest2 bytes2 e (front_end none2) = let x = ap piece_len e in absurd (cc)
front_once (front_more {bytes = bytes} {n = n} some d) pieces2 rest2 bytes2 e (front_more {n = m} {pieces = later} some2 f) =
    let same : n ≡ m = same_some n m (sym some ∙ ap piece_len e ∙ some2) in
    let rests = front_once d later rest2 (drop m bytes2) (λ i. drop (same i) (e i)) f in
    ((λ i. take (same i) (e i) ∷ rests.0 i), rests.1)

not_closed : (b : ℕ) (w : List ℕ) → starts_with (codes "*/") (b ∷ w) ≡ false → close_len (b ∷ w) ≡ option_map (λ n. n + 1) (close_len w)
not_closed b w h = rw h refl

further : (at : ℕ) (r : Option ℕ) → option_map (λ n. at + 1 + n) r ≡ option_map (λ n. at + n) (option_map (λ n. n + 1) r)
further at None = refl
further at (Some n) = let same : at + 1 + n ≡ at + (n + 1) = omega arith in ap Some same

-- a place where no comment closes
pub close_later : (bytes : List ℕ) (at : ℕ) → at < length bytes → starts_with (codes "*/") (drop at bytes) ≡ false
    → option_map (λ n. at + 1 + n) (close_len (drop (at + 1) bytes)) ≡ option_map (λ n. at + n) (close_len (drop at bytes))
close_later bytes at more h =
    let here : drop at bytes ≡ get_or bytes at 0 ∷ drop (suc at) bytes = drop-cons bytes at 0 more in
    ap (λ (n : ℕ). option_map (λ k. at + 1 + k) (close_len (drop n bytes))) (add-one at)
    ∙ further at (close_len (drop (suc at) bytes))
    ∙ ap (option_map (λ n. at + n)) (sym (not_closed (get_or bytes at 0) (drop (suc at) bytes) (subst (λ (w : List ℕ). starts_with (codes "*/") w ≡ false) here h)))
    ∙ ap (λ (w : List ℕ). option_map (λ n. at + n) (close_len w)) (sym here)
