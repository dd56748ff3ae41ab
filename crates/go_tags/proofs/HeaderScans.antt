-- A scan of a header's lines.
use Rattle.std.proofs.Common.{◌≡◌, ℕ, ◌+◌, ◌≤◌, Bool, true, false, ◌||◌, List, [], ◌∷◌, ◌++◌, length, take, drop, refl, sym, ap, ◌∙◌, subst, arith, Some, None, length-append, append_assoc, length-drop}
use Rattle.std.proofs.lemmas.List.{drop-drop, append-nil}
use Rattle.go_base.specs.Comments.{piece_len, IsFront, front_end, front_more}
use Rattle.go_model.specs.files.Headers.{build_text, build_texts, as_list, is_plus_line, has_plus_line, opening_comment, opening_comments, is_open_after}
use Rattle.go_tags.specs.declared.lines.BuildLines.{BuildLines}
use Rattle.go_tags.specs.declared.lines.Lines.{Lines}
use Rattle.go_tags.specs.inner.HeaderLines.{Counts, Sums, IsScan}

-- the rests of the build lines with one more comment
pub texts_more : (comments : List (List ℕ)) (comment : List ℕ) → build_texts (comments ++ (comment ∷ [])) ≡ build_texts comments ++ as_list (build_text comment)
texts_more [] comment = append-nil (as_list (build_text comment))
texts_more (c ∷ cs) comment = ap (λ w. as_list (build_text c) ++ w) (texts_more cs comment) ∙ sym (append_assoc (as_list (build_text c)) (build_texts cs) (as_list (build_text comment)))

or_more : (a b d : Bool) → (a || (b || d)) ≡ ((a || b) || d)
or_more true b d = refl
or_more false b d = refl

or_none : (a b : Bool) → b ≡ false → (a || b) ≡ a
or_none true b e = refl
or_none false b e = e

-- a plus line with one more comment
pub plus_more : (comments : List (List ℕ)) (comment : List ℕ) → has_plus_line (comments ++ (comment ∷ [])) ≡ (has_plus_line comments || is_plus_line comment)
plus_more [] comment = or_none (is_plus_line comment) false refl
plus_more (c ∷ cs) comment = ap (λ w. is_plus_line c || w) (plus_more cs comment) ∙ or_more (is_plus_line c) (has_plus_line cs) (is_plus_line comment)

-- however the prefix goes on from a place, its comments begin with those that were summed
pub record Scanning (bytes : List ℕ) (at : ℕ) (is_open : Bool) (lines : Lines) : Type 0 where
  pub within : at ≤ length bytes
  pub seen : List (List ℕ)
  pub sums : Sums seen lines
  pub whole : (pieces : List (List ℕ)) (rest : List ℕ) → IsFront (drop at bytes) pieces rest
      → (all : List (List ℕ)) × IsFront bytes all rest × (opening_comments true all ≡ seen ++ opening_comments is_open pieces)

pub scanning_none : (bytes : List ℕ) (lines : Lines) → Sums [] lines → Scanning bytes 0 true lines
scanning_none bytes lines s = record { within = omega arith; seen = []; sums = s; whole = λ pieces rest d. (pieces, d, refl) }

pub scanning_more : (bytes : List ℕ) (at n : ℕ) (is_open : Bool) (lines more : Lines) → Scanning bytes at is_open lines → piece_len (drop at bytes) ≡ Some n → n ≤ length (drop at bytes)
    → ((comments : List (List ℕ)) → Sums comments lines → Sums (comments ++ opening_comment is_open (take n (drop at bytes))) more)
    → Scanning bytes (at + n) (is_open_after is_open (take n (drop at bytes))) more
scanning_more bytes at n is_open lines more s e fits longer =
    let piece = take n (drop at bytes) in
    record {
      within = omega (arith, fits, length-drop at bytes, s.within);
      seen = s.seen ++ opening_comment is_open piece;
      sums = longer s.seen s.sums;
      whole = λ pieces rest d.
          let w = s.whole (piece ∷ pieces) rest (front_more e (subst (λ (w : List ℕ). IsFront w pieces rest) (sym (drop-drop n at bytes)) d)) in
          (w.0, w.1, w.2 ∙ sym (append_assoc s.seen (opening_comment is_open piece) (opening_comments (is_open_after is_open piece) pieces)));
    }

pub scanning_done : (bytes : List ℕ) (at : ℕ) (is_open : Bool) (lines : Lines) → Scanning bytes at is_open lines → piece_len (drop at bytes) ≡ None → IsScan bytes lines (drop at bytes)
scanning_done bytes at is_open lines s e =
    let w = s.whole [] (drop at bytes) (front_end e) in
    (w.0, w.1, subst (λ (cs : List (List ℕ)). Sums cs lines) (sym (w.2 ∙ append-nil s.seen)) s.sums)

-- the count of build lines with one more comment, which is none, or one with this rest
pub count_none : (build : BuildLines) (comment : List ℕ) → build_text comment ≡ None → (comments : List (List ℕ)) → Counts (build_texts comments) build → Counts (build_texts (comments ++ (comment ∷ []))) build
count_none build comment e comments h =
    subst (λ (ts : List (List ℕ)). Counts ts build) (sym (texts_more comments comment ∙ ap (λ o. build_texts comments ++ as_list o) e ∙ append-nil (build_texts comments))) h

texts_with : (comment text : List ℕ) → build_text comment ≡ Some text → (comments : List (List ℕ)) → build_texts (comments ++ (comment ∷ [])) ≡ build_texts comments ++ (text ∷ [])
texts_with comment text e comments = texts_more comments comment ∙ ap (λ o. build_texts comments ++ as_list o) e

pub count_first : (comment text : List ℕ) → build_text comment ≡ Some text → (comments : List (List ℕ)) → build_texts comments ≡ [] → build_texts (comments ++ (comment ∷ [])) ≡ text ∷ []
count_first comment text e comments h = texts_with comment text e comments ∙ ap (λ ts. ts ++ (text ∷ [])) h

pub count_later : (comment text : List ℕ) → build_text comment ≡ Some text → (comments : List (List ℕ)) → 1 ≤ length (build_texts comments) → 2 ≤ length (build_texts (comments ++ (comment ∷ [])))
count_later comment text e comments h =
    omega (arith, h, ap length (texts_with comment text e comments), length-append (build_texts comments) (text ∷ []))

pub at_least_one : (texts : List (List ℕ)) (text : List ℕ) → texts ≡ text ∷ [] → 1 ≤ length texts
at_least_one texts text e = omega (arith, ap length e)

pub plus_with : (was now : Bool) (comments : List (List ℕ)) (comment : List ℕ) → now ≡ (was || is_plus_line comment) → was ≡ has_plus_line comments → now ≡ has_plus_line (comments ++ (comment ∷ []))
plus_with was now comments comment e h = e ∙ ap (λ b. b || is_plus_line comment) h ∙ sym (plus_more comments comment)

pub two_or_more : (texts : List (List ℕ)) → 2 ≤ length texts → 1 ≤ length texts
two_or_more texts h = omega arith
