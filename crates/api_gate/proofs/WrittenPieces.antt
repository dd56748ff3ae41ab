-- Bytes that a sink takes in pieces.
use Rattle.std.proofs.Common.{◌≡◌, ℕ, zero, suc, ◌+◌, ◌-◌, ◌≤◌, List, [], ◌∷◌, ◌++◌, length, take, drop, Option, Some, None, Result, Ok, Err, refl, sym, ap, ◌∙◌, subst, append_assoc, append-nil, inl, inr, arith, ◌^◌, min, length-drop, length-take-le}
use Rattle.go_outside.specs.Sinks.{Takes, TakesSome, AnswersWrite, SinkCause}
use Rattle.go_outside.specs.declared.sink.SinkError.{SinkError}
use Rattle.api_gate.specs.runs.Runs.{Tried}

pub takes_nothing : (old : Option (List ℕ)) → Takes old [] old
takes_nothing None = refl
takes_nothing (Some xs) = ap Some (sym (append-nil xs))

same_bytes : (a b : List ℕ) → ◌≡◌ {A = Option (List ℕ)} (Some a) (Some b) → a ≡ b
same_bytes a b e = cc

pub takes_both : (old mid new : Option (List ℕ)) (xs ys : List ℕ) → Takes old xs mid → Takes mid ys new → Takes old (xs ++ ys) new
takes_both None None new xs ys first second = second
takes_both None (Some m) new xs ys first second = absurd (cc)
takes_both (Some o) None new xs ys first second = absurd (cc)
takes_both (Some o) (Some m) new xs ys first second =
    second ∙ ap Some (ap (λ w. w ++ ys) (same_bytes m (o ++ xs) first) ∙ append_assoc o xs ys)

take_of_none : (n : ℕ) → take {A = ℕ} n [] ≡ []
take_of_none zero = refl
take_of_none (suc n) = refl

take_of_take : (n m : ℕ) (xs : List ℕ) → n ≤ m → take n (take m xs) ≡ take n xs
take_of_take zero m xs h = refl
take_of_take (suc n) zero xs h = absurd (omega arith)
take_of_take (suc n) (suc m) [] h = refl
take_of_take (suc n) (suc m) (x ∷ xs) h = ap (λ ys. x ∷ ys) (take_of_take n m xs (omega arith))

take_and_range : (at end : ℕ) (xs : List ℕ) → at ≤ end → take at xs ++ take (end - at) (drop at xs) ≡ take end xs
take_and_range zero end xs h = let e : end - 0 ≡ end = omega arith in ap (λ n. take n xs) e
take_and_range (suc at) zero xs h = absurd (omega arith)
take_and_range (suc at) (suc end) [] h = take_of_none (suc end - suc at)
take_and_range (suc at) (suc end) (x ∷ xs) h =
    let e : suc end - suc at ≡ end - at = omega arith in
    rw e (ap (λ ys. x ∷ ys) (take_and_range at end xs (omega arith)))

-- a whole piece more
pub takes_piece : (old mid new : Option (List ℕ)) (bytes : List ℕ) (at end : ℕ) → at ≤ end → Takes old (take at bytes) mid → Takes mid (take (end - at) (drop at bytes)) new → Takes old (take end bytes) new
takes_piece old mid new bytes at end h first second =
    subst (λ (w : List ℕ). Takes old w new) (take_and_range at end bytes h) (takes_both old mid new (take at bytes) (take (end - at) (drop at bytes)) first second)

-- a prefix of a piece more
pub takes_front : (old mid new : Option (List ℕ)) (bytes : List ℕ) (at end : ℕ) → at ≤ end → end ≤ length bytes → Takes old (take at bytes) mid → TakesSome mid (take (end - at) (drop at bytes)) new → TakesSome old bytes new
takes_front old mid new bytes at end h within first second =
    let small : second.0 ≤ end - at = omega (arith, second.1, length-take-le (end - at) (drop at bytes) (omega (arith, ◌^◌, min, length-drop at bytes))) in (
      at + second.0,
      omega arith,
      takes_piece old mid new bytes at (at + second.0) (omega arith) first
          (subst (λ (w : List ℕ). Takes mid w new) (take_of_take second.0 (end - at) (drop at bytes) small ∙ ap (λ n. take n (drop at bytes)) (omega arith)) second.2),
    )

-- what an attempt to write leaves
pub tried : (old new : Option (List ℕ)) (bytes : List ℕ) (before now : ℕ) (r : Result (Unit {0}) SinkError) → AnswersWrite old bytes new r → SinkCause before now r
    → Tried (record { told_before = old; told_after = new; faults_before = before; faults_after = now }) bytes
tried old new bytes before now (Ok u) h c = inl h
tried old new bytes before now (Err e) h c = inr (c, h)

-- whatever a write answers, the count didn't fall
pub never_fell : (before now : ℕ) (r : Result (Unit {0}) SinkError) → SinkCause before now r → min before (2 ^ 64 - 1) ≤ now
never_fell before now (Ok u) h = omega arith
never_fell before now (Err e) h = omega arith
