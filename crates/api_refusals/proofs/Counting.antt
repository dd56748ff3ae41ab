-- Newlines and the last line of bytes to which one is added.
use Rattle.std.proofs.Common.{◌≡◌, ℕ, ◌+◌, ◌<◌, Bool, true, false, ◌||◌, List, [], ◌∷◌, ◌++◌, length, length-append, take, get_or, refl, sym, ap, ◌∙◌, arith, if◌then◌else◌}
use Rattle.std.proofs.lemmas.List.{take_more}
use Rattle.std.specs.List.{filter, list_any}
use Rattle.api_refusals.specs.Places.{is_newline, last_line}
use Rattle.api_refusals.specs.inner.Counts.{Counts}
use Rattle.api_refusals.specs.declared.places.Count.{Count}

-- ---- newlines

newlines_later : (c : ℕ) (cs : List ℕ) (is : Bool) → is_newline c ≡ is → length (filter is_newline (c ∷ cs)) ≡ (if is then 1 else 0) + length (filter is_newline cs)
newlines_later c cs true e = rw e (omega arith)
newlines_later c cs false e = rw e (omega arith)

newlines_added : (xs : List ℕ) (b : ℕ) → length (filter is_newline (xs ++ b ∷ [])) ≡ length (filter is_newline xs) + (if is_newline b then 1 else 0)
newlines_added [] b = newlines_later b [] (is_newline b) refl ∙ omega arith
newlines_added (c ∷ cs) b =
    newlines_later c (cs ++ b ∷ []) (is_newline c) refl ∙ ap (λ n. (if is_newline c then 1 else 0) + n) (newlines_added cs b)
    ∙ omega arith ∙ ap (λ n. n + (if is_newline b then 1 else 0)) (sym (newlines_later c cs (is_newline c) refl))

-- ---- the last line

any_before : (c : ℕ) (cs : List ℕ) (b : ℕ) (is first : Bool) → is_newline c ≡ first → list_any is_newline (cs ++ b ∷ []) ≡ (list_any is_newline cs || is)
    → list_any is_newline (c ∷ cs ++ b ∷ []) ≡ (list_any is_newline (c ∷ cs) || is)
any_before c cs b is true f h = rw f refl
any_before c cs b is false f h = rw f h

any_added : (xs : List ℕ) (b : ℕ) (is : Bool) → is_newline b ≡ is → list_any is_newline (xs ++ b ∷ []) ≡ (list_any is_newline xs || is)
any_added [] b true e = rw e refl
any_added [] b false e = rw e refl
any_added (c ∷ cs) b is e = any_before c cs b is (is_newline c) refl (any_added cs b is e)

or_true : (p : Bool) → (p || true) ≡ true
or_true true = refl
or_true false = refl

-- a newline ends it
line_ended : (xs : List ℕ) (b : ℕ) → is_newline b ≡ true → last_line (xs ++ b ∷ []) ≡ []
line_ended [] b e = rw e refl
line_ended (c ∷ cs) b e = ap (λ (any : Bool). if any then last_line (cs ++ b ∷ []) else c ∷ (cs ++ b ∷ [])) (any_added (c ∷ cs) b true e ∙ or_true (list_any is_newline (c ∷ cs))) ∙ line_ended cs b e

-- another byte goes on with it
line_before : (c : ℕ) (cs : List ℕ) (b : ℕ) → is_newline b ≡ false → last_line (cs ++ b ∷ []) ≡ last_line cs ++ b ∷ [] → (any : Bool) → list_any is_newline (c ∷ cs) ≡ any
    → last_line (c ∷ cs ++ b ∷ []) ≡ last_line (c ∷ cs) ++ b ∷ []
line_before c cs b e h true a =
    ap (λ (p : Bool). if p then last_line (cs ++ b ∷ []) else c ∷ (cs ++ b ∷ [])) (any_added (c ∷ cs) b false e ∙ ap (λ (p : Bool). p || false) a)
    ∙ h ∙ ap (λ (p : Bool). (if p then last_line cs else c ∷ cs) ++ b ∷ []) (sym a)
line_before c cs b e h false a =
    ap (λ (p : Bool). if p then last_line (cs ++ b ∷ []) else c ∷ (cs ++ b ∷ [])) (any_added (c ∷ cs) b false e ∙ ap (λ (p : Bool). p || false) a)
    ∙ ap (λ (p : Bool). (if p then last_line cs else c ∷ cs) ++ b ∷ []) (sym a)

line_added : (xs : List ℕ) (b : ℕ) → is_newline b ≡ false → last_line (xs ++ b ∷ []) ≡ last_line xs ++ b ∷ []
line_added [] b e = rw e refl
line_added (c ∷ cs) b e = line_before c cs b e (line_added cs b e) (list_any is_newline (c ∷ cs)) refl

-- ---- one byte more

module _ (xs : List ℕ) (c : Count) (d : ℕ) (within : c.offset < length xs) (k : Counts xs c) where
  pub newline_next : is_newline (get_or xs c.offset d) ≡ true → Counts xs record { offset = c.offset + 1; newlines = c.newlines + 1; tail = 0 }
  newline_next e = record {
    newlines =
        ap (λ n. n + 1) k.newlines
        ∙ sym (ap (λ (ys : List ℕ). length (filter is_newline ys)) (take_more xs c.offset d within) ∙ newlines_added (take c.offset xs) (get_or xs c.offset d)
        ∙ ap (λ (p : Bool). length (filter is_newline (take c.offset xs)) + (if p then 1 else 0)) e);
    tail = sym (ap (λ (ys : List ℕ). length (last_line ys)) (take_more xs c.offset d within) ∙ ap length (line_ended (take c.offset xs) (get_or xs c.offset d) e));
    few = omega (arith, k.few);
    short = omega arith;
  }

  pub other_next : is_newline (get_or xs c.offset d) ≡ false → Counts xs record { offset = c.offset + 1; newlines = c.newlines; tail = c.tail + 1 }
  other_next e = record {
    newlines =
        k.newlines
        ∙ sym (ap (λ (ys : List ℕ). length (filter is_newline ys)) (take_more xs c.offset d within) ∙ newlines_added (take c.offset xs) (get_or xs c.offset d)
        ∙ ap (λ (p : Bool). length (filter is_newline (take c.offset xs)) + (if p then 1 else 0)) e ∙ omega arith);
    tail =
        ap (λ n. n + 1) k.tail
        ∙ sym (ap (λ (ys : List ℕ). length (last_line ys)) (take_more xs c.offset d within) ∙ ap length (line_added (take c.offset xs) (get_or xs c.offset d) e)
        ∙ length-append (last_line (take c.offset xs)) (get_or xs c.offset d ∷ []));
    few = omega (arith, k.few);
    short = omega (arith, k.short);
  }
