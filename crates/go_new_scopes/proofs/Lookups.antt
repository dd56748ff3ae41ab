-- Look-ups of a name in a table into which one was put, and the first of two answers.
use Rattle.std.proofs.Common.{◌≡◌, Bool, true, false, cond, ℕ, List, Option, None, Some, refl, sym, ap, ◌∙◌}
use mathlib.Core.Bool.{true≢false}
use Rattle.std.specs.Prelude.{if◌then◌else◌, is_some}
use Rattle.std.specs.Cmp.Lexicographic.{bytes_decides}
use Rattle.std.specs.Option.{option_or}
use Rattle.std.specs.Str.{bytes_eq}
use Rattle.go_rules.proofs.NamedEntries.{put_is}
use Rattle.go_rules.specs.Names.{Named, value_at, with_value}

turned : (a b : List ℕ) (c : Bool) → bytes_eq a b ≡ c → bytes_eq b a ≡ c
turned a b true e = (bytes_decides b a).1 (sym ((bytes_decides a b).0 e))
turned a b false e = other (bytes_eq b a) refl
  where
    other : (d : Bool) → bytes_eq b a ≡ d → d ≡ false
    other true h = absurd (true≢false (sym ((bytes_decides a b).1 (sym ((bytes_decides b a).0 h))) ∙ e))
    other false h = refl

module _ {A : Type 0} where
  -- a name that is put has the value, and any other name what it had
  pub put_told : (t : Named A) (n : List ℕ) (v : A) (q : List ℕ) (e : Bool) → bytes_eq n q ≡ e → value_at (with_value t n v) q ≡ (if e then Some v else value_at t q)
  put_told t n v q e h = put_is q n v t ∙ ap (λ b. cond b (Some v) (value_at t q)) (turned n q e h)

  pub or_none : (o : Option A) → o ≡ option_or o None
  or_none None = refl
  or_none (Some x) = refl

  pub or_or : (a b c : Option A) → option_or (option_or a b) c ≡ option_or a (option_or b c)
  or_or None b c = refl
  or_or (Some x) b c = refl

  pub some_or : (o p : Option A) → is_some o ≡ true → o ≡ option_or o p
  some_or None p e = absurd (true≢false (sym e))
  some_or (Some x) p e = refl

  pub none_or : (o p : Option A) → is_some o ≡ false → p ≡ option_or o p
  none_or None p e = refl
  none_or (Some x) p e = absurd (true≢false e)
