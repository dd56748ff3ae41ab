-- Names that begin with an upper-case letter.
use Rattle.std.proofs.Common.{◌≡◌, ℕ, List, [], ◌∷◌, refl, sym, ap, ◌∙◌, Bool, true, false, ◌&&◌}
use mathlib.Core.Bool.{true≢false}
use Rattle.std.proofs.lemmas.Str.{IsUtf8-from_is_utf8, chars_past_char, chars_from_encodes}
use lib.Utf8.{scalars}
use Rattle.std.specs.Str.{chars, is_utf8, encode_utf8_all}
use Rattle.go_syntax.specs.go_base.Characters.{BeginsPassing, is_upper}
use Rattle.go_rules.specs.Environments.{begins_upper, is_exported}

first_true : (a b : Bool) → (a && b) ≡ true → a ≡ true
first_true true b h = refl
first_true false b h = absurd (true≢false (sym h))

begins : (name cs : List ℕ) → chars name ≡ cs → scalars cs ≡ true → encode_utf8_all cs ≡ name → begins_upper (chars name) ≡ true → BeginsPassing is_upper name
begins name [] is s e h = absurd (true≢false (sym h ∙ ap begins_upper is))
begins name (c ∷ cs) is s e h = (c, encode_utf8_all cs, sym (ap begins_upper is) ∙ h, first_true _ (scalars cs) s, sym e)

passes : (name : List ℕ) → is_utf8 name ≡ true → BeginsPassing is_upper name → begins_upper (chars name) ≡ true
passes name utf b = ap begins_upper (chars_past_char name b.1 b.0 (IsUtf8-from_is_utf8 name utf) b.4) ∙ b.2

-- the test of the first character, in a name that is UTF-8
pub exported_by : (name : List ℕ) (b : Bool) → is_utf8 name ≡ true → (b ≡ true → BeginsPassing is_upper name) → (BeginsPassing is_upper name → b ≡ true) → b ≡ is_exported name
exported_by name b utf to from = by b to from ∙ sym (ap (λ u. u && begins_upper (chars name)) utf)
  where
    by : (b : Bool) → (b ≡ true → BeginsPassing is_upper name) → (BeginsPassing is_upper name → b ≡ true) → b ≡ begins_upper (chars name)
    by true to from = sym (passes name utf (to refl))
    by false to from = other (begins_upper (chars name)) refl
      where
        other : (u : Bool) → begins_upper (chars name) ≡ u → false ≡ u
        other false e = refl
        other true e =
            let text = IsUtf8-from_is_utf8 name utf in
            absurd (true≢false (sym (from (begins name text.0 (sym (chars_from_encodes text.0 name text text.1.1)) text.1.0 text.1.1 e))))

-- a name that isn't UTF-8
pub not_exported : (name : List ℕ) → is_utf8 name ≡ false → false ≡ is_exported name
not_exported name e = sym (ap (λ u. u && begins_upper (chars name)) e)
