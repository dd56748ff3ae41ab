-- Which names are announced, where those of a table were announced in turn.
use Rattle.std.proofs.Common.{◌≡◌, ℕ, Bool, true, false, ◌||◌, cond, List, [], ◌∷◌, Option, None, Some, refl, ap, ◌∙◌}
use Rattle.std.specs.Prelude.{is_some}
use Rattle.std.specs.Str.{bytes_eq}
use Rattle.go_declared.specs.NameTables.{AreDeclared, place_of}
use Rattle.go_declared.specs.declared.names.NamePlace.{NamePlace}
use Rattle.go_rules.proofs.NamedEntries.{put_is}
use Rattle.go_rules.specs.Names.{Named, value_at, with_value}
use Rattle.go_typings.specs.Declarations.{declared, Declaration, Declared}
use Rattle.go_new_scopes.specs.inner.Announced.{Known, with_names}

or_false : (b : Bool) → b ≡ (b || false)
or_false true = refl
or_false false = refl

or_true : (b : Bool) → true ≡ (b || true)
or_true true = refl
or_true false = refl

module _ (q : List ℕ) where
  abbrev has : Known → Bool
  has t = is_some (value_at t q)

  here_or_on : (b : Bool) (t : Known) (e : List ℕ × NamePlace) (es : Named NamePlace)
      → (is_some (cond b (Some tt) (value_at t q)) || is_some (value_at es q)) ≡ (has t || is_some (cond b (Some e.1) (value_at es q)))
  here_or_on true t e es = or_true (has t)
  here_or_on false t e es = refl

  names_told : (t : Known) (es : Named NamePlace) → has (with_names t es) ≡ (has t || is_some (value_at es q))
  names_told t [] = or_false (has t)
  names_told t (e ∷ es) =
      names_told (with_value t e.0 tt) es
      ∙ ap (λ o. is_some o || is_some (value_at es q)) (put_is q e.0 tt t)
      ∙ here_or_on (bytes_eq q e.0) t e es

  same_some : (o : Option Declared) → is_some (place_of o) ≡ is_some o
  same_some None = refl
  same_some (Some d) = refl

  -- the names that are declared are announced, and no other
  pub announced_names : (names : Named NamePlace) (ds : List Declaration) → AreDeclared ds names → has (with_names [] names) ≡ is_some (declared ds q)
  announced_names names ds are = names_told [] names ∙ ap is_some (are q) ∙ same_some (declared ds q)
