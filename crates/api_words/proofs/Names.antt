-- Names between commas, and the platforms that they name.
use Rattle.std.proofs.Common.{◌≡◌, ◌≢◌, ◌<◌, ℕ, Bool, true, List, [], length, get_or, map, eqb-true, sym, ◌∙◌, subst}
use Rattle.std.specs.Prelude.{◌==◌}
use denote.Ref.{Bor}
use Rattle.go_base.specs.Lists.{Each, Has}
use Rattle.go_base.proofs.Members.{each_has}
use Rattle.go_model.specs.declared.files.platform.Platform.{Platform}
use Rattle.go_model.specs.files.Platforms.{name_of}
use Rattle.api_words.proofs.Searches.{has_get, has_map, map_has, none_long}

abbrev pub now_of : Bor (List ℕ) → List ℕ
now_of name = name.now

module _ (names : List (Bor (List ℕ))) (i : ℕ) (d : Bor (List ℕ)) (within : i < length names) where
  here : Has (map now_of names) (get_or names i d).now
  here = has_map now_of names (get_or names i d) (has_get names i d within)

  -- where one of the names is no platform's, there are none of all
  pub no_platforms : ((p : Platform) → name_of p ≡ (get_or names i d).now → ⊥) → (all : List Platform) → map now_of names ≡ map name_of all → ⊥
  no_platforms none all e =
      let k = map_has name_of all (get_or names i d).now (subst (λ (w : List (List ℕ)). Has w (get_or names i d).now) e here) in
      none k.0 k.2

  pub not_some : (b : Bool) → b ≡ (length (get_or names i d).now == 0) → b ≡ true → Each (λ name. name ≢ []) (map now_of names) → ⊥
  not_some b e t all = each_has (λ name. name ≢ []) (map now_of names) (get_or names i d).now all here (none_long (get_or names i d).now (eqb-true (length (get_or names i d).now) 0 (sym e ∙ t)))
