-- Keys and values of maps, element by element.
use Rattle.std.proofs.Common.{◌≡◌, ◌<◌, ◌≤◌, ◌+◌, ℕ, length, get_or, drop, List, [], ◌∷◌, refl, sym, ap, ◌∙◌, subst, Bool, false, ◌||◌, Option, Some, None}
use Rattle.go_model.specs.declared.types.term.Term.{Term}
use Rattle.go_rules.specs.Environments.{Env}
use Rattle.go_rules.specs.Expressions.{ElementFits, HasPairs, pairs_none, pairs_more}
use Rattle.go_rules.specs.Nodes.{element_parts}
use Rattle.go_syntax.specs.declared.expression.Element.{Element}
use Rattle.go_operations.specs.go_type_terms.Loudness.{AreLoud}
use Rattle.go_operations.proofs.go_type_terms_proofs.LoudTrees.{none_loud}
use Rattle.go_selectors.proofs.Lists.{drop_all, drop_next}
use Rattle.go_operations.proofs.Walks.{Walk, set_out, walk_on, arrived}
use Rattle.go_literals.specs.Elements.{PairFits, parts_of}
use Rattle.go_literals.proofs.Parts.{parts_join}

module _ (E : Env) (k t : Term) where
  abbrev Onward : Unit {0} → List Element → Unit {0} → Type 0
  Onward s xs r = HasPairs E k t xs

  abbrev pub Pairs : List Element → List Element → Bool → Type 0
  Pairs whole rest loud = Walk E element_parts Onward tt whole tt rest loud

  first_pair : {x : Element} {xs : List Element} → HasPairs E k t (x ∷ xs) → PairFits E k t x × HasPairs E k t xs
  first_pair (pairs_more e f g h) = ((_, e, f, g), h)

  pub pairs_begin : (xs : List Element) → Pairs xs xs false
  pairs_begin xs = set_out E element_parts Onward tt xs

  pub pairs_next : (whole : List Element) (x : Element) (rest : List Element) (loud b : Bool) → PairFits E k t x → AreLoud E (parts_of x) b → Pairs whole (x ∷ rest) loud → Pairs whole rest (loud || b)
  pairs_next whole x rest loud b p l w = walk_on E element_parts Onward tt whole tt tt x rest loud b (parts_of x) (parts_join E x rest) l (λ r h. pairs_more p.1 p.2 p.3 h) (λ r h. (first_pair h).1) w

  pub pairs_end : (whole : List Element) (loud : Bool) → Pairs whole [] loud → HasPairs E k t whole × AreLoud E (element_parts whole) loud
  pairs_end whole loud w = arrived E element_parts Onward tt whole tt loud tt pairs_none (none_loud E) w

  pairs_all : (whole : List Element) (i : ℕ) (x : Element) (loud : Bool) → i < length whole → x ≡ get_or whole i x → Pairs whole (drop i whole) loud → Pairs whole (x ∷ drop (i + 1) whole) loud
  pairs_all whole i x loud h e w = subst (λ (xs : List Element). Pairs whole xs loud) (drop_next i whole x h e) w

  pub pairs_after : (whole : List Element) (i : ℕ) (x : Element) (loud b : Bool) → i < length whole → x ≡ get_or whole i x → PairFits E k t x → AreLoud E (parts_of x) b → Pairs whole (drop i whole) loud → Pairs whole (drop (i + 1) whole) (loud || b)
  pairs_after whole i x loud b h e p l w = pairs_next whole x (drop (i + 1) whole) loud b p l (pairs_all whole i x loud h e w)

  pub pairs_first : (whole : List Element) (i : ℕ) (x : Element) (loud : Bool) → i < length whole → x ≡ get_or whole i x → Pairs whole (drop i whole) loud → HasPairs E k t whole → PairFits E k t x
  pairs_first whole i x loud h e w p = (first_pair ((pairs_all whole i x loud h e w).from tt p)).0

  pub pairs_whole : (whole : List Element) (i : ℕ) (loud : Bool) → length whole ≤ i → Pairs whole (drop i whole) loud → HasPairs E k t whole × AreLoud E (element_parts whole) loud
  pairs_whole whole i loud h w = pairs_end whole loud (subst (λ (xs : List Element). Pairs whole xs loud) (drop_all i whole h) w)
