-- What a search by layers knows at each depth, and what it answers.
use Rattle.std.proofs.Common.{◌≡◌, ◌≤◌, ◌+◌, ℕ, Bool, inl, inr, List, [], ◌∷◌, ◌++◌, length, sym, ◌∙◌, subst, arith, Some, None, Option}
use Rattle.go_base.specs.Lists.{Has}
use Rattle.go_model.specs.types.Tables.{Table}
use Rattle.go_model.specs.declared.types.names.Sel.{Sel}
use Rattle.go_model.specs.declared.types.term.Term.{Term}
use Rattle.go_model.specs.declared.types.found.Found.{Found}
use Rattle.go_model.specs.declared.types.found.Found.TheVariants as found
use Rattle.go_base.specs.Gathered.{gather}
use Rattle.go_model.specs.types.Selectors.{Spot, Ending, steps, endings, NoneBelow, start, is_defined_pointer, IsOnly, Finds}
use Rattle.go_selectors.specs.Endings.{FindsOne, LayerFinds}
use Rattle.go_selectors.specs.Search.{Knows, Consolidates, spot_of}
use Rattle.go_selectors.specs.declared.seen.Key.{Key}
use Rattle.go_selectors.proofs.Lists.{has-left, has-right, twice_has}
use Rattle.go_selectors.proofs.Layers.{Layered, first_layer, next_layer, one_here, many_here, none_here, none_left, below_next, gather_none}

-- the layers up to this one, and the types that were met in them
pub record Layers (T : Table) (s : Sel) (from : Spot) (depth : ℕ) (layer : List Spot) (once twice : List Key) : Type 0 where
  pub seen : List Spot
  pub knows : Knows once twice seen layer
  pub layered : Layered T s from depth layer seen

-- a layer that was looked at is one of the earlier
pub passed : (once twice : List Key) (seen layer : List Spot) → Knows once twice seen layer → Knows once twice (seen ++ layer) []
passed once twice seen layer k = record {
  seen_once = λ x h. elim (k.seen_once x h) [ inl a ↦ inl (has-left seen layer (spot_of x) a) | inr b ↦ inl (has-right seen layer (spot_of x) b) ];
  seen_twice = λ x h. elim (k.seen_twice x h) [ inl a ↦ inl (has-left seen layer (spot_of x) a) | inr b ↦ inl (has-right seen layer (spot_of x) (twice_has layer (spot_of x) b)) ];
}

pub first_layers : (T : Table) (s : Sel) (from : Spot) (layer : List Spot) (once twice : List Key) → layer ≡ from ∷ [] → once ≡ [] → twice ≡ [] → Layers T s from 0 layer once twice
first_layers T s from layer once twice e o t = record {
  seen = [];
  knows = record { seen_once = λ x h. absurd (subst (λ (w : List Key). Has w x) o h); seen_twice = λ x h. absurd (subst (λ (w : List Key). Has w x) t h) };
  layered = first_layer T s from layer e;
}

pub next_layers : (T : Table) (s : Sel) (from : Spot) (depth : ℕ) (layer new : List Spot) (once twice newer again : List Key) → Layers T s from depth layer once twice → Consolidates once twice newer again (gather (steps T) layer) new → Layers T s from (depth + 1) new newer again
next_layers T s from depth layer new once twice newer again l f =
    let k = f (l.seen ++ layer) (passed once twice l.seen layer l.knows) in
    record { seen = l.seen ++ layer; knows = k.0; layered = next_layer T s from depth layer l.seen new l.layered k.1 }

-- nothing was found so far
pub record Searching (T : Table) (s : Sel) (from : Spot) (depth : ℕ) (layer : List Spot) (once twice : List Key) : Type 0 where
  pub layers : Layers T s from depth layer once twice
  pub below : NoneBelow T s from depth

pub first_search : (T : Table) (s : Sel) (from : Spot) (layer : List Spot) (once twice : List Key) → layer ≡ from ∷ [] → once ≡ [] → twice ≡ [] → Searching T s from 0 layer once twice
first_search T s from layer once twice e o t = record { layers = first_layers T s from layer once twice e o t; below = λ j h. absurd (omega arith) }

pub next_search : (T : Table) (s : Sel) (from : Spot) (depth : ℕ) (layer new : List Spot) (once twice newer again : List Key) → Searching T s from depth layer once twice → gather (endings T s) layer ≡ [] → Consolidates once twice newer again (gather (steps T) layer) new → Searching T s from (depth + 1) new newer again
next_search T s from depth layer new once twice newer again l e f = record {
  layers = next_layers T s from depth layer new once twice newer again l.layers f;
  below = below_next T s from depth l.below (none_here T s from l.layers.layered l.below (sym (gather_none T s layer) ∙ e));
}

module _ (T : Table) (s : Sel) (t : Term) (depth : ℕ) (layer : List Spot) (once twice : List Key) (l : Searching T s (start T t) depth layer once twice) where
  only : (e : Ending) → gather (endings T s) layer ≡ e ∷ [] → IsOnly T s (start T t) depth e
  only e h = record { none = l.below; only = one_here T s (start T t) e l.layers.layered l.below (sym (gather_none T s layer) ∙ h) }

  one : (e : Ending) (r : Found) → gather (endings T s) layer ≡ e ∷ [] → FindsOne e (is_defined_pointer T t) depth r → Finds T s t r
  one e (found.FieldAt f) h o = (depth, subst (IsOnly T s (start T t) depth) o.0 (only e h), o.1)
  one e (found.MethodAt m) h o = (depth, subst (IsOnly T s (start T t) depth) o.0 (only e h), o.1, o.2)
  one e found.Ambiguous h o = absurd o
  one e found.Nothing h o = inr (depth, o.0, o.1, o.2, o.3, subst (IsOnly T s (start T t) depth) o.4 (only e h), o.5)

  pub judged : (es : List Ending) (r : Found) → es ≡ gather (endings T s) layer → LayerFinds es layer (is_defined_pointer T t) depth (Some r) → Finds T s t r
  judged es (found.FieldAt f) e v = one v.0 (found.FieldAt f) (sym e ∙ v.1) v.2
  judged es (found.MethodAt m) e v = one v.0 (found.MethodAt m) (sym e ∙ v.1) v.2
  judged es found.Ambiguous e v = (depth, l.below, many_here T s (start T t) l.layers.layered l.below (subst (λ (w : List Ending). 2 ≤ length w) (e ∙ gather_none T s layer) v))
  judged es found.Nothing e (inl v) = inl (none_left T s (start T t) depth layer l.layers.seen l.layers.layered l.below v.1)
  judged es found.Nothing e (inr v) = one v.0 found.Nothing (sym e ∙ v.1) v.2

  pub judged_at : (es : List Ending) (told : Option Found) (r : Found) (defined : Bool) → told ≡ Some r → defined ≡ is_defined_pointer T t → es ≡ gather (endings T s) layer → LayerFinds es layer defined depth told → Finds T s t r
  judged_at es told r defined a d e v = judged es r e (subst (λ (b : Bool). LayerFinds es layer b depth (Some r)) d (subst (LayerFinds es layer defined depth) a v))

pub silent : (es : List Ending) (layer : List Spot) (defined : Bool) (depth : ℕ) (told : Option Found) → told ≡ None → LayerFinds es layer defined depth told → es ≡ []
silent es layer defined depth told a v = subst (LayerFinds es layer defined depth) a v
