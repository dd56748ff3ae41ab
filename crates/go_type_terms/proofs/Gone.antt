-- Lists of declarations, each of which gives some items.
use Rattle.std.proofs.Common.{◌≡◌, ◌<◌, ◌≤◌, ◌+◌, ℕ, suc, length, get_or, drop, drop-cons, add-one, List, [], ◌∷◌, ◌++◌, append_assoc, refl, sym, ap, subst, Bool, true, false, ◌||◌, append-nil}
use Rattle.std.proofs.lemmas.List.{drop_all}
use Rattle.go_rules.specs.Environments.{Env}
use Rattle.go_rules.specs.Nodes.{Node}
use Rattle.go_type_terms.specs.Loudness.{AreLoud}
use Rattle.go_type_terms.proofs.LoudTrees.{join_loud}

-- the next item of a list
pub next_of : {A : Type 0} (xs : List A) (at : ℕ) (x : A) → at < length xs → x ≡ get_or xs at x → drop at xs ≡ x ∷ drop (at + 1) xs
next_of xs at x h e = rw (add-one, drop-cons xs at x h) (ap (λ y. y ∷ drop (suc at) xs) (sym e))

pub or_or : (a b c : Bool) → (a || (b || c)) ≡ ((a || b) || c)
or_or true b c = refl
or_or false b c = refl

pub or_false : (a : Bool) → (a || false) ≡ a
or_false true = refl
or_false false = refl

module _ {D A : Type 0} (E : Env) (nodes : List D → List Node) (Of : List D → List A → Type 0) where
  -- what the first declarations give, and whether they are loud: the rest goes on
  pub record Gone (whole rest : List D) (items : List A) (loud : Bool) : Type 0 where
    pub to : (more : List A) → Of rest more → Of whole (items ++ more)
    pub from : (all : List A) → Of whole all → (more : List A) × Of rest more
    pub louder : (b : Bool) → AreLoud E (nodes rest) b → AreLoud E (nodes whole) (loud || b)

  pub begun : (whole : List D) → Gone whole whole [] false
  begun whole = record { to = λ more h. h; from = λ all h. (all, h); louder = λ b h. h }

  pub goes_on : (whole : List D) (d : D) (rest : List D) (items now : List A) (loud b : Bool) (ns : List Node)
      → nodes (d ∷ rest) ≡ ns ++ nodes rest → AreLoud E ns b
      → ((more : List A) → Of rest more → Of (d ∷ rest) (now ++ more))
      → ((all : List A) → Of (d ∷ rest) all → (more : List A) × Of rest more)
      → Gone whole (d ∷ rest) items loud → Gone whole rest (items ++ now) (loud || b)
  goes_on whole d rest items now loud b ns parted l joins splits g = record {
    to = λ more h. subst (λ (all : List A). Of whole all) (sym (append_assoc items now more)) (g.to (now ++ more) (joins more h));
    from = λ all h. let left = g.from all h in splits left.0 left.1;
    louder = λ c h. subst (λ (f : Bool). AreLoud E (nodes whole) f) (or_or loud b c) (g.louder (b || c) (subst (λ (ms : List Node). AreLoud E ms (b || c)) (sym parted) (join_loud E ns (nodes rest) b c l h)));
  }

  -- at the end
  pub ended : (whole : List D) (items : List A) (loud : Bool) → Of [] [] → AreLoud E (nodes []) false → Gone whole [] items loud → Of whole items × AreLoud E (nodes whole) loud
  ended whole items loud none quiet g =
      (subst (λ (all : List A). Of whole all) (append-nil items) (g.to [] none), subst (λ (f : Bool). AreLoud E (nodes whole) f) (or_false loud) (g.louder false quiet))

  -- where the next declaration gives nothing
  pub none_of : {B : Type 0} (whole : List D) (d : D) (rest : List D) (items : List A) (loud : Bool) (Now : B → Type 0) → ((all : List A) → Of (d ∷ rest) all → (b : B) × Now b)
      → Gone whole (d ∷ rest) items loud → (all : List A) → Of whole all → (b : B) × Now b
  none_of whole d rest items loud Now first g = λ all h. let left = g.from all h in first left.0 left.1

  -- ---- the same at a place of the whole list

  pub gone_begins : (whole : List D) (items : List A) → items ≡ [] → Gone whole whole items false
  gone_begins whole items e = subst (λ (xs : List A). Gone whole whole xs false) (sym e) (begun whole)

  pub gone_on : (whole : List D) (at : ℕ) (d : D) (items now new : List A) (loud b c : Bool) (ns : List Node) → at < length whole → d ≡ get_or whole at d → new ≡ items ++ now → c ≡ (loud || b)
      → ((rest : List D) → nodes (d ∷ rest) ≡ ns ++ nodes rest) → AreLoud E ns b
      → ((rest : List D) (more : List A) → Of rest more → Of (d ∷ rest) (now ++ more))
      → ((rest : List D) (all : List A) → Of (d ∷ rest) all → (more : List A) × Of rest more)
      → Gone whole (drop at whole) items loud → Gone whole (drop (at + 1) whole) new c
  gone_on whole at d items now new loud b c ns h e i f parted l joins splits g =
      let rest = drop (at + 1) whole in
      let here : Gone whole (d ∷ rest) items loud = subst (λ (r : List D). Gone whole r items loud) (next_of whole at d h e) g in
      subst (λ (xs : List A). Gone whole rest xs c) (sym i) (subst (λ (k : Bool). Gone whole rest (items ++ now) k) (sym f) (goes_on whole d rest items now loud b ns (parted rest) l (joins rest) (splits rest) here))

  pub gone_ends : (whole : List D) (at : ℕ) (items : List A) (loud : Bool) → length whole ≤ at → Of [] [] → AreLoud E (nodes []) false → Gone whole (drop at whole) items loud → Of whole items × AreLoud E (nodes whole) loud
  gone_ends whole at items loud h none quiet g = ended whole items loud none quiet (subst (λ (r : List D). Gone whole r items loud) (drop_all at whole h) g)

  pub gone_none : {B : Type 0} (whole : List D) (at : ℕ) (d : D) (items : List A) (loud : Bool) (Now : B → Type 0) → at < length whole → d ≡ get_or whole at d → ((rest : List D) (all : List A) → Of (d ∷ rest) all → (b : B) × Now b)
      → Gone whole (drop at whole) items loud → (all : List A) → Of whole all → (b : B) × Now b
  gone_none whole at d items loud Now h e first g = none_of whole d (drop (at + 1) whole) items loud Now (first (drop (at + 1) whole)) (subst (λ (r : List D). Gone whole r items loud) (next_of whole at d h e) g)
