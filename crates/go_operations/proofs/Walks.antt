-- What is done part by part along a list, and whether its parts are loud.
use Rattle.std.proofs.Common.{◌≡◌, List, [], ◌∷◌, ◌++◌, refl, sym, ap, ◌∙◌, subst, Bool, true, false, ◌||◌}
use Rattle.go_rules.specs.Environments.{Env}
use Rattle.go_rules.specs.Nodes.{Node}
use Rattle.go_type_terms.specs.Loudness.{AreLoud}
use Rattle.go_type_terms.proofs.Gone.{or_false, or_or}
use Rattle.go_type_terms.proofs.LoudTrees.{join_loud}

module _ {D S R : Type 0} (E : Env) (nodes : List D → List Node) (Of : S → List D → R → Type 0) where
  -- what has come of the first parts: the others go on from there
  pub record Walk (first : S) (whole : List D) (now : S) (rest : List D) (loud : Bool) : Type 0 where
    pub to : (r : R) → Of now rest r → Of first whole r
    pub from : (r : R) → Of first whole r → Of now rest r
    pub louder : (b : Bool) → AreLoud E (nodes rest) b → AreLoud E (nodes whole) (loud || b)

  pub set_out : (first : S) (whole : List D) → Walk first whole first whole false
  set_out first whole = record { to = λ r h. h; from = λ r h. h; louder = λ b h. h }

  pub walk_on : (first : S) (whole : List D) (now next : S) (d : D) (rest : List D) (loud b : Bool) (ns : List Node)
      → nodes (d ∷ rest) ≡ ns ++ nodes rest → AreLoud E ns b
      → ((r : R) → Of next rest r → Of now (d ∷ rest) r) → ((r : R) → Of now (d ∷ rest) r → Of next rest r)
      → Walk first whole now (d ∷ rest) loud → Walk first whole next rest (loud || b)
  walk_on first whole now next d rest loud b ns parted l joins splits w = record {
    to = λ r h. w.to r (joins r h);
    from = λ r h. splits r (w.from r h);
    louder = λ c h. subst (λ (f : Bool). AreLoud E (nodes whole) f) (or_or loud b c) (w.louder (b || c) (subst (λ (ms : List Node). AreLoud E ms (b || c)) (sym parted) (join_loud E ns (nodes rest) b c l h)));
  }

  pub arrived : (first : S) (whole : List D) (now : S) (loud : Bool) (r : R) → Of now [] r → AreLoud E (nodes []) false → Walk first whole now [] loud → Of first whole r × AreLoud E (nodes whole) loud
  arrived first whole now loud r done quiet w = (w.to r done, subst (λ (f : Bool). AreLoud E (nodes whole) f) (or_false loud) (w.louder false quiet))
