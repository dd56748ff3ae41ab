-- Parameters, declaration by declaration.
use Rattle.std.proofs.Common.{◌≡◌, ◌<◌, ◌≤◌, ◌+◌, ℕ, length, get_or, drop, List, [], ◌∷◌, ◌++◌, append_assoc, refl, sym, ◌∙◌, subst, Bool, true, false, ◌||◌, append-nil}
use Rattle.std.proofs.lemmas.List.{drop_all}
use Rattle.go_model.specs.declared.types.term.Term.{Term}
use Rattle.go_syntax.specs.declared.types.ParameterDecl.{ParameterDecl, out-ParameterDecl}
use Rattle.go_rules.specs.Environments.{Env}
use Rattle.go_model.specs.types.Terms.{slice_of}
use Rattle.go_rules.specs.Expressions.{OfParameters, OfType, for_names, parameters_more, parameters_none, parameters_variadic}
use Rattle.go_rules.specs.Nodes.{parameter_parts, type as type_node}
use Rattle.go_rules.proofs.OneOperand.{type_once}
use Rattle.go_type_terms.specs.Loudness.{AreLoud}
use Rattle.go_type_terms.specs.inner.Parameters.{GivesTerms, OfOthers, OfParameter}
use Rattle.go_type_terms.proofs.Gone.{next_of, or_false, or_or}
use Rattle.go_type_terms.proofs.LoudTrees.{join_loud, none_loud}

module _ (E : Env) where
  -- the parameters of the first declarations, and whether these are loud: the rest goes on
  pub record Passed (whole rest : List ParameterDecl) (terms : List Term) (variadic loud : Bool) : Type 0 where
    pub to : (more : List Term) (v : Bool) → OfOthers E variadic rest more v → OfParameters E whole (terms ++ more) v
    pub from : (all : List Term) (v : Bool) → OfParameters E whole all v → (more : List Term) × OfOthers E variadic rest more v
    pub louder : (b : Bool) → AreLoud E (parameter_parts rest) b → AreLoud E (parameter_parts whole) (loud || b)

  pub passed_none : (whole : List ParameterDecl) (terms : List Term) → terms ≡ [] → Passed whole whole terms false false
  passed_none whole terms e = subst (λ (ts : List Term). Passed whole whole ts false false) (sym e) (record { to = λ more v h. h; from = λ all v h. (all, h); louder = λ b h. h })

  -- a declaration before others
  joined : (d : ParameterDecl) (rest : List ParameterDecl) (u : Term) (now more : List Term) (v w : Bool) → (out-ParameterDecl d).variadic ≡ v → OfType E (out-ParameterDecl d).type_ u → GivesTerms v (out-ParameterDecl d).names u now → OfOthers E v rest more w
      → OfParameters E (d ∷ rest) (now ++ more) w
  joined d rest u now more false w e h g k = subst (λ (ts : List Term). OfParameters E (d ∷ rest) (ts ++ more) w) (sym g) (parameters_more e h k)
  joined d rest u now more true w e h g k =
      let last : OfParameters E (d ∷ []) (slice_of u ∷ []) true = parameters_variadic e g.0 h in
      let whole : OfParameters E (d ∷ []) (now ++ []) true = subst (λ (ts : List Term). OfParameters E (d ∷ []) ts true) (sym (append-nil now ∙ g.1)) last in
      subst (λ (x : Bool). OfParameters E (d ∷ rest) (now ++ more) x) (sym k.2)
      (subst (λ (ts : List Term). OfParameters E (d ∷ rest) (now ++ ts) true) (sym k.1) (subst (λ (ds : List ParameterDecl). OfParameters E (d ∷ ds) (now ++ []) true) (sym k.0) whole))

  parted : (d : ParameterDecl) (rest : List ParameterDecl) (all : List Term) (w : Bool) → OfParameters E (d ∷ rest) all w → (more : List Term) × OfOthers E (out-ParameterDecl d).variadic rest more w
  parted d rest all w (parameters_more {us = us} e h k) = (us, subst (λ (v : Bool). OfOthers E v rest us w) (sym e) k)
  parted d rest all w (parameters_variadic e n h) = ([], subst (λ (v : Bool). OfOthers E v [] [] true) (sym e) (refl, refl, refl))

  first : (d : ParameterDecl) (rest : List ParameterDecl) (all : List Term) (w : Bool) → OfParameters E (d ∷ rest) all w → (us : List Term) × OfParameter E d us
  first d rest all w (parameters_more {u = u} e h k) = (for_names (out-ParameterDecl d).names u, (u, h, subst (λ (v : Bool). GivesTerms v (out-ParameterDecl d).names u (for_names (out-ParameterDecl d).names u)) (sym e) refl))
  first d rest all w (parameters_variadic {u = u} e n h) = (slice_of u ∷ [], (u, h, subst (λ (v : Bool). GivesTerms v (out-ParameterDecl d).names u (slice_of u ∷ [])) (sym e) (n, refl)))

  step : (whole : List ParameterDecl) (d : ParameterDecl) (rest : List ParameterDecl) (terms now : List Term) (loud b : Bool) → OfParameter E d now → AreLoud E (type_node (out-ParameterDecl d).type_ ∷ []) b
      → Passed whole (d ∷ rest) terms false loud → Passed whole rest (terms ++ now) (out-ParameterDecl d).variadic (loud || b)
  step whole d rest terms now loud b o l p = record {
    to = λ more v h. subst (λ (ts : List Term). OfParameters E whole ts v) (sym (append_assoc terms now more)) (p.to (now ++ more) v (joined d rest o.0 now more (out-ParameterDecl d).variadic v refl o.1 o.2 h));
    from = λ all v h. let left = p.from all v h in parted d rest left.0 v left.1;
    louder = λ c h. subst (λ (f : Bool). AreLoud E (parameter_parts whole) f) (or_or loud b c) (p.louder (b || c) (join_loud E (type_node (out-ParameterDecl d).type_ ∷ []) (parameter_parts rest) b c l h));
  }

  here : (whole : List ParameterDecl) (at : ℕ) (d : ParameterDecl) (terms : List Term) (variadic loud : Bool) → at < length whole → d ≡ get_or whole at d → Passed whole (drop at whole) terms variadic loud → Passed whole (d ∷ drop (at + 1) whole) terms variadic loud
  here whole at d terms variadic loud h e p = subst (λ (r : List ParameterDecl). Passed whole r terms variadic loud) (next_of whole at d h e) p

  pub passed_on : (whole : List ParameterDecl) (at : ℕ) (d : ParameterDecl) (terms now new : List Term) (variadic more loud b c : Bool) → at < length whole → d ≡ get_or whole at d → variadic ≡ false → new ≡ terms ++ now → more ≡ (out-ParameterDecl d).variadic → c ≡ (loud || b)
      → OfParameter E d now → AreLoud E (type_node (out-ParameterDecl d).type_ ∷ []) b → Passed whole (drop at whole) terms variadic loud → Passed whole (drop (at + 1) whole) new more c
  passed_on whole at d terms now new variadic more loud b c h e plain i m f o l p =
      let rest = drop (at + 1) whole in
      let next = step whole d rest terms now loud b o l (subst (λ (v : Bool). Passed whole (d ∷ rest) terms v loud) plain (here whole at d terms variadic loud h e p)) in
      subst (λ (k : Bool). Passed whole rest new more k) (sym f) (subst (λ (v : Bool). Passed whole rest new v (loud || b)) (sym m) (subst (λ (ts : List Term). Passed whole rest ts (out-ParameterDecl d).variadic (loud || b)) (sym i) next))

  -- where a declaration stands behind a variadic one, and where it gives nothing
  pub passed_behind : (whole : List ParameterDecl) (at : ℕ) (d : ParameterDecl) (terms : List Term) (variadic loud : Bool) → at < length whole → d ≡ get_or whole at d → variadic ≡ true → Passed whole (drop at whole) terms variadic loud
      → (all : List Term) (v : Bool) → OfParameters E whole all v → ⊥
  passed_behind whole at d terms variadic loud h e dots p = λ all v k.
      let left = (subst (λ (w : Bool). Passed whole (d ∷ drop (at + 1) whole) terms w loud) dots (here whole at d terms variadic loud h e p)).from all v k in
      let none : d ∷ drop (at + 1) whole ≡ [] = left.1.0 in absurd (cc)

  pub passed_first : (whole : List ParameterDecl) (at : ℕ) (d : ParameterDecl) (terms : List Term) (variadic loud : Bool) → at < length whole → d ≡ get_or whole at d → variadic ≡ false → Passed whole (drop at whole) terms variadic loud
      → (all : List Term) (v : Bool) → OfParameters E whole all v → (us : List Term) × OfParameter E d us
  passed_first whole at d terms variadic loud h e plain p = λ all v k.
      let left = (subst (λ (w : Bool). Passed whole (d ∷ drop (at + 1) whole) terms w loud) plain (here whole at d terms variadic loud h e p)).from all v k in
      first d (drop (at + 1) whole) left.0 v left.1

  -- at the end
  over : (variadic : Bool) → OfOthers E variadic [] [] variadic
  over false = parameters_none
  over true = (refl, refl, refl)

  pub passed_all : (whole : List ParameterDecl) (at : ℕ) (terms : List Term) (variadic loud : Bool) → length whole ≤ at → Passed whole (drop at whole) terms variadic loud → OfParameters E whole terms variadic × AreLoud E (parameter_parts whole) loud
  passed_all whole at terms variadic loud h p =
      let q = subst (λ (r : List ParameterDecl). Passed whole r terms variadic loud) (drop_all at whole h) p in (
        subst (λ (ts : List Term). OfParameters E whole ts variadic) (append-nil terms) (q.to [] variadic (over variadic)),
        subst (λ (f : Bool). AreLoud E (parameter_parts whole) f) (or_false loud) (q.louder false (none_loud E)),
      )

  -- the types of a declaration's parameters go by its type
  pub to_parameter : (d : ParameterDecl) (u : Term) (us : List Term) → OfType E (out-ParameterDecl d).type_ u → GivesTerms (out-ParameterDecl d).variadic (out-ParameterDecl d).names u us → OfParameter E d us
  to_parameter d u us h g = (u, h, g)

  pub in_parameter : (d : ParameterDecl) (u : Term) → OfType E (out-ParameterDecl d).type_ u → (us : List Term) → OfParameter E d us → GivesTerms (out-ParameterDecl d).variadic (out-ParameterDecl d).names u us
  in_parameter d u h us o = subst (λ (w : Term). GivesTerms (out-ParameterDecl d).variadic (out-ParameterDecl d).names w us) (type_once E o.1 h) o.2
