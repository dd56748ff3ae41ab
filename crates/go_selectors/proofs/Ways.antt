-- What a selector finds depends on the types on its way alone.
use Rattle.std.proofs.Common.{◌≡◌, ◌≤◌, ℕ, zero, suc, Bool, true, false, cond, inl, inr, List, [], ◌∷◌, ◌++◌, length, refl, sym, ap, ◌∙◌, subst, Option, if◌then◌else◌}
use Rattle.std.specs.List.{filter}
use Rattle.go_base.specs.Lists.{Has}
use Rattle.go_base.specs.Gathered.{gather}
use Rattle.go_model.specs.types.Tables.{Table}
use Rattle.go_model.specs.types.Terms.{Layer, same_sel}
use Rattle.go_model.specs.types.Underlying.{under, fields_of, methods_of, declared_methods}
use Rattle.go_model.specs.types.Selectors.{Spot, Ending, method, name_of, field_ending, declared_ending, method_ending, step, steps, endings, ends, start, start_layer, start_pointer, start_named, base_of, base_layer, is_defined_pointer, is_defined_layer, NoneBelow, IsOnly, FindsFrom, Finds}
use Rattle.go_model.specs.types.MethodSets.{InSet}
use Rattle.go_model.specs.declared.types.names.Sel.{Sel}
use Rattle.go_model.specs.declared.types.names.TypeName.{TypeName}
use Rattle.go_model.specs.declared.types.found.Found.{Found}
use Rattle.go_model.specs.declared.types.found.Found.TheVariants as found
use Rattle.go_model.specs.declared.types.package.MethodOf.{MethodOf}
use Rattle.go_model.specs.declared.types.term.Signature.{Signature}
use Rattle.go_model.specs.declared.types.term.Term.{Term, Term-F, out-Term}
use Rattle.go_selectors.specs.Ways.{OnWay, here, further, declared_with, AgreeAt, AgreeFrom, AgreeIn}

-- other methods give no end
ending_filtered : (owner : Option TypeName) (s : Sel) (through : Bool) (ms : List MethodOf) → gather (declared_ending owner s through) (filter (λ m. same_sel m.sel s) ms) ≡ gather (declared_ending owner s through) ms
ending_filtered owner s through [] = refl
ending_filtered owner s through (m ∷ ms) = by (same_sel m.sel s) refl ∙ ap (λ w. declared_ending owner s through m ++ w) (ending_filtered owner s through ms)
  where
    rest : List MethodOf
    rest = filter (λ x. same_sel x.sel s) ms

    by : (b : Bool) → same_sel m.sel s ≡ b → gather (declared_ending owner s through) (cond b (m ∷ rest) rest) ≡ declared_ending owner s through m ++ gather (declared_ending owner s through) rest
    by true e = refl
    by false e = sym (ap (λ b. (if b then record { through = through; target = method owner m.pointer m.signature } ∷ [] else []) ++ gather (declared_ending owner s through) rest) e)

module _ (s : Sel) (A B : Table) where
  endings_agree : (at : Spot) → AgreeAt s A B at.term → endings A s at ≡ endings B s at
  endings_agree at h =
      let f = declared_ending (name_of (out-Term at.term)) s at.through in
      let ms = sym (ending_filtered (name_of (out-Term at.term)) s at.through (declared_methods A (out-Term at.term))) ∙ ap (gather f) h.methods ∙ ending_filtered (name_of (out-Term at.term)) s at.through (declared_methods B (out-Term at.term)) in
      ap (λ l. gather (field_ending s at.through) (fields_of l) ++ gather f (declared_methods A (out-Term at.term)) ++ gather (method_ending s at.through) (methods_of l)) h.underneath
      ∙ ap (λ w. gather (field_ending s at.through) (fields_of (under B at.term)) ++ w ++ gather (method_ending s at.through) (methods_of (under B at.term))) ms

  steps_agree : (at : Spot) → AgreeAt s A B at.term → steps A at ≡ steps B at
  steps_agree at h = ap (λ l. gather (step at.through) (fields_of l)) h.underneath

  gather_same : (f g : Spot → List Ending) (xs : List Spot) → ((x : Spot) → Has xs x → f x ≡ g x) → gather f xs ≡ gather g xs
  gather_same f g [] h = refl
  gather_same f g (x ∷ xs) h = ap (λ w. w ++ gather f xs) (h x (inl refl)) ∙ ap (λ w. g x ++ w) (gather_same f g xs (λ y i. h y (inr i)))

  pub ends_agree : (depth : ℕ) (at : Spot) → AgreeFrom s A B at → ends A s depth at ≡ ends B s depth at
  unfolding ends
  ends_agree zero at h = endings_agree at (h at here)
  ends_agree (suc depth) at h = gather_same (ends A s depth) (ends B s depth) (steps A at) (λ x i. ends_agree depth x (λ y o. h y (further i o))) ∙ ap (gather (ends B s depth)) (steps_agree at (h at here))

  -- two searches with the same ends find the same
  module _ (at other : Spot) (same : (k : ℕ) → ends A s k at ≡ ends B s k other) where
    pub only_same : (d : ℕ) (e : Ending) → IsOnly A s at d e → IsOnly B s other d e
    only_same d e o = record { none = λ k h. sym (same k) ∙ o.none k h; only = sym (same d) ∙ o.only }

    pub finds_same : (hidden : Bool) (r : Found) → FindsFrom A s at hidden r → FindsFrom B s other hidden r
    finds_same hidden (found.FieldAt f) a = (a.0, only_same a.0 _ a.1, a.2)
    finds_same hidden (found.MethodAt m) a = (a.0, only_same a.0 _ a.1, a.2, a.3)
    finds_same hidden found.Ambiguous a = (a.0, λ k h. sym (same k) ∙ a.1 k h, subst (λ (es : List Ending). 2 ≤ length es) (same a.0) a.2)
    finds_same hidden found.Nothing (inl a) = inl (λ k. sym (same k) ∙ a k)
    finds_same hidden found.Nothing (inr a) = inr (a.0, a.1, a.2, a.3, a.4, only_same a.0 _ a.5, a.6)

  module _ (t : Term) (base : under A (base_of t) ≡ under B (base_of t)) where
    pub start_agrees : start A t ≡ start B t
    start_agrees = by (out-Term t) refl
      where
        at_base : (l : Layer) → out-Term t ≡ l → under A (base_layer t l) ≡ under B (base_layer t l)
        at_base l e = subst (λ (k : Layer). under A (base_layer t k) ≡ under B (base_layer t k)) e base

        by : (l : Layer) → out-Term t ≡ l → start_layer A t l ≡ start_layer B t l
        by (Term-F.Plain b) e = refl
        by (Term-F.Named n) e = ap (start_named t) (at_base (Term-F.Named n) e)
        by (Term-F.Pointer b) e = ap (start_pointer t b) (at_base (Term-F.Pointer b) e)
        by (Term-F.Slice b) e = refl
        by (Term-F.Array k b) e = refl
        by (Term-F.Map k b) e = refl
        by (Term-F.Chan d b) e = refl
        by (Term-F.Func g) e = refl
        by (Term-F.Struct fs) e = refl
        by (Term-F.Interface ms) e = refl

    pub defined_agrees : is_defined_pointer A t ≡ is_defined_pointer B t
    defined_agrees = by (out-Term t) refl
      where
        by : (l : Layer) → out-Term t ≡ l → is_defined_layer l (under A t) ≡ is_defined_layer l (under B t)
        by (Term-F.Plain b) e = refl
        by (Term-F.Named n) e = ap (is_defined_layer (Term-F.Named n)) (subst (λ (k : Layer). under A (base_layer t k) ≡ under B (base_layer t k)) e base)
        by (Term-F.Pointer b) e = refl
        by (Term-F.Slice b) e = refl
        by (Term-F.Array k b) e = refl
        by (Term-F.Map k b) e = refl
        by (Term-F.Chan d b) e = refl
        by (Term-F.Func g) e = refl
        by (Term-F.Struct fs) e = refl
        by (Term-F.Interface ms) e = refl

  module _ (t : Term) (h : AgreeIn s A B t) where
    reach_same : (k : ℕ) → ends A s k (start A t) ≡ ends B s k (start B t)
    reach_same k = ends_agree k (start A t) h.way ∙ ap (ends B s k) (start_agrees t h.base)

    pub finds_agree : (r : Found) → Finds A s t r → Finds B s t r
    finds_agree r f = finds_same (start A t) (start B t) reach_same (is_defined_pointer B t) r (subst (λ (b : Bool). FindsFrom A s (start A t) b r) (defined_agrees t h.base) f)

    pub set_agrees : (g : Signature) → InSet A t s g → InSet B t s g
    set_agrees g i = record { depth = i.depth; through = i.through; owner = i.owner; pointer = i.pointer; only = only_same (start A t) (start B t) reach_same i.depth _ i.only; counts = sym (defined_agrees t h.base) ∙ i.counts; reaches = i.reaches }

  way_back : (at last : Spot) → AgreeFrom s A B at → OnWay B at last → OnWay A at last
  way_back at last h here = here
  way_back at last h (further {next = next} i o) = let j = subst (λ (w : List Spot). Has w next) (sym (steps_agree at (h at here))) i in further j (way_back next last (λ y p. h y (further j p)) o)

pub from_back : (s : Sel) (A B : Table) (at : Spot) → AgreeFrom s A B at → AgreeFrom s B A at
from_back s A B at h x o = let k = h x (way_back s A B at x h o) in record { underneath = sym k.underneath; methods = sym k.methods }

pub agree_back : (s : Sel) (A B : Table) (t : Term) → AgreeIn s A B t → AgreeIn s B A t
agree_back s A B t h = record { base = sym h.base; way = subst (AgreeFrom s B A) (start_agrees s A B t h.base) (from_back s A B (start A t) h.way) }
