-- `make` and `new`: what they make, and where they make nothing.
use Rattle.std.proofs.Common.{◌≡◌, ℕ, suc, Bool, true, false, Option, Some, None, refl, sym, ap, ◌∙◌, subst, if◌then◌else◌, List, [], ◌∷◌, length, ◌⊎◌, inl, inr, ◌==◌}
use Rattle.std.proofs.lemmas.List.{nil_from_length}
use Rattle.go_model.specs.declared.types.term.Direction.{Direction}
use Rattle.go_model.specs.declared.types.term.Term.{Term, Term-F, out-Term}
use Rattle.go_model.specs.declared.types.term.Term.TheVariants as term
use Rattle.go_model.specs.types.Terms.{Layer, pointer_to}
use Rattle.go_model.specs.types.Underlying.{under}
use Rattle.go_rules.specs.Environments.{Env}
use Rattle.go_rules.specs.Expressions.{IsIndex, Makes, makes_slice, makes_slice_with_capacity, makes_map, makes_map_with_room, makes_channel, makes_channel_with_buffer, Sizes, UpTo}
use Rattle.go_rules.specs.Operands.{plain, type_name}
use Rattle.go_rules.specs.declared.operand.Operand.{Operand}
use Rattle.go_rules.specs.declared.operand.Shape.{Shape}
use Rattle.go_rules.specs.declared.operand.Shape.TheVariants as shape
use Rattle.go_rules.proofs.OneResult.{one_index}
use Rattle.go_selectors.specs.Answers.{Decides}
use Rattle.go_elements.specs.go_usability.Answers.{Gives}
use Rattle.go_calls.specs.Builtins.{AreSizes, no_sizes, more_sizes, MakesOf, makes_of, News, news}
use Rattle.go_calls.specs.inner.Made.{FitSizes}
use Rattle.go_calls.proofs.LevelParts.{at_chan, at_map, at_slice}
use Rattle.go_elements.proofs.go_operators_proofs.Answers.{given, false_true}

-- ---- how many sizes

of_slice : {e : Term} {n : ℕ} → (n ≡ 1) ⊎ (n ≡ 2) → Makes (Term-F.Slice e) n
of_slice {e = e} (inl f) = subst (λ (k : ℕ). Makes (Term-F.Slice e) k) (sym f) makes_slice
of_slice {e = e} (inr f) = subst (λ (k : ℕ). Makes (Term-F.Slice e) k) (sym f) makes_slice_with_capacity

to_slice : {e : Term} {n : ℕ} → Makes (Term-F.Slice e) n → (n ≡ 1) ⊎ (n ≡ 2)
to_slice makes_slice = inl refl
to_slice makes_slice_with_capacity = inr refl

of_map : {k e : Term} {n : ℕ} → (n ≡ 0) ⊎ (n ≡ 1) → Makes (Term-F.Map k e) n
of_map {k = k} {e = e} (inl f) = subst (λ (m : ℕ). Makes (Term-F.Map k e) m) (sym f) makes_map
of_map {k = k} {e = e} (inr f) = subst (λ (m : ℕ). Makes (Term-F.Map k e) m) (sym f) makes_map_with_room

to_map : {k e : Term} {n : ℕ} → Makes (Term-F.Map k e) n → (n ≡ 0) ⊎ (n ≡ 1)
to_map makes_map = inl refl
to_map makes_map_with_room = inr refl

of_channel : {d : Direction} {e : Term} {n : ℕ} → (n ≡ 0) ⊎ (n ≡ 1) → Makes (Term-F.Chan d e) n
of_channel {d = d} {e = e} (inl f) = subst (λ (k : ℕ). Makes (Term-F.Chan d e) k) (sym f) makes_channel
of_channel {d = d} {e = e} (inr f) = subst (λ (k : ℕ). Makes (Term-F.Chan d e) k) (sym f) makes_channel_with_buffer

to_channel : {d : Direction} {e : Term} {n : ℕ} → Makes (Term-F.Chan d e) n → (n ≡ 0) ⊎ (n ≡ 1)
to_channel makes_channel = inl refl
to_channel makes_channel_with_buffer = inr refl

like : (P Q : Type 0) (b : Bool) → (P → Q) → (Q → P) → Decides b P → Decides b Q
like P Q true f g d = f d
like P Q false f g d = λ q. d (g q)

pub slice_decides : (v e : Term) (n : ℕ) (b : Bool) → v ≡ term.Slice e → Decides b ((n ≡ 1) ⊎ (n ≡ 2)) → Decides b (Makes (out-Term v) n)
slice_decides v e n b f d = subst (λ (l : Layer). Decides b (Makes l n)) (sym (at_slice v (out-Term v) refl e f)) (like ((n ≡ 1) ⊎ (n ≡ 2)) (Makes (Term-F.Slice e) n) b (λ x. of_slice x) (λ x. to_slice x) d)

pub map_decides : (v k e : Term) (n : ℕ) (b : Bool) → v ≡ term.Map k e → Decides b ((n ≡ 0) ⊎ (n ≡ 1)) → Decides b (Makes (out-Term v) n)
map_decides v k e n b f d = subst (λ (l : Layer). Decides b (Makes l n)) (sym (at_map v (out-Term v) refl k e f)) (like ((n ≡ 0) ⊎ (n ≡ 1)) (Makes (Term-F.Map k e) n) b (λ x. of_map x) (λ x. to_map x) d)

pub channel_decides : (v : Term) (r : Direction) (e : Term) (n : ℕ) (b : Bool) → v ≡ term.Chan r e → Decides b ((n ≡ 0) ⊎ (n ≡ 1)) → Decides b (Makes (out-Term v) n)
channel_decides v r e n b f d = subst (λ (l : Layer). Decides b (Makes l n)) (sym (at_chan v (out-Term v) refl r e f)) (like ((n ≡ 0) ⊎ (n ≡ 1)) (Makes (Term-F.Chan r e) n) b (λ x. of_channel x) (λ x. to_channel x) d)

-- ---- sizes

module _ (E : Env) where
  sizes_some : {o : Operand} {os : List Operand} {ns : List (Option ℕ)} → AreSizes E (o ∷ os) ns → (n : Option ℕ) × (ms : List (Option ℕ)) × (ns ≡ n ∷ ms) × IsIndex E o n × AreSizes E os ms
  sizes_some (more_sizes i s) = (_, _, refl, i, s)

  sizes_end : {ns : List (Option ℕ)} → AreSizes E [] ns → ns ≡ []
  sizes_end no_sizes = refl

  pub fit_none : (os : List Operand) → os ≡ [] → FitSizes E os
  fit_none os e = subst (FitSizes E) (sym e) (record { numbers = []; sizes = no_sizes; fit = tt })

  pub fit_one : (o : Operand) (n : Option ℕ) → IsIndex E o n → FitSizes E (o ∷ [])
  fit_one o n i = record { numbers = n ∷ []; sizes = more_sizes i no_sizes; fit = tt }

  pub fit_no_index : (o : Operand) (os : List Operand) → ((n : Option ℕ) → IsIndex E o n → ⊥) → FitSizes E (o ∷ os) → ⊥
  fit_no_index o os none x = none _ (sizes_some x.sizes).3

  pub fit_no_second : (o q : Operand) → ((n : Option ℕ) → IsIndex E q n → ⊥) → FitSizes E (o ∷ q ∷ []) → ⊥
  fit_no_second o q none x = none _ (sizes_some (sizes_some x.sizes).4).3

  fits : {o q : Operand} {m n : Option ℕ} → IsIndex E o m → IsIndex E q n → UpTo m n → FitSizes E (o ∷ q ∷ [])
  fits {m = m} {n = n} i j u = record { numbers = m ∷ n ∷ []; sizes = more_sizes i (more_sizes j no_sizes); fit = u }

  two_sizes : (ns ms ks : List (Option ℕ)) (m n : Option ℕ) → ns ≡ m ∷ ms → ms ≡ n ∷ ks → ks ≡ [] → Sizes ns → UpTo m n
  two_sizes ns ms ks m n e f g s = subst Sizes (e ∙ ap (λ (x : List (Option ℕ)). m ∷ x) (f ∙ ap (λ (x : List (Option ℕ)). n ∷ x) g)) s

  up_to : {o q : Operand} {m n : Option ℕ} → IsIndex E o m → IsIndex E q n → FitSizes E (o ∷ q ∷ []) → UpTo m n
  up_to {m = m} {n = n} i j x =
      let a = sizes_some x.sizes in let b = sizes_some a.4 in
      subst (λ (k : Option ℕ). UpTo k n) (one_index a.3 i) (subst (λ (k : Option ℕ). UpTo a.0 k) (one_index b.3 j) (two_sizes x.numbers a.1 b.1 a.0 b.0 a.2 b.2 (sizes_end b.4) x.fit))

  pub fit_decides : (o q : Operand) (m n : Option ℕ) (b : Bool) → IsIndex E o m → IsIndex E q n → Decides b (UpTo m n) → Decides b (FitSizes E (o ∷ q ∷ []))
  fit_decides o q m n true i j d = fits i j d
  fit_decides o q m n false i j d = λ x. d (up_to i j x)

  three_sizes : (ns ms ks ls : List (Option ℕ)) (m n k : Option ℕ) → ns ≡ m ∷ ms → ms ≡ n ∷ ks → ks ≡ k ∷ ls → Sizes ns → ⊥
  three_sizes ns ms ks ls m n k e f g s = subst Sizes (e ∙ ap (λ (x : List (Option ℕ)). m ∷ x) (f ∙ ap (λ (x : List (Option ℕ)). n ∷ x) g)) s

  too_many : (o q : Operand) (os : List Operand) → (os ≡ [] → ⊥) → FitSizes E (o ∷ q ∷ os) → ⊥
  too_many o q [] none x = none refl
  too_many o q (y ∷ os) none x =
      let a = sizes_some x.sizes in let b = sizes_some a.4 in let c = sizes_some b.4 in
      three_sizes x.numbers a.1 b.1 c.1 a.0 b.0 c.0 a.2 b.2 c.2 x.fit

  pub fit_too_many : (o q : Operand) (rest os : List Operand) → rest ≡ q ∷ os → (os ≡ [] → ⊥) → FitSizes E (o ∷ rest) → ⊥
  fit_too_many o q rest os e none x = too_many o q os none (subst (λ (y : List Operand). FitSizes E (o ∷ y)) e x)

  pub fit_second : (o q : Operand) (rest os : List Operand) (b : Bool) → rest ≡ q ∷ os → os ≡ [] → Decides b (FitSizes E (o ∷ q ∷ [])) → Decides b (FitSizes E (o ∷ rest))
  fit_second o q rest os b e f d = subst (λ (y : List Operand). Decides b (FitSizes E (o ∷ y))) (sym (e ∙ ap (λ (y : List Operand). q ∷ y) f)) d

  pub fit_alone : (o : Operand) (rest : List Operand) (b : Bool) → rest ≡ [] → Decides b (FitSizes E (o ∷ [])) → Decides b (FitSizes E (o ∷ rest))
  fit_alone o rest b e d = subst (λ (y : List Operand). Decides b (FitSizes E (o ∷ y))) (sym e) d

  -- ---- the result

  same_length : {os : List Operand} {ns : List (Option ℕ)} → AreSizes E os ns → length ns ≡ length os
  same_length no_sizes = refl
  same_length (more_sizes i s) = ap suc (same_length s)

  made : {o r : Operand} {os : List Operand} → MakesOf E o os r → (t : Term) × (o ≡ type_name t) × Makes (under E.table t) (length os) × FitSizes E os
  made (makes_of {t = t} {ns = ns} s m f) = (t, refl, subst (λ (k : ℕ). Makes (under E.table t) k) (same_length s) m, record { numbers = ns; sizes = s; fit = f })

  shape_term : {t u : Term} → ◌≡◌ {A = Shape} (shape.Of t) (shape.Of u) → t ≡ u
  shape_term e = cc

  same_term : {t u : Term} → ◌≡◌ {A = Operand} (type_name t) (type_name u) → t ≡ u
  same_term e = shape_term (ap (λ (x : Operand). x.shape) e)

  pub make_no_type : (o : Operand) (os : List Operand) → ((t : Term) → o ≡ type_name t → ⊥) → (r : Operand) → MakesOf E o os r → ⊥
  make_no_type o os none r x = none _ (made x).1

  pub make_not_sizes : (o : Operand) (os : List Operand) (t : Term) → o ≡ type_name t → (Makes (under E.table t) (length os) → ⊥) → (r : Operand) → MakesOf E o os r → ⊥
  make_not_sizes o os t e none r x = none (subst (λ (y : Term). Makes (under E.table y) (length os)) (same_term (sym (made x).1 ∙ e)) (made x).2)

  makes : {o : Operand} {os : List Operand} {t : Term} → o ≡ type_name t → Makes (under E.table t) (length os) → FitSizes E os → MakesOf E o os (plain t)
  makes {os = os} {t = t} e m f = subst (λ (x : Operand). MakesOf E x os (plain t)) (sym e) (makes_of f.sizes (subst (λ (k : ℕ). Makes (under E.table t) k) (sym (same_length f.sizes)) m) f.fit)

  pub make_gives : (o : Operand) (os : List Operand) (t : Term) (b : Bool) → o ≡ type_name t → Makes (under E.table t) (length os) → Decides b (FitSizes E os) → Gives (MakesOf E o os) (if b then Some (plain t) else None)
  make_gives o os t b e m d = given (MakesOf E o os) (FitSizes E os) b (plain t) d (λ f. makes e m f) (λ r x. (made x).3)

  not_empty : (os : List Operand) → false ≡ (length os == 0) → os ≡ [] → ⊥
  not_empty os f e = false_true (f ∙ ap (λ (x : List Operand). length x == 0) e)

  pub fit_many : (o q : Operand) (rest os : List Operand) → rest ≡ q ∷ os → false ≡ (length os == 0) → FitSizes E (o ∷ rest) → ⊥
  fit_many o q rest os e f x = fit_too_many o q rest os e (not_empty os f) x

  pub fit_empty : (os : List Operand) → length os ≡ 0 → FitSizes E os
  fit_empty os e = fit_none os (nil_from_length os e)

  -- by what is underneath, and how many there are
  pub make_not_taken : (o : Operand) (os : List Operand) (t : Term) (l : Layer) (n : ℕ) → o ≡ type_name t → l ≡ under E.table t → n ≡ length os → (Makes l n → ⊥) → (r : Operand) → MakesOf E o os r → ⊥
  make_not_taken o os t l n e f g none r x = make_not_sizes o os t e (λ m. none (subst (λ (k : ℕ). Makes l k) (sym g) (subst (λ (y : Layer). Makes y (length os)) (sym f) m))) r x

  pub make_like : (o : Operand) (os : List Operand) (t : Term) (l : Layer) (n : ℕ) (b : Bool) → o ≡ type_name t → l ≡ under E.table t → n ≡ length os → Makes l n → Decides b (FitSizes E os) → Gives (MakesOf E o os) (if b then Some (plain t) else None)
  make_like o os t l n b e f g m d = make_gives o os t b e (subst (λ (y : Layer). Makes y (length os)) f (subst (λ (k : ℕ). Makes l k) g m)) d

-- ---- new

newed : {o r : Operand} → News o r → (t : Term) × (o ≡ type_name t)
newed news = (_, refl)

pub new_nothing : (o : Operand) → ((t : Term) → o ≡ type_name t → ⊥) → (r : Operand) → News o r → ⊥
new_nothing o none r x = none _ (newed x).1

new_gives : (o : Operand) (t : Term) → o ≡ type_name t → News o (plain (pointer_to t))
new_gives o t e = subst (λ (x : Operand). News x (plain (pointer_to t))) (sym e) news

pub new_like : (o : Operand) (t u : Term) (r : Operand) → o ≡ type_name t → u ≡ pointer_to t → r ≡ plain u → News o r
new_like o t u r e f g = subst (News o) (sym (g ∙ ap plain f)) (new_gives o t e)
