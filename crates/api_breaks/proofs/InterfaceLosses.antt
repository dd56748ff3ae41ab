-- What interfaces of the module lose, method by method.
use Rattle.std.proofs.Common.{◌≡◌, ◌≤◌, ◌<◌, ◌⊎◌, inl, inr, ℕ, Bool, true, false, List, [], ◌∷◌, ◌++◌, length, take, map, get_or, arith, refl, sym, ap, ◌∙◌, subst}
use mathlib.Core.Bool.{true≢false, beq}
use Rattle.std.specs.Prelude.{◌&&◌, not}
use Rattle.std.specs.Cmp.{first_so, second_so}
use Rattle.go_base.specs.Lists.{Has}
use Rattle.go_base.proofs.Lists.{take_past}
use Rattle.go_model.specs.types.Terms.{Layer}
use Rattle.go_model.specs.types.MethodSets.{method_sel}
use Rattle.go_model.specs.types.Underlying.{under, methods_of}
use Rattle.go_model.specs.worlds.Worlds.{Packages}
use Rattle.go_model.specs.declared.types.names.Sel.{Sel}
use Rattle.go_model.specs.declared.types.term.Term.{Term, out-Term}
use Rattle.go_model.specs.declared.types.term.Method.{Method}
use Rattle.go_selectors.specs.Answers.{Decides}
use Rattle.go_selectors.proofs.Lists.{has-back}
use Rattle.go_type_images.specs.declared.pair.TypePair.{TypePair}
use Rattle.api_correspond.specs.OwnedPairs.{are_of_module}
use Rattle.go_type_images.specs.Levels.{interface_layer}
use Rattle.api_correspond.specs.Publics.{types_of}
use Rattle.api_correspond.specs.Rules.{is_sealing, is_std_sel, Counts, have_interfaces}
use Rattle.api_correspond.specs.inner.BySel.{PlaceTable, places_at, ArePlaces}
use Rattle.api_correspond.proofs.Places.{at_within, at_get, at_same, at_has}
use Rattle.api_correspond.proofs.Selected.{placed_item, item_placed}
use Rattle.api_breaks.specs.declared.broken.Lost.{Lost}
use Rattle.api_breaks.specs.declared.broken.Lost.TheVariants as lost
use Rattle.api_breaks.specs.inner.Interfaces.{HasSealing, Serves, HasServing, ServesAt, HasSel, lost_method, KeepsMethod, IsMethodGone, AreMethodsGone, WasMethod, IsMethodNew, AreMethodsNew, IsSealedApart, KeepsWhere, IsNewWhere, KeepsMethods, IsOfMethods, sealed_apart, methods_gone, methods_new, KeepsInterface, IsInterfaceLoss}
use Rattle.api_breaks.specs.inner.Telling.{Tells, KeptBy}
use Rattle.api_breaks.proofs.PairLosses.{some_told}
use Rattle.api_breaks.proofs.Telling.{told_kept, told_lost, told_as, told_both}

-- some method of a list has a property
module _ (P : Method → Type 0) where
  abbrev pub SomeOf : List Method → Type 0
  SomeOf ms = (m : Method) × Has ms m × P m

  pub none_yet : (ms ns : List Method) (m : Method) → ns ≡ ms ++ m ∷ [] → (SomeOf ms → ⊥) → (P m → ⊥) → SomeOf ns → ⊥
  none_yet ms ns m e n d h = elim (has-back ms m h.0 (subst (λ (w : List Method). Has w h.0) e h.1)) [ inl x ↦ n (h.0, x, h.2) | inr i ↦ d (subst P (sym i) h.2) ]

  pub none_at_all : (ms : List Method) (n : ℕ) → length ms ≤ n → (SomeOf (take n ms) → ⊥) → SomeOf ms → ⊥
  none_at_all ms n h k m = k (subst SomeOf (sym (take_past n ms h)) m)

abbrev pub is_sealing_method : Packages → Method → Type 0
is_sealing_method w m = is_sealing w (method_sel m) ≡ true

-- whether a method at a place stands for another one
pub serves_nowhere : (w : Packages) (ns : List Method) (m : Method) (i : ℕ) → length ns ≤ i → ServesAt w ns m i → ⊥
serves_nowhere w ns m i l h = let k = at_within ns i h.0 h.1 in absurd (omega (arith, k, l))

pub serves_there : (w : Packages) (ns : List Method) (m n : Method) (i : ℕ) (b : Bool) → i < length ns → n ≡ get_or ns i n → Decides b (Serves w m n) → Decides b (ServesAt w ns m i)
serves_there w ns m n i true l e d = (n, at_get ns i n l e, d)
serves_there w ns m n i false l e d = λ h. d (subst (Serves w m) (at_same ns i h.0 n h.1 (at_get ns i n l e)) h.2)

-- among the places that were looked at
abbrev pub ServesSome : Packages → List Method → Method → List ℕ → Type 0
ServesSome w ns m places = (i : ℕ) × Has places i × ServesAt w ns m i

pub no_place_yet : (w : Packages) (ns : List Method) (m : Method) (xs ys : List ℕ) (i : ℕ) → ys ≡ xs ++ i ∷ [] → (ServesSome w ns m xs → ⊥) → (ServesAt w ns m i → ⊥) → ServesSome w ns m ys → ⊥
no_place_yet w ns m xs ys i e k d h = elim (has-back xs i h.0 (subst (λ (x : List ℕ). Has x h.0) e h.1)) [ inl x ↦ k (h.0, x, h.2) | inr y ↦ d (subst (ServesAt w ns m) (sym y) h.2) ]

pub serving_found : (w : Packages) (ns : List Method) (m : Method) (i : ℕ) → ServesAt w ns m i → HasServing w ns m
serving_found w ns m i h = (h.0, at_has ns i h.0 h.1, h.2.0, h.2.1)

pub no_serving : (w : Packages) (ns : List Method) (m : Method) (t : PlaceTable) (places : List ℕ) (n : ℕ) → ArePlaces (map method_sel ns) t → places ≡ places_at t (method_sel m) → length places ≤ n → (ServesSome w ns m (take n places) → ⊥) → HasServing w ns m → ⊥
no_serving w ns m t places n p e l k h =
    let i = item_placed method_sel ns t (method_sel m) h.0 p h.1 h.2 in
    k (i.0, subst (λ (x : List ℕ). Has x i.0) (sym e ∙ sym (take_past n places l)) i.1, (h.0, i.2, (h.2, h.3)))

pub sel_told : (ms : List Method) (t : PlaceTable) (s : Sel) (places : List ℕ) (b r : Bool) → ArePlaces (map method_sel ms) t → places ≡ places_at t s → Decides b (places ≡ []) → r ≡ not b → Decides r (HasSel ms s)
sel_told ms t s places b r p e d f =
    some_told (HasSel ms s) (places_at t s) b r (subst (λ (w : List ℕ). Decides b (w ≡ [])) e d) f
    (λ i h. let k = placed_item method_sel ms t s i p h in (k.0, at_has ms i k.0 k.1, k.2))
    (λ h. let k = item_placed method_sel ms t s h.0 p h.1 h.2 in (k.0, k.1))

-- whether a method stands for another one
module _ (w : Packages) (m n : Method) where
  pub serves_not : (method_sel n ≡ method_sel m → ⊥) → Serves w m n → ⊥
  serves_not d h = d h.0

  pub serves_any : (b : Bool) → method_sel n ≡ method_sel m → b ≡ is_std_sel w (method_sel m) → b ≡ false → Serves w m n
  serves_any b e i f = (e, λ k. absurd (true≢false (sym k ∙ sym i ∙ f)))

  pub serves_itself : (b r : Bool) → method_sel n ≡ method_sel m → b ≡ is_std_sel w (method_sel m) → b ≡ true → Decides r (n ≡ m) → Decides r (Serves w m n)
  serves_itself b true e i f d = (e, λ k. d)
  serves_itself b false e i f d = λ h. d (h.1 (sym i ∙ f))

pub decided : (A : Type 0) (b : Bool) → ((b ≡ true) → A) → (A → b ≡ true) → Decides b A
decided A true f g = f refl
decided A false f g = λ a. true≢false (sym (g a))

-- what two tests tell of two facts
module _ (A B : Type 0) where
  pub alike : (f s : Bool) → Decides f A → Decides s B → f ≡ s → (A → B) × (B → A)
  alike true true d e q = ((λ a. e), (λ b. d))
  alike true false d e q = absurd (true≢false q)
  alike false true d e q = absurd (true≢false (sym q))
  alike false false d e q = ((λ a. absurd (d a)), (λ b. absurd (e b)))

  pub alike_back : (f s : Bool) → Decides f A → Decides s B → (A → B) → (B → A) → f ≡ s
  alike_back true true d e g h = refl
  alike_back true false d e g h = absurd (e (g d))
  alike_back false true d e g h = absurd (d (h e))
  alike_back false false d e g h = refl

pub alike_told : (f s : Bool) → beq f s ≡ true → f ≡ s
alike_told true true e = refl
alike_told true false e = absurd (true≢false (sym e))
alike_told false true e = absurd (true≢false (sym e))
alike_told false false e = refl

pub apart_told : (f s : Bool) → beq f s ≡ false → f ≡ s → ⊥
apart_told true true e q = true≢false e
apart_told true false e q = true≢false q
apart_told false true e q = true≢false (sym q)
apart_told false false e q = true≢false e

module _ (A : Type 0) where
  pub false_not : (f : Bool) → Decides f A → f ≡ false → A → ⊥
  false_not f d e = subst (λ b. Decides b A) e d

  pub not_false : (f : Bool) → Decides f A → (A → ⊥) → f ≡ false
  not_false true d n = absurd (n d)
  not_false false d n = refl

-- one method
module _ (old : Packages) (ns : List Method) (m : Method) (ls : List Lost) where
  pub uncounted : (Counts old (method_sel m) → ⊥) → Tells (KeepsMethod old ns m) (IsMethodGone old ns m) ls ls
  uncounted n = told_kept ls (λ c. absurd (n c)) (λ l h. n h.0)

  pub served : HasServing old ns m → Tells (KeepsMethod old ns m) (IsMethodGone old ns m) ls ls
  served k = told_kept ls (λ c. k) (λ l h. h.1 k)

  pub gone_lost : (grown : List Lost) → Counts old (method_sel m) → (HasServing old ns m → ⊥) → grown ≡ ls ++ lost_method m ∷ [] → Tells (KeepsMethod old ns m) (IsMethodGone old ns m) ls grown
  gone_lost grown c n g = told_lost ls grown (lost_method m) g (c, n, refl) (λ l s. s.2)

module _ (ls : List Lost) where
  pub not_new : (ms : List Method) (n : Method) → HasSel ms (method_sel n) → Tells (WasMethod ms n) (IsMethodNew ms n) ls ls
  not_new ms n k = told_kept ls k (λ l h. h.0 k)

  pub new_lost : (grown : List Lost) (ms : List Method) (n : Method) → (HasSel ms (method_sel n) → ⊥) → grown ≡ ls ++ lost_method n ∷ [] → Tells (WasMethod ms n) (IsMethodNew ms n) ls grown
  new_lost grown ms n k g = told_lost ls grown (lost_method n) g (k, refl) (λ l s. s.1)

  pub sealed_old : (ms ns : List Method) (first second : Bool) → first ≡ true → Tells (KeepsWhere first second ms ns) (IsNewWhere first second ms ns) ls ls
  sealed_old ms ns first second e = told_kept ls (λ f. absurd (true≢false (sym e ∙ f))) (λ l h. true≢false (sym e ∙ h.0))

  pub sealed_new : (ms ns : List Method) (first second : Bool) → second ≡ true → Tells (KeepsWhere first second ms ns) (IsNewWhere first second ms ns) ls ls
  sealed_new ms ns first second e = told_kept ls (λ f s. absurd (true≢false (sym e ∙ s))) (λ l h. true≢false (sym e ∙ h.1))

  pub open_lost : (grown : List Lost) (ms ns : List Method) (first second : Bool) → first ≡ false → second ≡ false → Tells (KeptBy (WasMethod ms) ns) (AreMethodsNew ms ns) ls grown → Tells (KeepsWhere first second ms ns) (IsNewWhere first second ms ns) ls grown
  open_lost grown ms ns first second e f t = told_as ls grown (λ k x y. k) (λ l h. (e, f, h)) (λ l h. h.2) t

  pub alike_kept : (first second : Bool) → first ≡ second → Tells (first ≡ second) (IsSealedApart first second) ls ls
  alike_kept first second e = told_kept ls e (λ l h. h.0 e)

  pub alike_lost : (grown : List Lost) (first second : Bool) → (first ≡ second → ⊥) → grown ≡ ls ++ lost.Sealing ∷ [] → Tells (first ≡ second) (IsSealedApart first second) ls grown
  alike_lost grown first second n g = told_lost ls grown lost.Sealing g (n, refl) (λ l s. s.1)

-- the methods of two interfaces
module _ (old new : Packages) (ms ns : List Method) (first second : Bool) (f : Decides first (HasSealing old ms)) (s : Decides second (HasSealing new ns)) where
  pub methods_exact : (a b c d : List Lost) → Tells (first ≡ second) (IsSealedApart first second) a b → Tells (KeptBy (KeepsMethod old ns) ms) (AreMethodsGone old ms ns) b c → Tells (KeepsWhere first second ms ns) (IsNewWhere first second ms ns) c d → Tells (KeepsMethods old new ms ns) (IsOfMethods old new ms ns) a d
  methods_exact a b c d t u v = told_both a b d kept apart late back t (told_both b c d (λ k l. (k, l)) (λ l h. inl h) (λ l h. inr h) (λ l h. h) u v)
    where
      kept : first ≡ second → KeptBy (KeepsMethod old ns) ms × KeepsWhere first second ms ns → KeepsMethods old new ms ns
      kept e k = record {
        alike = alike (HasSealing old ms) (HasSealing new ns) first second f s e;
        methods = k.0;
        open_kept = λ n o. k.1 (not_false (HasSealing old ms) first f n) (not_false (HasSealing new ns) second s o);
      }

      apart : (l : Lost) → IsSealedApart first second l → IsOfMethods old new ms ns l
      apart l k = sealed_apart (λ h. k.0 (alike_back (HasSealing old ms) (HasSealing new ns) first second f s h.0 h.1)) k.1

      late : (l : Lost) → AreMethodsGone old ms ns l ⊎ IsNewWhere first second ms ns l → IsOfMethods old new ms ns l
      late l (inl k) = methods_gone k
      late l (inr k) = methods_new (false_not (HasSealing old ms) first f k.0) (false_not (HasSealing new ns) second s k.1) k.2

      back : (l : Lost) → IsOfMethods old new ms ns l → IsSealedApart first second l ⊎ (AreMethodsGone old ms ns l ⊎ IsNewWhere first second ms ns l)
      back l (sealed_apart n e) = inl ((λ q. n (alike (HasSealing old ms) (HasSealing new ns) first second f s q)), e)
      back l (methods_gone k) = inr (inl k)
      back l (methods_new n o k) = inr (inr (not_false (HasSealing old ms) first f n, not_false (HasSealing new ns) second s o, k))

-- two types
module _ (old new : Packages) (p : TypePair) (ls : List Lost) where
  pub interfaces_foreign : are_of_module old new p ≡ false → Tells (KeepsInterface old new p) (IsInterfaceLoss old new p) ls ls
  interfaces_foreign e =
      let apart : (are_of_module old new p && have_interfaces old new p) ≡ true → ⊥ = (λ b. true≢false (sym (first_so (are_of_module old new p) (have_interfaces old new p) b) ∙ e)) in
      told_kept ls (λ b. absurd (apart b)) (λ l h. apart h.0)

  both_over : (k l m n : Layer) (b : Bool) → k ≡ l → m ≡ n → (interface_layer k && interface_layer m) ≡ b → (interface_layer l && interface_layer n) ≡ b
  both_over k l m n b e f h = subst (λ (x : Layer). (interface_layer x && interface_layer n) ≡ b) e (subst (λ (y : Layer). (interface_layer k && interface_layer y) ≡ b) f h)

  pub interfaces_other : (before after : Term) → out-Term before ≡ under (types_of old) p.old → out-Term after ≡ under (types_of new) p.new → (interface_layer (out-Term before) && interface_layer (out-Term after)) ≡ false → Tells (KeepsInterface old new p) (IsInterfaceLoss old new p) ls ls
  interfaces_other before after e f n =
      let none : have_interfaces old new p ≡ false = both_over (out-Term before) (under (types_of old) p.old) (out-Term after) (under (types_of new) p.new) false e f n in
      let apart : (are_of_module old new p && have_interfaces old new p) ≡ true → ⊥ = (λ b. true≢false (sym (second_so (are_of_module old new p) (have_interfaces old new p) b) ∙ none)) in
      told_kept ls (λ b. absurd (apart b)) (λ l h. apart h.0)

  pub interfaces_lost : (grown : List Lost) (before after : Term) (ms ns : List Method) → are_of_module old new p ≡ true → out-Term before ≡ under (types_of old) p.old → out-Term after ≡ under (types_of new) p.new → (interface_layer (out-Term before) && interface_layer (out-Term after)) ≡ true → ms ≡ methods_of (out-Term before) → ns ≡ methods_of (out-Term after) → Tells (KeepsMethods old new ms ns) (IsOfMethods old new ms ns) ls grown → Tells (KeepsInterface old new p) (IsInterfaceLoss old new p) ls grown
  interfaces_lost grown before after ms ns o e f s a b t =
      let both : (are_of_module old new p && have_interfaces old new p) ≡ true = ap (λ (x : Bool). x && have_interfaces old new p) o ∙ both_over (out-Term before) (under (types_of old) p.old) (out-Term after) (under (types_of new) p.new) true e f s in
      let first = methods_of (under (types_of old) p.old) in
      let second = methods_of (under (types_of new) p.new) in
      let k : Tells (KeepsMethods old new first second) (IsOfMethods old new first second) ls grown = subst (λ (x : List Method). Tells (KeepsMethods old new first x) (IsOfMethods old new first x) ls grown) (b ∙ ap methods_of f) (subst (λ (x : List Method). Tells (KeepsMethods old new x ns) (IsOfMethods old new x ns) ls grown) (a ∙ ap methods_of e) t) in
      told_as ls grown (λ d w. d) (λ l h. (both, h)) (λ l h. h.1) k
