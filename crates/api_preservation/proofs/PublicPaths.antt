-- A path that a client may import has no element `internal`.
use Rattle.std.proofs.Common.{◌≡◌, ◌≢◌, ◌⊎◌, ◌+◌, ◌-◌, ℕ, zero, suc, Bool, true, false, not, ◌&&◌, cond, nat_eq, List, [], ◌∷◌, ◌++◌, length, take, drop, get_or, refl, sym, ap, ◌∙◌, subst, inl, inr, arith, append_assoc, length-append, None}
use mathlib.Core.Bool.{true≢false}
use Rattle.std.specs.Prelude.{codes}
use Rattle.std.specs.List.{list_all, onto_first, slice_split, starts_with}
use Rattle.std.specs.Str.{bytes_eq}
use Rattle.std.proofs.Math.Seq.{take-append_seam}
use Rattle.std.proofs.lemmas.Bool.{eqb-true}
use Rattle.std.proofs.lemmas.List.Splits.{length-slice_split}
use Rattle.std.proofs.lemmas.Slice.Eq.{bytes_eq-Decides}
use Rattle.go_base.specs.Lists.{Has}
use Rattle.go_existence.proofs.DoubleNegation.{less_or}
use Rattle.go_existence.proofs.LeastNumbers.{greatest}
use Rattle.go_imports.proofs.Paths.{internal_fits}
use Rattle.go_imports.specs.ImportPaths.{Begins, Ends, IsInTree, IsInternalAt, IsInternalUse, IsUnder}
use Rattle.go_imports.specs.InternalUses.{IsFirstInternalImport, IsInternalImport}
use Rattle.go_imports.specs.declared.used_imports.NamedImport.{NamedImport}
use Rattle.go_model.specs.files.Trees.{are_elements, begins_element, is_element, is_element_byte}
use Rattle.go_model.specs.types.Terms.{client_path}
use Rattle.go_typings.specs.PackageWorlds.{is_public_element, is_slash}

abbrev parts : List ℕ → List (List ℕ)
parts path = slice_split is_slash path

-- ---- the first element, and what follows it

-- the path is at its end, or goes on with a slash
abbrev IsCut : List ℕ → Type 0
IsCut tail = (tail ≡ []) ⊎ ((more : List ℕ) × (tail ≡ 47 ∷ more))

at_seam : (root rest : List ℕ) (b : ℕ) → get_or (root ++ b ∷ rest) (length root) 0 ≡ b
at_seam [] rest b = refl
at_seam (x ∷ root) rest b = at_seam root rest b

-- ---- elements of a path without `internal`

module _ (path : List ℕ) (never : (at : ℕ) → IsInternalAt path at → ⊥) where
  drop_front : (pre rest : List ℕ) → drop (length pre) (pre ++ rest) ≡ rest
  drop_front [] rest = refl
  drop_front (x ∷ pre) rest = drop_front pre rest

  ends_at : (pre word tail : List ℕ) → path ≡ pre ++ (word ++ tail) → IsCut tail → Ends path (length pre + length word)
  ends_at pre word tail e (inl n) = inl (
      let whole : length path ≡ length (pre ++ (word ++ tail)) = ap length e in
      let none : length tail ≡ 0 = ap length n in
      omega (arith, whole, none, length-append pre (word ++ tail), length-append word tail))
  ends_at pre word tail e (inr m) = inr (
    (
        let whole : length path ≡ length (pre ++ (word ++ tail)) = ap length e in
        let more : length tail ≡ suc (length m.0) = ap length m.1 in
        omega (arith, whole, more, length-append pre (word ++ tail), length-append word tail)
        ),
    (
        let whole : path ≡ (pre ++ word) ++ 47 ∷ m.0 = e ∙ ap (λ (t : List ℕ). pre ++ (word ++ t)) m.1 ∙ sym (append_assoc pre word (47 ∷ m.0)) in
        ap (λ (w : List ℕ). get_or w (length pre + length word) 0) whole ∙ ap (λ (k : ℕ). get_or ((pre ++ word) ++ 47 ∷ m.0) k 0) (sym (length-append pre word)) ∙ at_seam (pre ++ word) m.0 47
        ),
  )

  is_internal : (pre word tail : List ℕ) → path ≡ pre ++ (word ++ tail) → Begins path (length pre) → IsCut tail → word ≡ codes "internal" → IsInternalAt path (length pre)
  is_internal pre word tail e begins cut w = record {
    within = (let l : length path ≡ length pre + length (word ++ tail) = ap length e ∙ length-append pre (word ++ tail) in omega (arith, l));
    word =
        ap (λ (q : List ℕ). starts_with nat_eq (drop (length pre) q) (codes "internal")) e ∙ ap (λ (q : List ℕ). starts_with nat_eq q (codes "internal")) (drop_front pre (word ++ tail) ∙ ap (λ (q : List ℕ). q ++ tail) w)
        ∙ (bytes_eq-Decides (codes "internal") (take (length (codes "internal")) (codes "internal" ++ tail))).1 (sym (take-append_seam (codes "internal") tail));
    begins = begins;
    ends = subst (λ (k : ℕ). Ends path (length pre + k)) (ap length w) (ends_at pre word tail e cut);
  }

  element_by : (b : Bool) (pre word tail : List ℕ) → bytes_eq word (codes "internal") ≡ b → path ≡ pre ++ (word ++ tail) → Begins path (length pre) → IsCut tail → not b ≡ true
  element_by true pre word tail d e begins cut = absurd (never (length pre) (is_internal pre word tail e begins cut ((bytes_eq-Decides word (codes "internal")).0 d)))
  element_by false pre word tail d e begins cut = refl

  element_ok : (pre word tail : List ℕ) → path ≡ pre ++ (word ++ tail) → Begins path (length pre) → IsCut tail → is_public_element word ≡ true
  element_ok pre word tail e begins cut = element_by (bytes_eq word (codes "internal")) pre word tail refl e begins cut

  both : (a b : Bool) → a ≡ true → b ≡ true → (a && b) ≡ true
  both a b e f = ap (λ z. z && b) e ∙ f

  all_by : (ps : List (List ℕ)) (x : List ℕ) (xs : List (List ℕ)) → ps ≡ x ∷ xs → is_public_element x ≡ true → list_all is_public_element xs ≡ true → list_all is_public_element ps ≡ true
  all_by ps x xs e a b = ap (list_all is_public_element) e ∙ both (is_public_element x) (list_all is_public_element xs) a b

  one_more : (pre bs : List ℕ) (b : ℕ) → path ≡ pre ++ b ∷ bs → path ≡ (pre ++ b ∷ []) ++ bs
  one_more pre bs b e = e ∙ sym (append_assoc pre (b ∷ []) bs)

  behind_slash : (pre bs : List ℕ) (b : ℕ) → b ≡ 47 → path ≡ pre ++ b ∷ bs → Begins path (length (pre ++ b ∷ []))
  behind_slash pre bs b e k = inr (
    (let l = length-append pre (b ∷ []) in omega (arith, l)),
    (let l : length (pre ++ b ∷ []) - 1 ≡ length pre = (let m = length-append pre (b ∷ []) in omega (arith, m)) in
        ap (λ (n : ℕ). get_or path n 0) l ∙ ap (λ (w : List ℕ). get_or w (length pre) 0) k ∙ at_seam pre bs b ∙ e),
  )

  -- the first element, what follows it, and that the elements behind it are public
  record Split (bs : List ℕ) : Type 0 where
    first : List ℕ
    others : List (List ℕ)
    tail : List ℕ
    are : parts bs ≡ first ∷ others
    whole : bs ≡ first ++ tail
    cut : IsCut tail
    public : list_all is_public_element others ≡ true

  split_by : (pre : List ℕ) (b : ℕ) (bs : List ℕ) (t : Bool) → nat_eq b 47 ≡ t → path ≡ pre ++ b ∷ bs → Split bs → cond t ([] ∷ parts bs) (onto_first b (parts bs)) ≡ parts (b ∷ bs) → Split (b ∷ bs)
  split_by pre b bs true d e s k = record {
    first = [];
    others = parts bs;
    tail = b ∷ bs;
    are = sym k;
    whole = refl;
    cut = inr (bs, ap (λ (x : ℕ). x ∷ bs) (eqb-true b 47 d));
    public = all_by (parts bs) s.first s.others s.are (element_ok (pre ++ b ∷ []) s.first s.tail (one_more pre bs b e ∙ ap (λ (w : List ℕ). (pre ++ b ∷ []) ++ w) s.whole) (behind_slash pre bs b (eqb-true b 47 d) e) s.cut) s.public;
  }
  split_by pre b bs false d e s k = record {
    first = b ∷ s.first;
    others = s.others;
    tail = s.tail;
    are = sym k ∙ ap (onto_first b) s.are;
    whole = ap (λ (xs : List ℕ). b ∷ xs) s.whole;
    cut = s.cut;
    public = s.public;
  }

  split : (pre bs : List ℕ) → path ≡ pre ++ bs → Split bs
  split pre [] e = record { first = []; others = []; tail = []; are = refl; whole = refl; cut = inl refl; public = refl }
  split pre (b ∷ bs) e = split_by pre b bs (nat_eq b 47) refl e (split (pre ++ b ∷ []) bs (one_more pre bs b e)) refl

  path_public : list_all is_public_element (slice_split is_slash path) ≡ true
  path_public = let s = split [] path refl in all_by (parts path) s.first s.others s.are (element_ok [] s.first s.tail s.whole (inl refl) s.cut) s.public

-- ---- a client is in no tree of a path

and_left : (a b : Bool) → (a && b) ≡ true → a ≡ true
and_left true b e = refl
and_left false b e = e

begins_by : (a b c : Bool) → (not a && not b && not c) ≡ true → b ≡ false
begins_by a false c e = refl
begins_by true true c e = absurd (let g : false ≡ true = e in cc)
begins_by false true c e = absurd (let g : false ≡ true = e in cc)

-- an element doesn't begin with `-`
no_dash : (x : List ℕ) → is_element (45 ∷ x) ≡ true → ⊥
unfolding is_element begins_element
no_dash x e =
    let starts : starts_with nat_eq (45 ∷ x) (codes "-") ≡ true = (bytes_eq-Decides (codes "-") (take (length (codes "-")) (codes "-" ++ x))).1 (sym (take-append_seam (codes "-") x)) in
    true≢false (sym starts ∙ begins_by (nat_eq (length (45 ∷ x)) 0) (starts_with nat_eq (45 ∷ x) (codes "-")) (starts_with nat_eq (45 ∷ x) (codes ".")) (and_left (begins_element (45 ∷ x)) (list_all is_element_byte (45 ∷ x)) e))

first_dash : (ps : List (List ℕ)) → ps ≢ [] → list_all is_element (onto_first 45 ps) ≡ true → ⊥
first_dash [] n e = n refl
first_dash (x ∷ xs) n e = no_dash x (and_left (is_element (45 ∷ x)) (list_all is_element xs) e)

some_part : (path : List ℕ) → parts path ≢ []
some_part path e = let n : length (parts path) ≡ 0 = ap length e in absurd (omega (arith, n, length-slice_split (λ b. nat_eq b 47) path))

dash_never : (b : ℕ) (bs : List ℕ) → 45 ≡ b → are_elements (b ∷ bs) ≡ true → ⊥
dash_never b bs k e = first_dash (parts bs) (some_part bs) (subst (λ (c : ℕ). are_elements (c ∷ bs) ≡ true) (sym k) e)

begins : (v w : List ℕ) → v ≡ w → get_or v 0 0 ≡ get_or w 0 0
begins v w e = ap (λ (x : List ℕ). get_or x 0 0) e

not_under_none : IsUnder client_path [] → ⊥
not_under_none (inl e) = let g : 45 ≡ 0 = begins client_path [] e in absurd (omega (arith, g))
not_under_none (inr k) = let g : 45 ≡ 47 = begins client_path (47 ∷ k.0) k.1 in absurd (omega (arith, g))

root_never : (path : List ℕ) (k : ℕ) → are_elements path ≡ true → IsUnder client_path (take k path) → ⊥
root_never [] zero e u = not_under_none u
root_never [] (suc k) e u = not_under_none u
root_never (b ∷ bs) zero e u = not_under_none u
root_never (b ∷ bs) (suc k) e (inl u) = dash_never b bs (begins client_path (b ∷ take k bs) u) e
root_never (b ∷ bs) (suc k) e (inr u) = dash_never b bs (begins client_path ((b ∷ take k bs) ++ 47 ∷ u.0) u.1) e

in_tree_never : (path : List ℕ) (at : ℕ) → are_elements path ≡ true → IsInTree client_path false path at → ⊥
in_tree_never path at e (inl k) = let g : false ≡ true = k.1 in absurd (cc)
in_tree_never path at e (inr k) = root_never path (at - 1) e k.1

-- ---- what a client uses

free_use : (us : List NamedImport) → IsFirstInternalImport client_path false us None → (u : NamedImport) → Has us u → IsInternalUse client_path false u.path → ⊥
free_use [] k u h i = absurd h
free_use (v ∷ us) k u (inl e) i = k.0 (subst (λ (w : NamedImport). IsInternalImport client_path false w) (sym e) i)
free_use (v ∷ us) k u (inr h) i = free_use us k.1 u h i

pub used_public : (us : List NamedImport) → IsFirstInternalImport client_path false us None → (u : NamedImport) → Has us u → are_elements u.path ≡ true → list_all is_public_element (slice_split is_slash u.path) ≡ true
used_public us k u h e = path_public u.path (λ at i. greatest (IsInternalAt u.path) (suc (length u.path)) (λ n j. let f = internal_fits u.path n j in omega (arith, f)) at i (λ m.
    free_use us k u h (m.0, record { here = m.1; last = λ n j. elim (less_or m.0 n) [ inl l ↦ absurd (m.2 n l j) | inr l ↦ l ] }, in_tree_never u.path m.0 e)))
