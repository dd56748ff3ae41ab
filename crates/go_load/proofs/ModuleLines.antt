-- Lines of `go.mod`, and the path that one of them names.
use Rattle.std.proofs.Common.{◌≡◌, ℕ, zero, suc, ◌+◌, ◌-◌, ◌<◌, ◌≤◌, Bool, true, false, not, cond, if◌then◌else◌, ◌&&◌, nat_eq, List, [], ◌∷◌, ◌++◌, length, take, drop, get_or, refl, sym, ap, ◌∙◌, subst, inl, inr, arith}
use mathlib.Core.Bool.{true≢false}
use Rattle.std.specs.Cmp.Lexicographic.{pointwise}
use Rattle.std.specs.List.{list_all, slice_split, onto_first, prefix_len}
use Rattle.std.proofs.Math.Seq.{take-append_seam}
use Rattle.std.proofs.lemmas.List.{take-append-drop, length-append}
use Rattle.std.proofs.lemmas.Slice.Eq.{bytes_eq-Decides}
use Rattle.go_model.specs.files.Trees.{is_element_byte, is_element, is_within, begins_element, are_elements, IsModulePath}
use Rattle.go_load.specs.GoMod.{second_word, IsWritten, before_comment}
use Rattle.go_load.specs.inner.Steps.{IsUnquoted, NamesModule}
use Rattle.go_load.specs.Names.{begins}

abbrev Text : Type 0
Text = List ℕ

abbrev parts : ℕ → Text → List Text
parts separator bytes = slice_split (λ b. nat_eq b separator) bytes

-- how many bytes stand before the first separator
abbrev before : ℕ → Text → ℕ
before separator bytes = prefix_len (λ b. not (nat_eq b separator)) bytes

whole_by : (separator b : ℕ) (bs : Text) (t : Bool) → suc (length bs) ≤ cond (not t) (1 + before separator bs) 0 → (length bs ≤ before separator bs → parts separator bs ≡ bs ∷ [])
    → cond t ([] ∷ parts separator bs) (onto_first b (parts separator bs)) ≡ (b ∷ bs) ∷ []
whole_by separator b bs true l rest = absurd (omega (arith, l))
whole_by separator b bs false l rest = ap (onto_first b) (rest (omega (arith, l)))

pub parts_whole : (separator : ℕ) (bytes : Text) → length bytes ≤ before separator bytes → parts separator bytes ≡ bytes ∷ []
parts_whole separator [] l = refl
parts_whole separator (b ∷ bs) l = whole_by separator b bs (nat_eq b separator) l (parts_whole separator bs)

front_by : (separator b : ℕ) (bs : Text) (t : Bool) → cond (not t) (1 + before separator bs) 0 < suc (length bs)
    → (before separator bs < length bs → parts separator bs ≡ take (before separator bs) bs ∷ parts separator (drop (before separator bs + 1) bs))
    → cond t ([] ∷ parts separator bs) (onto_first b (parts separator bs)) ≡ take (cond (not t) (1 + before separator bs) 0) (b ∷ bs) ∷ parts separator (drop (cond (not t) (1 + before separator bs) 0 + 1) (b ∷ bs))
front_by separator b bs true l rest = refl
front_by separator b bs false l rest =
    let one : suc (before separator bs) ≡ 1 + before separator bs = omega arith in
    let two : suc (before separator bs + 1) ≡ 1 + before separator bs + 1 = omega arith in
    ap (onto_first b) (rest (omega (arith, l))) ∙ (λ i. take (one i) (b ∷ bs) ∷ parts separator (drop (two i) (b ∷ bs)))

pub parts_front : (separator : ℕ) (bytes : Text) → before separator bytes < length bytes → parts separator bytes ≡ take (before separator bytes) bytes ∷ parts separator (drop (before separator bytes + 1) bytes)
parts_front separator [] l = absurd (omega arith)
parts_front separator (b ∷ bs) l = front_by separator b bs (nat_eq b separator) l (parts_front separator bs)

pub parts_at : (separator : ℕ) (bytes prefix rest : Text) (n : ℕ) → n ≡ before separator bytes → n ≤ length bytes → (n ≡ length bytes → ⊥) → prefix ≡ take n bytes → rest ≡ drop (n + 1) bytes → parts separator bytes ≡ prefix ∷ parts separator rest
parts_at separator bytes prefix rest n e l ne f r =
    parts_front separator bytes (omega (arith, e, l, ne)) ∙ (λ i. (ap (λ k. take k bytes) (sym e) ∙ sym f) i ∷ parts separator ((ap (λ k. drop (k + 1) bytes) (sym e) ∙ sym r) i))

-- a text between two others
pub fronted : (text prefix rest : Text) → pointwise nat_eq (take (length prefix) text) prefix ≡ true → rest ≡ drop (length prefix) text → text ≡ prefix ++ rest
fronted text prefix rest t e = sym (take-append-drop (length prefix) text) ∙ (λ i. (bytes_eq-Decides (take (length prefix) text) prefix).0 t i ++ sym e i)

pub not_fronted : (text prefix rest : Text) → pointwise nat_eq (take (length prefix) text) prefix ≡ false → text ≡ prefix ++ rest → ⊥
not_fronted text prefix rest f e = true≢false (sym ((bytes_eq-Decides (take (length prefix) text) prefix).1 (ap (take (length prefix)) e ∙ take-append_seam prefix rest)) ∙ f)

pub tailed : (text tail rest : Text) → pointwise nat_eq (drop (length text - length tail) text) tail ≡ true → rest ≡ take (length text - length tail) text → text ≡ rest ++ tail
tailed text tail rest t e = sym (take-append-drop (length text - length tail) text) ∙ (λ i. sym e i ++ (bytes_eq-Decides (drop (length text - length tail) text) tail).0 t i)

-- the path of a module begins with no quote
and_left : (a b : Bool) → (a && b) ≡ true → a ≡ true
and_left true b e = refl
and_left false b e = e

and_right : (a b : Bool) → (a && b) ≡ true → b ≡ true
and_right true b e = e
and_right false b e = absurd (true≢false (sym e))

first_byte : (q : ℕ) (part : Text) → is_element (q ∷ part) ≡ true → is_element_byte q ≡ true
unfolding is_element
first_byte q part e = and_left (is_element_byte q) (list_all is_element_byte part) (and_right (begins_element (q ∷ part)) (list_all is_element_byte (q ∷ part)) e)

first_part : (q : ℕ) (ps : List Text) → list_all is_element (onto_first q ps) ≡ true → is_element_byte q ≡ true
first_part q [] e = first_byte q [] (and_left (is_element (q ∷ [])) true e)
first_part q (p ∷ ps) e = first_byte q p (and_left (is_element (q ∷ p)) (list_all is_element ps) e)

begins_by : (q : ℕ) (rest : Text) (t : Bool) → nat_eq q 47 ≡ t → t ≡ false → are_elements (q ∷ rest) ≡ true → is_element_byte q ≡ true
begins_by q rest true e f h = absurd (true≢false f)
begins_by q rest false e f h = first_part q (parts 47 rest) (sym (ap (λ t. list_all is_element (cond t ([] ∷ parts 47 rest) (onto_first q (parts 47 rest)))) e) ∙ h)

quote_begins : (rest : Text) → are_elements (34 ∷ rest) ≡ true → ⊥
unfolding is_element_byte is_within
quote_begins rest h = true≢false (sym (begins_by 34 rest false refl refl h))

backquote_begins : (rest : Text) → are_elements (96 ∷ rest) ≡ true → ⊥
unfolding is_element_byte is_within
backquote_begins rest h = true≢false (sym (begins_by 96 rest false refl refl h))

pub not_quoted : (path rest : Text) → IsModulePath path → path ≡ 34 ∷ rest → ⊥
not_quoted path rest is e = quote_begins rest (subst (λ (w : Text). are_elements w ≡ true) e is.0)

pub not_backquoted : (path rest : Text) → IsModulePath path → path ≡ 96 ∷ rest → ⊥
not_backquoted path rest is e = backquote_begins rest (subst (λ (w : Text). are_elements w ≡ true) e is.0)

same_inside : (q : ℕ) (a b : Text) → q ∷ (a ++ q ∷ []) ≡ q ∷ (b ++ q ∷ []) → a ≡ b
same_inside q a b e =
    let ends : a ++ q ∷ [] ≡ b ++ q ∷ [] = ap (drop 1) e in
    let long : length a ≡ length b = omega (arith, sym (length-append a (q ∷ [])) ∙ ap length ends ∙ length-append b (q ∷ [])) in
    sym (take-append_seam a (q ∷ [])) ∙ (λ i. take (long i) (ends i)) ∙ take-append_seam b (q ∷ [])

marks : (rest more : Text) → ◌≡◌ {A = Text} (34 ∷ rest) (96 ∷ more) → ⊥
marks rest more e = let h : 34 ≡ 96 = ap (λ w. get_or w 0 0) e in omega (arith, h)

pub quoted : (written path : Text) → written ≡ 34 ∷ (path ++ 34 ∷ []) → IsUnquoted written path
quoted written path e = record {
  writes = inr (inl e);
  only = λ other is w. elim w [
    | inl bare ↦ absurd (not_quoted other (path ++ 34 ∷ []) is (sym bare ∙ e))
    | inr r ↦ elim r [ inl double ↦ same_inside 34 other path (sym double ∙ e) | inr back ↦ absurd (marks (path ++ 34 ∷ []) (other ++ 96 ∷ []) (sym e ∙ back)) ]
  ];
}

pub backquoted : (written path : Text) → written ≡ 96 ∷ (path ++ 96 ∷ []) → IsUnquoted written path
backquoted written path e = record {
  writes = inr (inr e);
  only = λ other is w. elim w [
    | inl bare ↦ absurd (not_backquoted other (path ++ 96 ∷ []) is (sym bare ∙ e))
    | inr r ↦ elim r [ inl double ↦ absurd (marks (other ++ 34 ∷ []) (path ++ 96 ∷ []) (sym double ∙ e)) | inr back ↦ same_inside 96 other path (sym back ∙ e) ]
  ];
}

pub bare : (written : Text) → ((path : Text) → written ≡ 34 ∷ (path ++ 34 ∷ []) → ⊥) → ((path : Text) → written ≡ 96 ∷ (path ++ 96 ∷ []) → ⊥) → IsUnquoted written written
bare written double back = record {
  writes = inl refl;
  only = λ other is w. elim w [ inl e ↦ sym e | inr r ↦ elim r [ inl e ↦ absurd (double other e) | inr e ↦ absurd (back other e) ] ];
}

pub names_none : (line word path : Text) → word ≡ second_word line → IsUnquoted word path → (IsModulePath path → ⊥) → (other : Text) → NamesModule line other → ⊥
names_none line word path e u not_path other n = not_path (subst IsModulePath (u.only other n.1 (subst (λ (w : Text). IsWritten w other) (sym e) n.0.written)) n.1)

-- a line before its comment
comment_by : (b : ℕ) (bs : Text) (t : Bool) → begins (b ∷ bs) (47 ∷ 47 ∷ []) ≡ t → t ≡ false → before_comment (b ∷ bs) ≡ b ∷ before_comment bs
comment_by b bs true e f = absurd (true≢false f)
comment_by b bs false e f = ap (λ t. if t then [] else b ∷ before_comment bs) e

pub comment_next : (line : Text) (i : ℕ) → i < length line → begins (drop i line) (47 ∷ 47 ∷ []) ≡ false → before_comment line ≡ take i line ++ before_comment (drop i line) → before_comment line ≡ take (i + 1) line ++ before_comment (drop (i + 1) line)
comment_next line i l f e = e ∙ step line i l f
  where
    step : (line : Text) (i : ℕ) → i < length line → begins (drop i line) (47 ∷ 47 ∷ []) ≡ false → take i line ++ before_comment (drop i line) ≡ take (i + 1) line ++ before_comment (drop (i + 1) line)
    step [] i l f = absurd (omega arith)
    step (b ∷ bs) zero l f = comment_by b bs (begins (b ∷ bs) (47 ∷ 47 ∷ [])) refl f
    step (b ∷ bs) (suc i) l f =
        let more : suc (i + 1) ≡ suc i + 1 = omega arith in
        ap (λ w. b ∷ w) (step bs i (omega arith) f) ∙ (λ j. take (more j) (b ∷ bs) ++ before_comment (drop (more j) (b ∷ bs)))
