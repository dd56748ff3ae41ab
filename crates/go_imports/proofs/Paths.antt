-- Elements of paths, and fronts of paths.
use Rattle.std.proofs.Common.{◌≡◌, ℕ, zero, suc, ◌+◌, ◌<◌, ◌≤◌, Bool, true, false, not, cond, nat_eq, List, [], ◌∷◌, ◌++◌, length, take, drop, drop-cons, get_or, refl, sym, ap, ◌∙◌, inl, inr, arith, Option, Some, length-append, append-nil}
use mathlib.Core.Bool.{true≢false}
use Rattle.std.specs.List.{slice_split, onto_first, prefix_len, starts_with}
use Rattle.std.proofs.Math.Seq.{take-append_seam}
use Rattle.std.proofs.lemmas.List.{take-append-drop}
use Rattle.std.proofs.lemmas.Slice.Eq.{bytes_eq-Decides}
use Rattle.go_imports.specs.ImportPaths.{last_of, last_after, IsUnder, IsInternalAt, IsLastInternal}

abbrev parts : ℕ → List ℕ → List (List ℕ)
parts separator bytes = slice_split (λ b. nat_eq b separator) bytes

-- how many bytes stand before the first separator
abbrev before : ℕ → List ℕ → ℕ
before separator bytes = prefix_len (λ b. not (nat_eq b separator)) bytes

whole_by : (separator b : ℕ) (bs : List ℕ) (t : Bool) → suc (length bs) ≤ cond (not t) (1 + before separator bs) 0 → (length bs ≤ before separator bs → parts separator bs ≡ bs ∷ [])
    → cond t ([] ∷ parts separator bs) (onto_first b (parts separator bs)) ≡ (b ∷ bs) ∷ []
whole_by separator b bs true l rest = absurd (omega (arith, l))
whole_by separator b bs false l rest = ap (onto_first b) (rest (omega (arith, l)))

pub parts_whole : (separator : ℕ) (bytes : List ℕ) → length bytes ≤ before separator bytes → parts separator bytes ≡ bytes ∷ []
parts_whole separator [] l = refl
parts_whole separator (b ∷ bs) l = whole_by separator b bs (nat_eq b separator) l (parts_whole separator bs)

front_by : (separator b : ℕ) (bs : List ℕ) (t : Bool) → cond (not t) (1 + before separator bs) 0 < suc (length bs)
    → (before separator bs < length bs → parts separator bs ≡ take (before separator bs) bs ∷ parts separator (drop (before separator bs + 1) bs))
    → cond t ([] ∷ parts separator bs) (onto_first b (parts separator bs)) ≡ take (cond (not t) (1 + before separator bs) 0) (b ∷ bs) ∷ parts separator (drop (cond (not t) (1 + before separator bs) 0 + 1) (b ∷ bs))
front_by separator b bs true l rest = refl
front_by separator b bs false l rest =
    let one : suc (before separator bs) ≡ 1 + before separator bs = omega arith in
    let two : suc (before separator bs + 1) ≡ 1 + before separator bs + 1 = omega arith in
    ap (onto_first b) (rest (omega (arith, l))) ∙ (λ i. take (one i) (b ∷ bs) ∷ parts separator (drop (two i) (b ∷ bs)))

pub parts_front : (separator : ℕ) (bytes : List ℕ) → before separator bytes < length bytes → parts separator bytes ≡ take (before separator bytes) bytes ∷ parts separator (drop (before separator bytes + 1) bytes)
parts_front separator [] l = absurd (omega arith)
parts_front separator (b ∷ bs) l = front_by separator b bs (nat_eq b separator) l (parts_front separator bs)

pub parts_at : (separator : ℕ) (bytes prefix rest : List ℕ) (n : ℕ) → n ≡ before separator bytes → n ≤ length bytes → (n ≡ length bytes → ⊥) → prefix ≡ take n bytes → rest ≡ drop (n + 1) bytes → parts separator bytes ≡ prefix ∷ parts separator rest
parts_at separator bytes prefix rest n e l ne f r =
    parts_front separator bytes (omega (arith, e, l, ne)) ∙ (λ i. (ap (λ k. take k bytes) (sym e) ∙ sym f) i ∷ parts separator ((ap (λ k. drop (k + 1) bytes) (sym e) ∙ sym r) i))

-- a path that begins with another
pub fronted : (text prefix : List ℕ) → starts_with nat_eq text prefix ≡ true → text ≡ prefix ++ drop (length prefix) text
fronted text prefix t = sym (take-append-drop (length prefix) text) ∙ ap (λ (w : List ℕ). w ++ drop (length prefix) text) (sym ((bytes_eq-Decides prefix (take (length prefix) text)).0 t))

pub front_fits : (text prefix : List ℕ) → starts_with nat_eq text prefix ≡ true → length prefix ≤ length text
front_fits text prefix t = omega (arith, ap length (fronted text prefix t), length-append prefix (drop (length prefix) text))

pub not_fronted : (text prefix rest : List ℕ) → starts_with nat_eq text prefix ≡ false → text ≡ prefix ++ rest → ⊥
not_fronted text prefix rest f e = true≢false (sym ((bytes_eq-Decides prefix (take (length prefix) text)).1 (sym (ap (take (length prefix)) e ∙ take-append_seam prefix rest))) ∙ f)

some_onto : (b : ℕ) (xs : List (List ℕ)) → onto_first b xs ≡ [] → ⊥
some_onto b [] e = absurd (cc)
some_onto b (x ∷ xs) e = absurd (cc)

some_by : (b : ℕ) (bs : List ℕ) (t : Bool) → cond t ([] ∷ parts 47 bs) (onto_first b (parts 47 bs)) ≡ [] → ⊥
some_by b bs true e = absurd (cc)
some_by b bs false e = some_onto b (parts 47 bs) e

-- a path has an element
some_part : (bytes : List ℕ) → parts 47 bytes ≡ [] → ⊥
some_part [] e = absurd (cc)
some_part (b ∷ bs) e = some_by b bs (nat_eq b 47) e

last_on : (before : Option (List ℕ)) (x : List ℕ) (xs : List (List ℕ)) → (xs ≡ [] → ⊥) → last_after before x xs ≡ last_of (Some x) xs
last_on before x [] some = absurd (some refl)
last_on before x (y ∷ ys) some = refl

-- the last element behind the first one
pub last_behind : (before : Option (List ℕ)) (path x rest : List ℕ) → parts 47 path ≡ x ∷ parts 47 rest → last_of before (parts 47 path) ≡ last_of (Some x) (parts 47 rest)
last_behind before path x rest e = ap (last_of before) e ∙ last_on before x (parts 47 rest) (some_part rest)

pub not_under : (path root : List ℕ) → starts_with nat_eq path root ≡ false → IsUnder path root → ⊥
not_under path root f (inl e) = not_fronted path root [] f (e ∙ sym (append-nil root))
not_under path root f (inr p) = not_fronted path root (47 ∷ p.0) f p.1

drop_all : (n : ℕ) (xs : List ℕ) → length xs ≤ n → drop n xs ≡ []
drop_all zero [] h = refl
drop_all zero (x ∷ xs) h = absurd (omega arith)
drop_all (suc n) [] h = refl
drop_all (suc n) (x ∷ xs) h = drop_all n xs (omega arith)

pub under_same : (path root : List ℕ) → starts_with nat_eq path root ≡ true → length path ≡ length root → IsUnder path root
under_same path root t e = inl (fronted path root t ∙ ap (λ (w : List ℕ). root ++ w) (drop_all (length root) path (omega (arith, e))) ∙ append-nil root)

pub under_more : (path root : List ℕ) → starts_with nat_eq path root ≡ true → (length path ≡ length root → ⊥) → get_or path (length root) 0 ≡ 47 → IsUnder path root
under_more path root t ne e =
    let l : length root < length path = omega (arith, front_fits path root t, ne) in
    inr (drop (suc (length root)) path, fronted path root t ∙ ap (λ (w : List ℕ). root ++ w) (drop-cons path (length root) 0 l ∙ ap (λ b. b ∷ drop (suc (length root)) path) e))

at_seam : (root rest : List ℕ) (b : ℕ) → get_or (root ++ b ∷ rest) (length root) 0 ≡ b
at_seam [] rest b = refl
at_seam (x ∷ root) rest b = at_seam root rest b

pub under_not : (path root : List ℕ) → (length path ≡ length root → ⊥) → (get_or path (length root) 0 ≡ 47 → ⊥) → IsUnder path root → ⊥
under_not path root ne other (inl e) = ne (ap length e)
under_not path root ne other (inr p) = other (ap (λ (w : List ℕ). get_or w (length root) 0) p.1 ∙ at_seam root p.0 47)

-- a path has at most one last element `internal`
pub one_last : (path : List ℕ) (a b : ℕ) → IsLastInternal path a → IsLastInternal path b → a ≡ b
one_last path a b p q = omega (arith, p.last b q.here, q.last a p.here)

-- the eight bytes of an element `internal` lie in the path
pub internal_fits : (path : List ℕ) (at : ℕ) → IsInternalAt path at → at + 8 ≤ length path
internal_fits path at i = elim i.ends [ inl e ↦ omega (arith, e) | inr p ↦ omega (arith, p.0) ]
