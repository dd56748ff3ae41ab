-- Paths of made files: they differ, and none lies under another.
use Rattle.std.proofs.Common.{◌≡◌, ℕ, ◌^◌, ◌<◌, Bool, true, false, nat_eq, if◌then◌else◌, List, [], ◌∷◌, ◌++◌, get_or, codes, refl, sym, ap, ◌∙◌, subst, append_assoc, arith}
use mathlib.Core.Bool.{true≢false}
use Rattle.std.specs.Fmt.{decimal}
use Rattle.std.specs.Str.Parse.{AllDigits}
use Rattle.std.proofs.lemmas.Fmt.{decimal_is_IsNumeral, decimal_injective}
use Rattle.std.proofs.lemmas.List.{append_cancel_left, append_cancel_right}
use Rattle.std.proofs.lemmas.Str.Parse.{digit_from_value}
use Rattle.std.proofs.lemmas.Bool.Decides.{Decides-eqb}
use Rattle.go_outside.specs.Paths.{Path}

-- the byte stands nowhere
abbrev pub lacks : ℕ → List ℕ → Bool
lacks c [] = true
lacks c (x ∷ xs) = if nat_eq x c then false else lacks c xs

more_by : (b r s : Bool) → (if b then false else r) ≡ true → (r ≡ true → s ≡ true) → (if b then false else s) ≡ true
more_by true r s e k = absurd (true≢false (sym e))
more_by false r s e k = k e

lacks-append : (c : ℕ) (xs ys : List ℕ) → lacks c xs ≡ true → lacks c ys ≡ true → lacks c (xs ++ ys) ≡ true
lacks-append c [] ys h k = k
lacks-append c (x ∷ xs) ys h k = more_by (nat_eq x c) (lacks c xs) (lacks c (xs ++ ys)) h (λ r. lacks-append c xs ys r k)

either : (b : Bool) → (if b then false else false) ≡ false
either true = refl
either false = refl

stands : (c : ℕ) (xs ys : List ℕ) → lacks c (xs ++ c ∷ ys) ≡ false
stands c [] ys = ap (λ (b : Bool). if b then false else lacks c ys) ((Decides-eqb c c).1 refl)
stands c (x ∷ xs) ys = ap (λ (b : Bool). if nat_eq x c then false else b) (stands c xs ys) ∙ either (nat_eq x c)

rest_by : (b r : Bool) → (if b then false else r) ≡ true → r ≡ true
rest_by true r e = absurd (true≢false (sym e))
rest_by false r e = e

cons_is : (x y : ℕ) (xs ys : List ℕ) → x ∷ xs ≡ y ∷ ys → (x ≡ y) × (xs ≡ ys)
cons_is x y xs ys e = (cc, cc)

-- what follows the first place of a byte
first_place : (c : ℕ) (f g a b : List ℕ) → lacks c f ≡ true → lacks c g ≡ true → f ++ c ∷ a ≡ g ++ c ∷ b → a ≡ b
first_place c [] [] a b h k e = (cons_is c c a b e).1
first_place c [] (y ∷ g) a b h k e = absurd (true≢false (sym k ∙ subst (λ (w : ℕ). lacks c (w ∷ g) ≡ false) (cons_is c y a (g ++ c ∷ b) e).0 (stands c [] g)))
first_place c (x ∷ f) [] a b h k e = absurd (true≢false (sym h ∙ subst (λ (w : ℕ). lacks c (w ∷ f) ≡ false) (sym (cons_is x c (f ++ c ∷ a) b e).0) (stands c [] f)))
first_place c (x ∷ f) (y ∷ g) a b h k e =
    first_place c f g a b (rest_by (nat_eq x c) (lacks c f) h) (rest_by (nat_eq y c) (lacks c g) k) (cons_is x y (f ++ c ∷ a) (g ++ c ∷ b) e).1

-- a path that has a dot, and no slash behind its first one
pub record IsEnded (path : Path) : Type 0 where
  pub front : List ℕ
  pub end : List ℕ
  pub whole : path ≡ front ++ 46 ∷ end
  pub dotless : lacks 46 front ≡ true
  pub slashless : lacks 47 end ≡ true

-- nothing lies under such a path
pub not_under : (path other rest : Path) → IsEnded path → IsEnded other → other ≡ path ++ 47 ∷ rest → ⊥
not_under path other rest p o e =
    let longer : o.front ++ 46 ∷ o.end ≡ p.front ++ 46 ∷ (p.end ++ 47 ∷ rest) =
    sym o.whole ∙ e ∙ ap (λ (w : Path). w ++ 47 ∷ rest) p.whole ∙ append_assoc p.front (46 ∷ p.end) (47 ∷ rest) in
    let same = first_place 46 o.front p.front o.end (p.end ++ 47 ∷ rest) o.dotless p.dotless longer in
    true≢false (sym o.slashless ∙ ap (lacks 47) same ∙ stands 47 p.end rest)

digits_lack : (ds : List ℕ) → AllDigits 10 ds → lacks 46 ds ≡ true
digits_lack [] d = refl
digits_lack (c ∷ cs) d =
    let other : nat_eq c 46 ≡ false = apart c (λ e. omega (arith, digit_from_value c d.0, e)) in
    ap (λ (b : Bool). if b then false else lacks 46 cs) other ∙ digits_lack cs d.1 where
      apart : (n : ℕ) → (n ≡ 46 → ⊥) → nat_eq n 46 ≡ false
      apart n h = by (nat_eq n 46) refl where
        by : (b : Bool) → nat_eq n 46 ≡ b → b ≡ false
        by true e = absurd (h ((Decides-eqb n 46).0 e))
        by false e = refl

abbrev pub package_path : List ℕ → ℕ → Path
package_path root n = root ++ codes "/p" ++ decimal n ++ codes "/a.go"

abbrev pub module_path : List ℕ → Path
module_path root = root ++ codes "/go.mod"

pub module_ended : (root : List ℕ) → lacks 46 root ≡ true → IsEnded (module_path root)
module_ended root h = record {
  front = root ++ codes "/go";
  end = codes "mod";
  whole = sym (append_assoc root (codes "/go") (46 ∷ codes "mod"));
  dotless = lacks-append 46 root (codes "/go") h refl;
  slashless = refl;
}

pub package_ended : (root : List ℕ) (n : ℕ) → lacks 46 root ≡ true → n < 2 ^ 64 → IsEnded (package_path root n)
package_ended root n h small = record {
  front = root ++ codes "/p" ++ decimal n ++ codes "/a";
  end = codes "go";
  whole = sym (append_assoc (root ++ codes "/p" ++ decimal n) (codes "/a") (46 ∷ codes "go"));
  dotless = lacks-append 46 (root ++ codes "/p" ++ decimal n) (codes "/a")
      (lacks-append 46 (root ++ codes "/p") (decimal n) (lacks-append 46 root (codes "/p") h refl) (digits_lack (decimal n) (decimal_is_IsNumeral n small).0.1)) refl;
  slashless = refl;
}

-- of one tree the paths of packages tell their numbers
pub same_number : (root : List ℕ) (m n : ℕ) → m < 2 ^ 64 → n < 2 ^ 64 → package_path root m ≡ package_path root n → m ≡ n
same_number root m n small few e = decimal_injective m n small few
    (append_cancel_left (root ++ codes "/p") (decimal m) (decimal n)
    (append_cancel_right (root ++ codes "/p" ++ decimal m) (root ++ codes "/p" ++ decimal n) (codes "/a.go") e))

-- the first bytes, and those behind the root
pub first_apart : (x y : ℕ) (xs ys : List ℕ) → (x ≡ y → ⊥) → x ∷ xs ≡ y ∷ ys → ⊥
first_apart x y xs ys h e = h (cons_is x y xs ys e).0

pub module_apart : (root : List ℕ) (n : ℕ) → package_path root n ≡ module_path root → ⊥
module_apart root n e = letters (append_cancel_left root (codes "/p" ++ decimal n ++ codes "/a.go") (codes "/go.mod") (sym behind ∙ e)) where
  behind : package_path root n ≡ root ++ (codes "/p" ++ decimal n ++ codes "/a.go")
  behind = ap (λ (w : Path). w ++ codes "/a.go") (append_assoc root (codes "/p") (decimal n)) ∙ append_assoc root (codes "/p" ++ decimal n) (codes "/a.go")

  letters : codes "/p" ++ decimal n ++ codes "/a.go" ≡ codes "/go.mod" → ⊥
  letters e = omega (arith, ap (λ (w : Path). get_or w 1 0) e)
