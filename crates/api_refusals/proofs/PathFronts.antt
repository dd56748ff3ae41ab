-- Paths that begin with a folder's.
use mathlib.Core.Bool.{true≢false}
use Rattle.std.proofs.Common.{◌≡◌, ℕ, Bool, true, false, ◌&&◌, List, [], ◌∷◌, ◌++◌, length, drop, refl, sym, ap, ◌∙◌, nat_eq, ◌==◌}
use Rattle.std.proofs.Math.Dec.{eqb-suc-zero}
use Rattle.std.specs.Prelude.{bytes_eq}
use Rattle.std.specs.List.{starts_with}
use Rattle.go_load.specs.Names.{under}

and_both : (a b c : Bool) → (a && (b && c)) ≡ ((a && b) && c)
and_both true b c = refl
and_both false b c = refl

-- equal to a text is what begins with its front and goes on with its rest
pub front_and_rest : (front rest path : List ℕ) → bytes_eq (front ++ rest) path ≡ (starts_with nat_eq path front && bytes_eq rest (drop (length front) path))
front_and_rest [] rest path = refl
front_and_rest (b ∷ bs) rest [] = refl
front_and_rest (b ∷ bs) rest (c ∷ cs) =
    ap (λ (p : Bool). nat_eq b c && p) (front_and_rest bs rest cs) ∙ and_both (nat_eq b c) (starts_with nat_eq cs bs) (bytes_eq rest (drop (length bs) cs))

pub other_front : (front rest path : List ℕ) → starts_with nat_eq path front ≡ false → false ≡ bytes_eq (front ++ rest) path
other_front front rest path e = sym (front_and_rest front rest path ∙ ap (λ (p : Bool). p && bytes_eq rest (drop (length front) path)) e)

pub same_front : (front rest path : List ℕ) → starts_with nat_eq path front ≡ true → bytes_eq rest (drop (length front) path) ≡ bytes_eq (front ++ rest) path
same_front front rest path e = sym (front_and_rest front rest path ∙ ap (λ (p : Bool). p && bytes_eq rest (drop (length front) path)) e)

-- ---- the path of a name in a folder

pub in_root : (folder name path : List ℕ) → (length folder == 0) ≡ true → bytes_eq name path ≡ bytes_eq (under folder name) path
in_root [] name path e = refl
in_root (b ∷ bs) name path e = absurd (true≢false (sym e ∙ eqb-suc-zero (length bs)))

pub in_folder : (folder name path : List ℕ) → (length folder == 0) ≡ false → bytes_eq (folder ++ 47 ∷ name) path ≡ bytes_eq (under folder name) path
in_folder [] name path e = absurd (true≢false e)
in_folder (b ∷ bs) name path e = refl
