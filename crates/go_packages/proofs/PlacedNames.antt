-- Names that a table lists are declared at their places.
use Rattle.std.proofs.Common.{◌≡◌, ℕ, Bool, true, false, cond, List, [], ◌∷◌, ◌<◌, get_or, length, Option, None, Some, refl, sym, ap, ◌∙◌, subst, inl, inr, suc, zero, arith}
use mathlib.Core.Bool.{true≢false}
use Rattle.std.proofs.lemmas.Map.Text.{is_eq-slice_cmp}
use Rattle.std.specs.Cmp.Lexicographic.{slice_cmp, bytes_decides}
use Rattle.std.specs.Ordering.{nat_cmp, is_eq, is_lt}
use Rattle.std.specs.Str.{bytes_eq}
use Rattle.std.specs.declared.cmp.Ordering.{Ordering}
use Rattle.std.specs.declared.cmp.Ordering.TheVariants.{Less, Equal, Greater}
use Rattle.go_base.specs.Lists.{Ascending, Before, Each, Has}
use Rattle.go_declared.specs.NameTables.{AreDeclared, declared_form, entries_of, names_in, place_of}
use Rattle.go_declared.specs.declared.names.ListedName.{ListedName}
use Rattle.go_declared.specs.declared.names.NamePlace.{NamePlace}
use Rattle.go_rules.specs.Names.{Named, value_at}
use Rattle.go_typings.proofs.Cells.{none_some, some_once}
use Rattle.go_typings.specs.Declarations.{Declaration, Declared, Form}
use Rattle.go_packages.specs.inner.FoundNames.{ArePlaced, IsPlaced}

-- ---- one name

pub none_found : (o : Option Declared) → None ≡ declared_form o → None ≡ o
none_found None e = refl
none_found (Some d) e = none_some {A = Form} None d.form refl e

pub some_found : (o : Option Declared) (p : NamePlace) (f : Form) → place_of o ≡ Some p → Some f ≡ declared_form o → Some (record { number = p.number; form = f; place = p.place }) ≡ o
some_found None p f e g = none_some {A = Form} None f refl (sym g)
some_found (Some d) p f e g =
    ap (λ (z : NamePlace). Some (record { number = z.number; form = f; place = z.place })) (sym (some_once (record { number = d.number; place = d.place }) p e))
    ∙ ap (λ (x : Form). Some (record { number = d.number; form = x; place = d.place })) (some_once f d.form g)

-- ---- all

before_apart : (n m : List ℕ) → Before n m → bytes_eq m n ≡ false
before_apart n m h = turned (bytes_eq m n) refl
  where
    less : (o : Ordering) → is_lt o ≡ true → is_eq o ≡ false
    less Less e = refl
    less Equal e = absurd (true≢false (sym e))
    less Greater e = refl

    turned : (b : Bool) → bytes_eq m n ≡ b → b ≡ false
    turned true e = absurd (true≢false (sym ((bytes_decides n m).1 (sym ((bytes_decides m n).0 e))) ∙ sym (is_eq-slice_cmp n m) ∙ less (slice_cmp nat_cmp n m) h))
    turned false e = refl

each_before : (x : List ℕ) (ls : List ListedName) (l : ListedName) → Each (Before x) (names_in (entries_of ls)) → Has ls l → Before x l.name.now
each_before x [] l h i = absurd i
each_before x (m ∷ ls) l h (inl e) = subst (λ (n : ListedName). Before x n.name.now) e h.0
each_before x (m ∷ ls) l h (inr i) = each_before x ls l h.1 i

module _ (ds : List Declaration) (t : Named NamePlace) (are : AreDeclared ds t) where
  placed_from : (ls : List ListedName) → Ascending (names_in (entries_of ls)) → ((l : ListedName) → Has ls l → value_at (entries_of ls) l.name.now ≡ value_at t l.name.now) → ArePlaced ds ls
  placed_from [] rising same = tt
  placed_from (l ∷ ls) rising same = (
    sym (are l.name.now) ∙ sym (same l (inl refl)) ∙ ap (λ b. cond b (Some l.place) (value_at (entries_of ls) l.name.now)) ((bytes_decides l.name.now l.name.now).1 refl),
    placed_from ls rising.1 (λ m h. sym (ap (λ b. cond b (Some l.place) (value_at (entries_of ls) m.name.now)) (before_apart l.name.now m.name.now (each_before l.name.now ls m rising.0 h))) ∙ same m (inr h)),
  )

  pub placed : (ls : List ListedName) → Ascending (names_in t) → entries_of ls ≡ t → ArePlaced ds ls
  placed ls rising e = placed_from ls (subst (λ (z : Named NamePlace). Ascending (names_in z)) (sym e) rising) (λ l h. ap (λ z. value_at z l.name.now) e)

pub placed_at : (ds : List Declaration) (ls : List ListedName) (i : ℕ) (x : ListedName) → i < length ls → x ≡ get_or ls i x → ArePlaced ds ls → IsPlaced ds x
placed_at ds ls i x h e p = subst (IsPlaced ds) (sym e) (at ls i h p)
  where
    at : (ms : List ListedName) (k : ℕ) → k < length ms → ArePlaced ds ms → IsPlaced ds (get_or ms k x)
    at [] k g q = absurd (omega (arith, g))
    at (m ∷ ms) zero g q = q.0
    at (m ∷ ms) (suc k) g q = at ms k (omega (arith, g)) q.1
