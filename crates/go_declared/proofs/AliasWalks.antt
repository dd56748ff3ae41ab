-- What declared names are after the aliases of a package, by steps from number to number.
use Rattle.std.proofs.Common.{◌≡◌, ◌-◌, ◌<◌, ◌≤◌, ℕ, zero, suc, true, false, List, [], ◌∷◌, length, map, get_or, Option, None, Some, is_some, refl, sym, ap, ◌∙◌, subst, inl, inr, arith}
use mathlib.Core.Bool.{true≢false}
use Rattle.std.specs.Prelude.{slice_get}
use Rattle.std.proofs.lemmas.Bool.{cases_lt}
use Rattle.std.proofs.lemmas.List.{get_or_past, length-map}
use Rattle.std.proofs.lemmas.Option.{slice_get_within}
use denote.Ref.{Bor}
use Rattle.go_base.specs.Keys.{item_of}
use Rattle.go_declarations.specs.Forms.{form_of}
use Rattle.go_declarations.specs.Listings.{declarations_of}
use Rattle.go_declarations.specs.declared.listing.Declaration.{Declaration as Borrowed}
use Rattle.go_rules.proofs.OneName.{none_some}
use Rattle.go_rules.specs.Names.{Named, value_at}
use Rattle.go_syntax.specs.declared.name.Name.{Name}
use Rattle.go_syntax.specs.declared.name.QualifiedName.{QualifiedName}
use Rattle.go_declarations.proofs.go_typings_proofs.Cells.{some_once}
use Rattle.go_declarations.specs.go_typings.Declarations.{declared, Declaration, Declared}
use Rattle.go_declarations.specs.go_typings.Receivers.{after_aliases, aliased, aliased_by, own_aliased, unaliased}
use Rattle.go_declared.proofs.AliasSteps.{alias_done, alias_more, alias_start}
use Rattle.go_declared.proofs.Declared.{as_long}
use Rattle.go_declared.proofs.NumberTables.{each_step, one_on, walked_fixed, walked_none, walked_past}
use Rattle.go_declared.proofs.Stands.{stands}
use Rattle.go_declared.specs.AliasEnds.{aliased_at, aliased_name, AreEnds, ended, name_at}
use Rattle.go_declared.specs.NameTables.{AreDeclared, place_of}
use Rattle.go_declared.specs.declared.names.NamePlace.{NamePlace}
use Rattle.go_declared.specs.inner.NextAliases.{AreNames, AreSteps, next, next_after, number_by, number_of, number_with, step, walked}

-- ---- the names that declarations are aliases of

aliased_here : (xs : List Borrowed) (i : ℕ) (d : Borrowed) → i < length xs → aliased_at (declarations_of xs) i ≡ aliased_by (form_of (get_or xs i d).form)
aliased_here [] i d h = absurd (omega (arith, h))
aliased_here (x ∷ xs) zero d h = refl
aliased_here (x ∷ xs) (suc i) d h = aliased_here xs i d (omega (arith, h))

pub aliased_read : (xs : List Borrowed) (i : ℕ) (x : Borrowed) (o : Option QualifiedName) → i < length xs → x ≡ get_or xs i x → o ≡ aliased_by (form_of x.form) → o ≡ aliased_at (declarations_of xs) i
aliased_read xs i x o h e f = f ∙ ap (λ (y : Borrowed). aliased_by (form_of y.form)) e ∙ sym (aliased_here xs i x h)

aliased_got : (ds : List Declaration) (n : ℕ) (d : Declaration) → slice_get ds n ≡ Some d → aliased_at ds n ≡ aliased_name d
aliased_got [] n d e = absurd (none_some e)
aliased_got (x ∷ ds) zero d e = ap aliased_name (some_once x d e)
aliased_got (x ∷ ds) (suc n) d e = aliased_got ds n d e

aliased_past : (ds : List Declaration) (n : ℕ) → length ds ≤ n → aliased_at ds n ≡ None
aliased_past ds n h = get_or_past (map aliased_name ds) n None (let l = length-map ds aliased_name in omega (arith, h, l))

-- where a name is declared stands what it is an alias of
aliased_declared : (ds : List Declaration) (name : List ℕ) (d : Declared) → declared ds name ≡ Some d → aliased_at ds d.number ≡ aliased_by d.form
aliased_declared ds name d e = let s = stands ds name d e in aliased_got ds d.number s.0 s.1 ∙ ap aliased_by s.2

name_past : (names : List (Option (Bor QualifiedName))) (n : ℕ) → length names ≤ n → name_at names n ≡ None
name_past names n h = ap (λ (o : Option (Bor QualifiedName)). item_of o) (get_or_past names n None h)

-- ---- steps

module _ (ds : List Declaration) (names : Named NamePlace) (are : AreDeclared ds names) (al : List (Option (Bor QualifiedName))) (told : (i : ℕ) → name_at al i ≡ aliased_at ds i) where
  to_place : (i : ℕ) (name : List ℕ) (o : Option Declared) (r : QualifiedName) → declared ds name ≡ o → aliased o ≡ Some r → aliased_at ds (number_by al (place_of o) i) ≡ Some r
  to_place i name None r e f = absurd (none_some f)
  to_place i name (Some d) r e f =
      let a : name_at al d.number ≡ Some r = told d.number ∙ aliased_declared ds name d e ∙ f in
      ap (λ (o : Option QualifiedName). aliased_at ds (number_with o d.number i)) a ∙ sym (told d.number) ∙ a

  no_place : (i : ℕ) (name : List ℕ) (o : Option Declared) → declared ds name ≡ o → aliased o ≡ None → number_by al (place_of o) i ≡ i
  no_place i name None e f = refl
  no_place i name (Some d) e f = ap (λ (o : Option QualifiedName). number_with o d.number i) (told d.number ∙ aliased_declared ds name d e ∙ f)

  to_name : (i : ℕ) (o : Option Name) (n : Name) (r : QualifiedName) → own_aliased ds o n ≡ Some r → aliased_at ds (number_of names al o n i) ≡ Some r
  to_name i None n r e = ap (λ (p : Option NamePlace). aliased_at ds (number_by al p i)) (are n.text) ∙ to_place i n.text (declared ds n.text) r refl e
  to_name i (Some x) n r e = absurd (none_some e)

  no_name : (i : ℕ) (o : Option Name) (n : Name) → own_aliased ds o n ≡ None → number_of names al o n i ≡ i
  no_name i None n e = ap (λ (p : Option NamePlace). number_by al p i) (are n.text) ∙ no_place i n.text (declared ds n.text) refl e
  no_name i (Some x) n e = refl

  module _ (numbers : List ℕ) (leads : (i : ℕ) → step numbers i ≡ next names al i) where
    stepped : (i : ℕ) (q : QualifiedName) → aliased_at ds i ≡ Some q → step numbers i ≡ number_of names al q.qualifier q.name i
    stepped i q e = leads i ∙ ap (λ (o : Option QualifiedName). next_after names al o i) (told i ∙ e)

    no_step : (i : ℕ) → aliased_at ds i ≡ None → step numbers i ≡ i
    no_step i e = leads i ∙ ap (λ (o : Option QualifiedName). next_after names al o i) (told i ∙ e)

    -- so many steps on stands the name after so many aliases
    walks : (m i : ℕ) (q : QualifiedName) → aliased_at ds i ≡ Some q → aliased_at ds (walked numbers m i) ≡ Some (unaliased ds m q)
    walks zero i q e = ap (aliased_at ds) (walked_none numbers i) ∙ e ∙ ap (λ (x : QualifiedName). Some x) (sym (alias_start ds q))
    walks (suc m) i q e = by (own_aliased ds q.qualifier q.name) refl (walks m)
      where
        by : (o : Option QualifiedName) → own_aliased ds q.qualifier q.name ≡ o
            → ((j : ℕ) (r : QualifiedName) → aliased_at ds j ≡ Some r → aliased_at ds (walked numbers m j) ≡ Some (unaliased ds m r))
            → aliased_at ds (walked numbers (suc m) i) ≡ Some (unaliased ds (suc m) q)
        by None h further =
            ap (aliased_at ds) (walked_fixed numbers (suc m) i (stepped i q e ∙ no_name i q.qualifier q.name h)) ∙ e
            ∙ ap (λ (x : QualifiedName). Some x) (sym (alias_done ds (suc m) q h))
        by (Some r) h further =
            ap (aliased_at ds) (one_on numbers m i ∙ ap (walked numbers m) (stepped i q e)) ∙ further (number_of names al q.qualifier q.name i) r (to_name i q.qualifier q.name r h)
            ∙ ap (λ (x : QualifiedName). Some x) (sym (alias_more ds m q r h))

    walks_ended : (i : ℕ) (o : Option QualifiedName) → aliased_at ds i ≡ o → aliased_at ds (walked numbers (length ds - 1) i) ≡ ended ds o
    walks_ended i None e = ap (aliased_at ds) (walked_fixed numbers (length ds - 1) i (no_step i e)) ∙ e
    walks_ended i (Some q) e = walks (length ds - 1) i q e

    pub ends_told : (lasts : List ℕ) (ends : List (Option (Bor QualifiedName))) → length lasts ≡ length ds → ((i : ℕ) → step lasts i ≡ walked numbers (length ds - 1) i)
        → AreNames (length lasts) (λ i. name_at al (step lasts i)) ends → AreEnds ds ends
    ends_told lasts ends l f h = λ i. elim (cases_lt i (length ds)) [ inl b ↦ before i b | inr p ↦ past i p ]
      where
        before : (i : ℕ) → i < length ds → name_at ends i ≡ ended ds (aliased_at ds i)
        before i b = h.1 i (omega (arith, b, l)) ∙ ap (name_at al) (f i) ∙ told (walked numbers (length ds - 1) i) ∙ walks_ended i (aliased_at ds i) refl

        past : (i : ℕ) → length ds ≤ i → name_at ends i ≡ ended ds (aliased_at ds i)
        past i p = name_past ends i (let m = h.0 in omega (arith, p, l, m)) ∙ sym (ap (ended ds) (aliased_past ds i p))

-- the names at the ends of walks along a package's aliases are those after its aliases
are_ends : (xs : List Borrowed) (names : Named NamePlace) (al : List (Option (Bor QualifiedName))) (numbers lasts : List ℕ) (ends : List (Option (Bor QualifiedName))) (times : ℕ)
    → AreDeclared (declarations_of xs) names → AreNames (length xs) (aliased_at (declarations_of xs)) al → AreSteps (length al) (next names al) numbers → times ≡ length xs - 1
    → AreSteps (length numbers) (walked numbers times) lasts → AreNames (length lasts) (λ i. name_at al (step lasts i)) ends → AreEnds (declarations_of xs) ends
are_ends xs names al numbers lasts ends times are ha hn e hl he =
    ends_told (declarations_of xs) names are al told numbers leads lasts ends (hl.0 ∙ hn.0 ∙ ha.0 ∙ sym (as_long xs)) lead he
  where
    told : (i : ℕ) → name_at al i ≡ aliased_at (declarations_of xs) i
    told i = elim (cases_lt i (length xs)) [ inl b ↦ ha.1 i b | inr p ↦ past p ]
      where
        past : length xs ≤ i → name_at al i ≡ aliased_at (declarations_of xs) i
        past p = name_past al i (let m = ha.0 in omega (arith, p, m)) ∙ sym (aliased_past (declarations_of xs) i (let m = as_long xs in omega (arith, p, m)))

    leads : (i : ℕ) → step numbers i ≡ next names al i
    leads = each_step (length al) (next names al) numbers (λ i p. ap (λ (o : Option QualifiedName). next_after names al o i) (name_past al i p)) hn

    lead : (i : ℕ) → step lasts i ≡ walked numbers (length (declarations_of xs) - 1) i
    lead i =
        each_step (length numbers) (walked numbers times) lasts (λ j p. walked_past numbers times j p) hl i
        ∙ ap (λ (k : ℕ). walked numbers k i) (e ∙ ap (λ (k : ℕ). k - 1) (sym (as_long xs)))

-- the same of what is read through borrows
pub are_ends_read : (xs : List Borrowed) (names : Named NamePlace) (al a b : List (Option (Bor QualifiedName))) (numbers ns lasts ls : List ℕ) (ends : List (Option (Bor QualifiedName))) (times : ℕ)
    → a ≡ al → b ≡ al → ns ≡ numbers → ls ≡ lasts
    → AreDeclared (declarations_of xs) names → AreNames (length xs) (aliased_at (declarations_of xs)) al → AreSteps (length a) (next names a) numbers → times ≡ length xs - 1
    → AreSteps (length ns) (walked ns times) lasts → AreNames (length ls) (λ i. name_at b (step ls i)) ends → AreEnds (declarations_of xs) ends
are_ends_read xs names al a b numbers ns lasts ls ends times ea eb en el are ha hn e hl he =
    are_ends xs names al numbers lasts ends times are ha
    (subst (λ (z : List (Option (Bor QualifiedName))). AreSteps (length z) (next names z) numbers) ea hn) e
    (subst (λ (z : List ℕ). AreSteps (length z) (walked z times) lasts) en hl)
    (subst (λ (z : List (Option (Bor QualifiedName))). AreNames (length lasts) (λ i. name_at z (step lasts i)) ends) eb
    (subst (λ (z : List ℕ). AreNames (length z) (λ i. name_at b (step z i)) ends) el he))

-- ---- a name after the aliases

-- the name at the end, where there is one
abbrev pub chosen : QualifiedName → Option QualifiedName → QualifiedName
chosen q None = q
chosen q (Some end) = end

abbrev pub end_by : List (Option (Bor QualifiedName)) → Option NamePlace → Option QualifiedName
end_by ends None = None
end_by ends (Some p) = name_at ends p.number

module _ (ds : List Declaration) where
  -- a package in which a name is declared has a declaration
  one_declared : (name : List ℕ) (d : Declared) → declared ds name ≡ Some d → length ds ≡ suc (length ds - 1)
  one_declared name d e = let s = stands ds name d e in let w = slice_get_within ds d.number s.0 s.1 in omega (arith, w)

  one_aliased : (o : Option Name) (n : Name) (r : QualifiedName) → own_aliased ds o n ≡ Some r → length ds ≡ suc (length ds - 1)
  one_aliased None n r e = by (declared ds n.text) refl e
    where
      by : (o : Option Declared) → declared ds n.text ≡ o → aliased o ≡ Some r → length ds ≡ suc (length ds - 1)
      by None h f = absurd (none_some f)
      by (Some d) h f = one_declared n.text d h
  one_aliased (Some x) n r e = absurd (none_some e)

  pub after_own : (q : QualifiedName) (o : Option QualifiedName) → own_aliased ds q.qualifier q.name ≡ o → chosen q (ended ds o) ≡ after_aliases ds q
  after_own q None e = sym (alias_done ds (length ds) q e)
  after_own q (Some r) e = sym (ap (λ (k : ℕ). unaliased ds k q) (one_aliased q.qualifier q.name r e) ∙ alias_more ds (length ds - 1) q r e)

  pub after_qualified : (q : QualifiedName) → is_some q.qualifier ≡ true → q ≡ after_aliases ds q
  after_qualified q e = sym (alias_done ds (length ds) q (none q.qualifier e))
    where
      none : (o : Option Name) → is_some o ≡ true → own_aliased ds o q.name ≡ None
      none None h = absurd (true≢false (sym h))
      none (Some x) h = refl

  module _ (names : Named NamePlace) (are : AreDeclared ds names) (ends : List (Option (Bor QualifiedName))) (told : AreEnds ds ends) where
    end_declared : (name : List ℕ) (o : Option Declared) → declared ds name ≡ o → end_by ends (place_of o) ≡ ended ds (aliased o)
    end_declared name None e = refl
    end_declared name (Some d) e = told d.number ∙ ap (ended ds) (aliased_declared ds name d e)

    pub after_named : (q : QualifiedName) (e : Option QualifiedName) → is_some q.qualifier ≡ false → end_by ends (value_at names q.name.text) ≡ e → chosen q e ≡ after_aliases ds q
    after_named q e h f = ap (chosen q) (sym f ∙ own q.qualifier h) ∙ after_own q (own_aliased ds q.qualifier q.name) refl
      where
        own : (o : Option Name) → is_some o ≡ false → end_by ends (value_at names q.name.text) ≡ ended ds (own_aliased ds o q.name)
        own None g = ap (end_by ends) (are q.name.text) ∙ end_declared q.name.text (declared ds q.name.text) refl
        own (Some x) g = absurd (true≢false g)
