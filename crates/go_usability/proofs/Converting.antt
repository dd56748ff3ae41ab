-- Converting beside entries, from converting over a table.
use Rattle.std.proofs.Common.{◌≡◌, ◌⊎◌, ◌&&◌, ◌||◌, Bool, true, false, inl, inr, None, refl, sym, ap, ◌∙◌, subst}
use mathlib.Core.Bool.{true≢false}
use Rattle.go_model.specs.declared.types.term.Term.{Term, Term-F, out-Term, roll-Term, roll-out-Term}
use Rattle.go_model.specs.types.Assignability.{AreChannels}
use Rattle.go_model.specs.types.Assignability.{assign_identical as table_identical, assign_underlying as table_underlying, assign_interface as table_interface, assign_channel as table_channel}
use Rattle.go_model.specs.types.Conversions.{UnderlyingConverts, PointerConverts, basics_convert, both_basic, is_text, is_characters}
use Rattle.go_model.specs.types.Conversions.{Convertible as TableConverts, convert_assignable as table_assignable, convert_underlying as table_converts, convert_pointer as table_pointer, convert_basic as table_basic}
use Rattle.go_model.specs.types.Selectors.{is_pointer_layer, name_of}
use Rattle.go_model.specs.types.Tables.{Table}
use Rattle.go_model.specs.types.Terms.{Layer, pointer_to}
use Rattle.go_model.specs.types.Underlying.{under, under_layer}
use Rattle.go_rules.specs.Environments.{Env, Entered, EnteredLayer}
use Rattle.go_rules.specs.Usability.{Assignable, assign_identical, assign_underlying, assign_channel, BasesEntered, Convertible, convert_assignable, convert_underlying, convert_pointer, convert_basic}
use Rattle.go_types.specs.go_selectors.Answers.{Decides}
use Rattle.go_usability.proofs.Assigning.{is_name, an_interface, form_enters, assigns_table}
use Rattle.go_usability.proofs.Untagged.{out_pointer, pointers_same, pointers_untagged, same_or_unnamed, under_pointer, unnamed_converts}
use Rattle.go_usability.specs.inner.Alternatives.{is_interface, are_pointers, ConvertsBeneath}

-- ---- by basic types

some_or : (a b c : Bool) → (a || b || c) ≡ true → (a ≡ true) ⊎ ((b ≡ true) ⊎ (c ≡ true))
some_or true b c e = inl refl
some_or false true c e = inr (inl refl)
some_or false false c e = inr (inr e)

both : (a b : Bool) → (a && b) ≡ true → (a ≡ true) × (b ≡ true)
both true b e = (refl, e)
both false b e = absurd (true≢false (sym e))

-- a form that is neither a name nor an interface nor a pointer
pub record IsBasicForm (l : Layer) : Type 0 where
  pub unnamed : is_name l ≡ false
  pub closed : is_interface l ≡ false
  pub based : is_pointer_layer l ≡ false

basic_left : (k l : Layer) → both_basic k l ≡ true → IsBasicForm k
basic_left (Term-F.Plain a) l e = record { unnamed = refl; closed = refl; based = refl }
basic_left k l e = absurd (true≢false (sym e))

basic_right : (k l : Layer) → both_basic k l ≡ true → IsBasicForm l
basic_right (Term-F.Plain a) (Term-F.Plain b) e = record { unnamed = refl; closed = refl; based = refl }
basic_right k l e = absurd (true≢false (sym e))

text_form : (l : Layer) → is_text l ≡ true → IsBasicForm l
text_form (Term-F.Plain b) e = record { unnamed = refl; closed = refl; based = refl }
text_form l e = absurd (true≢false (sym e))

characters_form : (T : Table) (l : Layer) → is_characters T l ≡ true → IsBasicForm l
characters_form T (Term-F.Slice b) e = record { unnamed = refl; closed = refl; based = refl }
characters_form T l e = absurd (true≢false (sym e))

module _ (T : Table) (from to : Term) (e : basics_convert T from to ≡ true) where
  cases : (both_basic (under T from) (under T to) ≡ true) ⊎ (((is_text (under T from) && is_characters T (under T to)) ≡ true) ⊎ ((is_characters T (under T from) && is_text (under T to)) ≡ true))
  cases = some_or _ _ _ e

  pub basic_from : IsBasicForm (under T from)
  basic_from = elim cases [
    | inl a ↦ basic_left (under T from) (under T to) a
    | inr b ↦ elim b [ inl c ↦ text_form (under T from) (both _ _ c).0 | inr d ↦ characters_form T (under T from) (both _ _ d).0 ]
  ]

  pub basic_to : IsBasicForm (under T to)
  basic_to = elim cases [
    | inl a ↦ basic_right (under T from) (under T to) a
    | inr b ↦ elim b [ inl c ↦ characters_form T (under T to) (both _ _ c).1 | inr d ↦ text_form (under T to) (both _ _ d).1 ]
  ]

-- ---- pointers

bases : (k l : Layer) → are_pointers k l ≡ true → (a : Term) × (b : Term) × (k ≡ Term-F.Pointer a) × (l ≡ Term-F.Pointer b)
bases (Term-F.Pointer a) (Term-F.Pointer b) e = (a, b, refl, refl)
bases k l e = absurd (true≢false (sym e))

pub pointed : (t base : Term) → out-Term t ≡ Term-F.Pointer base → t ≡ pointer_to base
pointed t base e = sym (roll-out-Term t) ∙ ap roll-Term e

same_bases : (a b : Term) → ◌≡◌ {A = Layer} (Term-F.Pointer a) (Term-F.Pointer b) → a ≡ b
same_bases a b k = cc

-- what converts two pointer types converts their bases by what is underneath, or they are the same
pub pointers_convert : (T : Table) (profile : Bool) (a b : Term) → TableConverts T profile (pointer_to a) (pointer_to b) → (a ≡ b) ⊎ UnderlyingConverts T profile a b
pointers_convert T profile a b (table_assignable (table_identical e)) = inl (pointers_same a b e)
pointers_convert T profile a b (table_assignable (table_underlying u)) = inl (same_bases a b (sym (under_pointer T a) ∙ u.same ∙ under_pointer T b))
pointers_convert T profile a b (table_assignable (table_interface (ms, e, h))) = absurd (true≢false (sym (an_interface (under T (pointer_to b)) ms e) ∙ ap is_interface (under_pointer T b)))
pointers_convert T profile a b (table_assignable (table_channel c)) = absurd (subst (λ (k : Layer). AreChannels k (under T (pointer_to b))) (under_pointer T a) c.channels)
pointers_convert T profile a b (table_converts u) = elim (same_or_unnamed a b (pointers_untagged T a b u.same)) [ inl e ↦ inl e | inr n ↦ inr (unnamed_converts T profile a b n.0 n.1 (pointers_untagged T a b u.same)) ]
pointers_convert T profile a b (table_pointer p) = inr (subst (λ (x : Term). UnderlyingConverts T profile x b) (sym (same_bases a p.base (sym (out_pointer a) ∙ p.from_is))) (subst (UnderlyingConverts T profile p.base) (sym (same_bases b p.other (sym (out_pointer b) ∙ p.to_is))) p.converts))
pointers_convert T profile a b (table_basic e) = absurd (true≢false (sym (ap is_pointer_layer (under_pointer T a)) ∙ (basic_from T (pointer_to a) (pointer_to b) e).based))

pub pointer_converts : (T : Table) (profile : Bool) (a b : Term) → UnderlyingConverts T profile a b → TableConverts T profile (pointer_to a) (pointer_to b)
pointer_converts T profile a b u = table_pointer (record { base = a; other = b; from_is = out_pointer a; to_is = out_pointer b; converts = u })

pub beneath_decides : (E : Env) (from to left right : Term) (answer : Bool) → left ≡ pointer_to from → right ≡ pointer_to to → Decides answer (TableConverts E.table E.profile left right) → Decides answer (ConvertsBeneath E from to)
beneath_decides E from to left right answer e f d = by answer (subst (λ (x : Term). Decides answer (TableConverts E.table E.profile (pointer_to from) x)) f (subst (λ (x : Term). Decides answer (TableConverts E.table E.profile x right)) e d))
  where
    by : (b : Bool) → Decides b (TableConverts E.table E.profile (pointer_to from) (pointer_to to)) → Decides b (ConvertsBeneath E from to)
    by true c = pointers_convert E.table E.profile from to c
    by false c = λ x. elim x [ inl s ↦ c (table_assignable (table_identical (ap pointer_to s))) | inr u ↦ c (pointer_converts E.table E.profile from to u) ]

-- ---- beside entries

-- what isn't a name needs no entry
unnamed_enters : (E : Env) (l : Layer) → name_of l ≡ None → EnteredLayer E l
unnamed_enters E (Term-F.Named n) e = absurd (cc)
unnamed_enters E (Term-F.Plain b) e = tt
unnamed_enters E (Term-F.Pointer b) e = tt
unnamed_enters E (Term-F.Slice b) e = tt
unnamed_enters E (Term-F.Array k b) e = tt
unnamed_enters E (Term-F.Map k b) e = tt
unnamed_enters E (Term-F.Chan d b) e = tt
unnamed_enters E (Term-F.Func g) e = tt
unnamed_enters E (Term-F.Struct fs) e = tt
unnamed_enters E (Term-F.Interface ms) e = tt

module _ (E : Env) (from to : Term) where
  pub converts_table : Convertible E from to → TableConverts E.table E.profile from to
  converts_table (convert_assignable a) = table_assignable (assigns_table E from to a)
  converts_table (convert_underlying a b u) = table_converts u
  converts_table (convert_pointer b p) = table_pointer p
  converts_table (convert_basic e) = table_basic e

  not_pointers : are_pointers (out-Term from) (out-Term to) ≡ false → PointerConverts E.table E.profile from to → ⊥
  not_pointers n p = true≢false (sym (ap (λ l. are_pointers l (out-Term to)) p.from_is ∙ ap (are_pointers (Term-F.Pointer p.base)) p.to_is) ∙ n)

  basic_entered : basics_convert E.table from to ≡ true → Entered E from × Entered E to
  basic_entered e = (form_enters E from (basic_from E.table from to e).unnamed, form_enters E to (basic_to E.table from to e).unnamed)

  module _ (no : Assignable E from to → ⊥) where
    -- one has no entry, and they aren't pointers
    pub converts_unentered : are_pointers (out-Term from) (out-Term to) ≡ false → (Entered E from × Entered E to → ⊥) → Convertible E from to → ⊥
    converts_unentered n c (convert_assignable a) = no a
    converts_unentered n c (convert_underlying a b u) = c (a, b)
    converts_unentered n c (convert_pointer b p) = not_pointers n p
    converts_unentered n c (convert_basic e) = c (basic_entered e)

    -- an interface is underneath the target
    pub converts_interface : (answer : Bool) → are_pointers (out-Term from) (out-Term to) ≡ false → Entered E from → Entered E to → is_interface (under E.table to) ≡ true → Decides answer (ConvertsBeneath E from to) → Decides answer (Convertible E from to)
    converts_interface true n f t i (inl e) = convert_assignable (assign_identical e)
    converts_interface true n f t i (inr u) = convert_underlying f t u
    converts_interface false n f t i d = none
      where
        none : Convertible E from to → ⊥
        none (convert_assignable a) = no a
        none (convert_underlying a b u) = d (inr u)
        none (convert_pointer b p) = not_pointers n p
        none (convert_basic e) = true≢false (sym i ∙ (basic_to E.table from to e).closed)

    -- none is
    pub converts_other : are_pointers (out-Term from) (out-Term to) ≡ false → Entered E from → Entered E to → is_interface (under E.table to) ≡ false → TableConverts E.table E.profile from to → Convertible E from to
    converts_other n f t i (table_assignable (table_identical e)) = convert_assignable (assign_identical e)
    converts_other n f t i (table_assignable (table_underlying u)) = convert_assignable (assign_underlying f t u)
    converts_other n f t i (table_assignable (table_interface (ms, e, h))) = absurd (true≢false (sym (an_interface (under E.table to) ms e) ∙ i))
    converts_other n f t i (table_assignable (table_channel c)) = convert_assignable (assign_channel c)
    converts_other n f t i (table_converts u) = convert_underlying f t u
    converts_other n f t i (table_pointer p) = absurd (not_pointers n p)
    converts_other n f t i (table_basic e) = convert_basic e

    -- two pointers
    pub converts_pointers : (answer : Bool) → are_pointers (out-Term from) (out-Term to) ≡ true → TableConverts E.table E.profile from to → Decides answer (BasesEntered E (out-Term from) (out-Term to)) → Decides answer (Convertible E from to)
    converts_pointers answer p c d = by answer d
      where
        are : (a : Term) × (b : Term) × (out-Term from ≡ Term-F.Pointer a) × (out-Term to ≡ Term-F.Pointer b)
        are = bases (out-Term from) (out-Term to) p

        left : from ≡ pointer_to are.0
        left = pointed from are.0 are.2

        right : to ≡ pointer_to are.1
        right = pointed to are.1 are.3

        differ : are.0 ≡ are.1 → ⊥
        differ e = no (assign_identical (left ∙ ap pointer_to e ∙ sym right))

        among : TableConverts E.table E.profile (pointer_to are.0) (pointer_to are.1)
        among = subst (TableConverts E.table E.profile (pointer_to are.0)) right (subst (λ (x : Term). TableConverts E.table E.profile x to) left c)

        beneath : UnderlyingConverts E.table E.profile are.0 are.1
        beneath = elim (pointers_convert E.table E.profile are.0 are.1 among) [ inl e ↦ absurd (differ e) | inr u ↦ u ]

        unentered : (Entered E are.0 × Entered E are.1 → ⊥) → Convertible E from to → ⊥
        unentered n (convert_assignable a) = no a
        unentered n (convert_underlying a b u) = plain (subst (UnderlyingConverts E.table E.profile (pointer_to are.0)) right (subst (λ (x : Term). UnderlyingConverts E.table E.profile x to) left u))
          where
            enters : (t : Term) → name_of (out-Term t) ≡ None → Entered E t
            enters t m = unnamed_enters E (out-Term t) m

            plain : UnderlyingConverts E.table E.profile (pointer_to are.0) (pointer_to are.1) → ⊥
            plain v = elim (same_or_unnamed are.0 are.1 (pointers_untagged E.table are.0 are.1 v.same)) [ inl e ↦ differ e | inr m ↦ n (enters are.0 m.0, enters are.1 m.1) ]
        unentered n (convert_pointer b q) = n (subst (λ (k : Layer). BasesEntered E k (Term-F.Pointer are.1)) are.2 (subst (BasesEntered E (out-Term from)) are.3 b))
        unentered n (convert_basic e) = true≢false (sym (ap (λ l. is_pointer_layer (under_layer E.table l)) are.2) ∙ (basic_from E.table from to e).based)

        by : (b : Bool) → Decides b (BasesEntered E (out-Term from) (out-Term to)) → Decides b (Convertible E from to)
        by true h = convert_pointer h (record { base = are.0; other = are.1; from_is = are.2; to_is = are.3; converts = beneath })
        by false h = unentered (λ x. h (subst (λ (k : Layer). BasesEntered E k (out-Term to)) (sym are.2) (subst (BasesEntered E (Term-F.Pointer are.0)) (sym are.3) x)))
