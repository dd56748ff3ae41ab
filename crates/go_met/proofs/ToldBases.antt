-- What is told of receivers, row by row and type by type.
use Rattle.std.proofs.Common.{◌≡◌, ◌≢◌, ◌↔◌, ◌+◌, ◌<◌, ◌≤◌, ℕ, zero, suc, Bool, true, false, List, [], ◌∷◌, ◌++◌, length, set, take, get_or, Option, None, Some, refl, sym, ap, ◌∙◌, subst, ◌⊎◌, inl, inr, arith, get_or-set_same, get_or-set_other}
use mathlib.Core.Bool.{true≢false}
use Rattle.std.specs.Prelude.{is_some, nat_eq}
use Rattle.std.proofs.lemmas.List.{length-set, take_more}
use Rattle.std.proofs.lemmas.Bool.{eqb-true, eq-eqb}
use Rattle.go_base.proofs.Lists.{take_past}
use Rattle.go_declaration_asks.specs.declared.base.Base.{Base}
use Rattle.go_declared.specs.MethodTables.{method_name}
use Rattle.go_declared.specs.declared.methods.MethodRow.{MethodRow}
use Rattle.go_selectors.specs.Answers.{Decides}
use Rattle.go_typings.proofs.Cells.{none_some, some_once}
use Rattle.go_typings.specs.Declarations.{Declaration}
use Rattle.go_met.proofs.Fronts.{has_last, has_left, has_right}
use Rattle.go_met.specs.inner.ToldBases.{HasNumber, IsAlone, IsOfType, TellsRows, told_at}

same_or_not : (m n : ℕ) → (m ≡ n) ⊎ (m ≢ n)
same_or_not m n = by (nat_eq m n) refl
  where
    by : (b : Bool) → nat_eq m n ≡ b → (m ≡ n) ⊎ (m ≢ n)
    by true e = inl (eqb-true m n e)
    by false e = inr (λ f. true≢false (sym (eq-eqb m n f) ∙ e))

-- nothing is told past the end
told_within : (told : List (Option Base)) (n : ℕ) (b : Base) → told_at told n ≡ Some b → n < length told
told_within [] n b e = none_some {A = Base} None b refl e
told_within (x ∷ told) zero b e = omega arith
told_within (x ∷ told) (suc n) b e = let k = told_within told n b e in omega (arith, k)

set_size : (told : List (Option Base)) (k : ℕ) (o : Option Base) → length (set told k o) ≡ length told
set_size told k o = length-set told k o

-- what is told after one more was told
told_after : (told : List (Option Base)) (k n : ℕ) (b c : Base) → told_at (set told k (Some c)) n ≡ Some b → (told_at told n ≡ Some b) ⊎ ((n ≡ k) × (c ≡ b))
told_after told k n b c e = elim (same_or_not n k) [
  | inl same ↦ inr (same, some_once c b (sym (get_or-set_same told k (Some c) None (let w = told_within (set told k (Some c)) n b e in let l = set_size told k (Some c) in omega (arith, w, l, same))) ∙ ap (told_at (set told k (Some c))) (sym same) ∙ e))
  | inr other ↦ inl (sym (get_or-set_other told k n (Some c) None other) ∙ e)
]

set_there : (told : List (Option Base)) (k : ℕ) (c : Base) → k < length told → told_at (set told k (Some c)) k ≡ Some c
set_there told k c h = get_or-set_same told k (Some c) None h

some_within : (told : List (Option Base)) (n : ℕ) → is_some (told_at told n) ≡ true → n < length told
some_within told n e = by (told_at told n) refl
  where
    by : (o : Option Base) → told_at told n ≡ o → n < length told
    by None f = absurd (true≢false (sym e ∙ ap is_some f))
    by (Some b) f = told_within told n b f

told_still : (told : List (Option Base)) (k n : ℕ) (c : Base) → is_some (told_at told n) ≡ true → is_some (told_at (set told k (Some c)) n) ≡ true
told_still told k n c e = elim (same_or_not n k) [
  | inl same ↦ ap (λ (m : ℕ). is_some (told_at (set told k (Some c)) m)) same ∙ ap is_some (set_there told k c (let w = some_within told n e in omega (arith, w, same)))
  | inr other ↦ ap is_some (get_or-set_other told k n (Some c) None other) ∙ e
]

module _ (ds : List Declaration) (IsShared : List ℕ → Type 0) (type : List ℕ) where
  pub none_told : (old : List (Option Base)) → TellsRows ds IsShared type [] old old
  none_told old = record {
    size = refl;
    sound = λ n b e. inl e;
    kept = λ n e. e;
    complete = λ n l h. absurd h.1;
  }

  further : (rows : List MethodRow) (r : MethodRow) (n : ℕ) (b : Base) → IsOfType ds IsShared type rows n b → IsOfType ds IsShared type (rows ++ r ∷ []) n b
  further rows r n b w = record { name = w.name; row = (w.row.0, has_left rows (r ∷ []) w.row.0 w.row.1, w.row.2); only = w.only }

  -- one row more is told
  pub row_told : (rows : List MethodRow) (r : MethodRow) (old mid : List (Option Base)) (b : Base) → TellsRows ds IsShared type rows old mid → b.name.now ≡ type → Decides b.is_only (IsAlone IsShared (method_name ds r.number))
      → TellsRows ds IsShared type (rows ++ r ∷ []) old (set mid r.number (Some b))
  row_told rows r old mid b t e d = record {
    size = set_size mid r.number (Some b) ∙ t.size;
    sound = λ n c f. sound n c f;
    kept = λ n f. told_still mid r.number n b (t.kept n f);
    complete = λ n l h. complete n l h;
  }
    where
      sound : (n : ℕ) (c : Base) → told_at (set mid r.number (Some b)) n ≡ Some c → (told_at old n ≡ Some c) ⊎ IsOfType ds IsShared type (rows ++ r ∷ []) n c
      sound n c f = elim (told_after mid r.number n c b f) [
        | inl g ↦ elim (t.sound n c g) [ inl k ↦ inl k | inr w ↦ inr (further rows r n c w) ]
        | inr g ↦ inr (subst (IsOfType ds IsShared type (rows ++ r ∷ []) n) g.1 (record {
          name = e;
          row = (r, has_right rows (r ∷ []) r (inl refl), sym g.0);
          only = subst (λ (k : ℕ). Decides b.is_only (IsAlone IsShared (method_name ds k))) (sym g.0) d;
        }))
      ]

      complete : (n : ℕ) → n < length old → HasNumber (rows ++ r ∷ []) n → is_some (told_at (set mid r.number (Some b)) n) ≡ true
      complete n l h = elim (has_last rows r h.0 h.1) [
        | inl k ↦ told_still mid r.number n b (t.complete n l (h.0, k, h.2))
        | inr k ↦ (let same : r.number ≡ n = ap (λ (x : MethodRow). x.number) k ∙ h.2 in let z = t.size in
            ap (λ (m : ℕ). is_some (told_at (set mid r.number (Some b)) m)) (sym same) ∙ ap is_some (set_there mid r.number b (omega (arith, l, z, same))))
      ]

  -- the same for rows in front of a place
  pub told_next : (rows : List MethodRow) (i : ℕ) (r : MethodRow) (old mid new : List (Option Base)) (n : List ℕ) (b : Base) → i < length rows → TellsRows ds IsShared type (take i rows) old mid → b.name.now ≡ type
      → n ≡ method_name ds (get_or rows i r).number → Decides b.is_only (IsAlone IsShared n) → new ≡ set mid (get_or rows i r).number (Some b) → TellsRows ds IsShared type (take (i + 1) rows) old new
  told_next rows i r old mid new n b h t e f d made =
      subst (λ (rs : List MethodRow). TellsRows ds IsShared type rs old new) (sym (take_more rows i r h))
      (subst (TellsRows ds IsShared type (take i rows ++ get_or rows i r ∷ []) old) (sym made) (row_told (take i rows) (get_or rows i r) old mid b t e (subst (λ (k : List ℕ). Decides b.is_only (IsAlone IsShared k)) f d)))

  pub told_whole : (rows : List MethodRow) (i : ℕ) (old new : List (Option Base)) → length rows ≤ i → TellsRows ds IsShared type (take i rows) old new → TellsRows ds IsShared type rows old new
  told_whole rows i old new h t = subst (λ (rs : List MethodRow). TellsRows ds IsShared type rs old new) (take_past i rows h) t

same_alone : (P Q : List ℕ → Type 0) (name : List ℕ) (b : Bool) → ((k : List ℕ) → P k ↔ Q k) → Decides b (IsAlone P name) → Decides b (IsAlone Q name)
same_alone P Q name true s (inl e) = inl e
same_alone P Q name true s (inr f) = inr (λ q. f ((s name).1 q))
same_alone P Q name false s d = λ h. d (back h)
  where
    back : IsAlone Q name → IsAlone P name
    back (inl e) = inl e
    back (inr f) = inr (λ p. f ((s name).0 p))

-- the same where names are shared alike
pub alike_told : (ds : List Declaration) (P Q : List ℕ → Type 0) (type : List ℕ) (rows : List MethodRow) (old new : List (Option Base)) → ((k : List ℕ) → P k ↔ Q k) → TellsRows ds P type rows old new → TellsRows ds Q type rows old new
alike_told ds P Q type rows old new s t = record {
  size = t.size;
  sound = λ n b e. elim (t.sound n b e) [ inl k ↦ inl k | inr w ↦ inr (record { name = w.name; row = w.row; only = same_alone P Q (method_name ds n) b.is_only s w.only }) ];
  kept = t.kept;
  complete = t.complete;
}
