-- Names of types that stand in several pairs.
use Rattle.std.proofs.Common.{◌≡◌, ◌≤◌, ◌<◌, ◌+◌, ◌⊎◌, inl, inr, ℕ, Bool, true, false, not, List, [], ◌∷◌, ◌++◌, length, refl, sym, ap, ◌∙◌, subst, arith}
use Rattle.std.proofs.lemmas.Bool.{cases_lt}
use mathlib.Core.Bool.{true≢false}
use Rattle.std.specs.Prelude.{if◌then◌else◌, ◌&&◌, ◌||◌, bytes_eq}
use Rattle.std.proofs.lemmas.Slice.Eq.{bytes_eq-Decides}
use Rattle.std.specs.Cmp.{first_so, second_so}
use Rattle.std.specs.List.{list_any}
use Rattle.indexmap.specs.IndexSet.{insert_key}
use Rattle.go_base.specs.Lists.{Has, Once}
use Rattle.go_base.proofs.Members.{found_has, has_found}
use Rattle.go_model.specs.types.Terms.{Layer}
use Rattle.go_model.specs.worlds.Worlds.{Packages}
use Rattle.go_model.specs.declared.types.names.TypeName.{TypeName}
use Rattle.go_model.specs.declared.types.term.Term.{Term, Term-F, out-Term, roll-Term, roll-out-Term}
use Rattle.go_selectors.proofs.Lists.{has-left, has-last, has-back}
use Rattle.go_selectors.specs.Answers.{Decides}
use Rattle.go_selectors.specs.Names.{same_name, same_name_is}
use Rattle.go_type_images.specs.declared.pair.TypePair.{TypePair}
use Rattle.api_correspond.specs.Publics.{module_layer, is_of_module}
use Rattle.api_correspond.specs.OwnedPairs.{are_of_module}
use Rattle.api_correspond.specs.Rules.{KeepsApart}
use Rattle.api_correspond.specs.inner.Tables.{At}
use Rattle.api_correspond.proofs.Places.{at_within, at_same, at_has, has_at, at_once}
use Rattle.api_breaks.specs.declared.broken.Lost.{Lost}
use Rattle.api_breaks.specs.declared.broken.Lost.TheVariants as lost
use Rattle.api_breaks.specs.inner.Telling.{Tells}
use Rattle.api_breaks.proofs.Telling.{told_kept, told_lost}
use Rattle.api_further_breaks.specs.inner.Partners.{AddsName, NotesName, IsName, NotesSide, side_of, NameAt, StandsTwice, HoldShared, HoldBelow, IsShared, HasOthers, KeepsPartners, IsPartnersLoss}

-- sets of names
name_itself : (n : TypeName) → same_name n n ≡ true
name_itself n = ap (λ b. b && bytes_eq n.name n.name) ((bytes_eq-Decides n.path n.path).1 refl) ∙ (bytes_eq-Decides n.name n.name).1 refl

added : (ks new : List TypeName) (k : TypeName) (known : Bool) → list_any (same_name k) ks ≡ known → new ≡ (if known then ks else ks ++ k ∷ []) → AddsName ks new k (not known)
added ks new k true e f = (f, found_has same_name same_name_is ks k e)
added ks new k false e f = (f, λ h. true≢false (sym (has_found same_name name_itself ks k h) ∙ e))

pub name_added : (ks new : List TypeName) (k : TypeName) (fresh : Bool) → new ≡ insert_key same_name ks k → fresh ≡ not (list_any (same_name k) ks) → AddsName ks new k fresh
name_added ks new k fresh e f = subst (AddsName ks new k) (sym f) (added ks new k (list_any (same_name k) ks) refl e)

pub name_told : (ks : List TypeName) (k : TypeName) (b : Bool) → b ≡ list_any (same_name k) ks → Decides b (Has ks k)
name_told ks k true e = found_has same_name same_name_is ks k (sym e)
name_told ks k false e = λ h. true≢false (sym (has_found same_name name_itself ks k h) ∙ sym e)

module _ (once twice : List TypeName) (k : TypeName) where
  pub note_new : (newer : List TypeName) (b : Bool) → b ≡ true → AddsName once newer k b → NotesName once twice newer twice k
  note_new newer b e h =
      let a : AddsName once newer k true = subst (AddsName once newer k) e h in
      record {
        first = λ n w. has-back once k n (subst (λ (x : List TypeName). Has x n) a.0 w);
        kept = λ n w. subst (λ (x : List TypeName). Has x n) (sym a.0) (elim w [ inl x ↦ has-left once (k ∷ []) n x | inr y ↦ subst (Has (once ++ k ∷ [])) y (has-last once k) ]);
        second = λ n w. inl w;
        stays = λ n w. elim w [ inl x ↦ x | inr y ↦ absurd (a.1 (subst (Has once) (sym y.0) y.1)) ];
      }

  pub note_again : (newer again : List TypeName) (b c : Bool) → b ≡ false → AddsName once newer k b → AddsName twice again k c → NotesName once twice newer again k
  note_again newer again b c e h g =
      let a : AddsName once newer k false = subst (AddsName once newer k) e h in
      record {
        first = λ n w. inl (subst (λ (x : List TypeName). Has x n) a.0 w);
        kept = λ n w. subst (λ (x : List TypeName). Has x n) (sym a.0) (elim w [ inl x ↦ x | inr y ↦ subst (Has once) y a.1 ]);
        second = λ n w. back c g n w a.1;
        stays = λ n w. there c g n w;
      }
    where
      back : (d : Bool) → AddsName twice again k d → (n : TypeName) → Has again n → Has once k → Has twice n ⊎ ((k ≡ n) × Has once n)
      back true f n w o = elim (has-back twice k n (subst (λ (x : List TypeName). Has x n) f.0 w)) [ inl x ↦ inl x | inr y ↦ inr (y, subst (Has once) y o) ]
      back false f n w o = inl (subst (λ (x : List TypeName). Has x n) f.0 w)

      there : (d : Bool) → AddsName twice again k d → (n : TypeName) → Has twice n ⊎ ((k ≡ n) × Has once n) → Has again n
      there true f n w = subst (λ (x : List TypeName). Has x n) (sym f.0) (elim w [ inl x ↦ has-left twice (k ∷ []) n x | inr y ↦ subst (Has (twice ++ k ∷ [])) y.0 (has-last twice k) ])
      there false f n w = subst (λ (x : List TypeName). Has x n) (sym f.0) (elim w [ inl x ↦ x | inr y ↦ subst (Has twice) y.0 f.1 ])

-- the name of a type
same_names : (t : Term) (a b : TypeName) → IsName t a → IsName t b → a ≡ b
same_names t a b e f = cc

module _ (once twice : List TypeName) (t : Term) where
  pub side_named : (newer again : List TypeName) (n k : TypeName) → IsName t n → k ≡ n → NotesName once twice newer again k → NotesSide once twice newer again t
  side_named newer again n k e s h = record {
    first = λ m w. elim (h.first m w) [ inl x ↦ inl x | inr y ↦ inr (subst (IsName t) (sym s ∙ y) e) ];
    kept = λ m w. h.kept m (elim w [ inl x ↦ inl x | inr y ↦ inr (s ∙ same_names t n m e y) ]);
    second = λ m w. elim (h.second m w) [ inl x ↦ inl x | inr y ↦ inr (subst (IsName t) (sym s ∙ y.0) e, y.1) ];
    stays = λ m w. h.stays m (elim w [ inl x ↦ inl x | inr y ↦ inr (s ∙ same_names t n m e y.0, y.1) ]);
  }

  pub side_unnamed : ((n : TypeName) → IsName t n → ⊥) → NotesSide once twice once twice t
  side_unnamed none = record {
    first = λ m w. inl w;
    kept = λ m w. elim w [ inl x ↦ x | inr y ↦ absurd (none m y) ];
    second = λ m w. inl w;
    stays = λ m w. elim w [ inl x ↦ x | inr y ↦ absurd (none m y.0) ];
  }

module _ (side : Bool) (pairs : List TypePair) where
  pub below_none : (once twice : List TypeName) → once ≡ [] → twice ≡ [] → HoldBelow side pairs 0 once twice
  below_none once twice e f = record {
    seen = λ n h. absurd (subst (λ (w : List TypeName). Has w n) e h);
    all = λ n i l h. absurd (omega arith);
    sound = λ n h. absurd (subst (λ (w : List TypeName). Has w n) f h);
    complete = λ n i j l k g h. absurd (omega (arith, l, k));
  }

  pub below_more : (k : ℕ) (p : TypePair) (once twice newer again : List TypeName) → At pairs k p → HoldBelow side pairs k once twice → NotesSide once twice newer again (side_of side p) → HoldBelow side pairs (k + 1) newer again
  below_more k p once twice newer again at b s = record {
    seen = λ n h. elim (s.first n h) [ inl x ↦ (let w = b.seen n x in let l = w.1 in (w.0, omega (arith, l), w.2)) | inr y ↦ (k, omega arith, (p, at, y)) ];
    all = λ n i l h. s.kept n (elim (cases_lt i k) [ inl x ↦ inl (b.all n i x h) | inr y ↦ inr (here n i (omega (arith, l, y)) h) ]);
    sound = λ n h. elim (s.second n h) [ inl x ↦ b.sound n x | inr y ↦ (let w = b.seen n y.1 in (w.0, k, w.1, w.2, (p, at, y.0))) ];
    complete = λ n i j l m g h. s.stays n (elim (cases_lt j k) [ inl x ↦ inl (b.complete n i j l x g h) | inr y ↦ inr (here n j (omega (arith, m, y)) h, b.all n i (omega (arith, l, m, y)) g) ]);
  }
    where
      here : (n : TypeName) (i : ℕ) → i ≡ k → NameAt side pairs i n → IsName (side_of side p) n
      here n i e h = subst (λ (q : TypePair). IsName (side_of side q) n) (at_same pairs k h.0 p (subst (λ (z : ℕ). At pairs z h.0) e h.1) at) h.2

  pub below_all : (k : ℕ) (once twice : List TypeName) → length pairs ≤ k → HoldBelow side pairs k once twice → HoldShared side pairs twice
  below_all k once twice l b = record {
    sound = b.sound;
    complete = λ n h. (let w = at_within pairs h.1 h.4.0 h.4.1 in b.complete n h.0 h.1 h.2 (omega (arith, w, l)) h.3 h.4);
  }

-- whether a type is one of the names
pub shared_named : (names : List TypeName) (t : Term) (n k : TypeName) (b : Bool) → IsName t n → k ≡ n → Decides b (Has names k) → Decides b (IsShared names t)
shared_named names t n k true e s d = (n, e, subst (Has names) s d)
shared_named names t n k false e s d = λ h. d (subst (Has names) (sym (s ∙ same_names t n h.0 e h.1)) h.2)

pub shared_unnamed : (names : List TypeName) (t : Term) → ((n : TypeName) → IsName t n → ⊥) → IsShared names t → ⊥
shared_unnamed names t none h = none h.0 h.1

pub others_told : (olds news : List TypeName) (p : TypePair) (a b r : Bool) → Decides a (IsShared olds p.old) → Decides b (IsShared news p.new) → r ≡ (a || b) → Decides r (HasOthers olds news p)
others_told olds news p true b r d e f = subst (λ b. Decides b (HasOthers olds news p)) (sym f) (inl d)
others_told olds news p false true r d e f = subst (λ b. Decides b (HasOthers olds news p)) (sym f) (inr e)
others_told olds news p false false r d e f = subst (λ b. Decides b (HasOthers olds news p)) (sym f) (λ h. elim h [ inl x ↦ d x | inr y ↦ e y ])

-- types of the module are names
module_named : (w : Packages) (l : Layer) → module_layer w l ≡ true → (n : TypeName) × (l ≡ Term-F.Named n)
module_named w (Term-F.Named n) e = (n, refl)
module_named w l e = absurd (true≢false (sym e))

same_term : (s t : Term) (n : TypeName) → IsName s n → IsName t n → s ≡ t
same_term s t n e f = sym (roll-out-Term s) ∙ ap roll-Term (e ∙ sym f) ∙ roll-out-Term t

pairs_same : (p q : TypePair) → q.old ≡ p.old → q.new ≡ p.new → q ≡ p
pairs_same p q e f = (λ i. record { old = e i; new = f i })

compared : (i j : ℕ) → (i < j) ⊎ ((j < i) ⊎ (i ≡ j))
compared i j = elim (cases_lt i j) [ inl x ↦ inl x | inr y ↦ elim (cases_lt j i) [ inl x ↦ inr (inl x) | inr z ↦ inr (inr (omega (arith, y, z))) ] ]

module _ (pairs : List TypePair) (once : Once pairs) (p : TypePair) (there : Has pairs p) where
  -- where its name stands at two places, one of them is another pair's
  other_place : (side : Bool) (n : TypeName) → StandsTwice side pairs n → (q : TypePair) × (i : ℕ) × At pairs i q × IsName (side_of side q) n × (q ≡ p → ⊥)
  other_place side n s =
      let k = has_at pairs p there in
      elim (compared s.0 k.0) [
        | inl x ↦ first k x
        | inr y ↦ elim y [ inl x ↦ first_later k x | inr e ↦ second k e ]
      ]
    where
      first : (k : (i : ℕ) × At pairs i p) → s.0 < k.0 → (q : TypePair) × (i : ℕ) × At pairs i q × IsName (side_of side q) n × (q ≡ p → ⊥)
      first k x = (s.3.0, s.0, s.3.1, s.3.2, (λ e. (let same = at_once pairs s.0 k.0 p once (subst (At pairs s.0) e s.3.1) k.1 in let z : ⊥ = absurd (omega (arith, same, x)) in z)))

      first_later : (k : (i : ℕ) × At pairs i p) → k.0 < s.0 → (q : TypePair) × (i : ℕ) × At pairs i q × IsName (side_of side q) n × (q ≡ p → ⊥)
      first_later k x = (s.3.0, s.0, s.3.1, s.3.2, (λ e. (let same = at_once pairs s.0 k.0 p once (subst (At pairs s.0) e s.3.1) k.1 in let z : ⊥ = absurd (omega (arith, same, x)) in z)))

      second : (k : (i : ℕ) × At pairs i p) → s.0 ≡ k.0 → (q : TypePair) × (i : ℕ) × At pairs i q × IsName (side_of side q) n × (q ≡ p → ⊥)
      second k e0 = (s.4.0, s.1, s.4.1, s.4.2, (λ e. (let same = at_once pairs s.1 k.0 p once (subst (At pairs s.1) e s.4.1) k.1 in let l = s.2 in let z : ⊥ = absurd (omega (arith, same, e0, l)) in z)))

  -- a pair with the same name is the same, where the name stands at one place
  one_place : (side : Bool) (n : TypeName) → (StandsTwice side pairs n → ⊥) → (q : TypePair) → Has pairs q → IsName (side_of side p) n → IsName (side_of side q) n → q ≡ p
  one_place side n none q h e f =
      let i = has_at pairs p there in
      let j = has_at pairs q h in
      elim (compared i.0 j.0) [
        | inl x ↦ absurd (none (i.0, j.0, x, (p, i.1, e), (q, j.1, f)))
        | inr y ↦ elim y [
          | inl x ↦ absurd (none (j.0, i.0, x, (q, j.1, f), (p, i.1, e)))
          | inr s ↦ at_same pairs i.0 q p (subst (λ (z : ℕ). At pairs z q) (sym s) j.1) i.1
        ]
      ]

  module _ (old new : Packages) (olds news : List TypeName) (so : HoldShared true pairs olds) (sn : HoldShared false pairs news) (ls : List Lost) where
    pub partners_foreign : are_of_module old new p ≡ false → Tells (KeepsPartners old new pairs p) (IsPartnersLoss old new pairs p) ls ls
    partners_foreign e = told_kept ls (λ q h o. absurd (true≢false (sym o ∙ e))) (λ l h. true≢false (sym h.2 ∙ e))

    -- the names of both types
    old_name : are_of_module old new p ≡ true → (n : TypeName) × IsName p.old n
    old_name o = module_named old (out-Term p.old) (first_so (is_of_module old p.old) (is_of_module new p.new) o)

    new_name : are_of_module old new p ≡ true → (n : TypeName) × IsName p.new n
    new_name o = module_named new (out-Term p.new) (second_so (is_of_module old p.old) (is_of_module new p.new) o)

    alone : are_of_module old new p ≡ true → (HasOthers olds news p → ⊥) → (q : TypePair) → Has pairs q → KeepsApart p q
    alone o none q h = record { same_old = same_old; same_new = same_new }
      where
        same_old : q.old ≡ p.old → q.new ≡ p.new
        same_old e =
            let n = old_name o in
            ap (λ (x : TypePair). x.new) (one_place true n.0 (λ s. none (inl (n.0, n.1, so.complete n.0 s))) q h n.1 (subst (λ (t : Term). IsName t n.0) (sym e) n.1))

        same_new : q.new ≡ p.new → q.old ≡ p.old
        same_new e =
            let n = new_name o in
            ap (λ (x : TypePair). x.old) (one_place false n.0 (λ s. none (inr (n.0, n.1, sn.complete n.0 s))) q h n.1 (subst (λ (t : Term). IsName t n.0) (sym e) n.1))

    pub partners_kept : are_of_module old new p ≡ true → (HasOthers olds news p → ⊥) → Tells (KeepsPartners old new pairs p) (IsPartnersLoss old new pairs p) ls ls
    partners_kept o none = told_kept ls (λ q h w. alone o none q h) (λ l h. h.3 (alone o none h.0 h.1))

    shared_pair : HasOthers olds news p → (q : TypePair) × Has pairs q × (KeepsApart p q → ⊥)
    shared_pair (inl s) =
        let q = other_place true s.0 (so.sound s.0 s.2) in
        let e : q.0.old ≡ p.old = same_term q.0.old p.old s.0 q.3 s.1 in
        (q.0, at_has pairs q.1 q.0 q.2, (λ k. q.4 (pairs_same p q.0 e (k.same_old e))))
    shared_pair (inr s) =
        let q = other_place false s.0 (sn.sound s.0 s.2) in
        let e : q.0.new ≡ p.new = same_term q.0.new p.new s.0 q.3 s.1 in
        (q.0, at_has pairs q.1 q.0 q.2, (λ k. q.4 (pairs_same p q.0 (k.same_new e) e)))

    pub partners_lost : (grown : List Lost) (before after : Term) → are_of_module old new p ≡ true → HasOthers olds news p → before ≡ p.old → after ≡ p.new → grown ≡ ls ++ lost.OneToOne before after ∷ [] → Tells (KeepsPartners old new pairs p) (IsPartnersLoss old new pairs p) ls grown
    partners_lost grown before after o s e f g =
        let q = shared_pair s in
        told_lost ls grown (lost.OneToOne p.old p.new) (g ∙ (λ i. ls ++ lost.OneToOne (e i) (f i) ∷ [])) (q.0, q.1, o, q.2, refl) (λ l h. h.4)
