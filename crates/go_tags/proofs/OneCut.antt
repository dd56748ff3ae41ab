-- A text is cut into parts from the prefix, in one way.
use Rattle.std.proofs.Common.{◌≡◌, ◌≢◌, ℕ, ◌+◌, ◌<◌, ◌≤◌, Bool, true, false, cond, ◌&&◌, ◌==◌, List, [], ◌∷◌, ◌++◌, length, take, drop, refl, sym, ap, ◌∙◌, subst, arith, Option, Some, None, length-drop, append_assoc, eqb-true, lit<, ◌⊎◌, inl, inr}
use Rattle.std.specs.Char.{encode_utf8}
use Rattle.std.proofs.lemmas.Str.{char_from_byte}
use Rattle.std.proofs.lemmas.List.{take-append-drop, drop-drop, append-nil}
use Rattle.ucd_category.proofs.Computing.{ucd_category}
use Rattle.go_base.specs.Characters.{is_tag_character, IsRun, run_end, run_more}
use Rattle.go_model.specs.declared.files.build.ConstraintPart.{ConstraintPart}
use Rattle.go_model.specs.declared.files.build.ConstraintPart.TheVariants as part
use Rattle.go_model.specs.files.BuildConstraints.{AreParts, no_part, blank, or_sign, and_sign, not_sign, open_sign, close_sign, tag}
use Rattle.go_base.specs.Comments.{is_blank}
use Rattle.go_tags.specs.declared.parts.Step.{Step}
use Rattle.go_tags.specs.inner.ExpressionParts.{is_next, sign_at, onto, BeginsStep}
use Rattle.go_base.proofs.Runs.{run_once}
use Rattle.go_base.proofs.Lists.{length_take, drop_past}

no_tag_space : is_tag_character 32 ≡ false
unfolding ucd_category
no_tag_space = refl

no_tag_tab : is_tag_character 9 ≡ false
unfolding ucd_category
no_tag_tab = refl

no_tag_not : is_tag_character 33 ≡ false
unfolding ucd_category
no_tag_not = refl

no_tag_open : is_tag_character 40 ≡ false
unfolding ucd_category
no_tag_open = refl

no_tag_close : is_tag_character 41 ≡ false
unfolding ucd_category
no_tag_close = refl

no_tag_or : is_tag_character 124 ≡ false
unfolding ucd_category
no_tag_or = refl

no_tag_and : is_tag_character 38 ≡ false
unfolding ucd_category
no_tag_and = refl

-- a byte that is a tag's character, where it is one, is not this byte
unlike : (b k : ℕ) → k < 128 → is_tag_character k ≡ false → (b < 128 → is_tag_character b ≡ true) → (b == k) ≡ false
unlike b k small fails tags = elim (b == k) as (λ t. (b == k) ≡ t → t ≡ false) [
  | true ↦ (λ e. let same : b ≡ k = eqb-true b k e in let passes : is_tag_character b ≡ true = tags (omega arith) in let other : is_tag_character b ≡ false = ap is_tag_character same ∙ fails in absurd (cc))
  | false ↦ (λ e. refl)
] refl

no_sign : (b : ℕ) (bs : List ℕ) → (b < 128 → is_tag_character b ≡ true) → sign_at (b ∷ bs) ≡ None
no_sign b bs tags =
    rw (
      unlike b 32 (lit< tt) no_tag_space tags,
      unlike b 9 (lit< tt) no_tag_tab tags,
      unlike b 33 (lit< tt) no_tag_not tags,
      unlike b 40 (lit< tt) no_tag_open tags,
      unlike b 41 (lit< tt) no_tag_close tags,
      unlike b 124 (lit< tt) no_tag_or tags,
      unlike b 38 (lit< tt) no_tag_and tags,
    ) refl

-- what a tag's character begins has no sign in prefix
no_sign_by : (whole rest : List ℕ) (c : ℕ) → whole ≡ encode_utf8 c ++ rest → is_tag_character c ≡ true → sign_at whole ≡ None
no_sign_by [] rest c e test = refl
no_sign_by (b ∷ bs) rest c e test = no_sign b bs (λ small. ap is_tag_character (sym (char_from_byte (b ∷ bs) rest c e small (omega arith))) ∙ test)

tag_no_sign : (name text : List ℕ) → name ≢ [] → IsRun is_tag_character name text → sign_at (name ++ text) ≡ None
tag_no_sign name text some (run_end no1) = absurd (some refl)
tag_no_sign name text some (run_more {c = c} {front = prefix} test scalar d) = no_sign_by (encode_utf8 c ++ prefix ++ text) (prefix ++ text) c (append_assoc (encode_utf8 c) prefix text) test

abbrev blank_step : Step
blank_step = record { part = None; len = 1 }

abbrev sign_step : ConstraintPart → ℕ → Step
sign_step sign len = record { part = Some sign; len = len }

blank_sign : (b : ℕ) (bs : List ℕ) → is_blank b ≡ true → sign_at (b ∷ bs) ≡ Some blank_step
blank_sign b bs h = rw h refl

same_step : (known step : Step) → ◌≡◌ {A = Option Step} (Some known) (Some step) → known ≡ step
same_step known step e = cc

-- the parts of a text whose first step is known
abbrev Taken : List ℕ → List ConstraintPart → Step → Type 0
Taken text all step = (parts : List ConstraintPart) × (all ≡ onto step.part parts) × AreParts (drop step.len text) parts

step_taken : (step : Step) {text : List ℕ} {all : List ConstraintPart} → AreParts text all → sign_at text ≡ Some step → Taken text all step
step_taken step no_part e = absurd (cc)
step_taken step (blank {b = b} {text = text} {parts = parts} h d) e = subst (Taken (b ∷ text) parts) (same_step blank_step step (sym (blank_sign b text h) ∙ e)) (parts, refl, d)
step_taken step (or_sign {text = text} {parts = parts} d) e = subst (Taken (124 ∷ 124 ∷ text) (part.Or ∷ parts)) (same_step (sign_step part.Or 2) step e) (parts, refl, d)
step_taken step (and_sign {text = text} {parts = parts} d) e = subst (Taken (38 ∷ 38 ∷ text) (part.And ∷ parts)) (same_step (sign_step part.And 2) step e) (parts, refl, d)
step_taken step (not_sign {text = text} {parts = parts} d) e = subst (Taken (33 ∷ text) (part.Not ∷ parts)) (same_step (sign_step part.Not 1) step e) (parts, refl, d)
step_taken step (open_sign {text = text} {parts = parts} d) e = subst (Taken (40 ∷ text) (part.Open ∷ parts)) (same_step (sign_step part.Open 1) step e) (parts, refl, d)
step_taken step (close_sign {text = text} {parts = parts} d) e = subst (Taken (41 ∷ text) (part.Close ∷ parts)) (same_step (sign_step part.Close 1) step e) (parts, refl, d)
step_taken step (tag {name = name} {text = text} some run d) e = let none : sign_at (name ++ text) ≡ None = tag_no_sign name text some run in absurd (cc)

-- a step that is known in whole
begins_by : (known step : Step) (text : List ℕ) → sign_at text ≡ Some step → ◌≡◌ {A = Option Step} (Some known) (Some step) → 0 < known.len → known.len ≤ length text
    → ((parts : List ConstraintPart) → AreParts (drop known.len text) parts → AreParts text (onto known.part parts)) → BeginsStep text step
begins_by known step text e same some within put =
    subst (BeginsStep text) (same_step known step same)
    (record { some = some; within = within; put = put; taken = λ all d. step_taken known d (e ∙ sym same) })

cond_case : (t : Bool) (x y : Option Step) (step : Step) → cond t x y ≡ Some step → ((t ≡ true) × (x ≡ Some step)) ⊎ ((t ≡ false) × (y ≡ Some step))
cond_case true x y step e = inl (refl, e)
cond_case false x y step e = inr (refl, e)

both : (p q : Bool) → (p && q) ≡ true → (p ≡ true) × (q ≡ true)
both true q h = (refl, h)
both false q h = absurd (cc)

-- two bytes k at the prefix
pair : (b k : ℕ) (bs : List ℕ) → (b == k && is_next k bs) ≡ true → (rest : List ℕ) × (b ∷ bs ≡ k ∷ k ∷ rest)
pair b k [] h = let p = both (b == k) false h in absurd (cc)
pair b k (x ∷ xs) h = let p = both (b == k) (x == k) h in (xs, λ i. eqb-true b k p.0 i ∷ eqb-true x k p.1 i ∷ xs)

single_put : (b k : ℕ) (bs : List ℕ) (sign : ConstraintPart) (parts : List ConstraintPart) → (b == k) ≡ true → AreParts (k ∷ bs) (sign ∷ parts) → AreParts (b ∷ bs) (sign ∷ parts)
single_put b k bs sign parts h d = subst (λ (x : ℕ). AreParts (x ∷ bs) (sign ∷ parts)) (sym (eqb-true b k h)) d

pair_begins : (b k : ℕ) (bs : List ℕ) (sign : ConstraintPart) (step : Step) → sign_at (b ∷ bs) ≡ Some step → ◌≡◌ {A = Option Step} (Some (sign_step sign 2)) (Some step) → (b == k && is_next k bs) ≡ true
    → ((rest : List ℕ) (parts : List ConstraintPart) → AreParts rest parts → AreParts (k ∷ k ∷ rest) (sign ∷ parts)) → BeginsStep (b ∷ bs) step
pair_begins b k bs sign step e same h put =
    let p = pair b k bs h in
    begins_by (sign_step sign 2) step (b ∷ bs) e same (omega arith) (omega (arith, ap length p.1))
    (λ parts d. subst (λ (w : List ℕ). AreParts w (sign ∷ parts)) (sym p.1) (put p.0 parts (subst (λ (w : List ℕ). AreParts (drop 2 w) parts) p.1 d)))

pub step_begins : (step : Step) (text : List ℕ) → sign_at text ≡ Some step → BeginsStep text step
step_begins step [] e = absurd (cc)
step_begins step (b ∷ bs) e =
    elim (cond_case (is_blank b) _ _ step e) [
      | inl h ↦ begins_by blank_step step (b ∷ bs) e h.1 (omega arith) (omega arith) (λ parts d. blank h.0 d)
      | inr h ↦ elim (cond_case (b == 33) _ _ step h.1) [
        | inl h ↦ begins_by (sign_step part.Not 1) step (b ∷ bs) e h.1 (omega arith) (omega arith) (λ parts d. single_put b 33 bs part.Not parts h.0 (not_sign d))
        | inr h ↦ elim (cond_case (b == 40) _ _ step h.1) [
          | inl h ↦ begins_by (sign_step part.Open 1) step (b ∷ bs) e h.1 (omega arith) (omega arith) (λ parts d. single_put b 40 bs part.Open parts h.0 (open_sign d))
          | inr h ↦ elim (cond_case (b == 41) _ _ step h.1) [
            | inl h ↦ begins_by (sign_step part.Close 1) step (b ∷ bs) e h.1 (omega arith) (omega arith) (λ parts d. single_put b 41 bs part.Close parts h.0 (close_sign d))
            | inr h ↦ elim (cond_case (b == 124 && is_next 124 bs) _ _ step h.1) [
              | inl h ↦ pair_begins b 124 bs part.Or step e h.1 h.0 (λ rest parts d. or_sign d)
              | inr h ↦ elim (cond_case (b == 38 && is_next 38 bs) _ _ step h.1) [
                | inl h ↦ pair_begins b 38 bs part.And step e h.1 h.0 (λ rest parts d. and_sign d)
                | inr h ↦ absurd (cc)
              ]
            ]
          ]
        ]
      ]
    ]

-- a text without a sign in prefix begins with a tag
tag_taken : {text : List ℕ} {all : List ConstraintPart} → AreParts text all → (name rest : List ℕ) → sign_at text ≡ None → text ≢ [] → IsRun is_tag_character name rest → text ≡ name ++ rest
    → (name ≢ []) × ((parts : List ConstraintPart) × (all ≡ part.Tag name ∷ parts) × AreParts rest parts)
tag_taken no_part name rest none some run e = absurd (some refl)
tag_taken (blank {b = b} {text = text} h d) name rest none some run e = let sign = blank_sign b text h in absurd (cc)
tag_taken (or_sign d) name rest none some run e = absurd (cc)
tag_taken (and_sign d) name rest none some run e = absurd (cc)
tag_taken (not_sign d) name rest none some run e = absurd (cc)
tag_taken (open_sign d) name rest none some run e = absurd (cc)
tag_taken (close_sign d) name rest none some run e = absurd (cc)
tag_taken (tag {name = own} {text = text} {parts = parts} full run2 d) name rest none some run e =
    let same = run_once is_tag_character own text name rest run2 run e in
    ((λ empty. full (same.0 ∙ empty)), (parts, ap (λ (w : List ℕ). part.Tag w ∷ parts) same.0, subst (λ (w : List ℕ). AreParts w parts) same.1 d))

pub no_tag : (text : List ℕ) (n : ℕ) → n ≡ 0 → sign_at text ≡ None → text ≢ [] → IsRun is_tag_character (take n text) (drop n text) → (all : List ConstraintPart) → AreParts text all → ⊥
no_tag text n zero_is none some run all d =
    let run0 : IsRun is_tag_character [] text = subst (λ (m : ℕ). IsRun is_tag_character (take m text) (drop m text)) zero_is run in
    (tag_taken d [] text none some run0 refl).0 refl

pub tag_begins : (text : List ℕ) (n : ℕ) → 0 < n → n ≤ length text → sign_at text ≡ None → text ≢ [] → IsRun is_tag_character (take n text) (drop n text) → (name : List ℕ) → name ≡ take n text
    → BeginsStep text (record { part = Some (part.Tag name); len = n })
tag_begins text n positive within none some run name is =
    subst (λ (w : List ℕ). BeginsStep text (record { part = Some (part.Tag w); len = n })) (sym is) (record {
      some = positive;
      within = within;
      put = λ parts d. subst (λ (w : List ℕ). AreParts w (part.Tag (take n text) ∷ parts)) (take-append-drop n text)
          (tag (λ empty. omega (arith, positive, ap length empty, length_take n text within)) run d);
      taken = λ all d. (tag_taken d (take n text) (drop n text) none some run (sym (take-append-drop n text))).1;
    })

no_front : (name text : List ℕ) → name ++ text ≡ [] → name ≡ []
no_front [] text e = refl
no_front (x ∷ xs) text e = absurd (cc)

-- however the rest is cut, the parts so far come before those of the rest
pub record Cutting (text : List ℕ) (parts : List ConstraintPart) (at : ℕ) : Type 0 where
  pub within : at ≤ length text
  pub put : (rest : List ConstraintPart) → AreParts (drop at text) rest → AreParts text (parts ++ rest)
  pub taken : (all : List ConstraintPart) → AreParts text all → (rest : List ConstraintPart) × (all ≡ parts ++ rest) × AreParts (drop at text) rest

pub cutting_none : (text : List ℕ) → Cutting text [] 0
cutting_none text = record { within = omega arith; put = λ rest d. d; taken = λ all d. (all, refl, d) }

onto_append : (parts : List ConstraintPart) (first : Option ConstraintPart) (rest : List ConstraintPart) → parts ++ onto first rest ≡ (parts ++ onto first []) ++ rest
onto_append parts None rest = ap (λ w. w ++ rest) (sym (append-nil parts))
onto_append parts (Some x) rest = sym (append_assoc parts (x ∷ []) rest)

pub cutting_more : (text : List ℕ) (parts : List ConstraintPart) (at : ℕ) (step : Step) → Cutting text parts at → BeginsStep (drop at text) step → Cutting text (parts ++ onto step.part []) (at + step.len)
cutting_more text parts at step cut begins = record {
  within = omega (arith, begins.within, cut.within, length-drop at text);
  put = λ rest d.
      subst (AreParts text) (onto_append parts step.part rest)
      (cut.put (onto step.part rest) (begins.put rest (subst (λ (w : List ℕ). AreParts w rest) (sym (drop-drop step.len at text)) d)));
  taken = λ all d.
      let before = cut.taken all d in
      let later = begins.taken before.0 before.2 in
      (later.0, before.1 ∙ ap (λ w. parts ++ w) later.1 ∙ onto_append parts step.part later.0, subst (λ (w : List ℕ). AreParts w later.0) (drop-drop step.len at text) later.2);
}

pub cutting_done : (text : List ℕ) (parts : List ConstraintPart) (at : ℕ) → Cutting text parts at → length text ≤ at → AreParts text parts
cutting_done text parts at cut done =
    subst (AreParts text) (append-nil parts) (cut.put [] (subst (λ (w : List ℕ). AreParts w []) (sym (drop_past at text done)) no_part))

-- where the rest has no parts, the text has none
pub cutting_fails : (text : List ℕ) (parts : List ConstraintPart) (at : ℕ) → Cutting text parts at → ((rest : List ConstraintPart) → AreParts (drop at text) rest → ⊥) → (all : List ConstraintPart) → AreParts text all → ⊥
cutting_fails text parts at cut none all d = let later = cut.taken all d in none later.0 later.2

nothing : {text : List ℕ} {all : List ConstraintPart} → AreParts text all → text ≡ [] → [] ≡ all
nothing no_part e = refl
nothing (blank h d) e = absurd (cc)
nothing (or_sign d) e = absurd (cc)
nothing (and_sign d) e = absurd (cc)
nothing (not_sign d) e = absurd (cc)
nothing (open_sign d) e = absurd (cc)
nothing (close_sign d) e = absurd (cc)
nothing (tag {name = name} {text = text} some run d) e = absurd (some (no_front name text e))

-- a text has one list of parts
pub parts_once : {text : List ℕ} {parts : List ConstraintPart} → AreParts text parts → (more : List ConstraintPart) → AreParts text more → parts ≡ more
parts_once no_part more f = nothing f refl
parts_once (blank {b = b} {text = text} h d) more f = let t = step_taken blank_step f (blank_sign b text h) in parts_once d t.0 t.2 ∙ sym t.1
parts_once (or_sign d) more f = let t = step_taken (sign_step part.Or 2) f refl in ap (λ w. part.Or ∷ w) (parts_once d t.0 t.2) ∙ sym t.1
parts_once (and_sign d) more f = let t = step_taken (sign_step part.And 2) f refl in ap (λ w. part.And ∷ w) (parts_once d t.0 t.2) ∙ sym t.1
parts_once (not_sign d) more f = let t = step_taken (sign_step part.Not 1) f refl in ap (λ w. part.Not ∷ w) (parts_once d t.0 t.2) ∙ sym t.1
parts_once (open_sign d) more f = let t = step_taken (sign_step part.Open 1) f refl in ap (λ w. part.Open ∷ w) (parts_once d t.0 t.2) ∙ sym t.1
parts_once (close_sign d) more f = let t = step_taken (sign_step part.Close 1) f refl in ap (λ w. part.Close ∷ w) (parts_once d t.0 t.2) ∙ sym t.1
parts_once (tag {name = name} {text = text} some run d) more f =
    let t = tag_taken f name text (tag_no_sign name text some run) (λ empty. some (no_front name text empty)) run refl in
    ap (λ w. part.Tag name ∷ w) (parts_once d t.1.0 t.1.2) ∙ sym t.1.1
