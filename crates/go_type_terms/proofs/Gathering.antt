-- Methods gathered under their selectors, one after another.
use Rattle.std.proofs.Common.{◌≡◌, Bool, true, false, cond, ◌⊎◌, inl, inr, List, [], ◌∷◌, map, refl, sym, ap, ◌∙◌, subst, Option, Some, None, ℕ, ◌+◌, ◌<◌, ◌≤◌, length, get_or, drop}
use Rattle.std.proofs.lemmas.List.{drop_all}
use mathlib.Core.Bool.{true≢false}
use Rattle.std.specs.BTreeMap.{insert_entry, is_at}
use Rattle.std.specs.List.{AllByRecursion}
use Rattle.std.specs.List.Sorted.{IsStrictlySortedBy}
use Rattle.std.specs.Map.{lookup, values_of}
use Rattle.std.specs.Ordering.{is_eq, match_ordering}
use Rattle.std.specs.Prelude.{◌↔◌}
use Rattle.std.specs.declared.cmp.Ordering.{Ordering}
use Rattle.std.specs.declared.cmp.Ordering.TheVariants.{Less, Equal, Greater}
use Rattle.go_base.specs.Lists.{Has as In}
use Rattle.go_model.specs.declared.types.names.Sel.{Sel}
use Rattle.go_model.specs.declared.types.term.Method.{Method, out-Method, roll-Method, roll-out-Method}
use Rattle.go_model.specs.declared.types.term.Signature.{Signature}
use Rattle.go_model.specs.types.MethodSets.{method_sel, sel_order}
use Rattle.go_rules.proofs.OneName.{one_some}
use Rattle.go_usability.proofs.go_selectors_proofs.Noting.{eq_same, sel_is, sel_self}
use Rattle.go_type_terms.specs.inner.Gathered.{AreKeyed, Clashes, Entries, Notes, Takes}
use Rattle.go_type_terms.proofs.Gone.{next_of}

same_method : (m n : Method) → (out-Method m).sel ≡ (out-Method n).sel → (out-Method m).signature ≡ (out-Method n).signature → m ≡ n
same_method m n i j = sym (roll-out-Method m) ∙ ap (λ (s : Sel). roll-Method (record { sel = s; signature = (out-Method m).signature })) i ∙ ap (λ (g : Signature). roll-Method (record { sel = (out-Method n).sel; signature = g })) j ∙ roll-out-Method n

same_key : (a b : Sel) → is_eq (sel_order a b) ≡ true → a ≡ b
same_key a b e = sel_is a b (sym (eq_same a b) ∙ e)

self_key : (a : Sel) → is_eq (sel_order a a) ≡ true
self_key a = eq_same a a ∙ sel_self a

-- the method under a selector
abbrev at_sel : Sel → Entries → Option Method
at_sel s es = lookup (is_at (sel_order s)) es

head_key : (e : Sel × Method) (es : Entries) → AreKeyed (e ∷ es) → method_sel e.1 ≡ e.0
head_key e es k = cc

tail_keys : (e : Sel × Method) (es : Entries) → AreKeyed (e ∷ es) → AreKeyed es
tail_keys e es k = cc

known_by : (s : Sel) (x : Sel × Method) (es : Entries) (m : Method) (t : Bool) → is_eq (sel_order s x.0) ≡ t → AreKeyed (x ∷ es) → (at_sel s es ≡ Some m → In (values_of es) m × (method_sel m ≡ s))
    → cond t (Some x.1) (lookup (is_at (sel_order s)) es) ≡ Some m → In (values_of (x ∷ es)) m × (method_sel m ≡ s)
known_by s x es m true h k rest e =
    let same : x.1 ≡ m = one_some e in
    (inl same, ap method_sel (sym same) ∙ head_key x es k ∙ sym (same_key s x.0 h))
known_by s x es m false h k rest e = let r = rest e in (inr r.0, r.1)

known_is : (s : Sel) (es : Entries) (m : Method) → AreKeyed es → at_sel s es ≡ Some m → In (values_of es) m × (method_sel m ≡ s)
known_is s [] m k e = absurd (cc)
known_is s (x ∷ es) m k e = known_by s x es m (is_eq (sel_order s x.0)) refl k (known_is s es m (tail_keys x es k)) e

-- ---- a new method

keyed_by : (s : Sel) (b : Method) (x : Sel × Method) (es more : Entries) (o : Ordering) → sel_order s x.0 ≡ o → method_sel b ≡ s → AreKeyed (x ∷ es) → AreKeyed more → AreKeyed (match_ordering o ((s, b) ∷ x ∷ es) ((x.0, b) ∷ es) (x ∷ more))
keyed_by s b x es more Less e here k rest = λ i. here i ∷ k i
keyed_by s b x es more Equal e here k rest = let same : method_sel b ≡ x.0 = here ∙ same_key s x.0 (ap is_eq e) in let tail = tail_keys x es k in λ i. same i ∷ tail i
keyed_by s b x es more Greater e here k rest = let same = head_key x es k in λ i. same i ∷ rest i

keyed_new : (s : Sel) (b : Method) (es : Entries) → method_sel b ≡ s → AreKeyed es → AreKeyed (insert_entry sel_order es s b)
keyed_new s b [] here k = λ i. here i ∷ []
keyed_new s b (x ∷ es) here k = keyed_by s b x es (insert_entry sel_order es s b) (sel_order s x.0) refl here k (keyed_new s b es here (tail_keys x es k))

-- what is under no selector of many is not under one of them
absent_rest : (s : Sel) (x : Sel × Method) (es : Entries) (t : Bool) → t ≡ false → cond t (Some x.1) (lookup (is_at (sel_order s)) es) ≡ None → at_sel s es ≡ None
absent_rest s x es true e h = absurd (true≢false e)
absent_rest s x es false e h = h

absent_here : (s : Sel) (x : Sel × Method) (es : Entries) (t : Bool) → t ≡ true → cond t (Some x.1) (lookup (is_at (sel_order s)) es) ≡ None → ⊥
absent_here s x es true e h = absurd (cc)
absent_here s x es false e h = true≢false (sym e)

abbrev Joins : Method → Entries → Entries → Method → Type 0
Joins b old new m = (In (values_of new) m → (b ≡ m) ⊎ In (values_of old) m) × ((b ≡ m) ⊎ In (values_of old) m → In (values_of new) m)

has_by : (s : Sel) (b : Method) (x : Sel × Method) (es more : Entries) (m : Method) (o : Ordering) → sel_order s x.0 ≡ o → at_sel s (x ∷ es) ≡ None → (at_sel s es ≡ None → Joins b es more m)
    → Joins b (x ∷ es) (match_ordering o ((s, b) ∷ x ∷ es) ((x.0, b) ∷ es) (x ∷ more)) m
has_by s b x es more m Less e none rest = (λ h. h, λ h. h)
has_by s b x es more m Equal e none rest = absurd (absent_here s x es (is_eq (sel_order s x.0)) (ap is_eq e) none)
has_by s b x es more m Greater e none rest =
    let r = rest (absent_rest s x es (is_eq (sel_order s x.0)) (ap is_eq e) none) in (
      λ h. elim h [ inl i ↦ inr (inl i) | inr j ↦ elim (r.0 j) [ inl i ↦ inl i | inr k ↦ inr (inr k) ] ],
      λ h. elim h [ inl i ↦ inr (r.1 (inl i)) | inr j ↦ elim j [ inl i ↦ inl i | inr k ↦ inr (r.1 (inr k)) ] ],
    )

has_new : (s : Sel) (b : Method) (es : Entries) (m : Method) → at_sel s es ≡ None → Joins b es (insert_entry sel_order es s b) m
has_new s b [] m none = (λ h. h, λ h. h)
has_new s b (x ∷ es) m none = has_by s b x es (insert_entry sel_order es s b) m (sel_order s x.0) refl none (has_new s b es m)

pub notes_new : (s : Sel) (b m : Method) (old new : Entries) → s ≡ method_sel m → b ≡ m → AreKeyed old → at_sel (method_sel m) old ≡ None → new ≡ insert_entry sel_order old s b → Notes old new m true
notes_new s b m old new e f k none i =
    let absent : at_sel s old ≡ None = ap (λ t. at_sel t old) e ∙ none in
    subst (λ (w : Entries). Notes old w m true) (sym (i ∙ ap (insert_entry sel_order old s) f)) (keyed_new s m old (sym e) k, λ x. has_new s m old x absent)

-- the method that is noted under the selector is this one, or another one
known_as : (old : Entries) (m x : Method) (same : Bool) → AreKeyed old → In (values_of old) x → method_sel x ≡ method_sel m → (same ≡ true → x ≡ m) → (x ≡ m → same ≡ true) → Notes old old m same
known_as old m x true k at e to from = (k, λ y. (λ h. inr h, λ h. elim h [ inl i ↦ subst (In (values_of old)) (to refl ∙ i) at | inr j ↦ j ]))
known_as old m x false k at e to from = (x, at, e, λ i. true≢false (sym (from i)))

pub notes_known : (old : Entries) (m x : Method) (same : Bool) → AreKeyed old → Some x ≡ at_sel (method_sel m) old → ((same ≡ true) ↔ ((out-Method x).signature ≡ (out-Method m).signature)) → Notes old old m same
notes_known old m x same k e d =
    let at = known_is (method_sel m) old x k (sym e) in
    known_as old m x same k at.0 at.1 (λ h. same_method x m at.1 (d.0 h)) (λ h. d.1 (ap (λ (y : Method). (out-Method y).signature) h))

-- ---- methods one after another

-- the methods that were taken, and those that are left
pub record Taking (all rest : List Method) (old es : Entries) : Type 0 where
  pub keyed : AreKeyed es
  pub among : (m : Method) → In (values_of es) m → In all m ⊎ In (values_of old) m
  pub kept : (m : Method) → In (values_of old) m → In (values_of es) m
  pub ahead : (m : Method) → In rest m → In all m
  pub left : (m : Method) → In all m → In (values_of es) m ⊎ In rest m

pub none_taken : (all : List Method) (es : Entries) → AreKeyed es → Taking all all es es
none_taken all es k = record { keyed = k; among = λ m h. inr h; kept = λ m h. h; ahead = λ m h. h; left = λ m h. inr h }

one_more : (all rest : List Method) (m : Method) (old es new : Entries) → Taking all (m ∷ rest) old es → Notes es new m true → Taking all rest old new
one_more all rest m old es new t h = record {
  keyed = h.0;
  among = λ x i. elim ((h.1 x).0 i) [ inl e ↦ inl (t.ahead x (inl e)) | inr j ↦ t.among x j ];
  kept = λ x i. (h.1 x).1 (inr (t.kept x i));
  ahead = λ x i. t.ahead x (inr i);
  left = λ x i. elim (t.left x i) [
    | inl j ↦ inl ((h.1 x).1 (inr j))
    | inr r ↦ elim r [ inl e ↦ inl ((h.1 x).1 (inl e)) | inr j ↦ inr j ]
  ];
}

all_taken : (all : List Method) (old es : Entries) → Taking all [] old es → Takes old es all
all_taken all old es t = (t.keyed, λ x. (t.among x, λ h. elim h [ inl i ↦ elim (t.left x i) [ inl j ↦ j | inr k ↦ absurd k ] | inr i ↦ t.kept x i ]))

one_clash : (all rest : List Method) (m : Method) (old es new : Entries) → Taking all (m ∷ rest) old es → Notes es new m false → Clashes old all
one_clash all rest m old es new t h = (h.0, m, t.among h.0 h.1, t.ahead m (inl refl), h.2, h.3)

pub taking_next : (all : List Method) (at : ℕ) (m : Method) (old es new : Entries) (more : Bool) → at < length all → m ≡ get_or all at m → Taking all (drop at all) old es → Notes es new m more → more ≡ true → Taking all (drop (at + 1) all) old new
taking_next all at m old es new more h e t k i =
    one_more all (drop (at + 1) all) m old es new (subst (λ (r : List Method). Taking all r old es) (next_of all at m h e) t) (subst (Notes es new m) i k)

pub taking_clash : (all : List Method) (at : ℕ) (m : Method) (old es new : Entries) (more : Bool) → at < length all → m ≡ get_or all at m → Taking all (drop at all) old es → Notes es new m more → more ≡ false → Clashes old all
taking_clash all at m old es new more h e t k i =
    one_clash all (drop (at + 1) all) m old es new (subst (λ (r : List Method). Taking all r old es) (next_of all at m h e) t) (subst (Notes es new m) i k)

pub taking_end : (all : List Method) (at : ℕ) (old es : Entries) → length all ≤ at → Taking all (drop at all) old es → Takes old es all
taking_end all at old es h t = all_taken all old es (subst (λ (r : List Method). Taking all r old es) (drop_all at all h) t)

-- two methods of one selector are one where each selector stands once
before : (s : Sel) (ms : List Method) (m : Method) → AllByRecursion (λ y. sel_order s y ≡ Less) (map method_sel ms) → In ms m → sel_order s (method_sel m) ≡ Less
before s [] m h k = absurd k
before s (n ∷ ms) m h (inl e) = subst (λ (x : Method). sel_order s (method_sel x) ≡ Less) e h.0
before s (n ∷ ms) m h (inr k) = before s ms m h.1 k

not_before : (a b : Sel) → a ≡ b → sel_order a b ≡ Less → ⊥
not_before a b e h =
    let same : is_eq (sel_order a b) ≡ true = ap (λ x. is_eq (sel_order a x)) (sym e) ∙ self_key a in
    true≢false (sym same ∙ ap is_eq h)

pub one_of : (ms : List Method) (a b : Method) → IsStrictlySortedBy sel_order (map method_sel ms) → In ms a → In ms b → method_sel a ≡ method_sel b → a ≡ b
unfolding IsStrictlySortedBy
one_of [] a b h i j e = absurd i
one_of (m ∷ ms) a b h (inl i) (inl j) e = sym i ∙ j
one_of (m ∷ ms) a b h (inl i) (inr j) e = absurd (not_before (method_sel m) (method_sel b) (ap method_sel i ∙ e) (before (method_sel m) ms b h.0 j))
one_of (m ∷ ms) a b h (inr i) (inl j) e = absurd (not_before (method_sel m) (method_sel a) (ap method_sel j ∙ sym e) (before (method_sel m) ms a h.0 i))
one_of (m ∷ ms) a b h (inr i) (inr j) e = one_of ms a b h.1 i j e
