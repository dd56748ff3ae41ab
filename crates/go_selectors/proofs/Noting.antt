-- The candidate of each selector, path by path.
use Rattle.std.proofs.Common.{◌≡◌, ◌<◌, ◌+◌, ℕ, Bool, true, false, ◌&&◌, List, [], ◌∷◌, ◌++◌, length, take, get_or, refl, sym, ap, ◌∙◌, subst, Option, Some, None, if◌then◌else◌, nat_eq, append-nil}
use mathlib.Core.Bool.{true≢false}
use Rattle.std.specs.Str.{bytes_eq}
use Rattle.std.specs.Ordering.{is_eq, ordering_then, nat_cmp}
use Rattle.std.specs.declared.cmp.Ordering.{Ordering}
use Rattle.std.specs.declared.cmp.Ordering.TheVariants.{Less, Equal, Greater}
use Rattle.std.specs.Cmp.{unsigned_Decides}
use Rattle.std.specs.Cmp.Lexicographic.{slice_cmp}
use Rattle.std.specs.BTreeMap.{Updates, is_at}
use Rattle.std.specs.Map.{lookup}
use Rattle.std.proofs.lemmas.Map.Text.{is_eq-slice_cmp}
use Rattle.std.proofs.lemmas.Slice.Eq.{bytes_eq-Decides}
use Rattle.go_base.specs.Gathered.{gather}
use Rattle.go_model.specs.types.Terms.{same_sel}
use Rattle.go_model.specs.types.Tables.{Table}
use Rattle.go_model.specs.types.Underlying.{under, fields_of, methods_of, declared_methods}
use Rattle.go_model.specs.types.Selectors.{Spot, Ending, name_of, field_ending, declared_ending, method_ending, endings}
use Rattle.go_model.specs.declared.types.package.MethodOf.{MethodOf}
use Rattle.go_model.specs.declared.types.term.Term.{out-Term}
use Rattle.go_model.specs.declared.types.term.Field.{Field}
use Rattle.go_model.specs.declared.types.term.Method.{Method}
use Rattle.go_model.specs.types.MethodSets.{sel_order}
use Rattle.go_model.specs.declared.types.names.Sel.{Sel}
use Rattle.go_model.specs.declared.types.names.TypeName.{TypeName}
use Rattle.go_model.specs.declared.types.term.Signature.{Signature}
use Rattle.go_selectors.specs.Candidates.{Candidate, Candidates, candidate_at, depth_of, noted, all_noted, called_target, Puts, Removes, NotesOne, Notes}
use Rattle.go_selectors.proofs.Lists.{gather-append, taken_next}

then_is_eq : (o p : Ordering) → is_eq (ordering_then o p) ≡ (is_eq o && is_eq p)
then_is_eq Less p = refl
then_is_eq Equal p = refl
then_is_eq Greater p = refl

-- two selectors compare equal where they are the same
pub eq_same : (a b : Sel) → is_eq (sel_order a b) ≡ same_sel a b
eq_same a b = then_is_eq (slice_cmp nat_cmp a.name b.name) (slice_cmp nat_cmp a.«package» b.«package») ∙ ap (λ x. x && is_eq (slice_cmp nat_cmp a.«package» b.«package»)) (is_eq-slice_cmp a.name b.name) ∙ ap (λ x. bytes_eq a.name b.name && x) (is_eq-slice_cmp a.«package» b.«package»)

and_both : (a b : Bool) → (a && b) ≡ true → (a ≡ true) × (b ≡ true)
and_both true b e = (refl, e)
and_both false b e = absurd (true≢false (sym e))

abbrev made : List ℕ → List ℕ → Sel
made n p = record { name = n; «package» = p }

pub sel_is : (a b : Sel) → same_sel a b ≡ true → a ≡ b
sel_is a b e =
    let h = and_both (bytes_eq a.name b.name) (bytes_eq a.«package» b.«package») e in
    ap (λ x. made x a.«package») ((bytes_eq-Decides a.name b.name).0 h.0) ∙ ap (λ x. made b.name x) ((bytes_eq-Decides a.«package» b.«package»).0 h.1)

pub no_candidate : (m : Candidates) (s : Sel) → m.entries ≡ [] → candidate_at m s ≡ None
no_candidate m s e = ap (λ es. lookup (is_at (sel_order s)) es) e

pub sel_self : (a : Sel) → same_sel a a ≡ true
sel_self a = ap (λ b. b && bytes_eq a.«package» a.«package») ((bytes_eq-Decides a.name a.name).1 refl) ∙ (bytes_eq-Decides a.«package» a.«package»).1 refl

pub puts_insert : (old new : Candidates) (k : Sel) (x : Candidate) → Updates sel_order old new k (Some x) → Puts old new k x
puts_insert old new k x u s = subst (λ (b : Bool). candidate_at new s ≡ (if b then Some x else candidate_at old s)) (eq_same k s) (u.0 s)

pub removes_at : (old new : Candidates) (k : Sel) → Updates sel_order old new k None → Removes old new k
removes_at old new k u s = subst (λ (b : Bool). candidate_at new s ≡ (if b then None else candidate_at old s)) (eq_same k s) (u.0 s)

pub nat_same : (m n : ℕ) → m ≡ n → nat_eq m n ≡ true
nat_same m n e = (unsigned_Decides m n).1 e

nat_of : (m n : ℕ) → nat_eq m n ≡ true → m ≡ n
nat_of m n e = (unsigned_Decides m n).0 e

pub nat_other : (m n : ℕ) → (m ≡ n → ⊥) → nat_eq m n ≡ false
nat_other m n f = by (nat_eq m n) refl
  where
    by : (b : Bool) → nat_eq m n ≡ b → nat_eq m n ≡ false
    by true e = absurd (f (nat_of m n e))
    by false e = e

-- the entry of a selector is told by any selector that is the same
module _ (depth : ℕ) (called : Option Signature) (old new : Candidates) (k : Sel) where
  first_as : (o : Option Candidate) → depth_of o ≡ None → Some (record { depth = depth; called = called }) ≡ noted depth called o
  first_as None e = refl
  first_as (Some x) e = absurd (cc)

  again_as : (before : ℕ) (o : Option Candidate) → depth_of o ≡ Some before → before ≡ depth → Some (record { depth = depth; called = None }) ≡ noted depth called o
  again_as before None e i = absurd (cc)
  again_as before (Some x) e i = let d : x.depth ≡ depth = cc in sym (ap (λ b. if b then Some (record { depth = depth; called = None }) else Some x) (nat_same x.depth depth d))

  later_as : (before : ℕ) (o : Option Candidate) → depth_of o ≡ Some before → (before ≡ depth → ⊥) → o ≡ noted depth called o
  later_as before None e n = absurd (cc)
  later_as before (Some x) e n = let d : x.depth ≡ before = cc in sym (ap (λ b. if b then Some (record { depth = depth; called = None }) else Some x) (nat_other x.depth depth (λ i. n (sym d ∙ i))))

  pub note_by : ((s : Sel) → same_sel k s ≡ true → candidate_at new s ≡ noted depth called (candidate_at old s)) → ((s : Sel) → same_sel k s ≡ false → candidate_at new s ≡ candidate_at old s) → NotesOne depth called old new k
  note_by f g s = by (same_sel k s) refl
    where
      by : (b : Bool) → same_sel k s ≡ b → candidate_at new s ≡ (if same_sel k s then noted depth called (candidate_at old s) else candidate_at old s)
      by true e = f s e ∙ sym (ap (λ b. if b then noted depth called (candidate_at old s) else candidate_at old s) e)
      by false e = g s e ∙ sym (ap (λ b. if b then noted depth called (candidate_at old s) else candidate_at old s) e)

  put_at : (x : Candidate) → Puts old new k x → (Some x ≡ noted depth called (candidate_at old k)) → NotesOne depth called old new k
  put_at x p e = note_by
      (λ s h. p s ∙ ap (λ b. if b then Some x else candidate_at old s) h ∙ e ∙ ap (λ w. noted depth called (candidate_at old w)) (sel_is k s h))
      (λ s h. p s ∙ ap (λ b. if b then Some x else candidate_at old s) h)

  pub note_first : candidate_at old k ≡ None → Puts old new k (record { depth = depth; called = called }) → NotesOne depth called old new k
  note_first e p = put_at _ p (first_as (candidate_at old k) (ap depth_of e))

  module _ (mid : Candidates) (y before : Candidate) (e : candidate_at old k ≡ Some before) (first : Puts old mid k y) where
    puts_again : (x : Candidate) → Puts mid new k x → Puts old new k x
    puts_again x p s = p s ∙ by (same_sel k s) (first s)
      where
        by : (b : Bool) → candidate_at mid s ≡ (if b then Some y else candidate_at old s) → (if b then Some x else candidate_at mid s) ≡ (if b then Some x else candidate_at old s)
        by true q = refl
        by false q = q

    pub note_again : before.depth ≡ depth → Puts mid new k (record { depth = depth; called = None }) → NotesOne depth called old new k
    note_again i p = put_at _ (puts_again _ p) (again_as before.depth (candidate_at old k) (ap depth_of e) i)

    pub note_later : (before.depth ≡ depth → ⊥) → Puts mid new k before → NotesOne depth called old new k
    note_later n p = put_at before (puts_again before p) (sym e ∙ later_as before.depth (candidate_at old k) (ap depth_of e) n)

-- lists of ends
pub noted_append : (depth : ℕ) (xs ys : List Ending) (o : Option Candidate) → all_noted depth (xs ++ ys) o ≡ all_noted depth ys (all_noted depth xs o)
noted_append depth [] ys o = refl
noted_append depth (x ∷ xs) ys o = noted_append depth xs ys (noted depth (called_target x.through x.target) o)

noted_one : (depth : ℕ) (b : Bool) (e : Ending) (o : Option Candidate) → (if b then noted depth (called_target e.through e.target) o else o) ≡ all_noted depth (if b then e ∷ [] else []) o
noted_one depth true e o = refl
noted_one depth false e o = refl

-- one path as a list of ends
pub notes_one : (depth : ℕ) (called : Option Signature) (old new : Candidates) (k : Sel) (e : Ending) → called ≡ called_target e.through e.target → NotesOne depth called old new k → Notes depth old new (λ s. if same_sel k s then e ∷ [] else [])
notes_one depth called old new k e i n s = n s ∙ ap (λ c. if same_sel k s then noted depth c (candidate_at old s) else candidate_at old s) i ∙ noted_one depth (same_sel k s) e (candidate_at old s)

pub notes_none : (depth : ℕ) (old : Candidates) → Notes depth old old (λ s. [])
notes_none depth old s = refl

pub notes_more : (depth : ℕ) (a b c : Candidates) (f g : Sel → List Ending) → Notes depth a b f → Notes depth b c g → Notes depth a c (λ s. f s ++ g s)
notes_more depth a b c f g m n s = n s ∙ ap (all_noted depth (g s)) (m s) ∙ sym (noted_append depth (f s) (g s) (candidate_at a s))

pub notes_next : {A : Type 0} (f : Sel → A → List Ending) (depth : ℕ) (xs : List A) (i : ℕ) (x : A) (a b c : Candidates) → i < length xs → x ≡ get_or xs i x → Notes depth a b (λ s. gather (f s) (take i xs)) → Notes depth b c (λ s. f s x) → Notes depth a c (λ s. gather (f s) (take (i + 1) xs))
notes_next f depth xs i x a b c h e m n s =
    notes_more depth a b c (λ s. gather (f s) (take i xs)) (λ s. f s x) m n s
    ∙ ap (λ w. all_noted depth w (candidate_at a s)) (sym (ap (gather (f s)) (taken_next xs i x h e) ∙ gather-append (f s) (take i xs) (x ∷ []) ∙ ap (λ w. gather (f s) (take i xs) ++ w) (append-nil (f s x))))

-- a type itself
pub notes_spot : (T : Table) (at : Spot) (depth : ℕ) (a b c d : Candidates) (fs : List Field) (ds : List MethodOf) (ms : List Method) (through : Bool) → fs ≡ fields_of (under T at.term) → ds ≡ declared_methods T (out-Term at.term) → ms ≡ methods_of (under T at.term) → through ≡ at.through → ((t : Bool) → Notes depth a b (λ s. gather (field_ending s t) fs)) → ((o : Option TypeName) → Notes depth b c (λ s. gather (declared_ending o s through) ds)) → ((t : Bool) → Notes depth c d (λ s. gather (method_ending s t) ms)) → Notes depth a d (λ s. endings T s at)
notes_spot T at depth a b c d fs ds ms through e f g h x y z =
    notes_more depth a c d (λ s. gather (field_ending s at.through) (fields_of (under T at.term)) ++ gather (declared_ending (name_of (out-Term at.term)) s at.through) (declared_methods T (out-Term at.term))) (λ s. gather (method_ending s at.through) (methods_of (under T at.term)))
    (notes_more depth a b c (λ s. gather (field_ending s at.through) (fields_of (under T at.term))) (λ s. gather (declared_ending (name_of (out-Term at.term)) s at.through) (declared_methods T (out-Term at.term)))
    (subst (λ (w : List Field). Notes depth a b (λ s. gather (field_ending s at.through) w)) e (x at.through))
    (subst (λ (w : List MethodOf). Notes depth b c (λ s. gather (declared_ending (name_of (out-Term at.term)) s at.through) w)) f (subst (λ (t : Bool). Notes depth b c (λ s. gather (declared_ending (name_of (out-Term at.term)) s t) ds)) h (y (name_of (out-Term at.term))))))
    (subst (λ (w : List Method). Notes depth c d (λ s. gather (method_ending s at.through) w)) g (z at.through))
