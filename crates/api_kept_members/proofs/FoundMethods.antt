-- Methods that selectors find from types of an owned pair whose method sets are compared.
use Rattle.std.proofs.Common.{◌≡◌, inr, ℕ, Bool, true, false, ◌||◌, List, refl, sym, ap, subst, Option}
use Rattle.go_base.specs.Lists.{Has}
use Rattle.go_model.specs.declared.types.names.Sel.{Sel}
use Rattle.go_model.specs.declared.types.names.TypeName.{TypeName}
use Rattle.go_model.specs.declared.types.term.Signature.{Signature}
use Rattle.go_model.specs.declared.types.term.Term.{Term}
use Rattle.go_model.specs.types.MethodSets.{InSet, Reaches}
use Rattle.go_model.specs.types.Selectors.{Ending, IsOnly, Spot, Target, ends, is_defined_pointer, method}
use Rattle.go_model.specs.types.Tables.{Table}
use Rattle.go_model.specs.types.Terms.{pointer_to}
use Rattle.go_model.specs.worlds.Worlds.{IsWorld, Packages}
use Rattle.go_selectors.proofs.UniqueFind.{same_ending}
use Rattle.go_type_images.specs.SpotImages.{at_spot}
use Rattle.go_type_images.specs.declared.pair.TypePair.{TypePair}
use Rattle.go_type_images.proofs.Through.{only_before, only_behind}
use Rattle.api_correspond.specs.OwnedPairs.{HoldsOwned}
use Rattle.api_correspond.specs.Publics.{IsExported, types_of}
use Rattle.api_correspond.specs.Rules.{Compatible, have_method_sets, is_std_sel}
use Rattle.api_type_images.proofs.Paired as P
use Rattle.go_type_images.specs.Parts.{function_type}
use Rattle.api_correspond.specs.Outermost.{pair}
use Rattle.api_kept_members.specs.KeptFinds.{FindsMethod, FindsStdMethod, end_at}
use Rattle.api_kept_members.proofs.DefinedPointers.{no_ends, no_item}
use Rattle.api_kept_members.proofs.Members as M
use Rattle.api_kept_members.proofs.MethodSets as S
use Rattle.api_kept_members.proofs.MethodSets.{BeginsHere}
use Rattle.api_kept_members.proofs.Sets.{begins_behind, counts_behind}

method_method : {o m : Option TypeName} {a e : Bool} {g h : Signature} → ◌≡◌ {A = Target} (method o a g) (method m e h) → a ≡ e
method_method e = cc

module _ (T : Table) (t : Term) (h : BeginsHere T t) (s : Sel) where
  -- what is found from the type is in the set of its pointer, and in its own where it can be called
  in_pointer_set : (d : ℕ) (q a : Bool) (o : Option TypeName) (g : Signature) → IsOnly T s (at_spot false t) d (end_at q (method o a g)) → InSet T (pointer_to t) s g
  in_pointer_set d q a o g x = record {
    depth = d;
    through = true;
    owner = o;
    pointer = a;
    only = subst (λ (y : Spot). IsOnly T s y d (end_at true (method o a g))) (sym (begins_behind T t h.searched)) (only_behind T s true t d (end_at q (method o a g)) x);
    counts = counts_behind T t;
    reaches = inr refl;
  }

  in_own_set : (d : ℕ) (q a : Bool) (o : Option TypeName) (g : Signature) → is_defined_pointer T t ≡ false → Reaches a q → IsOnly T s (at_spot false t) d (end_at q (method o a g)) → InSet T t s g
  in_own_set d q a o g c r x = record { depth = d; through = q; owner = o; pointer = a; only = subst (λ (y : Spot). IsOnly T s y d (end_at q (method o a g))) (sym h.at) x; counts = c; reaches = r }

  -- a method of the pointer's set is found from the type
  pub record FromPointer (g : Signature) : Type 0 where
    pub depth : ℕ
    pub through : Bool
    pub owner : Option TypeName
    pub pointer : Bool
    pub only : IsOnly T s (at_spot false t) depth (end_at through (method owner pointer g))

  from_pointer_set : (g : Signature) → InSet T (pointer_to t) s g → FromPointer g
  from_pointer_set g i =
      let f = only_before T s true t i.depth (end_at i.through (method i.owner i.pointer g)) (subst (λ (y : Spot). IsOnly T s y i.depth (end_at i.through (method i.owner i.pointer g))) (begins_behind T t h.searched) i.only) in
      let e : (f.0).target ≡ method i.owner i.pointer g = ap (λ (y : Ending). y.target) f.2 in
      record { depth = i.depth; through = (f.0).through; owner = i.owner; pointer = i.pointer; only = subst (λ y. IsOnly T s (at_spot false t) i.depth (end_at (f.0).through y)) e f.1 }

  -- and can be called where one of its own set is the same
  reaches_own : (g k : Signature) (f : FromPointer g) → InSet T t s k → Reaches f.pointer f.through
  reaches_own g k f i =
      let e = same_ending T s (at_spot false t) f.depth i.depth (end_at f.through (method f.owner f.pointer g)) (end_at i.through (method i.owner i.pointer k)) f.only (subst (λ (y : Spot). IsOnly T s y i.depth (end_at i.through (method i.owner i.pointer k))) h.at i.only) in
      let p : f.pointer ≡ i.pointer = method_method (ap (λ (y : Ending). y.target) e) in
      let q : f.through ≡ i.through = ap (λ (y : Ending). y.through) e in
      subst (λ a. Reaches a f.through) (sym p) (subst (λ b. Reaches i.pointer b) (sym q) i.reaches)

module _ (old new : Packages) (pairs : List TypePair) (H : HoldsOwned old new pairs) (C : Compatible old new) (i : IsWorld old) (j : IsWorld new) where
  abbrev T : Table
  T = types_of old

  abbrev U : Table
  U = types_of new

  abbrev signature_to : Signature → Signature
  signature_to = M.signature_to old new pairs H C

  module _ (p : TypePair) (k : Has pairs p) (h : have_method_sets old new p ≡ true) (s : Sel) (g v : Signature) (Extra : Type 0) (pointer_kept : InSet T (pointer_to p.old) s g → InSet U (pointer_to p.new) s v × Extra) (own_kept : InSet T p.old s g → InSet U p.new s v) where
    reaches_by : (b q k : Bool) (a e : Bool) (z : Bool) → (b || q) ≡ z → (Reaches a q → Reaches e k) → Reaches a z → Reaches e (b || k)
    reaches_by true q l a e z w f r = inr refl
    reaches_by false q l a e z w f r = f (subst (Reaches a) (sym w) r)

    abbrev FindsIt : Bool → Bool → Bool → Type 0
    FindsIt b a q = (depth : ℕ) × (behind : Bool) × (owner : Option TypeName) × (by_pointer : Bool) × IsOnly U s (at_spot b p.new) depth (end_at behind (method owner by_pointer v)) × (Reaches a q → Reaches by_pointer behind) × Extra

    with_starts : (c : is_defined_pointer T p.old ≡ false) (B : BeginsHere T p.old) (D : BeginsHere U p.new) (b q a : Bool) (d : ℕ) (o : Option TypeName) → IsOnly T s (at_spot b p.old) d (end_at q (method o a g)) → FindsIt b a q
    with_starts c B D b q a d o y =
        let f = only_before T s b p.old d (end_at q (method o a g)) y in
        let target : (f.0).target ≡ method o a g = ap (λ (z : Ending). z.target) f.2 in
        let through : (b || (f.0).through) ≡ q = ap (λ (z : Ending). z.through) f.2 in
        let only = subst (λ z. IsOnly T s (at_spot false p.old) d (end_at (f.0).through z)) target f.1 in
        let n = pointer_kept (in_pointer_set T p.old B s d (f.0).through a o g only) in
        let w = from_pointer_set U p.new D s v n.0 in
        let reaches : Reaches a (f.0).through → Reaches w.pointer w.through = λ r. reaches_own U p.new D s v v w (own_kept (in_own_set T p.old B s d (f.0).through a o g c r only)) in
        (w.depth, b || w.through, w.owner, w.pointer, only_behind U s b p.new w.depth (end_at w.through (method w.owner w.pointer v)) w.only, reaches_by b (f.0).through w.through a w.pointer q through reaches, n.1)

    -- a method is found from the new type, and can be called where it could; from a defined pointer type none is
    found_kept : (b q a : Bool) (d : ℕ) (o : Option TypeName) → IsOnly T s (at_spot b p.old) d (end_at q (method o a g)) → FindsIt b a q
    found_kept b q a d o y = by (is_defined_pointer T p.old) refl
      where
        by : (c : Bool) → is_defined_pointer T p.old ≡ c → FindsIt b a q
        by true e = absurd (no_item (ends T s d (at_spot b p.old)) (end_at q (method o a g)) (no_ends old i p.old e s b d) y.only)
        by false e = let z = S.begins old new pairs H C i j p k h e in with_starts e z.0 z.1 b q a d o y

  module _ (p : TypePair) (k : Has pairs p) (h : have_method_sets old new p ≡ true) (s : Sel) where
    -- an exported method with the image as signature
    pub found_method : IsExported s → (b q a : Bool) (d : ℕ) (o : Option TypeName) (g : Signature) → IsOnly T s (at_spot b p.old) d (end_at q (method o a g)) → FindsMethod new pairs s b p.new a q g
    found_method x b q a d o g y = found_kept p k h s g (signature_to g) (Has pairs (pair (function_type g) (function_type (signature_to g))))
        (λ z. M.pointer_method old new pairs H C p k (S.members old new pairs H C p h) h (S.no_interfaces old new pairs H C p h).0 (S.no_interfaces old new pairs H C p h).1 s g x z)
        (λ z. S.method_set old new pairs H C i j p k h s g x z) b q a d o y

    -- an unexported one of the standard library with its own
    pub found_std_method : is_std_sel old s ≡ true → (b q a : Bool) (d : ℕ) (o : Option TypeName) (g : Signature) → IsOnly T s (at_spot b p.old) d (end_at q (method o a g)) → FindsStdMethod new s b p.new a q g
    found_std_method x b q a d o g y =
        let f = found_kept p k h s g g (Unit {0})
        (λ z. let n = (P.keeps old new pairs H C p k).0.pointer_sets s g (record { sets = h; counts = inr x; there = z }) in (subst (λ v. InSet U (pointer_to p.new) s v) (n.2 x) n.1, tt))
        (λ z. let n = (P.keeps old new pairs H C p k).0.method_sets s g (record { sets = h; counts = inr x; there = z }) in subst (λ v. InSet U p.new s v) (n.2 x) n.1) b q a d o y in
        (f.0, f.1, f.2, f.3, f.4, f.5)
