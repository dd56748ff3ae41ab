-- How `Shared` holds its value, which lets a type reach itself through it.
use mathlib.Core.Path.{refl}
use mathlib.Core.Former.{Former, this, const, pair, via}
use base.Stored.{gnil}
use base.Fml.{ftrue}
use denote.RattleType.{RattleType}
use denote.Memory.{part_of}
use denote.RawPtr.{Ptr}
use denote.Sharing.{nothing}
use denote.HoleLaws.{Alike}
use denote.HolePlaces.{Recodes, struct_places, laid, one_value}
use denote.Hole.Fix.{over}
use denote.Param.Weighed.{Weighed}
use denote.Model.Placed.{view_places}
use Rattle.std.specs.declared.sync.Arc.{Arc}
use Rattle.std.specs.contracts.sync.Arc as arc
use Rattle.std.specs.declared.alloc.Global.{Global}
use Rattle.std.specs.contracts.alloc.Global as global
use Rattle.std.specs.contracts.impls.GlobalAllocator.TheImpl.{ghosts}
use Rattle.go_base.specs.declared.shared.Shared.TheInside.{Inside}
use Rattle.go_base.specs.declared.shared.Shared.TheView.{view, invariant}
use Rattle.go_base.specs.contracts.shared.Shared as outer
use Rattle.go_base.specs.contracts.shared.Shared.TheInside as inner

abbrev pub the_former : Former {0} → Former {0}
the_former held = held

abbrev pub the_weighed : {held : Former {0}} → Weighed held → Weighed (the_former held)
the_weighed weight = weight

-- the one field is std's counted owner: the address of the block, and the value
abbrev field : Former {0}
field = via (pair (const Ptr) this) Inside (λ A b. (b.inner.ptr, b.inner.value))
    (λ A v. record { inner = record { ptr = v.0; value = v.1 } }) (λ A b. refl) (λ A v. refl)

abbrev with_value : {A B : Type 0} → Arc A Global → B → Arc B Global
with_value b value = record { ptr = b.ptr; value = value }

abbrev arc_of : RattleType → RattleType
arc_of R = arc.the_row R global.the_row ghosts

module _ (R S : RattleType) (change : R.Denot → S.Denot) where
  arc_places : Alike R S change → Alike (arc_of R) (arc_of S) (λ b. with_value b (change b.value))
  unfolding part_of
  arc_places alike = record {
    mir_same = λ i. (arc_of (one_value R (alike.mir_same i) (λ _. ftrue) (λ _ _. nothing) gnil)).mir;
    own_same = λ b i. (arc_of (one_value R (alike.mir_same i) (alike.own_same b.value i) (alike.shr_same b.value i) gnil)).own_val (with_value b tt);
    shr_same = λ b i. (arc_of (one_value R (alike.mir_same i) (alike.own_same b.value i) (alike.shr_same b.value i) gnil)).shr_at (with_value b tt);
  }

  pub the_places : Alike R S change → Alike (outer.the_row R) (outer.the_row S) ((the_former this).map R.Denot S.Denot change)
  the_places alike =
      view_places field this view (λ A B f u. refl) (λ A u. refl) R.Denot S.Denot change (outer.the_row R).coded (outer.the_row S).coded
      (invariant R.Denot) (invariant S.Denot) (λ u p q. refl) (λ u p q. refl) (λ u e. tt) (λ u e. tt)
      (over (inner.the_row R)) (over (inner.the_row S))
      (struct_places (inner.the_type R) (inner.the_type S) ((λ b. with_value b (change b.value)), tt) _ (λ b. refl) refl (laid _ _ _ (arc_places alike), tt))

  pub the_codes_placed : Recodes R S change → Recodes (outer.the_row R) (outer.the_row S) ((the_former this).map R.Denot S.Denot change)
  the_codes_placed same b = same b
