-- How `List` holds its items, which lets a type reach itself through it.
use mathlib.Core.Path.{◌≡◌, refl, sym}
use mathlib.Core.List.{List as Sequence, []}
use mathlib.Core.Former.{Former, this, list, via, children}
use base.Stored.{code_map}
use denote.RattleType.{RattleType}
use denote.HoleLaws.{Alike}
use denote.HolePlaces.{Recodes, struct_places, laid}
use denote.Hole.Carrier.{listed, list-listed}
use denote.Hole.Fix.{over}
use denote.Param.Weighed.{Weighed, w_list}
use denote.Model.Placed.{view_places}
use Rattle.std.specs.formers.vec.Vec as vec
use Rattle.std.specs.declared.alloc.Global.{Global}
use Rattle.std.specs.contracts.alloc.Global as global
use Rattle.std.specs.contracts.impls.GlobalAllocator.TheImpl.{ghosts}
use Rattle.go_base.specs.declared.list.List.TheInside.{Inside}
use Rattle.go_base.specs.declared.list.List.TheView.{view, invariant}
use Rattle.go_base.specs.contracts.list.List as outer
use Rattle.go_base.specs.contracts.list.List.TheInside as inner

abbrev pub the_former : Former {0} → Former {0}
the_former item = list item

abbrev pub the_weighed : {item : Former {0}} → Weighed item → Weighed (the_former item)
the_weighed weight = w_list weight

pub the_empty : Sequence ⊥
the_empty = []

abbrev pub the_items : (A : Type 0) → Sequence A → Sequence A
the_items A xs = xs

pub the_items_listed : (A : Type 0) (xs : Sequence A) → listed _ (children (the_former this) A xs) ≡ the_items A xs
the_items_listed A xs = list-listed A xs

-- the one field is a vector of the items
abbrev field : Former {0}
field = via (vec.the_former this Global) Inside (λ A l. l.items) (λ A v. record { items = v }) (λ A l. refl) (λ A v. refl)

module _ (R S : RattleType) (change : R.Denot → S.Denot) where
  pub the_places : Alike R S change → Alike (outer.the_row R) (outer.the_row S) ((the_former this).map R.Denot S.Denot change)
  the_places alike =
      view_places field (list this) view (λ A B f u. refl) (λ A u. refl) R.Denot S.Denot change (outer.the_row R).coded (outer.the_row S).coded
      (invariant R.Denot) (invariant S.Denot) (λ u p q. refl) (λ u p q. refl) (λ u e. tt) (λ u e. tt)
      (over (inner.the_row R)) (over (inner.the_row S))
      (struct_places (inner.the_type R) (inner.the_type S) (vec.mapped change, tt) _ (λ l. refl) refl (laid _ _ _ (vec.the_places global.the_row ghosts R S change alike), tt))

  pub the_codes_placed : Recodes R S change → Recodes (outer.the_row R) (outer.the_row S) ((the_former this).map R.Denot S.Denot change)
  the_codes_placed same xs = sym (code_map R.coded.code S.coded.code change (λ x. sym (same x)) xs)
