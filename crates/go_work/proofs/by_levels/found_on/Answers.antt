use denote.Param.Send.{sendable}
use denote.Ref.{NamedLft}
use Rattle.std.proofs.Common.{◌≡◌, ◌⊎◌, ℕ, List, true, length, sym, ap, subst, inl, inr, arith}
use Rattle.std.proofs.lemmas.Result.{IfOk-weaker}
use Rattle.std.specs.Prelude.{slice_index}
use Rattle.go_check.proofs.error.CheckError.TheSendSync as error
use Rattle.go_work.specs.declared.rows.Row.{Row}
use Rattle.go_work.specs.inner.Checks.{ChecksAt}
use Rattle.go_work.specs.inner.Rows.{is_ready, is_width}
use Rattle.go_work.proofs.LevelTurns.{are_found, ready}
use Rattle.go_work.proofs.Sendable.{checked_field_send, checked_send, level_sync}
use Rattle.go_work.proofs.by_levels.found_on.Goals as goal

width_is : (bits : ℕ) → (bits ≡ 32) ⊎ (bits ≡ 64) → is_width bits ≡ true
width_is bits (inl e) = ap is_width e
width_is bits (inr e) = ap is_width e

pub invariant_of-checks : goal.invariant_of-checks
invariant_of-checks g c =
    let p = c.args.plan.now in
    let r = c.args.progress.now in
    let is : c.deref.result.now ≡ r.rows.items = c.deref.ensures.value in
    record {
      width = width_is p.bits c.requires.plan.width;
      few = (let few = c.requires.plan.few in let many = c.requires.reached.many in let e = ap length is in omega (arith, few, many, e));
      ready = λ j l.
          subst (λ (rs : List Row). is_ready r.world.packages rs (slice_index c.args.numbers.now j) ≡ true) (sym is)
          (ready p c.requires.plan c.args.level r c.requires.reached c.args.numbers.now c.requires.numbers j l);
    }

pub dynamic_map-requires-send-T : goal.dynamic_map-requires-send-T
dynamic_map-requires-send-T g c κs within = let k = checked_send in let f = checked_field_send in let e = error.the_send in let h = error.the_field_send in search sendable depth 20

pub dynamic_map-requires-sync-J : goal.dynamic_map-requires-sync-J
dynamic_map-requires-sync-J g c κs within = let level = λ (a : NamedLft). level_sync a _ c.type_bounds.sync-G in search (sendable, level) depth 20

pub returns-clause-found : goal.returns-clause-found
returns-clause-found g c =
    let p = c.args.plan.now in
    let r = c.args.progress.now in
    let is : c.deref.result.now ≡ r.rows.items = c.deref.ensures.value in
    IfOk-weaker c.dynamic_map.result _ _ (λ found h.
    are_found p c.requires.plan c.args.level r c.requires.reached c.args.numbers.now c.requires.numbers found h.0
    (λ j x e. subst (λ (rs : List Row). ChecksAt p.bits r.world rs (slice_index c.args.numbers.now j) x) is (h.1 j x e))) c.dynamic_map.ensures.results
