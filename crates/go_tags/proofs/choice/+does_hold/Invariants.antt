use Rattle.std.proofs.Common.{◌≡◌, drop, map}
use Rattle.std.specs.List.{list_any, list_all}
use Rattle.go_model.specs.files.BuildValues.{holds}
use Rattle.go_tags.proofs.choice.+does_hold.Given as goal

abbrev pub decreases-does_hold : goal.decreases-does_hold
decreases-does_hold l = goal.size-does_hold l

abbrev pub invariant-loop-other : goal.invariant-loop-other
invariant-loop-other l = list_any (λ v. v) (map (holds l.platform) l.other-items) ≡ list_any (λ v. v) (map (holds l.platform) (drop l.other-index l.other-items))

abbrev pub invariant-loop-other-2 : goal.invariant-loop-other-2
invariant-loop-other-2 l = list_all (λ v. v) (map (holds l.platform) l.other-items) ≡ list_all (λ v. v) (map (holds l.platform) (drop l.other-index l.other-items))
