use Rattle.std.proofs.Common.{◌≡◌, take}
use Rattle.go_selectors.proofs.identity.+identical.Given as goal

abbrev pub invariant-same_terms-loop-i : goal.invariant-same_terms-loop-i
invariant-same_terms-loop-i l = take l.i l.left ≡ take l.i l.right

abbrev pub invariant-same_fields-loop-i : goal.invariant-same_fields-loop-i
invariant-same_fields-loop-i l = take l.i l.left ≡ take l.i l.right

abbrev pub invariant-same_methods-loop-i : goal.invariant-same_methods-loop-i
invariant-same_methods-loop-i l = take l.i l.left ≡ take l.i l.right
