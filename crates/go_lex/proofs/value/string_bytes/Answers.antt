use Rattle.std.proofs.Common.{List, ℕ, ◌+◌, sym, subst}
use Rattle.go_lex.specs.inner.CharacterPrefixes.{BeginsCharacter}
use Rattle.go_lex.proofs.StringValues.{Decoded, decoded_step}
use Rattle.go_lex.proofs.value.string_bytes.Goals as goal

pub loop-c-preserved : goal.loop-c-preserved
loop-c-preserved c =
    subst (Decoded c.args.inner.now (c.loop-c.at + c.in-Some.c.len)) (sym c.in_ok-push_meaning.ensures)
    (decoded_step c.args.inner.now c.loop-c.out.items c.loop-c.at c.in-Some.c c.loop-c.invariant (subst (λ (xs : List ℕ). BeginsCharacter 34 xs c.in-Some.c) c.past.ensures c.in-Some.ensures.some))
