use Rattle.std.proofs.Common.{codes}
use Rattle.api_generator.specs.MadeTrees.{used_type}
use Rattle.api_generator.proofs.Pieces.{one_more}
use Rattle.api_generator.proofs.lines.push_type.Goals as goal

pub returns : goal.returns
returns c =
    let first = one_more c.args.out.now.items (codes "type T struct { A ") (used_type c.args.seed c.args.number) _ _ c.in_ok-extend_from_slice.ensures.items c.in_ok-push_used_type.ensures in
    let second = one_more c.args.out.now.items _ (codes "; B *") _ _ first c.in_ok-extend_from_slice-2.ensures.items in
    let third = one_more c.args.out.now.items _ (used_type c.args.seed c.args.number) _ _ second c.in_ok-push_used_type-2.ensures in
    one_more c.args.out.now.items _ (codes " }\nfunc (t T) M() int\n") _ _ third c.in_ok-extend_from_slice-3.ensures.items
