use Rattle.std.proofs.Common.{◌≡◌, List, map, sym, ap, ◌∙◌}
use Rattle.go_model.specs.declared.types.term.Term.{Term, roll-Term}
use Rattle.go_model.specs.declared.types.term.Field.{Field}
use Rattle.go_model.specs.declared.types.term.Method.{Method, roll-Method}
use Rattle.go_model.specs.declared.types.term.Signature.{Signature, out-Signature, roll-Signature, fold_out-Signature}
use Rattle.go_model.specs.types.Tags.{untagged, untagged_step, untagged_signature}
use Rattle.go_types.proofs.tags.+untagged.Goals as goal

made : (g : Signature) (ps rs : List Term) → ps ≡ map untagged (out-Signature g).params → rs ≡ map untagged (out-Signature g).results → roll-Signature (record { params = ps; variadic = (out-Signature g).variadic; results = rs }) ≡ untagged_signature g
made g ps rs p r =
    ap (λ (w : List Term). roll-Signature (record { params = w; variadic = (out-Signature g).variadic; results = rs })) p
    ∙ ap (λ (w : List Term). roll-Signature (record { params = map untagged (out-Signature g).params; variadic = (out-Signature g).variadic; results = w })) r
    ∙ sym (fold_out-Signature Term Field Method Signature roll-Term untagged_step roll-Method roll-Signature g)

pub of_signature-returns : goal.of_signature-returns
of_signature-returns t c = made c.args.signature.now c.in_ok-of_terms.field-0 c.in_ok-of_terms-2.field-0 (c.in_ok-of_terms.ensures ∙ ap (map untagged) c.items.ensures) (c.in_ok-of_terms-2.ensures ∙ ap (map untagged) c.items-2.ensures)
