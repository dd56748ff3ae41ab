use Rattle.std.proofs.Common.{None, Some, ap, sym, ◌∙◌}
use Rattle.go_model.specs.declared.types.term.Term.{Term-F, out-Term}
use Rattle.go_model.specs.declared.types.term.Term.TheVariants.{outs-Array, outs-Map, outs-Slice, outs-Struct}
use Rattle.go_rules.specs.Expressions.{HasElements, HasPairs}
use Rattle.go_rules.specs.Nodes.{element_parts}
use Rattle.go_operations.specs.go_type_terms.Answers.{env_in}
use Rattle.go_literals.specs.Elements.{AreIndexed}
use Rattle.go_literals.specs.Structs.{StructFits}
use Rattle.go_literals.proofs.ByType.{array_elements, in_array, in_map, in_slice, in_struct, map_elements, slice_elements, struct_elements}
use Rattle.go_literals.proofs.Parts.{holds_as}
use Rattle.go_literals.proofs.values.Literals.elements.Goals as goal

pub returns-in-Struct : goal.returns-in-Struct
returns-in-Struct g c =
    let E = env_in c.args.self.now.operations.typing.context.now in
    let t = c.args.term.now in
    let xs = c.args.elements.now in
    let fs = c.items.result.now in
    let u = sym c.under.ensures ∙ ap out-Term c.in-Struct.is ∙ outs-Struct c.in-Struct.fields ∙ ap Term-F.Struct (sym c.items.ensures) in
    holds_as E (StructFits E t fs xs) (HasElements E t xs) (element_parts xs) (element_parts xs) c.of_struct.result (struct_elements E t xs fs u) (in_struct E t xs fs u) (λ b l. l) c.of_struct.ensures

pub returns-in-Array : goal.returns-in-Array
returns-in-Array g c =
    let E = env_in c.args.self.now.operations.typing.context.now in
    let t = c.args.term.now in
    let xs = c.args.elements.now in
    let e = c.value.result.now in
    let n = c.in-Array.length in
    let u = sym c.under.ensures ∙ ap out-Term c.in-Array.is ∙ outs-Array c.in-Array.length c.in-Array.element ∙ ap (Term-F.Array n) (sym c.value.ensures) in
    holds_as E (AreIndexed E e (Some n) xs) (HasElements E t xs) (element_parts xs) (element_parts xs) c.of_array.result (array_elements E t xs n e u) (in_array E t xs n e u) (λ b l. l) c.of_array.ensures

pub returns-in-Slice : goal.returns-in-Slice
returns-in-Slice g c =
    let E = env_in c.args.self.now.operations.typing.context.now in
    let t = c.args.term.now in
    let xs = c.args.elements.now in
    let e = c.value-in-Slice.result.now in
    let u = sym c.under.ensures ∙ ap out-Term c.in-Slice.is ∙ outs-Slice c.in-Slice.element ∙ ap Term-F.Slice (sym c.value-in-Slice.ensures) in
    holds_as E (AreIndexed E e None xs) (HasElements E t xs) (element_parts xs) (element_parts xs) c.of_slice.result (slice_elements E t xs e u) (in_slice E t xs e u) (λ b l. l) c.of_slice.ensures

pub returns-in-Map : goal.returns-in-Map
returns-in-Map g c =
    let E = env_in c.args.self.now.operations.typing.context.now in
    let t = c.args.term.now in
    let xs = c.args.elements.now in
    let k = c.value-in-Map.result.now in
    let e = c.value-in-Map-2.result.now in
    let u = sym c.under.ensures ∙ ap out-Term c.in-Map.is ∙ outs-Map c.in-Map.key c.in-Map.element ∙ ap (λ w. Term-F.Map w c.in-Map.element) (sym c.value-in-Map.ensures) ∙ ap (Term-F.Map k) (sym c.value-in-Map-2.ensures) in
    holds_as E (HasPairs E k e xs) (HasElements E t xs) (element_parts xs) (element_parts xs) c.pairs.result (map_elements E t xs k e u) (in_map E t xs k e u) (λ b l. l) c.pairs.ensures
