use Rattle.std.proofs.Common.{[], ◌∷◌, ap, ◌∙◌, sym}
use Rattle.go_model.specs.declared.types.term.Direction.TheVariants as direction
use Rattle.go_rules.specs.Expressions.{OfForm}
use Rattle.go_rules.specs.Nodes.{type as type_node}
use Rattle.go_syntax.specs.declared.expression.Expr.{Expr}
use Rattle.go_syntax.specs.declared.types.«Type».{«Type» as Typ, «Type-F» as Typ-F, «out-Type» as out-Typ}
use Rattle.go_syntax.specs.declared.types.«Type».TheVariants.{outs-Array, outs-Chan, outs-Func, outs-Interface, outs-Map, outs-Paren, outs-Pointer, outs-ReceiveChan, outs-SendChan, outs-Slice, outs-Struct}
use Rattle.go_type_terms.specs.Answers.{env_in}
use Rattle.go_type_terms.specs.Results.{IsChannelOf}
use Rattle.go_type_terms.proofs.Forms.{both, by_form, in_both, in_receive, in_send, receive, send}
use Rattle.go_type_terms.proofs.Handed.{same_types}
use Rattle.go_type_terms.proofs.typing.Typing.type_form.Goals as goal

pub returns-in-Paren : goal.returns-in-Paren
returns-in-Paren g c =
    let E = env_in c.args.self.now.context.now in
    by_form E (out-Typ c.args.form.now) (Typ-F.«Type::Paren» c.value.result.now) c.parenthesized.result (ap out-Typ c.in-Paren.is ∙ outs-Paren c.in-Paren.inner ∙ ap Typ-F.«Type::Paren» (sym c.value.ensures)) c.parenthesized.ensures

pub returns-in-Pointer : goal.returns-in-Pointer
returns-in-Pointer g c =
    let E = env_in c.args.self.now.context.now in
    by_form E (out-Typ c.args.form.now) (Typ-F.Pointer c.value-in-Pointer.result.now) c.pointer.result (ap out-Typ c.in-Pointer.is ∙ outs-Pointer c.in-Pointer.base ∙ ap Typ-F.Pointer (sym c.value-in-Pointer.ensures)) c.pointer.ensures

pub returns-in-Slice : goal.returns-in-Slice
returns-in-Slice g c =
    let E = env_in c.args.self.now.context.now in
    by_form E (out-Typ c.args.form.now) (Typ-F.«Type::Slice» c.value-in-Slice.result.now) c.slice.result (ap out-Typ c.in-Slice.is ∙ outs-Slice c.in-Slice.element ∙ ap Typ-F.«Type::Slice» (sym c.value-in-Slice.ensures)) c.slice.ensures

pub returns-in-Func : goal.returns-in-Func
returns-in-Func g c =
    let E = env_in c.args.self.now.context.now in
    by_form E (out-Typ c.args.form.now) (Typ-F.Func c.value-in-Func.result.now) c.function.result (ap out-Typ c.in-Func.is ∙ outs-Func c.in-Func.signature ∙ ap Typ-F.Func (sym c.value-in-Func.ensures)) c.function.ensures

pub returns-in-Struct : goal.returns-in-Struct
returns-in-Struct g c =
    let E = env_in c.args.self.now.context.now in
    by_form E (out-Typ c.args.form.now) (Typ-F.Struct c.items.result.now) c.structure.result (ap out-Typ c.in-Struct.is ∙ outs-Struct c.in-Struct.fields ∙ ap Typ-F.Struct (sym c.items.ensures)) c.structure.ensures

pub returns-in-Interface : goal.returns-in-Interface
returns-in-Interface g c =
    let E = env_in c.args.self.now.context.now in
    by_form E (out-Typ c.args.form.now) (Typ-F.Interface c.items-in-Interface.result.now) c.interface.result (ap out-Typ c.in-Interface.is ∙ outs-Interface c.in-Interface.elements ∙ ap Typ-F.Interface (sym c.items-in-Interface.ensures)) c.interface.ensures

pub returns-in-Array : goal.returns-in-Array
returns-in-Array g c =
    let E = env_in c.args.self.now.context.now in
    let x = c.value-in-Array.result.now in
    let t = c.value-in-Array-2.result.now in
    by_form E (out-Typ c.args.form.now) (Typ-F.Array x t) c.array.result
    (ap out-Typ c.in-Array.is ∙ outs-Array c.in-Array.length c.in-Array.element ∙ ap (λ (w : Expr). Typ-F.Array w c.in-Array.element) (sym c.value-in-Array.ensures) ∙ ap (Typ-F.Array x) (sym c.value-in-Array-2.ensures)) c.array.ensures

pub returns-in-Map : goal.returns-in-Map
returns-in-Map g c =
    let E = env_in c.args.self.now.context.now in
    let x = c.value-in-Map.result.now in
    let t = c.value-in-Map-2.result.now in
    by_form E (out-Typ c.args.form.now) (Typ-F.Map x t) c.map.result
    (ap out-Typ c.in-Map.is ∙ outs-Map c.in-Map.key c.in-Map.element ∙ ap (λ (w : Typ). Typ-F.Map w c.in-Map.element) (sym c.value-in-Map.ensures) ∙ ap (Typ-F.Map x) (sym c.value-in-Map-2.ensures)) c.map.ensures

pub returns-in-Chan : goal.returns-in-Chan
returns-in-Chan g c =
    let E = env_in c.args.self.now.context.now in
    let t = c.value-in-Chan.result.now in
    by_form E (out-Typ c.args.form.now) (Typ-F.Chan t) c.channel.result (ap out-Typ c.in-Chan.is ∙ outs-Chan c.in-Chan.element ∙ ap Typ-F.Chan (sym c.value-in-Chan.ensures))
    (same_types E (IsChannelOf E direction.Both t) (OfForm E (Typ-F.Chan t)) (type_node t ∷ []) c.channel.result (λ u h. both u h) (λ u h. in_both u h) c.channel.ensures)

pub returns-in-SendChan : goal.returns-in-SendChan
returns-in-SendChan g c =
    let E = env_in c.args.self.now.context.now in
    let t = c.value-in-SendChan.result.now in
    by_form E (out-Typ c.args.form.now) (Typ-F.SendChan t) c.channel-in-SendChan.result (ap out-Typ c.in-SendChan.is ∙ outs-SendChan c.in-SendChan.element ∙ ap Typ-F.SendChan (sym c.value-in-SendChan.ensures))
    (same_types E (IsChannelOf E direction.SendOnly t) (OfForm E (Typ-F.SendChan t)) (type_node t ∷ []) c.channel-in-SendChan.result (λ u h. send u h) (λ u h. in_send u h) c.channel-in-SendChan.ensures)

pub returns-in-ReceiveChan : goal.returns-in-ReceiveChan
returns-in-ReceiveChan g c =
    let E = env_in c.args.self.now.context.now in
    let t = c.value-in-ReceiveChan.result.now in
    by_form E (out-Typ c.args.form.now) (Typ-F.ReceiveChan t) c.channel-in-ReceiveChan.result (ap out-Typ c.in-ReceiveChan.is ∙ outs-ReceiveChan c.in-ReceiveChan.element ∙ ap Typ-F.ReceiveChan (sym c.value-in-ReceiveChan.ensures))
    (same_types E (IsChannelOf E direction.ReceiveOnly t) (OfForm E (Typ-F.ReceiveChan t)) (type_node t ∷ []) c.channel-in-ReceiveChan.result (λ u h. receive u h) (λ u h. in_receive u h) c.channel-in-ReceiveChan.ensures)
