-- Types, typed packages and worlds may be sent to another thread and shared with one. Each is proved of its parts, since a
-- search that goes down through all of them gives up.
use denote.Param.Send.{sendable}
use denote.RattleType.{RattleType}
use Rattle.std.proofs.Crossing.{frees}
use Rattle.std.proofs.alloc.Global.TheSendSync as global
use Rattle.std.proofs.vec.Vec.TheSendSync as vectors
use Rattle.std.specs.Thread.{IsSend, IsSync}
use Rattle.std.specs.contracts.alloc.Global as heap
use Rattle.std.specs.contracts.impls.GlobalAllocator.TheImpl.{ghosts}
use Rattle.go_base.proofs.list.List.TheSendSync as lists
use Rattle.go_base.proofs.shared.Shared.TheSendSync as shares
use Rattle.go_base.proofs.text.Text.TheSendSync as text
use Rattle.go_base.specs.contracts.list.List as list
use Rattle.go_base.specs.contracts.shared.Shared as shared
use Rattle.go_base.specs.contracts.text.Text as text_row
use Rattle.go_model.proofs.constants.value.Basic.TheSendSync as basic
use Rattle.go_model.proofs.constants.value.Value.TheSendSync as value
use Rattle.go_model.proofs.types.names.Sel.TheSendSync as sel
use Rattle.go_model.proofs.types.names.TypeName.TheSendSync as name
use Rattle.go_model.proofs.types.term.Direction.TheSendSync as direction
use Rattle.go_model.proofs.types.term.Term.TheLaws.TheKnot.{both_send-Term, both_sync-Term, both_send-Signature, both_sync-Signature}
use Rattle.go_model.specs.contracts.types.package.ConstTerm as const_term
use Rattle.go_model.specs.contracts.types.package.Defined as defined
use Rattle.go_model.specs.contracts.types.package.Entity as entity
use Rattle.go_model.specs.contracts.types.package.MethodOf as method
use Rattle.go_model.specs.contracts.types.package.Object as object
use Rattle.go_model.specs.contracts.types.package.Package as «package»
use Rattle.go_model.specs.contracts.types.term.Signature as signature
use Rattle.go_model.specs.contracts.types.term.Term as term
use Rattle.go_model.specs.contracts.types.world.World as world

shared_list_send : (R : RattleType) → IsSend R → IsSync R → IsSend (shared.the_row (list.the_row R))
shared_list_send R s y = shares.the_send (list.the_row R) (lists.the_send R s) (lists.the_sync R y)

shared_list_sync : (R : RattleType) → IsSend R → IsSync R → IsSync (shared.the_row (list.the_row R))
shared_list_sync R s y = shares.the_sync (list.the_row R) (lists.the_send R s) (lists.the_sync R y)

term_send : IsSend (term.the_field).row
term_send = both_send-Term basic.the_field_send basic.the_field_sync name.the_field_send name.the_field_sync shares.the_send shares.the_sync (search sendable) (search sendable)
    direction.the_field_send direction.the_field_sync shared_list_send shared_list_sync sel.the_field_send sel.the_field_sync (search sendable) (search sendable) text.the_send text.the_sync

term_sync : IsSync (term.the_field).row
term_sync = both_sync-Term basic.the_field_send basic.the_field_sync name.the_field_send name.the_field_sync shares.the_send shares.the_sync (search sendable) (search sendable)
    direction.the_field_send direction.the_field_sync shared_list_send shared_list_sync sel.the_field_send sel.the_field_sync (search sendable) (search sendable) text.the_send text.the_sync

signature_send : IsSend (signature.the_field).row
signature_send = both_send-Signature basic.the_field_send basic.the_field_sync name.the_field_send name.the_field_sync shares.the_send shares.the_sync (search sendable) (search sendable)
    direction.the_field_send direction.the_field_sync shared_list_send shared_list_sync sel.the_field_send sel.the_field_sync (search sendable) (search sendable) text.the_send text.the_sync

signature_sync : IsSync (signature.the_field).row
signature_sync = both_sync-Signature basic.the_field_send basic.the_field_sync name.the_field_send name.the_field_sync shares.the_send shares.the_sync (search sendable) (search sendable)
    direction.the_field_send direction.the_field_sync shared_list_send shared_list_sync sel.the_field_send sel.the_field_sync (search sendable) (search sendable) text.the_send text.the_sync

const_term_send : IsSend (const_term.the_field).row
const_term_send = let t = term_send in search sendable depth 20

const_term_sync : IsSync (const_term.the_field).row
const_term_sync = let t = term_sync in search sendable depth 20

entity_send : IsSend (entity.the_field).row
entity_send = let t = term_send in let c = const_term_send in let v = value.the_field_send in let g = signature_send in search sendable depth 20

entity_sync : IsSync (entity.the_field).row
entity_sync = let t = term_sync in let c = const_term_sync in let v = value.the_field_sync in let g = signature_sync in search sendable depth 20

object_send : IsSend object.the_row
object_send = let t = text.the_send in let e = entity_send in search sendable depth 20

object_sync : IsSync object.the_row
object_sync = let t = text.the_sync in let e = entity_sync in search sendable depth 20

method_send : IsSend method.the_row
method_send = let s = sel.the_field_send in let g = signature_send in search sendable depth 20

method_sync : IsSync method.the_row
method_sync = let s = sel.the_field_sync in let g = signature_sync in search sendable depth 20

defined_send : IsSend defined.the_row
defined_send = let n = text.the_send in let t = term_send in let m = lists.the_send method.the_row method_send in search sendable depth 20

defined_sync : IsSync defined.the_row
defined_sync = let n = text.the_sync in let t = term_sync in let m = lists.the_sync method.the_row method_sync in search sendable depth 20

pub package_send : IsSend «package».the_row
package_send =
    let t = text.the_send in
    let o = shared_list_send object.the_row object_send object_sync in
    let d = shared_list_send defined.the_row defined_send defined_sync in
    search sendable depth 20

pub package_sync : IsSync «package».the_row
package_sync =
    let t = text.the_sync in
    let o = shared_list_sync object.the_row object_send object_sync in
    let d = shared_list_sync defined.the_row defined_send defined_sync in
    search sendable depth 20

pub world_send : IsSend world.the_row
world_send =
    let a = global.the_send in
    let p = vectors.the_send «package».the_row heap.the_row ghosts package_send global.the_send frees in
    let q = vectors.the_send text_row.the_row heap.the_row ghosts text.the_send global.the_send frees in
    search sendable depth 20

pub world_sync : IsSync world.the_row
world_sync =
    let a = global.the_sync in
    let p = vectors.the_sync «package».the_row heap.the_row ghosts package_sync global.the_sync in
    let q = vectors.the_sync text_row.the_row heap.the_row ghosts text.the_sync global.the_sync in
    search sendable depth 20
