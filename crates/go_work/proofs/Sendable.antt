-- What the checks of a level share and give may cross threads. It is proved of its parts, since a search that goes down through all of them gives up.
use Rattle.go_base.proofs.list.List.TheSendSync as lists
use Rattle.go_base.proofs.shared.Shared.TheSendSync as shares
use Rattle.go_base.proofs.text.Text.TheSendSync as text
use Rattle.go_base.specs.contracts.list.List as list
use Rattle.go_base.specs.contracts.shared.Shared as shared
use Rattle.go_base.specs.contracts.text.Text as text_row
use Rattle.go_check.specs.contracts.checked.CheckedPackage as checked
use Rattle.go_exposed.specs.contracts.skipped.Cause as cause
use Rattle.go_exposed.specs.contracts.skipped.Skipped as skipped
use Rattle.go_model.proofs.Sendable.{world_sync}
use Rattle.go_model.proofs.constants.value.Basic.TheSendSync as basic
use Rattle.go_model.proofs.constants.value.Value.TheSendSync as value
use Rattle.go_model.proofs.types.names.Sel.TheSendSync as sel
use Rattle.go_model.proofs.types.names.TypeName.TheSendSync as name
use Rattle.go_model.proofs.types.term.Direction.TheSendSync as direction
use Rattle.go_model.proofs.types.term.Term.TheLaws.TheKnot.{both_send-Term, both_sync-Term, both_send-Signature, both_sync-Signature}
use Rattle.go_model.specs.contracts.types.package.ConstTerm as const_term
use Rattle.go_model.specs.contracts.types.package.Defined as defined
use Rattle.go_model.specs.contracts.types.package.Entity as entity
use Rattle.go_model.specs.contracts.types.package.MethodOf as method
use Rattle.go_model.specs.contracts.types.package.Object as object
use Rattle.go_model.specs.contracts.types.package.Package as «package»
use Rattle.go_model.specs.contracts.types.term.Signature as signature
use Rattle.go_model.specs.contracts.types.term.Term as term
use Rattle.go_sendable.proofs.Units.{unit_sync}
use Rattle.go_units.specs.contracts.unit.«Unit» as package_unit
use Rattle.go_work.specs.contracts.level.Level as level
use Rattle.go_work.specs.contracts.rows.Row as row
use Rattle.std.proofs.option.Option.TheSendSync as options
use Rattle.std.specs.Thread.{IsSend, IsSync}
use denote.Param.Send.{sendable}
use denote.RattleType.{RattleType}
use denote.Ref.{NamedLft}

shared_list_send : (R : RattleType) → IsSend R → IsSync R → IsSend (shared.the_row (list.the_row R))
shared_list_send R s y = shares.the_send (list.the_row R) (lists.the_send R s) (lists.the_sync R y)

shared_list_sync : (R : RattleType) → IsSend R → IsSync R → IsSync (shared.the_row (list.the_row R))
shared_list_sync R s y = shares.the_sync (list.the_row R) (lists.the_send R s) (lists.the_sync R y)

term_send : IsSend (term.the_field).row
term_send = both_send-Term basic.the_field_send basic.the_field_sync name.the_field_send name.the_field_sync shares.the_send shares.the_sync (search sendable) (search sendable)
    direction.the_field_send direction.the_field_sync shared_list_send shared_list_sync sel.the_field_send sel.the_field_sync (search sendable) (search sendable) text.the_send text.the_sync

term_sync : IsSync (term.the_field).row
term_sync = both_sync-Term basic.the_field_send basic.the_field_sync name.the_field_send name.the_field_sync shares.the_send shares.the_sync (search sendable) (search sendable)
    direction.the_field_send direction.the_field_sync shared_list_send shared_list_sync sel.the_field_send sel.the_field_sync (search sendable) (search sendable) text.the_send text.the_sync

signature_send : IsSend (signature.the_field).row
signature_send = both_send-Signature basic.the_field_send basic.the_field_sync name.the_field_send name.the_field_sync shares.the_send shares.the_sync (search sendable) (search sendable)
    direction.the_field_send direction.the_field_sync shared_list_send shared_list_sync sel.the_field_send sel.the_field_sync (search sendable) (search sendable) text.the_send text.the_sync

signature_sync : IsSync (signature.the_field).row
signature_sync = both_sync-Signature basic.the_field_send basic.the_field_sync name.the_field_send name.the_field_sync shares.the_send shares.the_sync (search sendable) (search sendable)
    direction.the_field_send direction.the_field_sync shared_list_send shared_list_sync sel.the_field_send sel.the_field_sync (search sendable) (search sendable) text.the_send text.the_sync

const_term_send : IsSend (const_term.the_field).row
const_term_send = let t = term_send in search sendable depth 20

const_term_sync : IsSync (const_term.the_field).row
const_term_sync = let t = term_sync in search sendable depth 20

entity_send : IsSend (entity.the_field).row
entity_send = let t = term_send in let c = const_term_send in let v = value.the_field_send in let g = signature_send in search sendable depth 20

entity_sync : IsSync (entity.the_field).row
entity_sync = let t = term_sync in let c = const_term_sync in let v = value.the_field_sync in let g = signature_sync in search sendable depth 20

object_send : IsSend object.the_row
object_send = let t = text.the_send in let e = entity_send in search sendable depth 20

object_sync : IsSync object.the_row
object_sync = let t = text.the_sync in let e = entity_sync in search sendable depth 20

method_send : IsSend method.the_row
method_send = let s = sel.the_field_send in let g = signature_send in search sendable depth 20

method_sync : IsSync method.the_row
method_sync = let s = sel.the_field_sync in let g = signature_sync in search sendable depth 20

defined_send : IsSend defined.the_row
defined_send = let n = text.the_send in let t = term_send in let m = lists.the_send method.the_row method_send in search sendable depth 20

defined_sync : IsSync defined.the_row
defined_sync = let n = text.the_sync in let t = term_sync in let m = lists.the_sync method.the_row method_sync in search sendable depth 20

package_field_send : IsSend («package».the_field).row
package_field_send =
    let t = text.the_send in
    let o = shared_list_send object.the_row object_send object_sync in
    let d = shared_list_send defined.the_row defined_send defined_sync in
    search sendable depth 20

cause_send : IsSend (cause.the_field).row
cause_send = let t = text.the_send in search sendable depth 20

cause_sync : IsSync (cause.the_field).row
cause_sync = let t = text.the_sync in search sendable depth 20

skipped_send : IsSend skipped.the_row
skipped_send = let c = cause_send in let n = lists.the_send text_row.the_row text.the_send in search sendable depth 20

skipped_sync : IsSync skipped.the_row
skipped_sync = let c = cause_sync in let n = lists.the_sync text_row.the_row text.the_sync in search sendable depth 20

pub checked_send : IsSend checked.the_row
checked_send = let p = package_field_send in let s = lists.the_send skipped.the_row skipped_send in search sendable depth 20

pub checked_field_send : IsSend (checked.the_field).row
checked_field_send = let p = package_field_send in let s = lists.the_send skipped.the_row skipped_send in search sendable depth 20

pub row_sync : IsSync row.the_row
row_sync = let u = options.the_field_sync package_unit.the_row unit_sync in let s = lists.the_sync skipped.the_row skipped_sync in search sendable depth 20

pub level_sync : (a : NamedLft) (G : RattleType) → IsSync G → IsSync (level.the_row a G)
level_sync a G s = let w = world_sync in let r = row_sync in search sendable depth 20
