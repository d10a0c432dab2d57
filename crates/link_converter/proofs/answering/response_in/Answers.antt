use Rattle.std.proofs.Common.{◌≡◌, Some, refl}
use Rattle.std.specs.Io.KnownBytes.{prepend_known}
use Rattle.link_converter.proofs.Lacks.{both, never}
use Rattle.link_converter.proofs.answering.response_in.Goals as goal

pub returns-clause-next : goal.returns-clause-next
returns-clause-next c =
    let all : prepend_known c.args.inbox.now.bytes (Some c.args.source.now) ≡ Some c.args.source.now = rw (c.requires) refl in
    both c.args.source.now c.read_response.new.inbox (Some c.read_response.new.input) c.read_response.result c.read_response.ensures.next (c.read_response.ensures.received c.args.source.now all)

pub returns-clause-sure : goal.returns-clause-sure
returns-clause-sure c = never c.read_response.result c.read_response.ensures.cause
