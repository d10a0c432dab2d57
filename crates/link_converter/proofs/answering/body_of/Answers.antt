use Rattle.http_wire.specs.declared.WireFault.TheVariants.{Closed, Torn, BadHead, HeadTooLong, LengthRequired, BodyTooLong}
use Rattle.link_converter.proofs.Lacks.{along, along_code, none_closed, none_torn, none_bad, none_long, none_unmeasured, none_large}
use Rattle.link_converter.proofs.answering.body_of.Goals as goal

pub returns-in-Err-Closed : goal.returns-in-Err-Closed
returns-in-Err-Closed c =
    none_closed c.args.answer.items (along c.new-source.result c.args.answer.items c.in-Err-Closed.field-0 Closed c.new-source.ensures c.in-Err-Closed.field-0-is c.in-Err-Closed.ensures.next)

pub returns-in-Err-Torn : goal.returns-in-Err-Torn
returns-in-Err-Torn c =
    none_torn c.args.answer.items c.in-Err-Torn.field-0-0 (along c.new-source.result c.args.answer.items c.in-Err-Torn.field-0 (Torn c.in-Err-Torn.field-0-0) c.new-source.ensures c.in-Err-Torn.field-0-is c.in-Err-Torn.ensures.next)

pub returns-in-Err-BadHead : goal.returns-in-Err-BadHead
returns-in-Err-BadHead c =
    none_bad c.args.answer.items (along c.new-source.result c.args.answer.items c.in-Err-BadHead.field-0 BadHead c.new-source.ensures c.in-Err-BadHead.field-0-is c.in-Err-BadHead.ensures.next)

pub returns-in-Err-HeadTooLong : goal.returns-in-Err-HeadTooLong
returns-in-Err-HeadTooLong c =
    none_long c.args.answer.items (along c.new-source.result c.args.answer.items c.in-Err-HeadTooLong.field-0 HeadTooLong c.new-source.ensures c.in-Err-HeadTooLong.field-0-is c.in-Err-HeadTooLong.ensures.next)

pub returns-in-Err-LengthRequired : goal.returns-in-Err-LengthRequired
returns-in-Err-LengthRequired c =
    none_unmeasured c.args.answer.items (along c.new-source.result c.args.answer.items c.in-Err-LengthRequired.field-0 LengthRequired c.new-source.ensures c.in-Err-LengthRequired.field-0-is c.in-Err-LengthRequired.ensures.next)

pub returns-in-Err-BodyTooLong : goal.returns-in-Err-BodyTooLong
returns-in-Err-BodyTooLong c =
    none_large c.args.answer.items c.in-Err-BodyTooLong.field-0-0 (along c.new-source.result c.args.answer.items c.in-Err-BodyTooLong.field-0 (BodyTooLong c.in-Err-BodyTooLong.field-0-0) c.new-source.ensures c.in-Err-BodyTooLong.field-0-is c.in-Err-BodyTooLong.ensures.next)

pub returns-in-Ok : goal.returns-in-Ok
returns-in-Ok c =
    along_code c.new-source.result c.args.answer.items _ c.in-Ok.ensures.next.0 c.new-source.ensures c.in-Ok.ensures.next.1 c.if-parts-eq-OK.false
