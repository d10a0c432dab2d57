use Rattle.std.proofs.Common.{subst}
use Rattle.kj_value.specs.Fault.{IsRefusedJson}
use Rattle.kj_value.specs.declared.reading.JsonFault.{JsonFault}
use Rattle.api_calls.proofs.Texts.{reads, never_not_json, never_too_deep, never_not_whole}
use Rattle.api_calls.proofs.written.read_form.Goals as goal

pub read_written-requires : goal.read_written-requires
read_written-requires c =
    let r = reads c.requires.0 c.args.bytes.now c.text_reads.ensures c.requires.1 in
    record { written = (c.requires.0, c.requires.1.whole, c.one_reading.ensures c.args.bytes.now 64 64 _ _ c.in-Ok.ensures.ok r) }

pub unreachable-requires : goal.unreachable-requires
unreachable-requires c =
    let r = reads c.requires.0 c.args.bytes.now c.text_reads.ensures c.requires.1 in
    never_not_json c.args.bytes.now _ r (subst (λ (f : JsonFault). IsRefusedJson c.args.bytes.now 64 f) c.in-Err-NotJson.field-0-is c.in-Err-NotJson.ensures.err)

pub unreachable-requires-in-Err-TooDeep : goal.unreachable-requires-in-Err-TooDeep
unreachable-requires-in-Err-TooDeep c =
    let r = reads c.requires.0 c.args.bytes.now c.text_reads.ensures c.requires.1 in
    never_too_deep c.args.bytes.now _ r (subst (λ (f : JsonFault). IsRefusedJson c.args.bytes.now 64 f) c.in-Err-TooDeep.field-0-is c.in-Err-TooDeep.ensures.err)

pub unreachable-requires-in-Err-NotWhole : goal.unreachable-requires-in-Err-NotWhole
unreachable-requires-in-Err-NotWhole c =
    let r = reads c.requires.0 c.args.bytes.now c.text_reads.ensures c.requires.1 in
    never_not_whole c.args.bytes.now _ r (subst (λ (f : JsonFault). IsRefusedJson c.args.bytes.now 64 f) c.in-Err-NotWhole.field-0-is c.in-Err-NotWhole.ensures.err)

pub returns-in-Ok : goal.returns-in-Ok
returns-in-Ok c = λ x t.
    let r = reads x c.args.bytes.now c.text_reads.ensures t in
    c.read_written.ensures x t.whole (c.one_reading.ensures c.args.bytes.now 64 64 _ _ c.in-Ok.ensures.ok r)
