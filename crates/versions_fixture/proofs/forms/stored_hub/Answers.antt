use Rattle.std.proofs.Common.{◌≡◌, ◌∙◌, ap, sym, subst}
use Rattle.kj_value.specs.Seen.{json}
use Rattle.kj_value.specs.Fault.{IsRefusedJson}
use Rattle.kj_value.specs.declared.reading.JsonFault.{JsonFault}
use Rattle.kube_meta.specs.View.{ObjectView, object_of}
use Rattle.kube_meta.specs.Document.{document}
use Rattle.api_calls.specs.Versions.{IsStored}
use Rattle.versions_fixture.specs.Parts.{parts_of, object_at, version_at}
use Rattle.versions_fixture.specs.Definition.{two_names}
use Rattle.versions_fixture.specs.Laws.{one_json}
use Rattle.versions_fixture.specs.declared.parts.Version.{Version}
use Rattle.versions_fixture.specs.declared.parts.Version.TheVariants.{V1}
use Rattle.versions_fixture.proofs.Found.{levels}
use Rattle.versions_fixture.proofs.Kept.{kept, never_not_json, never_too_deep, never_not_whole}
use Rattle.versions_fixture.proofs.forms.stored_hub.Goals as goal

pub unreachable-requires : goal.unreachable-requires
unreachable-requires c =
    let k = kept c.args.v c.args.stored.now c.requires.0 c.text_reads.ensures c.requires.1 in
    never_not_json c.args.stored.now _ k.reads
    (subst (λ (f : JsonFault). IsRefusedJson c.args.stored.now 64 f) c.in-Err-NotJson.field-0-is c.in-Err-NotJson.ensures.err)

pub unreachable-requires-in-Err-TooDeep : goal.unreachable-requires-in-Err-TooDeep
unreachable-requires-in-Err-TooDeep c =
    let k = kept c.args.v c.args.stored.now c.requires.0 c.text_reads.ensures c.requires.1 in
    never_too_deep c.args.stored.now _ k.reads
    (subst (λ (f : JsonFault). IsRefusedJson c.args.stored.now 64 f) c.in-Err-TooDeep.field-0-is c.in-Err-TooDeep.ensures.err)

pub unreachable-requires-in-Err-NotWhole : goal.unreachable-requires-in-Err-NotWhole
unreachable-requires-in-Err-NotWhole c =
    let k = kept c.args.v c.args.stored.now c.requires.0 c.text_reads.ensures c.requires.1 in
    never_not_whole c.args.stored.now _ k.reads
    (subst (λ (f : JsonFault). IsRefusedJson c.args.stored.now 64 f) c.in-Err-NotWhole.field-0-is c.in-Err-NotWhole.ensures.err)

pub unreachable-requires-in-None : goal.unreachable-requires-in-None
unreachable-requires-in-None c =
    let k = kept c.args.v c.args.stored.now c.requires.0 c.text_reads.ensures c.requires.1 in
    let same : json c.in-Ok.value ≡ document (object_at (version_at c.args.v) k.parts) = one_json c.args.stored.now _ _ c.in-Ok.ensures.ok k.reads in
    c.in-None.ensures k.parts k.stamps (same ∙ ap (λ (w : Version). document (object_at w k.parts)) (sym c.at.ensures))

pub returns-clause-ok : goal.returns-clause-ok
returns-clause-ok c =
    let k = kept c.args.v c.args.stored.now c.requires.0 c.text_reads.ensures c.requires.1 in
    let same : json c.in-Ok.value ≡ document (object_at (version_at c.args.v) k.parts) = one_json c.args.stored.now _ _ c.in-Ok.ensures.ok k.reads in
    let parts : parts_of c.in-Some.parts ≡ k.parts = c.in-Some.ensures k.parts k.stamps (same ∙ ap (λ (w : Version). document (object_at w k.parts)) (sym c.at.ensures)) in
    let hub : object_of c.in_ok-made-in-Some.field-0 ≡ c.requires.0 = c.in_ok-made-in-Some.ensures ∙ ap (object_at V1) parts ∙ sym k.is in
    subst (λ (x : ObjectView). IsStored two_names c.args.v x c.args.stored.now) (sym hub) c.requires.1

pub returns-clause-levels : goal.returns-clause-levels
returns-clause-levels c = levels V1 (parts_of c.in-Some.parts) (object_of c.in_ok-made-in-Some.field-0) c.in_ok-made-in-Some.ensures
