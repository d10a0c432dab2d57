use Rattle.std.proofs.Common.{◌<◌, Err, inl, ap, subst, ◌∙◌}
use Rattle.std.specs.Prelude.{IfSome, Option}
use Rattle.kube_meta.specs.View.{ObjectView, object_of}
use Rattle.api_calls.specs.Refusal.{refusal_of}
use Rattle.api_calls.specs.Versions.{IsStored}
use Rattle.api_calls.specs.declared.versions.ConvFault.{ConvFault}
use Rattle.api_core.specs.declared.seen.Seen.{Seen}
use Rattle.write_texts.proofs.Overs.{failed-fails, misses-refuses}
use Rattle.write_texts.proofs.change.seen_and_updated.Goals as goal

pub updated-requires-clause-stored : goal.updated-requires-clause-stored
updated-requires-clause-stored g c =
    let m = g.V.Versions.meaning c.args.lent.now.versions.now in
    subst (λ (o : Option Seen). IfSome o (λ s. (h : ObjectView) × IsStored m s.at h s.bytes.bytes)) c.in-Ok.ensures.seen.0 c.requires.stored

pub returns-in-Err-clause-refuses : goal.returns-in-Err-clause-refuses
returns-in-Err-clause-refuses g c =
    misses-refuses (g.V.Versions.meaning c.args.lent.now.versions.now) (g.V.Tool.Tool.faults c.args.tool.now < g.V.Tool.Tool.faults c.args.tool.now) c.args.key.now c.args.over c.args.found
    (object_of c.args.new) (refusal_of c.in-Err.refused.refusal) c.in-Err.ensures.misses

pub returns-in-Err-updated-clause-refuses : goal.returns-in-Err-updated-clause-refuses
returns-in-Err-updated-clause-refuses g c =
    inl (failed-fails (g.V.Tool.Tool.faults c.args.tool.now < g.V.Tool.Tool.faults c.updated.new.tool) c.in-Err-updated.fault (refusal_of c.from.result.refusal)
    (λ tool. c.updated.ensures.tool (c.in-Err-updated.is ∙ ap (λ (f : ConvFault). Err f) tool)) c.from.ensures)
