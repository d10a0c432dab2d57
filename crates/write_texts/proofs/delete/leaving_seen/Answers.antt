use Rattle.std.proofs.Common.{◌<◌, ℕ, Bool, List, true, Err, Result, refl, ap, sym, subst, ◌∙◌}
use Rattle.std.specs.Prelude.{IfOk, IsTrue}
use Rattle.std.proofs.lemmas.Result.{err_from_is_err_and}
use Rattle.kj_value.specs.Text.{text_of}
use Rattle.kj_value.specs.declared.error.NoMemory.{NoMemory}
use Rattle.kube_meta.specs.View.{object_of}
use Rattle.kube_meta.specs.declared.object.Object.{Object}
use Rattle.api_calls.specs.Documents.{deleted_status}
use Rattle.api_calls.specs.Legal.{HasFinalizer}
use Rattle.api_calls.specs.Refusal.{refusal_of}
use Rattle.api_calls.specs.Uid.{uid}
use Rattle.api_calls.specs.Versions.{IsStored}
use Rattle.api_calls.specs.declared.refusal.Refusal.{Refusal}
use Rattle.api_calls.specs.declared.versions.ConvFault.{ConvFault}
use Rattle.api_core.specs.declared.seen.Prepared.{Prepared}
use Rattle.write_texts.specs.Leavings.{LeavesSeen, MarksSeen}
use Rattle.write_texts.specs.inner.Marking.{HoldsAs}
use Rattle.write_texts.specs.declared.delete.Leaving.{Leaving}
use Rattle.write_texts.specs.declared.mark.Holding.{Holding}
use Rattle.call_texts.specs.declared.refused.Refused as made
use Rattle.write_texts.specs.declared.seal.Sealed.{Sealed}
use Rattle.write_texts.proofs.DeleteLooks.{fault-came, held-finalizer, memory-came, not-no, not-yes}
use Rattle.write_texts.proofs.delete.leaving_seen.Goals as goal

pub returns-in_err-holding-clause-leaves : goal.returns-in_err-holding-clause-leaves
returns-in_err-holding-clause-leaves g c = λ h is.
    let m = g.V.Versions.meaning c.args.lent.now.versions.now in
    let rose = g.V.Tool.Tool.faults c.args.tool.now < g.V.Tool.Tool.faults c.args.tool.now in
    let p = err_from_is_err_and c.from_residual.result c.from_residual.ensures.1 in
    subst (λ (r : Result Leaving made.Refused). LeavesSeen m c.args.lent.now.boot rose c.args.v c.args.key.now c.args.stamp.text c.args.seen.now h r) (sym p.1)
    (memory-came (rose × (IsTrue m.honest → HasFinalizer h)) (λ a i. ⊥) (refusal_of p.0.refusal) (ap (λ (e : Refusal). refusal_of e) p.2))

pub returns-then-not-holding-clause-leaves : goal.returns-then-not-holding-clause-leaves
returns-then-not-holding-clause-leaves g c = λ h is.
    let m = g.V.Versions.meaning c.args.lent.now.versions.now in
    let stored = subst (λ (bs : List ℕ). IsStored m c.args.seen.now.at h bs) (sym (c.as_bytes.ensures.value ∙ c.as_str.ensures)) is in
    let holds : HoldsAs m h c.in_ok-holding.holding.held c.in_ok-holding.holding.marked =
    subst (λ (r : Result Holding NoMemory). IfOk r (λ x. HoldsAs m h x.held x.marked)) c.in_ok-holding.was (c.holding_of.ensures h stored) in (
      c.in_ok-holding.holding.marked,
      subst (λ (b : Bool). HoldsAs m h b c.in_ok-holding.holding.marked) (not-yes c.in_ok-holding.holding.held c.if-not-holding.true) holds,
      refl,
      c.in_ok-text.ensures ∙ ap (λ (n : List ℕ). text_of (deleted_status m n (uid c.args.lent.now.boot c.args.seen.now.born))) c.name.ensures.value,
    )

pub returns-in_err-reply-clause-leaves : goal.returns-in_err-reply-clause-leaves
returns-in_err-reply-clause-leaves g c = λ h is.
    let m = g.V.Versions.meaning c.args.lent.now.versions.now in
    let rose = g.V.Tool.Tool.faults c.args.tool.now < g.V.Tool.Tool.faults c.show.new.tool in
    let stored = subst (λ (bs : List ℕ). IsStored m c.args.seen.now.at h bs) (sym (c.as_bytes.ensures.value ∙ c.as_str.ensures)) is in
    let holds : HoldsAs m h c.in_ok-holding.holding.held c.in_ok-holding.holding.marked =
    subst (λ (r : Result Holding NoMemory). IfOk r (λ x. HoldsAs m h x.held x.marked)) c.in_ok-holding.was (c.holding_of.ensures h stored) in
    let held = held-finalizer m h c.in_ok-holding.holding.marked (subst (λ (b : Bool). HoldsAs m h b c.in_ok-holding.holding.marked) (not-no c.in_ok-holding.holding.held c.if-not-holding.false) holds) in
    let p = err_from_is_err_and c.from_residual-in_err-reply.result c.from_residual-in_err-reply.ensures.1 in
    subst (λ (r : Result Leaving made.Refused). LeavesSeen m c.args.lent.now.boot rose c.args.v c.args.key.now c.args.stamp.text c.args.seen.now h r) (sym p.1)
    (fault-came (rose × (IsTrue m.honest → HasFinalizer h)) (λ a i. ⊥) c.in_err-reply.field-0.0 (refusal_of p.0.refusal)
    (λ tool. (c.in_err-reply.ensures.tool (ap (λ (f : ConvFault). Err f) tool), held)) p.2)

pub returns-in_err-new-clause-leaves : goal.returns-in_err-new-clause-leaves
returns-in_err-new-clause-leaves g c = λ h is.
    let m = g.V.Versions.meaning c.args.lent.now.versions.now in
    let rose = g.V.Tool.Tool.faults c.args.tool.now < g.V.Tool.Tool.faults c.mark_of.new.tool in
    let stored = subst (λ (bs : List ℕ). IsStored m c.args.seen.now.at h bs) (sym (c.as_bytes.ensures.value ∙ c.as_str.ensures)) is in
    let holds : HoldsAs m h c.in_ok-holding.holding.held c.in_ok-holding.holding.marked =
    subst (λ (r : Result Holding NoMemory). IfOk r (λ x. HoldsAs m h x.held x.marked)) c.in_ok-holding.was (c.holding_of.ensures h stored) in
    let held = held-finalizer m h c.in_ok-holding.holding.marked (subst (λ (b : Bool). HoldsAs m h b c.in_ok-holding.holding.marked) (not-no c.in_ok-holding.holding.held c.if-not-holding.false) holds) in
    let p = err_from_is_err_and c.from_residual-in_err-new.result c.from_residual-in_err-new.ensures.1 in
    subst (λ (r : Result Leaving made.Refused). LeavesSeen m c.args.lent.now.boot rose c.args.v c.args.key.now c.args.stamp.text c.args.seen.now h r) (sym p.1)
    (fault-came (rose × (IsTrue m.honest → HasFinalizer h)) (λ a i. ⊥) c.in_err-new.field-0.0 (refusal_of p.0.refusal)
    (λ tool. (c.in_err-new.ensures.tool (ap (λ (f : ConvFault). Err f) tool), held)) p.2)

pub returns-clause-leaves : goal.returns-clause-leaves
returns-clause-leaves g c = λ h is.
    let m = g.V.Versions.meaning c.args.lent.now.versions.now in
    let stored = subst (λ (bs : List ℕ). IsStored m c.args.seen.now.at h bs) (sym (c.as_bytes.ensures.value ∙ c.as_str.ensures)) is in
    let holds : HoldsAs m h c.in_ok-holding.holding.held c.in_ok-holding.holding.marked =
    subst (λ (r : Result Holding NoMemory). IfOk r (λ x. HoldsAs m h x.held x.marked)) c.in_ok-holding.was (c.holding_of.ensures h stored) in
    let held : HoldsAs m h true c.in_ok-holding.holding.marked = subst (λ (b : Bool). HoldsAs m h b c.in_ok-holding.holding.marked) (not-no c.in_ok-holding.holding.held c.if-not-holding.false) holds in (
      subst (λ (b : Bool). HoldsAs m h true b) c.if-holding.false held,
      refl,
      refl,
      subst (λ (r : Result (Prepared × Sealed × Object) ConvFault). IfOk r (λ x. MarksSeen m c.args.v c.args.key.now c.args.stamp.text c.args.seen.now h x.0 x.1 (object_of x.2)))
          c.in_ok-new.was (c.mark_of.ensures.marks h is),
    )
