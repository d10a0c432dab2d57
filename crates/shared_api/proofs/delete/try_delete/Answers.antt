use Rattle.std.proofs.Common.{◌≡◌, ◌∙◌, ◌+◌, ◌<◌, ◌≤◌, ◌^◌, ℕ, List, Some, Ok, Err, ap, sym, subst, refl}
use Rattle.std.specs.Prelude.{IfOk}
use Rattle.kube_meta.specs.View.{object_of}
use Rattle.kube_meta.specs.declared.limits.Limits.{Limits}
use Rattle.api_calls.specs.Item.{Item, items}
use Rattle.api_calls.specs.Legal.{legal}
use Rattle.api_calls.specs.Refusal.{refusal_of}
use Rattle.api_calls.specs.Reply.{reply_of}
use Rattle.api_calls.specs.State.{revision, state}
use Rattle.api_calls.specs.Versions.{AreFlags}
use Rattle.api_core.specs.Ends.{delete_end}
use Rattle.api_core.specs.Prepared.{Sees}
use Rattle.shared_api.specs.Base.{server_of}
use Rattle.write_texts.specs.Leavings.{Deleted, IsLeaving, TellsMark}
use Rattle.shared_api.specs.declared.cell.CoreBase.{CoreBase}
use Rattle.write_texts.specs.declared.delete.Leaving.{Leaving}
use Rattle.write_texts.specs.declared.delete.Leaving.TheVariants as leaving
use Rattle.shared_api.proofs.DeleteEnds.{base-read, look-ends, marked-known, marked-tries, plain-free, ready-here, removed-tries}
use Rattle.shared_api.proofs.Deletes.{delete-never, mark-never}
use Rattle.shared_api.proofs.delete.try_delete.Goals as goal

pub leaving_of-requires-clause-flags : goal.leaving_of-requires-clause-flags
leaving_of-requires-clause-flags g c =
    let base = c.requires.base in
    let looked = c.look-looked.ensures.looks base.0 base.1 in
    subst (λ (x : g.row.V.Denot). IfOk c.look-looked.result (λ p. AreFlags (g.V.Versions.meaning x).count p.flags)) (sym base.2) looked.flags

pub leaving_of-requires-clause-sees : goal.leaving_of-requires-clause-sees
leaving_of-requires-clause-sees g c =
    let base = c.requires.base in
    let looked = c.look-looked.ensures.looks base.0 base.1 in
    subst
    (λ (x : g.row.V.Denot). (log : List Item) × (limits : Limits) × legal (g.V.Versions.meaning x) limits log × (revision log ≤ 2 ^ 61)
    × IfOk c.look-looked.result (λ p. Sees (g.V.Versions.meaning x) log c.args.key.now p))
    (sym base.2)
    (items looked.log, base.0.limits, looked.reads.legal.guards, looked.reads.few, looked.sees)

pub returns-in-Ok-Told-clause-tries : goal.returns-in-Ok-Told-clause-tries
returns-in-Ok-Told-clause-tries g c b is =
    let base = c.requires.base in
    let same : base.0 ≡ b = (let first = base.1 in cc (first, is)) in
    let versions = base.2 ∙ ap (λ (x : CoreBase g.row.V.Denot). x.versions) same in
    let boots = base.3 ∙ ap (λ (x : CoreBase g.row.V.Denot). x.boot) same in
    let s = server_of g.V.Versions.meaning b in
    let v = c.args.pass.now.seat.me.0 in
    let w = c.look-looked.new.pass.seat.me.0 in
    let k = c.args.key.now in
    let stamp = c.args.stamp.text in
    let looked = c.look-looked.ensures.looks b is in
    let there : w.base ≡ Some b = base-read s v w looked.log looked.reads ∙ is in
    let rose = g.V.Tool.Tool.faults c.args.tool.now < g.V.Tool.Tool.faults c.leaving_of.new.tool in
    let ready : IsLeaving s.meaning s.boot rose (items looked.log) c.args.v k stamp (Ok (leaving.Told c.in-Ok-Told.reply)) =
    ready-here g.V.Versions.meaning b c.args.lent.now.versions.now c.args.lent.now.boot rose (items looked.log) c.args.v k stamp c.look-looked.result (Ok c.in-Ok-Told.field-0) (Ok (leaving.Told c.in-Ok-Told.reply)) versions boots
    looked.reads.few looked.sees c.in-Ok-Told.ensures.ready (ap (λ (x : Leaving). Ok x) c.in-Ok-Told.field-0-is) in
    look-ends s rose v w looked.log k (Deleted s.meaning s.boot c.args.v k stamp) (Ok (reply_of c.in-Ok-Told.reply)) looked.reads ready

pub returns-in-Err-clause-tries : goal.returns-in-Err-clause-tries
returns-in-Err-clause-tries g c b is =
    let base = c.requires.base in
    let same : base.0 ≡ b = (let first = base.1 in cc (first, is)) in
    let versions = base.2 ∙ ap (λ (x : CoreBase g.row.V.Denot). x.versions) same in
    let boots = base.3 ∙ ap (λ (x : CoreBase g.row.V.Denot). x.boot) same in
    let s = server_of g.V.Versions.meaning b in
    let v = c.args.pass.now.seat.me.0 in
    let w = c.look-looked.new.pass.seat.me.0 in
    let k = c.args.key.now in
    let stamp = c.args.stamp.text in
    let looked = c.look-looked.ensures.looks b is in
    let there : w.base ≡ Some b = base-read s v w looked.log looked.reads ∙ is in
    let rose = g.V.Tool.Tool.faults c.args.tool.now < g.V.Tool.Tool.faults c.leaving_of.new.tool in
    let ready : IsLeaving s.meaning s.boot rose (items looked.log) c.args.v k stamp (Err c.in-Err.refused) =
    ready-here g.V.Versions.meaning b c.args.lent.now.versions.now c.args.lent.now.boot rose (items looked.log) c.args.v k stamp c.look-looked.result (Err c.in-Err.refused) (Err c.in-Err.refused) versions boots
    looked.reads.few looked.sees c.in-Err.ensures.ready (refl) in
    look-ends s rose v w looked.log k (Deleted s.meaning s.boot c.args.v k stamp) (Err (refusal_of c.in-Err.refused.refusal)) looked.reads ready

pub remove-end-requires-clause-known : goal.remove-end-requires-clause-known
remove-end-requires-clause-known g c =
    let base = c.requires.base in
    let versions = base.2 in
    let boots = base.3 in
    let s = server_of g.V.Versions.meaning base.0 in
    let v = c.args.pass.now.seat.me.0 in
    let w = c.look-looked.new.pass.seat.me.0 in
    let k = c.args.key.now in
    let stamp = c.args.stamp.text in
    let looked = c.look-looked.ensures.looks base.0 base.1 in
    let there : w.base ≡ Some base.0 = base-read s v w looked.log looked.reads ∙ base.1 in
    let rose = g.V.Tool.Tool.faults c.args.tool.now < g.V.Tool.Tool.faults c.leaving_of.new.tool in
    let ready : IsLeaving s.meaning s.boot rose (items looked.log) c.args.v k stamp (Ok (leaving.Plain c.in-Ok-Plain.number c.in-Ok-Plain.text)) =
    ready-here g.V.Versions.meaning base.0 c.args.lent.now.versions.now c.args.lent.now.boot rose (items looked.log) c.args.v k stamp c.look-looked.result (Ok c.in-Ok-Plain.field-0) (Ok (leaving.Plain c.in-Ok-Plain.number c.in-Ok-Plain.text)) versions boots
    looked.reads.few looked.sees c.in-Ok-Plain.ensures.ready (ap (λ (x : Leaving). Ok x) c.in-Ok-Plain.field-0-is) in
    (base.0, there, plain-free s v w looked.log k c.in-Ok-Plain.number c.in-Ok-Plain.text.bytes looked.reads ready)

pub told_removed-requires : goal.told_removed-requires
told_removed-requires g c = record {
  removes = λ rv born is.
      let base = c.requires.base in
      let s = server_of g.V.Versions.meaning base.0 in
      let looked = c.look-looked.ensures.looks base.0 base.1 in
      let there = base-read s c.args.pass.now.seat.me.0 c.look-looked.new.pass.seat.me.0 looked.log looked.reads ∙ base.1 in
      let commits = c.remove-end.ensures.commits base.0 there in
      delete-never (revision (items commits.log) + 1) (state s.meaning (items commits.log)) c.args.v c.args.key.now c.in-Ok-Plain.number rv born (sym is ∙ commits.ends);
}

pub returns-in-Ok-Plain-clause-tries : goal.returns-in-Ok-Plain-clause-tries
returns-in-Ok-Plain-clause-tries g c b is =
    let base = c.requires.base in
    let same : base.0 ≡ b = (let first = base.1 in cc (first, is)) in
    let versions = base.2 ∙ ap (λ (x : CoreBase g.row.V.Denot). x.versions) same in
    let boots = base.3 ∙ ap (λ (x : CoreBase g.row.V.Denot). x.boot) same in
    let s = server_of g.V.Versions.meaning b in
    let v = c.args.pass.now.seat.me.0 in
    let w = c.look-looked.new.pass.seat.me.0 in
    let k = c.args.key.now in
    let stamp = c.args.stamp.text in
    let looked = c.look-looked.ensures.looks b is in
    let there : w.base ≡ Some b = base-read s v w looked.log looked.reads ∙ is in
    let rose = g.V.Tool.Tool.faults c.args.tool.now < g.V.Tool.Tool.faults c.leaving_of.new.tool in
    let ready : IsLeaving s.meaning s.boot rose (items looked.log) c.args.v k stamp (Ok (leaving.Plain c.in-Ok-Plain.number c.in-Ok-Plain.text)) =
    ready-here g.V.Versions.meaning b c.args.lent.now.versions.now c.args.lent.now.boot rose (items looked.log) c.args.v k stamp c.look-looked.result (Ok c.in-Ok-Plain.field-0) (Ok (leaving.Plain c.in-Ok-Plain.number c.in-Ok-Plain.text)) versions boots
    looked.reads.few looked.sees c.in-Ok-Plain.ensures.ready (ap (λ (x : Leaving). Ok x) c.in-Ok-Plain.field-0-is) in
    removed-tries s rose v w c.remove-end.new.pass.seat.me.0 looked.log c.args.v k c.in-Ok-Plain.number c.in-Ok-Plain.text.bytes stamp (delete_end c.remove-end.result) c.told_removed.result
    looked.reads ready (c.remove-end.ensures.commits b there) c.told_removed.ensures

pub mark-end-requires-clause-sized : goal.mark-end-requires-clause-sized
mark-end-requires-clause-sized g c =
    let base = c.requires.base in
    let versions = base.2 in
    let boots = base.3 in
    let s = server_of g.V.Versions.meaning base.0 in
    let v = c.args.pass.now.seat.me.0 in
    let w = c.look-looked.new.pass.seat.me.0 in
    let k = c.args.key.now in
    let stamp = c.args.stamp.text in
    let looked = c.look-looked.ensures.looks base.0 base.1 in
    let there : w.base ≡ Some base.0 = base-read s v w looked.log looked.reads ∙ base.1 in
    let rose = g.V.Tool.Tool.faults c.args.tool.now < g.V.Tool.Tool.faults c.leaving_of.new.tool in
    let ready : IsLeaving s.meaning s.boot rose (items looked.log) c.args.v k stamp (Ok (leaving.Mark c.in-Ok-Mark.number c.in-Ok-Mark.born c.in-Ok-Mark.new c.in-Ok-Mark.sealed c.in-Ok-Mark.hub)) =
    ready-here g.V.Versions.meaning base.0 c.args.lent.now.versions.now c.args.lent.now.boot rose (items looked.log) c.args.v k stamp c.look-looked.result (Ok c.in-Ok-Mark.field-0) (Ok (leaving.Mark c.in-Ok-Mark.number c.in-Ok-Mark.born c.in-Ok-Mark.new c.in-Ok-Mark.sealed c.in-Ok-Mark.hub)) versions boots
    looked.reads.few looked.sees c.in-Ok-Mark.ensures.ready (ap (λ (x : Leaving). Ok x) c.in-Ok-Mark.field-0-is) in
    ready.sized

pub mark-end-requires-clause-known : goal.mark-end-requires-clause-known
mark-end-requires-clause-known g c =
    let base = c.requires.base in
    let versions = base.2 in
    let boots = base.3 in
    let s = server_of g.V.Versions.meaning base.0 in
    let v = c.args.pass.now.seat.me.0 in
    let w = c.look-looked.new.pass.seat.me.0 in
    let k = c.args.key.now in
    let stamp = c.args.stamp.text in
    let looked = c.look-looked.ensures.looks base.0 base.1 in
    let there : w.base ≡ Some base.0 = base-read s v w looked.log looked.reads ∙ base.1 in
    let rose = g.V.Tool.Tool.faults c.args.tool.now < g.V.Tool.Tool.faults c.leaving_of.new.tool in
    let ready : IsLeaving s.meaning s.boot rose (items looked.log) c.args.v k stamp (Ok (leaving.Mark c.in-Ok-Mark.number c.in-Ok-Mark.born c.in-Ok-Mark.new c.in-Ok-Mark.sealed c.in-Ok-Mark.hub)) =
    ready-here g.V.Versions.meaning base.0 c.args.lent.now.versions.now c.args.lent.now.boot rose (items looked.log) c.args.v k stamp c.look-looked.result (Ok c.in-Ok-Mark.field-0) (Ok (leaving.Mark c.in-Ok-Mark.number c.in-Ok-Mark.born c.in-Ok-Mark.new c.in-Ok-Mark.sealed c.in-Ok-Mark.hub)) versions boots
    looked.reads.few looked.sees c.in-Ok-Mark.ensures.ready (ap (λ (x : Leaving). Ok x) c.in-Ok-Mark.field-0-is) in
    (base.0, there, ready.prepares, marked-known s v w looked.log c.args.v k c.in-Ok-Mark.number c.in-Ok-Mark.born stamp c.in-Ok-Mark.new c.in-Ok-Mark.sealed (object_of c.in-Ok-Mark.hub) looked.reads ready)

pub told_marked-requires-clause-keeps : goal.told_marked-requires-clause-keeps
told_marked-requires-clause-keeps g c = λ rv born is.
    let base = c.requires.base in
    let s = server_of g.V.Versions.meaning base.0 in
    let looked = c.look-looked.ensures.looks base.0 base.1 in
    let there = base-read s c.args.pass.now.seat.me.0 c.look-looked.new.pass.seat.me.0 looked.log looked.reads ∙ base.1 in
    let commits = c.mark-end.ensures.commits base.0 there in
    mark-never (revision (items commits.log) + 1) (state s.meaning (items commits.log)) c.args.v c.in-Ok-Mark.new.at c.args.key.now c.in-Ok-Mark.number c.args.stamp.text rv born (sym is ∙ commits.ends)

pub told_marked-requires-clause-born : goal.told_marked-requires-clause-born
told_marked-requires-clause-born g c =
    let base = c.requires.base in
    let versions = base.2 in
    let boots = base.3 in
    let s = server_of g.V.Versions.meaning base.0 in
    let v = c.args.pass.now.seat.me.0 in
    let w = c.look-looked.new.pass.seat.me.0 in
    let k = c.args.key.now in
    let stamp = c.args.stamp.text in
    let looked = c.look-looked.ensures.looks base.0 base.1 in
    let there : w.base ≡ Some base.0 = base-read s v w looked.log looked.reads ∙ base.1 in
    let rose = g.V.Tool.Tool.faults c.args.tool.now < g.V.Tool.Tool.faults c.leaving_of.new.tool in
    let ready : IsLeaving s.meaning s.boot rose (items looked.log) c.args.v k stamp (Ok (leaving.Mark c.in-Ok-Mark.number c.in-Ok-Mark.born c.in-Ok-Mark.new c.in-Ok-Mark.sealed c.in-Ok-Mark.hub)) =
    ready-here g.V.Versions.meaning base.0 c.args.lent.now.versions.now c.args.lent.now.boot rose (items looked.log) c.args.v k stamp c.look-looked.result (Ok c.in-Ok-Mark.field-0) (Ok (leaving.Mark c.in-Ok-Mark.number c.in-Ok-Mark.born c.in-Ok-Mark.new c.in-Ok-Mark.sealed c.in-Ok-Mark.hub)) versions boots
    looked.reads.few looked.sees c.in-Ok-Mark.ensures.ready (ap (λ (x : Leaving). Ok x) c.in-Ok-Mark.field-0-is) in
    ready.early

pub told_marked-requires-clause-room : goal.told_marked-requires-clause-room
told_marked-requires-clause-room g c =
    let base = c.requires.base in
    let versions = base.2 in
    let boots = base.3 in
    let s = server_of g.V.Versions.meaning base.0 in
    let v = c.args.pass.now.seat.me.0 in
    let w = c.look-looked.new.pass.seat.me.0 in
    let k = c.args.key.now in
    let stamp = c.args.stamp.text in
    let looked = c.look-looked.ensures.looks base.0 base.1 in
    let there : w.base ≡ Some base.0 = base-read s v w looked.log looked.reads ∙ base.1 in
    let rose = g.V.Tool.Tool.faults c.args.tool.now < g.V.Tool.Tool.faults c.leaving_of.new.tool in
    let ready : IsLeaving s.meaning s.boot rose (items looked.log) c.args.v k stamp (Ok (leaving.Mark c.in-Ok-Mark.number c.in-Ok-Mark.born c.in-Ok-Mark.new c.in-Ok-Mark.sealed c.in-Ok-Mark.hub)) =
    ready-here g.V.Versions.meaning base.0 c.args.lent.now.versions.now c.args.lent.now.boot rose (items looked.log) c.args.v k stamp c.look-looked.result (Ok c.in-Ok-Mark.field-0) (Ok (leaving.Mark c.in-Ok-Mark.number c.in-Ok-Mark.born c.in-Ok-Mark.new c.in-Ok-Mark.sealed c.in-Ok-Mark.hub)) versions boots
    looked.reads.few looked.sees c.in-Ok-Mark.ensures.ready (ap (λ (x : Leaving). Ok x) c.in-Ok-Mark.field-0-is) in
    ready.seals.2.room

pub returns-in-Ok-Mark-clause-tries : goal.returns-in-Ok-Mark-clause-tries
returns-in-Ok-Mark-clause-tries g c b is =
    let base = c.requires.base in
    let same : base.0 ≡ b = (let first = base.1 in cc (first, is)) in
    let versions = base.2 ∙ ap (λ (x : CoreBase g.row.V.Denot). x.versions) same in
    let boots = base.3 ∙ ap (λ (x : CoreBase g.row.V.Denot). x.boot) same in
    let s = server_of g.V.Versions.meaning b in
    let v = c.args.pass.now.seat.me.0 in
    let w = c.look-looked.new.pass.seat.me.0 in
    let k = c.args.key.now in
    let stamp = c.args.stamp.text in
    let looked = c.look-looked.ensures.looks b is in
    let there : w.base ≡ Some b = base-read s v w looked.log looked.reads ∙ is in
    let rose = g.V.Tool.Tool.faults c.args.tool.now < g.V.Tool.Tool.faults c.leaving_of.new.tool in
    let ready : IsLeaving s.meaning s.boot rose (items looked.log) c.args.v k stamp (Ok (leaving.Mark c.in-Ok-Mark.number c.in-Ok-Mark.born c.in-Ok-Mark.new c.in-Ok-Mark.sealed c.in-Ok-Mark.hub)) =
    ready-here g.V.Versions.meaning b c.args.lent.now.versions.now c.args.lent.now.boot rose (items looked.log) c.args.v k stamp c.look-looked.result (Ok c.in-Ok-Mark.field-0) (Ok (leaving.Mark c.in-Ok-Mark.number c.in-Ok-Mark.born c.in-Ok-Mark.new c.in-Ok-Mark.sealed c.in-Ok-Mark.hub)) versions boots
    looked.reads.few looked.sees c.in-Ok-Mark.ensures.ready (ap (λ (x : Leaving). Ok x) c.in-Ok-Mark.field-0-is) in
    let tells = subst (λ (n : ℕ). TellsMark n k.name c.in-Ok-Mark.sealed c.in-Ok-Mark.born (delete_end c.mark-end.result) c.told_marked.result) boots c.told_marked.ensures in
    marked-tries s rose v w c.mark-end.new.pass.seat.me.0 looked.log c.args.v k c.in-Ok-Mark.number c.in-Ok-Mark.born stamp c.in-Ok-Mark.new c.in-Ok-Mark.sealed (object_of c.in-Ok-Mark.hub)
    (delete_end c.mark-end.result) c.told_marked.result looked.reads ready (c.mark-end.ensures.commits b there) tells
