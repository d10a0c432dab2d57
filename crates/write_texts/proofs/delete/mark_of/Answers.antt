use Rattle.std.proofs.Common.{List, ℕ, ap, sym, subst, ◌∙◌}
use Rattle.kube_meta.specs.View.{ObjectView, object_of}
use Rattle.api_calls.specs.Legal.{key_of}
use Rattle.api_calls.specs.Meaning.{Weighs}
use Rattle.api_calls.specs.Versions.{IsStored}
use Rattle.write_texts.proofs.DeleteLooks.{marks-ready}
use Rattle.write_texts.proofs.delete.mark_of.Goals as goal

pub hub_of-requires : goal.hub_of-requires
hub_of-requires g c =
    let it = c.args.lent.now.versions.now in
    let said = c.requires.said in (
      said.value,
      subst (λ (bs : List ℕ). IsStored (g.V.Versions.meaning it) c.args.seen.now.at said.value bs) (sym (c.as_bytes-bytes.ensures.value ∙ c.as_str.ensures)) said.stored,
    )

pub prepare_mark-requires-clause-whole : goal.prepare_mark-requires-clause-whole
prepare_mark-requires-clause-whole g c = c.in_ok-old.ensures.ok.whole

pub prepare_mark-requires-clause-key : goal.prepare_mark-requires-clause-key
prepare_mark-requires-clause-key g c = λ honest.
    let it = c.args.lent.now.versions.now in
    let said = c.requires.said in
    let read = subst (λ (bs : List ℕ). IsStored (g.V.Versions.meaning it) c.args.seen.now.at (object_of c.in_ok-old.old) bs) (c.as_bytes-bytes.ensures.value ∙ c.as_str.ensures) c.in_ok-old.ensures.ok in
    ap key_of (c.one_stored.ensures it c.args.seen.now.at (object_of c.in_ok-old.old) said.value c.args.seen.now.bytes.bytes (sym (g.met.V.Versions.told it) ∙ honest) read said.stored)
    ∙ said.key honest

pub prepare_mark-requires-clause-weighs : goal.prepare_mark-requires-clause-weighs
prepare_mark-requires-clause-weighs g c = λ honest.
    let it = c.args.lent.now.versions.now in
    let said = c.requires.said in
    let read = subst (λ (bs : List ℕ). IsStored (g.V.Versions.meaning it) c.args.seen.now.at (object_of c.in_ok-old.old) bs) (c.as_bytes-bytes.ensures.value ∙ c.as_str.ensures) c.in_ok-old.ensures.ok in
    let same = c.one_stored.ensures it c.args.seen.now.at (object_of c.in_ok-old.old) said.value c.args.seen.now.bytes.bytes (sym (g.met.V.Versions.told it) ∙ honest) read said.stored in
    subst (λ (x : ObjectView). Weighs (g.V.Versions.meaning it) x c.args.seen.now.weight) (sym same) (said.weighs honest)

pub prepare_mark-requires-clause-counts : goal.prepare_mark-requires-clause-counts
prepare_mark-requires-clause-counts g c = λ honest.
    let it = c.args.lent.now.versions.now in
    let said = c.requires.said in
    let read = subst (λ (bs : List ℕ). IsStored (g.V.Versions.meaning it) c.args.seen.now.at (object_of c.in_ok-old.old) bs) (c.as_bytes-bytes.ensures.value ∙ c.as_str.ensures) c.in_ok-old.ensures.ok in
    let same = c.one_stored.ensures it c.args.seen.now.at (object_of c.in_ok-old.old) said.value c.args.seen.now.bytes.bytes (sym (g.met.V.Versions.told it) ∙ honest) read said.stored in
    ((said.generation honest).0, ap (λ (x : ObjectView). x.meta.generation) same ∙ (said.generation honest).1)

pub returns-clause-marks : goal.returns-clause-marks
returns-clause-marks g c = λ h is.
    let it = c.args.lent.now.versions.now in
    let read = subst (λ (bs : List ℕ). IsStored (g.V.Versions.meaning it) c.args.seen.now.at (object_of c.in_ok-old.old) bs) (c.as_bytes-bytes.ensures.value ∙ c.as_str.ensures) c.in_ok-old.ensures.ok in
    marks-ready (g.V.Versions.meaning it) c.args.v c.args.storage c.args.key.now c.args.stamp.text c.args.seen.now h (object_of c.in_ok-old.old) c.prepare_mark.result
    (λ honest. c.one_stored.ensures it c.args.seen.now.at (object_of c.in_ok-old.old) h c.args.seen.now.bytes.bytes (sym (g.met.V.Versions.told it) ∙ honest) read is)
    c.prepare_mark.ensures.ready c.prepare_mark.ensures.value
