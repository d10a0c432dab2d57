use Rattle.std.proofs.Common.{List, ℕ, subst, sym, ◌∙◌}
use Rattle.kube_meta.specs.View.{object_of}
use Rattle.api_calls.specs.Versions.{IsStored}
use Rattle.call_texts.proofs.Showing.{shown_other}
use Rattle.call_texts.proofs.context.Context.converted.Goals as goal

pub returns-clause-shows : goal.returns-clause-shows
returns-clause-shows g c = λ h is.
    let it = c.args.self.now.versions.now in
    let read = subst (λ (bs : List ℕ). IsStored (g.V.Versions.meaning it) c.args.seen.now.at (object_of c.in_ok-hub.hub) bs)
    (c.as_bytes-bytes.ensures.value ∙ c.as_str.ensures) c.in_ok-hub.ensures.ok in
    shown_other (g.V.Versions.meaning it) c.args.self.now.boot c.args.v (object_of c.in_ok-hub.hub) h c.args.seen.now.rv c.args.seen.now.born c.in_ok-text.text.bytes
    (λ honest. c.one_stored.ensures it c.args.seen.now.at (object_of c.in_ok-hub.hub) h c.args.seen.now.bytes.bytes (sym (g.met.V.Versions.told it) ∙ honest) read is)
    c.in_ok-text.ensures.shown
