use Rattle.std.proofs.Common.{ℕ, subst, sym}
use Rattle.kube_meta.specs.View.{ObjectView}
use Rattle.api_calls.specs.Replies.{IsShown}
use Rattle.api_calls.specs.Versions.{IsStored}
use Rattle.call_texts.proofs.context.Context.render.Goals as goal

pub returns-then-v-seen-clause-shows : goal.returns-then-v-seen-clause-shows
returns-then-v-seen-clause-shows g c =
    let m = g.V.Versions.meaning c.args.self.now.versions.now in
    let s = c.args.seen.now in
    subst (λ (n : ℕ). (h : ObjectView) → IsStored m s.at h s.bytes.bytes → IsShown m c.args.self.now.boot n h s.rv s.born c.in_ok-text.text.bytes) (sym c.if-v-seen.true) c.in_ok-text.ensures
