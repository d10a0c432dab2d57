use Rattle.std.proofs.Common.{ap, sym, subst, refl, ◌∙◌}
use Rattle.std.specs.Prelude.{IfOk, Result}
use Rattle.kj_value.specs.declared.error.NoMemory.{NoMemory}
use Rattle.api_calls.specs.Reply.{reply_of}
use Rattle.api_calls.specs.State.{served}
use Rattle.api_calls.specs.Versions.{AreFlags}
use Rattle.api_core.specs.Prepared.{Sees}
use Rattle.api_core.specs.declared.seen.Peeked.{Peeked}
use Rattle.call_texts.proofs.Caching.{looked-reply, was-seen}
use Rattle.call_texts.proofs.Showing.{seen_born}
use Rattle.call_texts.proofs.context.Context.got.Goals as goal

pub show_seen-requires-clause-known : goal.show_seen-requires-clause-known
show_seen-requires-clause-known g c =
    let m = g.V.Versions.meaning c.args.self.now.versions.now in
    c.is_served.ensures.known m.count (subst (λ (r : Result Peeked NoMemory). IfOk r (λ p. AreFlags m.count p.flags)) c.in_ok-peeked.was c.requires.flags) c.if-not-is_served.false

pub show_seen-requires-clause-born : goal.show_seen-requires-clause-born
show_seen-requires-clause-born g c =
    let m = g.V.Versions.meaning c.args.self.now.versions.now in
    let known = c.requires.sees in
    seen_born m known.0 c.args.key.now c.in_ok-peeked.peeked c.in-Some.seen
    (subst (λ (r : Result Peeked NoMemory). IfOk r (λ p. Sees m known.0 c.args.key.now p)) c.in_ok-peeked.was known.1) c.in-Some.is known.2

pub returns-clause-came : goal.returns-clause-came
returns-clause-came g c = λ log looked cached.
    let m = g.V.Versions.meaning c.args.self.now.versions.now in
    let sees : Sees m log c.args.key.now c.in_ok-peeked.peeked =
    subst (λ (r : Result Peeked NoMemory). IfOk r (λ p. Sees m log c.args.key.now p)) c.in_ok-peeked.was looked in
    let may = ap (λ f. served f c.args.v) (sym sees.flags) ∙ sym c.is_served.ensures.served ∙ c.if-not-is_served.false in
    looked-reply m c.args.self.now.boot c.args.v log c.args.key.now c.in_ok-peeked.peeked c.in-Some.seen (reply_of (record { code = 200; text = c.in_ok-text.text })) sees c.in-Some.is may refl
    (λ w. c.in_ok-text.ensures.shows log w cached)

pub returns-clause-cached : goal.returns-clause-cached
returns-clause-cached g c = λ log looked cached.
    let m = g.V.Versions.meaning c.args.self.now.versions.now in
    let sees : Sees m log c.args.key.now c.in_ok-peeked.peeked =
    subst (λ (r : Result Peeked NoMemory). IfOk r (λ p. Sees m log c.args.key.now p)) c.in_ok-peeked.was looked in
    c.show_seen.ensures.cached log (was-seen m log c.args.key.now c.in_ok-peeked.peeked c.in-Some.seen sees c.in-Some.is) cached

pub returns-in_err-text-clause-cached : goal.returns-in_err-text-clause-cached
returns-in_err-text-clause-cached g c = λ log looked cached.
    let m = g.V.Versions.meaning c.args.self.now.versions.now in
    let sees : Sees m log c.args.key.now c.in_ok-peeked.peeked =
    subst (λ (r : Result Peeked NoMemory). IfOk r (λ p. Sees m log c.args.key.now p)) c.in_ok-peeked.was looked in
    c.show_seen.ensures.cached log (was-seen m log c.args.key.now c.in_ok-peeked.peeked c.in-Some.seen sees c.in-Some.is) cached
