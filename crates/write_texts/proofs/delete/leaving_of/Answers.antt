use Rattle.std.proofs.Common.{◌+◌, ◌<◌, ℕ, List, None, Err, ap, sym, subst, ◌∙◌}
use Rattle.std.specs.Prelude.{IfOk, Result}
use Rattle.kj_value.specs.declared.error.NoMemory.{NoMemory}
use Rattle.api_calls.specs.Refusal.{not_found}
use Rattle.api_calls.specs.Replies.{DeleteReply}
use Rattle.api_calls.specs.State.{revision, served, state}
use Rattle.api_calls.specs.Versions.{AreFlags}
use Rattle.api_core.specs.Prepared.{Sees}
use Rattle.api_core.specs.declared.seen.Peeked.{Peeked}
use Rattle.write_texts.proofs.DeleteLooks.{leaving-at, missing, not-found, seen-said}
use Rattle.call_texts.proofs.Showing.{seen_born}
use Rattle.write_texts.proofs.delete.leaving_of.Goals as goal

pub leaving_seen-requires-clause-known : goal.leaving_seen-requires-clause-known
leaving_seen-requires-clause-known g c =
    let m = g.V.Versions.meaning c.args.lent.now.versions.now in
    c.is_served.ensures.known m.count (subst (λ (r : Result Peeked NoMemory). IfOk r (λ p. AreFlags m.count p.flags)) c.in_ok-peeked.was c.requires.flags) c.if-not-is_served.false

pub leaving_seen-requires-clause-storage : goal.leaving_seen-requires-clause-storage
leaving_seen-requires-clause-storage g c =
    let m = g.V.Versions.meaning c.args.lent.now.versions.now in
    (subst (λ (r : Result Peeked NoMemory). IfOk r (λ p. AreFlags m.count p.flags)) c.in_ok-peeked.was c.requires.flags).storage

pub leaving_seen-requires-clause-born : goal.leaving_seen-requires-clause-born
leaving_seen-requires-clause-born g c =
    let m = g.V.Versions.meaning c.args.lent.now.versions.now in
    let known = c.requires.sees in
    seen_born m known.0 c.args.key.now c.in_ok-peeked.peeked c.in-Some.seen
    (subst (λ (r : Result Peeked NoMemory). IfOk r (λ p. Sees m known.0 c.args.key.now p)) c.in_ok-peeked.was known.4) c.in-Some.is known.3

pub leaving_seen-requires-clause-said : goal.leaving_seen-requires-clause-said
leaving_seen-requires-clause-said g c =
    let it = c.args.lent.now.versions.now in
    let m = g.V.Versions.meaning it in
    let known = c.requires.sees in
    seen-said m known.1 known.0 c.args.key.now c.in_ok-peeked.peeked c.in-Some.seen (g.met.V.Versions.unstamped it) known.2
    (subst (λ (r : Result Peeked NoMemory). IfOk r (λ p. Sees m known.0 c.args.key.now p)) c.in_ok-peeked.was known.4)
    (subst (λ (r : Result Peeked NoMemory). IfOk r (λ p. AreFlags m.count p.flags)) c.in_ok-peeked.was c.requires.flags) c.in-Some.is

pub returns-clause-ready : goal.returns-clause-ready
returns-clause-ready g c = λ log few looked.
    let m = g.V.Versions.meaning c.args.lent.now.versions.now in
    let sees : Sees m log c.args.key.now c.in_ok-peeked.peeked =
    subst (λ (r : Result Peeked NoMemory). IfOk r (λ p. Sees m log c.args.key.now p)) c.in_ok-peeked.was looked in
    let may = ap (λ f. served f c.args.v) (sym sees.flags) ∙ sym c.is_served.ensures.served ∙ c.if-not-is_served.false in
    leaving-at m c.args.lent.now.boot log c.args.v c.args.key.now c.args.stamp.text (g.V.Tool.Tool.faults c.args.tool.now < g.V.Tool.Tool.faults c.leaving_seen.new.tool)
    c.in_ok-peeked.peeked c.in-Some.seen c.leaving_seen.result sees c.in-Some.is may few c.leaving_seen.ensures.leaves

pub returns-in_default-clause-ready : goal.returns-in_default-clause-ready
returns-in_default-clause-ready g c = λ log few looked body serves.
    let m = g.V.Versions.meaning c.args.lent.now.versions.now in
    let sees : Sees m log c.args.key.now c.in_ok-peeked.peeked =
    subst (λ (r : Result Peeked NoMemory). IfOk r (λ p. Sees m log c.args.key.now p)) c.in_ok-peeked.was looked in
    let may = ap (λ f. served f c.args.v) (sym sees.flags) ∙ sym c.is_served.ensures.served ∙ c.if-not-is_served.false in
    subst
    (λ (n : List ℕ). DeleteReply m c.args.lent.now.boot (revision log + 1) (state m log) c.args.v body c.args.key.now c.args.stamp.text (Err (not_found n)) None)
    (sym (c.in_ok-name.ensures ∙ c.name.ensures.value))
    (missing m c.args.lent.now.boot log c.args.v c.args.key.now c.args.stamp.text may (not-found m log c.args.key.now c.in_ok-peeked.peeked sees c.in_default.is) body serves)
