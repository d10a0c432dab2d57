use Rattle.std.proofs.Common.{◌≡◌, ◌∙◌, List, ℕ, subst}
use Rattle.std.specs.Prelude.{IfOk}
use Rattle.kj_value.specs.Text.{text_of}
use Rattle.api_calls.specs.Refusal.{RefusalView, refusal_of}
use Rattle.api_calls.specs.Reply.{ReplyView, reply_of}
use Rattle.api_calls.specs.Status.{code_of_refusal, status_of}
use Rattle.http_routes.specs.Paths.{migrations_word}
use Rattle.request_replies.specs.Replies.{refusal_text}
use Rattle.http_front.proofs.reply.refuse.Goals as goal

-- the reply that names a resource
abbrev reply_about : RefusalView → List ℕ → List ℕ → ReplyView
reply_about e plural group = record { code = code_of_refusal e; text = text_of (status_of e plural group) }

pub returns-in-Objects : goal.returns-in-Objects
unfolding refusal_text
returns-in-Objects g c =
    let e = refusal_of c.args.refusal.now in
    let m = g.V.Versions.meaning c.args.versions.now in
    rw c.in-Objects.is (subst (λ (n : List ℕ). IfOk c.status_reply.result (λ r. reply_of r ≡ reply_about e m.plural n)) (c.as_str-group.ensures ∙ c.group.ensures)
    (subst (λ (p : List ℕ). IfOk c.status_reply.result (λ r. reply_of r ≡ reply_about e p c.as_str-group.result.now)) (c.as_str-plural.ensures ∙ c.plural.ensures)
    c.status_reply.ensures))

pub returns-in-Migrations : goal.returns-in-Migrations
unfolding refusal_text
returns-in-Migrations g c =
    let e = refusal_of c.args.refusal.now in
    rw c.in-Migrations.is (subst (λ (n : List ℕ). IfOk c.status_reply-in-Migrations.result (λ r. reply_of r ≡ reply_about e migrations_word n)) c.migrations_group.ensures
    (subst (λ (p : List ℕ). IfOk c.status_reply-in-Migrations.result (λ r. reply_of r ≡ reply_about e p c.migrations_group.result.now)) c.migrations.ensures
    c.status_reply-in-Migrations.ensures))
