use Rattle.std.proofs.Common.{sym, ap, ◌∙◌}
use Rattle.form_cache.specs.Forms.{forms_of}
use Rattle.form_cache.specs.View.{shown}
use Rattle.form_cache.proofs.Shown.{kept-put, there-shown}
use Rattle.form_cache.proofs.cache.FormCache.keep.Goals as goal

pub returns-clause-kept : goal.returns-clause-kept
returns-clause-kept c =
    let es = c.self.inside.forms.entries in let cap = c.self.inside.forms.cap in
    rw (← c.self.view_is) (
    ap (λ x. forms_of (shown x.entries) x.cap) c.in_ok-put.ensures.entries
    ∙ ap (λ fs. forms_of fs cap) (sym (kept-put (record { key = c.args.key; number = c.args.number; version = c.args.version }) c.args.text es cap))
    )

pub returns-in_err-put-clause-replaces : goal.returns-in_err-put-clause-replaces
returns-in_err-put-clause-replaces c =
    rw (← c.self.view_is) (λ h. let there = c.in_err-put.ensures.succeeds (there-shown c.args.key c.args.number c.args.version c.self.inside.forms.entries h) in absurd (cc))
