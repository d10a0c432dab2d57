use Rattle.std.proofs.Common.{◌∙◌, List, ℕ, subst, sym}
use Rattle.std.specs.Prelude.{string_bytes}
use Rattle.call_texts.specs.PageTexts.{Adds, comma_before}
use Rattle.call_texts.proofs.Caching.{added-kept, added-made, shows-object}
use Rattle.call_texts.proofs.context.Context.add_item.Goals as goal

pub returns-then-kept-clause-added : goal.returns-then-kept-clause-added
returns-then-kept-clause-added g c = λ log w cached.
    let it = c.args.self.now.versions.now in
    let m = g.V.Versions.meaning it in
    let s = c.args.seen.now in
    added-kept m c.args.self.now.boot log c.args.v s w (λ a b honest is_a is_b. c.one_stored.ensures it s.at a b s.bytes.bytes (sym (g.met.V.Versions.told it) ∙ honest) is_a is_b)
    c.in_ok-kept.kept (string_bytes c.args.text.now) (comma_before c.args.i) (string_bytes c.add.new.text) (string_bytes c.add_kept.new.text) c.if-kept.true
    (subst (λ (p : List ℕ). Adds (string_bytes c.args.text.now) p (string_bytes c.add.new.text)) c.comma_before.ensures c.in_ok-add.ensures)
    (c.in_ok-kept.ensures.shows log w cached)

pub returns-clause-added : goal.returns-clause-added
returns-clause-added g c = λ log w cached.
    let it = c.args.self.now.versions.now in
    let m = g.V.Versions.meaning it in
    let s = c.args.seen.now in
    added-made m c.args.self.now.boot log c.args.v s w (λ a b honest is_a is_b. c.one_stored.ensures it s.at a b s.bytes.bytes (sym (g.met.V.Versions.told it) ∙ honest) is_a is_b)
    c.in_ok-kept.kept (string_bytes c.args.text.now) (comma_before c.args.i) (string_bytes c.add.new.text) (string_bytes c.add_kept.new.text) c.in_ok-shown.shown.bytes (string_bytes c.add-2.new.text) c.if-kept.false
    (subst (λ (p : List ℕ). Adds (string_bytes c.args.text.now) p (string_bytes c.add.new.text)) c.comma_before.ensures c.in_ok-add.ensures)
    (c.in_ok-kept.ensures.shows log w cached)
    (subst (λ (p : List ℕ). Adds (string_bytes c.add_kept.new.text) p (string_bytes c.add-2.new.text)) c.as_str.ensures c.in_ok-add-2.ensures)
    (shows-object m c.args.self.now.boot log c.args.v s c.in_ok-shown.shown.bytes w c.in_ok-shown.ensures.shows)

pub returns-clause-cached : goal.returns-clause-cached
returns-clause-cached g c = λ log w cached.
    let m = g.V.Versions.meaning c.args.self.now.versions.now in
    c.keep_text.ensures.cached log w (shows-object m c.args.self.now.boot log c.args.v c.args.seen.now c.in_ok-shown.shown.bytes w c.in_ok-shown.ensures.shows) (c.add_kept.ensures.cached log cached)

pub returns-in_err-kept-clause-cached : goal.returns-in_err-kept-clause-cached
returns-in_err-kept-clause-cached g c = λ log w cached. c.add_kept.ensures.cached log cached

pub returns-then-kept-clause-cached : goal.returns-then-kept-clause-cached
returns-then-kept-clause-cached g c = λ log w cached. c.add_kept.ensures.cached log cached

pub returns-in_err-shown-clause-cached : goal.returns-in_err-shown-clause-cached
returns-in_err-shown-clause-cached g c = λ log w cached. c.add_kept.ensures.cached log cached

pub returns-in_err-add-2-clause-cached : goal.returns-in_err-add-2-clause-cached
returns-in_err-add-2-clause-cached g c = λ log w cached. c.add_kept.ensures.cached log cached
