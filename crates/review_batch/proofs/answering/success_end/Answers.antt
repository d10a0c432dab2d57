use Rattle.std.proofs.Common.{◌≡◌, ◌∙◌, ◌++◌, ℕ, List, ap}
use Rattle.kj_value.specs.Text.{quoted}
use Rattle.review_forms.specs.Page.{PageView}
use Rattle.review_forms.specs.Spelling.{review_end}
use Rattle.review_batch.specs.inner.Spelling.{success_middle}
use Rattle.review_batch.proofs.answering.success_end.Goals as goal

pub returns-clause-text : goal.returns-clause-text
unfolding success_middle review_end
returns-clause-text c =
    let one : c.add.new.self.text ≡ c.args.page.text ++ success_middle = ap (λ (p : PageView). p.text) c.in_ok-add.ensures in
    let two : c.add-2.new.self.text ≡ c.add.new.self.text ++ quoted c.args.uid.bytes =
    ap (λ (p : PageView). p.text) c.in_ok-add-2.ensures ∙ ap (λ (s : List ℕ). c.add.new.self.text ++ s) (c.as_str.ensures ∙ c.in_ok-quoted.ensures) in
    let three : c.add-3.new.self.text ≡ c.add-2.new.self.text ++ review_end = ap (λ (p : PageView). p.text) c.in_ok-add-3.ensures in
    c.into_txt.ensures.text ∙ (three ∙ ap (λ (s : List ℕ). s ++ review_end) (two ∙ ap (λ (s : List ℕ). s ++ quoted c.args.uid.bytes) one))
