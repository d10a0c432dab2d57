use Rattle.std.proofs.Common.{◌≡◌, ◌∙◌, ◌++◌, ℕ, List, ap}
use Rattle.kj_value.specs.Text.{quoted}
use Rattle.review_forms.specs.Page.{PageView}
use Rattle.review_forms.specs.Spelling.{review_end}
use Rattle.review_batch.specs.inner.Spelling.{failure_front, failure_middle}
use Rattle.review_batch.proofs.answering.failure.Goals as goal

pub returns-clause-text : goal.returns-clause-text
unfolding failure_front failure_middle review_end
returns-clause-text c =
    let one : c.add.new.self.text ≡ c.args.page.text ++ failure_front = ap (λ (p : PageView). p.text) c.in_ok-add.ensures in
    let two : c.add-2.new.self.text ≡ c.add.new.self.text ++ quoted c.args.message.bytes =
    ap (λ (p : PageView). p.text) c.in_ok-add-2.ensures ∙ ap (λ (s : List ℕ). c.add.new.self.text ++ s) (c.as_str.ensures ∙ c.in_ok-quoted.ensures) in
    let three : c.add-3.new.self.text ≡ c.add-2.new.self.text ++ failure_middle = ap (λ (p : PageView). p.text) c.in_ok-add-3.ensures in
    let four : c.add-4.new.self.text ≡ c.add-3.new.self.text ++ quoted c.args.uid.bytes =
    ap (λ (p : PageView). p.text) c.in_ok-add-4.ensures ∙ ap (λ (s : List ℕ). c.add-3.new.self.text ++ s) (c.as_str-2.ensures ∙ c.in_ok-quoted-2.ensures) in
    let five : c.add-5.new.self.text ≡ c.add-4.new.self.text ++ review_end = ap (λ (p : PageView). p.text) c.in_ok-add-5.ensures in
    c.into_txt.ensures.text
    ∙ (five
    ∙ ap (λ (s : List ℕ). s ++ review_end) (four
    ∙ ap (λ (s : List ℕ). s ++ quoted c.args.uid.bytes) (three ∙ ap (λ (s : List ℕ). s ++ failure_middle) (two ∙ ap (λ (s : List ℕ). s ++ quoted c.args.message.bytes) one))))
