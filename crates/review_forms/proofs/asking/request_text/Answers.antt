use Rattle.std.proofs.Common.{◌≡◌, ◌∙◌, ◌++◌, ℕ, List, ap, sym}
use Rattle.kj_value.specs.Json.{items_of}
use Rattle.kj_value.specs.Text.{items_text, quoted}
use Rattle.review_forms.specs.Page.{PageView}
use Rattle.review_forms.specs.Spelling.{request_front, request_middle, request_end, review_end}
use Rattle.review_forms.proofs.Spelled.{request-text}
use Rattle.review_forms.proofs.asking.request_text.Goals as goal

pub returns : goal.returns
unfolding request_front request_middle request_end review_end
returns c =
    let text : PageView → List ℕ = λ p. p.text in
    let one : c.add.new.self.text ≡ request_front = ap text c.in_ok-add.ensures ∙ ap (λ (p : PageView). p.text ++ request_front) c.in_ok-page.ensures in
    let two : c.add-2.new.self.text ≡ c.add.new.self.text ++ quoted c.args.desired.now =
    ap text c.in_ok-add-2.ensures ∙ ap (λ (s : List ℕ). c.add.new.self.text ++ s) (c.as_str.ensures ∙ (c.in_ok-quoted.ensures ∙ ap quoted c.in_ok-of.ensures)) in
    let three : c.add-3.new.self.text ≡ c.add-2.new.self.text ++ request_middle = ap text c.in_ok-add-3.ensures in
    let four : c.add_items.new.page.text ≡ c.add-3.new.self.text ++ items_text (items_of c.args.objects.now) = ap text c.in_ok-add_items.ensures in
    let five : c.add-4.new.self.text ≡ c.add_items.new.page.text ++ request_end = ap text c.in_ok-add-4.ensures in
    let six : c.add-5.new.self.text ≡ c.add-4.new.self.text ++ quoted c.args.uid.now =
    ap text c.in_ok-add-5.ensures ∙ ap (λ (s : List ℕ). c.add-4.new.self.text ++ s) (c.as_str-2.ensures ∙ (c.in_ok-quoted-2.ensures ∙ ap quoted c.in_ok-of-2.ensures)) in
    let seven : c.add-6.new.self.text ≡ c.add-5.new.self.text ++ review_end = ap text c.in_ok-add-6.ensures in
    c.into_txt.ensures.text
    ∙ (seven
    ∙ (ap (λ (s : List ℕ). s ++ review_end) (six
    ∙ ap (λ (s : List ℕ). s ++ quoted c.args.uid.now) (five
    ∙ ap (λ (s : List ℕ). s ++ request_end) (four
    ∙ ap (λ (s : List ℕ). s ++ items_text (items_of c.args.objects.now)) (three
    ∙ ap (λ (s : List ℕ). s ++ request_middle) (two ∙ ap (λ (s : List ℕ). s ++ quoted c.args.desired.now) one)))))
    ∙ sym (request-text (record { uid = c.args.uid.now; desired = c.args.desired.now; objects = c.args.objects.now }))))
