use Rattle.std.proofs.Common.{◌≡◌, Bool, true, false, Decides, refl, rules}
use Rattle.std.specs.Prelude.{◌↔◌, IsTrue}
use Rattle.std.proofs.lemmas.Bool.{false≢true}
use Rattle.kj_value.specs.Json.{Json}
use Rattle.kj_value.specs.Same.{json_same}
use Rattle.kj_value.specs.laws.SameLaws.{json_same-Decides}
use Rattle.kj_value.specs.Seen.{json}
use Rattle.review_forms.proofs.sameness.same_there.Goals as goal

told : (b : Bool) (x y : Json) → IsTrue b ↔ (x ≡ y) → b ≡ json_same x y
told b x y h = by_test b (json_same x y) h (json_same-Decides x y)
  where
    by_test : (b s : Bool) → IsTrue b ↔ (x ≡ y) → Decides s (x ≡ y) → b ≡ s
    by_test true true h d = refl
    by_test true false h d = absurd (false≢true (d.1 (h.0 (search rules))))
    by_test false true h d = h.1 (d.0 refl)
    by_test false false h d = refl

pub returns-in-Some-Some : goal.returns-in-Some-Some
returns-in-Some-Some c =
    rw (c.in-Some-Some.is-0, c.in-Some-Some.is-1) (told c.same.result (json c.in-Some-Some.a.now) (json c.in-Some-Some.b.now) c.same.ensures)
