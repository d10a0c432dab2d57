-- Objects that are put back, and what is read of a text.
use Rattle.std.proofs.Common.{◌≡◌, ◌∙◌, ℕ, suc, ◌≤◌, max, List, [], ◌∷◌, Option, Some, None, Result, Ok, Err, Ordering, Less, Equal, Greater, nat_cmp, ap, sym, subst, arith}
use Rattle.std.specs.Prelude.{codes, IfOk, MatchOption}
use Rattle.std.specs.Ordering.{match_ordering}
use Rattle.std.specs.Cmp.Lexicographic.{slice_cmp}
use Rattle.kj_value.specs.Fields.{Pairs, with_field}
use Rattle.kj_value.specs.Json.{Json, text, object, members_of, depth, members_depth}
use Rattle.kj_value.specs.KindLaws.{pairs_members}
use Rattle.kj_value.specs.Reading.{Reads}
use Rattle.kj_value.specs.Seen.{json}
use Rattle.kj_value.specs.Text.{text_of}
use Rattle.kj_value.specs.declared.error.NoMemory.{NoMemory}
use Rattle.kj_value.specs.declared.reading.TheConstants.{MAX_JSON_LEVELS}
use Rattle.kj_value.specs.declared.txt.Txt.{Txt}
use Rattle.kj_value.specs.declared.value.JVal.{JVal}
use Rattle.drill_requests.specs.Bodies.{other_port}
use Rattle.drill_requests.specs.Replies.{AsRead, value, no_value, IsEdited, edited, items_in, version_in}

-- the greatest depth of a field's value
abbrev most : Pairs → ℕ
most ps = members_depth (members_of ps)

most-with : (n : ℕ) (k s : List ℕ) (ps : Pairs) → most ps ≤ n → most (with_field k (text s) ps) ≤ n
most-with n k s [] low = omega arith
most-with n k s (e ∷ es) low = by_order (most-with n k s es (omega (arith, low))) (slice_cmp nat_cmp k e.0)
  where
    by_order : most (with_field k (text s) es) ≤ n → (o : Ordering) → most (match_ordering o ((k, text s) ∷ e ∷ es) ((e.0, text s) ∷ es) (e ∷ with_field k (text s) es)) ≤ n
    by_order more Less = omega (arith, low)
    by_order more Equal = omega (arith, low)
    by_order more Greater = omega (arith, low, more)

-- an object with another `hostPort`
pub with_port : (t : ℕ) (j : Json) (fields after : Pairs) → j ≡ object (members_of fields) → after ≡ with_field (codes "hostPort") (text (other_port t)) fields
    → object (members_of after) ≡ edited t j
with_port t j fields after is set =
    ap (λ (ps : Pairs). object (members_of ps)) set
    ∙ ap (λ (ps : Pairs). object (members_of (with_field (codes "hostPort") (text (other_port t)) ps))) (sym (pairs_members fields))
    ∙ ap (λ (x : Json). edited t x) (sym is)

pub within : (t n : ℕ) (j : Json) (fields after : Pairs) → j ≡ object (members_of fields) → after ≡ with_field (codes "hostPort") (text (other_port t)) fields → depth j ≤ n
    → suc (members_depth (members_of after)) ≤ n
within t n j fields after is set low =
    let before : depth j ≡ suc (most fields) = ap depth is in
    let now : most after ≡ most (with_field (codes "hostPort") (text (other_port t)) fields) = ap most set in
    let kept : most (with_field (codes "hostPort") (text (other_port t)) fields) ≤ most fields = most-with (most fields) (codes "hostPort") (other_port t) fields (omega arith) in
    omega (arith, before, now, kept, low)

-- a text that reads as a value is put back as the text of what the value was made
pub edited_text : (t : ℕ) (got : List ℕ) (o : Option JVal) (v w : JVal) (r : Result Txt NoMemory) → o ≡ Some v
    → MatchOption o ((j : Json) → Reads got MAX_JSON_LEVELS j → ⊥) (λ x. Reads got MAX_JSON_LEVELS (json x))
    → json w ≡ edited t (json v) → IfOk r (λ x. x.bytes ≡ text_of (json w)) → IfOk r (λ x. IsEdited t got x.bytes)
edited_text t got (Some u) v w (Ok x) is reads same spelled =
    let one : u ≡ v = cc in
    value (json v) (subst (λ (y : JVal). Reads got MAX_JSON_LEVELS (json y)) one reads) (spelled ∙ ap text_of same)
edited_text t got (Some u) v w (Err e) is reads same spelled = tt
edited_text t got None v w r is reads same spelled = absurd cc

-- what is shown of a text that reads as a value
pub shown_value : {X : Type 0} (list : List ℕ) (o : Option JVal) (v : JVal) (r : Result X NoMemory) (P : X → Json → Type 0) (Q : X → Type 0) → o ≡ Some v
    → MatchOption o ((j : Json) → Reads list MAX_JSON_LEVELS j → ⊥) (λ x. Reads list MAX_JSON_LEVELS (json x))
    → IfOk r (λ x. P x (json v)) → IfOk r (λ x. AsRead list (P x) (Q x))
shown_value list (Some u) v (Ok x) P Q is reads shows =
    let one : u ≡ v = cc in
    value (json v) (subst (λ (y : JVal). Reads list MAX_JSON_LEVELS (json y)) one reads) shows
shown_value list (Some u) v (Err e) P Q is reads shows = tt
shown_value list None v r P Q is reads shows = absurd cc
