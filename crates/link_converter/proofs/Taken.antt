-- The one object that is taken of a response.
use Rattle.std.proofs.Common.{◌≡◌, ℕ, Bool, true, false, not, nat_eq, List, [], ◌∷◌, length, Option, Some, None, refl, sym, ap, subst, ◌∙◌, arith}
use Rattle.std.proofs.lemmas.Bool.Decides.{nat_tests}
use Rattle.kj_value.specs.Json.{Json}
use Rattle.review_forms.specs.First.{told_if, first_told}
use Rattle.review_forms.specs.Response.{Asked, IsTakenResponse, result_of, succeeded, response_faults, converted_of, is_same_object, all_taken, taken, message_in, object_refusals, refusals, IsRefused, Refusal, not_review, wrong_uid, remote_failed, wrong_count, wrong_version, changed_identity}
use Rattle.review_forms.specs.Form.{has_text, fields_of, part, response_part, review_faults}
use Rattle.std.specs.Prelude.{slice_get, ◌<◌, option_map, codes}
use Rattle.std.specs.List.{position_from, zip}
use Rattle.kj_value.specs.Fields.{field}
use Rattle.link_converter.specs.Asking.{IsOwn}

first_none : {A : Type 0} (o : Option A) (os : List (Option A)) → first_told (o ∷ os) ≡ None → (o ≡ None) × (first_told os ≡ None)
first_none None os e = (refl, e)
first_none (Some a) os e = absurd (cc)

not_told : {A : Type 0} (b : Bool) (a : A) → told_if b a ≡ None → b ≡ false
not_told true a e = absurd (cc)
not_told false a e = refl

same_count : (m n : ℕ) → not (nat_eq m n) ≡ false → m ≡ n
same_count m n e = grind (arith, nat_tests)

-- as many objects as were sent
count_is : (body : List ℕ) (asked : Asked) (ks : List Json) (t : IsTakenResponse body asked ks) → length asked.sent ≡ length (converted_of (part response_part t.review))
count_is body asked ks t =
    let rs = part response_part t.review in
    let given = converted_of rs in
    let places : List (Option Refusal) =
    option_map wrong_version (position_from (λ k. not (has_text asked.desired (field (codes "apiVersion") (fields_of k)))) 0 given)
    ∷ option_map changed_identity (position_from (λ p. not (is_same_object p.0 p.1)) 0 (zip given asked.sent))
    ∷ [] in
    let uid : Option Refusal = told_if (not (has_text asked.uid (field (codes "uid") rs))) wrong_uid in
    let failed : Option Refusal = told_if (not (succeeded rs)) (remote_failed (message_in (result_of rs))) in
    let a = first_none (option_map not_review (first_told (review_faults response_part t.review))) (refusals asked rs) t.nothing in
    let b = first_none (option_map not_review (first_told (response_faults rs))) (uid ∷ failed ∷ object_refusals asked.desired asked.sent given) a.1 in
    let c = first_none uid (failed ∷ object_refusals asked.desired asked.sent given) b.1 in
    let d = first_none failed (object_refusals asked.desired asked.sent given) c.1 in
    let count : Refusal = wrong_count (length asked.sent) (length given) in
    let e = first_none (told_if (not (nat_eq (length asked.sent) (length given))) count) places d.1 in
    same_count (length asked.sent) (length given) (not_told (not (nat_eq (length asked.sent) (length given))) count e.0)

one_of : (ks ss : List Json) → length ss ≡ length ks → length ss ≡ 1 → (k : Json) × (all_taken ks ss ≡ k ∷ [])
one_of (k ∷ []) (s ∷ []) same one = (taken k s, refl)
one_of [] ss same one = absurd (omega (arith, same, one))
one_of (k ∷ ks) [] same one = absurd (omega (arith, one))
one_of (k ∷ l ∷ ks) (s ∷ ss) same one = absurd (omega (arith, same, one))
one_of (k ∷ []) (s ∷ t ∷ ss) same one = absurd (omega (arith, one))

only_taken : (body : List ℕ) (asked : Asked) (ks : List Json) → length asked.sent ≡ 1 → IsTakenResponse body asked ks → (k : Json) × (ks ≡ k ∷ [])
only_taken body asked ks one t =
    let k = one_of (converted_of (part response_part t.review)) asked.sent (count_is body asked ks t) one in
    (k.0, t.objects ∙ k.1)

pub some_taken : (body : List ℕ) (asked : Asked) (ks : List Json) → length asked.sent ≡ 1 → IsTakenResponse body asked ks → 0 < length ks
some_taken body asked ks one t =
    let k = only_taken body asked ks one t in
    let n : length ks ≡ 1 = ap (λ (js : List Json). length js) k.1 in
    omega arith

pub first_taken : (body : List ℕ) (asked : Asked) (y : Json) (ks : List Json) → length asked.sent ≡ 1 → IsTakenResponse body asked ks → slice_get ks 0 ≡ Some y
    → IsTakenResponse body asked (y ∷ [])
first_taken body asked y ks one t first =
    let k = only_taken body asked ks one t in
    let same : Some k.0 ≡ Some y = sym (ap (λ (js : List Json). slice_get js 0) k.1) ∙ first in
    let is : k.0 ≡ y = cc in
    subst (λ (js : List Json). IsTakenResponse body asked js) (k.1 ∙ ap (λ (j : Json). j ∷ []) is) t

-- ---- a refusal that isn't the other side's own

pub left_review : (body path : List ℕ) (asked : Asked) → IsRefused body asked (not_review path) → (r : Refusal) × IsRefused body asked r × (IsOwn r → ⊥)
left_review body path asked is = (not_review path, is, λ own. absurd (cc (own.1)))

pub left_uid : (body : List ℕ) (asked : Asked) → IsRefused body asked wrong_uid → (r : Refusal) × IsRefused body asked r × (IsOwn r → ⊥)
left_uid body asked is = (wrong_uid, is, λ own. absurd (cc (own.1)))

pub left_count : (body : List ℕ) (want got : ℕ) (asked : Asked) → IsRefused body asked (wrong_count want got) → (r : Refusal) × IsRefused body asked r × (IsOwn r → ⊥)
left_count body want got asked is = (wrong_count want got, is, λ own. absurd (cc (own.1)))

pub left_version : (body : List ℕ) (i : ℕ) (asked : Asked) → IsRefused body asked (wrong_version i) → (r : Refusal) × IsRefused body asked r × (IsOwn r → ⊥)
left_version body i asked is = (wrong_version i, is, λ own. absurd (cc (own.1)))

pub left_identity : (body : List ℕ) (i : ℕ) (asked : Asked) → IsRefused body asked (changed_identity i) → (r : Refusal) × IsRefused body asked r × (IsOwn r → ⊥)
left_identity body i asked is = (changed_identity i, is, λ own. absurd (cc (own.1)))
