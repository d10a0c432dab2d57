-- Shares, counted in equal parts of the whole: what is left of them where one is cut and where two come together.
use Rattle.std.specs.Prelude.{◌≡◌, ℕ, ◌+◌, ◌*◌, ◌-◌, ◌/◌, ◌^◌, ◌<◌, ◌≤◌, max}
use Rattle.std.proofs.Common.{ap, sym, ◌∙◌, arith}
use Rattle.std.proofs.Math.Nat.{mul-div_cancel}
use Rattle.std.proofs.lemmas.Nat.{pow-add, pow_pos}
use Rattle.turn_cell.specs.declared.view.Share.{Share}
use Rattle.turn_cell.specs.declared.view.View.{View}
use Rattle.turn_cell.specs.Rule.{parts_of}
use Rattle.turn_cell.specs.Views.{half, both_shares, IsAlone}
use Rattle.turn_cell.specs.Turns.{Meets}

-- as many parts as the whole has
pub parts_whole : (halves scale : ℕ) → halves ≤ scale → 2 ^ halves * 2 ^ (scale - halves) ≡ 2 ^ scale
parts_whole halves scale le = sym (pow-add 2 halves (scale - halves)) ∙ ap (λ k. 2 ^ k) (let e : halves + (scale - halves) ≡ scale = omega arith in e)

-- a share in parts of half the size
pub parts_double : (sh : Share) (k : ℕ) → sh.halves ≤ k → parts_of (k + 1) sh ≡ 2 * parts_of k sh
parts_double sh k le =
    let e : k + 1 - sh.halves ≡ 1 + (k - sh.halves) = omega arith in
    let d : 2 ^ (k + 1 - sh.halves) ≡ 2 ^ 1 * 2 ^ (k - sh.halves) = ap (λ n. 2 ^ n) e ∙ pow-add 2 1 (k - sh.halves) in
    ap (λ n. sh.top * n) d ∙ (let x : ℕ = 2 ^ (k - sh.halves) in let r : sh.top * (2 * x) ≡ 2 * (sh.top * x) = omega arith in r)

-- half of a share has as many parts of half the size
pub parts_half : (sh : Share) (k : ℕ) → parts_of (k + 1) (half sh) ≡ parts_of k sh
parts_half sh k = ap (λ n. sh.top * 2 ^ n) (let e : k + 1 - (sh.halves + 1) ≡ k - sh.halves = omega arith in e)

-- the two halves of a share have its parts
pub parts_halves : (sh : Share) (k : ℕ) → sh.halves ≤ k → parts_of (k + 1) (half sh) + parts_of (k + 1) (half sh) ≡ parts_of (k + 1) sh
parts_halves sh k le = let a = parts_half sh k in let b = parts_double sh k le in omega (arith, a, b)

lifted : (i m k : ℕ) → i ≤ m → m ≤ k → 2 ^ (m - i) * 2 ^ (k - m) ≡ 2 ^ (k - i)
lifted i m k a b = sym (pow-add 2 (m - i) (k - m)) ∙ ap (λ n. 2 ^ n) (let e : (m - i) + (k - m) ≡ k - i = omega arith in e)

-- where two passes meet, their share has the parts of both
pub parts_both : (a b : Share) (k : ℕ) → a.halves ≤ k → b.halves ≤ k → parts_of k (both_shares a b) ≡ parts_of k a + parts_of k b
parts_both a b k la lb =
    let m : ℕ = max a.halves b.halves in
    let x : ℕ = 2 ^ (m - a.halves) in
    let y : ℕ = 2 ^ (m - b.halves) in
    let z : ℕ = 2 ^ (k - m) in
    let e : x * z ≡ 2 ^ (k - a.halves) = lifted a.halves m k (omega arith) (omega arith) in
    let d : y * z ≡ 2 ^ (k - b.halves) = lifted b.halves m k (omega arith) (omega arith) in
    let s : (a.top * x + b.top * y) * z ≡ a.top * (x * z) + b.top * (y * z) = omega arith in
    s ∙ (λ i. a.top * e i + b.top * d i)

-- a share with all parts is the whole
pub whole-parts : (sh : Share) (k : ℕ) → sh.halves ≤ k → parts_of k sh ≡ 2 ^ k → sh.top ≡ 2 ^ sh.halves
whole-parts sh k le all =
    let z : ℕ = 2 ^ (k - sh.halves) in
    let some : 0 < z = pow_pos (k - sh.halves) in
    let e : sh.top * z ≡ 2 ^ sh.halves * z = all ∙ sym (parts_whole sh.halves k le) in
    sym (mul-div_cancel sh.top some) ∙ (ap (λ n. n / z) e ∙ mul-div_cancel (2 ^ sh.halves) some)

-- two passes that have all parts between them have the whole where they meet
pub alone-met : {B : Type 0} (v w u : View B) (k : ℕ) → Meets v w u → v.share.halves ≤ k → w.share.halves ≤ k
    → parts_of k v.share + parts_of k w.share ≡ 2 ^ k → IsAlone u
alone-met {B = B} v w u k met lv lw all =
    let share : u.share ≡ both_shares v.share w.share = ap (λ (q : View B). q.share) met.0 in
    let sum : parts_of k (both_shares v.share w.share) ≡ 2 ^ k = parts_both v.share w.share k lv lw ∙ all in
    let both : (both_shares v.share w.share).top ≡ 2 ^ (both_shares v.share w.share).halves = whole-parts (both_shares v.share w.share) k (omega arith) sum in
    ap (λ (s : Share). s.top) share ∙ (both ∙ sym (ap (λ (s : Share). 2 ^ s.halves) share))
