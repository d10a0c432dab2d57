-- From what is seen of an object to the reply of a get.
use Rattle.std.proofs.Common.{◌≡◌, ℕ, ◌≤◌, ◌<◌, ◌^◌, List, Option, None, Some, Ok, Err, Bool, true, ap, sym, subst, refl, arith}
use Rattle.std.specs.Prelude.{MatchBool, MatchOption, IsTrue, option_map}
use Rattle.kube_meta.specs.Key.{KeyView}
use Rattle.kube_meta.specs.View.{ObjectView}
use Rattle.api_calls.specs.Meaning.{Meaning}
use Rattle.api_calls.specs.Reply.{ReplyView}
use Rattle.api_calls.specs.Refusal.{no_resource, not_found}
use Rattle.api_calls.specs.Item.{Item}
use Rattle.api_calls.specs.Objects.{Stored, find}
use Rattle.api_calls.specs.State.{revision, served, state}
use Rattle.api_calls.specs.Replies.{GetReply, IsShown, ShowsObject, code_ok}
use Rattle.api_core.specs.declared.seen.Seen.{Seen}
use Rattle.api_core.specs.declared.seen.Peeked.{Peeked}
use Rattle.api_core.specs.laws.DecideLaws.{found-some}
use Rattle.api_core.specs.Keeps.{KeepsObject}
use Rattle.api_core.specs.Prepared.{Sees, seen_item}
use Rattle.call_texts.proofs.Born.{born-within}

-- the object that is seen
pub kept : (m : Meaning) (log : List Item) (k : KeyView) (p : Peeked) (seen : Seen) → Sees m log k p → p.found ≡ Some seen
    → (e : Stored) × (find k (state m log).objects ≡ Some e) × KeepsObject m (seen_item seen) e
kept m log k p seen sees is =
    found-some m (option_map seen_item p.found) (find k (state m log).objects) (seen_item seen) sees.found (ap (option_map seen_item) is)

pub seen_born : (m : Meaning) (log : List Item) (k : KeyView) (p : Peeked) (seen : Seen) → Sees m log k p → p.found ≡ Some seen
    → revision log ≤ 2 ^ 61 → seen.born < 2 ^ 62
seen_born m log k p seen sees is few =
    let (e, there, keeps) = kept m log k p seen sees is in
    let within = born-within m log k e there in
    let born = keeps.born in
    omega (arith, within, born, few)

-- what shows a value shows any that it is, where it is known what values mean
pub shown_other : (m : Meaning) (boot v : ℕ) (g h : ObjectView) (number born : ℕ) (text : List ℕ) → (IsTrue m.honest → g ≡ h)
    → IsShown m boot v g number born text → IsShown m boot v h number born text
shown_other m boot v g h number born text same s =
    (s.0, (λ honest. subst (λ (o : ObjectView). m.pair v o s.0) (same honest) (s.1 honest)), s.2)

-- the reply that shows the object of a key
pub object_reply : (m : Meaning) (boot v : ℕ) (log : List Item) (k : KeyView) (e : Stored) (r : ReplyView) → find k (state m log).objects ≡ Some e
    → served (state m log).flags v ≡ true → r.code ≡ code_ok → IsShown m boot v e.h e.number e.born r.text
    → GetReply m boot (state m log) v k (Ok r) None
object_reply m boot v log k e r there may code shown =
    let told : MatchOption (find k (state m log).objects) (Ok r ≡ Err (not_found k.name)) (λ x. ShowsObject m boot code_ok v x.h x.number x.born (Ok r)) =
    subst (λ (o : Option Stored). MatchOption o (Ok r ≡ Err (not_found k.name)) (λ x. ShowsObject m boot code_ok v x.h x.number x.born (Ok r))) (sym there) (code, shown) in
    (refl, subst (λ (b : Bool). MatchBool b (MatchOption (find k (state m log).objects) (Ok r ≡ Err (not_found k.name)) (λ x. ShowsObject m boot code_ok v x.h x.number x.born (Ok r))) (Ok r ≡ Err no_resource)) (sym may) told)
