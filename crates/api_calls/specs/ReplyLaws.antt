-- From how a commit or a turn ended to the one-thread server's reply: what a commit decided at a list is what the reply of
-- the whole call is at that list.
use Rattle.std.specs.Prelude.{◌≡◌, ◌≢◌, ◌↔◌, ◌⊎◌, ℕ, Bool, true, false, not, ◌&&◌, List, Option, None, Some, Err, MatchBool, MatchOption, is_some, nat_eq, if◌then◌else◌, IsTrue}
use Rattle.std.proofs.Common.{refl, ap, sym, subst, ◌∙◌, inl, inr, eq-eqb, arith}
use Rattle.std.proofs.lemmas.Bool.Decides.{nat_tests}
use Rattle.kube_meta.specs.Key.{KeyView}
use Rattle.kube_meta.specs.View.{ObjectView}
use Rattle.kube_meta.specs.declared.limits.Limits.{Limits}
use Rattle.kube_meta.specs.declared.limits.Room.{Room}
use Rattle.api_calls.specs.Meaning.{Meaning, Request}
use Rattle.api_calls.specs.Refusal as refusal
use Rattle.api_calls.specs.Item.{Item, entry, Create, Replace, Release, Delete, Mark, Touch}
use Rattle.api_calls.specs.Objects.{Stored, find, elsewhere}
use Rattle.api_calls.specs.State.{State, served}
use Rattle.api_calls.specs.Room.{lacking, lacking_chunks}
use Rattle.api_calls.specs.Legal.{key_of}
use Rattle.api_calls.specs.Values.{IsUpdate, created_value, has_finalizer, is_marked, is_forbidden, is_release}
use Rattle.api_calls.specs.Ends.{WriteEnd, done, kept, same, unserved, present, gone, newer, storage_moved, TurnEnd, prepare, touched, missed, Decision, says, enters}
use Rattle.api_calls.specs.Writes.{with_room, if_storage, at_number, create_commit, create_decision, replace_commit, release_commit, delete_commit, mark_commit, replaced, removed, Takes, Replaces, ReplaceDecision, DeleteDecision}
use Rattle.api_calls.specs.Replies.{Answer, ShowsObject, Wrote, Deleted, Deletes, IsRefusedRequest, WeighsIt, Creates, CreateReply, ReplaceReply, DeleteReply, kept_value, code_ok, code_created}
use Rattle.api_calls.specs.Bodies.{IsServedDelete}
use Rattle.api_calls.specs.Cause.{bad_options}
use Rattle.api_calls.specs.Work.{Turn, Work, work_of, first_turn, whole_turn, prepare_turn, work_turn, ready_turn, is_ready, turn_decision, touch_decision, work_decision}

abbrev answer_of : Turn → TurnEnd
answer_of t = t.decision.answer

-- a commit's end that a caller answers: it doesn't prepare again
abbrev pub IsFinal : WriteEnd → Type 0
IsFinal (storage_moved now) = ⊥
IsFinal end = Unit {0}

-- the reply where the version is served, and where it isn't
from_served : (m : Meaning) (boot code v : ℕ) (name : List ℕ) (h : ObjectView) (b : Bool) (d : Decision WriteEnd) (a : Answer) (Yes : Answer → Option Item → Type 0)
    → (b ≡ true → Wrote m boot code v name h d.answer a → Yes a d.item)
    → Wrote m boot code v name h (if not b then says unserved else d).answer a
    → MatchBool b (Yes a (if not b then says unserved else d).item) ((a ≡ Err refusal.no_resource) × ((if not b then says unserved else d).item ≡ None))
from_served m boot code v name h true d a Yes reply wrote = reply refl wrote
from_served m boot code v name h false d a Yes reply wrote = (wrote, refl)

-- what is decided of a version that is served
abbrev served_only : ℕ → State → Decision WriteEnd → Decision WriteEnd
served_only v s d = if not (served s.flags v) then says unserved else d

may : (v : ℕ) (s : State) (d : Decision WriteEnd) → served s.flags v ≡ true → served_only v s d ≡ d
may v s d is = ap (λ (b : Bool). if not b then says unserved else d) is

-- ---- a create

-- what a create commits behind the test of the version
abbrev created : Limits → ℕ → State → ℕ → KeyView → ObjectView → ℕ → Decision WriteEnd
created limits n s at k h w =
    if is_some (find k s.objects) then says present else if_storage s at (with_room n n (entry (Create k h w)) (lacking limits s.objects w))

created_final : (limits : Limits) (n : ℕ) (s : State) (at : ℕ) (k : KeyView) (h : ObjectView) (w : ℕ) → IsFinal (created limits n s at k h w).answer
    → created limits n s at k h w ≡ created limits n s s.flags.storage k h w
created_final limits n s at k h w = by (is_some (find k s.objects)) (nat_eq at s.flags.storage)
  where
    itself : nat_eq s.flags.storage s.flags.storage ≡ true
    itself = eq-eqb s.flags.storage s.flags.storage refl

    by : (b c : Bool)
        → IsFinal (if b then says present else if c then with_room n n (entry (Create k h w)) (lacking limits s.objects w) else says (storage_moved s.flags.storage)).answer
        → (if b then says present else if c then with_room n n (entry (Create k h w)) (lacking limits s.objects w) else says (storage_moved s.flags.storage))
        ≡ (if b then says present
        else if nat_eq s.flags.storage s.flags.storage then with_room n n (entry (Create k h w)) (lacking limits s.objects w) else says (storage_moved s.flags.storage))
    by true c final = refl
    by false true final = rw itself refl
    by false false final = absurd final

-- the reply to a create, from the commit of its admitted value
pub create-reply : (m : Meaning) (limits : Limits) (boot n : ℕ) (s : State) (r : Request) (stamp : List ℕ) (new : ObjectView) (e : Option ℕ) (w at : ℕ) (a : Answer)
    → m.admits r new e → WeighsIt m new w
    → IsFinal (create_commit limits n s r.version at (key_of (created_value stamp new)) (created_value stamp new) w).answer
    → Wrote m boot code_created r.version (created_value stamp new).meta.name (created_value stamp new)
    (create_commit limits n s r.version at (key_of (created_value stamp new)) (created_value stamp new) w).answer a
    → CreateReply m limits boot n s r stamp a (create_commit limits n s r.version at (key_of (created_value stamp new)) (created_value stamp new) w).item
create-reply m limits boot n s r stamp new e w at a admits weighs final wrote =
    from_served m boot code_created r.version h.meta.name h (served s.flags r.version) commit a
    (λ b i. IsRefusedRequest m r b i
    ⊎ ((x : ObjectView) × (f : Option ℕ) × (y : ℕ) × m.admits r x f × WeighsIt m x y × Creates m limits boot n s r.version (created_value stamp x) y b i))
    (λ is wrote.
    let one : create_decision limits n s r.version (key_of h) h w ≡ commit = may r.version s (created limits n s s.flags.storage (key_of h) h w) is ∙ sym (same is) in
    inr (
      new,
      e,
      w,
      admits,
      weighs,
      (
        subst (λ (d : Decision WriteEnd). Wrote m boot code_created r.version h.meta.name h d.answer a) (sym one) wrote,
        ap (λ (d : Decision WriteEnd). d.item) (sym one),
      ),
    )) wrote
  where
    h : ObjectView
    h = created_value stamp new

    commit : Decision WriteEnd
    commit = created limits n s at (key_of h) h w

    same : served s.flags r.version ≡ true → commit ≡ created limits n s s.flags.storage (key_of h) h w
    same is =
        created_final limits n s at (key_of h) h w (subst (λ (d : Decision WriteEnd). IsFinal d.answer) (may r.version s commit is) final)

-- ---- a replace

-- what is decided of an object at a number
pub replace-decided : (m : Meaning) (limits : Limits) (n : ℕ) (s : State) (v : ℕ) (k : KeyView) (over : ℕ) (new : ObjectView) (w : ℕ) (h old : ObjectView) (equal : Bool)
    (inner : Stored → Decision WriteEnd)
    → IsUpdate old new h → (IsTrue equal ↔ (h ≡ old))
    → ((e : Stored) → find k s.objects ≡ Some e → e.number ≡ over → Takes m e.h old × (inner e ≡ replaced limits n s k old h w equal e))
    → served s.flags v ≡ true
    → ReplaceDecision m limits n s v k over new w h (at_number over (find k s.objects) inner)
replace-decided m limits n s v k over new w h old equal inner update equals known is =
    rw is (by (find k s.objects) refl)
  where
    number : (i j : ℕ) → nat_eq i j ≡ true → i ≡ j
    number i j h = grind (arith, nat_tests)

    at : (e : Stored) → find k s.objects ≡ Some e → (b : Bool) → nat_eq e.number over ≡ b
        → MatchBool b (Replaces m limits n s k new w e h (if b then inner e else says (newer e.number))) ((if b then inner e else says (newer e.number)) ≡ says (newer e.number))
    at e there true is_over = let (takes, one) = known e there (number e.number over is_over) in (old, equal, takes, update, equals, one)
    at e there false is_over = refl

    by : (o : Option Stored) → find k s.objects ≡ o
        → MatchOption o (at_number over o inner ≡ says gone)
        (λ e. MatchBool (nat_eq e.number over) (Replaces m limits n s k new w e h (at_number over o inner)) (at_number over o inner ≡ says (newer e.number)))
    by None there = refl
    by (Some e) there = at e there (nat_eq e.number over) refl

-- the reply to a replace: by what is decided of the object at the request's number
pub replaced-reply : (m : Meaning) (limits : Limits) (boot n : ℕ) (s : State) (r : Request) (k : KeyView) (over : ℕ) (new : ObjectView) (w : ℕ) (h old : ObjectView) (equal : Bool)
    (inner : Stored → Decision WriteEnd) (a : Answer)
    → m.admits r new (Some over) → WeighsIt m new w → IsUpdate old new h → (IsTrue equal ↔ (h ≡ old))
    → (served s.flags r.version ≡ true → (e : Stored) → find k s.objects ≡ Some e → e.number ≡ over → Takes m e.h old × (inner e ≡ replaced limits n s k old h w equal e))
    → Wrote m boot code_ok r.version k.name h (if not (served s.flags r.version) then says unserved else at_number over (find k s.objects) inner).answer a
    → ReplaceReply m limits boot n s r k a (if not (served s.flags r.version) then says unserved else at_number over (find k s.objects) inner).item
replaced-reply m limits boot n s r k over new w h old equal inner a admits weighs update equals known wrote =
    from_served m boot code_ok r.version k.name h (served s.flags r.version) (at_number over (find k s.objects) inner) a
    (λ b i. IsRefusedRequest m r b i
    ⊎ ((x : ObjectView) × (number : ℕ) × (y : ℕ) × (g : ObjectView) × (d : Decision WriteEnd)
    × m.admits r x (Some number) × WeighsIt m x y
    × ReplaceDecision m limits n s r.version k number x y g d × Wrote m boot code_ok r.version k.name g d.answer b × (i ≡ d.item)))
    (λ is wrote.
    inr (
      new,
      over,
      w,
      h,
      at_number over (find k s.objects) inner,
      admits,
      weighs,
      replace-decided m limits n s r.version k over new w h old equal inner update equals (known is) is,
      wrote,
      refl,
    )) wrote

-- what is decided of the object that stands at the number
at_found : (over : ℕ) (o : Option Stored) (e : Stored) (inner : Stored → Decision WriteEnd) → o ≡ Some e → e.number ≡ over → at_number over o inner ≡ inner e
at_found over o e inner there at =
    ap (λ (q : Option Stored). at_number over q inner) there ∙ ap (λ (b : Bool). if b then inner e else says (newer e.number)) (eq-eqb e.number over at)

storage_final : (b : Bool) (now : ℕ) (d : Decision WriteEnd) → IsFinal (if b then d else says (storage_moved now)).answer → (if b then d else says (storage_moved now)) ≡ d
storage_final true now d final = refl
storage_final false now d final = absurd final

-- from the commit of a value that changes the object
pub replace-reply : (m : Meaning) (limits : Limits) (boot n : ℕ) (s : State) (r : Request) (k : KeyView) (over : ℕ) (new : ObjectView) (w : ℕ) (h old : ObjectView) (equal : Bool) (at : ℕ)
    (a : Answer)
    → m.admits r new (Some over) → WeighsIt m new w → IsUpdate old new h → (IsTrue equal ↔ (h ≡ old)) → is_forbidden old h ≡ false → is_release old h ≡ false
    → ((e : Stored) → find k s.objects ≡ Some e → e.number ≡ over → Takes m e.h old × ((equal && nat_eq e.at s.flags.storage) ≡ false))
    → IsFinal (replace_commit limits n s r.version at k over h w).answer
    → Wrote m boot code_ok r.version k.name h (replace_commit limits n s r.version at k over h w).answer a
    → ReplaceReply m limits boot n s r k a (replace_commit limits n s r.version at k over h w).item
replace-reply m limits boot n s r k over new w h old equal at a admits weighs update equals allowed stays known final wrote =
    replaced-reply m limits boot n s r k over new w h old equal inner a admits weighs update equals
    (λ is e there is_over. let (takes, changes) = known e there is_over in (takes, one is e there is_over changes)) wrote
  where
    entered : Stored → ℕ → Decision WriteEnd
    entered e number = with_room n e.born (entry (Replace k number h w)) (lacking_chunks limits s.objects e.weight w)

    inner : Stored → Decision WriteEnd
    inner e = if_storage s at (with_room n e.born (entry (Replace k over h w)) (lacking_chunks limits s.objects e.weight w))

    plain : (e : Stored) → (equal && nat_eq e.at s.flags.storage) ≡ false → replaced limits n s k old h w equal e ≡ entered e e.number
    plain e changes = rw allowed (rw stays (rw changes refl))

    one : served s.flags r.version ≡ true → (e : Stored) → find k s.objects ≡ Some e → e.number ≡ over → (equal && nat_eq e.at s.flags.storage) ≡ false
        → inner e ≡ replaced limits n s k old h w equal e
    one is e there is_over changes =
        let found = may r.version s (at_number over (find k s.objects) inner) is ∙ at_found over (find k s.objects) e inner there is_over in
        storage_final (nat_eq at s.flags.storage) s.flags.storage (entered e over) (subst (λ (d : Decision WriteEnd). IsFinal d.answer) found final)
        ∙ ap (entered e) (sym is_over) ∙ sym (plain e changes)

-- a commit that finds another storage version finds the object at its number
pub moved-stands : (limits : Limits) (n : ℕ) (s : State) (v at : ℕ) (k : KeyView) (over : ℕ) (h : ObjectView) (w now : ℕ)
    → (replace_commit limits n s v at k over h w).answer ≡ storage_moved now
    → (served s.flags v ≡ true) × (e : Stored) × (find k s.objects ≡ Some e) × (e.number ≡ over) × (s.flags.storage ≡ now)
moved-stands limits n s v at k over h w now is = by (served s.flags v) refl (find k s.objects) refl is
  where
    entered : Stored → Decision WriteEnd
    entered e = with_room n e.born (entry (Replace k over h w)) (lacking_chunks limits s.objects e.weight w)

    inner : Stored → Decision WriteEnd
    inner e = if_storage s at (with_room n e.born (entry (Replace k over h w)) (lacking_chunks limits s.objects e.weight w))

    number : (i j : ℕ) → nat_eq i j ≡ true → i ≡ j
    number i j h = grind (arith, nat_tests)

    no_room : (born : ℕ) (i : Item) (r : Option Room) → (with_room n born i r).answer ≡ storage_moved now → ⊥
    no_room born i None is = cc
    no_room born i (Some r) is = cc

    stored : (e : Stored) (b : Bool) → (if b then entered e else says (storage_moved s.flags.storage)).answer ≡ storage_moved now → s.flags.storage ≡ now
    stored e true is = absurd (no_room e.born (entry (Replace k over h w)) (lacking_chunks limits s.objects e.weight w) is)
    stored e false is = let same : s.flags.storage ≡ now = cc in same

    stands : (e : Stored) (b : Bool) → nat_eq e.number over ≡ b → (if b then inner e else says (newer e.number)).answer ≡ storage_moved now
        → (e.number ≡ over) × (s.flags.storage ≡ now)
    stands e true is_over is = (number e.number over is_over, stored e (nat_eq at s.flags.storage) is)
    stands e false is_over is = cc

    by : (b : Bool) → served s.flags v ≡ b → (o : Option Stored) → find k s.objects ≡ o
        → (if not b then says unserved else at_number over o inner).answer ≡ storage_moved now
        → (served s.flags v ≡ true) × (e : Stored) × (find k s.objects ≡ Some e) × (e.number ≡ over) × (s.flags.storage ≡ now)
    by false is_served o there is = cc
    by true is_served None there is = cc
    by true is_served (Some e) there is = let (at_over, storage) = stands e (nat_eq e.number over) refl is in (is_served, e, there, at_over, storage)

-- without a commit, of an update that is the value which stands there, at the storage version
pub same-reply : (m : Meaning) (limits : Limits) (boot n : ℕ) (s : State) (r : Request) (k : KeyView) (over : ℕ) (new : ObjectView) (w : ℕ) (h old : ObjectView) (equal : Bool) (e : Stored)
    (a : Answer)
    → m.admits r new (Some over) → WeighsIt m new w → IsUpdate old new h → (IsTrue equal ↔ (h ≡ old)) → is_forbidden old h ≡ false → is_release old h ≡ false
    → served s.flags r.version ≡ true → find k s.objects ≡ Some e → e.number ≡ over → Takes m e.h old → (equal && nat_eq e.at s.flags.storage) ≡ true
    → ShowsObject m boot code_ok r.version h e.number e.born a
    → ReplaceReply m limits boot n s r k a None
same-reply m limits boot n s r k over new w h old equal e a admits weighs update equals allowed stays is there is_over takes stands shows =
    subst (λ (d : Decision WriteEnd). ReplaceReply m limits boot n s r k a d.item) one
    (replaced-reply m limits boot n s r k over new w h old equal (replaced limits n s k old h w equal) a admits weighs update equals
    (λ served f found at. (subst (λ (g : Stored). Takes m g.h old) (let both : Some e ≡ Some f = sym there ∙ found in let same_one : e ≡ f = cc in same_one) takes, refl))
    (subst (λ (d : Decision WriteEnd). Wrote m boot code_ok r.version k.name h d.answer a) (sym one) shows))
  where
    plain : replaced limits n s k old h w equal e ≡ says (same e.number e.born)
    plain = rw allowed (rw stays (rw stands refl))

    one : served_only r.version s (at_number over (find k s.objects) (replaced limits n s k old h w equal)) ≡ says (same e.number e.born)
    one =
        may r.version s (at_number over (find k s.objects) (replaced limits n s k old h w equal)) is
        ∙ at_found over (find k s.objects) e (replaced limits n s k old h w equal) there is_over
        ∙ plain

-- from the release of an object that is being deleted, by an update without finalizers
pub release-reply : (m : Meaning) (limits : Limits) (boot n : ℕ) (s : State) (r : Request) (k : KeyView) (over : ℕ) (new : ObjectView) (w : ℕ) (h old : ObjectView) (equal : Bool)
    (a : Answer)
    → m.admits r new (Some over) → WeighsIt m new w → IsUpdate old new h → (IsTrue equal ↔ (h ≡ old)) → is_forbidden old h ≡ false → is_release old h ≡ true
    → ((e : Stored) → find k s.objects ≡ Some e → e.number ≡ over → Takes m e.h old)
    → Wrote m boot code_ok r.version k.name h (release_commit n s r.version k over).answer a
    → ReplaceReply m limits boot n s r k a (release_commit n s r.version k over).item
release-reply m limits boot n s r k over new w h old equal a admits weighs update equals allowed ends known wrote =
    replaced-reply m limits boot n s r k over new w h old equal inner a admits weighs update equals
    (λ is e there is_over. (known e there is_over, ap (gone_at e) (sym is_over) ∙ sym (plain e))) wrote
  where
    gone_at : Stored → ℕ → Decision WriteEnd
    gone_at e number = enters (done n e.born) (entry (Release k number))

    inner : Stored → Decision WriteEnd
    inner e = enters (done n e.born) (entry (Release k over))

    plain : (e : Stored) → replaced limits n s k old h w equal e ≡ gone_at e e.number
    plain e = rw allowed (rw ends refl)

-- ---- a delete

-- a commit's end that tells of no other number: a delete gives none
abbrev pub IsUnnumbered : WriteEnd → Type 0
IsUnnumbered (storage_moved now) = ⊥
IsUnnumbered (newer number) = ⊥
IsUnnumbered end = Unit {0}

-- the reply to a delete: by what is decided of the object that was looked at
pub deleted-reply : (m : Meaning) (boot n : ℕ) (s : State) (v : ℕ) (body : List ℕ) (k : KeyView) (over : ℕ) (old : ObjectView) (stamp : List ℕ) (inner : Stored → Decision WriteEnd) (a : Answer)
    → IsServedDelete body
    → (served s.flags v ≡ true → (e : Stored) → find k s.objects ≡ Some e → e.number ≡ over → Takes m e.h old × (inner e ≡ removed n k old stamp e))
    → IsUnnumbered (if not (served s.flags v) then says unserved else at_number over (find k s.objects) inner).answer
    → Deleted m boot v k (kept_value stamp old) (if not (served s.flags v) then says unserved else at_number over (find k s.objects) inner).answer a
    → DeleteReply m boot n s v body k stamp a (if not (served s.flags v) then says unserved else at_number over (find k s.objects) inner).item
deleted-reply m boot n s v body k over old stamp inner a may_delete known final wrote = by (served s.flags v) refl final wrote
  where
    Yes : Option Item → Type 0
    Yes i = (IsServedDelete body × Deletes m boot n s v k stamp a i) ⊎ ((IsServedDelete body → ⊥) × (a ≡ Err (refusal.bad_request bad_options)) × (i ≡ None))

    number : (i j : ℕ) → nat_eq i j ≡ true → i ≡ j
    number i j h = grind (arith, nat_tests)

    at : served s.flags v ≡ true → (e : Stored) → find k s.objects ≡ Some e → (b : Bool) → nat_eq e.number over ≡ b → IsUnnumbered (if b then inner e else says (newer e.number)).answer
        → Takes m e.h old × ((if b then inner e else says (newer e.number)) ≡ removed n k old stamp e)
    at is e there true is_over final = known is e there (number e.number over is_over)
    at is e there false is_over final = absurd final

    decides : served s.flags v ≡ true → (o : Option Stored) → find k s.objects ≡ o → IsUnnumbered (at_number over o inner).answer
        → MatchOption o (at_number over o inner ≡ says gone) (λ e. Takes m e.h old × (at_number over o inner ≡ removed n k old stamp e))
    decides is None there final = refl
    decides is (Some e) there final = at is e there (nat_eq e.number over) refl final

    decided : served s.flags v ≡ true → IsUnnumbered (at_number over (find k s.objects) inner).answer → DeleteDecision m n s v k stamp old (at_number over (find k s.objects) inner)
    decided is final = rw is (decides is (find k s.objects) refl final)

    by : (b : Bool) → served s.flags v ≡ b → IsUnnumbered (if not b then says unserved else at_number over (find k s.objects) inner).answer
        → Deleted m boot v k (kept_value stamp old) (if not b then says unserved else at_number over (find k s.objects) inner).answer a
        → MatchBool b (Yes (if not b then says unserved else at_number over (find k s.objects) inner).item)
        ((a ≡ Err refusal.no_resource) × ((if not b then says unserved else at_number over (find k s.objects) inner).item ≡ None))
    by true is final wrote = inl (may_delete, (old, at_number over (find k s.objects) inner, decided is final, wrote, refl))
    by false is final wrote = (wrote, refl)

-- from the commit that removes an object without finalizers
pub delete-reply : (m : Meaning) (boot n : ℕ) (s : State) (v : ℕ) (body : List ℕ) (k : KeyView) (over : ℕ) (old : ObjectView) (stamp : List ℕ) (a : Answer)
    → IsServedDelete body → has_finalizer old ≡ false
    → ((e : Stored) → find k s.objects ≡ Some e → e.number ≡ over → Takes m e.h old)
    → IsUnnumbered (delete_commit n s v k over).answer
    → Deleted m boot v k (kept_value stamp old) (delete_commit n s v k over).answer a
    → DeleteReply m boot n s v body k stamp a (delete_commit n s v k over).item
delete-reply m boot n s v body k over old stamp a may_delete free known final wrote =
    deleted-reply m boot n s v body k over old stamp (λ e. enters (done n e.born) (entry (Delete k))) a may_delete
    (λ is e there is_over. (known e there is_over, rw free refl)) final wrote

-- from the commit of a deletion stamp, on an object that has a finalizer
pub mark-reply : (m : Meaning) (boot n : ℕ) (s : State) (v : ℕ) (body : List ℕ) (k : KeyView) (over at : ℕ) (old : ObjectView) (stamp : List ℕ) (a : Answer)
    → IsServedDelete body → has_finalizer old ≡ true → is_marked old ≡ false
    → ((e : Stored) → find k s.objects ≡ Some e → e.number ≡ over → Takes m e.h old)
    → IsUnnumbered (mark_commit n s v at k over stamp).answer
    → Deleted m boot v k (kept_value stamp old) (mark_commit n s v at k over stamp).answer a
    → DeleteReply m boot n s v body k stamp a (mark_commit n s v at k over stamp).item
mark-reply m boot n s v body k over at old stamp a may_delete held unmarked known final wrote =
    deleted-reply m boot n s v body k over old stamp inner a may_delete (λ is e there is_over. (known e there is_over, one is e there is_over)) final wrote
  where
    stamped_at : Stored → ℕ → Decision WriteEnd
    stamped_at e number = enters (kept n e.born) (entry (Mark k number stamp))

    inner : Stored → Decision WriteEnd
    inner e = if_storage s at (enters (kept n e.born) (entry (Mark k over stamp)))

    plain : (e : Stored) → removed n k old stamp e ≡ stamped_at e e.number
    plain e = rw held (rw unmarked refl)

    stays : (b : Bool) (e : Stored) → IsUnnumbered (if b then stamped_at e over else says (storage_moved s.flags.storage)).answer
        → (if b then stamped_at e over else says (storage_moved s.flags.storage)) ≡ stamped_at e over
    stays true e final = refl
    stays false e final = absurd final

    one : served s.flags v ≡ true → (e : Stored) → find k s.objects ≡ Some e → e.number ≡ over → inner e ≡ removed n k old stamp e
    one is e there is_over =
        let found = may v s (at_number over (find k s.objects) inner) is ∙ at_found over (find k s.objects) e inner there is_over in
        stays (nat_eq at s.flags.storage) e (subst (λ (d : Decision WriteEnd). IsUnnumbered d.answer) found final)
        ∙ ap (stamped_at e) (sym is_over) ∙ sym (plain e)

-- ---- a worker's turn

-- a turn that tells to prepare nothing is the whole turn
pub turn-reply : (n : ℕ) (s : State) (c : Option ℕ) → ((k : KeyView) (rv : ℕ) → (turn_decision n s c).decision.answer ≢ prepare k rv) → turn_decision n s c ≡ work_decision n s c
turn-reply n s c over = by (work_of c s) over
  where
    left : (w : Work) (o : Option Stored) → ((k : KeyView) (rv : ℕ) → (prepare_turn w o).decision.answer ≢ prepare k rv) → prepare_turn w o ≡ work_turn n w o
    left w None over = refl
    left w (Some e) over = absurd (over e.key e.number refl)

    by : (o : Option Work) → ((k : KeyView) (rv : ℕ) → (first_turn n s o).decision.answer ≢ prepare k rv) → first_turn n s o ≡ whole_turn n s o
    by None over = refl
    by (Some w) over = left w (elsewhere w.span w.target s.objects) over

-- a turn that touched what was prepared is the whole turn, where that is the first of the claim's range that stands elsewhere
pub touch-reply : (n : ℕ) (s : State) (c : Option ℕ) (k : KeyView) (rv at number : ℕ)
    → ((w : Work) → work_of c s ≡ Some w → is_ready w rv at (find k s.objects) ≡ true → (e : Stored) × (elsewhere w.span w.target s.objects ≡ Some e) × (e.key ≡ k))
    → (touch_decision n s c k rv at).decision.answer ≡ touched number → touch_decision n s c k rv at ≡ work_decision n s c
touch-reply n s c k rv at number first is = by (work_of c s) refl is
  where
    touch_of : Work → KeyView → Turn
    touch_of w j = record { decision = enters (touched n) (entry (Touch j w.claim)); claim = Some w.claim }

    ready : (w : Work) → work_of c s ≡ Some w → (b : Bool) → is_ready w rv at (find k s.objects) ≡ b
        → answer_of (if b then touch_of w k else record { decision = says missed; claim = Some w.claim }) ≡ touched number
        → (if b then touch_of w k else record { decision = says missed; claim = Some w.claim }) ≡ work_turn n w (elsewhere w.span w.target s.objects)
    ready w held true is_ready is =
        let (e, there, under) = first w held is_ready in ap (touch_of w) (sym under) ∙ sym (ap (work_turn n w) there)
    ready w held false is_ready is = cc

    by : (o : Option Work) → work_of c s ≡ o → (ready_turn n s k rv at o).decision.answer ≡ touched number → ready_turn n s k rv at o ≡ whole_turn n s o
    by None held is = cc
    by (Some w) held is = ready w held (is_ready w rv at (find k s.objects)) refl is
