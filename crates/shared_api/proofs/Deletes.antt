-- From the turn of a delete to the answer.
use Rattle.std.proofs.Common.{◌≡◌, ◌∙◌, ◌+◌, ◌≤◌, ◌^◌, ℕ, Bool, true, false, List, Option, None, Some, Err, inl, inr, ap, sym, subst, refl, arith}
use Rattle.std.specs.Prelude.{IsTrue, not, nat_eq, if◌then◌else◌}
use Rattle.std.proofs.lemmas.Bool.Decides.{nat_tests}
use mathlib.Core.List.{IsPrefix}
use Rattle.kj_value.specs.Text.{text_of}
use Rattle.kube_meta.specs.Key.{KeyView}
use Rattle.kube_meta.specs.View.{ObjectView}
use Rattle.api_calls.specs.Documents.{deleted_status}
use Rattle.api_calls.specs.Ends.{Decision, WriteEnd, done, kept, same, unserved, present, gone, newer, forbidden, storage_moved, full, says, enters}
use Rattle.api_calls.specs.Item.{Item, Logged, entry, Delete, Mark, items}
use Rattle.api_calls.specs.Meaning.{Meaning}
use Rattle.api_calls.specs.Objects.{Stored, find, marked}
use Rattle.api_calls.specs.Refusal as refusal
use Rattle.api_calls.specs.Replies.{Answer, Deleted, IsShown, code_ok, kept_value, said}
use Rattle.api_calls.specs.ReplyLaws.{IsUnnumbered, delete-reply, mark-reply}
use Rattle.api_calls.specs.State.{State, revision, served, state}
use Rattle.api_calls.specs.Uid.{uid}
use Rattle.api_calls.specs.Writes.{at_number, delete_commit, if_storage, mark_commit}
use Rattle.api_core.specs.laws.CoreLaws.{same-later}
use Rattle.api_core.specs.declared.seen.Prepared.{Prepared}
use Rattle.call_texts.specs.Told.{Came}
use Rattle.write_texts.specs.Leavings as leavings
use Rattle.write_texts.specs.Leavings.{IsMarking, IsPlain, IsRetried, SaysMark, SaysPlain}
use Rattle.shared_api.specs.inner.WriteTurns.{is_done}
use Rattle.write_texts.specs.Sealed.{opened}
use Rattle.shared_api.specs.inner.Turning.{item_if}
use Rattle.write_texts.specs.declared.seal.Sealed.{Sealed}
use Rattle.shared_api.proofs.Leaving.{delete-item, known-now, later-items, mark-item}
use Rattle.shared_api.proofs.Results.{seal-shows}
use Rattle.call_texts.proofs.Showing.{shown_other}

-- what was removed stood at the number
pub delete-born : (n : ℕ) (s : State) (v : ℕ) (k : KeyView) (over rv b : ℕ) → done rv b ≡ (delete_commit n s v k over).answer
    → (f : Stored) × (find k s.objects ≡ Some f) × (f.number ≡ over) × (b ≡ f.born)
delete-born n s v k over rv b is = by (served s.flags v) (find k s.objects) refl is
  where
    next : Stored → Decision WriteEnd
    next e = enters (done n e.born) (entry (Delete k))

    number : (i j : ℕ) → nat_eq i j ≡ true → i ≡ j
    number i j h = grind (arith, nat_tests)

    at : (f : Stored) (c : Bool) → nat_eq f.number over ≡ c → done rv b ≡ (if c then next f else says (newer f.number)).answer → (f.number ≡ over) × (b ≡ f.born)
    at f true is_over is = (number f.number over is_over, let same_born : b ≡ f.born = cc in same_born)
    at f false is_over is = cc

    by : (c : Bool) (o : Option Stored) → find k s.objects ≡ o → done rv b ≡ (if not c then says unserved else at_number over o next).answer
        → (f : Stored) × (find k s.objects ≡ Some f) × (f.number ≡ over) × (b ≡ f.born)
    by false o there is = cc
    by true None there is = cc
    by true (Some f) there is = let (num, born) = at f (nat_eq f.number over) refl is in (f, there, num, born)

-- a plain delete never keeps the object
pub delete-never : (n : ℕ) (s : State) (v : ℕ) (k : KeyView) (over rv b : ℕ) → kept rv b ≡ (delete_commit n s v k over).answer → ⊥
delete-never n s v k over rv b is = by (served s.flags v) (find k s.objects) is
  where
    next : Stored → Decision WriteEnd
    next e = enters (done n e.born) (entry (Delete k))

    at : (f : Stored) (c : Bool) → kept rv b ≡ (if c then next f else says (newer f.number)).answer → ⊥
    at f true is = cc
    at f false is = cc

    by : (c : Bool) (o : Option Stored) → kept rv b ≡ (if not c then says unserved else at_number over o next).answer → ⊥
    by false o is = cc
    by true None is = cc
    by true (Some f) is = at f (nat_eq f.number over) is

-- a mark never removes the object
pub mark-never : (n : ℕ) (s : State) (v at : ℕ) (k : KeyView) (over : ℕ) (stamp : List ℕ) (rv b : ℕ) → done rv b ≡ (mark_commit n s v at k over stamp).answer → ⊥
mark-never n s v at k over stamp rv b is = by (served s.flags v) (find k s.objects) is
  where
    marks : Stored → Decision WriteEnd
    marks e = enters (kept n e.born) (entry (Mark k over stamp))

    stays : (f : Stored) (c : Bool) → done rv b ≡ (if c then marks f else says (storage_moved s.flags.storage)).answer → ⊥
    stays f true is = cc
    stays f false is = cc

    here : (f : Stored) (c : Bool) → done rv b ≡ (if c then if_storage s at (marks f) else says (newer f.number)).answer → ⊥
    here f true is = stays f (nat_eq at s.flags.storage) is
    here f false is = cc

    by : (c : Bool) (o : Option Stored) → done rv b ≡ (if not c then says unserved else at_number over o (λ e. if_storage s at (marks e))).answer → ⊥
    by false o is = cc
    by true None is = cc
    by true (Some f) is = here f (nat_eq f.number over) is

-- what was marked stood at the number, and the entry has its own
pub mark-born : (n : ℕ) (s : State) (v at : ℕ) (k : KeyView) (over : ℕ) (stamp : List ℕ) (rv b : ℕ) → kept rv b ≡ (mark_commit n s v at k over stamp).answer
    → (rv ≡ n) × (f : Stored) × (find k s.objects ≡ Some f) × (f.number ≡ over) × (b ≡ f.born)
mark-born n s v at k over stamp rv b is = by (served s.flags v) (find k s.objects) refl is
  where
    marks : Stored → Decision WriteEnd
    marks e = enters (kept n e.born) (entry (Mark k over stamp))

    number : (i j : ℕ) → nat_eq i j ≡ true → i ≡ j
    number i j h = grind (arith, nat_tests)

    stays : (f : Stored) (c : Bool) → kept rv b ≡ (if c then marks f else says (storage_moved s.flags.storage)).answer → (rv ≡ n) × (b ≡ f.born)
    stays f true is = (let same_number : rv ≡ n = cc in same_number, let same_born : b ≡ f.born = cc in same_born)
    stays f false is = cc

    here : (f : Stored) (c : Bool) → nat_eq f.number over ≡ c → kept rv b ≡ (if c then if_storage s at (marks f) else says (newer f.number)).answer
        → (f.number ≡ over) × (rv ≡ n) × (b ≡ f.born)
    here f true is_over is = let (num, born) = stays f (nat_eq at s.flags.storage) is in (number f.number over is_over, num, born)
    here f false is_over is = cc

    by : (c : Bool) (o : Option Stored) → find k s.objects ≡ o → kept rv b ≡ (if not c then says unserved else at_number over o (λ e. if_storage s at (marks e))).answer
        → (rv ≡ n) × (f : Stored) × (find k s.objects ≡ Some f) × (f.number ≡ over) × (b ≡ f.born)
    by false o there is = cc
    by true None there is = cc
    by true (Some f) there is = let (found, num, born) = here f (nat_eq f.number over) refl is in (num, f, there, found, born)

-- what is decided of a delete after its look
abbrev pub removal : Meaning → List Logged → ℕ → KeyView → ℕ → Decision WriteEnd
removal m log v k number = delete_commit (revision (items log) + 1) (state m (items log)) v k number

abbrev pub keeping : Meaning → List Logged → ℕ → ℕ → KeyView → ℕ → List ℕ → Decision WriteEnd
keeping m log v at k number stamp = mark_commit (revision (items log) + 1) (state m (items log)) v at k number stamp

-- the reply to a plain delete, by an end that tells no other's item
module _ (m : Meaning) (boot : ℕ) (first log : List Logged) (v : ℕ) (k : KeyView) (number : ℕ) (text stamp : List ℕ) (on : IsPrefix first log) (plain : IsPlain m boot (items first) k number text) where
  removed-reply : (e : WriteEnd) (a : Answer) → e ≡ (removal m log v k number).answer → IsUnnumbered e → Deleted m boot v k (kept_value stamp plain.old) e a
      → leavings.Deleted m boot v k stamp (items log) a (removal m log v k number).item
  removed-reply e a ends final told = λ body serves.
      delete-reply m boot (revision (items log) + 1) (state m (items log)) v body k number plain.old stamp a serves plain.free
      (known-now m first log k number (λ x. plain.old ≡ x.h) on plain.was)
      (subst IsUnnumbered ends final)
      (subst (λ (x : WriteEnd). Deleted m boot v k (kept_value stamp plain.old) x a) ends told)

  same_birth : (rv b : ℕ) → done rv b ≡ (removal m log v k number).answer → plain.was.object.born ≡ b
  same_birth rv b is =
      let (f, there, num, born) = delete-born (revision (items log) + 1) (state m (items log)) v k number rv b is in
      let later = subst (λ (l : List Item). find k (state m l).objects ≡ Some f) (sym (later-items first log on)) there in
      ap (λ (x : Stored). x.born) (same-later m (items first) (items on.0) k plain.was.object f plain.was.there later (num ∙ sym plain.was.at_number)) ∙ sym born

  none_entered : (e : WriteEnd) → e ≡ (removal m log v k number).answer → is_done e ≡ false → (removal m log v k number).item ≡ None
  none_entered e ends over =
      delete-item (revision (items log) + 1) (state m (items log)) v k number ∙ ap (λ (x : WriteEnd). item_if (is_done x) (entry (Delete k))) (sym ends)
      ∙ ap (λ (b : Bool). item_if b (entry (Delete k))) over

  pub removed-came : (rose : Type 0) (e : WriteEnd) (a : Answer) → e ≡ (removal m log v k number).answer → SaysPlain k.name text e a → Came rose (leavings.Deleted m boot v k stamp (items log)) a (removal m log v k number).item
  removed-came rose (done rv b) a ends told =
      subst (λ (x : Answer). Came rose (leavings.Deleted m boot v k stamp (items log)) x (removal m log v k number).item) (sym told)
      (removed-reply (done rv b) (said code_ok text) ends tt (ap (said code_ok) (plain.shows ∙ ap (λ (x : ℕ). text_of (deleted_status m k.name (uid boot x))) (same_birth rv b ends))))
  removed-came rose (kept rv b) a ends told = absurd told
  removed-came rose (same rv b) a ends told = absurd told
  removed-came rose unserved a ends told =
      subst (λ (x : Answer). Came rose (leavings.Deleted m boot v k stamp (items log)) x (removal m log v k number).item) (sym told)
      (removed-reply unserved (Err refusal.no_resource) ends tt refl)
  removed-came rose present a ends told = absurd told
  removed-came rose gone a ends (inl told) =
      subst (λ (x : Answer). Came rose (leavings.Deleted m boot v k stamp (items log)) x (removal m log v k number).item) (sym told)
      (removed-reply gone (Err (refusal.not_found k.name)) ends tt refl)
  removed-came rose gone a ends (inr told) =
      subst (λ (x : Answer). Came rose (leavings.Deleted m boot v k stamp (items log)) x (removal m log v k number).item) (sym told) (none_entered gone ends refl)
  removed-came rose (newer j) a ends told = absurd told
  removed-came rose forbidden a ends told = absurd told
  removed-came rose (storage_moved now) a ends told = absurd told
  removed-came rose (full room) a ends told = absurd told

  pub removed-again : (e : WriteEnd) → e ≡ (removal m log v k number).answer → IsRetried e → (removal m log v k number).item ≡ None
  removed-again (done rv b) ends told = absurd told
  removed-again (kept rv b) ends told = absurd told
  removed-again (same rv b) ends told = absurd told
  removed-again unserved ends told = absurd told
  removed-again present ends told = absurd told
  removed-again gone ends told = absurd told
  removed-again (newer j) ends told = none_entered (newer j) ends refl
  removed-again forbidden ends told = absurd told
  removed-again (storage_moved now) ends told = none_entered (storage_moved now) ends refl
  removed-again (full room) ends told = absurd told

-- the reply to a delete that keeps the object, by an end that tells no other's item
module _ (m : Meaning) (boot : ℕ) (first log : List Logged) (v : ℕ) (k : KeyView) (number birth : ℕ) (stamp : List ℕ) (p : Prepared) (s : Sealed) (h : ObjectView)
    (on : IsPrefix first log) (few : revision (items log) ≤ 2 ^ 61) (marking : IsMarking m (items first) v k stamp number birth p s h) where
  marked-reply : (e : WriteEnd) (a : Answer) → e ≡ (keeping m log v p.at k number stamp).answer → IsUnnumbered e → Deleted m boot v k (kept_value stamp marking.old) e a
      → leavings.Deleted m boot v k stamp (items log) a (keeping m log v p.at k number stamp).item
  marked-reply e a ends final told = λ body serves.
      mark-reply m boot (revision (items log) + 1) (state m (items log)) v body k number p.at marking.old stamp a serves marking.held marking.unmarked
      (known-now m first log k number (λ x. marking.old ≡ x.h) on marking.was)
      (subst IsUnnumbered ends final)
      (subst (λ (x : WriteEnd). Deleted m boot v k (kept_value stamp marking.old) x a) ends told)

  same_born : (rv b : ℕ) → kept rv b ≡ (keeping m log v p.at k number stamp).answer → birth ≡ b
  same_born rv b is =
      let (num, f, there, over, born) = mark-born (revision (items log) + 1) (state m (items log)) v p.at k number stamp rv b is in
      let later = subst (λ (l : List Item). find k (state m l).objects ≡ Some f) (sym (later-items first log on)) there in
      sym marking.born
      ∙ ap (λ (x : Stored). x.born) (same-later m (items first) (items on.0) k marking.was.object f marking.was.there later (over ∙ sym marking.was.at_number)) ∙ sym born

  -- the value that is ready is the one that stays
  kept_is : IsTrue m.honest → h ≡ kept_value stamp marking.old
  kept_is honest =
      let to = marking.to_mark in
      let one : to.was.object ≡ marking.was.object = (let a = to.was.there in let b = marking.was.there in cc (a, b)) in
      let is = (to.was.known honest).2 in
      is ∙ ap (λ (x : Stored). marked stamp x.h) one ∙ ap (λ (x : ObjectView). marked stamp x) (sym (marking.was.known honest))
      ∙ sym (ap (λ (b : Bool). if b then marking.old else marked stamp marking.old) marking.unmarked)

  shows : (rv b : ℕ) → kept rv b ≡ (keeping m log v p.at k number stamp).answer → IsShown m boot v (kept_value stamp marking.old) rv b (opened s boot rv birth)
  shows rv b is =
      let number_is = (mark-born (revision (items log) + 1) (state m (items log)) v p.at k number stamp rv b is).0 in
      shown_other m boot v h (kept_value stamp marking.old) rv b (opened s boot rv birth) kept_is
      (subst (λ (x : ℕ). IsShown m boot v h rv x (opened s boot rv birth)) (same_born rv b is)
      (seal-shows m boot v rv birth h s (opened s boot rv birth) marking.seals (omega (arith, number_is, few)) refl))

  none_marked : (e : WriteEnd) → e ≡ (keeping m log v p.at k number stamp).answer → is_done e ≡ false → (keeping m log v p.at k number stamp).item ≡ None
  none_marked e ends over =
      mark-item (revision (items log) + 1) (state m (items log)) v p.at k number stamp ∙ ap (λ (x : WriteEnd). item_if (is_done x) (entry (Mark k number stamp))) (sym ends)
      ∙ ap (λ (b : Bool). item_if b (entry (Mark k number stamp))) over

  pub marked-came : (rose : Type 0) (e : WriteEnd) (a : Answer) → e ≡ (keeping m log v p.at k number stamp).answer → SaysMark boot k.name s birth e a → Came rose (leavings.Deleted m boot v k stamp (items log)) a (keeping m log v p.at k number stamp).item
  marked-came rose (done rv b) a ends told = absurd told
  marked-came rose (kept rv b) a ends told =
      subst (λ (x : Answer). Came rose (leavings.Deleted m boot v k stamp (items log)) x (keeping m log v p.at k number stamp).item) (sym told)
      (marked-reply (kept rv b) (said code_ok (opened s boot rv birth)) ends tt (refl, shows rv b ends))
  marked-came rose (same rv b) a ends told = absurd told
  marked-came rose unserved a ends told =
      subst (λ (x : Answer). Came rose (leavings.Deleted m boot v k stamp (items log)) x (keeping m log v p.at k number stamp).item) (sym told)
      (marked-reply unserved (Err refusal.no_resource) ends tt refl)
  marked-came rose present a ends told = absurd told
  marked-came rose gone a ends (inl told) =
      subst (λ (x : Answer). Came rose (leavings.Deleted m boot v k stamp (items log)) x (keeping m log v p.at k number stamp).item) (sym told)
      (marked-reply gone (Err (refusal.not_found k.name)) ends tt refl)
  marked-came rose gone a ends (inr told) =
      subst (λ (x : Answer). Came rose (leavings.Deleted m boot v k stamp (items log)) x (keeping m log v p.at k number stamp).item) (sym told) (none_marked gone ends refl)
  marked-came rose (newer j) a ends told = absurd told
  marked-came rose forbidden a ends told = absurd told
  marked-came rose (storage_moved now) a ends told = absurd told
  marked-came rose (full room) a ends told = absurd told

  pub marked-again : (e : WriteEnd) → e ≡ (keeping m log v p.at k number stamp).answer → IsRetried e → (keeping m log v p.at k number stamp).item ≡ None
  marked-again (done rv b) ends told = absurd told
  marked-again (kept rv b) ends told = absurd told
  marked-again (same rv b) ends told = absurd told
  marked-again unserved ends told = absurd told
  marked-again present ends told = absurd told
  marked-again gone ends told = absurd told
  marked-again (newer j) ends told = none_marked (newer j) ends refl
  marked-again forbidden ends told = absurd told
  marked-again (storage_moved now) ends told = none_marked (storage_moved now) ends refl
  marked-again (full room) ends told = absurd told
