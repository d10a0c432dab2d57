-- What a replace enters by a value that is the one that stands, but for stamps and generation.
use Rattle.std.proofs.Common.{◌≡◌, ◌∙◌, refl, sym, ap, ap₂, subst, inl, inr, ℕ, Bool, true, false, not, List, [], ◌∷◌, ◌++◌, length, Option, None, Some, Err, arith}
use Rattle.std.specs.Prelude.{◌⊎◌, ◌&&◌, IsTrue, MatchBool, MatchOption, nat_eq, if◌then◌else◌}
use Rattle.std.specs.declared.cmp.Ordering.{Ordering}
use Rattle.std.specs.declared.cmp.Ordering.TheVariants.{Less, Equal, Greater}
use Rattle.std.proofs.lemmas.Bool.{MatchBool-at_true}
use Rattle.std.proofs.lemmas.Bool.Decides.{nat_tests}
use Rattle.kube_meta.specs.Key.{KeyView, key_cmp}
use Rattle.kube_meta.specs.View.{ObjectView}
use Rattle.kube_meta.specs.declared.limits.Limits.{Limits}
use Rattle.kube_meta.specs.declared.limits.Room.{Room}
use Rattle.api_calls.specs.Ends as ends
use Rattle.api_calls.specs.Ends.{Decision, WriteEnd, done, enters, forbidden, gone, newer, same, says}
use Rattle.api_calls.specs.Item.{Item, Release, Replace, entry}
use Rattle.api_calls.specs.Legal.{HasFinalizer, IsMarked}
use Rattle.api_calls.specs.LegalLists.{MarkedAreHeld}
use Rattle.api_calls.specs.Meaning.{Meaning, Request, stamped}
use Rattle.api_calls.specs.Objects.{Stored, born_or, find, put}
use Rattle.api_calls.specs.Refusal as refusal
use Rattle.api_calls.specs.Replies.{Answer, IsRefusedRequest, ReplaceReply}
use Rattle.api_calls.specs.Room.{lacking_chunks}
use Rattle.api_calls.specs.State.{State, next_number, served, state}
use Rattle.api_calls.specs.Values.{IsUpdate, has_finalizer, is_forbidden, is_marked, is_release, updated_value}
use Rattle.api_calls.specs.Writes.{Replaces, replaced, with_room}
use Rattle.api_calls.specs.laws.ObjectLaws.{each-find}
use Rattle.api_calls.proofs.Finds.{find-put, find-put_other}
use Rattle.api_calls.proofs.Order.{exact, itself}
use Rattle.api_calls.proofs.Sound.{number}
use Rattle.far_laws.specs.Answering.{all_of}
use Rattle.far_laws.proofs.Replacing.{Accepts, state_after}
use Rattle.far_laws.specs.GivenBack.{unstamped}
use Rattle.far_laws.specs.Keeping.{KeepsValues, SameValue}

-- nothing is entered, or the value that stands under the key once more
pub data WritesSame (s : State) (key : KeyView) (i : Option Item) : Type 0 where
  nothing : i ≡ None → WritesSame s key i
  again : (e : Stored) (h : ObjectView) (w : ℕ) → find key s.objects ≡ Some e → h ≡ e.h → i ≡ Some (entry (Replace key e.number h w)) → WritesSame s key i

-- ---- the value

marked_is : (h : ObjectView) → is_marked h ≡ true → IsMarked h
marked_is h is = is

not_twice : (b : Bool) → b ≡ false → not (not b) ≡ true → ⊥
not_twice true p q = cc
not_twice false p q = cc

no_length : (fs : List (List ℕ)) → not (not (nat_eq (length fs) 0)) ≡ true → fs ≡ []
no_length [] is = refl
no_length (f ∷ fs) is = let some : nat_eq (length (f ∷ fs)) 0 ≡ false = grind (arith, nat_tests) in absurd (not_twice (nat_eq (length (f ∷ fs)) 0) some is)

both : (a b : Bool) → (a && b) ≡ true → (a ≡ true) × (b ≡ true)
both true true is = (refl, refl)
both true false is = cc
both false b is = cc

-- the last finalizer isn't taken from an object that is being deleted
not_released : (old h : ObjectView) → h ≡ old → (IsMarked old → HasFinalizer old) → is_release old h ≡ true → ⊥
not_released old h value held is =
    let parts = both (is_marked old) (not (has_finalizer h)) is in
    held (marked_is old parts.0) (ap (λ (x : ObjectView). x.meta.finalizers) (sym value) ∙ no_length h.meta.finalizers parts.1)

updated_same : (old new h g : ObjectView) → old ≡ g → new ≡ unstamped g → IsUpdate old new h → h ≡ g
updated_same old new h g is new_is update =
    let body : new.body ≡ old.body = ap (λ (x : ObjectView). x.body) new_is ∙ ap (λ (x : ObjectView). x.body) (sym is) in
    let equal : update.0 ≡ true = update.1.1 body in
    update.2 ∙ ap (λ (b : Bool). updated_value b old new) equal
    ∙ ap₂ (λ (x y : ObjectView). stamped x y.meta.created y.meta.deleted y.meta.generation) new_is is

-- ---- the item

module _ (limits : Limits) (n : ℕ) (s : State) (key : KeyView) (old h : ObjectView) (w : ℕ) (equal : Bool) (e : Stored) (there : find key s.objects ≡ Some e) (same_value : h ≡ e.h)
    (kept : is_release old h ≡ true → ⊥) where
  abbrev Writes : Decision WriteEnd → Type 0
  Writes d = WritesSame s key d.item

  by_room : (o : Option Room) → Writes (with_room n e.born (entry (Replace key e.number h w)) o)
  by_room (Some r) = nothing refl
  by_room None = again e h w there same_value refl

  by_same : (b : Bool) → Writes (if b then says (same e.number e.born) else with_room n e.born (entry (Replace key e.number h w)) (lacking_chunks limits s.objects e.weight w))
  by_same true = nothing refl
  by_same false = by_room (lacking_chunks limits s.objects e.weight w)

  by_release : (b : Bool) → is_release old h ≡ b
      → Writes (if b then enters (done n e.born) (entry (Release key e.number))
      else if equal && nat_eq e.at s.flags.storage then says (same e.number e.born)
      else with_room n e.born (entry (Replace key e.number h w)) (lacking_chunks limits s.objects e.weight w))
  by_release true is = absurd (kept is)
  by_release false is = by_same (equal && nat_eq e.at s.flags.storage)

  by_forbidden : (b : Bool)
      → Writes (if b then says forbidden
      else if is_release old h then enters (done n e.born) (entry (Release key e.number))
      else if equal && nat_eq e.at s.flags.storage then says (same e.number e.born)
      else with_room n e.born (entry (Replace key e.number h w)) (lacking_chunks limits s.objects e.weight w))
  by_forbidden true = nothing refl
  by_forbidden false = by_release (is_release old h) refl

  pub replaced_writes : WritesSame s key (replaced limits n s key old h w equal e).item
  replaced_writes = by_forbidden (is_forbidden old h)

-- what is admitted over a number is the value of the object that has it
abbrev pub AdmitsSame : Meaning → State → Request → KeyView → Type 0
AdmitsSame m s r key = (g : ObjectView) (over : ℕ) (e : Stored) → m.admits r g (Some over) → find key s.objects ≡ Some e → e.number ≡ over → g ≡ unstamped e.h

pub reply_writes : (m : Meaning) (limits : Limits) (boot n : ℕ) (s : State) (r : Request) (key : KeyView) (a : Answer) (i : Option Item) → IsTrue m.honest → MarkedAreHeld s → AdmitsSame m s r key
    → ReplaceReply m limits boot n s r key a i → WritesSame s key i
reply_writes m limits boot n s r key a i honest held admits reply = by_served (served s.flags r.version) refl reply
  where
    by_item : (d : Decision WriteEnd) → i ≡ d.item → WritesSame s key d.item → WritesSame s key i
    by_item d is writes = subst (λ (o : Option Item). WritesSame s key o) (sym is) writes

    by_number : (new : ObjectView) (over w : ℕ) (h : ObjectView) (d : Decision WriteEnd) (e : Stored) → m.admits r new (Some over) → find key s.objects ≡ Some e → (b : Bool) → nat_eq e.number over ≡ b
        → MatchBool b (Replaces m limits n s key new w e h d) (d ≡ says (newer e.number)) → i ≡ d.item → WritesSame s key i
    by_number new over w h d e allowed there true at dec is =
        let old = dec.0 in
        let equal = dec.1 in
        let old_is : old ≡ e.h = dec.2 honest in
        let value : h ≡ e.h = updated_same old new h e.h old_is (admits new over e allowed there (number e.number over at)) dec.3 in
        let held_one = each-find (λ f. IsMarked f.h → HasFinalizer f.h) key s.objects e held there in
        let kept = not_released old h (value ∙ sym old_is) (subst (λ (x : ObjectView). IsMarked x → HasFinalizer x) (sym old_is) held_one) in
        by_item d is (subst (λ (q : Decision WriteEnd). WritesSame s key q.item) (sym dec.5) (replaced_writes limits n s key old h w equal e there value kept))
    by_number new over w h d e allowed there false at dec is = nothing (is ∙ ap (λ (q : Decision WriteEnd). q.item) dec)

    by_found : (new : ObjectView) (over w : ℕ) (h : ObjectView) (d : Decision WriteEnd) → m.admits r new (Some over) → (o : Option Stored) → find key s.objects ≡ o
        → MatchOption o (d ≡ says gone) (λ e. MatchBool (nat_eq e.number over) (Replaces m limits n s key new w e h d) (d ≡ says (newer e.number))) → i ≡ d.item → WritesSame s key i
    by_found new over w h d allowed None there dec is = nothing (is ∙ ap (λ (q : Decision WriteEnd). q.item) dec)
    by_found new over w h d allowed (Some e) there dec is = by_number new over w h d e allowed there (nat_eq e.number over) refl dec is

    by_served : (b : Bool) → served s.flags r.version ≡ b → MatchBool b (IsRefusedRequest m r a i ⊎ Accepts m limits boot n s r key a i) ((a ≡ Err refusal.no_resource) × (i ≡ None)) → WritesSame s key i
    by_served false is h = nothing h.1
    by_served true is (inl refused) = nothing refused.3
    by_served true is (inr x) =
        let dec = MatchBool-at_true (MatchOption (find key s.objects) (x.4 ≡ says gone)
        (λ e. MatchBool (nat_eq e.number x.1) (Replaces m limits n s key x.0 x.2 e x.3 x.4) (x.4 ≡ says (newer e.number)))) (x.4 ≡ says ends.unserved) is x.7 in
        by_found x.0 x.1 x.2 x.3 x.4 x.5 (find key s.objects) refl dec x.9

-- ---- the state behind it

same_self : (o : Option Stored) → SameValue o o
same_self None = tt
same_self (Some e) = refl

pub keeps_none : (m : Meaning) (log : List Item) → (i : Option Item) → i ≡ None → KeepsValues m log (all_of i)
keeps_none m log i none key =
    subst (λ (o : Option Item). SameValue (find key (state m log).objects) (find key (state m (log ++ all_of o)).objects)) (sym none)
    (subst (λ (q : State). SameValue (find key (state m log).objects) (find key q.objects)) (sym (state_after m log None)) (same_self (find key (state m log).objects)))

pub writes_keep : (m : Meaning) (log : List Item) (key : KeyView) (i : Option Item) → WritesSame (state m log) key i → KeepsValues m log (all_of i)
writes_keep m log key i (nothing none) = keeps_none m log i none
writes_keep m log key i (again e h w there value is) = λ other.
    subst (λ (o : Option Item). SameValue (find other (state m log).objects) (find other (state m (log ++ all_of o)).objects)) (sym is)
    (subst (λ (q : State). SameValue (find other (state m log).objects) (find other q.objects)) (sym (state_after m log (Some (entry (Replace key e.number h w)))))
    (by_key other (key_cmp other key) refl))
  where
    s : State
    s = state m log

    x : Stored
    x = record { key = key; h = h; number = next_number log; at = s.flags.storage; born = born_or (find key s.objects) (next_number log); weight = w }

    other_key : (k : KeyView) → (k ≡ key → ⊥) → SameValue (find k s.objects) (find k (put x s.objects))
    other_key k differs = subst (λ (o : Option Stored). SameValue (find k s.objects) o) (sym (find-put_other k x s.objects differs)) (same_self (find k s.objects))

    same_key : (k : KeyView) → k ≡ key → SameValue (find k s.objects) (find k (put x s.objects))
    same_key k is_key =
        subst (λ (j : KeyView). SameValue (find j s.objects) (find j (put x s.objects))) (sym is_key)
        (subst (λ (o : Option Stored). SameValue o (find key (put x s.objects))) (sym there)
        (subst (λ (o : Option Stored). SameValue (Some e) o) (sym (find-put x s.objects)) value))

    never_equal : (o : Ordering) (k : KeyView) → key_cmp k key ≡ o → (o ≡ Equal → ⊥) → k ≡ key → ⊥
    never_equal o k is_cmp other is_key = other (sym is_cmp ∙ ap (λ (j : KeyView). key_cmp j key) is_key ∙ itself key)

    by_key : (k : KeyView) (o : Ordering) → key_cmp k key ≡ o → SameValue (find k s.objects) (find k (put x s.objects))
    by_key k Equal is_cmp = same_key k (exact k key is_cmp)
    by_key k Less is_cmp = other_key k (never_equal Less k is_cmp (λ p. cc))
    by_key k Greater is_cmp = other_key k (never_equal Greater k is_cmp (λ p. cc))
