-- What a success of a put tells of the object of its key, and what a put or a get tells that finds nothing.
use Rattle.std.proofs.Common.{◌≡◌, ◌∙◌, refl, sym, ap, subst, inl, inr, ℕ, Bool, true, false, List, [], ◌∷◌, ◌++◌, Option, None, Some, Ok, Err}
use Rattle.std.specs.Prelude.{◌⊎◌, ◌&&◌, MatchBool, MatchOption, nat_eq, if◌then◌else◌}
use Rattle.std.specs.Ordering.{match_ordering}
use Rattle.std.specs.declared.cmp.Ordering.{Ordering}
use Rattle.std.specs.declared.cmp.Ordering.TheVariants.{Less, Equal, Greater}
use Rattle.std.proofs.lemmas.Bool.{MatchBool-at_true}
use Rattle.std.proofs.lemmas.List.{append-nil}
use Rattle.kube_meta.specs.Key.{KeyView, key_cmp}
use Rattle.kube_meta.specs.View.{ObjectView}
use Rattle.kube_meta.specs.declared.limits.Limits.{Limits}
use Rattle.kube_meta.specs.declared.limits.Room.{Room}
use Rattle.api_calls.specs.laws.GrowthLaws.{state-more}
use Rattle.api_calls.specs.Ends as ends
use Rattle.api_calls.specs.Ends.{WriteEnd, Decision, says, enters, done, same, gone, newer, forbidden, full}
use Rattle.api_calls.specs.Item.{Item, entry, Replace, Release}
use Rattle.api_calls.specs.Legal.{Each}
use Rattle.api_calls.specs.LegalLists.{IsRising}
use Rattle.api_calls.specs.Meaning.{Meaning, Request, Fault, bad_request, invalid}
use Rattle.api_calls.specs.Objects.{Stored, find, put, without, born_or}
use Rattle.api_calls.specs.Refusal as refusal
use Rattle.api_calls.specs.Replies.{Answer, GetReply, ReplaceReply, IsRefusedRequest, WeighsIt, Wrote, ShowsObject, code_ok, fault_refusal}
use Rattle.api_calls.specs.Reply.{ReplyView}
use Rattle.api_calls.specs.Room.{lacking_chunks}
use Rattle.api_calls.specs.State.{State, effect, next_number, served, state}
use Rattle.api_calls.specs.Values.{is_forbidden, is_release}
use Rattle.api_calls.specs.Writes.{ReplaceDecision, Replaces, replaced, with_room}
use Rattle.api_calls.proofs.Finds.{find-none, find-put}
use Rattle.api_calls.proofs.Order.{exact}
use Rattle.api_calls.proofs.Sound.{number}
use Rattle.far_laws.specs.Keys.{IsAbsentOrAt}
use Rattle.far_laws.specs.Answering.{all_of}

-- ---- states

-- the state behind an item, where there is one, the next entry's number being n
abbrev pub after : ℕ → Option Item → State → State
after n None s = s
after n (Some i) s = effect n i s

pub state_after : (m : Meaning) (log : List Item) (i : Option Item) → state m (log ++ all_of i) ≡ after (next_number log) i (state m log)
state_after m log None = ap (λ (l : List Item). state m l) (append-nil log)
state_after m log (Some i) = state-more m log i

find-without : (k : KeyView) (es : List Stored) → IsRising es → find k (without k es) ≡ None
find-without k [] rising = refl
find-without k (e ∷ es) rising = by (key_cmp k e.key) refl (find-without k es rising.1)
  where
    by : (o : Ordering) → key_cmp k e.key ≡ o → find k (without k es) ≡ None → find k (match_ordering o (e ∷ es) es (e ∷ without k es)) ≡ None
    by Less is more = ap (λ (o : Ordering). match_ordering o None (Some e) (find k es)) is
    by Equal is more =
        let same_key : k ≡ e.key = exact k e.key is in
        find-none k es (subst (λ (j : KeyView). Each (λ f. key_cmp j f.key ≡ Less) es) (sym same_key) rising.0)
    by Greater is more = ap (λ (o : Ordering). match_ordering o None (Some e) (find k (without k es))) is ∙ more

found_at : (v : ℕ) (k : KeyView) (es : List Stored) (e : Stored) → find k es ≡ Some e → e.at ≡ v → MatchOption (find k es) (Unit {0}) (λ f. f.at ≡ v)
found_at v k es e is at = subst (λ (o : Option Stored). MatchOption o (Unit {0}) (λ f. f.at ≡ v)) (sym is) at

not_there : (v : ℕ) (k : KeyView) (es : List Stored) → find k es ≡ None → MatchOption (find k es) (Unit {0}) (λ f. f.at ≡ v)
not_there v k es is = subst (λ (o : Option Stored). MatchOption o (Unit {0}) (λ f. f.at ≡ v)) (sym is) tt

-- ---- a put that is given

-- of a replace that showed an object
shown_at : (m : Meaning) (limits : Limits) (boot n next : ℕ) (s : State) (v : ℕ) (k : KeyView) (old h : ObjectView) (w : ℕ) (equal : Bool) (e : Stored) (a : ReplyView)
    → IsRising s.objects → find k s.objects ≡ Some e → Wrote m boot code_ok v k.name h (replaced limits n s k old h w equal e).answer (Ok a)
    → IsAbsentOrAt s.flags.storage k (after next (replaced limits n s k old h w equal e).item s)
shown_at m limits boot n next s v k old h w equal e a rising there wrote = by_forbidden (is_forbidden old h) wrote
  where
    Stands : Decision WriteEnd → Type 0
    Stands d = Wrote m boot code_ok v k.name h d.answer (Ok a) → IsAbsentOrAt s.flags.storage k (after next d.item s)

    by_room : (o : Option Room) → Stands (with_room n e.born (entry (Replace k e.number h w)) o)
    by_room (Some r) wrote = cc
    by_room None wrote =
        let x : Stored = record { key = k; h = h; number = next; at = s.flags.storage; born = born_or (find k s.objects) next; weight = w } in
        found_at s.flags.storage k (put x s.objects) x (find-put x s.objects) refl

    by_same : (b : Bool) → (equal && nat_eq e.at s.flags.storage) ≡ b
        → Stands (if b then says (same e.number e.born) else with_room n e.born (entry (Replace k e.number h w)) (lacking_chunks limits s.objects e.weight w))
    by_same true is wrote = found_at s.flags.storage k s.objects e there (number e.at s.flags.storage (second equal (nat_eq e.at s.flags.storage) is))
      where
        second : (p q : Bool) → (p && q) ≡ true → q ≡ true
        second true q is = is
        second false q is = cc
    by_same false is wrote = by_room (lacking_chunks limits s.objects e.weight w) wrote

    by_release : (b : Bool)
        → Stands (if b then enters (done n e.born) (entry (Release k e.number))
        else if equal && nat_eq e.at s.flags.storage then says (same e.number e.born)
        else with_room n e.born (entry (Replace k e.number h w)) (lacking_chunks limits s.objects e.weight w))
    by_release true wrote = not_there s.flags.storage k (without k s.objects) (find-without k s.objects rising)
    by_release false wrote = by_same (equal && nat_eq e.at s.flags.storage) refl wrote

    by_forbidden : (b : Bool)
        → Stands (if b then says forbidden
        else if is_release old h then enters (done n e.born) (entry (Release k e.number))
        else if equal && nat_eq e.at s.flags.storage then says (same e.number e.born)
        else with_room n e.born (entry (Replace k e.number h w)) (lacking_chunks limits s.objects e.weight w))
    by_forbidden true wrote = cc
    by_forbidden false wrote = by_release (is_release old h) wrote

-- the accepted request and what is decided of it
abbrev pub Accepts : Meaning → Limits → ℕ → ℕ → State → Request → KeyView → Answer → Option Item → Type 0
Accepts m limits boot n s r k a i = (new : ObjectView) × (over : ℕ) × (w : ℕ) × (h : ObjectView) × (d : Decision WriteEnd)
    × m.admits r new (Some over) × WeighsIt m new w
    × ReplaceDecision m limits n s r.version k over new w h d × Wrote m boot code_ok r.version k.name h d.answer a × (i ≡ d.item)

-- what an answer to a replace comes from: the request is refused, or there is a decision, of the object that is found or not
data Replaced (m : Meaning) (limits : Limits) (boot n : ℕ) (s : State) (r : Request) (k : KeyView) (a : Answer) (i : Option Item) : Type 0 where
  unserved : a ≡ Err refusal.no_resource → Replaced m limits boot n s r k a i
  refused : IsRefusedRequest m r a i → Replaced m limits boot n s r k a i
  missing : find k s.objects ≡ None → a ≡ Err (refusal.not_found k.name) → i ≡ None → Replaced m limits boot n s r k a i
  newer_there : (e : Stored) → a ≡ Err (refusal.conflict k.name e.number) → Replaced m limits boot n s r k a i
  met : (e : Stored) (old h : ObjectView) (w : ℕ) (equal : Bool) → find k s.objects ≡ Some e
      → Wrote m boot code_ok r.version k.name h (replaced limits n s k old h w equal e).answer a → i ≡ (replaced limits n s k old h w equal e).item
      → Replaced m limits boot n s r k a i

replaced_by : (m : Meaning) (limits : Limits) (boot n : ℕ) (s : State) (r : Request) (k : KeyView) (a : Answer) (i : Option Item)
    → ReplaceReply m limits boot n s r k a i → Replaced m limits boot n s r k a i
replaced_by m limits boot n s r k a i reply = by_served (served s.flags r.version) refl reply
  where
    by_number : (over : ℕ) (new : ObjectView) (w : ℕ) (h : ObjectView) (d : Decision WriteEnd) (e : Stored) → find k s.objects ≡ Some e → (b : Bool)
        → MatchBool b (Replaces m limits n s k new w e h d) (d ≡ says (newer e.number)) → Wrote m boot code_ok r.version k.name h d.answer a → i ≡ d.item
        → Replaced m limits boot n s r k a i
    by_number over new w h d e there true dec wrote is =
        let old = dec.0 in
        let equal = dec.1 in
        met e old h w equal there
        (subst (λ (q : Decision WriteEnd). Wrote m boot code_ok r.version k.name h q.answer a) dec.5 wrote)
        (is ∙ ap (λ (q : Decision WriteEnd). q.item) dec.5)
    by_number over new w h d e there false dec wrote is =
        newer_there e (subst (λ (q : Decision WriteEnd). Wrote m boot code_ok r.version k.name h q.answer a) dec wrote)

    by_found : (over : ℕ) (new : ObjectView) (w : ℕ) (h : ObjectView) (d : Decision WriteEnd) (o : Option Stored) → find k s.objects ≡ o
        → MatchOption o (d ≡ says gone) (λ e. MatchBool (nat_eq e.number over) (Replaces m limits n s k new w e h d) (d ≡ says (newer e.number)))
        → Wrote m boot code_ok r.version k.name h d.answer a → i ≡ d.item → Replaced m limits boot n s r k a i
    by_found over new w h d None there dec wrote is =
        missing there (subst (λ (q : Decision WriteEnd). Wrote m boot code_ok r.version k.name h q.answer a) dec wrote) (is ∙ ap (λ (q : Decision WriteEnd). q.item) dec)
    by_found over new w h d (Some e) there dec wrote is = by_number over new w h d e there (nat_eq e.number over) dec wrote is

    by_served : (b : Bool) → served s.flags r.version ≡ b
        → MatchBool b (IsRefusedRequest m r a i ⊎ Accepts m limits boot n s r k a i) ((a ≡ Err refusal.no_resource) × (i ≡ None)) → Replaced m limits boot n s r k a i
    by_served false is h = unserved h.0
    by_served true is (inl h) = refused h
    by_served true is (inr x) =
        let dec = MatchBool-at_true (MatchOption (find k s.objects) (x.4 ≡ says gone)
        (λ e. MatchBool (nat_eq e.number x.1) (Replaces m limits n s k x.0 x.2 e x.3 x.4) (x.4 ≡ says (newer e.number)))) (x.4 ≡ says ends.unserved) is x.7 in
        by_found x.1 x.0 x.2 x.3 x.4 (find k s.objects) refl dec x.8 x.9

pub put_given : (m : Meaning) (limits : Limits) (boot n next : ℕ) (s : State) (r : Request) (k : KeyView) (a : ReplyView) (i : Option Item) → IsRising s.objects
    → ReplaceReply m limits boot n s r k (Ok a) i → IsAbsentOrAt s.flags.storage k (after next i s)
put_given m limits boot n next s r k a i rising reply = by (replaced_by m limits boot n s r k (Ok a) i reply)
  where
    by : Replaced m limits boot n s r k (Ok a) i → IsAbsentOrAt s.flags.storage k (after next i s)
    by (unserved is) = cc
    by (refused why) = let is = why.2 in cc
    by (missing there is none) = cc
    by (newer_there e is) = cc
    by (met e old h w equal there wrote is) =
        subst (λ (o : Option Item). IsAbsentOrAt s.flags.storage k (after next o s)) (sym is)
        (shown_at m limits boot n next s r.version k old h w equal e a rising there wrote)

-- ---- what finds nothing

found_nothing : (m : Meaning) (limits : Limits) (boot n : ℕ) (s : State) (v : ℕ) (k : KeyView) (old h : ObjectView) (w : ℕ) (equal : Bool) (e : Stored) (name : List ℕ)
    → Wrote m boot code_ok v k.name h (replaced limits n s k old h w equal e).answer (Err (refusal.not_found name)) → ⊥
found_nothing m limits boot n s v k old h w equal e name wrote = by_forbidden (is_forbidden old h) wrote
  where
    Never : Decision WriteEnd → Type 0
    Never d = Wrote m boot code_ok v k.name h d.answer (Err (refusal.not_found name)) → ⊥

    by_room : (o : Option Room) → Never (with_room n e.born (entry (Replace k e.number h w)) o)
    by_room (Some r) wrote = cc
    by_room None wrote = wrote

    by_same : (b : Bool)
        → Never (if b then says (same e.number e.born) else with_room n e.born (entry (Replace k e.number h w)) (lacking_chunks limits s.objects e.weight w))
    by_same true wrote = wrote
    by_same false wrote = by_room (lacking_chunks limits s.objects e.weight w) wrote

    by_release : (b : Bool)
        → Never (if b then enters (done n e.born) (entry (Release k e.number))
        else if equal && nat_eq e.at s.flags.storage then says (same e.number e.born)
        else with_room n e.born (entry (Replace k e.number h w)) (lacking_chunks limits s.objects e.weight w))
    by_release true wrote = wrote
    by_release false wrote = by_same (equal && nat_eq e.at s.flags.storage) wrote

    by_forbidden : (b : Bool)
        → Never (if b then says forbidden
        else if is_release old h then enters (done n e.born) (entry (Release k e.number))
        else if equal && nat_eq e.at s.flags.storage then says (same e.number e.born)
        else with_room n e.born (entry (Replace k e.number h w)) (lacking_chunks limits s.objects e.weight w))
    by_forbidden true wrote = cc
    by_forbidden false wrote = by_release (is_release old h) wrote

abbrev IsNotFound : List ℕ → Answer → Type 0
IsNotFound name a = Err (refusal.not_found name) ≡ a

no_fault : (m : Meaning) (f : Fault) (name : List ℕ) (A : Type 0) → IsNotFound name (Err (fault_refusal m f)) → A
no_fault m (bad_request why) name A is = cc
no_fault m (invalid other cause) name A is = cc

pub put_missed : (m : Meaning) (limits : Limits) (boot n : ℕ) (s : State) (r : Request) (k : KeyView) (name : List ℕ) (i : Option Item)
    → ReplaceReply m limits boot n s r k (Err (refusal.not_found name)) i → (find k s.objects ≡ None) × (i ≡ None)
put_missed m limits boot n s r k name i reply = by (replaced_by m limits boot n s r k (Err (refusal.not_found name)) i reply)
  where
    by : Replaced m limits boot n s r k (Err (refusal.not_found name)) i → (find k s.objects ≡ None) × (i ≡ None)
    by (unserved is) = cc
    by (refused why) = no_fault m why.0 name ((find k s.objects ≡ None) × (i ≡ None)) why.2
    by (missing there is none) = (there, none)
    by (newer_there e is) = cc
    by (met e old h w equal there wrote is) = absurd (found_nothing m limits boot n s r.version k old h w equal e name wrote)

pub get_missed : (m : Meaning) (boot : ℕ) (s : State) (v : ℕ) (k : KeyView) (name : List ℕ) (i : Option Item) → GetReply m boot s v k (Err (refusal.not_found name)) i
    → (find k s.objects ≡ None) × (i ≡ None)
get_missed m boot s v k name i reply = by_served (served s.flags v) reply.1
  where
    a : Answer
    a = Err (refusal.not_found name)

    by_found : (o : Option Stored) → find k s.objects ≡ o → MatchOption o (a ≡ Err (refusal.not_found k.name)) (λ e. ShowsObject m boot code_ok v e.h e.number e.born a)
        → (find k s.objects ≡ None) × (i ≡ None)
    by_found None there is = (there, reply.0)
    by_found (Some e) there shows = absurd shows

    by_served : (b : Bool)
        → MatchBool b (MatchOption (find k s.objects) (a ≡ Err (refusal.not_found k.name)) (λ e. ShowsObject m boot code_ok v e.h e.number e.born a)) (a ≡ Err refusal.no_resource)
        → (find k s.objects ≡ None) × (i ≡ None)
    by_served true h = by_found (find k s.objects) refl h
    by_served false h = cc

-- ---- the code of a success

shown_code : (m : Meaning) (limits : Limits) (boot n : ℕ) (s : State) (v : ℕ) (k : KeyView) (old h : ObjectView) (w : ℕ) (equal : Bool) (e : Stored) (a : ReplyView)
    → Wrote m boot code_ok v k.name h (replaced limits n s k old h w equal e).answer (Ok a) → a.code ≡ code_ok
shown_code m limits boot n s v k old h w equal e a wrote = by_forbidden (is_forbidden old h) wrote
  where
    Coded : Decision WriteEnd → Type 0
    Coded d = Wrote m boot code_ok v k.name h d.answer (Ok a) → a.code ≡ code_ok

    by_room : (o : Option Room) → Coded (with_room n e.born (entry (Replace k e.number h w)) o)
    by_room (Some r) wrote = cc
    by_room None wrote = wrote.0

    by_same : (b : Bool)
        → Coded (if b then says (same e.number e.born) else with_room n e.born (entry (Replace k e.number h w)) (lacking_chunks limits s.objects e.weight w))
    by_same true wrote = wrote.0
    by_same false wrote = by_room (lacking_chunks limits s.objects e.weight w) wrote

    by_release : (b : Bool)
        → Coded (if b then enters (done n e.born) (entry (Release k e.number))
        else if equal && nat_eq e.at s.flags.storage then says (same e.number e.born)
        else with_room n e.born (entry (Replace k e.number h w)) (lacking_chunks limits s.objects e.weight w))
    by_release true wrote = wrote.0
    by_release false wrote = by_same (equal && nat_eq e.at s.flags.storage) wrote

    by_forbidden : (b : Bool)
        → Coded (if b then says forbidden
        else if is_release old h then enters (done n e.born) (entry (Release k e.number))
        else if equal && nat_eq e.at s.flags.storage then says (same e.number e.born)
        else with_room n e.born (entry (Replace k e.number h w)) (lacking_chunks limits s.objects e.weight w))
    by_forbidden true wrote = cc
    by_forbidden false wrote = by_release (is_release old h) wrote

pub put_shown : (m : Meaning) (limits : Limits) (boot n : ℕ) (s : State) (r : Request) (k : KeyView) (a : ReplyView) (i : Option Item) → ReplaceReply m limits boot n s r k (Ok a) i
    → a.code ≡ code_ok
put_shown m limits boot n s r k a i reply = by (replaced_by m limits boot n s r k (Ok a) i reply)
  where
    by : Replaced m limits boot n s r k (Ok a) i → a.code ≡ code_ok
    by (unserved is) = cc
    by (refused why) = let is = why.2 in cc
    by (missing there is none) = cc
    by (newer_there e is) = cc
    by (met e old h w equal there wrote is) = shown_code m limits boot n s r.version k old h w equal e a wrote

pub get_shown : (m : Meaning) (boot : ℕ) (s : State) (v : ℕ) (k : KeyView) (a : ReplyView) (i : Option Item) → GetReply m boot s v k (Ok a) i → a.code ≡ code_ok
get_shown m boot s v k a i reply = by_served (served s.flags v) reply.1
  where
    by_found : (o : Option Stored) → MatchOption o (Ok a ≡ Err (refusal.not_found k.name)) (λ e. ShowsObject m boot code_ok v e.h e.number e.born (Ok a)) → a.code ≡ code_ok
    by_found None is = cc
    by_found (Some e) shows = shows.0

    by_served : (b : Bool)
        → MatchBool b (MatchOption (find k s.objects) (Ok a ≡ Err (refusal.not_found k.name)) (λ e. ShowsObject m boot code_ok v e.h e.number e.born (Ok a)))
        (Ok a ≡ Err refusal.no_resource) → a.code ≡ code_ok
    by_served true h = by_found (find k s.objects) h
    by_served false h = cc
