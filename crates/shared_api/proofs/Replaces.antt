-- From the parts of a replace to how its call comes out.
use Rattle.std.proofs.Common.{◌≡◌, ◌⊎◌, ℕ, ◌≤◌, ◌<◌, ◌+◌, ◌^◌, Bool, true, false, List, [], ◌++◌, Option, None, Some, Ok, Err, inl, inr, ap, sym, subst, refl, ◌∙◌, arith, eq-eqb}
use Rattle.std.specs.Prelude.{◌&&◌, not, nat_eq, MatchBool, IsTrue, if◌then◌else◌}
use Rattle.std.proofs.lemmas.List.{append-nil}
use mathlib.Core.List.{IsPrefix}
use Rattle.kube_meta.specs.Key.{KeyView}
use Rattle.kube_meta.specs.View.{ObjectView, object_of}
use Rattle.kube_meta.specs.declared.limits.Limits.{Limits}
use Rattle.kube_meta.specs.declared.limits.Room.{Room}
use Rattle.api_calls.specs.Calls.{Server, answered, replace, Failure, no_memory, converter, Fails, failure_refusal}
use Rattle.api_calls.specs.Ends.{WriteEnd, done, unserved, newer, storage_moved, Decision, says, enters}
use Rattle.api_calls.specs.Item.{Logged, Item, entry, Replace, Release, items}
use Rattle.api_calls.specs.Legal.{Follows, IsMarked}
use Rattle.api_calls.specs.Meaning.{Meaning, Request, Fault, bad_request, invalid}
use Rattle.api_calls.specs.Objects.{Stored, find}
use Rattle.api_calls.specs.Refusal.{RefusalView}
use Rattle.api_calls.specs.Refusal as refusal
use Rattle.api_calls.specs.Replies.{Answer, ShowsObject, Wrote, code_ok, fault_refusal}
use Rattle.api_calls.specs.ReplyLaws.{IsFinal, moved-stands, release-reply, replace-reply, same-reply}
use Rattle.api_calls.specs.Room.{lacking_chunks}
use Rattle.api_calls.specs.State.{State, revision, served, state}
use Rattle.api_calls.specs.Values.{has_finalizer, is_marked}
use Rattle.api_calls.specs.Writes.{Takes, at_number, if_storage, with_room, replace_commit, release_commit}
use Rattle.api_core.specs.laws.CoreLaws.{same-later}
use Rattle.api_core.specs.laws.ListLaws.{items-append}
use Rattle.api_core.specs.Prepared.{IsEnding, Replacing}
use Rattle.api_core.specs.declared.seen.Prepared.{Prepared}
use Rattle.turn_cell.specs.declared.view.View.{View}
use Rattle.call_texts.specs.Told.{Came, decided}
use Rattle.shared_api.specs.Answered.{CallsOn}
use Rattle.write_texts.specs.Readying.{Tells}
use Rattle.shared_api.specs.inner.WriteTurns.{Commits, Rested, Results, SeenAt, is_done, releases, replaces}
use Rattle.write_texts.specs.Replacing.{GoesOver, IsMade, RepliesToReplace, StandsOver}
use Rattle.shared_api.specs.inner.ReplaceTurns.{Attempts, Settled}
use Rattle.shared_api.specs.inner.Turning.{Reads, Writes, item_if}
use Rattle.write_texts.specs.declared.change.Change.{Change}
use Rattle.write_texts.specs.declared.tried.Tried.{Tried}
use Rattle.write_texts.specs.declared.tried.Tried.TheVariants as tried
use Rattle.call_texts.proofs.Born.{born-within}
use Rattle.shared_api.proofs.Committing.{replace-item}
use Rattle.shared_api.proofs.Entering.{writes-join, writes_calls}
use Rattle.write_texts.proofs.Preparing.{failed-came}
use Rattle.shared_api.proofs.Results.{bound-came, never_converter, never_memory, reads-join, reads-writes, results-join}
use Rattle.write_texts.proofs.Updating.{first_of_both, update-follows}
use Rattle.write_texts.proofs.Replacing.{Accepts, Lacks, number, refused_with}

-- ---- a reply is no want of memory and no fault of the tool

fault_memory : (m : Meaning) (f : Fault) → fault_refusal m f ≡ refusal.no_memory → ⊥
fault_memory m (bad_request why) is = cc
fault_memory m (invalid name cause) is = cc

fault_converter : (m : Meaning) (f : Fault) → fault_refusal m f ≡ refusal.converter → ⊥
fault_converter m (bad_request why) is = cc
fault_converter m (invalid name cause) is = cc

err_is : (d e : RefusalView) → refused_with d ≡ refused_with e → d ≡ e
err_is d e is = cc

pub memory-never : (s : Server) (q : Request) (k : KeyView) (log : List Item) (i : Option Item) → RepliesToReplace s q k log (Err refusal.no_memory) i → ⊥
memory-never s q k log i r = by (served (state s.meaning log).flags q.version) r
  where
    by : (b : Bool) → MatchBool b (Accepts s q k log (Err refusal.no_memory) i) (Lacks (Err refusal.no_memory) i) → ⊥
    by true (inl h) = fault_memory s.meaning h.0 (err_is (fault_refusal s.meaning h.0) refusal.no_memory (sym h.2))
    by true (inr h) = never_memory s.meaning s.boot code_ok q.version k.name h.3 h.4.answer h.8
    by false h = let is = h.0 in cc

pub converter-never : (s : Server) (q : Request) (k : KeyView) (log : List Item) (i : Option Item) → RepliesToReplace s q k log (Err refusal.converter) i → ⊥
converter-never s q k log i r = by (served (state s.meaning log).flags q.version) r
  where
    by : (b : Bool) → MatchBool b (Accepts s q k log (Err refusal.converter) i) (Lacks (Err refusal.converter) i) → ⊥
    by true (inl h) = fault_converter s.meaning h.0 (err_is (fault_refusal s.meaning h.0) refusal.converter (sym h.2))
    by true (inr h) = never_converter s.meaning s.boot code_ok q.version k.name h.3 h.4.answer h.8
    by false h = let is = h.0 in cc

pub reply-came : (s : Server) (rose : Type 0) (q : Request) (k : KeyView) (log : List Item) (a : Answer) (i : Option Item) → RepliesToReplace s q k log a i → Came rose (RepliesToReplace s q k log) a i
reply-came s rose q k log a i r =
    bound-came rose (RepliesToReplace s q k log) (λ b. RepliesToReplace s q k log b i) a i (memory-never s q k log i) (converter-never s q k log i) r r

-- ---- calls

replace_fails : (q : Request) (k : KeyView) (f : Failure) → Fails f (replace q k) (answered (Err (failure_refusal f)))
replace_fails q k no_memory = refl
replace_fails q k converter = refl

-- a replace that came out so after its last turn
pub replace_calls : {B : Type 0} (s : Server) (rose : Type 0) (v z : View B) (log : List Logged) (q : Request) (k : KeyView) (a : Answer) (i : Option Item)
    → Writes s v z log i → Came rose (RepliesToReplace s q k (items log)) a i → CallsOn s rose [] v z (replace q k) (answered a)
replace_calls s rose v z log q k a i writes comes =
    writes_calls s rose [] v z log (replace q k) (RepliesToReplace s q k (items log)) (λ b j h. (b, refl, h)) (replace_fails q k) (λ h. tt) a (answered a) i writes comes refl

-- what was seen after a turn that added nothing
pub seen-of : {B : Type 0} (s : Server) (v z : View B) (log : List Logged) → Reads s v z log → z.seen ≡ log
seen-of {B = B} s v z log reads = ap (λ (x : View B). x.seen) reads.turned.3 ∙ append-nil log

-- a replace that came out so after a look
pub looked_calls : {B : Type 0} (s : Server) (rose : Type 0) (v z : View B) (log : List Logged) (q : Request) (k : KeyView) (a : Answer)
    → Reads s v z log → Came rose (RepliesToReplace s q k (items log)) a None → CallsOn s rose [] v z (replace q k) (answered a)
looked_calls s rose v z log q k a reads came = replace_calls s rose v z log q k a None (reads-writes s v z log reads) came

pub settled_calls : {B : Type 0} (s : Server) (rose : Type 0) (v w z : View B) (first : List Logged) (q : Request) (k : KeyView) (a : Answer)
    → Reads s v w first → Settled s rose w z (RepliesToReplace s q k) a → CallsOn s rose [] v z (replace q k) (answered a)
settled_calls {B = B} s rose v w z first q k a reads (inl (inl d)) =
    replace_calls s rose v z d.log q k a d.item (writes-join s v w z first d.log d.item reads d.writes) (reply-came s rose q k (items d.log) a d.item d.answers)
settled_calls {B = B} s rose v w z first q k a reads (inl (inr f)) = by f.rested
  where
    by : Rested s w z → CallsOn s rose [] v z (replace q k) (answered a)
    by (inl one) =
        looked_calls s rose v z first q k a (subst (λ (x : View B). Reads s v x first) (sym one) reads) (failed-came rose (RepliesToReplace s q k (items first)) a f.cause)
    by (inr stays) =
        looked_calls s rose v z stays.log q k a (reads-join s v w z first stays.log reads stays.reads) (failed-came rose (RepliesToReplace s q k (items stays.log)) a f.cause)
settled_calls {B = B} s rose v w z first q k a reads (inr (one, d)) =
    looked_calls s rose v z first q k a (subst (λ (x : View B). Reads s v x first) (sym one) reads)
    (reply-came s rose q k (items first) a None (subst (λ (l : List Logged). RepliesToReplace s q k (items l) a None) (seen-of s v w first reads) d))

-- the answer of a later attempt
pub settled-join : {B : Type 0} (s : Server) (rose later : Type 0) (v w z : View B) (D : List Item → Answer → Option Item → Type 0) (a : Answer) → (later → rose)
    → Rested s v w → Settled s later w z D a → Settled s rose v z D a
settled-join {B = B} s rose later v w z D a rises rested (inl r) = inl (results-join s rose later v w z D a rises rested r)
settled-join {B = B} s rose later v w z D a rises (inl one) (inr (is, d)) = inr (is ∙ one, subst (λ (x : View B). D (items x.seen) a None) one d)
settled-join {B = B} s rose later v w z D a rises (inr stays) (inr (is, d)) =
    inl (inl (record {
      log = stays.log;
      item = None;
      writes = reads-writes s v z stays.log (subst (λ (x : View B). Reads s v x stays.log) (sym is) stays.reads);
      answers = subst (λ (l : List Logged). D (items l) a None) (seen-of s v w stays.log stays.reads) d;
    }))

-- ---- what is known of the object at a later turn

-- the object that stands later at the number is the one that was seen
later-one : (m : Meaning) (xs ys : List Logged) (k : KeyView) (over : ℕ) (e f : Stored) → IsPrefix xs ys → find k (state m (items xs)).objects ≡ Some e → e.number ≡ over
    → find k (state m (items ys)).objects ≡ Some f → f.number ≡ over → e ≡ f
later-one m xs ys k over e f on seen at there later =
    let more : List Item = items on.0 in
    let all : items ys ≡ items xs ++ more = ap (λ (l : List Logged). items l) (sym on.1) ∙ items-append xs on.0 in
    same-later m (items xs) more k e f seen (subst (λ (is : List Item). find k (state m is).objects ≡ Some f) all there) (later ∙ sym at)

-- what is asked of a value that is to be entered over the object
pub over-seen : (m : Meaning) (q : Request) (k : KeyView) (log : List Item) (c : Change) (storage : ℕ) (p : Prepared)
    → GoesOver m q k log c storage → c.release ≡ false → (IsTrue c.equal → c.at ≡ storage → ⊥) → p.key ≡ k → p.at ≡ storage
    → SeenAt m log p.key c.over (Replacing p (object_of c.hub))
over-seen m q k log c storage p goes stays changes key at =
    subst (λ (j : KeyView). SeenAt m log j c.over (Replacing p (object_of c.hub))) (sym key) (record {
      object = goes.stands.object;
      there = goes.stands.there;
      number = goes.stands.number;
      known = λ honest.
          let takes = goes.stands.takes honest in (
            subst (λ (o : ObjectView). Follows o (object_of c.hub)) takes
                (update-follows goes.old goes.made.new (object_of c.hub) goes.made.update goes.made.allowed (goes.made.ends ∙ stays)),
            (λ one stored. changes (goes.made.equals.1 (one ∙ sym takes)) (sym goes.stands.at ∙ stored ∙ at)),
          );
    })

-- what is asked of an object that is to be released
pub ending-seen : (m : Meaning) (q : Request) (k : KeyView) (log : List Item) (c : Change) (storage : ℕ) → GoesOver m q k log c storage → c.release ≡ true → SeenAt m log k c.over IsEnding
ending-seen m q k log c storage goes ends = record {
  object = goes.stands.object;
  there = goes.stands.there;
  number = goes.stands.number;
  known = λ honest. subst IsMarked (goes.stands.takes honest) (first_of_both (is_marked goes.old) (not (has_finalizer (object_of c.hub))) (goes.made.ends ∙ ends));
}

-- a value that differs or stands elsewhere
unlike : (a : Bool) (x y : ℕ) → (IsTrue a → x ≡ y → ⊥) → (a && nat_eq x y) ≡ false
unlike false x y differs = refl
unlike true x y differs = by (nat_eq x y) refl
  where
    by : (b : Bool) → nat_eq x y ≡ b → nat_eq x y ≡ false
    by true is = absurd (differs refl (number x y is))
    by false is = is

alike : (a : Bool) (x y : ℕ) → a ≡ true → x ≡ y → (a && nat_eq x y) ≡ true
alike a x y equal is = rw equal (eq-eqb x y is)

-- where the object stands at its number, and the value was prepared for another version, that is the end
moved-ends : (limits : Limits) (n : ℕ) (s : State) (v at : ℕ) (k : KeyView) (over : ℕ) (h : ObjectView) (w : ℕ) (e : Stored)
    → served s.flags v ≡ true → find k s.objects ≡ Some e → e.number ≡ over → nat_eq at s.flags.storage ≡ false
    → (replace_commit limits n s v at k over h w).answer ≡ storage_moved s.flags.storage
moved-ends limits n s v at k over h w e may there is_over elsewhere = rw may (rw there (rw (eq-eqb e.number over is_over) (rw elsewhere refl)))

-- where the version isn't served, that is the end
unserved-ends : (limits : Limits) (n : ℕ) (s : State) (v at : ℕ) (k : KeyView) (over : ℕ) (h : ObjectView) (w : ℕ) → served s.flags v ≡ false
    → replace_commit limits n s v at k over h w ≡ says unserved
unserved-ends limits n s v at k over h w is =
    ap
    (λ (b : Bool). if not b then says unserved
    else at_number over (find k s.objects) (λ e. if_storage s at (with_room n e.born (entry (Replace k over h w)) (lacking_chunks limits s.objects e.weight w)))) is

-- a value whose commit ended for good differs from the one that stands at the storage version
final-differs : (limits : Limits) (n : ℕ) (s : State) (v at : ℕ) (k : KeyView) (over : ℕ) (h : ObjectView) (w : ℕ) (equal : Bool) (e : Stored)
    → served s.flags v ≡ true → find k s.objects ≡ Some e → e.number ≡ over → (IsTrue equal → e.at ≡ at → ⊥) → IsFinal (replace_commit limits n s v at k over h w).answer
    → (b : Bool) → nat_eq at s.flags.storage ≡ b → IsTrue equal → e.at ≡ s.flags.storage → ⊥
final-differs limits n s v at k over h w equal e may there is_over differs final true same_at is_equal stands = differs is_equal (stands ∙ sym (number at s.flags.storage same_at))
final-differs limits n s v at k over h w equal e may there is_over differs final false elsewhere is_equal stands =
    subst (λ (x : WriteEnd). IsFinal x) (moved-ends limits n s v at k over h w e may there is_over elsewhere) final

-- the reply that a commit's end gives
over-reply : (s : Server) (q : Request) (k : KeyView) (log : List Item) (old : ObjectView) (c : Change) (at : ℕ) (a : Answer) → IsMade s.meaning q k old c → c.release ≡ false
    → ((e : Stored) → find k (state s.meaning log).objects ≡ Some e → e.number ≡ c.over → Takes s.meaning e.h old × (IsTrue c.equal → e.at ≡ at → ⊥))
    → IsFinal (replace_commit s.limits (revision log + 1) (state s.meaning log) q.version at k c.over (object_of c.hub) c.weight).answer
    → Wrote s.meaning s.boot code_ok q.version k.name (object_of c.hub) (replace_commit s.limits (revision log + 1) (state s.meaning log) q.version at k c.over (object_of c.hub) c.weight).answer a
    → (b : Bool) → served (state s.meaning log).flags q.version ≡ b
    → RepliesToReplace s q k log a (replace_commit s.limits (revision log + 1) (state s.meaning log) q.version at k c.over (object_of c.hub) c.weight).item
over-reply s q k log old c at a made stays known final wrote false is =
    let none = unserved-ends s.limits (revision log + 1) (state s.meaning log) q.version at k c.over (object_of c.hub) c.weight is in
    subst (λ (d : Decision WriteEnd). RepliesToReplace s q k log a d.item) (sym none)
    (subst (λ (b : Bool). MatchBool b (Accepts s q k log a None) (Lacks a None)) (sym is)
    (subst (λ (d : Decision WriteEnd). Wrote s.meaning s.boot code_ok q.version k.name (object_of c.hub) d.answer a) none wrote, refl))
over-reply s q k log old c at a made stays known final wrote true is =
    replace-reply s.meaning s.limits s.boot (revision log + 1) (state s.meaning log) q k c.over made.new c.weight (object_of c.hub) old c.equal at a
    made.admits made.admitted made.update made.equals made.allowed (made.ends ∙ stays)
    (λ e there is_over.
    let both = known e there is_over in (
      both.0,
      unlike c.equal e.at (state s.meaning log).flags.storage
          (final-differs s.limits (revision log + 1) (state s.meaning log) q.version at k c.over (object_of c.hub) c.weight c.equal e is there is_over both.1 final
          (nat_eq at (state s.meaning log).flags.storage) refl),
    ))
    final wrote

-- a turn that ended without an item
reads-none : {B : Type 0} (s : Server) (v z : View B) (log : List Logged) (i : Option Item) → Writes s v z log i → i ≡ None → Reads s v z log
reads-none s v z log i writes is =
    let w : Writes s v z log None = subst (λ (o : Option Item). Writes s v z log o) is writes in record { turned = w.turned; legal = w.legal; few = w.few }

-- an attempt at a replace, by the end of its commit
pub over-attempts : {B : Type 0} (s : Server) (rose : Type 0) (v z : View B) (q : Request) (k : KeyView) (c : Change) (storage : ℕ) (p : Prepared) (name : List ℕ) (e : WriteEnd) (t : Tried)
    → GoesOver s.meaning q k (items v.seen) c storage → c.release ≡ false → (IsTrue c.equal → c.at ≡ storage → ⊥)
    → Commits s v z (replaces s c.v c.over p (object_of c.hub)) e → p.key ≡ k → p.at ≡ storage → p.weight ≡ c.weight → name ≡ k.name
    → Tells s.meaning s.boot code_ok c.v name (object_of c.hub) e t
    → ((now : ℕ) → e ≡ storage_moved now → now < s.meaning.count) → Attempts s rose v z q k c t
over-attempts {B = B} s rose v z q k c storage p name e (tried.Told a) goes stays changes commits key at weight named tells count =
    let log : List Item = items commits.log in
    let h : ObjectView = object_of c.hub in
    let D : ℕ → KeyView → ℕ → Decision WriteEnd = λ x j w. replace_commit s.limits (revision log + 1) (state s.meaning log) x p.at j c.over h w in
    let one : D c.v p.key p.weight ≡ D q.version k c.weight =
    ap (λ (x : ℕ). D x p.key p.weight) goes.made.version ∙ ap (λ (j : KeyView). D q.version j p.weight) key ∙ ap (D q.version k) weight in
    let ends : e ≡ (D q.version k c.weight).answer = commits.ends ∙ ap (λ (d : Decision WriteEnd). d.answer) one in
    let wrote = subst (λ (x : ℕ). Wrote s.meaning s.boot code_ok x k.name h e (decided a)) goes.made.version
    (subst (λ (n : List ℕ). Wrote s.meaning s.boot code_ok c.v n h e (decided a)) named tells.1) in
    let known : (f : Stored) → find k (state s.meaning log).objects ≡ Some f → f.number ≡ c.over → Takes s.meaning f.h goes.old × (IsTrue c.equal → f.at ≡ p.at → ⊥) =
    λ f there is_over.
    let same_one = later-one s.meaning v.seen commits.log k c.over goes.stands.object f commits.writes.turned.0 goes.stands.there goes.stands.number there is_over in (
      subst (λ (g : Stored). Takes s.meaning g.h goes.old) same_one goes.stands.takes,
      (λ equal stored. changes equal (sym goes.stands.at ∙ ap (λ (g : Stored). g.at) same_one ∙ stored ∙ at)),
    ) in
    inl (inl (record {
      log = commits.log;
      item = (D c.v p.key p.weight).item;
      writes = commits.writes;
      answers = subst (λ (i : Option Item). RepliesToReplace s q k log (decided a) i) (sym (ap (λ (d : Decision WriteEnd). d.item) one))
          (over-reply s q k log goes.old c p.at (decided a) goes.made stays known (subst (λ (x : WriteEnd). IsFinal x) ends tells.0)
          (subst (λ (x : WriteEnd). Wrote s.meaning s.boot code_ok q.version k.name h x (decided a)) ends wrote)
          (served (state s.meaning log).flags q.version) refl);
    }))
over-attempts {B = B} s rose v z q k c storage p name e (tried.Moved now) goes stays changes commits key at weight named tells count =
    let log : List Item = items commits.log in
    let h : ObjectView = object_of c.hub in
    let st : State = state s.meaning log in
    let none : (replaces s c.v c.over p h log).item ≡ None =
    replace-item s.limits (revision log + 1) st c.v p.at p.key c.over h p.weight
    ∙ ap (λ (x : WriteEnd). item_if (is_done x) (entry (Replace p.key c.over h p.weight))) (sym commits.ends ∙ tells) in
    let still = reads-none s v z commits.log (replaces s c.v c.over p h log).item commits.writes none in
    let moved = moved-stands s.limits (revision log + 1) st c.v p.at p.key c.over h p.weight now (sym commits.ends ∙ tells) in
    let there : find k st.objects ≡ Some moved.1 = subst (λ (j : KeyView). find j st.objects ≡ Some moved.1) key moved.2 in
    let same_one = later-one s.meaning v.seen commits.log k c.over goes.stands.object moved.1 commits.writes.turned.0 goes.stands.there goes.stands.number there moved.3 in
    let stands : StandsOver s.meaning log k goes.old c now = record {
      object = moved.1;
      there = there;
      number = moved.3;
      born = ap (λ (g : Stored). g.born) (sym same_one) ∙ goes.stands.born;
      at = ap (λ (g : Stored). g.at) (sym same_one) ∙ goes.stands.at;
      takes = subst (λ (g : Stored). Takes s.meaning g.h goes.old) same_one goes.stands.takes;
      may = moved.0;
      stored = moved.4;
      known = count now tells;
    } in (
      record { log = commits.log; reads = still },
      record {
        old = goes.old;
        made = goes.made;
        stands = subst (λ (l : List Logged). StandsOver s.meaning (items l) k goes.old c now) (sym (seen-of s v z commits.log still)) stands;
      },
    )

-- ---- the value that stands there

came-cause : (rose : Type 0) (D : Answer → Option Item → Type 0) (a : Answer) → Came rose D a None → D a None ⊎ ((a ≡ Err refusal.no_memory) ⊎ (rose × (a ≡ Err refusal.converter)))
came-cause rose D (Ok r) h = inl h
came-cause rose D (Err (refusal.not_found name)) h = inl h
came-cause rose D (Err refusal.no_resource) h = inl h
came-cause rose D (Err (refusal.already_exists name)) h = inl h
came-cause rose D (Err (refusal.conflict name other)) h = inl h
came-cause rose D (Err (refusal.invalid subject cause)) h = inl h
came-cause rose D (Err (refusal.bad_request why)) h = inl h
came-cause rose D (Err (refusal.expired floor)) h = inl h
came-cause rose D (Err (refusal.full room)) h = inl h
came-cause rose D (Err (refusal.migration_running name)) h = inl h
came-cause rose D (Err (refusal.still_stored version key)) h = inl h
came-cause rose D (Err refusal.converter) h = inr (inr (h.0, refl))
came-cause rose D (Err refusal.no_memory) h = inr (inl refl)

pub same-settled : {B : Type 0} (s : Server) (rose : Type 0) (v : View B) (q : Request) (k : KeyView) (c : Change) (storage : ℕ) (a : Answer)
    → GoesOver s.meaning q k (items v.seen) c storage → c.release ≡ false → c.equal ≡ true → c.at ≡ storage
    → Came rose (λ b i. ShowsObject s.meaning s.boot code_ok c.v (object_of c.hub) c.over c.born b) a None → Settled s rose v v (RepliesToReplace s q k) a
same-settled {B = B} s rose v q k c storage a goes stays equal at came =
    by (came-cause rose (λ b i. ShowsObject s.meaning s.boot code_ok c.v (object_of c.hub) c.over c.born b) a came)
  where
    by : ShowsObject s.meaning s.boot code_ok c.v (object_of c.hub) c.over c.born a ⊎ ((a ≡ Err refusal.no_memory) ⊎ (rose × (a ≡ Err refusal.converter))) → Settled s rose v v (RepliesToReplace s q k) a
    by (inr cause) = inl (inr (record { rested = inl refl; cause = cause }))
    by (inl shows) =
        let log : List Item = items v.seen in
        let e = goes.stands.object in
        let by_version = subst (λ (x : ℕ). ShowsObject s.meaning s.boot code_ok x (object_of c.hub) c.over c.born a) goes.made.version shows in
        let by_number = subst (λ (x : ℕ). ShowsObject s.meaning s.boot code_ok q.version (object_of c.hub) x c.born a) (sym goes.stands.number) by_version in
        let by_birth = subst (λ (x : ℕ). ShowsObject s.meaning s.boot code_ok q.version (object_of c.hub) e.number x a) (sym goes.stands.born) by_number in
        inr (
          refl,
          same-reply s.meaning s.limits s.boot (revision log + 1) (state s.meaning log) q k c.over goes.made.new c.weight (object_of c.hub) goes.old c.equal e a
              goes.made.admits goes.made.admitted goes.made.update goes.made.equals goes.made.allowed (goes.made.ends ∙ stays)
              (subst (λ (x : ℕ). served (state s.meaning log).flags x ≡ true) goes.made.version goes.stands.may) goes.stands.there goes.stands.number goes.stands.takes
              (alike c.equal e.at (state s.meaning log).flags.storage equal (goes.stands.at ∙ at ∙ sym goes.stands.stored)) by_birth,
        )

-- ---- a release

pub release-results : {B : Type 0} (s : Server) (rose : Type 0) (v z : View B) (q : Request) (k : KeyView) (c : Change) (storage : ℕ) (name : List ℕ) (e : WriteEnd) (a : Answer)
    → GoesOver s.meaning q k (items v.seen) c storage → c.release ≡ true → Commits s v z (releases s c.v k c.over) e → name ≡ k.name
    → Wrote s.meaning s.boot code_ok c.v name (object_of c.hub) e a → Results s rose v z (RepliesToReplace s q k) a
release-results {B = B} s rose v z q k c storage name e a goes ends commits named tells =
    let log : List Item = items commits.log in
    let h : ObjectView = object_of c.hub in
    let D : ℕ → Decision WriteEnd = λ x. release_commit (revision log + 1) (state s.meaning log) x k c.over in
    let one : D c.v ≡ D q.version = ap D goes.made.version in
    let is : e ≡ (D q.version).answer = commits.ends ∙ ap (λ (d : Decision WriteEnd). d.answer) one in
    let wrote = subst (λ (x : WriteEnd). Wrote s.meaning s.boot code_ok q.version k.name h x a) is
    (subst (λ (x : ℕ). Wrote s.meaning s.boot code_ok x k.name h e a) goes.made.version
    (subst (λ (n : List ℕ). Wrote s.meaning s.boot code_ok c.v n h e a) named tells)) in
    inl (record {
      log = commits.log;
      item = (D c.v).item;
      writes = commits.writes;
      answers = subst (λ (i : Option Item). RepliesToReplace s q k log a i) (sym (ap (λ (d : Decision WriteEnd). d.item) one))
          (release-reply s.meaning s.limits s.boot (revision log + 1) (state s.meaning log) q k c.over goes.made.new c.weight h goes.old c.equal a
          goes.made.admits goes.made.admitted goes.made.update goes.made.equals goes.made.allowed (goes.made.ends ∙ ends)
          (λ f there is_over.
          subst (λ (g : Stored). Takes s.meaning g.h goes.old)
          (later-one s.meaning v.seen commits.log k c.over goes.stands.object f commits.writes.turned.0 goes.stands.there goes.stands.number there is_over) goes.stands.takes)
          wrote);
    })

-- ---- the number of the creation that is told

-- what is entered over an object was created with it
abbrev BornWith : ℕ → Decision WriteEnd → Type 0
BornWith born d = (rv b : ℕ) → d.answer ≡ done rv b → b ≡ born

room-born : (n born : ℕ) (i : Item) (r : Option Room) → BornWith born (with_room n born i r)
room-born n born i None rv b is = cc
room-born n born i (Some r) rv b is = cc

if-born : (born : ℕ) (b : Bool) (now : ℕ) (d : Decision WriteEnd) → BornWith born d → BornWith born (if b then d else says (storage_moved now))
if-born born true now d h rv b is = h rv b is
if-born born false now d h rv b is = cc

at-born : (over : ℕ) (o : Option Stored) (next : Stored → Decision WriteEnd) (rv b : ℕ) → ((e : Stored) → BornWith e.born (next e)) → (at_number over o next).answer ≡ done rv b
    → (e : Stored) × (o ≡ Some e) × (b ≡ e.born)
at-born over None next rv b each is = cc
at-born over (Some e) next rv b each is = by (nat_eq e.number over) is
  where
    by : (x : Bool) → (if x then next e else says (newer e.number)).answer ≡ done rv b → (f : Stored) × (Some e ≡ Some f) × (b ≡ f.born)
    by true is = (e, refl, each e rv b is)
    by false is = cc

served-born : (x : Bool) (d : Decision WriteEnd) (rv b : ℕ) → (if not x then says unserved else d).answer ≡ done rv b → d.answer ≡ done rv b
served-born true d rv b is = is
served-born false d rv b is = cc

born-few : (m : Meaning) (log : List Item) (k : KeyView) (b : ℕ) → revision log ≤ 2 ^ 61 → (e : Stored) × (find k (state m log).objects ≡ Some e) × (b ≡ e.born) → b < 2 ^ 62
born-few m log k b few found =
    let within = born-within m log k found.0 found.1 in
    let is = found.2 in
    omega (arith, within, is, few)

pub over-born : {B : Type 0} (s : Server) (v z : View B) (at over : ℕ) (p : Prepared) (h : ObjectView) (rv b : ℕ) → Commits s v z (replaces s at over p h) (done rv b) → b < 2 ^ 62
over-born s v z at over p h rv b c =
    let log : List Item = items c.log in
    let st : State = state s.meaning log in
    let i : Item = entry (Replace p.key over h p.weight) in
    let next : Stored → Decision WriteEnd = λ e. if_storage st p.at (with_room (revision log + 1) e.born i (lacking_chunks s.limits st.objects e.weight p.weight)) in
    born-few s.meaning log p.key b c.writes.few
    (at-born over (find p.key st.objects) next rv b
    (λ e. if-born e.born (nat_eq p.at st.flags.storage) st.flags.storage (with_room (revision log + 1) e.born i (lacking_chunks s.limits st.objects e.weight p.weight))
    (room-born (revision log + 1) e.born i (lacking_chunks s.limits st.objects e.weight p.weight)))
    (served-born (served st.flags at) (at_number over (find p.key st.objects) next) rv b (sym c.ends)))

pub release-born : {B : Type 0} (s : Server) (v z : View B) (at over : ℕ) (k : KeyView) (rv b : ℕ) → Commits s v z (releases s at k over) (done rv b) → b < 2 ^ 62
release-born s v z at over k rv b c =
    let log : List Item = items c.log in
    let st : State = state s.meaning log in
    let next : Stored → Decision WriteEnd = λ e. enters (done (revision log + 1) e.born) (entry (Release k over)) in
    born-few s.meaning log k b c.writes.few
    (at-born over (find k st.objects) next rv b (λ e x y is. cc)
    (served-born (served st.flags at) (at_number over (find k st.objects) next) rv b (sym c.ends)))
