-- From a look at an object to what is ready of its delete.
use Rattle.std.proofs.Common.{◌≡◌, ◌∙◌, ◌+◌, ◌≤◌, ◌<◌, ◌^◌, ℕ, Bool, true, false, pos, List, [], ◌∷◌, Option, None, Some, Ok, Err, length, inl, inr, ap, ap₂, sym, subst, refl, arith}
use Rattle.std.specs.Prelude.{◌≢◌, ◌⊎◌, IfOk, IsTrue, MatchBool, MatchOption, Result, not, is_some, nat_eq, option_map, if◌then◌else◌}
use Rattle.std.proofs.lemmas.Bool.Decides.{nat_tests}
use Rattle.kj_value.specs.Text.{text_of}
use Rattle.kube_meta.specs.Key.{KeyView}
use Rattle.kube_meta.specs.View.{ObjectView, object_of}
use Rattle.kube_meta.specs.declared.object.Object.{Object}
use Rattle.kube_meta.specs.declared.limits.Limits.{Limits}
use Rattle.api_calls.specs.Bodies.{IsServedDelete}
use Rattle.api_calls.specs.Calls.{IsKept}
use Rattle.api_calls.specs.Cause.{bad_options}
use Rattle.api_calls.specs.Documents.{deleted_status}
use Rattle.api_calls.specs.laws.ObjectLaws.{each-find}
use Rattle.api_calls.specs.Ends.{Decision, WriteEnd, done, kept, gone, unserved, says, enters}
use Rattle.api_calls.specs.Item.{Item, entry, Delete, Mark}
use Rattle.api_calls.specs.Legal.{HasFinalizer, key_of, legal}
use Rattle.api_calls.specs.LegalLists.{IsCounted}
use Rattle.api_calls.specs.Meaning.{Meaning, Weighs}
use Rattle.api_calls.specs.Objects.{Stored, find, marked}
use Rattle.api_calls.specs.Refusal as refusal
use Rattle.api_calls.specs.Refusal.{RefusalView}
use Rattle.api_calls.specs.Replies.{Answer, DeleteReply, Deletes, IsShown, code_ok, kept_value}
use Rattle.api_calls.specs.Replies as reply
use Rattle.api_calls.specs.Reply.{ReplyView, reply_of}
use Rattle.api_calls.specs.State.{revision, served, state}
use Rattle.api_calls.specs.Uid.{uid}
use Rattle.api_calls.specs.Values.{has_finalizer, is_marked}
use Rattle.api_calls.specs.Versions.{AreFlags, IgnoresStamps, IsStored}
use Rattle.api_calls.specs.Writes.{DeleteDecision, Takes, removed}
use Rattle.api_calls.specs.declared.versions.ConvFault.{ConvFault}
use Rattle.api_calls.specs.declared.versions.ConvFault.TheVariants as converts
use Rattle.api_calls.proofs.Generations.{counted-all}
use Rattle.api_core.specs.Keeps.{IsFound, KeepsObject}
use Rattle.api_core.specs.laws.KeptLaws.{found-keyed}
use Rattle.api_core.specs.Prepared.{PreparesValue, Sees, seen_item}
use Rattle.api_core.specs.declared.seen.Peeked.{Peeked}
use Rattle.api_core.specs.declared.seen.Prepared.{Prepared}
use Rattle.api_core.specs.declared.seen.Seen.{Seen}
use Rattle.call_texts.specs.Told.{Came}
use Rattle.call_texts.specs.Faults.{failed}
use Rattle.write_texts.specs.Leavings.{Deleted, IsLeaving, IsSaid, LeavesSeen, MarksSeen}
use Rattle.write_texts.specs.inner.Marking.{HoldsAs}
use Rattle.write_texts.specs.Readying.{IsReady}
use Rattle.write_texts.specs.Sealed.{Seals}
use Rattle.write_texts.specs.declared.delete.Leaving.{Leaving}
use Rattle.write_texts.specs.declared.delete.Leaving.TheVariants as leaving
use Rattle.call_texts.specs.declared.refused.Refused.{Refused}
use Rattle.write_texts.specs.declared.seal.Sealed.{Sealed}
use Rattle.call_texts.proofs.Showing.{kept as seen_kept, seen_born, shown_other}

-- ---- answers that come for another cause, or by another relation

pub came-by : (later rose : Type 0) (D E : Answer → Option Item → Type 0) (a : Answer) (i : Option Item) → (later → rose) → ((b : Answer) (j : Option Item) → D b j → E b j)
    → Came later D a i → Came rose E a i
came-by later rose D E (Ok r) i up f h = f (Ok r) i h
came-by later rose D E (Err (refusal.not_found name)) i up f h = f (Err (refusal.not_found name)) i h
came-by later rose D E (Err refusal.no_resource) i up f h = f (Err refusal.no_resource) i h
came-by later rose D E (Err (refusal.already_exists name)) i up f h = f (Err (refusal.already_exists name)) i h
came-by later rose D E (Err (refusal.conflict name other)) i up f h = f (Err (refusal.conflict name other)) i h
came-by later rose D E (Err (refusal.invalid subject cause)) i up f h = f (Err (refusal.invalid subject cause)) i h
came-by later rose D E (Err (refusal.bad_request why)) i up f h = f (Err (refusal.bad_request why)) i h
came-by later rose D E (Err (refusal.expired floor)) i up f h = f (Err (refusal.expired floor)) i h
came-by later rose D E (Err (refusal.full room)) i up f h = f (Err (refusal.full room)) i h
came-by later rose D E (Err (refusal.migration_running name)) i up f h = f (Err (refusal.migration_running name)) i h
came-by later rose D E (Err (refusal.still_stored version key)) i up f h = f (Err (refusal.still_stored version key)) i h
came-by later rose D E (Err refusal.converter) i up f h = (up h.0, h.1)
came-by later rose D E (Err refusal.no_memory) i up f h = h

pub memory-came : (rose : Type 0) (D : Answer → Option Item → Type 0) (e : RefusalView) → e ≡ refusal.no_memory → Came rose D (Err e) None
memory-came rose D e is = subst (λ (x : RefusalView). Came rose D (Err x) None) (sym is) refl

pub fault-came : (rose : Type 0) (D : Answer → Option Item → Type 0) (f : ConvFault) (e : RefusalView) → (f ≡ converts.Tool → rose) → e ≡ failed f → Came rose D (Err e) None
fault-came rose D f e tool is = subst (λ (x : RefusalView). Came rose D (Err x) None) (sym is) (by f tool)
  where
    by : (f : ConvFault) → (f ≡ converts.Tool → rose) → Came rose D (Err (failed f)) None
    by converts.Tool tool = (tool refl, refl)
    by converts.NoMemory tool = refl

-- ---- what is seen

pub seen-said : (m : Meaning) (limits : Limits) (log : List Item) (k : KeyView) (p : Peeked) (seen : Seen) → IgnoresStamps m → legal m limits log
    → Sees m log k p → AreFlags m.count p.flags → p.found ≡ Some seen → IsSaid m k seen
seen-said m limits log k p seen ignores l sees flags is =
    let (e, there, keeps) = seen_kept m log k p seen sees is in
    let text = keeps.text in
    record {
      value = text.value;
      stored = subst (λ (v : ℕ). IsStored m v text.value seen.bytes.bytes) (sym keeps.at) text.stored;
      key = λ honest. ap key_of (text.same honest) ∙ (found-keyed m limits log k e honest ignores l there).0;
      weighs = λ honest.
          subst (λ (w : ℕ). Weighs m text.value w) (sym keeps.weight)
          (subst (λ (h : ObjectView). Weighs m h e.weight) (sym (text.same honest)) (found-keyed m limits log k e honest ignores l there).1);
      generation = λ honest.
          let counted = each-find (λ x. IsCounted (revision log) x.h) k (state m log).objects e (counted-all m limits log honest l) there in
          (counted.number, ap (λ (h : ObjectView). h.meta.generation) (text.same honest) ∙ counted.is);
    }

pub not-found : (m : Meaning) (log : List Item) (k : KeyView) (p : Peeked) → Sees m log k p → p.found ≡ None → find k (state m log).objects ≡ None
not-found m log k p sees is = by (find k (state m log).objects) (subst (λ (x : Option Seen). IsFound m (option_map seen_item x) (find k (state m log).objects)) is sees.found)
  where
    by : (o : Option Stored) → IsFound m None o → o ≡ None
    by None h = refl
    by (Some e) h = absurd h

-- what is ready to be marked
pub marks-ready : (m : Meaning) (v storage : ℕ) (k : KeyView) (stamp : List ℕ) (seen : Seen) (h old : ObjectView) (r : Result (Prepared × Sealed × Object) ConvFault) → (IsTrue m.honest → old ≡ h)
    → IfOk r (λ x. IsReady m v storage (marked stamp old) k seen.weight x.0 x.1) → IfOk r (λ x. object_of x.2 ≡ marked stamp old)
    → IfOk r (λ x. MarksSeen m v k stamp seen h x.0 x.1 (object_of x.2))
marks-ready m v storage k stamp seen h old (Err e) same ready is = tt
marks-ready m v storage k stamp seen h old (Ok x) same ready is = record {
  sized = ready.sized;
  key = ready.key;
  weight = ready.weight;
  prepares = subst (λ (o : ObjectView). PreparesValue m x.0 o) (sym is) ready.prepares;
  seals = subst (λ (o : ObjectView). Seals m v o x.1) (sym is) ready.seals;
  is = λ honest. is ∙ ap (λ (o : ObjectView). marked stamp o) (same honest);
}

-- ---- finalizers and stamps

pub not-yes : (b : Bool) → not b ≡ true → b ≡ false
not-yes true is = cc
not-yes false is = refl

pub not-no : (b : Bool) → not b ≡ false → b ≡ true
not-no true is = refl
not-no false is = cc

zero-test : (n : ℕ) → nat_eq n 0 ≡ true → n ≡ 0
zero-test n h = grind (arith, nat_tests)

no-number : (n : ℕ) → not (nat_eq n 0) ≡ false → n ≡ 0
no-number n h = by (nat_eq n 0) refl h
  where
    by : (b : Bool) → nat_eq n 0 ≡ b → not b ≡ false → n ≡ 0
    by true is h = zero-test n is
    by false is h = cc

pub no-finalizers : (fs : List (List ℕ)) → not (nat_eq (length fs) 0) ≡ false → fs ≡ []
no-finalizers [] is = refl
no-finalizers (f ∷ fs) is = absurd (let none = no-number (length (f ∷ fs)) is in omega (arith, none))

some-finalizers : (fs : List (List ℕ)) → not (nat_eq (length fs) 0) ≡ true → fs ≢ []
some-finalizers fs held none =
    let never : false ≡ true = sym (ap (λ (gs : List (List ℕ)). not (nat_eq (length gs) 0)) none) ∙ held in cc

pub held-finalizer : (m : Meaning) (h : ObjectView) (b : Bool) → HoldsAs m h true b → IsTrue m.honest → HasFinalizer h
held-finalizer m h b holds honest = subst HasFinalizer (holds.takes honest) (some-finalizers holds.old.meta.finalizers holds.holds)

no-stamp : (o : Option (List ℕ)) → is_some o ≡ false → o ≡ None
no-stamp None is = refl
no-stamp (Some s) is = cc

-- ---- what is ready

-- any object: that of a key under which none is
nothing : ObjectView
nothing = record {
  api_version = [];
  kind = [];
  meta = record {
    name = [];
    namespace = [];
    labels = [];
    annotations = [];
    finalizers = [];
    owners = [];
    created = None;
    deleted = None;
    generation = pos 0;
    resource_version = None;
    uid = None;
  };
  body = [];
}

module _ (m : Meaning) (boot : ℕ) (log : List Item) (v : ℕ) (k : KeyView) (stamp : List ℕ) where
  -- how a delete is answered at a served version, and how one at another
  abbrev Accepts : List ℕ → Answer → Option Item → Type 0
  Accepts body a i =
      (IsServedDelete body × Deletes m boot (revision log + 1) (state m log) v k stamp a i)
      ⊎ ((IsServedDelete body → ⊥) × (a ≡ Err (refusal.bad_request bad_options)) × (i ≡ None))

  abbrev Lacks : Answer → Option Item → Type 0
  Lacks a i = (a ≡ Err refusal.no_resource) × (i ≡ None)

  pub accepted : served (state m log).flags v ≡ true → (body : List ℕ) (a : Answer) (i : Option Item) → Accepts body a i
      → DeleteReply m boot (revision log + 1) (state m log) v body k stamp a i
  accepted may body a i h = subst (λ (b : Bool). MatchBool b (Accepts body a i) (Lacks a i)) (sym may) h

  -- where the version isn't served
  pub lacking : served (state m log).flags v ≡ false → (body : List ℕ) → DeleteReply m boot (revision log + 1) (state m log) v body k stamp (Err refusal.no_resource) None
  lacking never body =
      subst (λ (b : Bool). MatchBool b (Accepts body (Err refusal.no_resource) None) (Lacks (Err refusal.no_resource) None)) (sym never) (refl, refl)

  -- where the body isn't served
  pub bad_body : served (state m log).flags v ≡ true → (body : List ℕ) → (IsServedDelete body → ⊥)
      → DeleteReply m boot (revision log + 1) (state m log) v body k stamp (Err (refusal.bad_request bad_options)) None
  bad_body may body never = accepted may body (Err (refusal.bad_request bad_options)) None (inr (never, refl, refl))

  abbrev Decides : ObjectView → Decision WriteEnd → Option Stored → Type 0
  Decides old d o = MatchOption o (d ≡ says gone) (λ e. Takes m e.h old × (d ≡ removed (revision log + 1) k old stamp e))

  decided : served (state m log).flags v ≡ true → (old : ObjectView) (d : Decision WriteEnd) (o : Option Stored) → find k (state m log).objects ≡ o → Decides old d o
      → DeleteDecision m (revision log + 1) (state m log) v k stamp old d
  decided may old d o there h =
      subst (λ (b : Bool). MatchBool b (Decides old d (find k (state m log).objects)) (d ≡ says unserved)) (sym may)
      (subst (λ (x : Option Stored). Decides old d x) (sym there) h)

  -- where no object has the key
  pub missing : served (state m log).flags v ≡ true → find k (state m log).objects ≡ None → Deleted m boot v k stamp log (Err (refusal.not_found k.name)) None
  missing may there = λ body serves.
      accepted may body (Err (refusal.not_found k.name)) None
      (inl (serves, (nothing, says gone, decided may nothing (says gone) None there refl, refl, refl)))

  -- an object that is being deleted, as it is
  ended : served (state m log).flags v ≡ true → (e : Stored) → find k (state m log).objects ≡ Some e → (old : ObjectView) → Takes m e.h old
      → has_finalizer old ≡ true → is_marked old ≡ true → (r : ReplyView) → r.code ≡ code_ok → IsShown m boot v old e.number e.born r.text
      → Deleted m boot v k stamp log (Ok r) None
  ended may e there old takes held marks r code shows = λ body serves.
      let n : ℕ = revision log + 1 in
      let d : Decision WriteEnd = removed n k old stamp e in
      let pick : Bool → Bool → Decision WriteEnd =
      λ a b. if not a then enters (done n e.born) (entry (Delete k)) else if b then says (kept e.number e.born) else enters (kept n e.born) (entry (Mark k e.number stamp)) in
      let is : d ≡ says (kept e.number e.born) = ap₂ pick held marks in
      let stays : old ≡ kept_value stamp old = sym (ap (λ (b : Bool). if b then old else marked stamp old) marks) in
      let shown : IsShown m boot v (kept_value stamp old) e.number e.born r.text =
      subst (λ (h : ObjectView). IsShown m boot v h e.number e.born r.text) stays shows in
      let wrote : reply.Deleted m boot v k (kept_value stamp old) d.answer (Ok r) =
      subst (λ (x : Decision WriteEnd). reply.Deleted m boot v k (kept_value stamp old) x.answer (Ok r)) (sym is) (code, shown) in
      accepted may body (Ok r) None
      (inl (serves, (old, d, decided may old d (Some e) there (takes, refl), wrote, sym (ap (λ (x : Decision WriteEnd). x.item) is))))

  -- by what was seen
  pub leaving-at : (rose : Type 0) (p : Peeked) (seen : Seen) (r : Result Leaving Refused) → Sees m log k p → p.found ≡ Some seen → served (state m log).flags v ≡ true
      → revision log ≤ 2 ^ 61 → ((h : ObjectView) → IsStored m seen.at h seen.bytes.bytes → LeavesSeen m boot rose v k stamp seen h r)
      → IsLeaving m boot rose log v k stamp r
  leaving-at rose p seen r sees is may few leaves =
      let (e, there, keeps) = seen_kept m log k p seen sees is in
      let text = keeps.text in
      by r e there keeps (seen_born m log k p seen sees is few) (leaves text.value (subst (λ (a : ℕ). IsStored m a text.value seen.bytes.bytes) (sym keeps.at) text.stored))
    where
      by : (r : Result Leaving Refused) (e : Stored) → find k (state m log).objects ≡ Some e → (keeps : KeepsObject m (seen_item seen) e) → seen.born < 2 ^ 62
          → LeavesSeen m boot rose v k stamp seen keeps.text.value r → IsLeaving m boot rose log v k stamp r
      by (Err x) e there keeps born h =
          came-by (rose × (IsTrue m.honest → HasFinalizer keeps.text.value)) (rose × IsKept m (state m log) k) (λ a i. ⊥) (Deleted m boot v k stamp log) (Err (refusal.refusal_of x.refusal)) None
          (λ c. (c.0, record { object = e; there = there; held = λ honest. subst HasFinalizer (keeps.text.same honest) (c.1 honest) }))
          (λ a i none. absurd none) h
      by (Ok (leaving.Told r)) e there keeps born h =
          let holds = h.0 in
          let by_value = shown_other m boot v keeps.text.value holds.old seen.rv seen.born (reply_of r).text (λ honest. sym (holds.takes honest)) h.2 in
          let by_number = subst (λ (n : ℕ). IsShown m boot v holds.old n seen.born (reply_of r).text) keeps.number by_value in
          ended may e there holds.old (λ honest. holds.takes honest ∙ keeps.text.same honest) holds.holds holds.ends (reply_of r) h.1
          (subst (λ (n : ℕ). IsShown m boot v holds.old e.number n (reply_of r).text) keeps.born by_number)
      by (Ok (leaving.Plain number text)) e there keeps born h =
          let holds = h.1 in
          record {
            old = holds.old;
            was = record {
              object = e;
              there = there;
              at_number = sym keeps.number ∙ sym h.2;
              known = λ honest. holds.takes honest ∙ keeps.text.same honest;
            };
            free = holds.holds;
            shows = h.3 ∙ ap (λ (n : ℕ). text_of (deleted_status m k.name (uid boot n))) keeps.born;
          }
      by (Ok (leaving.Mark number birth new sealed hub)) e there keeps born h =
          let holds = h.0 in
          let marks = h.3 in
          let takes : Takes m e.h holds.old = λ honest. holds.takes honest ∙ keeps.text.same honest in
          record {
            old = holds.old;
            was = record { object = e; there = there; at_number = sym keeps.number ∙ sym h.1; known = takes };
            held = holds.holds;
            unmarked = holds.ends;
            sized = marks.sized;
            prepares = marks.prepares;
            to_mark = record {
              was = record {
                object = e;
                there = there;
                at_number = sym keeps.number ∙ sym h.1;
                known = λ honest. (
                  subst HasFinalizer (takes honest) (some-finalizers holds.old.meta.finalizers holds.holds),
                  subst (λ (x : ObjectView). x.meta.deleted ≡ None) (takes honest) (no-stamp holds.old.meta.deleted holds.ends),
                  marks.is honest ∙ ap (λ (x : ObjectView). marked stamp x) (keeps.text.same honest),
                );
              };
              key = marks.key;
              weight = marks.weight ∙ keeps.weight;
            };
            seals = marks.seals;
            born = sym keeps.born ∙ sym h.2;
            early = (let is = h.2 in omega (arith, is, born));
          }
