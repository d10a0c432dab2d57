-- From a look at a key and an admitted value to what a replace enters or answers.
use Rattle.std.proofs.Common.{◌≡◌, ◌⊎◌, ℕ, ◌≤◌, ◌<◌, ◌+◌, ◌^◌, Bool, true, false, List, Option, None, Some, Err, inl, inr, ap, sym, subst, refl, ◌∙◌, eq-eqb}
use Rattle.std.specs.Prelude.{◌≢◌, ◌+ℤ◌, ℤ, pos, nat_eq, option_map, FitsSigned, IfSome, MatchBool, IsTrue}
use Rattle.std.specs.Int.{w64}
use Rattle.kube_meta.specs.Key.{KeyView}
use Rattle.kube_meta.specs.View.{ObjectView, object_of}
use Rattle.api_calls.specs.Calls.{Server}
use Rattle.api_calls.specs.Cause.{cause_of, why_of}
use Rattle.api_calls.specs.laws.ObjectLaws.{each-find}
use Rattle.api_calls.specs.Ends.{says, forbidden, gone, newer, Decision, WriteEnd}
use Rattle.api_calls.specs.Item.{Item}
use Rattle.api_calls.specs.LegalLists.{IsCounted}
use Rattle.api_calls.specs.Legal.{key_of, legal}
use Rattle.api_calls.specs.Meaning.{Meaning, Request, Weighs, bad_request, invalid, stamped}
use Rattle.api_calls.specs.Objects.{Stored, find}
use Rattle.api_calls.specs.Refusal.{RefusalView}
use Rattle.api_calls.specs.Refusal as refusal
use Rattle.api_calls.specs.Replies.{Answer, IsRefusedRequest, Wrote, WeighsIt, code_ok, finalizer_added}
use Rattle.api_calls.specs.State.{revision, served, state}
use Rattle.api_calls.specs.Values.{IsUpdate, is_forbidden, updated_value}
use Rattle.api_calls.specs.Versions.{AdmitsWhole, AreStamps, IgnoresStamps, IsStored, Refused, Stand}
use Rattle.api_calls.specs.Writes.{ReplaceDecision, Replaces, Takes, replaced}
use Rattle.api_calls.specs.declared.flags.Flags.{Flags}
use Rattle.api_calls.specs.declared.versions.AdmitFault.{AdmitFault}
use Rattle.api_calls.specs.declared.versions.AdmitFault.TheVariants as admits
use Rattle.api_calls.specs.declared.versions.ConvFault.{ConvFault}
use Rattle.api_calls.specs.declared.versions.ConvFault.TheVariants as converts
use Rattle.api_calls.proofs.Generations.{counted-all}
use Rattle.api_core.specs.Keeps.{IsFound, KeepsObject}
use Rattle.api_core.specs.Prepared.{Sees, seen_item}
use Rattle.api_core.specs.declared.seen.Peeked.{Peeked}
use Rattle.api_core.specs.declared.seen.Seen.{Seen}
use Rattle.record_store.specs.View.{Item as RecordItem}
use Rattle.call_texts.specs.Told.{Came}
use Rattle.call_texts.specs.Faults.{admission, failed}
use Rattle.write_texts.specs.Replacing.{Changes, Forbids, GoesOver, IsFailed, Misses, RefusesReplace, RepliesToReplace, Updates}
use Rattle.write_texts.specs.declared.change.Change.{Change}
use Rattle.write_texts.specs.declared.update.Update.{Update}
use Rattle.write_texts.proofs.Replacing.{Accepts, Lacks, number, refused_with}
use Rattle.write_texts.proofs.Preparing.{failed-came}
use Rattle.call_texts.proofs.Showing.{kept, seen_born}

-- ---- what is known of a value that was stored

-- values of one stored text are one, where it is known what values mean
abbrev pub ReadsOne : Meaning → Type 0
ReadsOne m = (at : ℕ) (g h : ObjectView) (bytes : List ℕ) → IsTrue m.honest → IsStored m at g bytes → IsStored m at h bytes → g ≡ h

-- weights don't look at stamps
abbrev pub WeighsAny : Meaning → Type 0
WeighsAny m = (h : ObjectView) (w : ℕ) (created deleted : Option (List ℕ)) (generation : ℤ) → Weighs m h w → Weighs m (stamped h created deleted generation) w

-- the object that a look saw has the value that is read of it
pub takes-read : (m : Meaning) (seen : Seen) (e : Stored) (old : ObjectView) → ReadsOne m → KeepsObject m (seen_item seen) e → IsStored m seen.at old seen.bytes.bytes → Takes m e.h old
takes-read m seen e old reads keeps stored honest =
    reads seen.at old keeps.text.value seen.bytes.bytes honest stored (subst (λ (v : ℕ). IsStored m v keeps.text.value seen.bytes.bytes) (sym keeps.at) keeps.text.stored)
    ∙ keeps.text.same honest

-- it has a stored text
pub stored-read : (m : Meaning) (log : List Item) (k : KeyView) (p : Peeked) (seen : Seen) → Sees m log k p → p.found ≡ Some seen → (h : ObjectView) × IsStored m seen.at h seen.bytes.bytes
stored-read m log k p seen sees is =
    let found = kept m log k p seen sees is in
    let keeps = found.2 in
    (keeps.text.value, subst (λ (v : ℕ). IsStored m v keeps.text.value seen.bytes.bytes) (sym keeps.at) keeps.text.stored)

-- ---- an update is a whole value

generation-of : (b : Bool) (old new : ObjectView) (n : ℕ) → old.meta.generation ≡ pos n → (x : ℕ) × ((updated_value b old new).meta.generation ≡ pos x)
generation-of true old new n is = (n, is)
generation-of false old new n is = (n + 1, ap (λ (z : ℤ). z +ℤ pos 1) is)

pub update-whole : (m : Meaning) → Stand m → IgnoresStamps m → (old new h : ObjectView) (at : ℕ) (bytes : List ℕ) → IsStored m at old bytes → m.whole new → IsUpdate old new h → FitsSigned w64 h.meta.generation → m.whole h
update-whole m stand unstamped old new h at bytes stored whole update fits =
    let is = update.2 in
    let generation : ℤ = (updated_value update.0 old new).meta.generation in
    let before = (stand.whole old stored.whole).stamps in
    let stamps : AreStamps old.meta.created old.meta.deleted generation =
    record { created = before.created; deleted = before.deleted; generation = subst (FitsSigned w64) (ap (λ (o : ObjectView). o.meta.generation) is) fits } in
    subst m.whole (sym is) (unstamped.whole new old.meta.created old.meta.deleted generation stamps whole)

pub update-weighs : (m : Meaning) (old new h : ObjectView) (w : ℕ) → WeighsAny m → IsUpdate old new h → WeighsIt m new w → WeighsIt m h w
update-weighs m old new h w any update weighs honest =
    subst (λ (o : ObjectView). Weighs m o w) (sym update.2) (any new w old.meta.created old.meta.deleted (updated_value update.0 old new).meta.generation (weighs honest))

pub update-counts : (old new h : ObjectView) (n : ℕ) → IsUpdate old new h → old.meta.generation ≡ pos n → (x : ℕ) × (h.meta.generation ≡ pos x)
update-counts old new h n update is =
    let next = generation-of update.0 old new n is in (next.0, ap (λ (o : ObjectView). o.meta.generation) update.2 ∙ next.1)

pub update-key : (old new h : ObjectView) (k : KeyView) → IsUpdate old new h → new.meta.namespace ≡ k.ns → new.meta.name ≡ k.name → key_of h ≡ k
update-key old new h k update ns name =
    let same : key_of (updated_value update.0 old new) ≡ k = (λ i. record { ns = ns i; name = name i }) in ap key_of update.2 ∙ same

-- ---- a replace goes on

some_is : (a b : ℕ) → Some a ≡ Some b → a ≡ b
some_is a b h = cc

some_seen : (a b : Seen) → Some a ≡ Some b → a ≡ b
some_seen a b h = cc

pub goes : (s : Server) (log : List Item) (q : Request) (k : KeyView) (p : Peeked) (new : ObjectView) (expected : Option ℕ) (over w : ℕ) (c : Change)
    → Stand s.meaning → IgnoresStamps s.meaning → AdmitsWhole s.meaning → ReadsOne s.meaning → WeighsAny s.meaning
    → legal s.meaning s.limits log → revision log ≤ 2 ^ 61 → Sees s.meaning log k p → p.flags.storage < s.meaning.count → q.version < s.meaning.count → served p.flags q.version ≡ true
    → q.ns ≡ k.ns → q.name ≡ Some k.name → s.meaning.admits q new expected → expected ≡ Some over → WeighsIt s.meaning new w → 0 < w
    → Changes s.meaning q.version over w p.found new c → GoesOver s.meaning q k log c p.flags.storage
goes s log q k p new expected over w c stand unstamped admitted reads any l few sees storage known may ns name admits expects weighs some ch =
    let m = s.meaning in
    let h : ObjectView = object_of c.hub in
    let found = kept m log k p ch.seen sees ch.there in
    let e : Stored = found.0 in
    let keeps = found.2 in
    let is = admitted.admitted q new expected admits in
    let takes : Takes m e.h ch.old = takes-read m ch.seen e ch.old reads keeps ch.stored in
    record {
      old = ch.old;
      made = record {
        new = new;
        version = ch.version;
        known = subst (λ (v : ℕ). v < m.count) (sym ch.version) known;
        admits = subst (λ (o : Option ℕ). m.admits q new o) (expects ∙ ap Some (sym ch.numbered)) admits;
        admitted = subst (λ (x : ℕ). WeighsIt m new x) (sym ch.weight) weighs;
        weighs = subst (λ (x : ℕ). WeighsIt m h x) (sym ch.weight) (update-weighs m ch.old new h w any ch.update weighs);
        some = subst (λ (x : ℕ). 0 < x) (sym ch.weight) some;
        update = ch.update;
        equals = ch.equals;
        allowed = ch.allowed;
        ends = sym ch.ends;
        whole = update-whole m stand unstamped ch.old new h ch.seen.at ch.seen.bytes.bytes ch.stored is.whole ch.update ch.fits;
        key = update-key ch.old new h k ch.update (is.namespace ∙ ns) (subst (λ (o : Option (List ℕ)). IfSome o (λ n. new.meta.name ≡ n)) name is.name);
        counts = λ honest.
            let counted = each-find (λ x. IsCounted (revision log) x.h) k (state m log).objects e (counted-all m s.limits log honest l) found.1 in
            update-counts ch.old new h counted.number ch.update (ap (λ (o : ObjectView). o.meta.generation) (takes honest) ∙ counted.is);
        born = subst (λ (x : ℕ). x < 2 ^ 62) (sym ch.born) (seen_born m log k p ch.seen sees ch.there few);
      };
      stands = record {
        object = e;
        there = found.1;
        number = sym keeps.number ∙ ch.number ∙ sym ch.numbered;
        born = sym keeps.born ∙ sym ch.born;
        at = sym keeps.at ∙ sym ch.at;
        takes = takes;
        may = ap (λ f. served f c.v) (sym sees.flags) ∙ ap (served p.flags) ch.version ∙ may;
        stored = ap (λ (f : Flags). f.storage) (sym sees.flags);
        known = storage;
      };
    }

-- ---- a replace that changes nothing

-- a reply by what is decided at a served version
decided-reply : (s : Server) (q : Request) (k : KeyView) (log : List Item) (new : ObjectView) (over w : ℕ) (h : ObjectView) (d : Decision WriteEnd) (a : Answer)
    → served (state s.meaning log).flags q.version ≡ true → s.meaning.admits q new (Some over) → WeighsIt s.meaning new w
    → ReplaceDecision s.meaning s.limits (revision log + 1) (state s.meaning log) q.version k over new w h d
    → Wrote s.meaning s.boot code_ok q.version k.name h d.answer a → RepliesToReplace s q k log a d.item
decided-reply s q k log new over w h d a may admits weighs decision wrote =
    subst (λ (b : Bool). MatchBool b (Accepts s q k log a d.item) (Lacks a d.item)) (sym may)
    (inr (new, over, w, h, d, admits, weighs, decision, wrote, refl))

found-none : (m : Meaning) (x : Option RecordItem) (o : Option Stored) → IsFound m x o → x ≡ None → o ≡ None
found-none m None None found is = refl
found-none m None (Some e) found is = absurd found
found-none m (Some x) o found is = cc

differs : (x y : ℕ) → x ≢ y → nat_eq x y ≡ false
differs x y differ = by (nat_eq x y) refl
  where
    by : (b : Bool) → nat_eq x y ≡ b → nat_eq x y ≡ false
    by true is = absurd (differ (number x y is))
    by false is = is

failed-answer : (rose : Type 0) (e : RefusalView) → IsFailed rose e → (refused_with e ≡ refused_with refusal.no_memory) ⊎ (rose × (refused_with e ≡ refused_with refusal.converter))
failed-answer rose e (inl is) = inl (ap refused_with is)
failed-answer rose e (inr is) = inr (is.0, ap refused_with is.1)

module _ (s : Server) (rose : Type 0) (log : List Item) (q : Request) (k : KeyView) (p : Peeked) (new : ObjectView) (over w : ℕ) (reads : ReadsOne s.meaning)
    (sees : Sees s.meaning log k p) (may : served p.flags q.version ≡ true) (admits_it : s.meaning.admits q new (Some over)) (weighs : WeighsIt s.meaning new w) where
  is_served : served (state s.meaning log).flags q.version ≡ true
  is_served = ap (λ f. served f q.version) (sym sees.flags) ∙ may

  gone-came : p.found ≡ None → Came rose (RepliesToReplace s q k log) (Err (refusal.not_found k.name)) None
  gone-came is =
      let none : find k (state s.meaning log).objects ≡ None = found-none s.meaning (option_map seen_item p.found) (find k (state s.meaning log).objects) sees.found (ap (option_map seen_item) is) in
      let decision : ReplaceDecision s.meaning s.limits (revision log + 1) (state s.meaning log) q.version k over new w new (says gone) = rw is_served (rw none refl) in
      decided-reply s q k log new over w new (says gone) (Err (refusal.not_found k.name)) is_served admits_it weighs decision refl

  newer-came : (seen : Seen) → p.found ≡ Some seen → seen.rv ≢ over → Came rose (RepliesToReplace s q k log) (Err (refusal.conflict k.name seen.rv)) None
  newer-came seen is other =
      let found = kept s.meaning log k p seen sees is in
      let e : Stored = found.0 in
      let numbered : seen.rv ≡ e.number = found.2.number in
      let apart : nat_eq e.number over ≡ false = differs e.number over (λ same. other (numbered ∙ same)) in
      let decision : ReplaceDecision s.meaning s.limits (revision log + 1) (state s.meaning log) q.version k over new w new (says (newer e.number)) = rw is_served (rw found.1 (rw apart refl)) in
      decided-reply s q k log new over w new (says (newer e.number)) (Err (refusal.conflict k.name seen.rv)) is_served admits_it weighs decision
      (ap (λ (n : ℕ). the_conflict n) numbered)
    where
      the_conflict : ℕ → Answer
      the_conflict n = Err (refusal.conflict k.name n)

  forbidden-came : (e : RefusalView) → Forbids s.meaning k over p.found new e → Came rose (RepliesToReplace s q k log) (Err (finalizer_added s.meaning k.name)) None
  forbidden-came x f =
      let found = kept s.meaning log k p f.seen sees f.there in
      let e : Stored = found.0 in
      let h : ObjectView = object_of f.update.hub in
      let u = f.updates in
      let numbered : e.number ≡ over = sym found.2.number ∙ f.number in
      let takes : Takes s.meaning e.h u.old = takes-read s.meaning f.seen e u.old reads found.2 u.stored in
      let added : is_forbidden u.old h ≡ true = sym u.forbidden ∙ f.forbidden in
      let no : says forbidden ≡ replaced s.limits (revision log + 1) (state s.meaning log) k u.old h w f.update.equal e = rw added refl in
      let over_it : Replaces s.meaning s.limits (revision log + 1) (state s.meaning log) k new w e h (says forbidden) = (u.old, f.update.equal, takes, u.update, u.equals, no) in
      let decision : ReplaceDecision s.meaning s.limits (revision log + 1) (state s.meaning log) q.version k over new w h (says forbidden) =
      rw is_served (rw found.1 (rw (eq-eqb e.number over numbered) over_it)) in
      decided-reply s q k log new over w h (says forbidden) (Err (finalizer_added s.meaning k.name)) is_served admits_it weighs decision refl

  misses-came : (found : Option Seen) (e : RefusalView) → p.found ≡ found → Misses k over found e → Came rose (RepliesToReplace s q k log) (Err e) None
  misses-came None e is h = subst (λ (x : RefusalView). Came rose (RepliesToReplace s q k log) (Err x) None) (sym h) (gone-came is)
  misses-came (Some seen) e is h = subst (λ (x : RefusalView). Came rose (RepliesToReplace s q k log) (Err x) None) (sym h.1) (newer-came seen is h.0)

  pub refuses-came : (e : RefusalView) → RefusesReplace s.meaning rose k over p.found new e → Came rose (RepliesToReplace s q k log) (Err e) None
  refuses-came e (inl cause) = failed-came rose (RepliesToReplace s q k log) (Err e) (failed-answer rose e cause)
  refuses-came e (inr (inl misses)) = misses-came p.found e refl misses
  refuses-came e (inr (inr forbids)) = subst (λ (x : RefusalView). Came rose (RepliesToReplace s q k log) (Err x) None) (sym forbids.told) (forbidden-came e forbids)

-- where the version isn't served
pub unserved-came : (s : Server) (rose : Type 0) (q : Request) (k : KeyView) (log : List Item) → served (state s.meaning log).flags q.version ≡ false
    → Came rose (RepliesToReplace s q k log) (Err refusal.no_resource) None
unserved-came s rose q k log is =
    subst (λ (b : Bool). MatchBool b (Accepts s q k log (Err refusal.no_resource) None) (Lacks (Err refusal.no_resource) None)) (sym is) (refl, refl)

module _ (s : Server) (rose : Type 0) (q : Request) (k : KeyView) (log : List Item) (is_served : served (state s.meaning log).flags q.version ≡ true) where
  refused_by : (a : Answer) → IsRefusedRequest s.meaning q a None → RepliesToReplace s q k log a None
  refused_by a h = subst (λ (b : Bool). MatchBool b (Accepts s q k log a None) (Lacks a None)) (sym is_served) (inl h)

  admission_came : (fault : AdmitFault) → Refused (s.meaning.refuses q) rose fault → Came rose (RepliesToReplace s q k log) (Err (admission s.meaning fault)) None
  admission_came (admits.BadRequest why) r = refused_by (Err (admission s.meaning (admits.BadRequest why))) (bad_request (why_of why), r, refl, refl)
  admission_came (admits.Invalid name cause) r = refused_by (Err (admission s.meaning (admits.Invalid name cause))) (invalid name.bytes (cause_of cause), r, refl, refl)
  admission_came admits.Tool r = (r, refl)
  admission_came admits.NoMemory r = refl

  -- a request that isn't admitted
  pub not_admitted-came : (fault : AdmitFault) (e : RefusalView) → Refused (s.meaning.refuses q) rose fault → (e ≡ refusal.no_memory) ⊎ (e ≡ admission s.meaning fault)
      → Came rose (RepliesToReplace s q k log) (Err e) None
  not_admitted-came fault e r (inl is) = subst (λ (x : RefusalView). Came rose (RepliesToReplace s q k log) (Err x) None) (sym is) refl
  not_admitted-came fault e r (inr is) = subst (λ (x : RefusalView). Came rose (RepliesToReplace s q k log) (Err x) None) (sym is) (admission_came fault r)

-- ---- refusals as they are told

pub failed-fails : (rose : Type 0) (f : ConvFault) (e : RefusalView) → (f ≡ converts.Tool → rose) → e ≡ failed f → IsFailed rose e
failed-fails rose converts.Tool e tool is = inr (tool refl, is)
failed-fails rose converts.NoMemory e tool is = inl is

pub misses-refuses : (m : Meaning) (rose : Type 0) (k : KeyView) (over : ℕ) (found : Option Seen) (new : ObjectView) (e : RefusalView) → (e ≡ refusal.no_memory) ⊎ Misses k over found e
    → RefusesReplace m rose k over found new e
misses-refuses m rose k over found new e (inl is) = inl (inl is)
misses-refuses m rose k over found new e (inr misses) = inr (inl misses)

pub forbids-refuses : (m : Meaning) (rose : Type 0) (k : KeyView) (over : ℕ) (found : Option Seen) (seen : Seen) (new : ObjectView) (u : Update) (e : RefusalView)
    → found ≡ Some seen → seen.rv ≡ over → Updates m seen.at seen.bytes.bytes new u → u.forbidden ≡ true → (e ≡ refusal.no_memory) ⊎ (e ≡ finalizer_added m k.name)
    → RefusesReplace m rose k over found new e
forbids-refuses m rose k over found seen new u e there numbered updates adds (inl is) = inl (inl is)
forbids-refuses m rose k over found seen new u e there numbered updates adds (inr is) =
    inr (inr (record { seen = seen; there = there; number = numbered; update = u; updates = updates; forbidden = adds; told = is }))

pub refuses-rises : (m : Meaning) (rose later : Type 0) (k : KeyView) (over : ℕ) (found : Option Seen) (new : ObjectView) (e : RefusalView) → (later → rose)
    → RefusesReplace m later k over found new e → RefusesReplace m rose k over found new e
refuses-rises m rose later k over found new e rises (inl (inl is)) = inl (inl is)
refuses-rises m rose later k over found new e rises (inl (inr is)) = inl (inr (rises is.0, is.1))
refuses-rises m rose later k over found new e rises (inr other) = inr other

-- ---- what a look saw

pub stored-found : (m : Meaning) (log : List Item) (k : KeyView) (p : Peeked) → Sees m log k p → IfSome p.found (λ s. (h : ObjectView) × IsStored m s.at h s.bytes.bytes)
stored-found m log k p sees = by p.found refl
  where
    by : (o : Option Seen) → p.found ≡ o → IfSome o (λ s. (h : ObjectView) × IsStored m s.at h s.bytes.bytes)
    by None is = tt
    by (Some s) is = stored-read m log k p s sees is
