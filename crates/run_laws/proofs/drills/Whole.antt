-- The objects of a legal history are whole, where each mark has the one stamp.
use Rattle.std.proofs.Common.{◌≡◌, ◌∙◌, ◌≤◌, ℕ, ◌+◌, Bool, true, false, List, [], ◌∷◌, ◌++◌, Option, None, Some, inl, inr, ap, subst, sym, refl, arith}
use Rattle.std.specs.Prelude.{MatchBool, MatchOption, not, ◌&&◌, nat_lt, nat_eq, is_some, if◌then◌else◌, IsTrue}
use Rattle.std.proofs.lemmas.Bool.Decides.{nat_tests}
use Rattle.kube_meta.specs.Key.{KeyView}
use Rattle.kube_meta.specs.Plan.{Migration, named, running, may_claim, is_done}
use Rattle.kube_meta.specs.View.{ObjectView}
use Rattle.kube_meta.specs.declared.limits.Limits.{Limits}
use Rattle.kube_meta.specs.declared.limits.Room.{Room}
use Rattle.api_calls.specs.Ends.{WriteEnd, StartEnd, idle, claimed, finished, Decision, says, enters, grown}
use Rattle.api_calls.specs.laws.GrowthLaws.{state-more}
use Rattle.api_calls.specs.Item.{Create, Replace, Mark, Release, Touch, Delete, SetVersions, Trim, StartMigration, MarkSucceeded, Claim, RangeDone, GiveBack, Item, entry, note}
use Rattle.api_calls.specs.Legal.{Each, key_of, guard, legal_from, legal}
use Rattle.api_calls.specs.Meaning.{Meaning, Request}
use Rattle.api_calls.specs.Objects.{Stored, find, updated, moved, marked, marked_at, born_or, elsewhere}
use Rattle.api_calls.specs.Replies.{Answer, CreateReply, ReplaceReply, DeleteReply, SetReply, StartReply}
use Rattle.api_calls.specs.Room.{lacking, lacking_chunks, lacking_migrations}
use Rattle.api_calls.specs.Settings.{same_flags, set_decision, start_room, start_idle, start_decision}
use Rattle.api_calls.specs.Snap.{upto, snap}
use Rattle.api_calls.specs.State.{State, served, target_of, moved_storage, effect, number_after, next_number, entries, revision, opening, state_from, state}
use Rattle.api_calls.specs.Values.{has_finalizer, is_marked, is_forbidden, is_release, created_value}
use Rattle.api_calls.specs.Versions.{IsStamp, AreStamps}
use Rattle.api_calls.specs.Work.{Turn, Work, work_of, whole_turn, work_turn, idle_turn, claim_turn, work_decision}
use Rattle.api_calls.specs.Writes.{with_room, create_decision, replaced, ReplaceDecision, removed, DeleteDecision}
use Rattle.api_calls.specs.declared.flags.Flags.{Flags}
use Rattle.api_calls.proofs.Lists.{each-put, each-without, each-updated}
use Rattle.drill_requests.specs.Bodies.{stamp}
use Rattle.run_laws.proofs.drills.Lawful.{Lawful}

-- ---- items with the one stamp

abbrev pub IsStamped : Item → Type 0
IsStamped (entry (Mark k over s)) = s ≡ stamp
IsStamped (entry (Create k h w)) = Unit {0}
IsStamped (entry (Replace k over h w)) = Unit {0}
IsStamped (entry (Release k over)) = Unit {0}
IsStamped (entry (Touch k c)) = Unit {0}
IsStamped (entry (Delete k)) = Unit {0}
IsStamped (entry (SetVersions f)) = Unit {0}
IsStamped (entry (Trim keep)) = Unit {0}
IsStamped (entry (StartMigration name)) = Unit {0}
IsStamped (entry MarkSucceeded) = Unit {0}
IsStamped (note x) = Unit {0}

abbrev pub IsStampedOne : Option Item → Type 0
IsStampedOne None = Unit {0}
IsStampedOne (Some i) = IsStamped i

no_item : (i : Option Item) → i ≡ None → IsStampedOne i
no_item i is = subst (λ (x : Option Item). IsStampedOne x) (sym is) tt

-- a decision enters such an item
abbrev Stamps : {A : Type 0} → Decision A → Type 0
Stamps d = IsStampedOne d.item

entered : {A : Type 0} (d : Decision A) (i : Option Item) → i ≡ d.item → Stamps d → IsStampedOne i
entered d i is h = subst (λ (x : Option Item). IsStampedOne x) (sym is) h

either : {A : Type 0} (b : Bool) (c d : Decision A) → Stamps c → Stamps d → Stamps (if b then c else d)
either true c d p q = p
either false c d p q = q

room_stamps : (n born : ℕ) (i : Item) (r : Option Room) → IsStamped i → Stamps (with_room n born i r)
room_stamps n born i None h = h
room_stamps n born i (Some r) h = tt

create_stamps : (limits : Limits) (n : ℕ) (s : State) (v : ℕ) (k : KeyView) (h : ObjectView) (w : ℕ) → Stamps (create_decision limits n s v k h w)
create_stamps limits n s v k h w =
    either (not (served s.flags v)) _ _ tt
    (either (is_some (find k s.objects)) _ _ tt
    (either (nat_eq s.flags.storage s.flags.storage) _ _ (room_stamps n n (entry (Create k h w)) (lacking limits s.objects w) tt) tt))

replaced_stamps : (limits : Limits) (n : ℕ) (s : State) (k : KeyView) (old h : ObjectView) (w : ℕ) (equal : Bool) (e : Stored) → Stamps (replaced limits n s k old h w equal e)
replaced_stamps limits n s k old h w equal e =
    either {A = WriteEnd} (is_forbidden old h) _ _ tt
    (either {A = WriteEnd} (is_release old h) _ _ tt
    (either {A = WriteEnd} (equal && nat_eq e.at s.flags.storage) _ _ tt (room_stamps n e.born (entry (Replace k e.number h w)) (lacking_chunks limits s.objects e.weight w) tt)))

removed_stamps : (n : ℕ) (k : KeyView) (old : ObjectView) (e : Stored) → Stamps (removed n k old stamp e)
removed_stamps n k old e = either (not (has_finalizer old)) _ _ tt (either (is_marked old) _ _ tt refl)

-- ---- replies

decided_by : {A : Type 0} (d c : Decision A) → d ≡ c → Stamps c → Stamps d
decided_by d c is h = subst (λ (x : Decision _). Stamps x) (sym is) h

on_bool : {A B R : Type 0} (b : Bool) → MatchBool b A B → (A → R) → (B → R) → R
on_bool true p f g = f p
on_bool false p f g = g p

on_option : {A R : Type 0} {P : Stored → Type 0} (o : Option Stored) → MatchOption o A P → (A → R) → ((e : Stored) → P e → R) → R
on_option None p f g = f p
on_option (Some e) p f g = g e p

module _ (m : Meaning) where
  pub create_stamped : (limits : Limits) (boot n : ℕ) (s : State) (r : Request) (at : List ℕ) (a : Answer) (i : Option Item) → CreateReply m limits boot n s r at a i → IsStampedOne i
  create_stamped limits boot n s r at a i p =
      on_bool (served s.flags r.version) p
      (λ x. elim x [
        | inl f ↦ no_item i f.3
        | inr h ↦
            let h_new = created_value at h.0 in
            entered (create_decision limits n s r.version (key_of h_new) h_new h.2) i h.5.1 (create_stamps limits n s r.version (key_of h_new) h_new h.2)
      ])
      (λ x. no_item i x.1)

  replacement_stamps : (limits : Limits) (n : ℕ) (s : State) (v : ℕ) (k : KeyView) (over : ℕ) (new : ObjectView) (w : ℕ) (h : ObjectView) (d : Decision WriteEnd)
      → ReplaceDecision m limits n s v k over new w h d → Stamps d
  replacement_stamps limits n s v k over new w h d p =
      on_bool (served s.flags v) p
      (λ x. on_option (find k s.objects) x (λ x. decided_by d _ x tt)
      (λ e x. on_bool (nat_eq e.number over) x (λ x. decided_by d _ x.5 (replaced_stamps limits n s k x.0 h w x.1 e)) (λ x. decided_by d _ x tt)))
      (λ x. decided_by d _ x tt)

  pub replace_stamped : (limits : Limits) (boot n : ℕ) (s : State) (r : Request) (k : KeyView) (a : Answer) (i : Option Item) → ReplaceReply m limits boot n s r k a i → IsStampedOne i
  replace_stamped limits boot n s r k a i p =
      on_bool (served s.flags r.version) p
      (λ x. elim x [
        | inl f ↦ no_item i f.3
        | inr h ↦ entered h.4 i h.9 (replacement_stamps limits n s r.version k h.1 h.0 h.2 h.3 h.4 h.7)
      ])
      (λ x. no_item i x.1)

  removal_stamps : (n : ℕ) (s : State) (v : ℕ) (k : KeyView) (old : ObjectView) (d : Decision WriteEnd) → DeleteDecision m n s v k stamp old d → Stamps d
  removal_stamps n s v k old d p =
      on_bool (served s.flags v) p
      (λ x. on_option (find k s.objects) x (λ x. decided_by d _ x tt) (λ e x. decided_by d _ x.1 (removed_stamps n k old e)))
      (λ x. decided_by d _ x tt)

  pub delete_stamped : (boot n : ℕ) (s : State) (v : ℕ) (k : KeyView) (body : List ℕ) (a : Answer) (i : Option Item) → DeleteReply m boot n s v body k stamp a i → IsStampedOne i
  delete_stamped boot n s v k body a i p =
      on_bool (served s.flags v) p
      (λ x. elim x [
        | inl x ↦ entered x.1.1 i x.1.4 (removal_stamps n s v k x.1.0 x.1.1 x.1.2)
        | inr x ↦ no_item i x.2
      ])
      (λ x. no_item i x.1)

  pub set_stamped : (s : State) (body : List ℕ) (a : Answer) (i : Option Item) → SetReply m s body a i → IsStampedOne i
  set_stamped s body a i (inl f) = no_item i f.3
  set_stamped s body a i (inr h) = entered (set_decision s h.0) i h.3 (either (same_flags h.0 s.flags) _ _ tt tt)

  pub start_stamped : (limits : Limits) (s : State) (body : List ℕ) (a : Answer) (i : Option Item) → StartReply m limits s body a i → IsStampedOne i
  start_stamped limits s body a i (inl f) = no_item i f.3
  start_stamped limits s body a i (inr h) =
      entered (start_decision limits s h.0) i h.3 (either {A = StartEnd} (is_some (named h.0 s.migrations)) _ _ tt (resting (running s.migrations)))
    where
      room : (r : Option Room) → Stamps (start_room s h.0 r)
      room None = tt
      room (Some r) = tt

      resting : (o : Option Migration) → Stamps (start_idle limits s h.0 o)
      resting None = room (lacking_migrations limits s.migrations)
      resting (Some q) = tt

-- ---- turns

pub turn_stamped : (n : ℕ) (s : State) (c : Option ℕ) → IsStampedOne (work_decision n s c).decision.item
turn_stamped n s c = by (work_of c s)
  where
    done : (b d : Bool) → IsStampedOne (let t : Turn = (if b then record { decision = enters claimed (note (Claim (s.plan.last + 1))); claim = Some (s.plan.last + 1) }
        else if d then record { decision = enters (finished n) (entry MarkSucceeded); claim = None } else record { decision = says idle; claim = None }) in t.decision.item)
    done true d = tt
    done false true = tt
    done false false = tt

    resting : (o : Option Migration) → IsStampedOne (idle_turn n s o).decision.item
    resting None = tt
    resting (Some q) = done (may_claim s.plan) (is_done s.plan)

    works : (w : Work) (o : Option Stored) → IsStampedOne (work_turn n w o).decision.item
    works w None = tt
    works w (Some e) = tt

    by : (o : Option Work) → IsStampedOne (whole_turn n s o).decision.item
    by None = resting (running s.migrations)
    by (Some w) = works w (elsewhere w.span w.target s.objects)

-- ---- histories

legal_from-last : (m : Meaning) (limits : Limits) (n : ℕ) (s : State) (log : List Item) (i : Item) → legal_from m limits n s (log ++ i ∷ []) → guard m limits (state_from n s log) i
legal_from-last m limits n s [] i l = l.0
legal_from-last m limits n s (j ∷ log) i l = legal_from-last m limits (number_after n j) (effect n j s) log i l.1

upto-all : (n r : ℕ) (log : List Item) → n + entries log ≤ r + 1 → upto n r log ≡ log
upto-all n r [] few = refl
upto-all n r (note x ∷ log) few = ap (λ (is : List Item). note x ∷ is) (upto-all n r log few)
upto-all n r (entry e ∷ log) few = by (nat_lt r n) refl (upto-all (n + 1) r log (omega (arith, few)))
  where
    by : (b : Bool) → nat_lt r n ≡ b → upto (n + 1) r log ≡ log → (if b then [] else entry e ∷ upto (n + 1) r log) ≡ entry e ∷ log
    by true is more = absurd (let small : r + 1 ≤ n = grind (arith, nat_tests) in omega (arith, few, small))
    by false is more = ap (λ (is : List Item). entry e ∷ is) more

module _ (m : Meaning) (laws : Lawful m) (stamps : IsStamp stamp) where
  -- the objects of the history are whole
  abbrev pub AreWhole : List Item → Type 0
  AreWhole log = Each (λ e. m.whole e.h) (state m log).objects

  marked_whole : (h : ObjectView) → m.whole h → m.whole (marked stamp h)
  marked_whole h whole =
      let kept = (laws.stands.whole h whole).stamps in
      laws.unstamped.whole h h.meta.created (Some stamp) h.meta.generation (record { created = kept.created; deleted = stamps; generation = kept.generation }) whole

  whole-step : (limits : Limits) (n : ℕ) (i : Item) (s : State) → guard m limits s i → IsStamped i → Each (λ e. m.whole e.h) s.objects → Each (λ e. m.whole e.h) (effect n i s).objects
  whole-step limits n (entry (Create k h w)) s g is all =
      each-put (λ e. m.whole e.h) (record { key = k; h = h; number = n; at = s.flags.storage; born = n; weight = w }) s.objects (g.value laws.honest).whole all
  whole-step limits n (entry (Replace k over h w)) s g is all =
      each-put (λ e. m.whole e.h) (record { key = k; h = h; number = n; at = s.flags.storage; born = born_or (find k s.objects) n; weight = w }) s.objects (g.value laws.honest).whole all
  whole-step limits n (entry (Mark k over x)) s g is all =
      each-updated (λ e. m.whole e.h) (marked_at n s.flags.storage x) k s.objects (λ e whole. subst (λ (y : List ℕ). m.whole (marked y e.h)) (sym is) (marked_whole e.h whole)) all
  whole-step limits n (entry (Release k over)) s g is all = each-without (λ e. m.whole e.h) k s.objects all
  whole-step limits n (entry (Touch k c)) s g is all = each-updated (λ e. m.whole e.h) (moved n (target_of s)) k s.objects (λ e p. p) all
  whole-step limits n (entry (Delete k)) s g is all = each-without (λ e. m.whole e.h) k s.objects all
  whole-step limits n (entry (SetVersions f)) s g is all = by (nat_eq f.storage s.flags.storage)
    where
      by : (b : Bool) → Each (λ e. m.whole e.h) (if b then record s { flags = f } else moved_storage f s).objects
      by true = all
      by false = all
  whole-step limits n (entry (Trim keep)) s g is all = all
  whole-step limits n (entry (StartMigration name)) s g is all = all
  whole-step limits n (entry MarkSucceeded) s g is all = all
  whole-step limits n (note (Claim c)) s g is all = all
  whole-step limits n (note (RangeDone c)) s g is all = all
  whole-step limits n (note (GiveBack c)) s g is all = all

  -- a whole history goes on by an item
  pub whole-grown : (limits : Limits) (log : List Item) (i : Option Item) → legal m limits (grown log i) → IsStampedOne i → AreWhole log → AreWhole (grown log i)
  whole-grown limits log None l is all = all
  whole-grown limits log (Some i) l is all =
      subst (λ (s : State). Each (λ e. m.whole e.h) s.objects) (sym (state-more m log i))
      (whole-step limits (next_number log) i (state m log) (legal_from-last m limits 2 (opening m) log i l) is all)

  -- the objects at its last number are those that stand
  pub whole-snap : (log : List Item) → AreWhole log → Each (λ e. m.whole e.h) (snap m log (revision log))
  whole-snap log all = subst (λ (is : List Item). Each (λ e. m.whole e.h) (state m is).objects) (sym (upto-all 2 (revision log) log (omega arith))) all
