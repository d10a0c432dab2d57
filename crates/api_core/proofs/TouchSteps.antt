-- A worker's turn with a prepared object, on a core that stands for a list, by how it ended.
use Rattle.std.specs.Prelude.{◌≡◌, ◌≢◌, ℕ, ◌+◌, Bool, true, false, not, ◌&&◌, List, Option, None, Some, map, option_map, nat_eq, if◌then◌else◌}
use Rattle.std.proofs.Common.{refl, ap, sym, ◌∙◌, subst, arith, eq-eqb}
use Rattle.std.proofs.lemmas.Bool.Decides.{nat_tests}
use Rattle.kube_meta.specs.Key.{KeyView}
use Rattle.kube_meta.specs.View.{ObjectView}
use Rattle.kube_meta.specs.Plan.{in_span, pass_key}
use Rattle.record_store.specs.ByKey.{find as find_record}
use Rattle.record_store.specs.View.{Item as RecordItem, StoreView, item_key}
use Rattle.record_store.specs.Moves.{new_item, with_new}
use Rattle.record_store.specs.Room.{touch_end, is_done}
use Rattle.record_store.specs.declared.answer.PutEnd.{PutEnd}
use Rattle.record_store.specs.declared.answer.PutEnd.TheVariants.{Done, Moved}
use Rattle.record_store.specs.declared.record.NewRecord.{NewRecord}
use Rattle.migrate_core.specs.declared.records.Row.{Row}
use Rattle.migrate_core.specs.View.{MigrationsView}
use Rattle.migrate_core.specs.Rows as rows
use Rattle.migrate_core.specs.Moves as moves
use Rattle.migrate_core.specs.laws.MoveLaws.{elsewhere-in_span}
use Rattle.api_calls.specs.Meaning.{Meaning}
use Rattle.api_calls.specs.Versions.{IsStored}
use Rattle.api_calls.specs.Item.{Item, entry, Touch}
use Rattle.api_calls.specs.Objects.{Stored, find, moved, elsewhere}
use Rattle.api_calls.specs.State.{State, target_of, next_number, revision, state}
use Rattle.api_calls.specs.Ends.{touched, missed}
use Rattle.api_calls.specs.Work.{Work, Turn, work_of, is_ready, touch_decision}
use Rattle.api_calls.specs.inner.WorkGuards.{touch-guard}
use Rattle.api_core.specs.declared.seen.Prepared.{Prepared}
use Rattle.api_core.specs.View.{CoreView}
use Rattle.api_core.specs.Keeps.{KeepsObject, IsFound}
use Rattle.api_core.specs.Stands.{Stands}
use Rattle.api_core.specs.Prepared.{PreparesValue, KnownAt, FitsAt, record_for}
use Rattle.api_core.specs.laws.PairLaws.{find-key, updated-put, pairs-find}
use Rattle.api_core.proofs.Growing.{Puts, written, written-stands}
use Rattle.api_core.specs.laws.WorkRows.{row_of, elsewhere-rows}
use Rattle.api_core.proofs.Touches.{touch-missed, touch-done, work_of-target}
use Rattle.api_core.specs.Steps.{item_row, migrations-stand, rows-stand, number-stand}
use Rattle.api_core.specs.Ready.{is_ready_item, IsFirst, IsNext}
use Rattle.api_core.specs.Turned.{WorkerTurned}

-- ---- what is known of a record that is ready

number : (m n : ℕ) → nat_eq m n ≡ true → m ≡ n
number m n h = grind (arith, nat_tests)

three : (a b c : Bool) → (a && not b && c) ≡ true → (a ≡ true) × (b ≡ false) × (c ≡ true)
three true true c h = cc
three true false c h = (refl, refl, h)
three false b c h = cc

pub record IsReady (rv at target : ℕ) (o : Option RecordItem) : Type 0 where
  pub item : RecordItem
  pub there : o ≡ Some item
  pub numbered : item.rv ≡ rv
  pub elsewhere : item.at ≢ target
  pub prepared : at ≡ target

pub ready-item : (rv at target : ℕ) (o : Option RecordItem) → is_ready_item rv at target o ≡ true → IsReady rv at target o
ready-item rv at target None h = cc
ready-item rv at target (Some x) h =
    let parts = three (nat_eq x.rv rv) (nat_eq x.at target) (nat_eq at target) h in
    record {
      item = x;
      there = refl;
      numbered = number x.rv rv parts.0;
      elsewhere = λ same. (let test = eq-eqb x.at target same in let other = parts.1 in cc);
      prepared = number at target parts.2;
    }

-- the work of a claim that has a target
has_target : (o : Option moves.Work) (target : ℕ) → Some target ≡ option_map (λ w. w.target) o → (w : moves.Work) × (o ≡ Some w) × (w.target ≡ target)
has_target None target h = cc
has_target (Some w) target h = (w, refl, (let e : w.target ≡ target = cc in e))

-- the store after a touch of a record that is ready
pub touched-store : (rv at target now : ℕ) (new : NewRecord) (s t : StoreView) (end : PutEnd) → is_ready_item rv at target (find_record item_key new.key s.items) ≡ true
    → end ≡ touch_end rv (find_record item_key new.key s.items) → t ≡ (if is_done end then with_new now new s else s) → t ≡ with_new now new s
touched-store rv at target now new s t end ready end_is t_is =
    let r = ready-item rv at target (find_record item_key new.key s.items) ready in
    let same : nat_eq r.item.rv rv ≡ true = eq-eqb r.item.rv rv r.numbered in
    let done : end ≡ Done = end_is ∙ ap (touch_end rv) r.there ∙ ap (λ (b : Bool). if b then Done else Moved r.item.rv) same in
    t_is ∙ ap (λ (e : PutEnd). if is_done e then with_new now new s else s) done

-- the key of a record that is ready is in the claim's range
pub ready-in_work : (o : Option moves.Work) (k : KeyView) (xs : List RecordItem) (rv at target : ℕ) → Some target ≡ option_map (λ w. w.target) o
    → is_ready_item rv at target (find_record item_key k xs) ≡ true → IsNext o k xs (find_record item_key k xs) → moves.IsInWork k o
ready-in_work None k xs rv at target has ready next = cc
ready-in_work (Some w) k xs rv at target has ready next =
    let r = ready-item rv at target (find_record item_key k xs) ready in
    let same : w.target ≡ target = cc in
    let first : IsFirst w k xs = subst (λ (p : Option RecordItem). IsNext (Some w) k xs p) r.there next (λ e. r.elsewhere (e ∙ same)) in
    ap (λ (l : KeyView). in_span w.span l) (sym first.under) ∙ elsewhere-in_span w.span w.target (map item_row xs) first.row first.first

module _ (m : Meaning) (c : CoreView) (log : List Item) (st : Stands m c log) where
  abbrev s : State
  s = state m log

  abbrev n : ℕ
  n = revision log + 1

  -- the work in the history's words
  pub record IsWorkOf (claim : Option ℕ) (t : ℕ) : Type 0 where
    pub work : Work
    pub held : work_of claim s ≡ Some work
    pub its : moves.work_of claim c.migrations ≡ Some work
    pub target : work.target ≡ t

  work_is : (claim : Option ℕ) (t : ℕ) → Some t ≡ option_map (λ w. w.target) (moves.work_of claim c.migrations) → IsWorkOf claim t
  work_is claim t has =
      by (work_of claim s) refl (ap (moves.work_of claim) (migrations-stand m c log st))
    where
      by : (o : Option Work) → work_of claim s ≡ o → moves.work_of claim c.migrations ≡ work_of claim s → IsWorkOf claim t
      by None held is =
          let no_ : Some t ≡ None = has ∙ ap (option_map (λ w. w.target)) (is ∙ held) in cc
      by (Some w) held is =
          let its : moves.work_of claim c.migrations ≡ Some w = is ∙ held in
          let same : Some t ≡ Some w.target = has ∙ ap (option_map (λ w. w.target)) its in
          record { work = w; held = held; its = its; target = (let e : w.target ≡ t = cc in e) }

  ready_told : (w : Work) (rv at : ℕ) (x : Option RecordItem) (e : Option Stored) → IsFound m x e → is_ready w rv at e ≡ is_ready_item rv at w.target x
  ready_told w rv at None None f = refl
  ready_told w rv at None (Some e) f = absurd f
  ready_told w rv at (Some x) None f = absurd f
  ready_told w rv at (Some x) (Some e) f =
      ap (λ (a : ℕ). nat_eq a rv && not (nat_eq e.at w.target) && nat_eq at w.target) (sym f.number)
      ∙ ap (λ (a : ℕ). nat_eq x.rv rv && not (nat_eq a w.target) && nat_eq at w.target) (sym f.at)

  ready_is : (w : Work) (t : ℕ) (k : KeyView) (rv at : ℕ) (b : Bool) → w.target ≡ t → is_ready_item rv at t (find_record item_key k c.store.items) ≡ b
      → is_ready w rv at (find k s.objects) ≡ b
  ready_is w t k rv at b same is =
      ready_told w rv at (find_record item_key k c.store.items) (find k s.objects) (pairs-find m k c.store.items s.objects st.present.records)
      ∙ ap (λ (v : ℕ). is_ready_item rv at v (find_record item_key k c.store.items)) same ∙ is

  pub touch-missed_end : (claim : Option ℕ) (t : ℕ) (k : KeyView) (rv at : ℕ) → Some t ≡ option_map (λ w. w.target) (moves.work_of claim c.migrations)
      → is_ready_item rv at t (find_record item_key k c.store.items) ≡ false → WorkerTurned (Stands m c) log (touch_decision n s claim k rv at) missed claim
  touch-missed_end claim t k rv at has ready =
      let w = work_is claim t has in
      subst (λ (u : Turn). WorkerTurned (Stands m c) log u missed claim) (sym (touch-missed n s claim k rv at w.work w.held (ready_is w.work t k rv at false w.target ready)))
      (record { ends = (refl, st); claim = refl })

  -- the first object of the claim's range that stands elsewhere has the key
  first_is : (w : Work) (k : KeyView) → IsFirst w k c.store.items → (e : Stored) × (elsewhere w.span w.target s.objects ≡ Some e) × (e.key ≡ k)
  first_is w k f =
      by (elsewhere w.span w.target s.objects) refl (sym (elsewhere-rows w.span w.target s.objects) ∙ ap (λ (rs : List Row). rows.elsewhere w.span w.target rs) (sym (rows-stand m c log st)) ∙ f.first)
    where
      by : (o : Option Stored) → elsewhere w.span w.target s.objects ≡ o → option_map row_of (elsewhere w.span w.target s.objects) ≡ Some f.row
          → (e : Stored) × (elsewhere w.span w.target s.objects ≡ Some e) × (e.key ≡ k)
      by None is row = let no_ : None ≡ Some f.row = ap (option_map row_of) (sym is) ∙ row in cc
      by (Some e) is row =
          let both : Some (row_of e) ≡ Some f.row = ap (option_map row_of) (sym is) ∙ row in
          let same : row_of e ≡ f.row = cc in
          (e, is, ap (λ (r : Row). r.key) same ∙ f.under)

  found : (k : KeyView) (x : RecordItem) (o : Option Stored) → IsFound m (Some x) o → find k s.objects ≡ o → (e : Stored) × (find k s.objects ≡ Some e) × KeepsObject m x e
  found k x None f is = absurd f
  found k x (Some e) f is = (e, is, f)

  pub touch-done_end : (claim : Option ℕ) (t : ℕ) (p : Prepared) (rv : ℕ) (h : ObjectView) (ms : MigrationsView)
      → Some t ≡ option_map (λ w. w.target) (moves.work_of claim c.migrations)
      → is_ready_item rv p.at t (find_record item_key p.key c.store.items) ≡ true
      → PreparesValue m p h → KnownAt m log p.key rv (λ e. h ≡ e.h)
      → FitsAt p.key rv p (find_record item_key p.key c.store.items)
      → IsNext (moves.work_of claim c.migrations) p.key c.store.items (find_record item_key p.key c.store.items)
      → ms ≡ moves.after_pass (moves.work_of claim c.migrations) p.key c.migrations
      → WorkerTurned (Stands m (written c (record_for p) ms)) log (touch_decision n s claim p.key rv p.at) (touched (c.revision + 1)) claim
  touch-done_end claim t p rv h ms has ready prepares known fits next ms_is =
      let w = work_is claim t has in
      let r = ready-item rv p.at t (find_record item_key p.key c.store.items) ready in
      let is_now = ready_is w.work t p.key rv p.at true w.target ready in
      let f = found p.key r.item (find p.key s.objects)
      (subst (λ (o : Option RecordItem). IsFound m o (find p.key s.objects)) r.there (pairs-find m p.key c.store.items s.objects st.present.records)) refl in
      let first : IsFirst w.work p.key c.store.items =
      subst (λ (o : Option Work). IsNext o p.key c.store.items (Some r.item)) w.its
      (subst (λ (o : Option RecordItem). IsNext (moves.work_of claim c.migrations) p.key c.store.items o) r.there next)
      (λ same. r.elsewhere (same ∙ w.target)) in
      let weight = (subst (λ (o : Option RecordItem). FitsAt p.key rv p o) r.there fits r.numbered).1 in
      let decided = touch-done n s claim p.key rv p.at w.work w.held is_now in
      let target : target_of s ≡ t = work_of-target claim s w.work w.held ∙ w.target in
      let plan_after : ms ≡ record c.migrations { plan = pass_key w.work.claim p.key c.migrations.plan } =
      ms_is ∙ ap (λ (o : Option Work). moves.after_pass o p.key c.migrations) w.its in
      let puts : Puts m c log (record_for p) ms (Touch p.key w.work.claim) = record {
        object = moved (next_number log) (target_of s) f.0;
        plan = pass_key w.work.claim p.key s.plan;
        may = touch-guard m c.limits n s claim p.key rv p.at (entry (Touch p.key w.work.claim))
            (λ v held is. firsts w.work p.key first v (both w.work v w.held held))
            (ap (λ (u : Turn). u.decision.item) decided);
        effect = ap (λ (es : List Stored). record s { objects = es; plan = pass_key w.work.claim p.key s.plan })
            (updated-put (moved (next_number log) (target_of s)) p.key s.objects f.0 (find-key p.key s.objects f.0 f.1) f.1);
        past = refl;
        keeps = subst (λ (o : Option RecordItem). KeepsObject m (new_item (c.revision + 1) (record_for p) o) (moved (next_number log) (target_of s) f.0)) (sym r.there) (record {
          key = sym (find-key p.key s.objects f.0 f.1);
          number = sym (number-stand m c log st);
          at = r.prepared ∙ sym target;
          born = f.2.born;
          weight = weight ∙ f.2.weight;
          text = record {
            value = prepares.text.value;
            stored = subst (λ (v : ℕ). IsStored m v prepares.text.value p.bytes.bytes) (r.prepared ∙ sym target) prepares.text.stored;
            same = λ honest. prepares.text.same honest ∙ known f.0 f.1 (sym f.2.number ∙ r.numbered) honest;
          };
        });
        migrations = ap (λ (v : MigrationsView). v.items) plan_after;
        limit = ap (λ (v : MigrationsView). v.limit) plan_after;
        plan_is = ap (λ (v : MigrationsView). v.plan) plan_after ∙ ap (pass_key w.work.claim p.key) st.present.plan;
      } in
      subst (λ (u : Turn). WorkerTurned (Stands m (written c (record_for p) ms)) log u (touched (c.revision + 1)) claim) (sym decided) (record {
        ends = (ap (λ (k : ℕ). touched (k + 1)) st.revision, written-stands m c log (record_for p) ms (Touch p.key w.work.claim) st puts);
        claim = refl;
      })
    where
      both : (w v : Work) → work_of claim s ≡ Some w → work_of claim s ≡ Some v → w ≡ v
      both w v held again = let two : Some w ≡ Some v = sym held ∙ again in cc

      firsts : (w : Work) (k : KeyView) → IsFirst w k c.store.items → (v : Work) → w ≡ v → (e : Stored) × (elsewhere v.span v.target s.objects ≡ Some e) × (e.key ≡ k)
      firsts w k first v same = subst (λ (u : Work). (e : Stored) × (elsewhere u.span u.target s.objects ≡ Some e) × (e.key ≡ k)) same (first_is w k first)
