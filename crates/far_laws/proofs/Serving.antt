-- The server of a definition keeps, between two histories of one storage version, what a migration asks of one.
use Rattle.std.proofs.Common.{◌≡◌, ◌∙◌, refl, sym, ap, subst, inl, inr, ℕ, ◌≤◌, Bool, true, false, List, [], ◌∷◌, ◌++◌, map, nat_eq, Option, None, Some, append_assoc}
use Rattle.std.specs.Prelude.{◌⊎◌, MatchOption, if◌then◌else◌}
use Rattle.std.proofs.lemmas.List.{append-nil}
use Rattle.kj_value.specs.Json.{Json}
use Rattle.kube_meta.specs.Key.{KeyView}
use Rattle.kube_meta.specs.declared.limits.Limits.{Limits}
use Rattle.api_calls.specs.Calls as calls
use Rattle.api_calls.specs.Item.{Create, Replace, Mark, Release, Touch, Delete, SetVersions, Trim, StartMigration, MarkSucceeded, Claim, RangeDone, GiveBack, Item, entry, note}
use Rattle.api_calls.specs.Legal.{Each, In, legal}
use Rattle.api_calls.specs.LegalLists.{KeepsStorage}
use Rattle.api_calls.specs.Meaning.{Meaning}
use Rattle.api_calls.specs.Objects.{Stored, find, object_key}
use Rattle.api_calls.specs.State.{State, effect, moved_storage, number_after, number_from, opening, revision, state, state_from}
use Rattle.api_calls.specs.Versions.{KeepsKey, Stand}
use Rattle.api_calls.proofs.Lists.{each}
use Rattle.api_calls.proofs.Numbers.{each_self, find-in}
use Rattle.api_calls.proofs.Parts.{state_from-append}
use Rattle.api_calls.proofs.Snaps.{in-find}
use Rattle.api_calls.proofs.Sound.{sound-all}
use Rattle.http_routes.specs.Paths.{IsKey}
use Rattle.far_laws.specs.Keys.{IsAbsentOrAt}
use Rattle.far_laws.proofs.legal_lists.Storage.{kept-all as storage_kept}
use Rattle.edge_io.specs.Exchanges.{Exchange}
use Rattle.place.specs.Place.{Names}
use Rattle.wire_client.specs.Answers.{given, gone}
use Rattle.wire_client.specs.Calls.{gets, lists, puts}
use Rattle.wire_client.specs.Far.{Chain, Server}
use Rattle.far_migrate.specs.Counts.{Counts}
use Rattle.far_migrate.specs.Migrates.{Migrates}
use Rattle.far_migrate.specs.Pages.{first_limit, is_empty, token_of}
use Rattle.far_migrate.specs.Puts.{all}
use Rattle.far_laws.specs.Answering.{Answered, GoesOn, IsBehind}
use Rattle.far_laws.specs.Upgraded.{AreAtStorage, Meanwhile}
use Rattle.far_laws.proofs.Decided.{absent_behind, get_finds_none, put_finds_none, put_stands}
use Rattle.far_laws.proofs.Histories.{empty_is, goes_further, goes_nowhere, legal_before, not_empty}
use Rattle.far_laws.proofs.Keyed.{token_some}
use Rattle.far_laws.proofs.Paging.{Cut, IsKnown, ReadsAs, whole, front_of, first_reads, further, next_reads}
use Rattle.far_laws.proofs.PageForms.{OneReading, TextReads}
use Rattle.far_laws.proofs.Settling.{all_settled}
use Rattle.far_laws.proofs.Upgrades.{Upgrades, keys_of}
use Rattle.far_laws.proofs.Values.{find_key}

-- ---- lists

append_cancel : {X : Type 0} (xs ys zs : List X) → xs ++ ys ≡ xs ++ zs → ys ≡ zs
append_cancel [] ys zs e = e
append_cancel {X} (x ∷ xs) ys zs e = let tail : xs ++ ys ≡ xs ++ zs = cc in append_cancel xs ys zs tail

each_first : {X : Type 0} (P : X → Type 0) (xs ys : List X) → Each P (xs ++ ys) → Each P xs
each_first P [] ys each_of = tt
each_first P (x ∷ xs) ys each_of = (each_of.0, each_first P xs ys each_of.1)

each_second : {X : Type 0} (P : X → Type 0) (xs ys : List X) → Each P (xs ++ ys) → Each P ys
each_second P [] ys each_of = each_of
each_second P (x ∷ xs) ys each_of = each_second P xs ys each_of.1

map_append : (xs ys : List Stored) → map object_key (xs ++ ys) ≡ map object_key xs ++ map object_key ys
map_append [] ys = refl
map_append (x ∷ xs) ys = ap (λ (ks : List KeyView). x.key ∷ ks) (map_append xs ys)

key_among : (e : Stored) (es : List Stored) → In e es → In e.key (map object_key es)
key_among e [] there = absurd there
key_among e (f ∷ es) (inl is) = inl (ap (λ (q : Stored). q.key) is)
key_among e (f ∷ es) (inr there) = inr (key_among e es there)

-- a key is that of an object, or no object has it
among_or : (key : KeyView) (es : List Stored) → In key (map object_key es) ⊎ (find key es ≡ None)
among_or key es = by (find key es) refl
  where
    by : (o : Option Stored) → find key es ≡ o → In key (map object_key es) ⊎ (find key es ≡ None)
    by None none = inr none
    by (Some e) there = inl (subst (λ (k : KeyView). In k (map object_key es)) (find_key key es e there) (key_among e es (find-in key es e there)))

-- ---- histories

storage_step : (n v : ℕ) (i : Item) (s : State) → KeepsStorage v i → s.flags.storage ≡ v → (effect n i s).flags.storage ≡ v
storage_step n v (entry (Create j h w)) s keeps is = is
storage_step n v (entry (Replace j over h w)) s keeps is = is
storage_step n v (entry (Mark j over stamp)) s keeps is = is
storage_step n v (entry (Release j over)) s keeps is = is
storage_step n v (entry (Touch j c)) s keeps is = is
storage_step n v (entry (Delete j)) s keeps is = is
storage_step n v (entry (SetVersions f)) s keeps is = by (nat_eq f.storage s.flags.storage)
  where
    storage_of : State → ℕ
    storage_of t = t.flags.storage

    by : (b : Bool) → storage_of (if b then record s { flags = f } else moved_storage f s) ≡ v
    by true = keeps
    by false = keeps
storage_step n v (entry (Trim keep)) s keeps is = is
storage_step n v (entry (StartMigration name)) s keeps is = is
storage_step n v (entry MarkSucceeded) s keeps is = is
storage_step n v (note (Claim c)) s keeps is = is
storage_step n v (note (RangeDone c)) s keeps is = is
storage_step n v (note (GiveBack c)) s keeps is = is

storage_from : (n v : ℕ) (s : State) (log : List Item) → Each (KeepsStorage v) log → s.flags.storage ≡ v → (state_from n s log).flags.storage ≡ v
storage_from n v s [] keeps is = is
storage_from n v s (i ∷ log) keeps is = storage_from (number_after n i) v (effect n i s) log keeps.1 (storage_step n v i s keeps.0 is)

at_found : (v : ℕ) (e : Stored) (o : Option Stored) → o ≡ Some e → MatchOption o (Unit {0}) (λ f. f.at ≡ v) → e.at ≡ v
at_found v e None is at = cc
at_found v e (Some f) is at = let same : f ≡ e = cc in subst (λ (q : Stored). q.at ≡ v) same at

module _ (m : Meaning) (limits : Limits) (boot : ℕ) (n : Names) (far : Server) (first last : List Item) (mean : Meanwhile m limits first last)
    (behind : IsBehind (record { meaning = m; limits = limits; boot = boot }) n far) (stand : Stand m) (keeps : KeepsKey m) (text_reads : TextReads) (one_reading : OneReading) where
  abbrev server : calls.Server
  server = record { meaning = m; limits = limits; boot = boot }

  abbrev storage : ℕ
  storage = (state m first).flags.storage

  legal_at : (log : List Item) → GoesOn log last → legal m limits log
  legal_at log p = legal_before m limits log last mean.legal p

  -- no item between two histories changes the storage version
  keeps_between : (log next : List Item) → GoesOn first log → (q : GoesOn log next) → GoesOn next last → Each (KeepsStorage storage) q.0
  keeps_between log next p q r =
      let whole : last ≡ first ++ (p.0 ++ (q.0 ++ r.0)) =
      r.1 ∙ ap (λ (l : List Item). l ++ r.0) (q.1 ∙ ap (λ (l : List Item). l ++ q.0) p.1 ∙ append_assoc first p.0 q.0)
      ∙ append_assoc first (p.0 ++ q.0) r.0 ∙ ap (λ (l : List Item). first ++ l) (append_assoc p.0 q.0 r.0) in
      let same : mean.more ≡ p.0 ++ (q.0 ++ r.0) = append_cancel first mean.more (p.0 ++ (q.0 ++ r.0)) (sym mean.goes_on ∙ whole) in
      each_first (KeepsStorage storage) q.0 r.0
      (each_second (KeepsStorage storage) p.0 (q.0 ++ r.0) (subst (λ (l : List Item). Each (KeepsStorage storage) l) same mean.stays))

  storage_at : (log : List Item) → GoesOn first log → GoesOn log last → (state m log).flags.storage ≡ storage
  storage_at log p r =
      ap (λ (l : List Item). (state m l).flags.storage) p.1
      ∙ ap (λ (s : State). s.flags.storage) (state_from-append 2 (opening m) first p.0)
      ∙ storage_from (number_from 2 first) storage (state m first) p.0 (keeps_between first log (goes_nowhere first) p r) refl

  abbrev Settled : List Item → KeyView → Type 0
  Settled log key = IsAbsentOrAt storage key (state m log)

  settled_stays : (log next : List Item) (key : KeyView) → GoesOn first log → GoesOn log next → GoesOn next last → Settled log key → Settled next key
  settled_stays log next key p q r settled =
      let here = storage_at log p (goes_further log next last q r) in
      let l : legal m limits (log ++ q.0) = subst (λ (k : List Item). legal m limits k) q.1 (legal_at next r) in
      let keeps_it : Each (KeepsStorage (state m log).flags.storage) q.0 =
      subst (λ (v : ℕ). Each (KeepsStorage v) q.0) (sym here) (keeps_between log next p q r) in
      let kept = storage_kept m limits log q.0 key l keeps_it (subst (λ (v : ℕ). IsAbsentOrAt v key (state m log)) (sym here) settled) in
      subst (λ (k : List Item). IsAbsentOrAt storage key (state m k)) (sym q.1)
      (subst (λ (v : ℕ). IsAbsentOrAt v key (state m (log ++ q.0))) here kept.1)

  -- ---- puts and gets

  put_law : (log own : List Item) (key : KeyView) (j k : Json) → IsKey key → GoesOn first log → GoesOn (log ++ own) last → Answered far n (puts key j) log own (given k) → Settled (log ++ own) key
  put_law log own key j k valid p r a =
      let to = goes_further log (log ++ own) last (own, refl) r in
      subst (λ (v : ℕ). IsAbsentOrAt v key (state m (log ++ own))) (storage_at log p to)
      (put_stands server n log own key j k (sound-all m limits log (legal_at log to)) (behind.gives (puts key j) valid log own k a))

  unput_law : (log own : List Item) (key : KeyView) (j : Json) → IsKey key → GoesOn first log → GoesOn (log ++ own) last → Answered far n (puts key j) log own gone → Settled (log ++ own) key
  unput_law log own key j valid p r a =
      let none = put_finds_none server n log own key j (behind.misses (puts key j) valid log own a) in
      absent_behind server storage log own key none.0 none.1

  ungot_law : (log own : List Item) (key : KeyView) → IsKey key → GoesOn first log → GoesOn (log ++ own) last → Answered far n (gets key) log own gone → Settled (log ++ own) key
  ungot_law log own key valid p r a =
      let none = get_finds_none server n log own key (behind.misses (gets key) valid log own a) in
      absent_behind server storage log own key none.0 none.1

  -- ---- pages

  -- a list goes on: at its first page these were the objects, of which those up to one were seen, whose token it is
  record IsLeft (log : List Item) (token : List ℕ) (seen : List KeyView) : Type 0 where
    start : List Item
    from : GoesOn first start
    to : GoesOn start log
    cut : Cut m start token
    seen_is : seen ≡ map object_key (cut.front ++ cut.last_seen ∷ [])

  left_stays_law : (log next : List Item) (token : List ℕ) (seen : List KeyView) → GoesOn first log → GoesOn log next → GoesOn next last → IsLeft log token seen → IsLeft next token seen
  left_stays_law log next token seen p q r left =
      record { start = left.start; from = left.from; to = goes_further left.start log next left.to q; cut = left.cut; seen_is = left.seen_is }

  -- ---- the first page

  known : IsKnown m limits boot n far last
  known = record {
    honest = mean.honest;
    legal = mean.legal;
    few = mean.few;
    counted = mean.counted;
    behind = behind;
    stand = stand;
    keeps = keeps;
    text_reads = text_reads;
    one_reading = one_reading;
  }

  first_ends_law : (log own : List Item) (limit : ℕ) (j : Json) → limit ≤ first_limit → GoesOn first log → GoesOn (log ++ own) last → Answered far n (lists limit []) log own (given j)
      → is_empty (token_of j) ≡ true → (key : KeyView) → In key (keys_of j) ⊎ Settled (log ++ own) key
  first_ends_law log own limit j small p r a ends key =
      let read = first_reads m limits boot n far last known log own limit j small r a in by read.1 read.0
    where
      by : own ≡ [] → ReadsAs m boot n (revision log) (state m log).objects j → In key (keys_of j) ⊎ Settled (log ++ own) key
      by none (whole shows keys no_token) =
          elim (among_or key (state m log).objects) [
            | inl there ↦ inl (subst (λ (ks : List KeyView). In key ks) (sym keys) there)
            | inr absent ↦ inr (absent_behind server storage log own key absent none)
          ]
      by none (front_of front rest e shows keys cut token_is is_token) = absurd (token_some (revision log) e.key is_token (sym token_is ∙ empty_is (token_of j) ends))

  first_left_law : (log own : List Item) (limit : ℕ) (j : Json) → limit ≤ first_limit → GoesOn first log → GoesOn (log ++ own) last → Answered far n (lists limit []) log own (given j)
      → is_empty (token_of j) ≡ false → IsLeft (log ++ own) (token_of j) (keys_of j)
  first_left_law log own limit j small p r a more =
      let read = first_reads m limits boot n far last known log own limit j small r a in by read.0
    where
      by : ReadsAs m boot n (revision log) (state m log).objects j → IsLeft (log ++ own) (token_of j) (keys_of j)
      by (whole shows keys no_token) = absurd (not_empty (token_of j) no_token more)
      by (front_of front rest e shows keys cut token_is is_token) = record {
        start = log;
        from = p;
        to = (own, refl);
        cut = record { front = front; rest = rest; last_seen = e; objects = cut; token_is = token_is; is_token = is_token };
        seen_is = keys;
      }

  -- ---- later pages

  -- the keys of all objects
  seen_all : (front xs : List Stored) (e : Stored) (seen keys : List KeyView) → seen ≡ map object_key (front ++ e ∷ []) → keys ≡ map object_key xs
      → seen ++ keys ≡ map object_key (front ++ e ∷ xs)
  seen_all front xs e seen keys is more =
      ap (λ (ks : List KeyView). ks ++ keys) is ∙ ap (λ (ks : List KeyView). map object_key (front ++ e ∷ []) ++ ks) more
      ∙ sym (map_append (front ++ e ∷ []) xs) ∙ ap (λ (ys : List Stored). map object_key ys) (append_assoc front (e ∷ []) xs)

  next_ends_law : (log own : List Item) (limit : ℕ) (token : List ℕ) (seen : List KeyView) (j : Json) → limit ≤ first_limit → GoesOn first log → GoesOn (log ++ own) last → IsLeft log token seen
      → Answered far n (lists limit token) log own (given j) → is_empty (token_of j) ≡ true → (key : KeyView) → In key (seen ++ keys_of j) ⊎ Settled (log ++ own) key
  next_ends_law log own limit token seen j small p r left a ends key =
      let read = next_reads m limits boot n far last known left.start log own limit token j small left.to r left.cut a in by read.0
    where
      by : ReadsAs m boot n (revision left.start) left.cut.rest j → In key (seen ++ keys_of j) ⊎ Settled (log ++ own) key
      by (whole shows keys no_token) =
          elim (among_or key (state m left.start).objects) [
            | inl there ↦ inl (subst (λ (ks : List KeyView). In key ks)
                (ap (λ (ys : List Stored). map object_key ys) left.cut.objects ∙ sym (seen_all left.cut.front left.cut.rest left.cut.last_seen seen (keys_of j) left.seen_is keys)) there)
            | inr absent ↦ inr (settled_stays left.start (log ++ own) key left.from (goes_further left.start log (log ++ own) left.to (own, refl)) r
                (subst (λ (l : List Item). IsAbsentOrAt storage key (state m l)) (append-nil left.start) (absent_behind server storage left.start [] key absent refl)))
          ]
      by (front_of front rest e shows keys cut token_is is_token) =
          absurd (token_some (revision left.start) e.key is_token (sym token_is ∙ empty_is (token_of j) ends))

  next_left_law : (log own : List Item) (limit : ℕ) (token : List ℕ) (seen : List KeyView) (j : Json) → limit ≤ first_limit → GoesOn first log → GoesOn (log ++ own) last → IsLeft log token seen
      → Answered far n (lists limit token) log own (given j) → is_empty (token_of j) ≡ false → IsLeft (log ++ own) (token_of j) (seen ++ keys_of j)
  unfolding further
  next_left_law log own limit token seen j small p r left a more =
      let read = next_reads m limits boot n far last known left.start log own limit token j small left.to r left.cut a in by read.0
    where
      by : ReadsAs m boot n (revision left.start) left.cut.rest j → IsLeft (log ++ own) (token_of j) (seen ++ keys_of j)
      by (whole shows keys no_token) = absurd (not_empty (token_of j) no_token more)
      by (front_of front rest e shows keys cut token_is is_token) = record {
        start = left.start;
        from = left.from;
        to = goes_further left.start log (log ++ own) left.to (own, refl);
        cut = further m left.start token (token_of j) left.cut front rest e cut token_is is_token;
        seen_is = seen_all left.cut.front (front ++ e ∷ []) left.cut.last_seen seen (keys_of j) left.seen_is keys
            ∙ ap (λ (ys : List Stored). map object_key ys) (sym (append_assoc left.cut.front (left.cut.last_seen ∷ front) (e ∷ [])));
      }

  -- ---- the whole

  pub serves : Upgrades far n first last
  serves = record {
    Settled = λ log key. IsAbsentOrAt storage key (state m log);
    Left = IsLeft;
    stays = settled_stays;
    left_stays = left_stays_law;
    put = put_law;
    unput = unput_law;
    ungot = ungot_law;
    first_ends = first_ends_law;
    first_left = first_left_law;
    next_ends = next_ends_law;
    next_left = next_left_law;
  }

  -- ---- all objects

  pub all_stand : ((key : KeyView) → IsAbsentOrAt storage key (state m last)) → AreAtStorage (state m last)
  all_stand settled =
      let here = storage_at last (mean.more, mean.goes_on) (goes_nowhere last) in
      each (λ e. In e (state m last).objects) (λ e. e.at ≡ (state m last).flags.storage) (state m last).objects (each_self (state m last).objects)
      (λ e there. at_found storage e (find e.key (state m last).objects)
      (in-find (state m last).objects e (sound-all m limits last mean.legal).rising there) (settled e.key) ∙ sym here)

  pub all_upgraded : (es : List Exchange) (t : Counts) → Chain far first es last → Migrates n es (all t) → t.contested ≡ 0 → AreAtStorage (state m last)
  unfolding serves
  all_upgraded es t chain runs none = all_stand (λ key. all_settled far n first last serves es t runs none chain key)
