-- A call on a pass that no other calls beside, as a request of a step that is counted.
use Rattle.std.proofs.Common.{◌≡◌, ◌≢◌, ℕ, List, [], Option, None, Some, Ok, Err, sym, subst}
use Rattle.kube_meta.specs.Key.{KeyView}
use Rattle.api_calls.specs.Calls.{Server, create, replace, get, delete, set_versions, start, list, answered, Decides}
use Rattle.api_calls.specs.Item.{Item, items}
use Rattle.api_calls.specs.Refusal as refusal
use Rattle.api_calls.specs.Refusal.{RefusalView}
use Rattle.api_calls.specs.Replies.{Answer}
use Rattle.call_texts.specs.Places.{IsPlace}
use Rattle.turn_cell.specs.Views.{IsAlone}
use Rattle.turn_cell.specs.declared.view.View.{View}
use Rattle.shared_api.specs.Answered.{CallsOn}
use Rattle.drill_requests.specs.Bodies.{stamp, spoke_version, hub_version, object_key, start_body}
use Rattle.drill_requests.specs.Replies.{IsEdited, Shows}
use Rattle.drill_steps.specs.declared.counts.Counts.{Counts}
use Rattle.drill_steps.specs.Calling.{Tally, Requests, request, CountsCreate, CountsReplace, PutsBack, Edits, CountsDelete, CountsSet, CountsStart, Lists}
use Rattle.drill_steps.specs.Counting.{with_create, with_replace, with_delete, with_setting}
use Rattle.drill_steps.specs.Settings.{switch_body}
use Rattle.drill_steps.proofs.Alone.{requested}

-- a refusal that isn't want of memory
pub refused : (e : RefusalView) → e ≢ refusal.no_memory → (let a : Answer = Err e in a ≢ Err refusal.no_memory)
refused e had is = let same : e ≡ refusal.no_memory = cc in had same

-- where a pass stands
abbrev pub standing : {B : Type 0} → View B → Counts → Tally
standing v counts = record { log = items v.seen; counts = counts }

module _ {B : Type 0} (s : Server) (rose : Type 0) (v z : View B) (never : ¬ rose) (alone : IsAlone v) (a : Answer) (had : a ≢ Err refusal.no_memory) (before after : Counts) where
  pub creates : (given version bytes body : List ℕ) (n : ℕ) → given ≡ stamp → bytes ≡ body → IsPlace s.meaning version n → after ≡ with_create a before
      → CallsOn s rose given v z (create (request n None bytes)) (answered a) → CountsCreate s version body (standing v before) (standing z after)
  creates given version bytes body n stamped same place counted calls = record {
    v = n;
    place = place;
    answer = a;
    requests = subst (λ (x : List ℕ). Requests s (items v.seen) (create (request n None x)) a (items z.seen)) same
        (requested s rose given v z (create (request n None bytes)) a never alone had
        (λ i d. subst (λ (t : List ℕ). Decides s t (items v.seen) (create (request n None bytes)) (answered a) i) stamped d) calls);
    counts = counted;
  }

  pub replaces : (object t n : ℕ) (got bytes body : List ℕ) (k : KeyView) → bytes ≡ body → k ≡ object_key object → IsEdited t got body → IsPlace s.meaning spoke_version n
      → after ≡ with_replace a before → CallsOn s rose [] v z (replace (record { version = n; ns = k.ns; name = Some k.name; bytes = bytes }) k) (answered a)
      → CountsReplace s object t got (standing v before) (standing z after)
  replaces object t n got bytes body k same key edited place counted calls = record {
    body = body;
    edited = edited;
    v = n;
    place = place;
    answer = a;
    requests = subst (λ (x : KeyView). Requests s (items v.seen) (replace (record { version = n; ns = x.ns; name = Some x.name; bytes = body }) x) a (items z.seen)) key
        (subst (λ (x : List ℕ). Requests s (items v.seen) (replace (record { version = n; ns = k.ns; name = Some k.name; bytes = x }) k) a (items z.seen)) same
        (requested s rose [] v z (replace (record { version = n; ns = k.ns; name = Some k.name; bytes = bytes }) k) a never alone had (λ i d. d) calls));
    counts = counted;
  }

  pub gets : (object n : ℕ) (k : KeyView) → k ≡ object_key object → CallsOn s rose [] v z (get n k) (answered a)
      → Requests s (items v.seen) (get n (object_key object)) a (items z.seen)
  gets object n k key calls = subst (λ (x : KeyView). Requests s (items v.seen) (get n x) a (items z.seen)) key
      (requested s rose [] v z (get n k) a never alone had (λ i d. d) calls)

  pub deletes : (given bytes : List ℕ) (object n : ℕ) (k : KeyView) → given ≡ stamp → bytes ≡ [] → k ≡ object_key object → IsPlace s.meaning hub_version n → after ≡ with_delete a before
      → CallsOn s rose given v z (delete n k bytes) (answered a) → CountsDelete s object (standing v before) (standing z after)
  deletes given bytes object n k stamped empty key place counted calls = record {
    v = n;
    place = place;
    answer = a;
    requests = subst (λ (x : List ℕ). Requests s (items v.seen) (delete n (object_key object) x) a (items z.seen)) empty
        (subst (λ (x : KeyView). Requests s (items v.seen) (delete n x bytes) a (items z.seen)) key
        (requested s rose given v z (delete n k bytes) a never alone had (λ i d. subst (λ (t : List ℕ). Decides s t (items v.seen) (delete n k bytes) (answered a) i) stamped d) calls));
    counts = counted;
  }

  pub sets : (bytes : List ℕ) (switches : ℕ) → bytes ≡ switch_body switches → after ≡ with_setting a before → CallsOn s rose [] v z (set_versions bytes) (answered a)
      → CountsSet s switches (standing v before) (standing z after)
  sets bytes switches same counted calls = record {
    answer = a;
    requests = subst (λ (x : List ℕ). Requests s (items v.seen) (set_versions x) a (items z.seen)) same (requested s rose [] v z (set_versions bytes) a never alone had (λ i d. d) calls);
    counts = counted;
  }

  pub starts : (bytes : List ℕ) (switches : ℕ) → bytes ≡ start_body switches → after ≡ with_setting a before → CallsOn s rose [] v z (start bytes) (answered a)
      → CountsStart s switches (standing v before) (standing z after)
  starts bytes switches same counted calls = record {
    answer = a;
    requests = subst (λ (x : List ℕ). Requests s (items v.seen) (start x) a (items z.seen)) same (requested s rose [] v z (start bytes) a never alone had (λ i d. d) calls);
    counts = counted;
  }

  pub lists : (n objects : ℕ) (revision : List ℕ) → IsPlace s.meaning spoke_version n → Shows a objects revision → CallsOn s rose [] v z (list n None 0 None) (answered a)
      → Lists s (items v.seen) objects revision
  lists n objects revision place shows calls = record {
    v = n;
    place = place;
    answer = a;
    after = items z.seen;
    requests = requested s rose [] v z (list n None 0 None) a never alone had (λ i d. d) calls;
    shows = shows;
  }
