-- A text that was kept shows what is seen under its key at its number, however the list goes on.
use Rattle.std.proofs.Common.{◌≡◌, ◌∙◌, ℕ, zero, suc, ◌≤◌, List, [], ◌∷◌, ◌++◌, length, take, Option, None, Some, Ok, Err, Bool, true, false, inl, inr, ap, sym, subst, refl}
use Rattle.std.specs.Prelude.{IfOk, IfSome, IsTrue, MatchBool, Result, ◌⊎◌, option_map}
use Rattle.kj_value.specs.Json.{Json}
use Rattle.kj_value.specs.Text.{text_of}
use Rattle.kj_value.specs.Txt.{Bytes}
use Rattle.kj_value.specs.declared.error.NoMemory.{NoMemory}
use Rattle.kube_meta.specs.Key.{KeyView}
use Rattle.kube_meta.specs.View.{ObjectView}
use Rattle.api_calls.specs.Item.{Item}
use Rattle.api_calls.specs.Legal.{In}
use Rattle.api_calls.specs.Meaning.{Meaning}
use Rattle.api_calls.specs.Objects.{Stored, find}
use Rattle.api_calls.specs.Replies.{GetReply, IsShown, code_ok}
use Rattle.api_calls.specs.Reply.{ReplyView}
use Rattle.api_calls.specs.State.{opening, served, state}
use Rattle.api_calls.specs.Versions.{IsStored}
use Rattle.api_calls.proofs.Numbers.{find-in, numbered-opening, one-from}
use Rattle.api_core.specs.Prepared.{Sees}
use Rattle.api_core.specs.declared.seen.Peeked.{Peeked}
use Rattle.api_core.specs.declared.seen.Seen.{Seen}
use Rattle.form_cache.specs.Forms.{Form, Forms, forms_of, found, kept, shows, used}
use Rattle.form_cache.specs.Laws.{each_kept, each_used, found_holds, shown_parts}
use Rattle.form_cache.specs.Limits.{longest_text}
use Rattle.call_texts.specs.Cached.{AreCached, IsCached, Stood, WasSeen}
use Rattle.call_texts.specs.Listing.{ShowsSeen}
use Rattle.call_texts.specs.PageTexts.{Adds}
use Rattle.call_texts.proofs.Paging.{shown_item}
use Rattle.call_texts.proofs.Pieces.{known, onward}
use Rattle.call_texts.proofs.Showing.{kept as kept_object, object_reply, shown_other}

-- ---- beginnings of a list that goes on

taken : (i : ℕ) (log more : List Item) → (j : ℕ) × (take j (log ++ more) ≡ take i log)
taken zero log more = (0, refl)
taken (suc i) [] more = (0, refl)
taken (suc i) (x ∷ log) more = let (j, is) = taken i log more in (suc j, ap (λ (ys : List Item). x ∷ ys) is)

whole : (log : List Item) → (j : ℕ) × (take j log ≡ log)
whole [] = (0, refl)
whole (x ∷ log) = let (j, is) = whole log in (suc j, ap (λ (ys : List Item). x ∷ ys) is)

stood-on : (m : Meaning) (log more : List Item) (e : Stored) → Stood m log e → Stood m (log ++ more) e
stood-on m log more e s =
    let (j, is) = taken s.until log more in
    record { until = j; there = subst (λ (ys : List Item). In e (state m ys).objects) (sym is) s.there }

cached-on : (m : Meaning) (boot : ℕ) (log more : List Item) (f : Form) → IsCached m boot log f → IsCached m boot (log ++ more) f
cached-on m boot log more f c = record { object = c.object; stood = stood-on m log more c.object c.stood; key = c.key; number = c.number; shows = c.shows; short = c.short }

-- what was known of the texts is known as the list goes on
pub all-cached-on : (m : Meaning) (boot : ℕ) (log more : List Item) (fs : List Form) → AreCached m boot log fs → AreCached m boot (log ++ more) fs
all-cached-on m boot log more [] h = tt
all-cached-on m boot log more (f ∷ fs) h = (cached-on m boot log more f h.0, all-cached-on m boot log more fs h.1)

-- ---- objects that stood

-- an object that stands at a list stood there
pub stands-there : (m : Meaning) (log : List Item) (k : KeyView) (e : Stored) → find k (state m log).objects ≡ Some e → Stood m log e
stands-there m log k e is =
    let (j, same) = whole log in
    record { until = j; there = subst (λ (ys : List Item). In e (state m ys).objects) (sym same) (find-in k (state m log).objects e is) }

-- a number names one object
same-object : (m : Meaning) (log : List Item) (e f : Stored) → Stood m log e → Stood m log f → e.number ≡ f.number → e ≡ f
same-object m log e f a b is = one-from 2 (opening m) log a.until b.until e f (numbered-opening m) a.there b.there is

-- ---- a text that was kept

module _ (m : Meaning) (boot : ℕ) (log : List Item) (v : ℕ) (s : Seen) where
  -- the text shows the object that was seen
  abbrev pub ShowsIt : WasSeen m log s → List ℕ → Type 0
  ShowsIt w text = IsShown m boot v w.object.h w.object.number w.object.born text

  form-shows : (f : Form) (w : WasSeen m log s) → IsCached m boot log f → shows s.key s.rv v f ≡ true → ShowsIt w f.text
  form-shows f w c is =
      let parts = shown_parts s.key s.rv v f is in
      let same : c.object ≡ w.object = same-object m log c.object w.object c.stood w.stood (c.number ∙ (sym parts.1 ∙ w.keeps.number)) in
      let here : IsShown m boot f.version w.object.h w.object.number w.object.born f.text = subst (λ (e : Stored). IsShown m boot f.version e.h e.number e.born f.text) same c.shows in
      subst (λ (n : ℕ). IsShown m boot n w.object.h w.object.number w.object.born f.text) (sym parts.2) here

  pub found-form : (fs : List Form) (f : Form) (w : WasSeen m log s) → found (shows s.key s.rv v) fs ≡ Some f → AreCached m boot log fs → ShowsIt w f.text
  found-form fs f w is h = let held = found_holds (IsCached m boot log) (shows s.key s.rv v) fs f is h in form-shows f w held.0 held.1

  found-text : (fs : List Form) (o : Option Form) (t : Option Bytes) (w : WasSeen m log s) → found (shows s.key s.rv v) fs ≡ o
      → option_map (λ (b : Bytes). b.bytes) t ≡ option_map (λ (f : Form). f.text) o → AreCached m boot log fs → IfSome t (λ b. ShowsIt w b.bytes)
  found-text fs o None w is same h = tt
  found-text fs None (Some t) w is same h = absurd (cc)
  found-text fs (Some f) (Some t) w is same h =
      let one : f.text ≡ t.bytes = cc in
      subst (λ (b : List ℕ). ShowsIt w b) one (found-form fs f w is h)

  -- the text that was found and copied
  pub found-shows : (fs : List Form) (r : Result (Option Bytes) NoMemory) (w : WasSeen m log s)
      → IfOk r (λ (t : Option Bytes). option_map (λ (b : Bytes). b.bytes) t ≡ option_map (λ (f : Form). f.text) (found (shows s.key s.rv v) fs))
      → AreCached m boot log fs → IfOk r (λ o. IfSome o (λ t. ShowsIt w t.bytes))
  found-shows fs (Ok t) w same h = found-text fs (found (shows s.key s.rv v) fs) t w refl same h
  found-shows fs (Err e) w same h = tt

  -- the text that was found and added
  pub added-shows : (fs : List Form) (r : Result Bool NoMemory) (before after : List ℕ) (w : WasSeen m log s)
      → IfOk r (λ b. MatchBool b ((f : Form) × (found (shows s.key s.rv v) fs ≡ Some f) × Adds before f.text after) (after ≡ before))
      → AreCached m boot log fs → IfOk r (λ b. MatchBool b ((t : List ℕ) × ShowsIt w t × Adds before t after) (after ≡ before))
  added-shows fs (Ok true) before after w (f, is, adds) h = (f.text, found-form fs f w is h, adds)
  added-shows fs (Ok false) before after w same h = same
  added-shows fs (Err e) before after w same h = tt

  -- a text that shows each value of what is stored shows the object
  pub shows-object : (text : List ℕ) (w : WasSeen m log s) → ((h : ObjectView) → IsStored m s.at h s.bytes.bytes → IsShown m boot v h s.rv s.born text) → ShowsIt w text
  shows-object text w shown =
      let e = w.object in
      let t = w.keeps.text in
      let stored = subst (λ (a : ℕ). IsStored m a t.value s.bytes.bytes) (sym w.keeps.at) t.stored in
      let by_value : IsShown m boot v e.h s.rv s.born text = shown_other m boot v t.value e.h s.rv s.born text t.same (shown t.value stored) in
      let by_number : IsShown m boot v e.h e.number s.born text = subst (λ (n : ℕ). IsShown m boot v e.h n s.born text) w.keeps.number by_value in
      subst (λ (n : ℕ). IsShown m boot v e.h e.number n text) w.keeps.born by_number

  -- a text that shows the object is a document of what is seen
  pub shows-seen : (bytes : List ℕ) (w : WasSeen m log s)
      → ((g h : ObjectView) → IsTrue m.honest → IsStored m s.at g s.bytes.bytes → IsStored m s.at h s.bytes.bytes → g ≡ h)
      → ShowsIt w bytes → (j : Json) × ShowsSeen m boot v s j × (bytes ≡ text_of j)
  shows-seen bytes w one shown =
      let e = w.object in
      let t = w.keeps.text in
      let stored = subst (λ (a : ℕ). IsStored m a t.value s.bytes.bytes) (sym w.keeps.at) t.stored in
      let by_born : IsShown m boot v e.h e.number s.born bytes = subst (λ (n : ℕ). IsShown m boot v e.h e.number n bytes) (sym w.keeps.born) shown in
      let by_number : IsShown m boot v e.h s.rv s.born bytes = subst (λ (n : ℕ). IsShown m boot v e.h n s.born bytes) (sym w.keeps.number) by_born in
      shown_item m boot v s e.h bytes (λ h is honest. sym (t.same honest) ∙ one t.value h honest stored is) by_number

-- ---- the cache

module _ (m : Meaning) (boot : ℕ) (log : List Item) where
  pub used-cached : (k : KeyView) (n v : ℕ) (c d : Forms) → d ≡ forms_of (used k n v c.forms) c.most → AreCached m boot log c.forms → AreCached m boot log d.forms
  used-cached k n v c d is h = subst (λ (x : Forms). AreCached m boot log x.forms) (sym is) (each_used (IsCached m boot log) k n v c.forms h)

  -- a text that shows what is seen was kept, or nothing was
  pub kept-cached : (v : ℕ) (s : Seen) (text : List ℕ) (c d : Forms) (w : WasSeen m log s)
      → (d ≡ c) ⊎ ((length text ≤ longest_text) × (d ≡ forms_of (kept (record { key = s.key; number = s.rv; version = v; text = text }) c) c.most))
      → ShowsIt m boot log v s w text → AreCached m boot log c.forms → AreCached m boot log d.forms
  kept-cached v s text c d w (inl same) shown h = subst (λ (x : Forms). AreCached m boot log x.forms) (sym same) h
  kept-cached v s text c d w (inr (short, is)) shown h =
      let f : Form = record { key = s.key; number = s.rv; version = v; text = text } in
      let cached : IsCached m boot log f = record { object = w.object; stood = w.stood; key = sym w.keeps.key; number = sym w.keeps.number; shows = shown; short = short } in
      subst (λ (x : Forms). AreCached m boot log x.forms) (sym is) (each_kept (IsCached m boot log) f c cached h)

pub kept-most : (f : Form) (c d : Forms) (P : Type 0) → (d ≡ c) ⊎ (P × (d ≡ forms_of (kept f c) c.most)) → d.most ≡ c.most
kept-most f c d P (inl same) = ap (λ (x : Forms). x.most) same
kept-most f c d P (inr (p, is)) = ap (λ (x : Forms). x.most) is

-- ---- an item of a page

module _ (m : Meaning) (boot : ℕ) (log : List Item) (v : ℕ) (s : Seen) (w : WasSeen m log s)
    (one : (g h : ObjectView) → IsTrue m.honest → IsStored m s.at g s.bytes.bytes → IsStored m s.at h s.bytes.bytes → g ≡ h) where
  -- behind a piece, the text that was kept was added
  pub added-kept : (b : Bool) (before piece now after : List ℕ) → b ≡ true → Adds before piece now
      → MatchBool b ((t : List ℕ) × ShowsIt m boot log v s w t × Adds now t after) (after ≡ now)
      → (j : Json) × ShowsSeen m boot v s j × Adds before (piece ++ text_of j) after
  added-kept true before piece now after is first (t, shown, adds) =
      let (j, shows, spelled) = shows-seen m boot log v s t w one shown in
      (j, shows, onward first (known (text_of j) spelled adds))
  added-kept false before piece now after is first same = absurd (cc)

  -- behind a piece, a text that was made was added
  pub added-made : (b : Bool) (before piece now then text after : List ℕ) → b ≡ false → Adds before piece now
      → MatchBool b ((t : List ℕ) × ShowsIt m boot log v s w t × Adds now t then) (then ≡ now) → Adds then text after → ShowsIt m boot log v s w text
      → (j : Json) × ShowsSeen m boot v s j × Adds before (piece ++ text_of j) after
  added-made true before piece now then text after is first kept adds shown = absurd (cc)
  added-made false before piece now then text after is first same adds shown =
      let (j, shows, spelled) = shows-seen m boot log v s text w one shown in
      let there : Adds now text after = subst (λ (t : List ℕ). Adds t text after) same adds in
      (j, shows, onward first (known (text_of j) spelled there))

-- ---- a get

-- what a look saw stood at its list
pub was-seen : (m : Meaning) (log : List Item) (k : KeyView) (p : Peeked) (seen : Seen) → Sees m log k p → p.found ≡ Some seen → WasSeen m log seen
was-seen m log k p seen sees is =
    let (e, there, keeps) = kept_object m log k p seen sees is in
    record { object = e; stood = stands-there m log k e there; keeps = keeps }

-- the reply that shows it
pub looked-reply : (m : Meaning) (boot v : ℕ) (log : List Item) (k : KeyView) (p : Peeked) (seen : Seen) (r : ReplyView) → Sees m log k p → p.found ≡ Some seen
    → served (state m log).flags v ≡ true → r.code ≡ code_ok → ((w : WasSeen m log seen) → ShowsIt m boot log v seen w r.text)
    → GetReply m boot (state m log) v k (Ok r) None
looked-reply m boot v log k p seen r sees is may code shows =
    let (e, there, keeps) = kept_object m log k p seen sees is in
    object_reply m boot v log k e r there may code (shows (record { object = e; stood = stands-there m log k e there; keeps = keeps }))
