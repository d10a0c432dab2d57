-- A request has one reply at a history whose objects are whole, as far as it is counted, and enters one item.
use Rattle.std.proofs.Common.{◌≡◌, ◌∙◌, ◌⊎◌, ◌<◌, ◌≤◌, ℕ, Bool, true, false, List, [], ◌∷◌, Option, None, Some, Ok, Err, inl, inr, ap, subst, sym, refl, arith}
use Rattle.std.specs.Prelude.{MatchBool, MatchOption, not, ◌&&◌, nat_lt, nat_eq, if◌then◌else◌, IsTrue, ◌↔◌, filter}
use Rattle.std.proofs.lemmas.Bool.Decides.{nat_tests}
use Rattle.kj_value.specs.Json.{Json}
use Rattle.kj_value.specs.Text.{text_of}
use Rattle.kube_meta.specs.Document.{document}
use Rattle.kube_meta.specs.Key.{KeyView}
use Rattle.kube_meta.specs.Page.{Page, in_namespace, bound_after}
use Rattle.kube_meta.specs.Plan.{passed}
use Rattle.kube_meta.specs.View.{ObjectView}
use Rattle.kube_meta.specs.declared.limits.Limits.{Limits}
use Rattle.api_calls.specs.Documents.{reply_text, numbered, object_list}
use Rattle.api_calls.specs.laws.ObjectLaws.{each-find}
use Rattle.api_calls.specs.Ends.{WriteEnd, done, kept, same, unserved, present, gone, newer, forbidden, storage_moved, full, Decision, says}
use Rattle.api_calls.specs.Item.{Item}
use Rattle.api_calls.specs.Legal.{Each, key_of}
use Rattle.api_calls.specs.Meaning.{Meaning, Request, Fault, Weighs}
use Rattle.api_calls.specs.Objects.{Stored, find}
use Rattle.api_calls.specs.Pages as page
use Rattle.api_calls.specs.Refusal as refusal
use Rattle.api_calls.specs.Replies.{Answer, ShowsObject, GetReply, AreShown, next_token, IsList, Pages, ListReply, Wrote, Creates, CreateReply, ReplaceReply, Deleted, Deletes, DeleteReply, kept_value, definition_subject, set_answer, SetReply, start_answer, StartReply, code_ok, code_created, said, fault_refusal, body_refusal, start_refusal}
use Rattle.api_calls.specs.Reply.{ReplyView}
use Rattle.api_calls.specs.Settings.{set_decision, start_decision}
use Rattle.api_calls.specs.Snap.{snap, page_at}
use Rattle.api_calls.specs.State.{State, served, revision, state}
use Rattle.api_calls.specs.Values.{IsUpdate, updated_value, created_value}
use Rattle.api_calls.specs.Writes.{Takes, replaced, Replaces, ReplaceDecision, removed, DeleteDecision}
use Rattle.api_calls.specs.declared.flags.Flags.{Flags}
use Rattle.run_laws.specs.Versions.{HasVersion}
use Rattle.run_laws.proofs.drills.Lawful.{Lawful}
use Rattle.call_texts.specs.Places.{IsPlace}
use Rattle.run_laws.proofs.drills.Alike.{on_test, on_found, one_bool, Alike, same_alike, refused_alike, fault_missed, body_missed, start_missed}

same_reply : (r t : ReplyView) → r.code ≡ t.code → r.text ≡ t.text → r ≡ t
same_reply r t code text = subst (λ (s : List ℕ). r ≡ record { code = t.code; text = s }) text (subst (λ (c : ℕ). r ≡ record { code = c; text = r.text }) code refl)

each_filter : {X : Type 0} (P : X → Type 0) (f : X → Bool) (xs : List X) → Each P xs → Each P (filter f xs)
each_filter P f [] h = tt
each_filter P f (x ∷ xs) h = by (f x) (each_filter P f xs h.1)
  where
    by : (b : Bool) → Each P (filter f xs) → Each P (if b then x ∷ filter f xs else filter f xs)
    by true more = (h.0, more)
    by false more = more

-- a name has one place
pub place_is : (m : Meaning) (name : List ℕ) (has : HasVersion m name) (w : ℕ) → ((v u : ℕ) → v < m.count → u < m.count → m.name v ≡ m.name u → v ≡ u) → IsPlace m name w → w ≡ has.place
place_is m name has w differ p = by (nat_lt w m.count) refl
  where
    by : (b : Bool) → nat_lt w m.count ≡ b → w ≡ has.place
    by true is = let known : w < m.count = grind (arith, nat_tests) in differ w has.place known has.known (p.named known ∙ sym has.named)
    by false is = let beyond : m.count ≤ w = grind (arith, nat_tests) in absurd (p.unknown beyond has.place has.known has.named)

module _ (m : Meaning) (laws : Lawful m) where
  -- ---- what is shown

  one_form : (v : ℕ) (h x y : ObjectView) → v < m.count → m.whole h → (IsTrue m.honest → m.pair v h x) → (IsTrue m.honest → m.pair v h y) → x ≡ y
  one_form v h x y known whole p q = laws.one.function v h x y known whole (p laws.honest) (q laws.honest)

  one_shown : (boot code v : ℕ) (h : ObjectView) (n born : ℕ) (a b : Answer) → v < m.count → m.whole h → ShowsObject m boot code v h n born a → ShowsObject m boot code v h n born b → a ≡ b
  one_shown boot code v h n born (Ok r) (Ok t) known whole p q =
      let form = one_form v h p.1.0 q.1.0 known whole p.1.1 q.1.1 in
      let text : r.text ≡ t.text = p.1.2 ∙ ap (λ (x : ObjectView). reply_text boot n born x) form ∙ sym q.1.2 in
      ap (λ (x : ReplyView). let a : Answer = Ok x in a) (same_reply r t (p.0 ∙ sym q.0) text)
  one_shown boot code v h n born (Ok r) (Err e) known whole p q = absurd q
  one_shown boot code v h n born (Err e) b known whole p q = absurd p

  pub get_one : (boot : ℕ) (s : State) (v : ℕ) (k : KeyView) (a b : Answer) (i j : Option Item) → v < m.count → Each (λ e. m.whole e.h) s.objects
      → GetReply m boot s v k a i → GetReply m boot s v k b j → a ≡ b
  get_one boot s v k a b i j known whole p q =
      on_test (served s.flags v) p.1 q.1
      (λ x y. on_found (find k s.objects) x y (λ x y. x ∙ sym y)
      (λ e is x y. one_shown boot code_ok v e.h e.number e.born a b known (each-find (λ e. m.whole e.h) k s.objects e whole is) x y))
      (λ x y. x ∙ sym y)

  -- ---- lists

  one_documents : (boot v : ℕ) (es : List Stored) (js ks : List Json) → v < m.count → Each (λ e. m.whole e.h) es → AreShown m boot v es js → AreShown m boot v es ks → js ≡ ks
  one_documents boot v [] [] [] known whole p q = refl
  one_documents boot v [] [] (k ∷ ks) known whole p q = absurd q
  one_documents boot v [] (j ∷ js) ks known whole p q = absurd p
  one_documents boot v (e ∷ es) [] ks known whole p q = absurd p
  one_documents boot v (e ∷ es) (j ∷ js) [] known whole p q = absurd q
  one_documents boot v (e ∷ es) (j ∷ js) (k ∷ ks) known whole p q =
      let form = one_form v e.h p.0.0 q.0.0 known whole.0 p.0.1 q.0.1 in
      let first : j ≡ k = p.0.2 ∙ ap (λ (x : ObjectView). document (numbered boot e.number e.born x)) form ∙ sym q.0.2 in
      let rest = one_documents boot v es js ks known whole.1 p.1 q.1 in
      ap (λ (x : Json). x ∷ js) first ∙ ap (λ (xs : List Json). k ∷ xs) rest

  one_list : (boot v : ℕ) (p : Page Stored) (a b : Answer) → v < m.count → Each (λ e. m.whole e.h) p.items → IsList m boot v p a → IsList m boot v p b → a ≡ b
  one_list boot v p (Ok r) (Ok t) known whole x y =
      let shown = one_documents boot v p.items x.1 y.1 known whole x.2 y.2 in
      let text : r.text ≡ t.text = x.3 ∙ ap (λ (js : List Json). text_of (object_list m v js (next_token p) p.number p.remaining)) shown ∙ sym y.3 in
      ap (λ (x : ReplyView). let a : Answer = Ok x in a) (same_reply r t (x.0 ∙ sym y.0) text)
  one_list boot v p (Ok r) (Err e) known whole x y = absurd y
  one_list boot v p (Err e) b known whole x y = absurd x

  pub list_one : (limits : Limits) (boot : ℕ) (log : List Item) (v : ℕ) (a b : Answer) (i j : Option Item) → v < m.count → Each (λ e. m.whole e.h) (snap m log (revision log))
      → ListReply m limits boot log v None 0 None a i → ListReply m limits boot log v None 0 None b j → a ≡ b
  list_one limits boot log v a b i j known whole p q = by (served (state m log).flags v) p.1 q.1
    where
      by : (c : Bool) → Pages m boot v (if not c then page.unserved else page.shown (page_at m log None None (revision log) 0)) a
          → Pages m boot v (if not c then page.unserved else page.shown (page_at m log None None (revision log) 0)) b → a ≡ b
      by true x y = one_list boot v (page_at m log None None (revision log) 0) a b known (each_filter (λ e. m.whole e.h) (λ e. in_namespace None e.key && not (passed (bound_after None) e.key)) (snap m log (revision log)) whole) x y
      by false x y = x ∙ sym y

  -- ---- writes

  shown_alike : (boot code v u : ℕ) (h g : ObjectView) (n born : ℕ) (a b : Answer) → ShowsObject m boot code v h n born a → ShowsObject m boot code u g n born b → Alike a b
  shown_alike boot code v u h g n born (Ok r) (Ok t) p q = tt
  shown_alike boot code v u h g n born (Ok r) (Err e) p q = absurd q
  shown_alike boot code v u h g n born (Err e) b p q = absurd p

  wrote_alike : (boot code v : ℕ) (name : List ℕ) (h g : ObjectView) (end : WriteEnd) (a b : Answer) → Wrote m boot code v name h end a → Wrote m boot code v name g end b → Alike a b
  wrote_alike boot code v name h g (done n born) a b p q = shown_alike boot code v v h g n born a b p q
  wrote_alike boot code v name h g (kept n born) a b p q = shown_alike boot code_ok v v h g n born a b p q
  wrote_alike boot code v name h g (same n born) a b p q = shown_alike boot code_ok v v h g n born a b p q
  wrote_alike boot code v name h g unserved a b p q = same_alike a b (p ∙ sym q)
  wrote_alike boot code v name h g present a b p q = same_alike a b (p ∙ sym q)
  wrote_alike boot code v name h g gone a b p q = same_alike a b (p ∙ sym q)
  wrote_alike boot code v name h g (newer n) a b p q = same_alike a b (p ∙ sym q)
  wrote_alike boot code v name h g forbidden a b p q = same_alike a b (p ∙ sym q)
  wrote_alike boot code v name h g (storage_moved now) a b p q = absurd p
  wrote_alike boot code v name h g (full room) a b p q = same_alike a b (p ∙ sym q)

  one_weight : (h : ObjectView) (w x : ℕ) → Weighs m h w → Weighs m h x → w ≡ x
  one_weight h w x p q =
      let (v, y, known, pairs, is) = p.met in
      let (u, z, knows, paired, at) = q.met in
      let below : w ≤ x = subst (λ (n : ℕ). n ≤ x) is (q.within v y known pairs) in
      let above : x ≤ w = subst (λ (n : ℕ). n ≤ w) at (p.within u z knows paired) in
      omega (arith, below, above)

  pub create_one : (limits : Limits) (boot n : ℕ) (s : State) (r : Request) (stamp : List ℕ) (a b : Answer) (i j : Option Item)
      → CreateReply m limits boot n s r stamp a i → CreateReply m limits boot n s r stamp b j → Alike a b × (i ≡ j)
  create_one limits boot n s r stamp a b i j p q =
      on_test (served s.flags r.version) p q
      (λ x y. elim x [
        | inl f ↦ elim y [
          | inl g ↦ (refused_alike a b (fault_refusal m f.0) (fault_refusal m g.0) f.2 g.2 (fault_missed m f.0 ∙ sym (fault_missed m g.0)), f.3 ∙ sym g.3)
          | inr h ↦ absurd (laws.decides.excludes r h.0 h.1 f.0 h.3 f.1)
        ]
        | inr g ↦ elim y [
          | inl f ↦ absurd (laws.decides.excludes r g.0 g.1 f.0 g.3 f.1)
          | inr h ↦
              let value : h.0 ≡ g.0 = (laws.decides.one r h.0 g.0 h.1 g.1 h.3 g.3).0 in
              let weight : h.2 ≡ g.2 = one_weight g.0 h.2 g.2 (subst (λ (x : ObjectView). Weighs m x h.2) value (h.4 laws.honest)) (g.4 laws.honest) in
              let other = subst (λ (w : ℕ). Creates m limits boot n s r.version (created_value stamp g.0) w b j) weight
              (subst (λ (x : ObjectView). Creates m limits boot n s r.version (created_value stamp x) h.2 b j) value h.5) in
              (wrote_alike boot code_created r.version _ _ _ _ a b g.5.0 other.0, g.5.1 ∙ sym other.1)
        ]
      ])
      (λ x y. (same_alike a b (x.0 ∙ sym y.0), x.1 ∙ sym y.1))

  one_update : (old new h g : ObjectView) → IsUpdate old new h → IsUpdate old new g → h ≡ g
  one_update old new h g p q = p.2 ∙ ap (λ (b : Bool). updated_value b old new) (one_bool (new.body ≡ old.body) p.0 q.0 p.1 q.1) ∙ sym q.2

  module _ (limits : Limits) (n : ℕ) (s : State) (k : KeyView) (w : ℕ) (e : Stored) (new : ObjectView) where
    updates_one : (old h g : ObjectView) (x y : Bool) → IsUpdate old new h → IsUpdate old new g → (IsTrue x ↔ (h ≡ old)) → (IsTrue y ↔ (g ≡ old))
        → replaced limits n s k old h w x e ≡ replaced limits n s k old g w y e
    updates_one old h g x y p q hx gy =
        let update = one_update old new h g p q in
        let equal = one_bool (h ≡ old) x y hx (subst (λ (u : ObjectView). IsTrue y ↔ (u ≡ old)) (sym update) gy) in
        ap (λ (u : ObjectView). replaced limits n s k old u w x e) update ∙ ap (λ (b : Bool). replaced limits n s k old g w b e) equal

    replaces_one : (h g : ObjectView) (d c : Decision WriteEnd) → Replaces m limits n s k new w e h d → Replaces m limits n s k new w e g c → d ≡ c
    replaces_one h g d c p q =
        let old : q.0 ≡ p.0 = q.2 laws.honest ∙ sym (p.2 laws.honest) in
        p.5
        ∙ updates_one p.0 h g p.1 q.1 p.3 (subst (λ (o : ObjectView). IsUpdate o new g) old q.3) p.4 (subst (λ (o : ObjectView). IsTrue q.1 ↔ (g ≡ o)) old q.4)
        ∙ ap (λ (o : ObjectView). replaced limits n s k o g w q.1 e) (sym old) ∙ sym q.5

  replacement_one : (limits : Limits) (n : ℕ) (s : State) (v : ℕ) (k : KeyView) (over : ℕ) (new : ObjectView) (w : ℕ) (h g : ObjectView) (d c : Decision WriteEnd)
      → ReplaceDecision m limits n s v k over new w h d → ReplaceDecision m limits n s v k over new w g c → d ≡ c
  replacement_one limits n s v k over new w h g d c p q =
      on_test (served s.flags v) p q
      (λ x y. on_found (find k s.objects) x y (λ x y. x ∙ sym y)
      (λ e is x y. on_test (nat_eq e.number over) x y (λ x y. replaces_one limits n s k w e new h g d c x y) (λ x y. x ∙ sym y)))
      (λ x y. x ∙ sym y)

  pub replace_one : (limits : Limits) (boot n : ℕ) (s : State) (r : Request) (k : KeyView) (a b : Answer) (i j : Option Item)
      → ReplaceReply m limits boot n s r k a i → ReplaceReply m limits boot n s r k b j → Alike a b × (i ≡ j)
  replace_one limits boot n s r k a b i j p q =
      on_test (served s.flags r.version) p q
      (λ x y. elim x [
        | inl f ↦ elim y [
          | inl g ↦ (refused_alike a b (fault_refusal m f.0) (fault_refusal m g.0) f.2 g.2 (fault_missed m f.0 ∙ sym (fault_missed m g.0)), f.3 ∙ sym g.3)
          | inr h ↦ absurd (laws.decides.excludes r h.0 (Some h.1) f.0 h.5 f.1)
        ]
        | inr g ↦ elim y [
          | inl f ↦ absurd (laws.decides.excludes r g.0 (Some g.1) f.0 g.5 f.1)
          | inr h ↦
              let admitted = laws.decides.one r h.0 g.0 (Some h.1) (Some g.1) h.5 g.5 in
              let value : h.0 ≡ g.0 = admitted.0 in
              let over : h.1 ≡ g.1 = (let numbers : Some h.1 ≡ Some g.1 = admitted.1 in cc) in
              let weight : h.2 ≡ g.2 = one_weight g.0 h.2 g.2 (subst (λ (x : ObjectView). Weighs m x h.2) value (h.6 laws.honest)) (g.6 laws.honest) in
              let other = subst (λ (w : ℕ). ReplaceDecision m limits n s r.version k g.1 g.0 w h.3 h.4) weight
              (subst (λ (o : ℕ). ReplaceDecision m limits n s r.version k o g.0 h.2 h.3 h.4) over
              (subst (λ (x : ObjectView). ReplaceDecision m limits n s r.version k h.1 x h.2 h.3 h.4) value h.7)) in
              let decision : h.4 ≡ g.4 = replacement_one limits n s r.version k g.1 g.0 g.2 h.3 g.3 h.4 g.4 other g.7 in
              let wrote = subst (λ (d : Decision WriteEnd). Wrote m boot code_ok r.version k.name h.3 d.answer b) decision h.8 in
              (wrote_alike boot code_ok r.version k.name g.3 h.3 g.4.answer a b g.8 wrote, g.9 ∙ ap (λ (d : Decision WriteEnd). d.item) (sym decision) ∙ sym h.9)
        ]
      ])
      (λ x y. (same_alike a b (x.0 ∙ sym y.0), x.1 ∙ sym y.1))

  removal_one : (n : ℕ) (s : State) (v : ℕ) (k : KeyView) (stamp : List ℕ) (old other : ObjectView) (d c : Decision WriteEnd)
      → DeleteDecision m n s v k stamp old d → DeleteDecision m n s v k stamp other c → d ≡ c
  removal_one n s v k stamp old other d c p q =
      on_test (served s.flags v) p q
      (λ x y. on_found (find k s.objects) x y (λ x y. x ∙ sym y)
      (λ e is x y. x.1 ∙ ap (λ (o : ObjectView). removed n k o stamp e) (x.0 laws.honest ∙ sym (y.0 laws.honest)) ∙ sym y.1))
      (λ x y. x ∙ sym y)

  deleted_alike : (boot v : ℕ) (k : KeyView) (h g : ObjectView) (end : WriteEnd) (a b : Answer) → Deleted m boot v k h end a → Deleted m boot v k g end b → Alike a b
  deleted_alike boot v k h g (done n born) a b p q = same_alike a b (p ∙ sym q)
  deleted_alike boot v k h g (kept n born) a b p q = wrote_alike boot code_ok v k.name h g (kept n born) a b p q
  deleted_alike boot v k h g (same n born) a b p q = wrote_alike boot code_ok v k.name h g (same n born) a b p q
  deleted_alike boot v k h g unserved a b p q = wrote_alike boot code_ok v k.name h g unserved a b p q
  deleted_alike boot v k h g present a b p q = wrote_alike boot code_ok v k.name h g present a b p q
  deleted_alike boot v k h g gone a b p q = wrote_alike boot code_ok v k.name h g gone a b p q
  deleted_alike boot v k h g (newer n) a b p q = wrote_alike boot code_ok v k.name h g (newer n) a b p q
  deleted_alike boot v k h g forbidden a b p q = wrote_alike boot code_ok v k.name h g forbidden a b p q
  deleted_alike boot v k h g (storage_moved now) a b p q = absurd p
  deleted_alike boot v k h g (full room) a b p q = wrote_alike boot code_ok v k.name h g (full room) a b p q

  -- a delete without options
  pub delete_one : (boot n : ℕ) (s : State) (v : ℕ) (k : KeyView) (stamp : List ℕ) (a b : Answer) (i j : Option Item)
      → DeleteReply m boot n s v [] k stamp a i → DeleteReply m boot n s v [] k stamp b j → Alike a b × (i ≡ j)
  delete_one boot n s v k stamp a b i j p q =
      on_test (served s.flags v) p q
      (λ x y. elim x [
        | inr x ↦ absurd (x.0 (inl refl))
        | inl x ↦ elim y [
          | inr y ↦ absurd (y.0 (inl refl))
          | inl y ↦
              let decision : y.1.1 ≡ x.1.1 = removal_one n s v k stamp y.1.0 x.1.0 y.1.1 x.1.1 y.1.2 x.1.2 in
              let deleted = subst (λ (d : Decision WriteEnd). Deleted m boot v k (kept_value stamp y.1.0) d.answer b) decision y.1.3 in
              (deleted_alike boot v k (kept_value stamp x.1.0) (kept_value stamp y.1.0) x.1.1.answer a b x.1.3 deleted, x.1.4 ∙ ap (λ (d : Decision WriteEnd). d.item) (sym decision) ∙ sym y.1.4)
        ]
      ])
      (λ x y. (same_alike a b (x.0 ∙ sym y.0), x.1 ∙ sym y.1))

  -- ---- settings and migrations

  pub set_one : (s : State) (body : List ℕ) (a b : Answer) (i j : Option Item) → SetReply m s body a i → SetReply m s body b j → Alike a b × (i ≡ j)
  set_one s body a b i j (inl f) (inl g) =
      (refused_alike a b (body_refusal (definition_subject m) f.0) (body_refusal (definition_subject m) g.0) f.2 g.2 (body_missed (definition_subject m) f.0 ∙ sym (body_missed (definition_subject m) g.0)), f.3 ∙ sym g.3)
  set_one s body a b i j (inl f) (inr h) = absurd (laws.flags.excludes body h.0 f.0 h.1 f.1)
  set_one s body a b i j (inr g) (inl f) = absurd (laws.flags.excludes body g.0 f.0 g.1 f.1)
  set_one s body a b i j (inr g) (inr h) =
      let flags = laws.flags.one body g.0 h.0 g.1 h.1 in
      (same_alike a b (g.2 ∙ ap (λ (f : Flags). set_answer m f (set_decision s f).answer) flags ∙ sym h.2), g.3 ∙ ap (λ (f : Flags). (set_decision s f).item) flags ∙ sym h.3)

  pub start_one : (limits : Limits) (s : State) (body : List ℕ) (a b : Answer) (i j : Option Item) → StartReply m limits s body a i → StartReply m limits s body b j → Alike a b × (i ≡ j)
  start_one limits s body a b i j (inl f) (inl g) =
      (refused_alike a b (start_refusal f.0) (start_refusal g.0) f.2 g.2 (start_missed f.0 ∙ sym (start_missed g.0)), f.3 ∙ sym g.3)
  start_one limits s body a b i j (inl f) (inr h) = absurd (laws.never_both body h.0 f.0 h.1 f.1)
  start_one limits s body a b i j (inr g) (inl f) = absurd (laws.never_both body g.0 f.0 g.1 f.1)
  start_one limits s body a b i j (inr g) (inr h) =
      let name = laws.starts body g.0 h.0 g.1 h.1 in
      (same_alike a b (g.2 ∙ ap (λ (k : List ℕ). start_answer m k (start_decision limits s k).answer) name ∙ sym h.2), g.3 ∙ ap (λ (k : List ℕ). (start_decision limits s k).item) name ∙ sym h.3)
