-- The creates of a dump's lines lead to the objects that were dumped.
use Rattle.std.proofs.Common.{◌≡◌, ◌∙◌, refl, sym, ap, ap₂, subst, ℕ, ◌+◌, ◌<◌, ◌≤◌, List, [], ◌∷◌, ◌++◌, append_assoc, append-nil, Option, None, pos, arith}
use Rattle.std.specs.Prelude.{IsTrue, IsUtf8}
use Rattle.std.specs.declared.cmp.Ordering.TheVariants.{Less}
use Rattle.kj_value.specs.Json.{Json, depth}
use Rattle.kj_value.specs.Reading.{Reads}
use Rattle.kj_value.specs.Sound.{IsSoundJson}
use Rattle.kj_value.specs.Text.{text_of}
use Rattle.kj_value.specs.declared.reading.TheConstants.{MAX_JSON_LEVELS}
use Rattle.kube_meta.specs.Document.{document}
use Rattle.kube_meta.specs.Key.{KeyView, key_cmp}
use Rattle.kube_meta.specs.View.{ObjectView}
use Rattle.kube_meta.specs.declared.limits.Limits.{Limits}
use Rattle.api_calls.specs.Documents.{numbered}
use Rattle.api_calls.specs.Item.{Create, Item, entry}
use Rattle.api_calls.specs.Legal.{Each, legal}
use Rattle.api_calls.specs.LegalLists.{IsRising}
use Rattle.api_calls.specs.Meaning.{Meaning}
use Rattle.api_calls.specs.Objects.{Stored, put}
use Rattle.api_calls.specs.Replies.{AreShown}
use Rattle.api_calls.specs.State.{State, number_from, opening, state, state_from}
use Rattle.api_calls.specs.Values.{created_value}
use Rattle.api_calls.specs.Versions.{AreStamps, IgnoresStamps, IsOneToOne, KeepsKey, NamesDiffer, Stand, StandsAt}
use Rattle.api_calls.proofs.Order.{behind}
use Rattle.api_calls.proofs.Parts.{state_from-append}
use Rattle.api_calls.proofs.Sound.{sound-all}
use Rattle.http_routes.specs.Actions.{IsVersion}
use Rattle.place.specs.Place.{Names}
use Rattle.record_dump.specs.Lines.{dumped, ended, lines_of}
use Rattle.record_dump.specs.Restores.{Says, most_levels}
use Rattle.record_dump.specs.Told.{joined}
use Rattle.far_laws.proofs.PageForms.{OneReading, TextReads, json_key, key_of_document}
use Rattle.far_laws.proofs.Values.{IsKept, each_back, kept-all}
use Rattle.far_laws.specs.GivenBack.{GivesBack, IsLike, bare, unstamped}
use Rattle.far_laws.specs.Dumped.{AreAll}
use Rattle.far_laws.specs.Restored as restored
use Rattle.far_laws.specs.Restored.{AreCreated, AreSame, IsRestored, IsSame, IsStoredFor, key_of}
use Rattle.far_laws.proofs.Bare.{dumped_document}
use Rattle.far_laws.proofs.Lined.{first_line, some_line, text_in}

-- ---- creates one after the other

-- a create for each object, under its key, of its value but for stamps and generation
data AreCreates : List Stored → List Item → Type 0 where
  nothing : AreCreates [] []
  more : (e : Stored) (es : List Stored) (h : ObjectView) (w : ℕ) (items : List Item) → unstamped h ≡ unstamped e.h → AreCreates es items → AreCreates (e ∷ es) (entry (Create e.key h w) ∷ items)

same_append : (es fs : List Stored) (x y : Stored) → AreSame es fs → IsSame x y → AreSame (es ++ x ∷ []) (fs ++ y ∷ [])
same_append [] [] x y same one = (one, tt)
same_append (e ∷ es) (f ∷ fs) x y same one = (same.0, same_append es fs x y same.1 one)
same_append [] (f ∷ fs) x y same one = absurd same
same_append (e ∷ es) [] x y same one = absurd same

-- an object behind all
put_last : (x : Stored) (es fs : List Stored) → AreSame es fs → Each (λ e. key_cmp e.key x.key ≡ Less) es → put x fs ≡ fs ++ x ∷ []
put_last x [] [] same below = refl
put_last x (e ∷ es) (f ∷ fs) same below =
    let key : key_cmp f.key x.key ≡ Less = ap (λ (k : KeyView). key_cmp k x.key) same.0.key ∙ below.0 in
    let over = behind f.key x.key key in
    let rest = put_last x es fs same.1 below.1 in
    rw over (ap (λ (gs : List Stored). f ∷ gs) rest)
put_last x [] (f ∷ fs) same below = absurd same
put_last x (e ∷ es) [] same below = absurd same

below_it : (front es : List Stored) (e : Stored) → IsRising (front ++ e ∷ es) → Each (λ f. key_cmp f.key e.key ≡ Less) front
below_it [] es e rising = tt
below_it (f ∷ front) es e rising = ((each_back (λ g. key_cmp f.key g.key ≡ Less) front (e ∷ es) rising.0).0, below_it front es e rising.1)

added : (n : ℕ) (s : State) (front es : List Stored) (items : List Item) → AreCreates es items → AreSame front s.objects → IsRising (front ++ es) → AreSame (front ++ es) (state_from n s items).objects
added n s front _ _ nothing same rising = subst (λ (xs : List Stored). AreSame xs s.objects) (sym (append-nil front)) same
added n s front _ _ (more e es h w items value rest) same rising =
    let x : Stored = record { key = e.key; h = h; number = n; at = s.flags.storage; born = n; weight = w } in
    let last = put_last x front s.objects same (below_it front es e rising) in
    let now : State = record s { objects = put x s.objects } in
    let both : AreSame (front ++ e ∷ []) now.objects =
    subst (λ (xs : List Stored). AreSame (front ++ e ∷ []) xs) (sym last) (same_append front s.objects e x same (record { key = refl; value = value })) in
    subst (λ (xs : List Stored). AreSame xs (state_from (n + 1) now items).objects) (append_assoc front (e ∷ []) es)
    (added (n + 1) now (front ++ e ∷ []) es items rest both (subst (λ (xs : List Stored). IsRising xs) (sym (append_assoc front (e ∷ []) es)) rising))

-- ---- what a dump has of an object

plain : (x : ObjectView) → x.meta.resource_version ≡ None → x.meta.uid ≡ None → bare x ≡ unstamped x
plain x no_number no_uid =
    ap₂ (λ (number uid : Option (List ℕ)). record x { meta = record x.meta { created = None; deleted = None; generation = pos 0; resource_version = number; uid = uid } })
    (sym no_number) (sym no_uid)

no_stamps : AreStamps None None (pos 0)
no_stamps = record { created = tt; deleted = tt; generation = omega arith }

module _ (m : Meaning) (n : Names) (honest : IsTrue m.honest) (stand : Stand m) (keeps : KeepsKey m) (names : NamesDiffer m) (ignores : IgnoresStamps m) (text_reads : TextReads) (one_reading : OneReading) where
  -- the document without what a server sets anew
  record IsBare (boot v : ℕ) (e : Stored) (o : Json) : Type 0 where
    x : ObjectView
    pair : m.pair v e.h x
    is : dumped o ≡ document (bare x)
    sound : IsSoundJson (document (bare x))
    levels : depth (document (bare x)) ≤ MAX_JSON_LEVELS

  bare_of : (boot v : ℕ) (e : Stored) (o : Json) → v < m.count → IsKept m e → ((x : ObjectView) × (IsTrue m.honest → m.pair v e.h x) × (o ≡ document (numbered boot e.number e.born x)))
      → IsBare boot v e o
  bare_of boot v e o known kept shown =
      let x : ObjectView = shown.0 in
      let pair = shown.1 honest in
      let at : StandsAt m v x = stand.pair v e.h x known kept.whole pair in
      let value = ignores.whole e.h None None (pos 0) no_stamps kept.whole in
      let other : StandsAt m v (unstamped x) = stand.pair v (unstamped e.h) (unstamped x) known value (ignores.pair v e.h x None None (pos 0) pair) in
      let same = plain x at.no_number at.no_uid in
      let levels = other.levels in
      let same_depth : depth (document (bare x)) ≡ depth (document (unstamped x)) = ap (λ (y : ObjectView). depth (document y)) same in
      record {
        x = x;
        pair = pair;
        is = ap dumped shown.2 ∙ dumped_document (numbered boot e.number e.born x) at.body.metadata;
        sound = subst (λ (y : ObjectView). IsSoundJson (document y)) (sym same) other.sound;
        levels = omega (arith, same_depth, levels);
      }

  -- ---- one line

  module _ (gives : GivesBack m) where
    -- the create of its line is under its key, of its value
    record IsBack (e : Stored) (j : Json) (h : ObjectView) : Type 0 where
      key : json_key j ≡ e.key
      value : unstamped h ≡ unstamped e.h

    back_of : (boot v : ℕ) (e : Stored) (o : Json) (line : List ℕ) (j : Json) (h : ObjectView) → IsVersion m n.version v → IsKept m e → IsBare boot v e o → line ≡ text_of (dumped o) → Says n line j
        → IsStoredFor m n j h → IsBack e j h
    back_of boot v e o line j h version kept b line_is says stored =
        let doc : Json = document (bare b.x) in
        let read : Reads (text_of doc) most_levels j = subst (λ (bytes : List ℕ). Reads bytes most_levels j) (line_is ∙ ap text_of b.is) says.reads in
        let utf8 : IsUtf8 (text_of doc) = read.1.0 in
        let same : j ≡ doc = one_reading (text_of doc) most_levels (depth doc) j doc read (text_reads doc b.sound b.levels utf8) in
        let key : json_key j ≡ record { ns = b.x.meta.namespace; name = b.x.meta.name } = ap json_key same ∙ key_of_document (bare b.x) in
        let name = keeps.name v e.h b.x version.0 kept.whole b.pair in
        let namespace = keeps.namespace v e.h b.x version.0 kept.whole b.pair in
        let same_version : stored.v ≡ v = names.differ stored.v v stored.version.0 version.0 (stored.version.1 ∙ sym version.1) in
        let like : IsLike (bare b.x) b.x = record { same = refl; sound = b.sound; levels = b.levels; created = tt; deleted = tt } in
        let back = gives.gives v e.h stored.admitted b.x (bare b.x) (record { version = stored.v; ns = (key_of j).ns; name = None; bytes = text_of j }) stored.number
        version.0 kept.whole b.pair like same_version (ap (λ (k : KeyView). k.ns) key) (ap text_of same) stored.admits in
        record {
          key = key ∙ (λ i. record { ns = namespace i; name = name i }) ∙ kept.key;
          value = ap unstamped stored.value ∙ ap (λ (g : ObjectView). unstamped (created_value stored.stamp g)) back.0;
        }

    -- ---- all lines

    creates : (boot v : ℕ) (lines : List (List ℕ)) (items : List Item) (es : List Stored) (os : List Json) → IsVersion m n.version v → Each (IsKept m) es → AreShown m boot v es os → AreCreated m n lines items
        → joined lines ≡ lines_of os → AreCreates es items
    creates boot v _ _ [] [] version kept shown restored.none same = nothing
    creates boot v _ _ (e ∷ es) (o ∷ os) version kept shown restored.none same = absurd (some_line (text_of (dumped o)) (lines_of os) (sym same))
    creates boot v _ _ [] [] version kept shown (restored.line line lines j h w items fits says stored rest) same = absurd (some_line line (joined lines) same)
    creates boot v _ _ (e ∷ es) (o ∷ os) version kept shown (restored.line line lines j h w items fits says stored rest) same =
        let b = bare_of boot v e o version.0 kept.0 shown.0 in
        let text_is : text_of (document (bare b.x)) ≡ text_of (dumped o) = ap text_of (sym b.is) in
        let parts = first_line line (text_of (dumped o)) (joined lines) (lines_of os) fits.inside (text_in (dumped o) (subst (λ (q : Json). IsSoundJson q) (sym b.is) b.sound)) same in
        let back = back_of boot v e o line j h version kept.0 b parts.0 says stored in
        subst (λ (k : KeyView). AreCreates (e ∷ es) (entry (Create k h w) ∷ items)) (sym back.key)
        (more e es h w items back.value (creates boot v lines items es os version kept.1 shown.1 rest parts.1))
    creates boot v _ _ [] (o ∷ os) version kept shown created same = absurd shown
    creates boot v _ _ (e ∷ es) [] version kept shown created same = absurd shown

    pub returned : (limits : Limits) (boot : ℕ) (log : List Item) (objects : List Json) (written : List ℕ) → legal m limits log → AreAll (record { meaning = m; limits = limits; boot = boot }) n log objects
        → written ≡ lines_of objects → (first last : List Item) → (state m first).objects ≡ [] → IsRestored m n first last written → AreSame (state m log).objects (state m last).objects
    returned limits boot log objects written is_legal all wrote first last none r =
        let es : List Stored = (state m log).objects in
        let made = creates boot all.v r.lines r.items es objects all.version (kept-all m honest limits log is_legal) all.shown r.created (sym r.input ∙ wrote) in
        let begun : AreSame [] (state m first).objects = subst (λ (xs : List Stored). AreSame [] xs) (sym none) tt in
        let done : AreSame es (state_from (number_from 2 first) (state m first) r.items).objects =
        added (number_from 2 first) (state m first) [] es r.items made begun (sound-all m limits log is_legal).rising in
        subst (λ (q : State). AreSame es q.objects) (sym (ap (state m) r.entered ∙ state_from-append 2 (opening m) first r.items)) done

  -- ---- two servers with the same objects

  module _ (one : IsOneToOne m) where
    one_bare : (v : ℕ) (e f : Stored) (x y : ObjectView) → v < m.count → IsKept m e → IsSame e f → m.pair v e.h x → m.pair v f.h y → bare x ≡ bare y
    one_bare v e f x y known kept same p q =
        let whole = ignores.whole e.h None None (pos 0) no_stamps kept.whole in
        let first = ignores.pair v e.h x None None (pos 0) p in
        let second : m.pair v (unstamped e.h) (unstamped y) = subst (λ (g : ObjectView). m.pair v g (unstamped y)) same.value (ignores.pair v f.h y None None (pos 0) q) in
        ap bare (one.function v (unstamped e.h) (unstamped x) (unstamped y) known whole first second)

    one_text : (first second v : ℕ) (es fs : List Stored) (js ks : List Json) → v < m.count → Each (IsKept m) es → Each (IsKept m) fs → AreSame es fs → AreShown m first v es js → AreShown m second v fs ks
        → lines_of js ≡ lines_of ks
    one_text first second v [] [] [] [] known kept kept_too same shown shown_too = refl
    one_text first second v (e ∷ es) (f ∷ fs) (j ∷ js) (k ∷ ks) known kept kept_too same shown shown_too =
        let a = bare_of first v e j known kept.0 shown.0 in
        let b = bare_of second v f k known kept_too.0 shown_too.0 in
        let document_is : dumped j ≡ dumped k = a.is ∙ ap document (one_bare v e f a.x b.x known kept.0 same.0 a.pair b.pair) ∙ sym b.is in
        ap₂ (λ (d : Json) (rest : List ℕ). ended (text_of d) ++ rest) document_is (one_text first second v es fs js ks known kept.1 kept_too.1 same.1 shown.1 shown_too.1)
    one_text first second v [] [] (j ∷ js) ks known kept kept_too same shown shown_too = absurd shown
    one_text first second v [] [] [] (k ∷ ks) known kept kept_too same shown shown_too = absurd shown_too
    one_text first second v (e ∷ es) (f ∷ fs) [] ks known kept kept_too same shown shown_too = absurd shown
    one_text first second v (e ∷ es) (f ∷ fs) (j ∷ js) [] known kept kept_too same shown shown_too = absurd shown_too
    one_text first second v [] (f ∷ fs) js ks known kept kept_too same shown shown_too = absurd same
    one_text first second v (e ∷ es) [] js ks known kept kept_too same shown shown_too = absurd same

    pub alike : (limits more_limits : Limits) (boot start : ℕ) (log other : List Item) (js ks : List Json) → legal m limits log → legal m more_limits other → AreSame (state m log).objects (state m other).objects
        → AreAll (record { meaning = m; limits = limits; boot = boot }) n log js → AreAll (record { meaning = m; limits = more_limits; boot = start }) n other ks → lines_of js ≡ lines_of ks
    alike limits more_limits boot start log other js ks first second same a b =
        let version : b.v ≡ a.v = names.differ b.v a.v b.version.0 a.version.0 (b.version.1 ∙ sym a.version.1) in
        one_text boot start a.v (state m log).objects (state m other).objects js ks a.version.0 (kept-all m honest limits log first) (kept-all m honest more_limits other second) same a.shown
        (subst (λ (v : ℕ). AreShown m start v (state m other).objects ks) version b.shown)
