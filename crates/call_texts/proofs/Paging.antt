-- What a page shows: item by item, and the whole.
use Rattle.std.proofs.Common.{◌≡◌, ℕ, zero, suc, ◌+◌, ◌-◌, ◌<◌, ◌≤◌, List, [], ◌∷◌, ◌++◌, length, map, take, get_or, Option, None, Some, Ok, Err, Bool, true, false, ap, sym, subst, refl, ◌∙◌, arith, append_assoc}
use Rattle.std.proofs.lemmas.List.{append-nil}
use Rattle.std.proofs.lemmas.Bool.Decides.{nat_tests}
use Rattle.std.specs.Prelude.{IsTrue, codes, pos, slice_get, nat_eq, if◌then◌else◌, decimal}
use Rattle.kj_value.specs.Characters.{comma}
use Rattle.kj_value.specs.Json.{Json, items_of, members_of, list, object, text, whole}
use Rattle.kj_value.specs.Text.{text_of, items_text, more_items, quoted}
use Rattle.kube_meta.specs.Document.{document, optional}
use Rattle.kube_meta.specs.Key.{KeyView}
use Rattle.kube_meta.specs.Page.{Page as PageOf}
use Rattle.kube_meta.specs.View.{ObjectView}
use Rattle.kube_meta.specs.WindowPairs.{AllPair}
use Rattle.api_calls.specs.Documents.{numbered, object_list, group_version}
use Rattle.api_calls.specs.Legal.{Each}
use Rattle.api_calls.specs.Meaning.{Meaning}
use Rattle.api_calls.specs.Objects.{Stored}
use Rattle.api_calls.specs.Cause.{bad_token}
use Rattle.api_calls.specs.Pages as page
use Rattle.api_calls.specs.Pages.{PageEnd}
use Rattle.api_calls.specs.Refusal as refusal
use Rattle.api_calls.specs.Replies.{AreShown, IsShown, Pages, last_token, next_token}
use Rattle.api_calls.specs.Reply.{ReplyView}
use Rattle.api_calls.specs.Token.{token_text}
use Rattle.api_calls.specs.Versions.{IsStored}
use Rattle.api_core.specs.Keeps.{KeepsObject}
use Rattle.api_core.specs.Pages.{KeepsPage, RefusesPage, ShowsPage}
use Rattle.api_core.specs.Prepared.{seen_item}
use Rattle.api_core.specs.declared.page_ends.Page.{Page}
use Rattle.api_core.specs.declared.page_ends.PageFault.{PageFault}
use Rattle.api_core.specs.declared.page_ends.PageFault.TheVariants as fault
use Rattle.api_core.specs.declared.seen.Seen.{Seen}
use Rattle.call_texts.specs.Told.{Came}
use Rattle.call_texts.specs.Faults.{not_listed}
use Rattle.call_texts.specs.Listing.{AddsItems, AreSeenShown, ShowsSeen, last_place, place_behind}
use Rattle.call_texts.specs.PageTexts.{Adds, comma_before, left_text, list_back, list_front, before_version, before_items, before_list_kind, before_continue, before_left, before_revision, two_ends}
use Rattle.call_texts.proofs.Pieces.{known, onward}

-- ---- one item

pub shown_item : (m : Meaning) (boot v : ℕ) (s : Seen) (g : ObjectView) (bytes : List ℕ)
    → ((h : ObjectView) → IsStored m s.at h s.bytes.bytes → IsTrue m.honest → g ≡ h) → IsShown m boot v g s.rv s.born bytes
    → (j : Json) × ShowsSeen m boot v s j × (bytes ≡ text_of j)
shown_item m boot v s g bytes same shown = (
  document (numbered boot s.rv s.born shown.0),
  record {
    form = shown.0;
    pairs = λ h is honest. subst (λ (o : ObjectView). m.pair v o shown.0) (same h is honest) (shown.1 honest);
    shows = refl;
  },
  shown.2,
)

-- ---- item by item

shown-length : (m : Meaning) (boot v : ℕ) (ss : List Seen) (js : List Json) → AreSeenShown m boot v ss js → length js ≡ length ss
shown-length m boot v [] [] h = refl
shown-length m boot v (s ∷ ss) (j ∷ js) h = let more = shown-length m boot v ss js h.1 in omega (arith, more)
shown-length m boot v [] (j ∷ js) h = absurd h
shown-length m boot v (s ∷ ss) [] h = absurd h

shown-push : (m : Meaning) (boot v : ℕ) (ss : List Seen) (js : List Json) (s : Seen) (j : Json) → AreSeenShown m boot v ss js → ShowsSeen m boot v s j
    → AreSeenShown m boot v (ss ++ s ∷ []) (js ++ j ∷ [])
shown-push m boot v [] [] s j h one = (one, tt)
shown-push m boot v (t ∷ ss) (k ∷ js) s j h one = (h.0, shown-push m boot v ss js s j h.1 one)
shown-push m boot v [] (k ∷ js) s j h one = absurd h
shown-push m boot v (t ∷ ss) [] s j h one = absurd h

more-push : (js : List Json) (j : Json) → more_items (items_of (js ++ j ∷ [])) ≡ more_items (items_of js) ++ comma ∷ text_of j
more-push [] j = ap (λ (t : List ℕ). comma ∷ t) (append-nil (text_of j))
more-push (k ∷ js) j =
    ap (λ (t : List ℕ). comma ∷ (text_of k ++ t)) (more-push js j)
    ∙ ap (λ (t : List ℕ). comma ∷ t) (sym (append_assoc (text_of k) (more_items (items_of js)) (comma ∷ text_of j)))

items-push : (js : List Json) (j : Json) → items_text (items_of (js ++ j ∷ [])) ≡ items_text (items_of js) ++ (comma_before (length js) ++ text_of j)
items-push [] j = append-nil (text_of j)
items-push (k ∷ js) j =
    ap (λ (t : List ℕ). text_of k ++ t) (more-push js j) ∙ sym (append_assoc (text_of k) (more_items (items_of js)) (comma ∷ text_of j))

take-next : {X : Type 0} (i : ℕ) (xs : List X) (x : X) → slice_get xs i ≡ Some x → take (i + 1) xs ≡ take i xs ++ x ∷ []
take-next i [] x is = absurd (cc)
take-next {X} zero (y ∷ ys) x is = let same : y ≡ x = cc in ap (λ (z : X). z ∷ []) same
take-next {X} (suc i) (y ∷ ys) x is =
    let e : suc i + 1 ≡ suc (i + 1) = omega arith in
    ap (λ (n : ℕ). take n (y ∷ ys)) e ∙ ap (λ (zs : List X). y ∷ zs) (take-next i ys x is)

-- a text that showed the first items shows one more
pub added-item : (m : Meaning) (boot v i : ℕ) (before now after : List ℕ) (ss : List Seen) (s : Seen) (j : Json)
    → i < length ss → slice_get ss i ≡ Some s → AddsItems m boot v before (take i ss) now → ShowsSeen m boot v s j → Adds now (comma_before i ++ text_of j) after
    → AddsItems m boot v before (take (i + 1) ss) after
added-item m boot v i before now after ss s j short is so_far shows adds = record {
  documents = so_far.documents ++ j ∷ [];
  shown = subst (λ (xs : List Seen). AreSeenShown m boot v xs (so_far.documents ++ j ∷ [])) (sym (take-next i ss s is))
      (shown-push m boot v (take i ss) so_far.documents s j so_far.shown shows);
  text = known (items_text (items_of (so_far.documents ++ j ∷ []))) (sym (items-push so_far.documents j ∙ place)) (onward so_far.text adds);
}
  where
    counted : (i : ℕ) (xs : List Seen) → i < length xs → length (take i xs) ≡ i
    counted zero xs h = refl
    counted (suc i) [] h = absurd (omega (arith, h))
    counted (suc i) (x ∷ xs) h = let more = counted i xs (omega (arith, h)) in omega (arith, more)

    place : items_text (items_of so_far.documents) ++ (comma_before (length so_far.documents) ++ text_of j) ≡ items_text (items_of so_far.documents) ++ (comma_before i ++ text_of j)
    place = ap (λ (n : ℕ). items_text (items_of so_far.documents) ++ (comma_before n ++ text_of j)) (shown-length m boot v (take i ss) so_far.documents so_far.shown ∙ counted i ss short)

-- all of a list
pub take-all : {X : Type 0} (i : ℕ) (xs : List X) → length xs ≤ i → take i xs ≡ xs
take-all zero [] h = refl
take-all zero (x ∷ xs) h = absurd (omega (arith, h))
take-all (suc i) [] h = refl
take-all {X} (suc i) (x ∷ xs) h = ap (λ (ys : List X). x ∷ ys) (take-all i xs (omega (arith, h)))

-- the element that was found at an index
pub got-at : {X : Type 0} (xs : List X) (i : ℕ) (x : X) → i < length xs → x ≡ get_or xs i x → slice_get xs i ≡ Some x
got-at [] i x h is = absurd (omega (arith, h))
got-at {X} (y ∷ ys) zero x h is = ap (λ (z : X). Some z) (sym is)
got-at (y ∷ ys) (suc i) x h is = got-at ys i x (omega (arith, h)) is

pub each-at : {X : Type 0} (P : X → Type 0) (i : ℕ) (xs : List X) (x : X) → slice_get xs i ≡ Some x → Each P xs → P x
each-at P i [] x is h = absurd (cc)
each-at P zero (y ∷ ys) x is h = let same : y ≡ x = cc in subst P same h.0
each-at P (suc i) (y ∷ ys) x is h = each-at P i ys x is h.1

-- ---- the whole text

-- the list, where what is left is told so
abbrev list_with : Meaning → ℕ → List Json → List ℕ → ℕ → Option Json → Json
list_with m v js token number left = object (members_of (
    (codes "apiVersion", text (group_version m v))
    ∷ (codes "items", list (items_of js))
    ∷ (codes "kind", text m.list_kind)
    ∷ (codes "metadata", object (members_of ((codes "continue", text token) ∷ optional (codes "remainingItemCount") left ++ (codes "resourceVersion", text (decimal number)) ∷ [])))
    ∷ []))

-- its text, where what is left is the text x
abbrev text_with : Meaning → ℕ → List Json → List ℕ → ℕ → List ℕ → List ℕ
text_with m v js token number x =
    codes "{\"apiVersion\":" ++ ((quoted (group_version m v) ++ (codes ",\"items\":[" ++ ((items_text (items_of js) ++ codes "]") ++ (codes ",\"kind\":" ++ (quoted m.list_kind
    ++ (codes ",\"metadata\":{\"continue\":" ++ (((quoted token ++ (x ++ (codes ",\"resourceVersion\":" ++ (quoted (decimal number) ++ [])))) ++ codes "}") ++ []))))))) ++ codes "}")

by_left : (m : Meaning) (v : ℕ) (js : List Json) (token : List ℕ) (number left : ℕ) (b : Bool)
    → text_of (list_with m v js token number (if b then None else Some (whole (pos left)))) ≡ text_with m v js token number (if b then [] else before_left ++ decimal left)
unfolding before_left
by_left m v js token number left true = refl
by_left m v js token number left false = refl

laid_out : (m : Meaning) (v : ℕ) (js : List Json) (token : List ℕ) (number left : ℕ)
    → text_of (object_list m v js token number left) ≡ text_with m v js token number (left_text left)
unfolding object_list
laid_out m v js token number left = by_left m v js token number left (nat_eq left 0)

arranged : (a g b i z c k d t x e n w : List ℕ)
    → a ++ ((g ++ (b ++ ((i ++ z) ++ (c ++ (k ++ (d ++ (((t ++ (x ++ (e ++ (n ++ [])))) ++ w) ++ []))))))) ++ w)
    ≡ (a ++ (g ++ b)) ++ (i ++ ((z ++ c) ++ (k ++ (d ++ (t ++ (x ++ (e ++ (n ++ (w ++ w)))))))))
arranged a g b i z c k d t x e n w = simp (append_assoc, append-nil)

-- the text of a list, in pieces
pub text_of-list : (m : Meaning) (v : ℕ) (js : List Json) (token : List ℕ) (number left : ℕ)
    → text_of (object_list m v js token number left) ≡ list_front m v ++ (items_text (items_of js) ++ list_back m token number left)
unfolding before_version before_items before_list_kind before_continue before_revision two_ends
text_of-list m v js token number left =
    laid_out m v js token number left
    ∙ arranged (codes "{\"apiVersion\":") (quoted (group_version m v)) (codes ",\"items\":[") (items_text (items_of js)) (codes "]") (codes ",\"kind\":") (quoted m.list_kind)
    (codes ",\"metadata\":{\"continue\":") (quoted token) (left_text left) (codes ",\"resourceVersion\":") (quoted (decimal number)) (codes "}")

-- ---- the token

place-at : (number n : ℕ) (ss : List Seen) (s : Seen) → length ss ≡ suc n → slice_get ss n ≡ Some s → last_place number (map (λ (x : Seen). x.key) ss) ≡ token_text number s.key
place-at number n [] s l is = absurd (cc)
place-at number zero (x ∷ []) s l is = let same : x ≡ s = cc in ap (λ (y : Seen). token_text number y.key) same
place-at number (suc n) (x ∷ []) s l is = absurd (omega (arith, l))
place-at number zero (x ∷ y ∷ ss) s l is = absurd (omega (arith, l))
place-at number (suc n) (x ∷ y ∷ ss) s l is = place-at number n (y ∷ ss) s (omega (arith, l)) is

before-last : {X : Type 0} (x : X) (xs : List X) (o : Option X) → slice_get (x ∷ xs) (length (x ∷ xs) - 1) ≡ o → slice_get (x ∷ xs) (length xs) ≡ o
before-last x xs o is = let e : length (x ∷ xs) - 1 ≡ length xs = omega arith in subst (λ (n : ℕ). slice_get (x ∷ xs) n ≡ o) e is

-- the place behind a page whose last object is this one
pub place-last : (number : ℕ) (ss : List Seen) (s : Seen) → slice_get ss (length ss - 1) ≡ Some s → last_place number (map (λ (x : Seen). x.key) ss) ≡ token_text number s.key
place-last number [] s is = absurd (cc)
place-last number (x ∷ ss) s is = place-at number (length ss) (x ∷ ss) s refl (before-last x ss (Some s) is)

-- and where it has none
pub place-none : (number : ℕ) (ss : List Seen) → slice_get ss (length ss - 1) ≡ None → last_place number (map (λ (x : Seen). x.key) ss) ≡ []
place-none number [] is = refl
place-none number (x ∷ ss) is = absurd (never x ss (before-last x ss None is))
  where
    never : (x : Seen) (ss : List Seen) → slice_get (x ∷ ss) (length ss) ≡ None → ⊥
    never x [] h = cc
    never x (y ∷ ss) h = never y ss h

-- a page behind which something is left
pub place-behind-some : (p : Page) → (p.remaining ≡ 0 → ⊥) → place_behind p ≡ last_place p.rv (map (λ (x : Seen). x.key) p.items)
place-behind-some p h = by (nat_eq p.remaining 0) refl
  where
    by : (b : Bool) → nat_eq p.remaining 0 ≡ b → (if b then [] else last_place p.rv (map (λ (x : Seen). x.key) p.items)) ≡ last_place p.rv (map (λ (x : Seen). x.key) p.items)
    by true is = absurd (h (grind (arith, nat_tests)))
    by false is = refl

last-keeps : (m : Meaning) (number : ℕ) (ss : List Seen) (es : List Stored) → AllPair (KeepsObject m) (map seen_item ss) es
    → last_place number (map (λ (x : Seen). x.key) ss) ≡ last_token number es
last-keeps m number [] [] h = refl
last-keeps m number (s ∷ []) (e ∷ []) h = ap (λ (k : KeyView). token_text number k) h.0.key
last-keeps m number (s ∷ t ∷ ss) (e ∷ f ∷ es) h = last-keeps m number (t ∷ ss) (f ∷ es) h.1
last-keeps m number [] (e ∷ es) h = absurd h
last-keeps m number (s ∷ ss) [] h = absurd h
last-keeps m number (s ∷ []) (e ∷ f ∷ es) h = absurd h.1
last-keeps m number (s ∷ t ∷ ss) (e ∷ []) h = absurd h.1

-- ---- a page of the history

-- documents that show what is seen show the objects
pub shown-keeps : (m : Meaning) (boot v : ℕ) (ss : List Seen) (es : List Stored) (js : List Json) → AllPair (KeepsObject m) (map seen_item ss) es → AreSeenShown m boot v ss js
    → AreShown m boot v es js
shown-keeps m boot v [] [] [] h shown = tt
shown-keeps m boot v (s ∷ ss) (e ∷ es) (j ∷ js) h shown = ((x, pairs, named), shown-keeps m boot v ss es js h.1 shown.1)
  where
    x : ObjectView
    x = shown.0.form

    keeps : KeepsObject m (seen_item s) e
    keeps = h.0

    pairs : IsTrue m.honest → m.pair v e.h x
    pairs honest =
        subst (λ (o : ObjectView). m.pair v o x) (keeps.text.same honest)
        (shown.0.pairs keeps.text.value (subst (λ (a : ℕ). IsStored m a keeps.text.value s.bytes.bytes) (sym keeps.at) keeps.text.stored) honest)

    named : j ≡ document (numbered boot e.number e.born x)
    named = shown.0.shows ∙ (λ i. document (numbered boot (keeps.number i) (keeps.born i) x))
shown-keeps m boot v [] [] (j ∷ js) h shown = absurd shown
shown-keeps m boot v (s ∷ ss) (e ∷ es) [] h shown = absurd shown
shown-keeps m boot v [] (e ∷ es) js h shown = absurd h
shown-keeps m boot v (s ∷ ss) [] js h shown = absurd h

pub next-place : (m : Meaning) (p : Page) (q : PageOf Stored) → KeepsPage m p q → place_behind p ≡ next_token q
next-place m p q keeps =
    (λ i. if nat_eq (keeps.remaining i) 0 then [] else last_place (keeps.number i) (map (λ (x : Seen). x.key) p.items))
    ∙ ap (λ (t : List ℕ). if nat_eq q.remaining 0 then [] else t) (last-keeps m q.number p.items q.items keeps.records)

-- the pieces of a page, put together
pub page-shown : (m : Meaning) (boot v : ℕ) (seen : List Seen) (p : Page) (t0 t1 t2 t3 token : List ℕ) → seen ≡ p.items → t0 ≡ [] → token ≡ place_behind p
    → Adds t0 (list_front m v) t1 → AddsItems m boot v t1 seen t2 → Adds t2 (list_back m token p.rv p.remaining) t3
    → (js : List Json) × AreSeenShown m boot v p.items js × (t3 ≡ text_of (object_list m v js (place_behind p) p.rv p.remaining))
page-shown m boot v seen p t0 t1 t2 t3 token same begun behind front items back = (
  items.documents,
  subst (λ (ss : List Seen). AreSeenShown m boot v ss items.documents) same items.shown,
  (onward front (onward items.text back)).text
      ∙ (ap (λ (t : List ℕ). t ++ (list_front m v ++ (items_text (items_of items.documents) ++ list_back m token p.rv p.remaining))) begun
      ∙ (sym (text_of-list m v items.documents token p.rv p.remaining)
      ∙ ap (λ (t : List ℕ). text_of (object_list m v items.documents t p.rv p.remaining)) behind)),
)

-- ---- the reply

-- the reply that shows a page
pub page-reply : (m : Meaning) (boot v : ℕ) (p : Page) (d : PageEnd) (r : ReplyView) → ShowsPage m p d → r.code ≡ 200
    → (js : List Json) × AreSeenShown m boot v p.items js × (r.text ≡ text_of (object_list m v js (place_behind p) p.rv p.remaining))
    → Pages m boot v d (Ok r)
page-reply m boot v p (page.shown q) r keeps code shown = (
  code,
  shown.0,
  shown-keeps m boot v p.items q.items shown.0 keeps.records shown.1,
  shown.2 ∙ (λ i. text_of (object_list m v shown.0 (next-place m p q keeps i) (keeps.number i) (keeps.remaining i))),
)
page-reply m boot v p page.unserved r keeps code shown = absurd keeps
page-reply m boot v p (page.ahead n) r keeps code shown = absurd keeps
page-reply m boot v p (page.expired n) r keeps code shown = absurd keeps
page-reply m boot v p page.no_memory r keeps code shown = absurd keeps

-- the refusal of a page
pub page-refused : (m : Meaning) (boot v : ℕ) (rose : Type 0) (f : PageFault) (d : PageEnd) → RefusesPage f d
    → Came rose (λ a i. (i ≡ None) × Pages m boot v d a) (Err (not_listed f)) None
page-refused m boot v rose fault.Unserved d is = (refl, subst (λ (e : PageEnd). Pages m boot v e (Err refusal.no_resource)) (sym is) refl)
page-refused m boot v rose (fault.Ahead n) d is = (refl, subst (λ (e : PageEnd). Pages m boot v e (Err (refusal.bad_request bad_token))) (sym is) refl)
page-refused m boot v rose (fault.Expired n) d is = (refl, subst (λ (e : PageEnd). Pages m boot v e (Err (refusal.expired n))) (sym is) refl)
page-refused m boot v rose fault.NoMemory d is = refl
