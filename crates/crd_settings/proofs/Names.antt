-- Names of stored versions: when they differ, and the versions that they name.
use Rattle.std.proofs.Common.{get_or, ◌≡◌, ℕ, zero, suc, ◌+◌, ◌<◌, ◌≤◌, List, [], ◌∷◌, ◌++◌, length, map, Bool, true, false, ◌&&◌, ◌||◌, not, cond, Option, Some, refl, ap, sym, subst, ◌∙◌, arith}
use Rattle.std.specs.Prelude.{nat_eq, codes}
use Rattle.std.specs.List.{IsDistinct, AllByRecursion, list_all, list_any, filter, range_with_len}
use Rattle.std.specs.Str.{bytes_eq}
use Rattle.std.proofs.lemmas.Bool.{false≢true}
use Rattle.std.proofs.lemmas.Bool.Decides.{nat_tests}
use Rattle.std.proofs.lemmas.List.Elements.{All-from_recursion}
use Rattle.kj_value.specs.Json.{Json, null, boolean, whole, text, list, object, Items, item, items_of}
use Rattle.kj_value.specs.Fields.{Pairs, field}
use Rattle.kj_value.specs.KindLaws.{pairs_members}
use Rattle.kj_value.specs.Seen.{json}
use Rattle.kj_value.specs.declared.value.JVal.{JVal}
use Rattle.kj_value.specs.declared.value.JVal.TheVariants.{Obj}
use Rattle.api_calls.specs.Bodies.{fields_in}
use Rattle.api_calls.specs.declared.flags.StoredList.{StoredList}
use Rattle.crd_reading.specs.View.{VersionView, DefinitionView}
use Rattle.crd_reading.specs.Seen.{version_of}
use Rattle.crd_reading.specs.Spelled.{text_in}
use Rattle.crd_reading.specs.declared.definition.Version.{Version}
use Rattle.crd_settings.specs.Flags.{version_in}
use Rattle.api_calls.specs.Versions.{AreVersions, IsStoredList, versions_of}
use Rattle.crd_settings.specs.Keeping.{AreNames, KeepsNamed, are_versions, places_named, stored_given, is_among, is_name_text, names_in, do_differ}

both : (a b : Bool) → (a && b) ≡ true → (a ≡ true) × (b ≡ true)
both true b h = (refl, h)
both false b h = absurd (false≢true h)

-- ---- texts

pub texts_are : (js : List Json) → list_all is_name_text js ≡ true → items_of js ≡ items_of (map text (names_in js))
texts_are [] h = refl
texts_are (null ∷ js) h = absurd (false≢true h)
texts_are (boolean b ∷ js) h = absurd (false≢true h)
texts_are (whole z ∷ js) h = absurd (false≢true h)
texts_are (text t ∷ js) h = ap (λ (is : Items). item (text t) is) (texts_are js h)
texts_are (list xs ∷ js) h = absurd (false≢true h)
texts_are (object ms ∷ js) h = absurd (false≢true h)

are_texts : (js : List Json) (ns : List (List ℕ)) → items_of js ≡ items_of (map text ns) → (list_all is_name_text js ≡ true) × (names_in js ≡ ns)
are_texts [] [] e = (refl, refl)
are_texts [] (n ∷ ns) e = absurd cc
are_texts (j ∷ js) [] e = absurd cc
are_texts (j ∷ js) (n ∷ ns) e =
    let first : j ≡ text n = cc in
    let rest : items_of js ≡ items_of (map text ns) = cc in
    let more = are_texts js ns rest in
    (rw first more.0, rw (first, more.1) refl)

same_items : (js : List Json) (ns : List (List ℕ)) → Some (list (items_of js)) ≡ Some (list (items_of (map text ns))) → items_of js ≡ items_of (map text ns)
same_items js ns e = cc

-- the names that a list is
pub names_are : (js : List Json) (ns : List (List ℕ)) → AreNames (Some (list (items_of js))) ns → (list_all is_name_text js ≡ true) × (names_in js ≡ ns)
names_are js ns h = are_texts js ns (same_items js ns h.texts)

-- ---- names that differ

others : (n : List ℕ) (ns : List (List ℕ)) → list_any (bytes_eq n) ns ≡ false → AllByRecursion (λ m. bytes_eq n m ≡ false) ns
others n [] h = tt
others n (m ∷ ns) h = by (bytes_eq n m) refl h (others n ns)
  where
    by : (b : Bool) → bytes_eq n m ≡ b → (b || list_any (bytes_eq n) ns) ≡ false → (list_any (bytes_eq n) ns ≡ false → AllByRecursion (λ m. bytes_eq n m ≡ false) ns)
        → (bytes_eq n m ≡ false) × AllByRecursion (λ m. bytes_eq n m ≡ false) ns
    by true is h more = absurd (false≢true (sym h))
    by false is h more = (is, more h)

none_among : (n : List ℕ) (ns : List (List ℕ)) → AllByRecursion (λ m. bytes_eq n m ≡ false) ns → list_any (bytes_eq n) ns ≡ false
none_among n [] h = refl
none_among n (m ∷ ns) h = rw (h.0) (none_among n ns h.1)

not_false : (b : Bool) → not b ≡ true → b ≡ false
not_false true h = absurd (false≢true h)
not_false false h = refl

pub distinct : (ns : List (List ℕ)) → do_differ ns ≡ true → IsDistinct bytes_eq ns
unfolding IsDistinct
distinct [] h = tt
distinct (n ∷ ns) h =
    let p = both (not (is_among ns n)) (do_differ ns) h in
    (others n ns (not_false (is_among ns n) p.0), distinct ns p.1)

pub differs : (ns : List (List ℕ)) → IsDistinct bytes_eq ns → do_differ ns ≡ true
unfolding IsDistinct
differs [] h = refl
differs (n ∷ ns) h = rw (none_among n ns h.0) (differs ns h.1)

pub are_names : (js : List Json) → list_all is_name_text js ≡ true → do_differ (names_in js) ≡ true → AreNames (Some (list (items_of js))) (names_in js)
are_names js texts differ =
    record { texts = ap (λ (is : Items). Some (list is)) (texts_are js texts); differ = distinct (names_in js) differ }

pub no_texts : (js : List Json) → list_all is_name_text js ≡ false → (ns : List (List ℕ)) → AreNames (Some (list (items_of js))) ns → ⊥
no_texts js h ns names = false≢true (sym h ∙ (names_are js ns names).0)

pub no_differing : (js : List Json) → do_differ (names_in js) ≡ false → (ns : List (List ℕ)) → AreNames (Some (list (items_of js))) ns → ⊥
no_differing js h ns names =
    false≢true (sym h ∙ (ap do_differ (names_are js ns names).1 ∙ differs ns names.differ))

-- ---- the versions that are named

pub filter_more : (p : ℕ → Bool) (a n : ℕ) → filter p (range_with_len a (n + 1)) ≡ filter p (range_with_len a n) ++ cond (p (a + n)) ((a + n) ∷ []) []
filter_more p a zero = let same : a + 0 ≡ a = omega arith in rw same refl
filter_more p a (suc n) =
    let one_more : suc n + 1 ≡ suc (n + 1) = omega arith in
    let place : a + suc n ≡ a + 1 + n = omega arith in
    rw (one_more, place) (by (p a) (filter p (range_with_len (a + 1) (n + 1))) (filter p (range_with_len (a + 1) n)) (cond (p (a + 1 + n)) ((a + 1 + n) ∷ []) []) (filter_more p (a + 1) n))
  where
    by : (b : Bool) (x y z : List ℕ) → x ≡ y ++ z → cond b (a ∷ x) x ≡ cond b (a ∷ y) y ++ z
    by true x y z e = ap (λ (t : List ℕ). a ∷ t) e
    by false x y z e = e

above : (p : ℕ → Bool) (a n x : ℕ) → x < a → AllByRecursion (λ y. nat_eq x y ≡ false) (filter p (range_with_len a n))
above p a zero x h = tt
above p a (suc n) x h = by (p a) (above p (a + 1) n x (omega arith))
  where
    by : (b : Bool) → AllByRecursion (λ y. nat_eq x y ≡ false) (filter p (range_with_len (a + 1) n))
        → AllByRecursion (λ y. nat_eq x y ≡ false) (cond b (a ∷ filter p (range_with_len (a + 1) n)) (filter p (range_with_len (a + 1) n)))
    by true more = (grind (arith, nat_tests), more)
    by false more = more

distinct_places : (p : ℕ → Bool) (a n : ℕ) → IsDistinct nat_eq (filter p (range_with_len a n))
unfolding IsDistinct
distinct_places p a zero = tt
distinct_places p a (suc n) = by (p a) (distinct_places p (a + 1) n)
  where
    by : (b : Bool) → IsDistinct nat_eq (filter p (range_with_len (a + 1) n))
        → IsDistinct nat_eq (cond b (a ∷ filter p (range_with_len (a + 1) n)) (filter p (range_with_len (a + 1) n)))
    by true more = (above p (a + 1) n a (omega arith), more)
    by false more = more

known_places : (p : ℕ → Bool) (a n top : ℕ) → a + n ≤ top → AllByRecursion (λ v. v < top) (filter p (range_with_len a n))
known_places p a zero top h = tt
known_places p a (suc n) top h = by (p a) (known_places p (a + 1) n top (omega arith))
  where
    by : (b : Bool) → AllByRecursion (λ v. v < top) (filter p (range_with_len (a + 1) n))
        → AllByRecursion (λ v. v < top) (cond b (a ∷ filter p (range_with_len (a + 1) n)) (filter p (range_with_len (a + 1) n)))
    by true more = (omega arith, more)
    by false more = more

few_places : (p : ℕ → Bool) (a n : ℕ) → length (filter p (range_with_len a n)) ≤ n
few_places p a zero = omega arith
few_places p a (suc n) = by (p a) (few_places p (a + 1) n)
  where
    by : (b : Bool) → length (filter p (range_with_len (a + 1) n)) ≤ n
        → length (cond b (a ∷ filter p (range_with_len (a + 1) n)) (filter p (range_with_len (a + 1) n))) ≤ suc n
    by true more = omega (arith, more)
    by false more = omega (arith, more)

pub are_places : (p : ℕ → Bool) (n : ℕ) → n ≤ 8 → AreVersions n (filter p (range_with_len 0 n))
are_places p n h = record {
  few = (let short = few_places p 0 n in omega (arith, short));
  known = All-from_recursion (λ v. v < n) (filter p (range_with_len 0 n)) (known_places p 0 n n (omega arith));
  distinct = distinct_places p 0 n;
}

-- ---- what a body's list says

pub texts-given : (given : Option Json) (js : List Json) → given ≡ Some (list (items_of js)) → list_all is_name_text js ≡ false → (ns : List (List ℕ)) → AreNames given ns → ⊥
texts-given given js is h ns names = no_texts js h ns (subst (λ (o : Option Json). AreNames o ns) is names)

pub differing-given : (given : Option Json) (js : List Json) → given ≡ Some (list (items_of js)) → do_differ (names_in js) ≡ false → (ns : List (List ℕ)) → AreNames given ns → ⊥
differing-given given js is h ns names = no_differing js h ns (subst (λ (o : Option Json). AreNames o ns) is names)

pub names-given : (given : Option Json) (js : List Json) → given ≡ Some (list (items_of js)) → list_all is_name_text js ≡ true → do_differ (names_in js) ≡ true → AreNames given (names_in js)
names-given given js is texts differ = subst (λ (o : Option Json). AreNames o (names_in js)) (sym is) (are_names js texts differ)

pub keeps-named : (d : DefinitionView) (given : Option Json) (items : List JVal) (xs : List VersionView) (vs : List ℕ) → given ≡ Some (list (items_of (map json items)))
    → list_all is_name_text (map json items) ≡ true → do_differ (names_in (map json items)) ≡ true → 0 < length items
    → xs ≡ d.versions → are_versions xs (names_in (map json items)) ≡ true → vs ≡ places_named d.versions (names_in (map json items)) → KeepsNamed d given vs
keeps-named d given [] xs vs is texts differ some its known places = absurd (omega arith)
keeps-named d given (x ∷ items) xs vs is texts differ some its known places = record {
  first = text_in (Some (json x));
  rest = names_in (map json items);
  names = names-given given (map json (x ∷ items)) is texts differ;
  known = ap (λ (ys : List VersionView). are_versions ys (names_in (map json (x ∷ items)))) (sym its) ∙ known;
  places = places;
}

pub legal-places : (d : DefinitionView) (ns : List (List ℕ)) (s : StoredList) → length d.versions ≤ 8 → versions_of s ≡ places_named d.versions ns → s.len ≤ 8 → IsStoredList (length d.versions) s
legal-places d ns s few is len = record {
  len = len;
  versions = subst (AreVersions (length d.versions)) (sym is) (are_places (λ v. is_among ns (version_in d.versions v).name) (length d.versions) few);
}

-- one more place, where its version is named
name-here : (xs : List Version) (v : ℕ) (x : Version) → v < length xs → x ≡ get_or xs v x → (version_in (map version_of xs) v).name ≡ x.name.bytes
name-here xs v x h e = at xs v x h ∙ ap (λ (y : Version). y.name.bytes) (sym e)
  where
    at : (ys : List Version) (w : ℕ) (d : Version) → w < length ys → (version_in (map version_of ys) w).name ≡ (get_or ys w d).name.bytes
    at [] w d k = absurd (omega arith)
    at (y ∷ ys) zero d k = refl
    at (y ∷ ys) (suc w) d k = at ys w d (omega arith)

pub places-step : (ns : List (List ℕ)) (xs : List Version) (v : ℕ) (x : Version) (b : Bool) (old new : List ℕ) → v < length xs → x ≡ get_or xs v x
    → b ≡ is_among ns x.name.bytes → old ≡ filter (λ w. is_among ns (version_in (map version_of xs) w).name) (range_with_len 0 v) → new ≡ old ++ cond b (v ∷ []) []
    → new ≡ filter (λ w. is_among ns (version_in (map version_of xs) w).name) (range_with_len 0 (v + 1))
places-step ns xs v x b old new h e named olds news =
    let place : 0 + v ≡ v = omega arith in
    let more = filter_more (λ w. is_among ns (version_in (map version_of xs) w).name) 0 v in
    let test : b ≡ is_among ns (version_in (map version_of xs) v).name = named ∙ ap (is_among ns) (sym (name-here xs v x h e)) in
    news ∙ (ap (λ (l : List ℕ). l ++ cond b (v ∷ []) []) olds
    ∙ (ap (λ (c : Bool). filter (λ w. is_among ns (version_in (map version_of xs) w).name) (range_with_len 0 v) ++ cond c (v ∷ []) []) test
    ∙ sym (rw place at more)))

-- ---- where the list stands

pub stored-inside : (fields status : Pairs) (v : JVal) (o : Option Json) → Some (json v) ≡ field (codes "status") fields → v ≡ Obj status
    → o ≡ field (codes "storedVersions") status → o ≡ stored_given fields
stored-inside fields status v o e is h =
    let at : field (codes "status") fields ≡ Some (json (Obj status)) = sym e ∙ ap (λ (x : JVal). Some (json x)) is in
    h ∙ (ap (field (codes "storedVersions")) (sym (pairs_members status)) ∙ ap (λ (p : Option Json). field (codes "storedVersions") (fields_in p)) (sym at))
