-- A value has a filling, under a schema whose defaults are JSON values.
use Rattle.std.proofs.Common.{◌≡◌, ◌∙◌, ℕ, List, [], ◌∷◌, Bool, true, false, cond, Option, Some, None, Ordering, Less, Equal, Greater, nat_cmp, is_eq, refl, ap, sym, subst}
use Rattle.std.specs.Prelude.{◌⊎◌, MatchBool, IsSomeAnd, unwrap_or}
use Rattle.std.proofs.Common.{inl, inr}
use Rattle.std.specs.Ordering.{match_ordering, ordering_reverse}
use Rattle.std.specs.Cmp.Lexicographic.{slice_cmp}
use Rattle.std.proofs.lemmas.Cmp.{nat_list_cmp_total}
use Rattle.kj_value.specs.Json.{Json, null, boolean, whole, text, list, object, Items, no_items, item, Members, no_members, member, members_of}
use Rattle.kj_value.specs.Fields.{Pairs, with_field}
use Rattle.kj_value.specs.Sound.{IsSoundJson, AreSoundItems, ComesFirst, AreRising}
use Rattle.struct_schema.specs.Shape.{Own, Shape, shape, own, Shapes, no_shapes, shape_at, MaybeShapes, no_map, some_map, MaybeShape, no_shape, some_shape}
use Rattle.struct_schema.specs.Names.{is_name, value_at, shape_named, property, or_shape, shape_for}
use Rattle.struct_schema.specs.Filled.{is_object, is_array, is_forbidden, PresentFilled, ElementFilled, AtEachName, EachItem, AtEachItem, Filled, NameFilled, RestFilled, ItemFilled}
use Rattle.struct_schema.specs.laws.NameLaws.{one_name, own_name, gone}
use Rattle.prune_default.specs.inner.Missing.{or_value, default_of}
use Rattle.prune_default.specs.SoundDefaults.{SoundAt, HasSoundDefaults, SoundInMap, SoundInShapes, SoundInMaybe}
use Rattle.prune_default.proofs.Lookup.{value_at-with}
use Rattle.prune_default.proofs.Level.{name_filled, rest_none}
use Rattle.prune_default.proofs.Missing.{or_none}

-- ---- the schema at a name

named_sound : (n : List ℕ) (ss : Shapes) → SoundInShapes ss → SoundInMaybe (shape_named n ss)
named_sound n no_shapes h = tt
named_sound n (shape_at l s ss) h = by_test (is_name n l) (named_sound n ss h.1)
  where
    by_test : (b : Bool) → SoundInMaybe (shape_named n ss) → SoundInMaybe (cond b (some_shape s) (shape_named n ss))
    by_test true later = h.0
    by_test false later = later

property_sound : (n : List ℕ) (ps : MaybeShapes) → SoundInMap ps → SoundInMaybe (property n ps)
property_sound n no_map h = tt
property_sound n (some_map ss) h = named_sound n ss h

or_sound : (m a : MaybeShape) → SoundInMaybe m → SoundInMaybe a → SoundInMaybe (or_shape m a)
or_sound no_shape a h k = k
or_sound (some_shape s) a h k = h

default_sound : (m : MaybeShape) → SoundInMaybe m → SoundAt (default_of m)
default_sound no_shape h = tt
default_sound (some_shape (shape o ps a i)) h = h.0

own_sound : (s : Shape) → HasSoundDefaults s → SoundAt (own s).default_value
own_sound (shape o ps a i) h = h.0

-- ---- a name that comes first stays so where another is set

first_with : (l k : List ℕ) (v : Json) (es : Pairs) → slice_cmp nat_cmp l k ≡ Less → ComesFirst l (members_of es) → ComesFirst l (members_of (with_field k v es))
first_with l k v [] p h = p
first_with l k v (e ∷ es) p h = by_order (slice_cmp nat_cmp k e.0)
  where
    by_order : (o : Ordering) → ComesFirst l (members_of (match_ordering o ((k, v) ∷ e ∷ es) ((e.0, v) ∷ es) (e ∷ with_field k v es)))
    by_order Less = p
    by_order Equal = h
    by_order Greater = h

past_first : (l k : List ℕ) (ms : Members) → slice_cmp nat_cmp l k ≡ Less → ComesFirst k ms → ComesFirst l ms
past_first l k no_members p h = tt
past_first l k (member m j ms) p h = nat_list_cmp_total.trans l k m p h

rising_with : (k : List ℕ) (v : Json) (es : Pairs) → IsSoundJson v → AreRising (members_of es) → AreRising (members_of (with_field k v es))
rising_with k v [] s h = (tt, s, tt)
rising_with k v (e ∷ es) s h = by_order (slice_cmp nat_cmp k e.0) refl (rising_with k v es s h.2)
  where
    by_order : (o : Ordering) → slice_cmp nat_cmp k e.0 ≡ o → AreRising (members_of (with_field k v es)) → AreRising (members_of (match_ordering o ((k, v) ∷ e ∷ es) ((e.0, v) ∷ es) (e ∷ with_field k v es)))
    by_order Less q later = (q, s, h)
    by_order Equal q later = (h.0, s, h.2)
    by_order Greater q later =
        let before : slice_cmp nat_cmp e.0 k ≡ Less = nat_list_cmp_total.antisymm e.0 k ∙ ap ordering_reverse q in
        (first_with e.0 k v es before h.0, h.1, later)

-- ---- defaults are set where their names aren't there

-- at a name of some properties, the node's default there
abbrev Over : Shapes → Shapes → List ℕ → Option Json
Over all no_shapes n = None
Over all (shape_at l s ss) n = or_value (cond (is_name n l) (default_of (shape_named l all)) None) (Over all ss n)

abbrev Sets : Pairs → (List ℕ → Option Json) → Pairs → Type 0
Sets es d fs = (n : List ℕ) → value_at n (members_of fs) ≡ or_value (value_at n (members_of es)) (d n)

set_one : (l : List ℕ) (d : Option Json) (es : Pairs) → SoundAt d → AreRising (members_of es) → (fs : Pairs) × Sets es (λ n. cond (is_name n l) d None) fs × AreRising (members_of fs)
set_one l None es s h = (es, (λ n. by_test (is_name n l) (value_at n (members_of es))), h)
  where
    by_test : (b : Bool) (v : Option Json) → v ≡ or_value v (cond b None None)
    by_test true None = refl
    by_test true (Some v) = refl
    by_test false None = refl
    by_test false (Some v) = refl
set_one l (Some j) es s h = by_value (value_at l (members_of es)) refl
  where
    there : (n : List ℕ) (x : Json) → value_at l (members_of es) ≡ Some x → (b : Bool) → is_name n l ≡ b
        → value_at n (members_of es) ≡ or_value (value_at n (members_of es)) (cond b (Some j) None)
    there n x e true q =
        let here : value_at n (members_of es) ≡ Some x = ap (λ (m : List ℕ). value_at m (members_of es)) (one_name n l q) ∙ e in
        here ∙ ap (λ (v : Option Json). or_value v (Some j)) (sym here)
    there n x e false q = sym (or_none (value_at n (members_of es)))

    absent : (n : List ℕ) → value_at l (members_of es) ≡ None → (b : Bool) → is_name n l ≡ b
        → cond b (Some j) (value_at n (members_of es)) ≡ or_value (value_at n (members_of es)) (cond b (Some j) None)
    absent n e true q =
        let here : value_at n (members_of es) ≡ None = ap (λ (m : List ℕ). value_at m (members_of es)) (one_name n l q) ∙ e in
        ap (λ (v : Option Json). or_value v (Some j)) (sym here)
    absent n e false q = sym (or_none (value_at n (members_of es)))

    by_value : (v : Option Json) → value_at l (members_of es) ≡ v → (fs : Pairs) × Sets es (λ n. cond (is_name n l) (Some j) None) fs × AreRising (members_of fs)
    by_value (Some x) e = (es, (λ n. there n x e (is_name n l) refl), h)
    by_value None e = (with_field l j es, (λ n. value_at-with n l j es ∙ absent n e (is_name n l) refl), rising_with l j es s h)

or_three : (v d e : Option Json) → or_value (or_value v d) e ≡ or_value v (or_value d e)
or_three None d e = refl
or_three (Some v) d e = refl

set_all : (all ss : Shapes) (es : Pairs) → SoundInShapes all → AreRising (members_of es) → (fs : Pairs) × Sets es (Over all ss) fs × AreRising (members_of fs)
set_all all no_shapes es s h = (es, (λ n. sym (or_none (value_at n (members_of es)))), h)
set_all all (shape_at l t ss) es s h =
    let one = set_one l (default_of (shape_named l all)) es (default_sound (shape_named l all) (named_sound l all s)) h in
    let more = set_all all ss one.0 s one.2 in (
      more.0,
      (λ n. more.1 n ∙ ap (λ (v : Option Json). or_value v (Over all ss n)) (one.1 n)
          ∙ or_three (value_at n (members_of es)) (cond (is_name n l) (default_of (shape_named l all)) None) (Over all ss n)),
      more.2,
    )

-- only the node's default is set at a name
none_or : (d x : Option Json) → (x ≡ None) ⊎ (x ≡ d) → or_value d x ≡ d
none_or None x (inl e) = e
none_or None x (inr e) = e
none_or (Some j) x h = refl

over_one : (all ss : Shapes) (n : List ℕ) → (Over all ss n ≡ None) ⊎ (Over all ss n ≡ default_of (shape_named n all))
over_one all no_shapes n = inl refl
over_one all (shape_at l t ss) n = by_test (is_name n l) refl (over_one all ss n)
  where
    by_test : (b : Bool) → is_name n l ≡ b → (Over all ss n ≡ None) ⊎ (Over all ss n ≡ default_of (shape_named n all))
        → (or_value (cond b (default_of (shape_named l all)) None) (Over all ss n) ≡ None) ⊎ (or_value (cond b (default_of (shape_named l all)) None) (Over all ss n) ≡ default_of (shape_named n all))
    by_test false q later = later
    by_test true q later =
        let same : default_of (shape_named l all) ≡ default_of (shape_named n all) = ap (λ (m : List ℕ). default_of (shape_named m all)) (sym (one_name n l q)) in
        inr (ap (λ (d : Option Json). or_value d (Over all ss n)) same ∙ none_or (default_of (shape_named n all)) (Over all ss n) later)

over_there : (all ss : Shapes) (n : List ℕ) (t : Shape) → shape_named n ss ≡ some_shape t → Over all ss n ≡ default_of (shape_named n all)
over_there all no_shapes n t e = absurd (cc)
over_there all (shape_at l u ss) n t e = by_test (is_name n l) refl e (over_one all ss n) (over_there all ss n t)
  where
    by_test : (b : Bool) → is_name n l ≡ b → cond b (some_shape u) (shape_named n ss) ≡ some_shape t → (Over all ss n ≡ None) ⊎ (Over all ss n ≡ default_of (shape_named n all))
        → (shape_named n ss ≡ some_shape t → Over all ss n ≡ default_of (shape_named n all))
        → or_value (cond b (default_of (shape_named l all)) None) (Over all ss n) ≡ default_of (shape_named n all)
    by_test false q f one later = later f
    by_test true q f one later =
        let same : default_of (shape_named l all) ≡ default_of (shape_named n all) = ap (λ (m : List ℕ). default_of (shape_named m all)) (sym (one_name n l q)) in
        ap (λ (d : Option Json). or_value d (Over all ss n)) same ∙ none_or (default_of (shape_named n all)) (Over all ss n) one

over_is : (ss : Shapes) (n : List ℕ) → Over ss ss n ≡ default_of (shape_named n ss)
over_is ss n = by_shape (shape_named n ss) refl
  where
    by_shape : (m : MaybeShape) → shape_named n ss ≡ m → Over ss ss n ≡ default_of (shape_named n ss)
    by_shape (some_shape t) e = over_there ss ss n t e
    by_shape no_shape e =
        let none : default_of (shape_named n ss) ≡ None = ap default_of e in
        elim (over_one ss ss n) [ inl p ↦ p ∙ sym none | inr p ↦ p ]

set_defaults : (ps : MaybeShapes) (es : Pairs) → SoundInMap ps → AreRising (members_of es) → (fs : Pairs) × Sets es (λ n. default_of (property n ps)) fs × AreRising (members_of fs)
set_defaults no_map es s h = (es, (λ n. sym (or_none (value_at n (members_of es)))), h)
set_defaults (some_map ss) es s h =
    let all = set_all ss ss es s h in
    (all.0, (λ n. all.1 n ∙ ap (or_value (value_at n (members_of es))) (over_is ss n)), all.2)

-- ---- what is there

-- a value that the schema makes of another
abbrev FilledBy : Shape → Json → Type 0
FilledBy s j = (k : Json) × Filled s j k × IsSoundJson k

abbrev Element : MaybeShape → Json → Type 0
Element m j = (k : Json) × ItemFilled m j k × IsSoundJson k

element : (m : MaybeShape) (j : Json) → SoundInMaybe m → IsSoundJson j → ((t : Shape) → HasSoundDefaults t → FilledBy t j) → Element m j
element no_shape j h q f = (j, refl, q)
element (some_shape t) j h q f = by_test (is_forbidden (own t) j)
  where
    default : (d : Option Json) → SoundAt d → IsSoundJson (unwrap_or d null)
    default None s = tt
    default (Some x) s = s

    by_test : (b : Bool) → (k : Json) × MatchBool b (k ≡ unwrap_or (own t).default_value null) (Filled t j k) × IsSoundJson k
    by_test true = (unwrap_or (own t).default_value null, refl, default (own t).default_value (own_sound t h))
    by_test false = f t h

-- what becomes of a value at a name
abbrev Named : MaybeShape → Bool → Json → Type 0
Named m preserve j = (w : Option Json) × RestFilled m preserve (Some j) w × SoundAt w

named : (m : MaybeShape) (preserve : Bool) (j : Json) → SoundInMaybe m → IsSoundJson j → ((t : Shape) → HasSoundDefaults t → FilledBy t j) → Named m preserve j
named no_shape true j h q f = (Some j, refl, q)
named no_shape false j h q f = (None, refl, tt)
named (some_shape t) preserve j h q f = by_test (is_forbidden (own t) j)
  where
    by_test : (b : Bool) → (w : Option Json) × MatchBool b (w ≡ (own t).default_value) (IsSomeAnd w (λ k. Filled t j k)) × SoundAt w
    by_test true = ((own t).default_value, refl, own_sound t h)
    by_test false = let made = f t h in (Some made.0, made.1, made.2)

-- the names of an object, each filled or taken out; none of them is new
record Kept (s : Shape) (preserve : Bool) (ms : Members) : Type 0 where
  fields : Pairs
  each : (n : List ℕ) → RestFilled (shape_for s n) preserve (value_at n ms) (value_at n (members_of fields))
  rising : AreRising (members_of fields)
  first : (l : List ℕ) → ComesFirst l ms → ComesFirst l (members_of fields)

keep_one : (s : Shape) (preserve : Bool) (k : List ℕ) (j : Json) (ms : Members) → ComesFirst k ms → Kept s preserve ms → Named (shape_for s k) preserve j → Kept s preserve (member k j ms)
keep_one s preserve k j ms c r (w, filled, sound) = by_value w filled sound
  where
    by_value : (w : Option Json) → RestFilled (shape_for s k) preserve (Some j) w → SoundAt w → Kept s preserve (member k j ms)
    by_value None filled sound = record {
      fields = r.fields;
      each = λ n. by_test n (is_name n k) refl;
      rising = r.rising;
      first = λ l p. r.first l (past_first l k ms p c);
    }
      where
        by_test : (n : List ℕ) (b : Bool) → is_name n k ≡ b → RestFilled (shape_for s n) preserve (cond b (Some j) (value_at n ms)) (value_at n (members_of r.fields))
        by_test n false q = r.each n
        by_test n true q =
            let none : value_at n (members_of r.fields) ≡ None = ap (λ (m : List ℕ). value_at m (members_of r.fields)) (one_name n k q) ∙ gone k (members_of r.fields) (r.first k c) r.rising in
            subst (λ (x : Option Json). RestFilled (shape_for s n) preserve (Some j) x) (sym none) (subst (λ (m : List ℕ). RestFilled (shape_for s m) preserve (Some j) None) (sym (one_name n k q)) filled)
    by_value (Some v) filled sound = record {
      fields = (k, v) ∷ r.fields;
      each = λ n. by_test n (is_name n k) refl;
      rising = (r.first k c, sound, r.rising);
      first = λ l p. p;
    }
      where
        by_test : (n : List ℕ) (b : Bool) → is_name n k ≡ b
            → RestFilled (shape_for s n) preserve (cond b (Some j) (value_at n ms)) (cond b (Some v) (value_at n (members_of r.fields)))
        by_test n false q = r.each n
        by_test n true q = subst (λ (m : List ℕ). RestFilled (shape_for s m) preserve (Some j) (Some v)) (sym (one_name n k q)) filled

-- ---- the filling

for_sound : (s : Shape) (n : List ℕ) → HasSoundDefaults s → SoundInMaybe (shape_for s n)
for_sound (shape o ps a i) n h = or_sound (property n ps) a (property_sound n ps h.1) h.2

array_filled : (o : Own) (ps : MaybeShapes) (a i : MaybeShape) (js : Items) → AreSoundItems js → ((ks : Items) × EachItem (λ x y. ItemFilled i x y) js ks × AreSoundItems ks)
    → FilledBy (shape o ps a i) (list js)
array_filled o ps a i js q (ks, each, sound) = by_test (is_array o.kind)
  where
    by_test : (b : Bool) → (k : Json) × MatchBool b (AtEachItem (λ x y. ItemFilled i x y) js k) (k ≡ list js) × IsSoundJson k
    by_test true = (list ks, each, sound)
    by_test false = (list js, refl, q)

object_filled : (o : Own) (ps : MaybeShapes) (a i : MaybeShape) (ms : Members) → HasSoundDefaults (shape o ps a i) → AreRising ms → Kept (shape o ps a i) o.preserve ms
    → FilledBy (shape o ps a i) (object ms)
object_filled o ps a i ms h q kept = by_test (is_object o.kind)
  where
    by_test : (b : Bool) → (k : Json) × MatchBool b (AtEachName (λ n v w. NameFilled ps (λ x y. RestFilled a o.preserve x y) n v w) ms k) (k ≡ object ms) × IsSoundJson k
    by_test false = (object ms, refl, q)
    by_test true =
        let all = set_defaults ps kept.fields h.1 kept.rising in (
          object (members_of all.0),
          (λ n. name_filled ps a o.preserve n (value_at n ms) (value_at n (members_of kept.fields)) (value_at n (members_of all.0)) (kept.each n) (all.1 n)),
          all.2,
        )

mutual
  pub filling : (s : Shape) (j : Json) → HasSoundDefaults s → IsSoundJson j → FilledBy s j
  filling (shape o ps a i) null h q = (null, refl, tt)
  filling (shape o ps a i) (boolean b) h q = (boolean b, refl, tt)
  filling (shape o ps a i) (whole z) h q = (whole z, refl, q)
  filling (shape o ps a i) (text s) h q = (text s, refl, tt)
  filling (shape o ps a i) (list js) h q = array_filled o ps a i js q (items_filling i js h.3 q)
  filling (shape o ps a i) (object ms) h q = object_filled o ps a i ms h q (names_filling (shape o ps a i) o.preserve ms h q)

  items_filling : (m : MaybeShape) (js : Items) → SoundInMaybe m → AreSoundItems js → (ks : Items) × EachItem (λ x y. ItemFilled m x y) js ks × AreSoundItems ks
  items_filling m no_items h q = (no_items, tt, tt)
  items_filling m (item j js) h q =
      let here = element m j h q.0 (λ t p. filling t j p q.0) in
      let rest = items_filling m js h q.1 in
      (item here.0 rest.0, (here.1, rest.1), (here.2, rest.2))

  names_filling : (s : Shape) (preserve : Bool) (ms : Members) → HasSoundDefaults s → AreRising ms → Kept s preserve ms
  names_filling s preserve no_members h q = record { fields = []; each = λ n. rest_none (shape_for s n) preserve; rising = tt; first = λ l p. tt }
  names_filling s preserve (member k j ms) h q =
      keep_one s preserve k j ms q.0 (names_filling s preserve ms h q.2) (named (shape_for s k) preserve j (for_sound s k h) q.1 (λ t p. filling t j p q.1))
