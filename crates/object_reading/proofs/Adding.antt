-- Texts that are put into a map one by one, by rising names.
use Rattle.std.proofs.Common.{◌≡◌, ◌∙◌, ℕ, List, [], ◌∷◌, ◌++◌, Less, Greater, nat_cmp, append_assoc, append-nil, refl, ap, sym}
use Rattle.std.specs.Ordering.{ordering_reverse}
use Rattle.std.specs.Cmp.Lexicographic.{slice_cmp}
use Rattle.std.proofs.lemmas.Cmp.{nat_list_cmp_total}
use Rattle.kj_value.specs.Json.{Json, null, boolean, whole, text, list, object, members_of}
use Rattle.kj_value.specs.Sound.{AreRising}
use Rattle.kj_value.specs.Fields.{Pairs, with_field}
use Rattle.kube_meta.specs.View.{Texts}
use Rattle.object_reading.specs.Parts.{text_field, texts_in, added, all_added}

-- the name comes after all names of the map
abbrev IsBehind : List ℕ → Texts → Type 0
IsBehind k [] = Unit {0}
IsBehind k (t ∷ ts) = (slice_cmp nat_cmp k t.0 ≡ Greater) × IsBehind k ts

-- so does the first name
abbrev BeginsBehind : Pairs → Texts → Type 0
BeginsBehind [] ts = Unit {0}
BeginsBehind (e ∷ es) ts = IsBehind e.0 ts

turned : (k l : List ℕ) → slice_cmp nat_cmp k l ≡ Greater → slice_cmp nat_cmp l k ≡ Less
turned k l e = nat_list_cmp_total.antisymm l k ∙ ap ordering_reverse e

after_less : (k l : List ℕ) → slice_cmp nat_cmp l k ≡ Less → slice_cmp nat_cmp k l ≡ Greater
after_less k l e = nat_list_cmp_total.antisymm k l ∙ ap ordering_reverse e

with_behind : (k s : List ℕ) (ts : Texts) → IsBehind k ts → with_field k s ts ≡ ts ++ (k, s) ∷ []
with_behind k s [] h = refl
with_behind k s (t ∷ ts) h = rw h.0 (ap (λ (r : Texts). t ∷ r) (with_behind k s ts h.1))

later : (k l : List ℕ) (ts : Texts) → slice_cmp nat_cmp l k ≡ Less → IsBehind l ts → IsBehind k ts
later k l [] a h = tt
later k l (t ∷ ts) a h =
    (after_less k t.0 (nat_list_cmp_total.trans t.0 l k (turned l t.0 h.0) a), later k l ts a h.1)

behind_more : (k l s : List ℕ) (ts : Texts) → slice_cmp nat_cmp l k ≡ Less → IsBehind k ts → IsBehind k (ts ++ (l, s) ∷ [])
behind_more k l s [] a h = (after_less k l a, tt)
behind_more k l s (t ∷ ts) a h = (h.0, behind_more k l s ts a h.1)

added_behind : (k : List ℕ) (j : Json) (ts : Texts) → IsBehind k ts → added ts k j ≡ ts ++ text_field k j
added_behind k null ts h = sym (append-nil ts)
added_behind k (boolean b) ts h = sym (append-nil ts)
added_behind k (whole z) ts h = sym (append-nil ts)
added_behind k (text s) ts h = with_behind k s ts h
added_behind k (list js) ts h = sym (append-nil ts)
added_behind k (object ms) ts h = sym (append-nil ts)

behind_field : (k l : List ℕ) (j : Json) (ts : Texts) → slice_cmp nat_cmp l k ≡ Less → IsBehind l ts → IsBehind k (ts ++ text_field l j)
behind_field k l null ts a h = rw append-nil (later k l ts a h)
behind_field k l (boolean b) ts a h = rw append-nil (later k l ts a h)
behind_field k l (whole z) ts a h = rw append-nil (later k l ts a h)
behind_field k l (text s) ts a h = behind_more k l s ts a (later k l ts a h)
behind_field k l (list js) ts a h = rw append-nil (later k l ts a h)
behind_field k l (object ms) ts a h = rw append-nil (later k l ts a h)

next_behind : (e : List ℕ × Json) (es : Pairs) (ts : Texts) → AreRising (members_of (e ∷ es)) → IsBehind e.0 ts → BeginsBehind es (ts ++ text_field e.0 e.1)
next_behind e [] ts r h = tt
next_behind e (f ∷ es) ts r h = behind_field f.0 e.0 e.1 ts r.0 h

all_behind : (ts : Texts) (es : Pairs) → AreRising (members_of es) → BeginsBehind es ts → all_added ts es ≡ ts ++ texts_in es
all_behind ts [] r h = sym (append-nil ts)
all_behind ts (e ∷ es) r h =
    ap (λ (us : Texts). all_added us es) (added_behind e.0 e.1 ts h)
    ∙ all_behind (ts ++ text_field e.0 e.1) es r.2 (next_behind e es ts r h)
    ∙ append_assoc ts (text_field e.0 e.1) (texts_in es)

begins_behind : (es : Pairs) → BeginsBehind es []
begins_behind [] = tt
begins_behind (e ∷ es) = tt

-- all that is put in is what the fields hold
pub all_added-rising : (es : Pairs) → AreRising (members_of es) → all_added [] es ≡ texts_in es
all_added-rising es r = all_behind [] es r (begins_behind es)
