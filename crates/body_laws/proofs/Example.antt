-- Rows worked by hand, computed: a field with another name, a text and two texts, a scaled number, a table, and an object inside.
use Rattle.std.proofs.Common.{◌≡◌, pos, List, [], ◌∷◌, refl}
use Rattle.kj_value.specs.Json.{null, whole, text, object, no_members, members_of}
use Rattle.kj_value.specs.Fields.{Pairs}
use Rattle.hub_cells.specs.Side.{Side, spoke, hub}
use Rattle.hub_cells.specs.Cell.{same, split, table, scale}
use Rattle.hub_cells.specs.Level.{Name}
use Rattle.body_laws.specs.Kinds.{rule_cell}
use Rattle.body_laws.specs.Frame.{Level, level, no_inner, inner}
use Rattle.body_laws.specs.Kept.{Kept, nothing}
use Rattle.body_laws.specs.Over.{over, left}

-- `a` and `b` .. are names of one letter
abbrev a : Name
a = 97 ∷ []

abbrev b : Name
b = 98 ∷ []

abbrev h : Name
h = 104 ∷ []

abbrev m : Name
m = 109 ∷ []

abbrev o : Name
o = 111 ∷ []

abbrev p : Name
p = 112 ∷ []

abbrev s : Name
s = 115 ∷ []

abbrev t : Name
t = 116 ∷ []

abbrev y : Name
y = 121 ∷ []

abbrev by_side : List Name → List Name → Side → List Name
by_side ns ms spoke = ns
by_side ns ms hub = ms

-- the spoke's `a` is the hub's `b`, its `s` is `h` and `p`, its `m` is a thousandth of the hub's `m`, its `t` "x" the hub's `t` 1, and
-- each has an `o`, in which both have `a`
abbrev inside : Level
inside = level (rule_cell (by_side (a ∷ []) (a ∷ [])) same ∷ []) no_inner

abbrev root : Level
root =
    level (rule_cell (by_side (a ∷ []) (b ∷ [])) same ∷ rule_cell (by_side (s ∷ []) (h ∷ p ∷ [])) split ∷ rule_cell (by_side (m ∷ []) (m ∷ [])) (scale 1000) ∷ rule_cell (by_side (t ∷ []) (t ∷ [])) (table ((text (120 ∷ []), whole (pos 1)) ∷ []) (text (122 ∷ [])) (whole (pos 3))) ∷ []) (inner o o inside no_inner)

abbrev to_hub : Pairs → Pairs
to_hub x = over spoke root x (nothing root)

abbrev kept_at_hub : Pairs → Kept root
kept_at_hub x = left spoke root x (nothing root)

-- an object that has own fields alone is `{}` at the other side, and an empty one stays so
own_alone : to_hub ((o, object (members_of ((y, null) ∷ []))) ∷ []) ≡ (o, object no_members) ∷ []
own_alone = refl

empty_stays : to_hub ((o, object no_members) ∷ []) ≡ (o, object no_members) ∷ []
empty_stays = refl

-- what stands in place of an object goes over as it is
no_object : to_hub ((o, whole (pos 5)) ∷ []) ≡ (o, whole (pos 5)) ∷ []
no_object = refl

-- a text without a colon isn't shown; an edit of the two at the hub wins over what is kept
abbrev no_colon : Pairs
no_colon = (s, text (120 ∷ [])) ∷ []

not_shown : to_hub no_colon ≡ []
not_shown = refl

abbrev two_texts : Pairs
two_texts = (h, text (120 ∷ [])) ∷ (p, text (49 ∷ [])) ∷ []

edited : over hub root two_texts (kept_at_hub no_colon) ≡ (s, text (120 ∷ 58 ∷ 49 ∷ [])) ∷ []
edited = refl

untouched : over hub root [] (kept_at_hub no_colon) ≡ no_colon
untouched = refl

-- a value of another kind, and a number whose product has more than 64 bits, aren't shown
abbrev no_number : Pairs
no_number = (m, text (120 ∷ [])) ∷ []

abbrev too_big : Pairs
too_big = (m, whole (pos 9223372036854775807)) ∷ []

kind_not_shown : to_hub no_number ≡ []
kind_not_shown = refl

big_not_shown : to_hub too_big ≡ []
big_not_shown = refl

big_is_back : over hub root [] (kept_at_hub too_big) ≡ too_big
big_is_back = refl

-- a blank that no pair lists is kept
blank_is_back : over hub root (to_hub ((t, text (122 ∷ [])) ∷ [])) (kept_at_hub ((t, text (122 ∷ [])) ∷ [])) ≡ (t, text (122 ∷ [])) ∷ []
blank_is_back = refl

-- an unknown name is kept, and not shown
unknown : to_hub ((a, null) ∷ (y, null) ∷ []) ≡ (b, null) ∷ []
unknown = refl

unknown_is_back : over hub root ((b, null) ∷ []) (kept_at_hub ((a, null) ∷ (y, null) ∷ [])) ≡ (a, null) ∷ (y, null) ∷ []
unknown_is_back = refl
