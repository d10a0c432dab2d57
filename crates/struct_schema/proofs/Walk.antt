-- Where a walk over items or names stops.
use Rattle.std.proofs.Common.{◌≡◌, ℕ, suc, ◌+◌, ◌<◌, List, ◌∷◌, length, get_or, drop, map, false, Option, Some, None, refl, ap, sym, subst, ◌∙◌, drop-cons}
use Rattle.std.specs.Prelude.{is_none}
use Rattle.kj_value.specs.Json.{Json, Items, no_items, item, items_of, members_of}
use Rattle.kj_value.specs.Seen.{json}
use Rattle.kj_value.specs.Pair.{pair_of}
use Rattle.kj_value.specs.declared.value.JVal.{JVal}
use Rattle.kj_value.specs.declared.value.Field.{Field}
use Rattle.struct_schema.specs.Shape.{Shape, MaybeShape, no_shape, some_shape}
use Rattle.struct_schema.specs.Names.{shape_for}
use Rattle.struct_schema.specs.Path.{named, at}
use Rattle.struct_schema.specs.Valid.{valid}
use Rattle.struct_schema.specs.Fault.{Fault, under, or_else, fault_in, fault, items_fault, members_fault}
use Rattle.struct_schema.specs.Told.{StopsCheck, NamesCheckFault}
use Rattle.struct_schema.specs.declared.trouble.Stop.{Stop}
use Rattle.struct_schema.specs.declared.trouble.Stop.TheVariants.{Found, Starved}
use Rattle.struct_schema.specs.declared.trouble.CheckFault.TheVariants.{Broken, NoMemory}
use Rattle.struct_schema.specs.declared.trouble.Broken.{Broken as Spot}
use Rattle.struct_schema.proofs.Agrees.{agrees}

pub no_items_fault : (i : ℕ) (js : Items) → items_fault no_shape i js ≡ None
no_items_fault i no_items = refl
no_items_fault i (item j js) = no_items_fault (i + 1) js

-- the first of two
stops_first : (o p : Option Fault) (e : Stop) → StopsCheck o e → StopsCheck (or_else o p) e
stops_first None p e h = absurd h
stops_first (Some f) p e h = h

pub stopped_items : (s : Shape) (vs : List JVal) (i : ℕ) (v : JVal) (inner e : Stop) → i < length vs → v ≡ get_or vs i v → StopsCheck (fault s (json v)) inner → ((o : Option Fault) → StopsCheck o inner → StopsCheck (under (at i) o) e)
    → StopsCheck (items_fault (some_shape s) i (items_of (map json (drop i vs)))) e
stopped_items s vs i v inner e within is h step =
    let there : drop i vs ≡ v ∷ drop (suc i) vs = drop-cons vs i v within ∙ ap (λ (x : JVal). x ∷ drop (suc i) vs) (sym is) in
    let all : StopsCheck (items_fault (some_shape s) i (items_of (map json (v ∷ drop (suc i) vs)))) e = stops_first (under (at i) (fault s (json v))) _ e (step (fault s (json v)) h) in
    subst (λ (ws : List JVal). StopsCheck (items_fault (some_shape s) i (items_of (map json ws))) e) (sym there) all

pub stopped_fields : (s t : Shape) (fs : List Field) (i : ℕ) (f : Field) (k l : List ℕ) (inner e : Stop) → i < length fs → f ≡ get_or fs i f → some_shape t ≡ shape_for s k → k ≡ f.name.bytes → l ≡ f.name.bytes → StopsCheck (fault t (json f.value)) inner
    → ((o : Option Fault) → StopsCheck o inner → StopsCheck (under (named l) o) e) → StopsCheck (members_fault s (members_of (map pair_of (drop i fs)))) e
stopped_fields s t fs i f k l inner e within is found name_is told h step =
    let there : drop i fs ≡ f ∷ drop (suc i) fs = drop-cons fs i f within ∙ ap (λ (x : Field). x ∷ drop (suc i) fs) (sym is) in
    let seen : some_shape t ≡ shape_for s f.name.bytes = found ∙ ap (shape_for s) name_is in
    let here : StopsCheck (under (named f.name.bytes) (fault_in (shape_for s f.name.bytes) (λ u. fault u (json f.value)))) e =
    subst (λ (m : MaybeShape). StopsCheck (under (named f.name.bytes) (fault_in m (λ u. fault u (json f.value)))) e) seen (subst (λ (n : List ℕ). StopsCheck (under (named n) (fault t (json f.value))) e) told (step (fault t (json f.value)) h)) in
    let all : StopsCheck (members_fault s (members_of (map pair_of (f ∷ drop (suc i) fs)))) e = stops_first _ (members_fault s (members_of (map pair_of (drop (suc i) fs)))) e here in
    subst (λ (gs : List Field). StopsCheck (members_fault s (members_of (map pair_of gs))) e) (sym there) all

stops_some : (o : Option Fault) (e : Stop) → StopsCheck o e → is_none o ≡ false
stops_some None e h = absurd h
stops_some (Some f) e h = refl

pub stops_invalid : (s : Shape) (j : Json) (e : Stop) → StopsCheck (fault s j) e → valid s j ≡ false
stops_invalid s j e h = sym (agrees s j) ∙ stops_some (fault s j) e h

pub starved_names : (o : Option Fault) → StopsCheck o Starved → NamesCheckFault o NoMemory
starved_names None h = absurd h
starved_names (Some f) h = tt

pub found_names : (o : Option Fault) (b : Spot) → StopsCheck o (Found b) → NamesCheckFault o (Broken b.path b.rule)
found_names None b h = absurd h
found_names (Some f) b h = (h.0, h.2)
