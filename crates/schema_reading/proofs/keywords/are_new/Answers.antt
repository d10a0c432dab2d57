use Rattle.std.proofs.Common.{◌≡◌, ℕ, suc, ◌+◌, ◌<◌, List, ◌∷◌, length, get_or, drop, map, Bool, true, false, not, ◌&&◌, cond, Option, Some, refl, ap, sym, ◌∙◌, drop-cons, add-one}
use Rattle.std.specs.Prelude.{is_some, ◌||◌}
use Rattle.std.specs.List.{list_any}
use Rattle.std.specs.Str.{bytes_eq}
use Rattle.std.proofs.lemmas.Slice.Eq.{bytes_eq-Decides}
use Rattle.std.proofs.lemmas.Map.Text.{btree_map_updates_str}
use Rattle.kj_value.specs.Json.{items_of}
use Rattle.kj_value.specs.Seen.{json}
use Rattle.kj_value.specs.declared.txt.Txt.{Txt}
use Rattle.kj_value.specs.declared.value.JVal.{JVal}
use Rattle.kj_value.specs.declared.value.JVal.TheVariants.{Text}
use Rattle.struct_schema.specs.laws.LookupLaws.{one_test}
use Rattle.schema_reading.specs.Allowed.{are_new}
use Rattle.schema_reading.proofs.keywords.are_new.Goals as goal

both_ways : (k l : List ℕ) → bytes_eq k l ≡ bytes_eq l k
both_ways k l =
    one_test (bytes_eq k l) (bytes_eq l k) (λ h. (bytes_eq-Decides l k).1 (sym ((bytes_eq-Decides k l).0 h))) (λ h. (bytes_eq-Decides k l).1 (sym ((bytes_eq-Decides l k).0 h)))

there : {X : Type 0} (b : Bool) (x : X) (o : Option X) → is_some (cond b (Some x) o) ≡ (b || is_some o)
there true x o = refl
there false x o = refl

at_place : (vs : List JVal) (i : ℕ) (v : JVal) (t : Txt) (done : List (List ℕ)) → i < length vs → v ≡ get_or vs i v → v ≡ Text t
    → are_new done (items_of (map json (drop i vs))) ≡ not (list_any (bytes_eq t.bytes) done) && are_new (t.bytes ∷ done) (items_of (map json (drop (i + 1) vs)))
at_place vs i v t done within is seen =
    let rest : drop i vs ≡ v ∷ drop (suc i) vs = drop-cons vs i v within ∙ ap (λ (x : JVal). x ∷ drop (suc i) vs) (sym is) in
    ap (λ (ws : List JVal). are_new done (items_of (map json ws))) rest ∙ ap (λ (x : JVal). are_new done (items_of (map json (x ∷ drop (suc i) vs)))) seen
    ∙ ap (λ (k : ℕ). not (list_any (bytes_eq t.bytes) done) && are_new (t.bytes ∷ done) (items_of (map json (drop k vs)))) (sym (add-one i))

pub returns-then-contains_key : goal.returns-then-contains_key
returns-then-contains_key c =
    let inv = c.loop-v.invariant in
    let found : list_any (bytes_eq c.in-Text.t.bytes) inv.0 ≡ true = ap (λ (n : List ℕ). list_any (bytes_eq n) inv.0) (sym c.as_str.ensures) ∙ sym (inv.1 c.as_str.result.now) ∙ sym c.contains_key.ensures ∙ c.if-contains_key.true in
    let rest : Bool = are_new (c.in-Text.t.bytes ∷ inv.0) (items_of (map json (drop (c.loop-v.v-index + 1) c.args.items.now))) in
    sym (sym inv.2 ∙ at_place c.args.items.now c.loop-v.v-index c.v-item.result c.in-Text.t inv.0 c.loop-v-test.true c.v-item.is c.in-Text.is ∙ ap (λ (b : Bool). not b && rest) found)

pub loop-v-preserved : goal.loop-v-preserved
loop-v-preserved c =
    let inv = c.loop-v.invariant in
    let found : list_any (bytes_eq c.in-Text.t.bytes) inv.0 ≡ false = ap (λ (n : List ℕ). list_any (bytes_eq n) inv.0) (sym c.as_str.ensures) ∙ sym (inv.1 c.as_str.result.now) ∙ sym c.contains_key.ensures ∙ c.if-contains_key.false in
    let rest : Bool = are_new (c.in-Text.t.bytes ∷ inv.0) (items_of (map json (drop (c.loop-v.v-index + 1) c.args.items.now))) in (
      c.in-Text.t.bytes ∷ inv.0,
      (λ q. ap is_some (btree_map_updates_str c.as_str-in-Text.result.now c.loop-v.seen c.insert.new.self _ c.in_ok-insert-in-Text.ensures.updates q) ∙ there (bytes_eq c.as_str-in-Text.result.now q) _ _ ∙ ap (λ (b : Bool). bytes_eq c.as_str-in-Text.result.now q || b) (inv.1 q)
          ∙ ap (λ (n : List ℕ). bytes_eq n q || list_any (λ k. bytes_eq q k) inv.0) c.as_str-in-Text.ensures ∙ ap (λ (b : Bool). b || list_any (λ k. bytes_eq q k) inv.0) (both_ways c.in-Text.t.bytes q)),
      sym (sym inv.2 ∙ at_place c.args.items.now c.loop-v.v-index c.v-item.result c.in-Text.t inv.0 c.loop-v-test.true c.v-item.is c.in-Text.is ∙ ap (λ (b : Bool). not b && rest) found),
    )
