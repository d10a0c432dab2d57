-- The tries of the walk pass exactly where the document is allowed.
use Rattle.std.proofs.Common.{◌≡◌, ◌≤◌, ℕ, suc, ◌+◌, List, [], ◌∷◌, ◌++◌, Bool, true, false, ◌&&◌, cond, Option, Some, None, refl, ap, sym, subst, ◌∙◌, arith}
use Rattle.std.specs.Prelude.{is_none, nat_lt}
use Rattle.kj_value.specs.Json.{Json, null, boolean, whole, text, list, object, Members, no_members, member}
use Rattle.struct_schema.specs.Path.{Step, named}
use Rattle.struct_schema.specs.Names.{is_name, value_at}
use Rattle.struct_schema.specs.Shape.{Shape}
use Rattle.struct_schema.specs.declared.kind.NodeKind.{NodeKind}
use Rattle.schema_reading.specs.Words.{word, passed_type}
use Rattle.schema_reading.specs.Kind.{node_kind, type_allowed}
use Rattle.schema_reading.specs.Allowed.{items_allowed, additional_allowed}
use Rattle.schema_reading.specs.ShapeRead.{bare_read}
use Rattle.schema_reading.specs.Visit.{Tried, entered, keyword, Visit, counted, within, after}
use Rattle.schema_reading.specs.Visits.{visits, object_visits, inner_visits, map_visits, named_visits, each_visits, property_visits, meta_visits, part_visits, tries, additional_visits, items_visits, type_visits, typed_visits, meta_rest, meta_typed, default_visits, default_allowed, is_meta_type, first_refusal}
use Rattle.schema_reading.specs.Accepted.{no_bad_default, node_allowed, meta_allowed, property_allowed, all_allowed, inner_allowed, map_allowed, named_allowed, each_allowed, property_nodes, nodes, inner_nodes, map_nodes, named_nodes, each_nodes, IsSchema}
use Rattle.schema_reading.specs.declared.words.Keyword.{Keyword}
use Rattle.schema_reading.specs.declared.words.Keyword.TheVariants.{Additional, Default, Items as ItemsWord, Properties, Kind as TypeWord}
use Rattle.schema_reading.specs.declared.words.Scope.TheVariants.{Node, Meta}
use Rattle.schema_reading.specs.declared.words.Part.TheVariants.{BeforeAdditional, BeforeItems, BeforeType, AfterType, AnyBeforeType}
use Rattle.schema_reading.specs.declared.walk.TheConstants.{MAX_NESTING, MAX_NODES}
use Rattle.schema_reading.proofs.Passing.{after-append, after-within, after-keywords}
use Rattle.schema_reading.proofs.Parts.{keywords-additional, keywords-items, keywords-type, keywords-default, keywords-meta}
use Rattle.schema_reading.proofs.Unrefused.{is_fine, fine, all_fine, all_none}
use Rattle.schema_reading.proofs.Bools.{with_false, assoc, regroup, regroup_meta}
use Rattle.schema_reading.proofs.Shares.{shares, meta_shares}

-- ---- tries that are joined

fine-append : (xs ys : List Visit) → fine (xs ++ ys) ≡ fine xs && fine ys
fine-append [] ys = refl
fine-append (v ∷ xs) ys =
    ap (λ (b : Bool). is_fine v.tried && b) (fine-append xs ys) ∙ sym (assoc (is_fine v.tried) (fine xs) (fine ys))

fine-within : (s : Step) (vs : List Visit) → fine (within s vs) ≡ fine vs
fine-within s [] = refl
fine-within s (v ∷ vs) = ap (λ (b : Bool). is_fine v.tried && b) (fine-within s vs)

joined : (xs ys : List Visit) (a b : Bool) → fine xs ≡ a → fine ys ≡ b → fine (xs ++ ys) ≡ a && b
joined xs ys a b p q =
    fine-append xs ys ∙ ap (λ (c : Bool). c && fine ys) p ∙ ap (λ (c : Bool). a && c) q

fine-tries : (w : Keyword) (b : Bool) → fine (tries w b) ≡ b
fine-tries w true = refl
fine-tries w false = refl

fine-default : (root : Bool) (s : Shape) (o : Option Json) → fine (default_visits root s o) ≡ no_bad_default root s o
fine-default root s None = refl
fine-default root s (Some d) = fine-tries Default (default_allowed root s d)

fine-pick : (b : Bool) (xs ys : List Visit) (x y : Bool) → fine xs ≡ x → fine ys ≡ y → fine (cond b xs ys) ≡ cond b x y
fine-pick true xs ys x y p q = p
fine-pick false xs ys x y p q = q

-- ---- the three that the root passes over

fine-meta : (w : List ℕ) (j : Json) → fine (meta_visits w j) ≡ meta_allowed w j
fine-meta w null = refl
fine-meta w (boolean b) = refl
fine-meta w (whole z) = refl
fine-meta w (text t) = refl
fine-meta w (list js) = refl
fine-meta w (object ms) =
    let t : Bool = is_meta_type w (value_at (word TypeWord) ms) in
    let z : Bool = is_none (value_at (word Default) ms) in
    let p : Bool = fine (part_visits AnyBeforeType Meta ms) in
    let v : Bool = fine (part_visits AfterType Meta ms) in
    joined (part_visits AnyBeforeType Meta ms) (meta_typed w ms) p (t && (v && z)) refl (joined (tries TypeWord t) (meta_rest ms) t (v && z) (fine-tries TypeWord t) (joined (part_visits AfterType Meta ms) (tries Default z) v z refl (fine-tries Default z)))
    ∙ regroup_meta p t v z ∙ ap (λ (b : Bool). b && (t && z)) (meta_shares ms)

fine-property : (o : Option (List ℕ)) (j : Json) (vs : List Visit) (x : Bool) → fine vs ≡ x → fine (property_visits o j vs) ≡ property_allowed o j x
fine-property None j vs x h = h
fine-property (Some w) j vs x h = fine-meta w j

-- ---- a node

fine-object : (root : Bool) (d : ℕ) (ms : Members) (x y m : Bool) → fine (inner_visits Additional d ms) ≡ x → fine (inner_visits ItemsWord d ms) ≡ y → fine (map_visits root d ms) ≡ m → fine (object_visits root d ms) ≡ node_allowed root ms && (x && (y && m))
fine-object root d ms x y m ex ey em =
    let k : Option NodeKind = node_kind ms in
    let a : Bool = additional_allowed k ms (value_at (word Additional) ms) in
    let b : Bool = items_allowed k (value_at (word ItemsWord) ms) in
    let t : Bool = type_allowed root k in
    let z : Bool = no_bad_default root (bare_read root ms) (value_at (word Default) ms) in
    let p : Bool = fine (part_visits BeforeAdditional (Node k) ms) in
    let q : Bool = fine (part_visits BeforeItems (Node k) ms) in
    let u : Bool = fine (part_visits BeforeType (Node k) ms) in
    let v : Bool = fine (part_visits AfterType (Node k) ms) in
    let last : List Visit = default_visits root (bare_read root ms) (value_at (word Default) ms) in
    let e1 : fine (additional_visits k ms ++ inner_visits Additional d ms) ≡ (p && a) && x = joined (additional_visits k ms) (inner_visits Additional d ms) (p && a) x (joined (part_visits BeforeAdditional (Node k) ms) (tries Additional a) p a refl (fine-tries Additional a)) ex in
    let e2 : fine (items_visits k ms ++ inner_visits ItemsWord d ms) ≡ (q && b) && y = joined (items_visits k ms) (inner_visits ItemsWord d ms) (q && b) y (joined (part_visits BeforeItems (Node k) ms) (tries ItemsWord b) q b refl (fine-tries ItemsWord b)) ey in
    let e3 : fine (type_visits root k ms) ≡ u && (t && v) = joined (part_visits BeforeType (Node k) ms) (typed_visits root k ms) u (t && v) refl (joined (tries TypeWord t) (part_visits AfterType (Node k) ms) t v (fine-tries TypeWord t) refl) in
    let e4 : fine (map_visits root d ms ++ last) ≡ m && z = joined (map_visits root d ms) last m z em (fine-default root (bare_read root ms) (value_at (word Default) ms)) in
    joined (additional_visits k ms ++ inner_visits Additional d ms) ((items_visits k ms ++ inner_visits ItemsWord d ms) ++ (type_visits root k ms ++ (map_visits root d ms ++ last))) ((p && a) && x) (((q && b) && y) && ((u && (t && v)) && (m && z))) e1 (joined (items_visits k ms ++ inner_visits ItemsWord d ms) (type_visits root k ms ++ (map_visits root d ms ++ last)) ((q && b) && y) ((u && (t && v)) && (m && z)) e2 (joined (type_visits root k ms) (map_visits root d ms ++ last) (u && (t && v)) (m && z) e3 e4))
    ∙ regroup p a x q b y u t v m z ∙ ap (λ (c : Bool). (c && (a && (b && (t && z)))) && (x && (y && m))) (shares k ms)

mutual
  pub fine-visits : (root : Bool) (d : ℕ) (j : Json) → fine (visits root d j) ≡ all_allowed root d j
  fine-visits root d null = with_false (nat_lt d (suc MAX_NESTING))
  fine-visits root d (boolean b) = with_false (nat_lt d (suc MAX_NESTING))
  fine-visits root d (whole z) = with_false (nat_lt d (suc MAX_NESTING))
  fine-visits root d (text t) = with_false (nat_lt d (suc MAX_NESTING))
  fine-visits root d (list js) = with_false (nat_lt d (suc MAX_NESTING))
  fine-visits root d (object ms) =
      ap (λ (b : Bool). nat_lt d (suc MAX_NESTING) && b) (fine-object root d ms (inner_allowed Additional d ms) (inner_allowed ItemsWord d ms) (map_allowed root d ms) (fine-inner Additional d ms) (fine-inner ItemsWord d ms) (fine-map root d ms))

  fine-inner : (w : Keyword) (d : ℕ) (ms : Members) → fine (inner_visits w d ms) ≡ inner_allowed w d ms
  fine-inner w d no_members = refl
  fine-inner w d (member k j ms) =
      fine-pick (is_name (word w) k) (within (named (word w)) (visits false (d + 1) j)) (inner_visits w d ms) (all_allowed false (d + 1) j) (inner_allowed w d ms) (fine-within (named (word w)) (visits false (d + 1) j) ∙ fine-visits false (d + 1) j) (fine-inner w d ms)

  fine-map : (root : Bool) (d : ℕ) (ms : Members) → fine (map_visits root d ms) ≡ map_allowed root d ms
  fine-map root d no_members = refl
  fine-map root d (member k j ms) =
      fine-pick (is_name (word Properties) k) (within (named (word Properties)) (named_visits root d j)) (map_visits root d ms) (named_allowed root d j) (map_allowed root d ms) (fine-within (named (word Properties)) (named_visits root d j) ∙ fine-named root d j) (fine-map root d ms)

  fine-named : (root : Bool) (d : ℕ) (j : Json) → fine (named_visits root d j) ≡ named_allowed root d j
  fine-named root d null = refl
  fine-named root d (boolean b) = refl
  fine-named root d (whole z) = refl
  fine-named root d (text t) = refl
  fine-named root d (list js) = refl
  fine-named root d (object ps) = fine-each root d ps

  fine-each : (root : Bool) (d : ℕ) (ps : Members) → fine (each_visits root d ps) ≡ each_allowed root d ps
  fine-each root d no_members = refl
  fine-each root d (member n j ps) =
      let o : Option (List ℕ) = passed_type root n in
      let vs : List Visit = visits false (d + 1) j in
      joined (within (named n) (property_visits o j vs)) (each_visits root d ps) (property_allowed o j (all_allowed false (d + 1) j)) (each_allowed root d ps) (fine-within (named n) (property_visits o j vs) ∙ fine-property o j vs (all_allowed false (d + 1) j) (fine-visits false (d + 1) j)) (fine-each root d ps)

-- ---- the nodes

after-sum : (n : ℕ) (vs : List Visit) → after n vs ≡ n + after 0 vs
after-sum n [] = omega arith
after-sum n (v ∷ vs) = by_case v.tried (λ m. after-sum m vs)
  where
    by_case : (t : Tried) → ((m : ℕ) → after m vs ≡ m + after 0 vs) → after (counted n t) vs ≡ n + after (counted 0 t) vs
    by_case (entered d) h = omega (arith, h (n + 1), h 1)
    by_case (keyword k b) h = h n

both_counted : (xs ys : List Visit) (a b : ℕ) → after 0 xs ≡ a → after 0 ys ≡ b → after 0 (xs ++ ys) ≡ a + b
both_counted xs ys a b p q =
    after-append 0 xs ys ∙ after-sum (after 0 xs) ys ∙ ap (λ (n : ℕ). n + after 0 ys) p ∙ ap (λ (n : ℕ). a + n) q

counted-pick : (b : Bool) (xs ys : List Visit) (x y : ℕ) → after 0 xs ≡ x → after 0 ys ≡ y → after 0 (cond b xs ys) ≡ cond b x y
counted-pick true xs ys x y p q = p
counted-pick false xs ys x y p q = q

counted-property : (o : Option (List ℕ)) (j : Json) (vs : List Visit) (x : ℕ) → after 0 vs ≡ x → after 0 (property_visits o j vs) ≡ property_nodes o x
counted-property None j vs x h = h
counted-property (Some w) j vs x h = after-keywords 0 (meta_visits w j) (keywords-meta w j)

counted-object : (root : Bool) (d : ℕ) (ms : Members) (x y m : ℕ) → after 0 (inner_visits Additional d ms) ≡ x → after 0 (inner_visits ItemsWord d ms) ≡ y → after 0 (map_visits root d ms) ≡ m → after 0 (object_visits root d ms) ≡ x + (y + m)
counted-object root d ms x y m ex ey em =
    let k : Option NodeKind = node_kind ms in
    let last : List Visit = default_visits root (bare_read root ms) (value_at (word Default) ms) in
    let e1 : after 0 (additional_visits k ms ++ inner_visits Additional d ms) ≡ 0 + x = both_counted (additional_visits k ms) (inner_visits Additional d ms) 0 x (after-keywords 0 (additional_visits k ms) (keywords-additional k ms)) ex in
    let e2 : after 0 (items_visits k ms ++ inner_visits ItemsWord d ms) ≡ 0 + y = both_counted (items_visits k ms) (inner_visits ItemsWord d ms) 0 y (after-keywords 0 (items_visits k ms) (keywords-items k ms)) ey in
    let e4 : after 0 (map_visits root d ms ++ last) ≡ m + 0 = both_counted (map_visits root d ms) last m 0 em (after-keywords 0 last (keywords-default root (bare_read root ms) (value_at (word Default) ms))) in
    let e3 : after 0 (type_visits root k ms ++ (map_visits root d ms ++ last)) ≡ 0 + (m + 0) = both_counted (type_visits root k ms) (map_visits root d ms ++ last) 0 (m + 0) (after-keywords 0 (type_visits root k ms) (keywords-type root k ms)) e4 in
    let all : after 0 (object_visits root d ms) ≡ (0 + x) + ((0 + y) + (0 + (m + 0))) = both_counted (additional_visits k ms ++ inner_visits Additional d ms) ((items_visits k ms ++ inner_visits ItemsWord d ms) ++ (type_visits root k ms ++ (map_visits root d ms ++ last))) (0 + x) ((0 + y) + (0 + (m + 0))) e1 (both_counted (items_visits k ms ++ inner_visits ItemsWord d ms) (type_visits root k ms ++ (map_visits root d ms ++ last)) (0 + y) (0 + (m + 0)) e2 e3) in
    all ∙ tidy x y m
  where
    tidy : (x y m : ℕ) → (0 + x) + ((0 + y) + (0 + (m + 0))) ≡ x + (y + m)
    tidy x y m = omega arith

mutual
  pub counted-visits : (root : Bool) (d : ℕ) (j : Json) → after 0 (visits root d j) ≡ nodes root j
  counted-visits root d null = refl
  counted-visits root d (boolean b) = refl
  counted-visits root d (whole z) = refl
  counted-visits root d (text t) = refl
  counted-visits root d (list js) = refl
  counted-visits root d (object ms) =
      after-sum 1 (object_visits root d ms) ∙ ap (λ (n : ℕ). 1 + n) (counted-object root d ms (inner_nodes Additional ms) (inner_nodes ItemsWord ms) (map_nodes root ms) (counted-inner Additional d ms) (counted-inner ItemsWord d ms) (counted-map root d ms))

  counted-inner : (w : Keyword) (d : ℕ) (ms : Members) → after 0 (inner_visits w d ms) ≡ inner_nodes w ms
  counted-inner w d no_members = refl
  counted-inner w d (member k j ms) =
      counted-pick (is_name (word w) k) (within (named (word w)) (visits false (d + 1) j)) (inner_visits w d ms) (nodes false j) (inner_nodes w ms) (after-within (named (word w)) 0 (visits false (d + 1) j) ∙ counted-visits false (d + 1) j) (counted-inner w d ms)

  counted-map : (root : Bool) (d : ℕ) (ms : Members) → after 0 (map_visits root d ms) ≡ map_nodes root ms
  counted-map root d no_members = refl
  counted-map root d (member k j ms) =
      counted-pick (is_name (word Properties) k) (within (named (word Properties)) (named_visits root d j)) (map_visits root d ms) (named_nodes root j) (map_nodes root ms) (after-within (named (word Properties)) 0 (named_visits root d j) ∙ counted-named root d j) (counted-map root d ms)

  counted-named : (root : Bool) (d : ℕ) (j : Json) → after 0 (named_visits root d j) ≡ named_nodes root j
  counted-named root d null = refl
  counted-named root d (boolean b) = refl
  counted-named root d (whole z) = refl
  counted-named root d (text t) = refl
  counted-named root d (list js) = refl
  counted-named root d (object ps) = counted-each root d ps

  counted-each : (root : Bool) (d : ℕ) (ps : Members) → after 0 (each_visits root d ps) ≡ each_nodes root ps
  counted-each root d no_members = refl
  counted-each root d (member n j ps) =
      let o : Option (List ℕ) = passed_type root n in
      let vs : List Visit = visits false (d + 1) j in
      both_counted (within (named n) (property_visits o j vs)) (each_visits root d ps) (property_nodes o (nodes false j)) (each_nodes root ps) (after-within (named n) 0 (property_visits o j vs) ∙ counted-property o j vs (nodes false j) (counted-visits false (d + 1) j)) (counted-each root d ps)

-- ---- a schema

pub accepted : (j : Json) → first_refusal j ≡ None → IsSchema j
accepted j e =
    let h = all_fine 0 (visits true 0 j) (omega arith) e in
    (sym (fine-visits true 0 j) ∙ h.0, subst (λ (n : ℕ). n ≤ MAX_NODES) (counted-visits true 0 j) h.1)

pub unrefused : (j : Json) → IsSchema j → first_refusal j ≡ None
unrefused j h =
    all_none 0 (visits true 0 j) (fine-visits true 0 j ∙ h.0, subst (λ (n : ℕ). n ≤ MAX_NODES) (sym (counted-visits true 0 j)) h.1)
