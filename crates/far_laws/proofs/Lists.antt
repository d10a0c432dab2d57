-- The target of a page, and the call that a request for it is.
use Rattle.std.proofs.Common.{◌≡◌, ◌∙◌, refl, sym, ap, subst, inl, inr, ℕ, ◌<◌, ◌≤◌, Bool, true, false, List, [], ◌∷◌, ◌++◌, map, length, Option, None, Some, codes, decimal, append_assoc, length-append, arith}
use Rattle.std.specs.Prelude.{◌⊎◌, IfSome, is_none, not, unwrap_or, IsUtf8}
use Rattle.std.specs.Str.{IsAscii}
use Rattle.std.proofs.lemmas.List.Elements.{All-nil}
use Rattle.std.proofs.lemmas.Fmt.{length-decimal-le}
use Rattle.base64.specs.Engines.{url_safe_no_pad}
use Rattle.base64.proofs.EngineFacts.{IsAscii-encode_of}
use Rattle.base64.proofs.RoundTrip.{length-encode_symbols}
use Rattle.kj_value.specs.Json.{Json, depth, items_depth, items_of}
use Rattle.kj_value.specs.Fields.{Pairs as Fields}
use Rattle.kj_value.specs.Kinds.{as_object}
use Rattle.kj_value.specs.Reading.{Reads}
use Rattle.kj_value.specs.Sound.{AreSoundItems, IsSoundJson}
use Rattle.kj_value.specs.Text.{text_of}
use Rattle.kj_value.specs.declared.reading.TheConstants.{MAX_JSON_LEVELS}
use Rattle.kube_meta.specs.Key.{KeyView}
use Rattle.kube_meta.specs.Plan.{Migration}
use Rattle.object_reading.specs.Fields.{given as given_field}
use Rattle.api_calls.specs.Calls as calls
use Rattle.api_calls.specs.Documents.{by_name, migration_document, migration_list}
use Rattle.api_calls.specs.Meaning.{Meaning}
use Rattle.api_calls.specs.Pages.{Place}
use Rattle.api_calls.specs.Token.{IsToken, token_line, token_text}
use Rattle.api_calls.proofs.Tokens.{name_fits, namespace_fits}
use Rattle.http_routes.specs.Actions as action
use Rattle.http_routes.specs.Actions.{Action, IsVersion, Paging, call_of, cell, row_of, version_in}
use Rattle.http_routes.specs.Paths as path
use Rattle.http_routes.specs.Paths.{Resource, path_of, segments, slash}
use Rattle.http_routes.specs.Queries as query
use Rattle.http_routes.specs.Queries.{Pairs, ReadsQuery, paged, pairs_of, value_of}
use Rattle.http_routes.specs.Routes as route
use Rattle.http_routes.specs.Routes.{IsPlain, Routes, path_in, query_in, question_mark}
use Rattle.place.specs.Place.{Names}
use Rattle.wire_client.specs.Calls.{everywhere, limit_query, lists, target_of, token_query, version_path}
use Rattle.wire_client.specs.Forms.{Path, fields_of, first_told, has_number, has_version, items_fault, items_in, is_token, meta_field, of_object, page_fault, page_fields_fault, told_if}
use Rattle.wire_client.specs.declared.buffer.TheConstants.{ANSWER_LEVELS}
use Rattle.far_laws.specs.Answering.{IsTold}
use Rattle.far_laws.proofs.PageForms.{OneReading, TextReads}
use Rattle.far_laws.specs.Speaking.{AreNames}
use Rattle.far_laws.proofs.Asked.{IsAddressed}
use Rattle.far_laws.proofs.Collections.{limit_visible, query_continues, token_long, token_visible}
use Rattle.far_laws.proofs.Objects.{get_addressed}
use Rattle.far_laws.proofs.Segments.{OfVisible, name_of_names, namespace_of_names, plain_names, query_mark, query_slash, segments_mark, segments_slash, visible_append, visible_names}

-- ---- tokens

-- a token in ASCII that isn't long
pub record IsSmall (token : List ℕ) : Type 0 where
  pub ascii : IsAscii token
  pub long : length token ≤ 1_000

none_small : IsSmall []
none_small = record { ascii = λ i. omega arith; long = omega arith }

line_long : (number : ℕ) (key : KeyView) → IsToken number key → length (token_line number key) ≤ 340
unfolding token_line
line_long number key t =
    let digits : length (decimal number) ≤ 20 = length-decimal-le 20 number (omega arith) (let few = t.number in omega (arith, few)) t.number in
    let ns = namespace_fits key.ns t.ns in
    let name = name_fits key.name t.name in
    simp length-append (omega (arith, digits, ns, name))

text_small : (number : ℕ) (key : KeyView) → IsToken number key → IsSmall (token_text number key)
unfolding token_text
text_small number key t =
    let symbols = length-encode_symbols url_safe_no_pad.encode_table (token_line number key) in
    let line = line_long number key t in
    record { ascii = IsAscii-encode_of url_safe_no_pad (token_line number key); long = simp length-append (omega (arith, symbols, line)) }

pub small_token : (token : List ℕ) → (token ≡ []) ⊎ IsTold token → IsSmall token
small_token token (inl none) = subst IsSmall (sym none) none_small
small_token token (inr told) = subst IsSmall (sym told.spelled) (text_small told.number told.key told.token)

-- ---- the target

regrouped : (a g s v p q d t : List ℕ) → (((((a ++ g) ++ (s ++ v)) ++ (s ++ p)) ++ (q ++ d)) ++ t) ≡ a ++ (g ++ (s ++ (v ++ (s ++ (p ++ (q ++ (d ++ t)))))))
regrouped a g s v p q d t = simp append_assoc

abbrev query_of : ℕ → List ℕ → List ℕ
query_of limit token = codes "limit=" ++ (decimal limit ++ token_query token)

abbrev target_parts : Names → ℕ → List ℕ → List ℕ
target_parts n limit token = [] ++ slash ∷ (codes "apis" ++ slash ∷ (n.group ++ slash ∷ (n.version ++ slash ∷ (n.plural ++ question_mark ∷ query_of limit token))))

target_is : (n : Names) (limit : ℕ) (token : List ℕ) → target_of n (lists limit token) ≡ target_parts n limit token
unfolding version_path limit_query
target_is n limit token = regrouped (codes "/apis/") n.group (codes "/") n.version n.plural (codes "?limit=") (decimal limit) (token_query token)

module _ (n : Names) (names : AreNames n) (limit : ℕ) (token : List ℕ) (few : limit ≤ 500) (small : IsSmall token) where
  list_segments : segments (path_in (target_of n (lists limit token))) ≡ [] ∷ codes "apis" ∷ n.group ∷ n.version ∷ n.plural ∷ []
  list_segments =
      let group = plain_names n.group (name_of_names n.group names.group) in
      let version = plain_names n.version (namespace_of_names n.version names.version) in
      let plural = plain_names n.plural (namespace_of_names n.plural names.plural) in
      let s4 = segments_mark n.plural (query_of limit token) plural in
      let s3 = segments_slash n.version (n.plural ++ question_mark ∷ query_of limit token) version ∙ ap (λ (ss : List (List ℕ)). n.version ∷ ss) s4 in
      let s2 = segments_slash n.group (n.version ++ slash ∷ (n.plural ++ question_mark ∷ query_of limit token)) group ∙ ap (λ (ss : List (List ℕ)). n.group ∷ ss) s3 in
      let s1 = segments_slash (codes "apis") (n.group ++ slash ∷ (n.version ++ slash ∷ (n.plural ++ question_mark ∷ query_of limit token))) (plain_names (codes "apis") refl)
      ∙ ap (λ (ss : List (List ℕ)). codes "apis" ∷ ss) s2 in
      ap (λ (t : List ℕ). segments (path_in t)) (target_is n limit token)
      ∙ segments_slash [] (codes "apis" ++ slash ∷ (n.group ++ slash ∷ (n.version ++ slash ∷ (n.plural ++ question_mark ∷ query_of limit token)))) (All-nil IsPlain)
      ∙ ap (λ (ss : List (List ℕ)). [] ∷ ss) s1

  list_query : query_in (target_of n (lists limit token)) ≡ query_of limit token
  list_query =
      let group = plain_names n.group (name_of_names n.group names.group) in
      let version = plain_names n.version (namespace_of_names n.version names.version) in
      let plural = plain_names n.plural (namespace_of_names n.plural names.plural) in
      ap query_in (target_is n limit token)
      ∙ query_slash [] (codes "apis" ++ slash ∷ (n.group ++ slash ∷ (n.version ++ slash ∷ (n.plural ++ question_mark ∷ query_of limit token)))) (All-nil IsPlain)
      ∙ query_slash (codes "apis") (n.group ++ slash ∷ (n.version ++ slash ∷ (n.plural ++ question_mark ∷ query_of limit token))) (plain_names (codes "apis") refl)
      ∙ query_slash n.group (n.version ++ slash ∷ (n.plural ++ question_mark ∷ query_of limit token)) group
      ∙ query_slash n.version (n.plural ++ question_mark ∷ query_of limit token) version ∙ query_mark n.plural (query_of limit token) plural

  list_visible : OfVisible (target_of n (lists limit token))
  unfolding version_path
  list_visible =
      let group = visible_names n.group (name_of_names n.group names.group) in
      let version = visible_names n.version (namespace_of_names n.version names.version) in
      let plural = visible_names n.plural (namespace_of_names n.plural names.plural) in
      let base = visible_append (codes "/apis/" ++ n.group) (codes "/" ++ n.version) (visible_append (codes "/apis/") n.group refl group) (visible_append (codes "/") n.version refl version) in
      let all = visible_append ((codes "/apis/" ++ n.group) ++ (codes "/" ++ n.version)) (codes "/" ++ n.plural) base (visible_append (codes "/") n.plural refl plural) in
      visible_append (everywhere n ++ limit_query limit) (token_query token) (visible_append (everywhere n) (limit_query limit) all (limit_visible limit (omega (arith, few)))) (token_visible token)

  list_long : (length (target_of n (lists limit token)) ≤ 16_000) × (0 < length (target_of n (lists limit token)))
  unfolding version_path limit_query
  list_long =
      let group = name_fits n.group names.group in
      let version = namespace_fits n.version names.version in
      let plural = namespace_fits n.plural names.plural in
      let digits : length (decimal limit) ≤ 3 = length-decimal-le 3 limit (omega arith) (omega (arith, few)) (omega (arith, few)) in
      let behind = token_long token small.ascii in
      let long = small.long in
      (simp length-append (omega (arith, group, version, plural, digits, behind, long)), simp length-append (omega arith))

  pub list_gets : IsAddressed (codes "GET") (target_of n (lists limit token))
  list_gets = get_addressed (target_of n (lists limit token)) list_visible list_long

  -- ---- the route

  -- the objects of all namespaces, or the migrations, which may have the same path
  pub data IsListed (m : Meaning) (c : calls.Call) : Type 0 where
    of_objects : (v most : ℕ) (from : Option Place) → IsVersion m n.version v → query.GoesOn None token from → c ≡ calls.list v None most from → IsListed m c
    of_migrations : c ≡ calls.migrations → IsListed m c

  collection_of : (m : Meaning) (r : Resource) (a g v p : List ℕ) → [] ∷ a ∷ g ∷ v ∷ p ∷ [] ≡ path_of m r → (r ≡ path.everywhere v) ⊎ (r ≡ path.migrations)
  collection_of m path.group a g v p is = cc
  collection_of m (path.everywhere w) a g v p is = let same : w ≡ v = cc in inl (ap (λ (u : List ℕ). path.everywhere u) same)
  collection_of m (path.collection w ns) a g v p is = cc
  collection_of m (path.object w k) a g v p is = cc
  collection_of m path.crd a g v p is = cc
  collection_of m path.crd_status a g v p is = cc
  collection_of m path.migrations a g v p is = inr refl
  collection_of m (path.migration name) a g v p is = cc
  collection_of m (path.raw k) a g v p is = cc

  list_cell : (v : List ℕ) → cell (row_of (path.everywhere v)) (codes "GET") ≡ Some (action.list v None)
  unfolding cell
  list_cell v = refl

  migrations_cell : cell (row_of path.migrations) (codes "GET") ≡ Some action.migrations
  unfolding cell
  migrations_cell = refl

  one_action : (a b : Action) → Some a ≡ Some b → a ≡ b
  one_action a b e = cc

  pub list_routed : (m : Meaning) (body : List ℕ) (c : calls.Call) → Routes m (codes "GET") (target_of n (lists limit token)) body (route.calls c) → IsListed m c
  list_routed m body c r = by (collection_of m r.0 (codes "apis") n.group n.version n.plural (sym list_segments ∙ r.4.asks.named.1))
    where
      by : (r.0 ≡ path.everywhere n.version) ⊎ (r.0 ≡ path.migrations) → IsListed m c
      by (inl is) =
          let asked = r.1 in
          let paging : Paging = r.2 in
          let place = r.3 in
          let same : asked ≡ action.list n.version None =
          one_action asked (action.list n.version None) (sym r.4.asks.asked ∙ ap (λ (q : Resource). cell (row_of q) (codes "GET")) is ∙ list_cell n.version) in
          let known : IsVersion m n.version place = subst (λ (a : Action). IfSome (version_in a) (λ name. IsVersion m name place)) same r.5 in
          let reads : query.ListReads None (pairs_of (query_in (target_of n (lists limit token)))) (paged paging) =
          subst (λ (a : Action). ReadsQuery a (pairs_of (query_in (target_of n (lists limit token)))) (paged paging)) same r.4.query in
          let text : value_of (codes "continue") (pairs_of (query_in (target_of n (lists limit token)))) ≡ token =
          ap (λ (q : List ℕ). value_of (codes "continue") (pairs_of q)) list_query ∙ query_continues limit token (omega (arith, few)) small.ascii in
          of_objects place paging.limit paging.from known (subst (λ (t : List ℕ). query.GoesOn None t paging.from) text reads.2)
          (r.6 ∙ ap (λ (a : Action). call_of a place body paging) same)
      by (inr is) =
          let asked = r.1 in
          let paging : Paging = r.2 in
          let place = r.3 in
          let same : asked ≡ action.migrations =
          one_action asked action.migrations (sym r.4.asks.asked ∙ ap (λ (q : Resource). cell (row_of q) (codes "GET")) is ∙ migrations_cell) in
          of_migrations (r.6 ∙ ap (λ (a : Action). call_of a place body paging) same)

-- ---- a list of migrations is no page

document_sound : (m : Meaning) (q : Migration) → IsSoundJson (migration_document m q)
unfolding migration_document
document_sound m q = (refl, tt, (refl, tt, (refl, (tt, tt, tt), (refl, (tt, (refl, tt, (tt, tt, tt)), tt), (tt, (refl, ((refl, tt, (tt, tt, tt)), tt), (tt, tt, tt)), tt)))))

documents_sound : (m : Meaning) (qs : List Migration) → AreSoundItems (items_of (map (migration_document m) qs))
documents_sound m [] = tt
documents_sound m (q ∷ qs) = (document_sound m q, documents_sound m qs)

document_depth : (m : Meaning) (q : Migration) → depth (migration_document m q) ≤ 10
unfolding migration_document
document_depth m q = omega arith

documents_depth : (m : Meaning) (qs : List Migration) → items_depth (items_of (map (migration_document m) qs)) ≤ 10
documents_depth m [] = omega arith
documents_depth m (q ∷ qs) = let one = document_depth m q in let more = documents_depth m qs in omega (arith, one, more)

migrations_sound : (m : Meaning) (qs : List Migration) → IsSoundJson (migration_list m qs)
unfolding migration_list
migrations_sound m qs = (refl, tt, (refl, documents_sound m (by_name qs), (refl, tt, (tt, tt, tt))))

migrations_depth : (m : Meaning) (qs : List Migration) → depth (migration_list m qs) ≤ MAX_JSON_LEVELS
unfolding migration_list
migrations_depth m qs = let items = documents_depth m (by_name qs) in omega (arith, items)

no_number : (m : Meaning) (qs : List Migration) → has_number (fields_of (migration_list m qs)) ≡ false
unfolding migration_list
no_number m qs = refl

numbered : (a b c : Bool) (p q r s : Path) (o : Option Path) (e : Bool) → first_told (told_if a p ∷ told_if b q ∷ o ∷ told_if c r ∷ told_if (not e) s ∷ []) ≡ None → e ≡ true
numbered true b c p q r s o e h = absurd (cc)
numbered false true c p q r s o e h = absurd (cc)
numbered false false c p q r s (Some path) e h = absurd (cc)
numbered false false true p q r s None e h = absurd (cc)
numbered false false false p q r s None true h = refl
numbered false false false p q r s None false h = absurd (cc)

never : (b : Bool) → b ≡ true → b ≡ false → ⊥
never true p q = cc
never false p q = cc

page_numbered : (version : List ℕ) (j : Json) → page_fault version j ≡ None → has_number (fields_of j) ≡ true
unfolding page_fields_fault
page_numbered version j e = by_fields (as_object j) refl e
  where
    by_fields : (o : Option Fields) → as_object j ≡ o → of_object (page_fields_fault version) o ≡ None → has_number (unwrap_or (as_object j) []) ≡ true
    by_fields None is h = absurd (cc)
    by_fields (Some fs) is h =
        let told = numbered (not (has_version version fs)) (is_none (items_in fs)) (not (is_token (given_field (meta_field (codes "continue") fs))))
        (codes "apiVersion") (codes "items") (codes "metadata.continue") (codes "metadata.resourceVersion") (items_fault version 0 (unwrap_or (items_in fs) [])) (has_number fs) h in
        subst (λ (o : Option Fields). has_number (unwrap_or o []) ≡ true) (sym is) told

pub migrations_no_page : (m : Meaning) (qs : List Migration) (version text : List ℕ) (j : Json) → TextReads → OneReading → text ≡ text_of (migration_list m qs) → IsUtf8 text
    → Reads text ANSWER_LEVELS j → page_fault version j ≡ None → ⊥
migrations_no_page m qs version text j text_reads one_reading is utf8 reads form =
    let whole : Json = migration_list m qs in
    let back = text_reads whole (migrations_sound m qs) (migrations_depth m qs) (subst (λ (b : List ℕ). IsUtf8 b) is utf8) in
    let same : j ≡ whole = one_reading (text_of whole) ANSWER_LEVELS (depth whole) j whole (subst (λ (b : List ℕ). Reads b ANSWER_LEVELS j) is reads) back in
    never (has_number (fields_of j)) (page_numbered version j form) (ap (λ (k : Json). has_number (fields_of k)) same ∙ no_number m qs)
