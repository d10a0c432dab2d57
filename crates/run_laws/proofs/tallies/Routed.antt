-- Which calls the requests of a migration are, where the place is the definition's: none of them has another path or method, or a query that is refused.
use Rattle.std.proofs.Common.{◌≡◌, ◌∙◌, refl, sym, ap, subst, inl, inr, ℕ, suc, ◌+◌, ◌≤◌, false, List, [], ◌∷◌, ◌++◌, All, drop, Option, None, Some, codes, decimal, append_assoc, arith}
use Rattle.std.specs.Prelude.{◌⊎◌, ◌==◌, IfSome, MatchOption}
use Rattle.std.specs.List.{position_or_len}
use Rattle.std.proofs.lemmas.Bool.Decides.{nat_tests}
use Rattle.std.proofs.lemmas.List.Elements.{All-head, All-nil, All-tail}
use Rattle.kj_value.specs.Json.{Json}
use Rattle.kj_value.specs.Text.{text_of}
use Rattle.kube_meta.specs.Key.{KeyView}
use Rattle.api_calls.specs.Calls as calls
use Rattle.api_calls.specs.Cause.{WhyView}
use Rattle.api_calls.specs.Meaning.{Meaning}
use Rattle.api_calls.specs.Pages.{Place}
use Rattle.http_routes.specs.Actions as action
use Rattle.http_routes.specs.Actions.{Action, AsksAt, AsksNowhere, IsUnknown, IsVersion, Paging, call_of, cell, row_of, version_in}
use Rattle.http_routes.specs.Paths as path
use Rattle.http_routes.specs.Paths.{IsKey, Resource, apis_word, migration_group, namespaces_word, path_of, segments, slash}
use Rattle.http_routes.specs.Queries as query
use Rattle.http_routes.specs.Queries.{OtherReads, Pairs, ReadsQuery, bad, first_refused, paged, pairs_of}
use Rattle.http_routes.specs.Routes as route
use Rattle.http_routes.specs.Routes.{IsPlain, Route, Routes, path_in, query_in, question_mark}
use Rattle.place.specs.Place.{Names}
use Rattle.wire_client.specs.Calls.{at_key, limit_query, lists, target_of, token_query, version_path}
use Rattle.far_laws.specs.Answering.{IsTold}
use Rattle.far_laws.specs.Speaking.{AreNames}
use Rattle.far_laws.proofs.Lists.{small_token}
use Rattle.far_laws.proofs.Objects.{object_segments}
use Rattle.far_laws.proofs.Segments.{name_of_names, namespace_of_names, plain_names, query_mark, query_slash, segments_mark, segments_slash}
use Rattle.run_laws.specs.Replying.{IsPlaceOf}
use Rattle.run_laws.proofs.tallies.Queries.{is_paged, none_refused, not_bad}

-- ---- a target without a query

not_mark : (b : ℕ) → IsPlain b → (b == question_mark) ≡ false
not_mark b plain = grind (arith, nat_tests)

behind_first : (x : ℕ) (xs : List ℕ) (k : ℕ) → drop (1 + k + 1) (x ∷ xs) ≡ drop (k + 1) xs
behind_first x xs k =
    let more : 1 + k + 1 ≡ suc (k + 1) = omega arith in
    ap (λ (i : ℕ). drop i (x ∷ xs)) more

query_step : (x : ℕ) (xs : List ℕ) → IsPlain x → query_in (x ∷ xs) ≡ query_in xs
query_step x xs plain = rw (not_mark x plain) (behind_first x xs (position_or_len (λ b. b == question_mark) xs))

query_none : (xs : List ℕ) → All IsPlain xs → query_in xs ≡ []
query_none [] all = refl
query_none (x ∷ xs) all = query_step x xs (All-head IsPlain x xs all) ∙ query_none xs (All-tail IsPlain x xs all)

-- ---- one answer of a route

some_one : (a b : Action) → Some a ≡ Some b → a ≡ b
some_one a b e = cc

none_some : (a : Action) → None ≡ Some a → ⊥
none_some a e = cc

-- what is asked of a resource by a method is this
module _ (m : Meaning) (n : Names) (it : IsPlaceOf m n) (method target : List ℕ) (the : Resource) (asked : Action) (is_named : path.Names m (segments (path_in target)) the)
    (one : (r : Resource) → path.Names m (segments (path_in target)) r → r ≡ the) (in_cell : cell (row_of the) method ≡ Some asked) (version : version_in asked ≡ Some n.version)
    (fits : (why : WhyView) → ReadsQuery asked (pairs_of (query_in target)) (bad why) → ⊥) where
  action_is : (r : Resource) (a : Action) → path.Names m (segments (path_in target)) r → cell (row_of r) method ≡ Some a → a ≡ asked
  action_is r a named is = some_one a asked (sym is ∙ ap (λ (q : Resource). cell (row_of q) method) (one r named) ∙ in_cell)

  known : (a : Action) → a ≡ asked → AsksNowhere m a → ⊥
  known a is nowhere =
      let at : MatchOption (Some n.version) ⊥ (λ name. IsUnknown m name) =
      subst (λ (o : Option (List ℕ)). MatchOption o ⊥ (λ name. IsUnknown m name)) version (subst (λ (b : Action). AsksNowhere m b) is nowhere) in
      at it.v it.version.0 it.version.1

  -- the route is a call
  data IsCalled (body : List ℕ) : Route → Type 0 where
    called : (p : Paging) (v : ℕ) → IsVersion m n.version v → ReadsQuery asked (pairs_of (query_in target)) (paged p) → IsCalled body (route.calls (call_of asked v body p))

  routed : (body : List ℕ) (rt : Route) → Routes m method target body rt → IsCalled body rt
  routed body (route.calls c) r =
      let same = action_is r.0 r.1 r.4.asks.named r.4.asks.asked in
      let at : IfSome (Some n.version) (λ name. IsVersion m name r.3) =
      subst (λ (o : Option (List ℕ)). IfSome o (λ name. IsVersion m name r.3)) version (subst (λ (a : Action). AsksAt m a r.3) same r.5) in
      let reads = subst (λ (a : Action). ReadsQuery a (pairs_of (query_in target)) (paged r.2)) same r.4.query in
      subst (λ (d : calls.Call). IsCalled body (route.calls d)) (sym (r.6 ∙ ap (λ (a : Action). call_of a r.3 body r.2) same)) (called r.2 r.3 at reads)
  routed body route.no_resource (inl nothing) = absurd (nothing the is_named.0 is_named.1)
  routed body route.no_resource (inr r) = absurd (known r.1 (action_is r.0 r.1 r.3.asks.named r.3.asks.asked) r.4)
  routed body route.method_not_allowed r =
      absurd (none_some asked (sym r.2 ∙ ap (λ (q : Resource). cell (row_of q) method) (one r.0 r.1) ∙ in_cell))
  routed body (route.bad_request why) r =
      absurd (fits why (subst (λ (a : Action). ReadsQuery a (pairs_of (query_in target)) (bad why)) (action_is r.0 r.1 r.2.named r.2.asked) r.3))

-- ---- a list

regrouped : (a g s v p q d t : List ℕ) → (((((a ++ g) ++ (s ++ v)) ++ (s ++ p)) ++ (q ++ d)) ++ t) ≡ a ++ (g ++ (s ++ (v ++ (s ++ (p ++ (q ++ (d ++ t)))))))
regrouped a g s v p q d t = simp append_assoc

abbrev query_of : ℕ → List ℕ → List ℕ
query_of limit token = codes "limit=" ++ (decimal limit ++ token_query token)

abbrev target_parts : Names → ℕ → List ℕ → List ℕ
target_parts n limit token = [] ++ slash ∷ (codes "apis" ++ slash ∷ (n.group ++ slash ∷ (n.version ++ slash ∷ (n.plural ++ question_mark ∷ query_of limit token))))

target_is : (n : Names) (limit : ℕ) (token : List ℕ) → target_of n (lists limit token) ≡ target_parts n limit token
unfolding version_path limit_query
target_is n limit token = regrouped (codes "/apis/") n.group (codes "/") n.version n.plural (codes "?limit=") (decimal limit) (token_query token)

abbrev list_path : Names → List (List ℕ)
list_path n = [] ∷ codes "apis" ∷ n.group ∷ n.version ∷ n.plural ∷ []

list_segments : (n : Names) (limit : ℕ) (token : List ℕ) → AreNames n → segments (path_in (target_of n (lists limit token))) ≡ list_path n
list_segments n limit token names =
    let group = plain_names n.group (name_of_names n.group names.group) in
    let version = plain_names n.version (namespace_of_names n.version names.version) in
    let plural = plain_names n.plural (namespace_of_names n.plural names.plural) in
    let s4 = segments_mark n.plural (query_of limit token) plural in
    let s3 = segments_slash n.version (n.plural ++ question_mark ∷ query_of limit token) version ∙ ap (λ (ss : List (List ℕ)). n.version ∷ ss) s4 in
    let s2 = segments_slash n.group (n.version ++ slash ∷ (n.plural ++ question_mark ∷ query_of limit token)) group ∙ ap (λ (ss : List (List ℕ)). n.group ∷ ss) s3 in
    let s1 = segments_slash (codes "apis") (n.group ++ slash ∷ (n.version ++ slash ∷ (n.plural ++ question_mark ∷ query_of limit token))) (plain_names (codes "apis") refl)
    ∙ ap (λ (ss : List (List ℕ)). codes "apis" ∷ ss) s2 in
    ap (λ (t : List ℕ). segments (path_in t)) (target_is n limit token)
    ∙ segments_slash [] (codes "apis" ++ slash ∷ (n.group ++ slash ∷ (n.version ++ slash ∷ (n.plural ++ question_mark ∷ query_of limit token)))) (All-nil IsPlain)
    ∙ ap (λ (ss : List (List ℕ)). [] ∷ ss) s1

list_query : (n : Names) (limit : ℕ) (token : List ℕ) → AreNames n → query_in (target_of n (lists limit token)) ≡ query_of limit token
list_query n limit token names =
    let group = plain_names n.group (name_of_names n.group names.group) in
    let version = plain_names n.version (namespace_of_names n.version names.version) in
    let plural = plain_names n.plural (namespace_of_names n.plural names.plural) in
    ap query_in (target_is n limit token)
    ∙ query_slash [] (codes "apis" ++ slash ∷ (n.group ++ slash ∷ (n.version ++ slash ∷ (n.plural ++ question_mark ∷ query_of limit token)))) (All-nil IsPlain)
    ∙ query_slash (codes "apis") (n.group ++ slash ∷ (n.version ++ slash ∷ (n.plural ++ question_mark ∷ query_of limit token))) (plain_names (codes "apis") refl)
    ∙ query_slash n.group (n.version ++ slash ∷ (n.plural ++ question_mark ∷ query_of limit token)) group
    ∙ query_slash n.version (n.plural ++ question_mark ∷ query_of limit token) version ∙ query_mark n.plural (query_of limit token) plural

list_cell : (v : List ℕ) → cell (row_of (path.everywhere v)) (codes "GET") ≡ Some (action.list v None)
unfolding cell
list_cell v = refl

collection_of : (m : Meaning) (r : Resource) (a g v p : List ℕ) → [] ∷ a ∷ g ∷ v ∷ p ∷ [] ≡ path_of m r → (r ≡ path.everywhere v) ⊎ (g ≡ migration_group)
collection_of m path.group a g v p is = cc
collection_of m (path.everywhere w) a g v p is = let same : w ≡ v = cc in inl (ap (λ (u : List ℕ). path.everywhere u) same)
collection_of m (path.collection w ns) a g v p is = cc
collection_of m (path.object w k) a g v p is = cc
collection_of m path.crd a g v p is = cc
collection_of m path.crd_status a g v p is = cc
collection_of m path.migrations a g v p is = let same : g ≡ migration_group = cc in inr same
collection_of m (path.migration name) a g v p is = cc
collection_of m (path.raw k) a g v p is = cc

other_group : (m : Meaning) (n : Names) → IsPlaceOf m n → n.group ≡ migration_group → ⊥
unfolding migration_group
other_group m n it is = it.other is

apis_is : codes "apis" ≡ apis_word
unfolding apis_word
apis_is = refl

namespaces_is : codes "namespaces" ≡ namespaces_word
unfolding namespaces_word
namespaces_is = refl

one_path : (m : Meaning) (a g v p : List ℕ) → a ≡ apis_word → g ≡ m.group → p ≡ m.plural → [] ∷ a ∷ g ∷ v ∷ p ∷ [] ≡ path_of m (path.everywhere v)
one_path m a g v p first second third = cc

of_migrations : (m : Meaning) (v : List ℕ) → path_of m (path.everywhere v) ≡ path_of m path.migrations → m.group ≡ migration_group
of_migrations m v e = cc

names_everywhere : (m : Meaning) (n : Names) → IsPlaceOf m n → path.Names m (list_path n) (path.everywhere n.version)
names_everywhere m n it = (
  (λ (e : path_of m (path.everywhere n.version) ≡ path_of m path.migrations). other_group m n it (it.group ∙ of_migrations m n.version e)),
  one_path m (codes "apis") n.group n.version n.plural apis_is it.group it.plural,
)

-- the list of the client's call, up to its limit and behind its token
pub record IsListCall (m : Meaning) (n : Names) (limit : ℕ) (token : List ℕ) (c : calls.Call) : Type 0 where
  pub v : ℕ
  pub version : IsVersion m n.version v
  pub from : Option Place
  pub goes_on : query.GoesOn None token from
  pub is : c ≡ calls.list v None limit from

-- the route is such a list
pub data IsListRoute (m : Meaning) (n : Names) (limit : ℕ) (token : List ℕ) : Route → Type 0 where
  lists_it : (c : calls.Call) → IsListCall m n limit token c → IsListRoute m n limit token (route.calls c)

module _ (m : Meaning) (n : Names) (names : AreNames n) (it : IsPlaceOf m n) (limit : ℕ) (token : List ℕ) (few : limit ≤ 500) (told : (token ≡ []) ⊎ IsTold token) where
  abbrev list_target : List ℕ
  list_target = target_of n (lists limit token)

  only_list : (r : Resource) → path.Names m (segments (path_in list_target)) r → r ≡ path.everywhere n.version
  only_list r named = by (collection_of m r (codes "apis") n.group n.version n.plural (sym (list_segments n limit token names) ∙ named.1))
    where
      by : (r ≡ path.everywhere n.version) ⊎ (n.group ≡ migration_group) → r ≡ path.everywhere n.version
      by (inl is) = is
      by (inr is) = absurd (other_group m n it is)

  list_named : path.Names m (segments (path_in list_target)) (path.everywhere n.version)
  list_named =
      subst (λ (ss : List (List ℕ)). path.Names m ss (path.everywhere n.version)) (sym (list_segments n limit token names))
      (names_everywhere m n it)

  list_fits : (why : WhyView) → ReadsQuery (action.list n.version None) (pairs_of (query_in list_target)) (bad why) → ⊥
  list_fits why reads =
      not_bad limit token why few (small_token token told).ascii told
      (subst (λ (q : List ℕ). query.ListReads None (pairs_of q) (bad why)) (list_query n limit token names) reads)

  pub list_route : (body : List ℕ) (rt : Route) → Routes m (codes "GET") list_target body rt → IsListRoute m n limit token rt
  list_route body rt r =
      by rt (routed m n it (codes "GET") list_target (path.everywhere n.version) (action.list n.version None) list_named only_list (list_cell n.version) refl list_fits body rt r)
    where
      by : (q : Route) → IsCalled m n it (codes "GET") list_target (path.everywhere n.version) (action.list n.version None) list_named only_list (list_cell n.version) refl list_fits body q
          → IsListRoute m n limit token q
      by _ (called p v known reads) =
          let paging = is_paged limit token p few (small_token token told).ascii (subst (λ (q : List ℕ). query.ListReads None (pairs_of q) (paged p)) (list_query n limit token names) reads) in
          lists_it (calls.list v None p.limit p.from) (record {
            v = v;
            version = known;
            from = p.from;
            goes_on = paging.1;
            is = ap (λ (most : ℕ). calls.list v None most p.from) paging.0;
          })

-- ---- an object

abbrev object_parts : Names → KeyView → List ℕ
object_parts n key = [] ++ slash ∷ (codes "apis" ++ slash ∷ (n.group ++ slash ∷ (n.version ++ slash ∷ (codes "namespaces" ++ slash ∷ (key.ns ++ slash ∷ (n.plural ++ slash ∷ key.name))))))

object_regrouped : (a g s v b ns p name : List ℕ) → (((((a ++ g) ++ (s ++ v)) ++ (b ++ ns)) ++ (s ++ p)) ++ (s ++ name)) ≡ a ++ (g ++ (s ++ (v ++ (b ++ (ns ++ (s ++ (p ++ (s ++ name))))))))
object_regrouped a g s v b ns p name = simp append_assoc

object_target : (n : Names) (key : KeyView) → at_key n key ≡ object_parts n key
unfolding version_path
object_target n key = object_regrouped (codes "/apis/") n.group (codes "/") n.version (codes "/namespaces/") key.ns n.plural key.name

object_query : (n : Names) (key : KeyView) → AreNames n → IsKey key → query_in (at_key n key) ≡ []
object_query n key names valid =
    let group = plain_names n.group (name_of_names n.group names.group) in
    let version = plain_names n.version (namespace_of_names n.version names.version) in
    let plural = plain_names n.plural (namespace_of_names n.plural names.plural) in
    let ns = plain_names key.ns (namespace_of_names key.ns valid.ns) in
    let name = plain_names key.name (name_of_names key.name valid.name) in
    ap query_in (object_target n key)
    ∙ query_slash [] (codes "apis" ++ slash ∷ (n.group ++ slash ∷ (n.version ++ slash ∷ (codes "namespaces" ++ slash ∷ (key.ns ++ slash ∷ (n.plural ++ slash ∷ key.name)))))) (All-nil IsPlain)
    ∙ query_slash (codes "apis") (n.group ++ slash ∷ (n.version ++ slash ∷ (codes "namespaces" ++ slash ∷ (key.ns ++ slash ∷ (n.plural ++ slash ∷ key.name))))) (plain_names (codes "apis") refl)
    ∙ query_slash n.group (n.version ++ slash ∷ (codes "namespaces" ++ slash ∷ (key.ns ++ slash ∷ (n.plural ++ slash ∷ key.name)))) group
    ∙ query_slash n.version (codes "namespaces" ++ slash ∷ (key.ns ++ slash ∷ (n.plural ++ slash ∷ key.name))) version
    ∙ query_slash (codes "namespaces") (key.ns ++ slash ∷ (n.plural ++ slash ∷ key.name)) (plain_names (codes "namespaces") refl)
    ∙ query_slash key.ns (n.plural ++ slash ∷ key.name) ns ∙ query_slash n.plural key.name plural ∙ query_none key.name name

one_key : (k l : KeyView) → k.ns ≡ l.ns → k.name ≡ l.name → k ≡ l
one_key k l ns name = λ i. record { ns = ns i; name = name i }

object_of : (m : Meaning) (r : Resource) (a b c d e : List ℕ) (key : KeyView) → [] ∷ a ∷ b ∷ c ∷ d ∷ key.ns ∷ e ∷ key.name ∷ [] ≡ path_of m r → r ≡ path.object c key
object_of m path.group a b c d e key is = cc
object_of m (path.everywhere v) a b c d e key is = cc
object_of m (path.collection v ns) a b c d e key is = cc
object_of m (path.object v k) a b c d e key is =
    let ns : k.ns ≡ key.ns = cc in
    let name : k.name ≡ key.name = cc in
    let version : v ≡ c = cc in
    ap (λ (q : KeyView). path.object v q) (one_key k key ns name) ∙ ap (λ (w : List ℕ). path.object w key) version
object_of m path.crd a b c d e key is = cc
object_of m path.crd_status a b c d e key is = cc
object_of m path.migrations a b c d e key is = cc
object_of m (path.migration name) a b c d e key is = cc
object_of m (path.raw k) a b c d e key is = cc

object_path : (m : Meaning) (key : KeyView) (a g v b p : List ℕ) → a ≡ apis_word → g ≡ m.group → b ≡ namespaces_word → p ≡ m.plural
    → [] ∷ a ∷ g ∷ v ∷ b ∷ key.ns ∷ p ∷ key.name ∷ [] ≡ path_of m (path.object v key)
object_path m key a g v b p first second third fourth = cc

put_cell : (v : List ℕ) (key : KeyView) → cell (row_of (path.object v key)) (codes "PUT") ≡ Some (action.replace v key)
unfolding cell
put_cell v key = refl

get_cell : (v : List ℕ) (key : KeyView) → cell (row_of (path.object v key)) (codes "GET") ≡ Some (action.get v key)
unfolding cell
get_cell v key = refl

nothing_some : (key : List ℕ) → None ≡ Some key → ⊥
nothing_some key e = cc

-- the route is a call at the version that the place names
pub data IsRouteOf (m : Meaning) (n : Names) (call : ℕ → calls.Call) : Route → Type 0 where
  calls_it : (v : ℕ) → IsVersion m n.version v → IsRouteOf m n call (route.calls (call v))

module _ (m : Meaning) (n : Names) (names : AreNames n) (it : IsPlaceOf m n) (key : KeyView) (valid : IsKey key) where
  only_object : (r : Resource) → path.Names m (segments (path_in (at_key n key))) r → r ≡ path.object n.version key
  only_object r named = object_of m r (codes "apis") n.group n.version (codes "namespaces") n.plural key (sym (object_segments n key names valid) ∙ named.1)

  object_named : path.Names m (segments (path_in (at_key n key))) (path.object n.version key)
  object_named =
      subst (λ (ss : List (List ℕ)). path.Names m ss (path.object n.version key)) (sym (object_segments n key names valid))
      (valid, object_path m key (codes "apis") n.group n.version (codes "namespaces") n.plural apis_is it.group namespaces_is it.plural)

  no_query : (ps : Pairs) → (first_refused query.common_rules ps ≡ None) → (why : WhyView) → OtherReads ps (bad why) → ⊥
  no_query ps none why reads = nothing_some reads.0 (sym none ∙ reads.1)

  object_fits : (why : WhyView) → OtherReads (pairs_of (query_in (at_key n key))) (bad why) → ⊥
  object_fits why reads = no_query (pairs_of []) none_refused why (subst (λ (q : List ℕ). OtherReads (pairs_of q) (bad why)) (object_query n key names valid) reads)

  pub get_route : (body : List ℕ) (rt : Route) → Routes m (codes "GET") (at_key n key) body rt → IsRouteOf m n (λ v. calls.get v key) rt
  get_route body rt r =
      by rt (routed m n it (codes "GET") (at_key n key) (path.object n.version key) (action.get n.version key) object_named only_object (get_cell n.version key) refl object_fits body rt r)
    where
      by : (q : Route) → IsCalled m n it (codes "GET") (at_key n key) (path.object n.version key) (action.get n.version key) object_named only_object (get_cell n.version key) refl object_fits body q
          → IsRouteOf m n (λ v. calls.get v key) q
      by _ (called p v known reads) = calls_it v known

  pub put_route : (j : Json) (rt : Route) → Routes m (codes "PUT") (at_key n key) (text_of j) rt
      → IsRouteOf m n (λ v. calls.replace (record { version = v; ns = key.ns; name = Some key.name; bytes = text_of j }) key) rt
  put_route j rt r =
      by rt (routed m n it (codes "PUT") (at_key n key) (path.object n.version key) (action.replace n.version key) object_named only_object (put_cell n.version key) refl object_fits (text_of j) rt r)
    where
      by : (q : Route) → IsCalled m n it (codes "PUT") (at_key n key) (path.object n.version key) (action.replace n.version key) object_named only_object (put_cell n.version key) refl object_fits (text_of j) q
          → IsRouteOf m n (λ v. calls.replace (record { version = v; ns = key.ns; name = Some key.name; bytes = text_of j }) key) q
      by _ (called p v known reads) = calls_it v known
