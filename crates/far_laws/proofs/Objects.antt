-- The target of an object, and the call that a request for it is.
use Rattle.std.proofs.Common.{◌≡◌, ◌∙◌, refl, sym, ap, subst, ℕ, ◌<◌, ◌≤◌, List, [], ◌∷◌, ◌++◌, length, Some, codes, append_assoc, length-append, arith}
use Rattle.std.specs.Prelude.{IfSome}
use Rattle.std.proofs.lemmas.List.Elements.{All-nil}
use Rattle.httparse.specs.Grammar.{IsToken, is_token_byte}
use Rattle.kj_value.specs.Json.{Json}
use Rattle.kj_value.specs.Text.{text_of}
use Rattle.kube_meta.specs.Key.{KeyView}
use Rattle.api_calls.specs.Calls as calls
use Rattle.api_calls.specs.Meaning.{Meaning}
use Rattle.api_calls.proofs.Tokens.{name_fits, namespace_fits}
use Rattle.http_routes.specs.Actions as action
use Rattle.http_routes.specs.Actions.{Action, IsVersion, Paging, Row, call_of, cell, row_of, version_in}
use Rattle.http_routes.specs.Paths as path
use Rattle.http_routes.specs.Paths.{IsKey, IsResource, Resource, apis_word, crd_group, crd_name, crd_version, crds_word, migration_group, migration_version, migrations_word, namespaces_word, path_of, raw_word, segments, slash, status_word}
use Rattle.http_routes.specs.Routes as route
use Rattle.http_routes.specs.Routes.{IsPlain, Routes, path_in}
use Rattle.wire_laws.specs.Sendable.{is_visible}
use Rattle.wire_laws.proofs.Digits.{passes}
use Rattle.place.specs.Place.{Names}
use Rattle.wire_client.specs.Calls.{at_key, version_path}
use Rattle.far_laws.specs.Speaking.{AreNames}
use Rattle.far_laws.proofs.Asked.{IsAddressed}
use Rattle.far_laws.proofs.Segments.{OfNames, OfVisible, name_of_names, namespace_of_names, plain_names, segments_alone, segments_slash, visible_append, visible_names}

-- ---- the target

regrouped : (a g s v b ns p name : List ℕ) → (((((a ++ g) ++ (s ++ v)) ++ (b ++ ns)) ++ (s ++ p)) ++ (s ++ name)) ≡ a ++ (g ++ (s ++ (v ++ (b ++ (ns ++ (s ++ (p ++ (s ++ name))))))))
regrouped a g s v b ns p name = simp append_assoc

-- the segments behind one another
abbrev target_parts : Names → KeyView → List ℕ
target_parts n key = [] ++ slash ∷ (codes "apis" ++ slash ∷ (n.group ++ slash ∷ (n.version ++ slash ∷ (codes "namespaces" ++ slash ∷ (key.ns ++ slash ∷ (n.plural ++ slash ∷ key.name))))))

target_is : (n : Names) (key : KeyView) → at_key n key ≡ target_parts n key
unfolding version_path
target_is n key = regrouped (codes "/apis/") n.group (codes "/") n.version (codes "/namespaces/") key.ns n.plural key.name

apis_plain : OfNames (codes "apis")
apis_plain = refl

namespaces_plain : OfNames (codes "namespaces")
namespaces_plain = refl

pub object_segments : (n : Names) (key : KeyView) → AreNames n → IsKey key
    → segments (path_in (at_key n key)) ≡ [] ∷ codes "apis" ∷ n.group ∷ n.version ∷ codes "namespaces" ∷ key.ns ∷ n.plural ∷ key.name ∷ []
object_segments n key names valid =
    let group = plain_names n.group (name_of_names n.group names.group) in
    let version = plain_names n.version (namespace_of_names n.version names.version) in
    let plural = plain_names n.plural (namespace_of_names n.plural names.plural) in
    let ns = plain_names key.ns (namespace_of_names key.ns valid.ns) in
    let name = plain_names key.name (name_of_names key.name valid.name) in
    let s7 = segments_alone key.name name in
    let s6 = segments_slash n.plural key.name plural ∙ ap (λ (ss : List (List ℕ)). n.plural ∷ ss) s7 in
    let s5 = segments_slash key.ns (n.plural ++ slash ∷ key.name) ns ∙ ap (λ (ss : List (List ℕ)). key.ns ∷ ss) s6 in
    let s4 = segments_slash (codes "namespaces") (key.ns ++ slash ∷ (n.plural ++ slash ∷ key.name)) (plain_names (codes "namespaces") namespaces_plain)
    ∙ ap (λ (ss : List (List ℕ)). codes "namespaces" ∷ ss) s5 in
    let s3 = segments_slash n.version (codes "namespaces" ++ slash ∷ (key.ns ++ slash ∷ (n.plural ++ slash ∷ key.name))) version
    ∙ ap (λ (ss : List (List ℕ)). n.version ∷ ss) s4 in
    let s2 = segments_slash n.group (n.version ++ slash ∷ (codes "namespaces" ++ slash ∷ (key.ns ++ slash ∷ (n.plural ++ slash ∷ key.name)))) group
    ∙ ap (λ (ss : List (List ℕ)). n.group ∷ ss) s3 in
    let s1 = segments_slash (codes "apis") (n.group ++ slash ∷ (n.version ++ slash ∷ (codes "namespaces" ++ slash ∷ (key.ns ++ slash ∷ (n.plural ++ slash ∷ key.name)))))
    (plain_names (codes "apis") apis_plain)
    ∙ ap (λ (ss : List (List ℕ)). codes "apis" ∷ ss) s2 in
    ap (λ (t : List ℕ). segments (path_in t)) (target_is n key)
    ∙ segments_slash [] (codes "apis" ++ slash ∷ (n.group ++ slash ∷ (n.version ++ slash ∷ (codes "namespaces" ++ slash ∷ (key.ns ++ slash ∷ (n.plural ++ slash ∷ key.name)))))) (All-nil IsPlain)
    ∙ ap (λ (ss : List (List ℕ)). [] ∷ ss) s1

-- ---- what is sent

pub get_token : IsToken (codes "GET")
unfolding is_token_byte
get_token = (omega arith, passes is_token_byte (codes "GET") refl)

put_token : IsToken (codes "PUT")
unfolding is_token_byte
put_token = (omega arith, passes is_token_byte (codes "PUT") refl)

object_visible : (n : Names) (key : KeyView) → AreNames n → IsKey key → OfVisible (at_key n key)
unfolding version_path
object_visible n key names valid =
    let group = visible_names n.group (name_of_names n.group names.group) in
    let version = visible_names n.version (namespace_of_names n.version names.version) in
    let plural = visible_names n.plural (namespace_of_names n.plural names.plural) in
    let ns = visible_names key.ns (namespace_of_names key.ns valid.ns) in
    let name = visible_names key.name (name_of_names key.name valid.name) in
    let base = visible_append (codes "/apis/" ++ n.group) (codes "/" ++ n.version) (visible_append (codes "/apis/") n.group refl group) (visible_append (codes "/") n.version refl version) in
    let within = visible_append ((codes "/apis/" ++ n.group) ++ (codes "/" ++ n.version)) (codes "/namespaces/" ++ key.ns) base (visible_append (codes "/namespaces/") key.ns refl ns) in
    let all = visible_append (((codes "/apis/" ++ n.group) ++ (codes "/" ++ n.version)) ++ (codes "/namespaces/" ++ key.ns)) (codes "/" ++ n.plural) within (visible_append (codes "/") n.plural refl plural) in
    visible_append ((((codes "/apis/" ++ n.group) ++ (codes "/" ++ n.version)) ++ (codes "/namespaces/" ++ key.ns)) ++ (codes "/" ++ n.plural)) (codes "/" ++ key.name) all
    (visible_append (codes "/") key.name refl name)

object_long : (n : Names) (key : KeyView) → AreNames n → IsKey key → (length (at_key n key) ≤ 16_000) × (0 < length (at_key n key))
unfolding version_path
object_long n key names valid =
    let group = name_fits n.group names.group in
    let version = namespace_fits n.version names.version in
    let plural = namespace_fits n.plural names.plural in
    let ns = namespace_fits key.ns valid.ns in
    let name = name_fits key.name valid.name in
    (simp length-append (omega (arith, group, version, plural, ns, name)), simp length-append (omega arith))

addressed : (method : List ℕ) (target : List ℕ) → IsToken method → length method ≡ 3 → OfVisible target → (length target ≤ 16_000) × (0 < length target) → IsAddressed method target
addressed method target token three visible long =
    let most = long.0 in
    record {
      sendable = λ body head. record { token = token; some = long.1; visible = passes is_visible target visible; head = head };
      short = omega (arith, three, most);
    }

pub get_addressed : (target : List ℕ) → OfVisible target → (length target ≤ 16_000) × (0 < length target) → IsAddressed (codes "GET") target
get_addressed target visible long = addressed (codes "GET") target get_token refl visible long

pub object_gets : (n : Names) (key : KeyView) → AreNames n → IsKey key → IsAddressed (codes "GET") (at_key n key)
object_gets n key names valid = get_addressed (at_key n key) (object_visible n key names valid) (object_long n key names valid)

pub object_puts : (n : Names) (key : KeyView) → AreNames n → IsKey key → IsAddressed (codes "PUT") (at_key n key)
object_puts n key names valid = addressed (codes "PUT") (at_key n key) put_token refl (object_visible n key names valid) (object_long n key names valid)

-- ---- the route

-- the resource is the object of that key at that version
record IsObject (r : Resource) (version : List ℕ) (key : KeyView) : Type 0 where
  is : r ≡ path.object version key

one_key : (k l : KeyView) → k.ns ≡ l.ns → k.name ≡ l.name → k ≡ l
one_key k l ns name = λ i. record { ns = ns i; name = name i }

object_of : (m : Meaning) (r : Resource) (a b c d e : List ℕ) (key : KeyView) → [] ∷ a ∷ b ∷ c ∷ d ∷ key.ns ∷ e ∷ key.name ∷ [] ≡ path_of m r → IsObject r c key
object_of m path.group a b c d e key is = cc
object_of m (path.everywhere v) a b c d e key is = cc
object_of m (path.collection v ns) a b c d e key is = cc
object_of m (path.object v k) a b c d e key is =
    let ns : k.ns ≡ key.ns = cc in
    let name : k.name ≡ key.name = cc in
    let version : v ≡ c = cc in
    record { is = ap (λ (q : KeyView). path.object v q) (one_key k key ns name) ∙ ap (λ (w : List ℕ). path.object w key) version }
object_of m path.crd a b c d e key is = cc
object_of m path.crd_status a b c d e key is = cc
object_of m path.migrations a b c d e key is = cc
object_of m (path.migration name) a b c d e key is = cc
object_of m (path.raw k) a b c d e key is = cc

put_cell : (v : List ℕ) (key : KeyView) → cell (row_of (path.object v key)) (codes "PUT") ≡ Some (action.replace v key)
unfolding cell
put_cell v key = refl

get_cell : (v : List ℕ) (key : KeyView) → cell (row_of (path.object v key)) (codes "GET") ≡ Some (action.get v key)
unfolding cell
get_cell v key = refl

some_one : (a b : Action) → Some a ≡ Some b → a ≡ b
some_one a b e = cc

-- a put of an object is a replace
pub put_routed : (m : Meaning) (n : Names) (key : KeyView) (j : Json) (c : calls.Call) → AreNames n → IsKey key → Routes m (codes "PUT") (at_key n key) (text_of j) (route.calls c)
    → (v : ℕ) × IsVersion m n.version v × (c ≡ calls.replace (record { version = v; ns = key.ns; name = Some key.name; bytes = text_of j }) key)
put_routed m n key j c names valid r =
    let resource = r.0 in
    let asked = r.1 in
    let paging : Paging = r.2 in
    let place = r.3 in
    let object = object_of m resource (codes "apis") n.group n.version (codes "namespaces") n.plural key (sym (object_segments n key names valid) ∙ r.4.asks.named.1) in
    let same : asked ≡ action.replace n.version key =
    some_one asked (action.replace n.version key)
    (sym r.4.asks.asked ∙ ap (λ (q : Resource). cell (row_of q) (codes "PUT")) object.is ∙ put_cell n.version key) in
    let known : IsVersion m n.version place = subst (λ (a : Action). IfSome (version_in a) (λ name. IsVersion m name place)) same r.5 in
    (place, known, r.6 ∙ ap (λ (a : Action). call_of a place (text_of j) paging) same)

pub get_routed : (m : Meaning) (n : Names) (key : KeyView) (body : List ℕ) (c : calls.Call) → AreNames n → IsKey key → Routes m (codes "GET") (at_key n key) body (route.calls c)
    → (v : ℕ) × IsVersion m n.version v × (c ≡ calls.get v key)
get_routed m n key body c names valid r =
    let resource = r.0 in
    let asked = r.1 in
    let paging : Paging = r.2 in
    let place = r.3 in
    let object = object_of m resource (codes "apis") n.group n.version (codes "namespaces") n.plural key (sym (object_segments n key names valid) ∙ r.4.asks.named.1) in
    let same : asked ≡ action.get n.version key =
    some_one asked (action.get n.version key)
    (sym r.4.asks.asked ∙ ap (λ (q : Resource). cell (row_of q) (codes "GET")) object.is ∙ get_cell n.version key) in
    let known : IsVersion m n.version place = subst (λ (a : Action). IfSome (version_in a) (λ name. IsVersion m name place)) same r.5 in
    (place, known, r.6 ∙ ap (λ (a : Action). call_of a place body paging) same)
