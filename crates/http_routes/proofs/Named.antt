-- Segments that name a resource.
use Rattle.std.proofs.Common.{◌≡◌, ◌∙◌, ℕ, true, List, [], ◌∷◌, Option, None, Some, ap, refl, sym, subst}
use Rattle.std.specs.Prelude.{IsTrue, IfSome, MatchOption}
use Rattle.std.specs.Borrow.{Bor}
use Rattle.kube_meta.specs.Names.{is_name, is_namespace}
use Rattle.api_calls.specs.Meaning.{Meaning}
use Rattle.http_routes.specs.Paths.{group, everywhere, collection, object, crd, crd_status, migrations, migration, raw, Names, NamesNothing, IsCrd, IsMigrations, IsNamespaced, path_of, crd_name, apis_word, namespaces_word, crd_group, crd_version, crds_word, migration_group, migration_version, migrations_word, raw_word, status_word}
use Rattle.http_routes.specs.Views.{resource_of, Finds, FitsResource}
use Rattle.http_routes.specs.declared.resource.Resource as resources
use Rattle.http_routes.specs.declared.finding.Found.{Found}
use Rattle.http_routes.specs.declared.finding.Found.TheVariants as finds

-- a text that was found for a part
abbrev pub IsNamespaceOf : List ℕ → List ℕ → Type 0
IsNamespaceOf part text = (text ≡ part) × (is_namespace part ≡ true)

abbrev pub IsNameOf : List ℕ → List ℕ → Type 0
IsNameOf part text = (text ≡ part) × (is_name part ≡ true)

good_namespace : (part text : List ℕ) → IsNamespaceOf part text → IsTrue (is_namespace text)
good_namespace part text h = ap is_namespace h.0 ∙ h.1

good_name : (part text : List ℕ) → IsNameOf part text → IsTrue (is_name text)
good_name part text h = ap is_name h.0 ∙ h.1

pub names_group : (m : Meaning) (a b : List ℕ) → a ≡ apis_word → b ≡ m.group → Names m ([] ∷ a ∷ b ∷ []) group
names_group m a b p q = (tt, cc)

pub names_raw : (m : Meaning) (a b c ns name : List ℕ) → a ≡ raw_word → IsNamespaceOf b ns → IsNameOf c name
    → Names m ([] ∷ a ∷ b ∷ c ∷ []) (raw (record { ns = ns; name = name }))
names_raw m a b c ns name p h k =
    let q : ns ≡ b = h.0 in
    let r : name ≡ c = k.0 in
    (record { ns = good_namespace b ns h; name = good_name c name k }, cc)

pub names_migrations : (m : Meaning) (a b c d : List ℕ) → IsMigrations a b c d → Names m ([] ∷ a ∷ b ∷ c ∷ d ∷ []) migrations
names_migrations m a b c d h = let p : a ≡ apis_word = h.0 in
    let q : b ≡ migration_group = h.1 in
    let r : c ≡ migration_version = h.2 in
    let s : d ≡ migrations_word = h.3 in
    (tt, cc)

pub names_everywhere : (m : Meaning) (a b c d : List ℕ) → (IsMigrations a b c d → ⊥)
    → a ≡ apis_word → b ≡ m.group → d ≡ m.plural → Names m ([] ∷ a ∷ b ∷ c ∷ d ∷ []) (everywhere c)
names_everywhere m a b c d other p q s =
    (λ (e : path_of m (everywhere c) ≡ path_of m migrations). other (cc, cc, cc, cc), cc)

pub names_crd : (m : Meaning) (a b c d f : List ℕ) → IsCrd a b c d → f ≡ crd_name m → Names m ([] ∷ a ∷ b ∷ c ∷ d ∷ f ∷ []) crd
names_crd m a b c d f h t = let p : a ≡ apis_word = h.0 in
    let q : b ≡ crd_group = h.1 in
    let r : c ≡ crd_version = h.2 in
    let s : d ≡ crds_word = h.3 in
    (tt, cc)

pub names_migration : (m : Meaning) (a b c d f name : List ℕ) → IsMigrations a b c d → IsNameOf f name
    → Names m ([] ∷ a ∷ b ∷ c ∷ d ∷ f ∷ []) (migration name)
names_migration m a b c d f name h k =
    let p : a ≡ apis_word = h.0 in
    let q : b ≡ migration_group = h.1 in
    let r : c ≡ migration_version = h.2 in
    let s : d ≡ migrations_word = h.3 in
    let t : name ≡ f = k.0 in
    (good_name f name k, cc)

pub names_crd_status : (m : Meaning) (a b c d f g : List ℕ) → IsCrd a b c d → f ≡ crd_name m → g ≡ status_word
    → Names m ([] ∷ a ∷ b ∷ c ∷ d ∷ f ∷ g ∷ []) crd_status
names_crd_status m a b c d f g h t u = let p : a ≡ apis_word = h.0 in
    let q : b ≡ crd_group = h.1 in
    let r : c ≡ crd_version = h.2 in
    let s : d ≡ crds_word = h.3 in
    (tt, cc)

pub names_collection : (m : Meaning) (a b c d f g ns : List ℕ) → IsNamespaced m a b d g → IsNamespaceOf f ns
    → Names m ([] ∷ a ∷ b ∷ c ∷ d ∷ f ∷ g ∷ []) (collection c ns)
names_collection m a b c d f g ns h k =
    let p : a ≡ apis_word = h.0 in
    let q : b ≡ m.group = h.1 in
    let s : d ≡ namespaces_word = h.2 in
    let t : g ≡ m.plural = h.3 in
    let u : ns ≡ f = k.0 in
    (good_namespace f ns k, cc)

pub names_object : (m : Meaning) (a b c d f g h ns name : List ℕ) → IsNamespaced m a b d g
    → IsNamespaceOf f ns → IsNameOf h name
    → Names m ([] ∷ a ∷ b ∷ c ∷ d ∷ f ∷ g ∷ h ∷ []) (object c (record { ns = ns; name = name }))
names_object m a b c d f g h ns name i k l =
    let p : a ≡ apis_word = i.0 in
    let q : b ≡ m.group = i.1 in
    let s : d ≡ namespaces_word = i.2 in
    let t : g ≡ m.plural = i.3 in
    let u : ns ≡ f = k.0 in
    let w : name ≡ h = l.0 in
    (record { ns = good_namespace f ns k; name = good_name h name l }, cc)

-- ---- what is found

pub finds_option : (m : Meaning) (ss : List (List ℕ)) (query : Bor (List ℕ)) (found : Option resources.Resource) (f : Found)
    → MatchOption found (f ≡ finds.Nothing) (λ r. f ≡ finds.Named r query)
    → MatchOption found (NamesNothing m ss) (λ r. Names m ss (resource_of r)) → IfSome found FitsResource → Finds m ss query.now f
finds_option m ss query None f is names fits = subst (Finds m ss query.now) (sym is) names
finds_option m ss query (Some r) f is names fits = subst (Finds m ss query.now) (sym is) (names, fits, refl)
