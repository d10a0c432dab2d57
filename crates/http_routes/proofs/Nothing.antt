-- Segments that name nothing, by how many there are: only some lines of the table have so many.
use Rattle.std.proofs.Common.{◌≡◌, ◌≢◌, ◌==◌, true, false, ◌∙◌, ◌<◌, ◌≤◌, ℕ, List, [], ◌∷◌, Option, Some, None, get_or, length, refl, ap, sym, arith, lit≤}
use Rattle.std.specs.Prelude.{IsTrue, MatchOption}
use Rattle.std.proofs.lemmas.Bool.Decides.{nat_tests}
use Rattle.kube_meta.specs.Names.{is_name, is_namespace}
use Rattle.api_calls.specs.Meaning.{Meaning}
use Rattle.http_routes.specs.Paths.{Resource, group, everywhere, collection, object, crd, crd_status, migrations, migration, raw, NamesNothing, IsCrd, IsMigrations, IsNamespaced, path_of, crd_name, apis_word, namespaces_word, crd_group, crd_version, crds_word, migration_group, migration_version, migrations_word, raw_word, status_word}

pub nothing_three : (m : Meaning) (a b : List ℕ) → (a ≡ apis_word → b ≡ m.group → ⊥) → NamesNothing m ([] ∷ a ∷ b ∷ [])
nothing_three m a b never group served e = never (cc) (cc)
nothing_three m a b never (everywhere v) served e = cc
nothing_three m a b never (collection v ns) served e = cc
nothing_three m a b never (object v key) served e = cc
nothing_three m a b never crd served e = cc
nothing_three m a b never crd_status served e = cc
nothing_three m a b never migrations served e = cc
nothing_three m a b never (migration name) served e = cc
nothing_three m a b never (raw key) served e = cc

pub nothing_four : (m : Meaning) (a b c : List ℕ) → (a ≡ raw_word → IsTrue (is_namespace b) → IsTrue (is_name c) → ⊥)
    → NamesNothing m ([] ∷ a ∷ b ∷ c ∷ [])
nothing_four m a b c never group served e = cc
nothing_four m a b c never (everywhere v) served e = cc
nothing_four m a b c never (collection v ns) served e = cc
nothing_four m a b c never (object v key) served e = cc
nothing_four m a b c never crd served e = cc
nothing_four m a b c never crd_status served e = cc
nothing_four m a b c never migrations served e = cc
nothing_four m a b c never (migration name) served e = cc
nothing_four m a b c never (raw key) served e =
    let ns : key.ns ≡ b = cc in
    let name : key.name ≡ c = cc in
    never (cc) (rw ns at served.ns) (rw name at served.name)

pub nothing_five : (m : Meaning) (a b c d : List ℕ)
    → (a ≡ apis_word → b ≡ m.group → d ≡ m.plural → ⊥)
    → (IsMigrations a b c d → ⊥)
    → NamesNothing m ([] ∷ a ∷ b ∷ c ∷ d ∷ [])
nothing_five m a b c d all never group served e = cc
nothing_five m a b c d all never (everywhere v) served e = all (cc) (cc) (cc)
nothing_five m a b c d all never (collection v ns) served e = cc
nothing_five m a b c d all never (object v key) served e = cc
nothing_five m a b c d all never crd served e = cc
nothing_five m a b c d all never crd_status served e = cc
nothing_five m a b c d all never migrations served e = never (cc, cc, cc, cc)
nothing_five m a b c d all never (migration name) served e = cc
nothing_five m a b c d all never (raw key) served e = cc

pub nothing_six : (m : Meaning) (a b c d f : List ℕ)
    → (IsCrd a b c d → f ≡ crd_name m → ⊥)
    → (IsMigrations a b c d → IsTrue (is_name f) → ⊥)
    → NamesNothing m ([] ∷ a ∷ b ∷ c ∷ d ∷ f ∷ [])
nothing_six m a b c d f defined never group served e = cc
nothing_six m a b c d f defined never (everywhere v) served e = cc
nothing_six m a b c d f defined never (collection v ns) served e = cc
nothing_six m a b c d f defined never (object v key) served e = cc
nothing_six m a b c d f defined never crd served e = defined (cc, cc, cc, cc) (cc)
nothing_six m a b c d f defined never crd_status served e = cc
nothing_six m a b c d f defined never migrations served e = cc
nothing_six m a b c d f defined never (migration name) served e =
    let same : name ≡ f = cc in
    never (cc, cc, cc, cc) (rw same at served)
nothing_six m a b c d f defined never (raw key) served e = cc

pub nothing_seven : (m : Meaning) (a b c d f g : List ℕ)
    → (IsCrd a b c d → f ≡ crd_name m → g ≡ status_word → ⊥)
    → (IsNamespaced m a b d g → IsTrue (is_namespace f) → ⊥)
    → NamesNothing m ([] ∷ a ∷ b ∷ c ∷ d ∷ f ∷ g ∷ [])
nothing_seven m a b c d f g defined never group served e = cc
nothing_seven m a b c d f g defined never (everywhere v) served e = cc
nothing_seven m a b c d f g defined never (collection v ns) served e =
    let same : ns ≡ f = cc in
    never (cc, cc, cc, cc) (rw same at served)
nothing_seven m a b c d f g defined never (object v key) served e = cc
nothing_seven m a b c d f g defined never crd served e = cc
nothing_seven m a b c d f g defined never crd_status served e = defined (cc, cc, cc, cc) (cc) (cc)
nothing_seven m a b c d f g defined never migrations served e = cc
nothing_seven m a b c d f g defined never (migration name) served e = cc
nothing_seven m a b c d f g defined never (raw key) served e = cc

pub nothing_eight : (m : Meaning) (a b c d f g h : List ℕ)
    → (IsNamespaced m a b d g → IsTrue (is_namespace f) → IsTrue (is_name h) → ⊥)
    → NamesNothing m ([] ∷ a ∷ b ∷ c ∷ d ∷ f ∷ g ∷ h ∷ [])
nothing_eight m a b c d f g h never group served e = cc
nothing_eight m a b c d f g h never (everywhere v) served e = cc
nothing_eight m a b c d f g h never (collection v ns) served e = cc
nothing_eight m a b c d f g h never (object v key) served e =
    let ns : key.ns ≡ f = cc in
    let name : key.name ≡ h = cc in
    never (cc, cc, cc, cc) (rw ns at served.ns) (rw name at served.name)
nothing_eight m a b c d f g h never crd served e = cc
nothing_eight m a b c d f g h never crd_status served e = cc
nothing_eight m a b c d f g h never migrations served e = cc
nothing_eight m a b c d f g h never (migration name) served e = cc
nothing_eight m a b c d f g h never (raw key) served e = cc

-- ---- paths of two kinds

groups_differ : crd_group ≡ migration_group → ⊥
unfolding crd_group migration_group
groups_differ e = let first : 97 ≡ 115 = ap (λ (xs : List ℕ). get_or xs 0 0) e in omega (arith, first)

words_differ : crds_word ≡ namespaces_word → ⊥
unfolding crds_word namespaces_word
words_differ e = let first : 99 ≡ 110 = ap (λ (xs : List ℕ). get_or xs 0 0) e in omega (arith, first)

pub not_both : (a b c d : List ℕ) → IsCrd a b c d → IsMigrations a b c d → ⊥
not_both a b c d h k =
    let p : b ≡ crd_group = h.1 in
    let q : b ≡ migration_group = k.1 in
    groups_differ (sym p ∙ q)

pub not_namespaced : (m : Meaning) (a b c d g : List ℕ) → IsCrd a b c d → IsNamespaced m a b d g → ⊥
not_namespaced m a b c d g h k =
    let p : d ≡ crds_word = h.3 in
    let q : d ≡ namespaces_word = k.2 in
    words_differ (sym p ∙ q)

-- the last part of the first ones of the definition's path
pub crds_found : {X : Type 0} (r : Option X) (a b c d : List ℕ) → a ≡ apis_word → b ≡ crd_group → c ≡ crd_version
    → MatchOption r (d ≢ crds_word) (λ _. d ≡ crds_word) → MatchOption r (IsCrd a b c d → ⊥) (λ _. IsCrd a b c d)
crds_found None a b c d p q s found = λ h. found h.3
crds_found (Some x) a b c d p q s found = (p, q, s, found)

pub migrations_found : {X : Type 0} (r : Option X) (a b c d : List ℕ) → a ≡ apis_word → b ≡ migration_group → c ≡ migration_version
    → MatchOption r (d ≢ migrations_word) (λ _. d ≡ migrations_word) → MatchOption r (IsMigrations a b c d → ⊥) (λ _. IsMigrations a b c d)
migrations_found None a b c d p q s found = λ h. found h.3
migrations_found (Some x) a b c d p q s found = (p, q, s, found)

-- the last part of a path of namespaced objects
pub namespaced_found : {X : Type 0} (m : Meaning) (r : Option X) (a b d g : List ℕ) → a ≡ apis_word → b ≡ m.group → d ≡ namespaces_word
    → MatchOption r (g ≢ m.plural) (λ _. g ≡ m.plural) → MatchOption r (IsNamespaced m a b d g → ⊥) (λ _. IsNamespaced m a b d g)
namespaced_found m None a b d g p q s found = λ h. found h.3
namespaced_found m (Some x) a b d g p q s found = (p, q, s, found)

-- ---- what is as long as no line of the table, or begins with no empty segment

bounded : (m : Meaning) (r : Resource) → (3 ≤ length (path_of m r)) × (length (path_of m r) ≤ 8)
bounded m group = (lit≤ tt, lit≤ tt)
bounded m (everywhere v) = (lit≤ tt, lit≤ tt)
bounded m (collection v ns) = (lit≤ tt, lit≤ tt)
bounded m (object v key) = (lit≤ tt, lit≤ tt)
bounded m crd = (lit≤ tt, lit≤ tt)
bounded m crd_status = (lit≤ tt, lit≤ tt)
bounded m migrations = (lit≤ tt, lit≤ tt)
bounded m (migration name) = (lit≤ tt, lit≤ tt)
bounded m (raw key) = (lit≤ tt, lit≤ tt)

rooted : (m : Meaning) (r : Resource) → get_or (path_of m r) 0 [] ≡ []
rooted m group = refl
rooted m (everywhere v) = refl
rooted m (collection v ns) = refl
rooted m (object v key) = refl
rooted m crd = refl
rooted m crd_status = refl
rooted m migrations = refl
rooted m (migration name) = refl
rooted m (raw key) = refl

pub nothing_short : (m : Meaning) (ss : List (List ℕ)) → length ss < 3 → NamesNothing m ss
nothing_short m ss short r served e =
    let long : 3 ≤ length (path_of m r) = (bounded m r).0 in
    let same : length ss ≡ length (path_of m r) = ap length e in
    omega arith

pub nothing_long : (m : Meaning) (ss : List (List ℕ)) → 8 < length ss → NamesNothing m ss
nothing_long m ss long r served e =
    let short : length (path_of m r) ≤ 8 = (bounded m r).1 in
    let same : length ss ≡ length (path_of m r) = ap length e in
    omega arith

pub nothing_rootless : (m : Meaning) (ss : List (List ℕ)) → (get_or ss 0 [] ≡ [] → ⊥) → NamesNothing m ss
nothing_rootless m ss rootless r served e = rootless (ap (λ (ts : List (List ℕ)). get_or ts 0 []) e ∙ rooted m r)

-- ---- so many segments

pub of_three : (ss : List (List ℕ)) → length ss ≡ 3 → ss ≡ get_or ss 0 [] ∷ get_or ss 1 [] ∷ get_or ss 2 [] ∷ []
of_three [] e = let never : ⊥ = omega arith in absurd never
of_three (a ∷ []) e = let never : ⊥ = omega arith in absurd never
of_three (a ∷ b ∷ []) e = let never : ⊥ = omega arith in absurd never
of_three (a ∷ b ∷ c ∷ []) e = refl
of_three (a ∷ b ∷ c ∷ x ∷ xs) e = let never : ⊥ = omega arith in absurd never

pub of_four : (ss : List (List ℕ)) → length ss ≡ 4 → ss ≡ get_or ss 0 [] ∷ get_or ss 1 [] ∷ get_or ss 2 [] ∷ get_or ss 3 [] ∷ []
of_four [] e = let never : ⊥ = omega arith in absurd never
of_four (a ∷ []) e = let never : ⊥ = omega arith in absurd never
of_four (a ∷ b ∷ []) e = let never : ⊥ = omega arith in absurd never
of_four (a ∷ b ∷ c ∷ []) e = let never : ⊥ = omega arith in absurd never
of_four (a ∷ b ∷ c ∷ d ∷ []) e = refl
of_four (a ∷ b ∷ c ∷ d ∷ x ∷ xs) e = let never : ⊥ = omega arith in absurd never

pub of_five : (ss : List (List ℕ)) → length ss ≡ 5 → ss ≡ get_or ss 0 [] ∷ get_or ss 1 [] ∷ get_or ss 2 [] ∷ get_or ss 3 [] ∷ get_or ss 4 [] ∷ []
of_five [] e = let never : ⊥ = omega arith in absurd never
of_five (a ∷ []) e = let never : ⊥ = omega arith in absurd never
of_five (a ∷ b ∷ []) e = let never : ⊥ = omega arith in absurd never
of_five (a ∷ b ∷ c ∷ []) e = let never : ⊥ = omega arith in absurd never
of_five (a ∷ b ∷ c ∷ d ∷ []) e = let never : ⊥ = omega arith in absurd never
of_five (a ∷ b ∷ c ∷ d ∷ f ∷ []) e = refl
of_five (a ∷ b ∷ c ∷ d ∷ f ∷ x ∷ xs) e = let never : ⊥ = omega arith in absurd never

pub of_six : (ss : List (List ℕ)) → length ss ≡ 6 → ss ≡ get_or ss 0 [] ∷ get_or ss 1 [] ∷ get_or ss 2 [] ∷ get_or ss 3 [] ∷ get_or ss 4 [] ∷ get_or ss 5 [] ∷ []
of_six [] e = let never : ⊥ = omega arith in absurd never
of_six (a ∷ []) e = let never : ⊥ = omega arith in absurd never
of_six (a ∷ b ∷ []) e = let never : ⊥ = omega arith in absurd never
of_six (a ∷ b ∷ c ∷ []) e = let never : ⊥ = omega arith in absurd never
of_six (a ∷ b ∷ c ∷ d ∷ []) e = let never : ⊥ = omega arith in absurd never
of_six (a ∷ b ∷ c ∷ d ∷ f ∷ []) e = let never : ⊥ = omega arith in absurd never
of_six (a ∷ b ∷ c ∷ d ∷ f ∷ g ∷ []) e = refl
of_six (a ∷ b ∷ c ∷ d ∷ f ∷ g ∷ x ∷ xs) e = let never : ⊥ = omega arith in absurd never

pub of_seven : (ss : List (List ℕ)) → length ss ≡ 7 → ss ≡ get_or ss 0 [] ∷ get_or ss 1 [] ∷ get_or ss 2 [] ∷ get_or ss 3 [] ∷ get_or ss 4 [] ∷ get_or ss 5 [] ∷ get_or ss 6 [] ∷ []
of_seven [] e = let never : ⊥ = omega arith in absurd never
of_seven (a ∷ []) e = let never : ⊥ = omega arith in absurd never
of_seven (a ∷ b ∷ []) e = let never : ⊥ = omega arith in absurd never
of_seven (a ∷ b ∷ c ∷ []) e = let never : ⊥ = omega arith in absurd never
of_seven (a ∷ b ∷ c ∷ d ∷ []) e = let never : ⊥ = omega arith in absurd never
of_seven (a ∷ b ∷ c ∷ d ∷ f ∷ []) e = let never : ⊥ = omega arith in absurd never
of_seven (a ∷ b ∷ c ∷ d ∷ f ∷ g ∷ []) e = let never : ⊥ = omega arith in absurd never
of_seven (a ∷ b ∷ c ∷ d ∷ f ∷ g ∷ h ∷ []) e = refl
of_seven (a ∷ b ∷ c ∷ d ∷ f ∷ g ∷ h ∷ x ∷ xs) e = let never : ⊥ = omega arith in absurd never

pub of_eight : (ss : List (List ℕ)) → length ss ≡ 8 → ss ≡ get_or ss 0 [] ∷ get_or ss 1 [] ∷ get_or ss 2 [] ∷ get_or ss 3 [] ∷ get_or ss 4 [] ∷ get_or ss 5 [] ∷ get_or ss 6 [] ∷ get_or ss 7 [] ∷ []
of_eight [] e = let never : ⊥ = omega arith in absurd never
of_eight (a ∷ []) e = let never : ⊥ = omega arith in absurd never
of_eight (a ∷ b ∷ []) e = let never : ⊥ = omega arith in absurd never
of_eight (a ∷ b ∷ c ∷ []) e = let never : ⊥ = omega arith in absurd never
of_eight (a ∷ b ∷ c ∷ d ∷ []) e = let never : ⊥ = omega arith in absurd never
of_eight (a ∷ b ∷ c ∷ d ∷ f ∷ []) e = let never : ⊥ = omega arith in absurd never
of_eight (a ∷ b ∷ c ∷ d ∷ f ∷ g ∷ []) e = let never : ⊥ = omega arith in absurd never
of_eight (a ∷ b ∷ c ∷ d ∷ f ∷ g ∷ h ∷ []) e = let never : ⊥ = omega arith in absurd never
of_eight (a ∷ b ∷ c ∷ d ∷ f ∷ g ∷ h ∷ i ∷ []) e = refl
of_eight (a ∷ b ∷ c ∷ d ∷ f ∷ g ∷ h ∷ i ∷ x ∷ xs) e = let never : ⊥ = omega arith in absurd never

pub made_three : (ss : List (List ℕ)) (a b : List ℕ) → length ss ≡ 3 → get_or ss 0 [] ≡ [] → a ≡ get_or ss 1 [] → b ≡ get_or ss 2 [] → [] ∷ a ∷ b ∷ [] ≡ ss
made_three ss a b count root p q = let e : ss ≡ get_or ss 0 [] ∷ get_or ss 1 [] ∷ get_or ss 2 [] ∷ [] = of_three ss count in cc

pub made_four : (ss : List (List ℕ)) (a b c : List ℕ) → length ss ≡ 4 → get_or ss 0 [] ≡ [] → a ≡ get_or ss 1 [] → b ≡ get_or ss 2 [] → c ≡ get_or ss 3 [] → [] ∷ a ∷ b ∷ c ∷ [] ≡ ss
made_four ss a b c count root p q r = let e : ss ≡ get_or ss 0 [] ∷ get_or ss 1 [] ∷ get_or ss 2 [] ∷ get_or ss 3 [] ∷ [] = of_four ss count in cc

pub made_five : (ss : List (List ℕ)) (a b c d : List ℕ) → length ss ≡ 5 → get_or ss 0 [] ≡ []
    → a ≡ get_or ss 1 [] → b ≡ get_or ss 2 [] → c ≡ get_or ss 3 [] → d ≡ get_or ss 4 [] → [] ∷ a ∷ b ∷ c ∷ d ∷ [] ≡ ss
made_five ss a b c d count root p q r s = let e : ss ≡ get_or ss 0 [] ∷ get_or ss 1 [] ∷ get_or ss 2 [] ∷ get_or ss 3 [] ∷ get_or ss 4 [] ∷ [] = of_five ss count in cc

pub made_six : (ss : List (List ℕ)) (a b c d f : List ℕ) → length ss ≡ 6 → get_or ss 0 [] ≡ []
    → a ≡ get_or ss 1 [] → b ≡ get_or ss 2 [] → c ≡ get_or ss 3 [] → d ≡ get_or ss 4 [] → f ≡ get_or ss 5 [] → [] ∷ a ∷ b ∷ c ∷ d ∷ f ∷ [] ≡ ss
made_six ss a b c d f count root p q r s t = let e : ss ≡ get_or ss 0 [] ∷ get_or ss 1 [] ∷ get_or ss 2 [] ∷ get_or ss 3 [] ∷ get_or ss 4 [] ∷ get_or ss 5 [] ∷ [] = of_six ss count in cc

pub made_seven : (ss : List (List ℕ)) (a b c d f g : List ℕ) → length ss ≡ 7 → get_or ss 0 [] ≡ []
    → a ≡ get_or ss 1 [] → b ≡ get_or ss 2 [] → c ≡ get_or ss 3 [] → d ≡ get_or ss 4 [] → f ≡ get_or ss 5 [] → g ≡ get_or ss 6 [] → [] ∷ a ∷ b ∷ c ∷ d ∷ f ∷ g ∷ [] ≡ ss
made_seven ss a b c d f g count root p q r s t u = let e : ss ≡ get_or ss 0 [] ∷ get_or ss 1 [] ∷ get_or ss 2 [] ∷ get_or ss 3 [] ∷ get_or ss 4 [] ∷ get_or ss 5 [] ∷ get_or ss 6 [] ∷ [] = of_seven ss count in cc

pub made_eight : (ss : List (List ℕ)) (a b c d f g h : List ℕ) → length ss ≡ 8 → get_or ss 0 [] ≡ []
    → a ≡ get_or ss 1 [] → b ≡ get_or ss 2 [] → c ≡ get_or ss 3 [] → d ≡ get_or ss 4 [] → f ≡ get_or ss 5 [] → g ≡ get_or ss 6 [] → h ≡ get_or ss 7 [] → [] ∷ a ∷ b ∷ c ∷ d ∷ f ∷ g ∷ h ∷ [] ≡ ss
made_eight ss a b c d f g h count root p q r s t u w = let e : ss ≡ get_or ss 0 [] ∷ get_or ss 1 [] ∷ get_or ss 2 [] ∷ get_or ss 3 [] ∷ get_or ss 4 [] ∷ get_or ss 5 [] ∷ get_or ss 6 [] ∷ get_or ss 7 [] ∷ [] = of_eight ss count in cc

pub empty_of : (xs : List ℕ) → true ≡ (length xs == 0) → xs ≡ []
empty_of [] e = refl
empty_of (x ∷ xs) e = let n : length (x ∷ xs) ≡ 0 = grind (arith, nat_tests) in let never : ⊥ = omega (arith, n) in absurd never

pub some_of : (xs : List ℕ) → false ≡ (length xs == 0) → xs ≡ [] → ⊥
some_of [] e h = absurd (cc)
some_of (x ∷ xs) e h = absurd (cc)
