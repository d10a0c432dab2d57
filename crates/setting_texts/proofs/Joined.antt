-- Texts of lists, and of what they hold.
use Rattle.std.proofs.Common.{◌≡◌, ℕ, zero, suc, ◌+◌, ◌<◌, List, [], ◌∷◌, ◌++◌, length, map, drop, get_or, ap, sym, refl, ◌∙◌, arith, append_assoc}
use Rattle.std.proofs.lemmas.List.{append-nil}
use Rattle.std.specs.Prelude.{codes}
use Rattle.kj_value.specs.Characters.{comma}
use Rattle.kj_value.specs.Json.{Json, items_of}
use Rattle.kj_value.specs.Text.{text_of, items_text, more_items, quoted}
use Rattle.kube_meta.specs.Plan.{Migration}
use Rattle.kube_meta.specs.declared.limits.Condition.{Condition}
use Rattle.kube_meta.specs.declared.limits.Condition.TheVariants.{Running, Succeeded, Failed}
use Rattle.api_calls.specs.Documents.{by_name, condition_word, group_document, group_member, group_version, migration_document, migration_list}
use Rattle.api_calls.specs.Meaning.{Meaning}
use Rattle.call_texts.specs.PageTexts.{Adds, comma_before, joined_from, two_ends}
use Rattle.setting_texts.specs.inner.SettingTexts.{migration_text, member_text, group_text, before_name, before_group, before_resource, before_condition, before_storage, before_migrations, behind_migrations, before_group_name, before_preferred, before_versions, behind_versions, before_group_version, before_name_alone, one_end}
use Rattle.call_texts.proofs.Pieces.{onward}

-- ---- lists

more-joined : {X : Type 0} (doc : X → Json) (txt : X → List ℕ) → ((x : X) → text_of (doc x) ≡ txt x) → (i : ℕ) (xs : List X)
    → more_items (items_of (map doc xs)) ≡ joined_from txt (suc i) xs
more-joined doc txt same i [] = refl
more-joined doc txt same i (x ∷ xs) = (λ k. comma ∷ (same x k ++ more-joined doc txt same (suc i) xs k))

pub items-joined : {X : Type 0} (doc : X → Json) (txt : X → List ℕ) → ((x : X) → text_of (doc x) ≡ txt x) → (xs : List X)
    → items_text (items_of (map doc xs)) ≡ joined_from txt 0 xs
items-joined doc txt same [] = refl
items-joined doc txt same (x ∷ xs) = (λ k. same x k ++ more-joined doc txt same 0 xs k)

dropped : {X : Type 0} (xs : List X) (i : ℕ) (x : X) → i < length xs → x ≡ get_or xs i x → drop i xs ≡ x ∷ drop (i + 1) xs
dropped [] i x h is = absurd (omega (arith, h))
dropped {X} (y ∷ ys) zero x h is = ap (λ (z : X). z ∷ ys) (sym is)
dropped {X} (y ∷ ys) (suc i) x h is =
    let e : suc (i + 1) ≡ suc i + 1 = omega arith in
    dropped ys i x (omega (arith, h)) is ∙ ap (λ (n : ℕ). x ∷ drop n (y ∷ ys)) e

-- a list that is being written goes on by one thing
pub joined-step : {X : Type 0} (txt : X → List ℕ) (xs : List X) (i : ℕ) (x : X) (s t u total : List ℕ) → i < length xs → x ≡ get_or xs i x
    → Adds s (comma_before i) t → Adds t (txt x) u → s ++ joined_from txt i (drop i xs) ≡ total → u ++ joined_from txt (i + 1) (drop (i + 1) xs) ≡ total
joined-step txt xs i x s t u total short is c d before =
    let e : i + 1 ≡ suc i = omega arith in
    ap (λ (n : ℕ). u ++ joined_from txt n (drop (i + 1) xs)) e
    ∙ (ap (λ (b : List ℕ). b ++ joined_from txt (suc i) (drop (i + 1) xs)) (onward c d).text
    ∙ (append_assoc s (comma_before i ++ txt x) (joined_from txt (suc i) (drop (i + 1) xs))
    ∙ (ap (λ (ys : List _). s ++ joined_from txt i ys) (sym (dropped xs i x short is)) ∙ before)))

-- ---- a migration

quoted-word : (c : Condition) → quoted (condition_word c) ≡ codes "\"" ++ (condition_word c ++ codes "\"")
unfolding condition_word
quoted-word Running = refl
quoted-word Succeeded = refl
quoted-word Failed = refl

-- its text, where its condition is the text t
abbrev laid_migration : Meaning → Migration → List ℕ → List ℕ
laid_migration m q t =
    codes "{\"apiVersion\":\"storagemigration.k8s.io/v1alpha1\",\"kind\":\"StorageVersionMigration\",\"metadata\":{\"name\":"
    ++ ((((quoted q.name ++ []) ++ codes "}") ++ (codes ",\"spec\":{\"resource\":{\"group\":" ++ (((((quoted m.group ++ (codes ",\"resource\":" ++ (quoted m.plural ++ []))) ++ codes "}") ++ []) ++ codes "}")
    ++ (codes ",\"status\":{\"conditions\":[{\"status\":\"True\",\"type\":" ++ (((((((t ++ []) ++ codes "}") ++ []) ++ codes "]") ++ (codes ",\"storageVersion\":" ++ (quoted (m.name q.target) ++ []))) ++ codes "}") ++ []))))) ++ codes "}")

laid_out : (m : Meaning) (q : Migration) → text_of (migration_document m q) ≡ laid_migration m q (quoted (condition_word q.condition))
unfolding migration_document
laid_out m q = refl

arranged : (a n e s g r p c u w b t v : List ℕ)
    → a ++ ((((n ++ []) ++ e) ++ (s ++ (((((g ++ (r ++ (p ++ []))) ++ e) ++ []) ++ e) ++ (c ++ ((((((((u ++ (w ++ u)) ++ []) ++ e) ++ []) ++ b) ++ (t ++ (v ++ []))) ++ e) ++ []))))) ++ e)
    ≡ a ++ (n ++ (((e ++ s) ++ (g ++ (r ++ (p ++ (e ++ (e ++ (c ++ u))))))) ++ (w ++ ((u ++ (e ++ (b ++ t))) ++ (v ++ (e ++ e))))))
arranged a n e s g r p c u w b t v = simp (append_assoc, append-nil)

pub text_of-migration : (m : Meaning) (q : Migration) → text_of (migration_document m q) ≡ migration_text m q
unfolding before_name before_group before_resource before_condition before_storage two_ends
text_of-migration m q =
    laid_out m q
    ∙ (ap (λ (t : List ℕ). laid_migration m q t) (quoted-word q.condition)
    ∙ arranged (codes "{\"apiVersion\":\"storagemigration.k8s.io/v1alpha1\",\"kind\":\"StorageVersionMigration\",\"metadata\":{\"name\":") (quoted q.name) (codes "}")
    (codes ",\"spec\":{\"resource\":{\"group\":") (quoted m.group) (codes ",\"resource\":") (quoted m.plural) (codes ",\"status\":{\"conditions\":[{\"status\":\"True\",\"type\":") (codes "\"")
    (condition_word q.condition) (codes "]") (codes ",\"storageVersion\":") (quoted (m.name q.target)))

listed_out : (m : Meaning) (qs : List Migration)
    → text_of (migration_list m qs)
    ≡ codes "{\"apiVersion\":\"storagemigration.k8s.io/v1alpha1\",\"items\":[" ++ (((items_text (items_of (map (migration_document m) (by_name qs))) ++ codes "]") ++ codes ",\"kind\":\"StorageVersionMigrationList\",\"metadata\":{}") ++ codes "}")
unfolding migration_list
listed_out m qs = refl

behind : (i b k e : List ℕ) → ((i ++ b) ++ k) ++ e ≡ i ++ (b ++ (k ++ e))
behind i b k e = simp append_assoc

pub text_of-migrations : (m : Meaning) (qs : List Migration) → text_of (migration_list m qs) ≡ before_migrations ++ (joined_from (migration_text m) 0 (by_name qs) ++ behind_migrations)
unfolding before_migrations behind_migrations
text_of-migrations m qs =
    let front = codes "{\"apiVersion\":\"storagemigration.k8s.io/v1alpha1\",\"items\":[" in
    let back = codes "],\"kind\":\"StorageVersionMigrationList\",\"metadata\":{}}" in
    listed_out m qs
    ∙ (ap (λ (t : List ℕ). front ++ t) (behind (items_text (items_of (map (migration_document m) (by_name qs)))) (codes "]") (codes ",\"kind\":\"StorageVersionMigrationList\",\"metadata\":{}") (codes "}"))
    ∙ ap (λ (t : List ℕ). front ++ (t ++ back)) (items-joined (migration_document m) (migration_text m) (text_of-migration m) (by_name qs)))

-- ---- the group

member_out : (m : Meaning) (v : ℕ) → text_of (group_member m v) ≡ codes "{\"groupVersion\":" ++ ((quoted (group_version m v) ++ (codes ",\"version\":" ++ (quoted (m.name v) ++ []))) ++ codes "}")
member_out m v = refl

member_arranged : (a g b n e : List ℕ) → a ++ ((g ++ (b ++ (n ++ []))) ++ e) ≡ a ++ (g ++ (b ++ (n ++ e)))
member_arranged a g b n e = simp (append_assoc, append-nil)

pub text_of-member : (m : Meaning) (v : ℕ) → text_of (group_member m v) ≡ member_text m v
unfolding before_group_version before_name_alone one_end
text_of-member m v = member_out m v ∙ member_arranged (codes "{\"groupVersion\":") (quoted (group_version m v)) (codes ",\"version\":") (quoted (m.name v)) (codes "}")

-- the text of the group, where its preferred version has the text p and its versions together the text i
abbrev laid_group : Meaning → List ℕ → List ℕ → List ℕ
laid_group m p i =
    codes "{\"apiVersion\":\"v1\",\"kind\":\"APIGroup\",\"name\":" ++ ((quoted m.group ++ (codes ",\"preferredVersion\":" ++ (p ++ (codes ",\"versions\":[" ++ ((i ++ codes "]") ++ []))))) ++ codes "}")

group_out : (m : Meaning) (v : ℕ) (vs : List ℕ) → text_of (group_document m v vs) ≡ laid_group m (text_of (group_member m v)) (items_text (items_of (map (group_member m) (v ∷ vs))))
unfolding group_document
group_out m v vs = refl

group_arranged : (a g b p c i z e : List ℕ) → a ++ ((g ++ (b ++ (p ++ (c ++ ((i ++ z) ++ []))))) ++ e) ≡ a ++ (g ++ (b ++ (p ++ (c ++ (i ++ (z ++ e))))))
group_arranged a g b p c i z e = simp (append_assoc, append-nil)

pub text_of-group : (m : Meaning) (v : ℕ) (vs : List ℕ) → text_of (group_document m v vs) ≡ group_text m v vs
unfolding before_group_name before_preferred before_versions behind_versions
text_of-group m v vs =
    group_out m v vs
    ∙ ((λ k. laid_group m (text_of-member m v k) (items-joined (group_member m) (member_text m) (text_of-member m) (v ∷ vs) k))
    ∙ group_arranged (codes "{\"apiVersion\":\"v1\",\"kind\":\"APIGroup\",\"name\":") (quoted m.group) (codes ",\"preferredVersion\":") (member_text m v) (codes ",\"versions\":[")
    (joined_from (member_text m) 0 (v ∷ vs)) (codes "]") (codes "}"))
