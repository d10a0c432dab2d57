-- The texts of migrations and of the group, in pieces.
use Rattle.std.specs.Prelude.{ℕ, List, ◌∷◌, ◌++◌, codes}
use Rattle.kj_value.specs.Text.{quoted}
use Rattle.kube_meta.specs.Plan.{Migration}
use Rattle.kube_meta.specs.declared.limits.Condition.{Condition}
use Rattle.api_calls.specs.Meaning.{Meaning}
use Rattle.api_calls.specs.Documents.{condition_word, group_version}
use Rattle.call_texts.specs.PageTexts.{joined_from, two_ends}

-- ---- migrations

unfoldable pub before_name : List ℕ
before_name = codes "{\"apiVersion\":\"storagemigration.k8s.io/v1alpha1\",\"kind\":\"StorageVersionMigration\",\"metadata\":{\"name\":"

unfoldable pub before_group : List ℕ
before_group = codes "},\"spec\":{\"resource\":{\"group\":"

unfoldable pub before_resource : List ℕ
before_resource = codes ",\"resource\":"

unfoldable pub before_condition : List ℕ
before_condition = codes "}},\"status\":{\"conditions\":[{\"status\":\"True\",\"type\":\""

unfoldable pub before_storage : List ℕ
before_storage = codes "\"}],\"storageVersion\":"

-- what stands between the name and the condition, which is the same for every migration
abbrev pub resource_text : Meaning → List ℕ
resource_text m = before_group ++ (quoted m.group ++ (before_resource ++ (quoted m.plural ++ before_condition)))

abbrev pub migration_text : Meaning → Migration → List ℕ
migration_text m q =
    before_name ++ (quoted q.name ++ (resource_text m ++ (condition_word q.condition ++ (before_storage ++ (quoted (m.name q.target) ++ two_ends)))))

-- what stands before the target's name
abbrev pub untargeted_text : Meaning → List ℕ → Condition → List ℕ
untargeted_text m name condition = before_name ++ (quoted name ++ (resource_text m ++ (condition_word condition ++ before_storage)))

-- the target's name and the end
abbrev pub target_text : Meaning → ℕ → List ℕ
target_text m v = quoted (m.name v) ++ two_ends

unfoldable pub before_migrations : List ℕ
before_migrations = codes "{\"apiVersion\":\"storagemigration.k8s.io/v1alpha1\",\"items\":["

unfoldable pub behind_migrations : List ℕ
behind_migrations = codes "],\"kind\":\"StorageVersionMigrationList\",\"metadata\":{}}"

-- ---- the group

unfoldable pub before_group_name : List ℕ
before_group_name = codes "{\"apiVersion\":\"v1\",\"kind\":\"APIGroup\",\"name\":"

unfoldable pub before_preferred : List ℕ
before_preferred = codes ",\"preferredVersion\":"

unfoldable pub before_versions : List ℕ
before_versions = codes ",\"versions\":["

unfoldable pub behind_versions : List ℕ
behind_versions = codes "]}"

unfoldable pub before_group_version : List ℕ
before_group_version = codes "{\"groupVersion\":"

unfoldable pub before_name_alone : List ℕ
before_name_alone = codes ",\"version\":"

unfoldable pub one_end : List ℕ
one_end = codes "}"

-- a version as its group tells it
abbrev pub member_text : Meaning → ℕ → List ℕ
member_text m v = before_group_version ++ (quoted (group_version m v) ++ (before_name_alone ++ (quoted (m.name v) ++ one_end)))

abbrev pub group_text : Meaning → ℕ → List ℕ → List ℕ
group_text m v vs =
    before_group_name ++ (quoted m.group ++ (before_preferred ++ (member_text m v ++ (before_versions ++ (joined_from (member_text m) 0 (v ∷ vs) ++ behind_versions)))))
