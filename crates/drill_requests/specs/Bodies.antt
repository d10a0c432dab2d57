-- What the requests of a drill say.
use Rattle.std.specs.Prelude.{ℕ, ◌%◌, List, [], ◌++◌, ◌==◌, codes, decimal, if◌then◌else◌}
use Rattle.kube_meta.specs.Key.{KeyView}

-- the stamp of each create and delete
abbrev pub stamp : List ℕ
stamp = codes "2024-01-02T03:04:05Z"

-- ---- names

abbrev pub namespace : List ℕ
namespace = codes "default"

abbrev pub hub_version : List ℕ
hub_version = codes "v1"

abbrev pub spoke_version : List ℕ
spoke_version = codes "v1beta1"

abbrev pub object_name : ℕ → List ℕ
object_name n = codes "o" ++ decimal n

abbrev pub object_key : ℕ → KeyView
object_key n = record { ns = namespace; name = object_name n }

-- ---- bodies of objects

-- at `v1beta1`
unfoldable pub spoke_body : ℕ → ℕ → List ℕ
spoke_body n t =
    codes "{\"apiVersion\":\"example.com/v1beta1\",\"hostPort\":\"h" ++ (decimal n ++ (codes ":" ++ (decimal t
    ++ (codes "\",\"kind\":\"CronTab\",\"metadata\":{\"name\":\"o" ++ (decimal n ++ (codes "\"},\"timeoutSeconds\":" ++ (decimal (t % 1001) ++ codes "}")))))))

-- what stands before the number of an odd value: a port with it is none that `hostPort` can show
unfoldable pub port_front : ℕ → List ℕ
port_front t = if t % 2 == 0 then [] else codes "p:"

-- at `v1`
unfoldable pub hub_body : ℕ → ℕ → List ℕ
hub_body n t =
    codes "{\"apiVersion\":\"example.com/v1\",\"host\":\"h" ++ (decimal n ++ (codes "\",\"kind\":\"CronTab\",\"metadata\":{\"name\":\"o" ++ (decimal n
    ++ (codes "\"},\"port\":\"" ++ (port_front t ++ (decimal t ++ (codes "\",\"timeoutMillis\":" ++ (decimal t ++ codes "}"))))))))

-- the `hostPort` that is put in the place of another
abbrev pub other_port : ℕ → List ℕ
other_port t = codes "r:" ++ decimal t

-- ---- migrations

-- the start of a migration, which has the number of the switches before in its name
unfoldable pub start_body : ℕ → List ℕ
start_body switches =
    codes "{\"apiVersion\":\"storagemigration.k8s.io/v1alpha1\",\"kind\":\"StorageVersionMigration\",\"metadata\":{\"name\":\"m"
    ++ (decimal switches ++ codes "\"},\"spec\":{\"resource\":{\"group\":\"example.com\",\"resource\":\"crontabs\"}}}")
