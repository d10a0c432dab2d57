-- A server of two versions for the examples: v1 has place 0 and v1beta1 place 1, both are served, and v1beta1 is the storage version at first.
use Rattle.std.specs.Prelude.{ℕ, pos, true, false, List, [], ◌∷◌, None, codes}
use Rattle.std.specs.Prelude.{◌≡◌, ◌↔◌, IsTrue}
use Rattle.std.specs.Str.{bytes_eq}
use Rattle.std.proofs.Common.{ap}
use Rattle.kj_value.specs.Json.{Json, text}
use Rattle.kj_value.specs.Fields.{Pairs}
use Rattle.kube_meta.specs.Key.{KeyView}
use Rattle.kube_meta.specs.View.{ObjectView}
use Rattle.kube_meta.specs.declared.limits.Limits.{Limits}
use Rattle.api_calls.specs.declared.flags.Flags.{Flags}
use Rattle.api_calls.specs.Meaning.{Meaning}
use Rattle.api_calls.specs.Values.{created_value}

abbrev pub v1 : ℕ
v1 = 0

abbrev pub v1beta1 : ℕ
v1beta1 = 1

-- both are served, and objects are stored at this version
abbrev pub storing : ℕ → Flags
storing v = record { served = true ∷ true ∷ false ∷ false ∷ false ∷ false ∷ false ∷ false ∷ []; storage = v }

-- whatever else a definition means
abbrev pub example : Meaning → Meaning
example m = record m { count = 2; opening = storing v1beta1 }

abbrev pub standing : Limits
standing = record { objects = 16384; chunks = 262144; window_records = 1024; window_chunks = 65536; migrations = 256 }

abbrev pub key : List ℕ → KeyView
key name = record { ns = codes "default"; name = name }

abbrev pub stamp : List ℕ
stamp = codes "2024-01-02T03:04:05Z"

-- an admitted value: its name, its finalizers, and the text under `host`
abbrev pub admitted : List ℕ → List (List ℕ) → List ℕ → ObjectView
admitted name finalizers host = record {
  api_version = codes "example.com/v1";
  kind = codes "CronTab";
  meta = record {
    name = name;
    namespace = codes "default";
    labels = [];
    annotations = [];
    finalizers = finalizers;
    owners = [];
    created = None;
    deleted = None;
    generation = pos 0;
    resource_version = None;
    uid = None;
  };
  body = (codes "host", text host) ∷ [];
}

abbrev pub plain : List ℕ → ObjectView
plain name = admitted name [] (codes "x")

-- what a create of it stores
abbrev pub fresh : List ℕ → ObjectView
fresh name = created_value stamp (plain name)

-- bodies with these two texts differ
abbrev text_in : Json → List ℕ
text_in (text t) = t
text_in j = []

abbrev host_of : Pairs → List ℕ
host_of [] = []
host_of (p ∷ ps) = text_in p.1

pub x_differs : (n k : List ℕ) (fs gs : List (List ℕ)) → IsTrue false ↔ ((admitted n fs (codes "y")).body ≡ (admitted k gs (codes "x")).body)
x_differs n k fs gs = (λ h. absurd cc, λ h. let e : true ≡ false = ap (λ b. bytes_eq (host_of b) (codes "y")) h in absurd cc)
