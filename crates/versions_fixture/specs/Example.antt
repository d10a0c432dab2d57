-- A hub value and its form at the other version, spelled out.
use Rattle.std.specs.Prelude.{ℕ, pos, List, [], ◌∷◌, None, Some, codes}
use Rattle.kj_value.specs.Json.{text}
use Rattle.kube_meta.specs.View.{MetaView, ObjectView}

abbrev pub example_meta : MetaView
example_meta = record {
  name = codes "a";
  namespace = codes "default";
  labels = [];
  annotations = [];
  finalizers = [];
  owners = [];
  created = Some (codes "2024-01-02T03:04:05Z");
  deleted = None;
  generation = pos 1;
  resource_version = None;
  uid = None;
}

-- at v1
abbrev pub example : ObjectView
example = record {
  api_version = codes "example.com/v1";
  kind = codes "CronTab";
  meta = example_meta;
  body = (codes "host", text (codes "localhost")) ∷ [];
}

-- at v1beta1
abbrev pub example_stored : ObjectView
example_stored = record {
  api_version = codes "example.com/v1beta1";
  kind = codes "CronTab";
  meta = example_meta;
  body = (codes "address", text (codes "localhost")) ∷ [];
}

-- the group with both versions served
abbrev pub example_group : List ℕ
example_group = codes "{\"apiVersion\":\"v1\",\"kind\":\"APIGroup\",\"name\":\"example.com\",\"preferredVersion\":{\"groupVersion\":\"example.com/v1\",\"version\":\"v1\"},\"versions\":[{\"groupVersion\":\"example.com/v1\",\"version\":\"v1\"},{\"groupVersion\":\"example.com/v1beta1\",\"version\":\"v1beta1\"}]}"
