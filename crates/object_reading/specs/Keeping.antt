-- Metadata whose parts keep the rules of their fields.
use Rattle.std.specs.Prelude.{◌≡◌, ℕ, Bool, true, ◌&&◌, List, [], ◌∷◌, Option, None, Some, length, nat_le}
use Rattle.std.specs.List.{list_all}
use Rattle.kube_meta.specs.Names.{is_name, is_namespace}
use Rattle.kube_meta.specs.View.{MetaView}
use Rattle.object_reading.specs.Labels.{is_label_key, is_label_value, is_annotation_key}
use Rattle.object_reading.specs.Finalizers.{is_finalizer}
use Rattle.object_reading.specs.Numbers.{is_resource_version}
use Rattle.object_reading.specs.declared.finalizers.TheConstants.{FINALIZERS}

abbrev pub is_empty_or : (List ℕ → Bool) → List ℕ → Bool
is_empty_or kind [] = true
is_empty_or kind (b ∷ bs) = kind (b ∷ bs)

abbrev pub is_none_or : (List ℕ → Bool) → Option (List ℕ) → Bool
is_none_or kind None = true
is_none_or kind (Some s) = kind s

abbrev pub is_label_pair : List ℕ × List ℕ → Bool
is_label_pair t = is_label_key t.0 && is_label_value t.1

abbrev pub is_annotation_pair : List ℕ × List ℕ → Bool
is_annotation_pair t = is_annotation_key t.0

pub record KeepsRules (m : MetaView) : Type 0 where
  pub name : is_name m.name ≡ true
  pub namespace : is_empty_or is_namespace m.namespace ≡ true
  pub labels : list_all is_label_pair m.labels ≡ true
  pub annotations : list_all is_annotation_pair m.annotations ≡ true
  pub few : nat_le (length m.finalizers) FINALIZERS ≡ true
  pub finalizers : list_all is_finalizer m.finalizers ≡ true
  pub resource_version : is_none_or is_resource_version m.resource_version ≡ true
