-- What an object that passed becomes at the hub is a whole value.
use Rattle.std.proofs.Common.{◌≡◌, ◌∙◌, ℕ, ◌<◌, List, length, true, Option, Some, None, ap, sym, subst, arith}
use Rattle.std.specs.Prelude.{ℤ, pos, IfSome, FitsSigned, nat_le}
use Rattle.std.specs.Int.{w64}
use Rattle.std.specs.List.{list_all}
use Rattle.kj_value.specs.Json.{list, items_of, depth}
use Rattle.kj_value.specs.Sound.{AreSoundItems}
use Rattle.kj_value.specs.Fields.{AreInOrder}
use Rattle.kube_meta.specs.Names.{is_name, is_namespace}
use Rattle.kube_meta.specs.View.{MetaView, ObjectView}
use Rattle.object_reading.specs.Finalizers.{is_finalizer}
use Rattle.object_reading.specs.Numbers.{is_resource_version}
use Rattle.object_reading.specs.Keeping.{is_empty_or, is_none_or, is_label_pair, is_annotation_pair}
use Rattle.object_reading.specs.declared.finalizers.TheConstants.{FINALIZERS}
use Rattle.api_calls.specs.Versions.{IsStamp, AreStamps}
use Rattle.crd_reading.specs.Whole.{IsWholeDefinition}
use Rattle.keep_laws.specs.Spokes.{Spoke}
use Rattle.keep_laws.specs.Notes.{without_notes}
use Rattle.keep_laws.specs.WholeHub.{IsWholeHub}
use Rattle.keep_laws.specs.Settling.{SettlesAtHub}
use Rattle.keep_laws.specs.Over.{GoesOver}
use Rattle.crd_meaning.specs.Definition.{Definition, Seat, at_spoke, seat, version_at, count_of, IsSpokeOf, IsSeated, IsLoaded}
use Rattle.crd_meaning.specs.Objects.{IsWholeValue}
use Rattle.crd_meaning.specs.Admission.{IsHubOf}
use Rattle.crd_loading.specs.Passed.{IsPassed}
use Rattle.crd_admission.specs.inner.Documents.{IsOfVersion, HasHub}
use Rattle.crd_admission.proofs.Labels.{spoke_key_rule}
use Rattle.crd_admission.proofs.Names.{name_label}
use Rattle.crd_admission.proofs.Keys.{over_keys, settled_keys}

-- ---- metadata

unset_stamps : (m : MetaView) → m.created ≡ None → m.deleted ≡ None → m.generation ≡ pos 0 → AreStamps m.created m.deleted m.generation
unset_stamps m a b c =
    let zero_fits : FitsSigned w64 (pos 0) = omega arith in record {
      created = subst (λ (o : Option (List ℕ)). IfSome o IsStamp) (sym a) tt;
      deleted = subst (λ (o : Option (List ℕ)). IfSome o IsStamp) (sym b) tt;
      generation = subst (λ (z : ℤ). FitsSigned w64 z) (sym c) zero_fits;
    }

module _ (d : Definition) where
  -- metadata that differ in annotations alone
  whole_value : (v : ℕ) (x h : ObjectView) → IsPassed d v x → IsWholeHub d.spokes h → h.kind ≡ x.kind → without_notes h.meta ≡ without_notes x.meta
      → list_all is_annotation_pair h.meta.annotations ≡ true → IsWholeValue d h
  whole_value v x h p w k same keys = record {
    hub = w;
    kind = k ∙ p.kind;
    rules = record {
      name = ap (λ (m : MetaView). is_name m.name) same ∙ p.rules.name;
      namespace = ap (λ (m : MetaView). is_empty_or is_namespace m.namespace) same ∙ p.rules.namespace;
      labels = ap (λ (m : MetaView). list_all is_label_pair m.labels) same ∙ p.rules.labels;
      annotations = keys;
      few = ap (λ (m : MetaView). nat_le (length m.finalizers) FINALIZERS) same ∙ p.rules.few;
      finalizers = ap (λ (m : MetaView). list_all is_finalizer m.finalizers) same ∙ p.rules.finalizers;
      resource_version = ap (λ (m : MetaView). is_none_or is_resource_version m.resource_version) same ∙ p.rules.resource_version;
    };
    meta = record {
      labels = subst (λ (m : MetaView). AreInOrder m.labels) (sym same) p.meta.labels;
      owners = subst (λ (m : MetaView). AreSoundItems (items_of m.owners)) (sym same) p.meta.owners;
      levels = omega (arith, ap (λ (m : MetaView). depth (list (items_of m.owners))) same, p.meta.levels);
    };
    no_number = ap (λ (m : MetaView). m.resource_version) same ∙ p.no_number;
    no_uid = ap (λ (m : MetaView). m.uid) same ∙ p.no_uid;
    stamps = subst (λ (m : MetaView). AreStamps m.created m.deleted m.generation) (sym same) (unset_stamps x.meta p.created p.deleted p.generation);
  }

  pub settled_value : (v : ℕ) (x h : ObjectView) → IsPassed d v x → IsWholeHub d.spokes h → SettlesAtHub d.spokes x h → IsWholeValue d h
  settled_value v x h p w l = whole_value v x h p w l.rest.kind l.rest.meta (settled_keys d.spokes x h p.rules.annotations l)

  pub over_whole : (loaded : IsLoaded d) (v : ℕ) (s : Spoke) → v < count_of d → seat d v ≡ at_spoke s → (x h : ObjectView) → IsWholeDefinition d.view → IsPassed d v x
      → IsWholeHub d.spokes h → GoesOver d.spokes s x h → IsWholeValue d h
  over_whole loaded v s known e x h whole p w g =
      let seated : IsSpokeOf (version_at d v) s = subst (λ (z : Seat). IsSeated (version_at d v) z) e (loaded.seats v known) in
      let label : is_namespace s.name ≡ true = subst (λ (n : List ℕ). is_namespace n ≡ true) (sym seated.name) (name_label d.view whole v known) in
      whole_value v x h p w g.kind g.meta (over_keys d.spokes s x h (spoke_key_rule s.name label) p.rules.annotations g)

  pub of_passed : (v : ℕ) (x : ObjectView) → v < count_of d → IsPassed d v x → IsOfVersion d v x
  of_passed v x known p = record { known = known; version = p.version; body = p.body }

  pub is_hub : (v : ℕ) (x h : ObjectView) → HasHub d v x h → IsWholeValue d h → IsHubOf d v x h
  is_hub v x h a w = record { left = a.left; settles = a.settles; whole = w; pairs = a.from }
