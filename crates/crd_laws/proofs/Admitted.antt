-- What is admitted has the request's key and number.
use Rattle.std.proofs.Common.{◌≡◌, ◌∙◌, ℕ, Option, subst, ap, sym}
use Rattle.std.specs.Prelude.{IsSome, ◌↔◌}
use Rattle.kube_meta.specs.View.{MetaView, ObjectView}
use Rattle.object_reading.specs.Parts.{object_in}
use Rattle.api_calls.specs.Meaning.{Request}
use Rattle.api_calls.specs.Versions.{IsAdmitted, AdmitsWhole}
use Rattle.crd_meaning.specs.Request.{placed}
use Rattle.crd_meaning.specs.Meant.{Settings}
use Rattle.crd_meaning.proofs.Verdicts.{says, if_some_along}
use Rattle.crd_laws.specs.Hook.{Hooked, Admits, hook_meaning}

-- a field of metadata that isn't labels nor annotations
module _ (k : Hooked) (o : Settings) (r : Request) (h : ObjectView) (e : Option ℕ) (a : Admits k r h e) where
  same : {A : Type 0} (f : MetaView → A) → f (record h.meta { labels = a.object.meta.labels; annotations = a.object.meta.annotations }) ≡ f (placed r.ns (object_in a.passes.is.value)).meta
  same f = ap f (sym a.hub.near.meta) ∙ ap (λ (w : ObjectView). f w.meta) a.passes.rest ∙ ap (λ (w : ObjectView). f w.meta) a.passes.is.object

  pub admitted : IsAdmitted (hook_meaning k o) r h e
  admitted =
      let said = says k.definition r a.passes.is.value a.passes.is.nothing in record {
        namespace = same (λ (m : MetaView). m.namespace);
        name = if_some_along r.name h.meta.name (object_in a.passes.is.value).meta.name (same (λ (m : MetaView). m.name)) said.0;
        expected = subst (λ (f : Option ℕ). IsSome f ↔ IsSome r.name) (sym a.passes.is.number) said.1;
        whole = a.hub.whole;
        created = same (λ (m : MetaView). m.created);
        deleted = same (λ (m : MetaView). m.deleted);
        generation = same (λ (m : MetaView). m.generation);
      }

pub admits_whole : (k : Hooked) (o : Settings) → AdmitsWhole (hook_meaning k o)
admits_whole k o = record { admitted = λ r h e a. admitted k o r h e a }
