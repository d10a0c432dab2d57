-- A stored text reads as the document of a form.
use Rattle.std.proofs.Common.{◌≡◌, ◌∙◌, ℕ, ◌≤◌, ◌<◌, List, ap, sym, subst, arith}
use Rattle.std.specs.Prelude.{IsUtf8}
use Rattle.serde_json.specs.Data as serde
use Rattle.kj_value.specs.Json.{Json, depth}
use Rattle.kj_value.specs.Sound.{IsSoundJson}
use Rattle.kj_value.specs.Text.{text_of}
use Rattle.kj_value.specs.Reading.{Reads, json_of}
use Rattle.kj_value.specs.Fault.{IsRefusedJson}
use Rattle.kj_value.specs.declared.reading.JsonFault.TheVariants.{NotJson, TooDeep, NotWhole}
use Rattle.kube_meta.specs.View.{ObjectView}
use Rattle.kube_meta.specs.Document.{document}
use Rattle.api_calls.specs.Meaning.{stored_text}
use Rattle.api_calls.specs.Versions.{IsStored, AreStamps}
use Rattle.versions_fixture.specs.Parts.{PartsView, object_at, version_at}
use Rattle.versions_fixture.specs.Definition.{two_names}
use Rattle.versions_fixture.specs.DocumentLaws.{depth-document, sound-document}
use Rattle.versions_fixture.specs.Laws.{object_one, one_data, some_none}
use Rattle.versions_fixture.specs.declared.parts.Version.TheVariants.{V1}

-- the parts of what is stored
pub record IsKept (v : ℕ) (bytes : List ℕ) (h : ObjectView) : Type 0 where
  pub parts : PartsView
  pub is : h ≡ object_at V1 parts
  pub stamps : AreStamps parts.created parts.deleted parts.generation
  pub reads : Reads bytes 64 (document (object_at (version_at v) parts))

deeper : (bytes : List ℕ) (m n : ℕ) (j : Json) → Reads bytes m j → m ≤ n → Reads bytes n j
deeper bytes m n j r le = (r.0, r.1, omega (arith, r.2, le), r.3)

pub kept : (v : ℕ) (bytes : List ℕ) (h : ObjectView) → ((j : Json) → IsSoundJson j → depth j ≤ 100 → IsUtf8 (text_of j) → Reads (text_of j) (depth j) j)
    → IsStored two_names v h bytes → IsKept v bytes h
kept v bytes h text_reads s =
    let p = s.pairs.parts in
    let same : s.whole.parts ≡ p = object_one V1 s.whole.parts p (sym s.whole.is ∙ s.pairs.hub) in
    let stamps : AreStamps p.created p.deleted p.generation =
    subst (λ (q : PartsView). AreStamps q.created q.deleted q.generation) same s.whole.stamps in
    let spelled : bytes ≡ text_of (document (object_at (version_at v) p)) = s.spelled ∙ ap stored_text s.pairs.form in
    let shallow : depth (document (object_at (version_at v) p)) ≤ 64 = depth-document (version_at v) p in
    let utf8 : IsUtf8 (text_of (document (object_at (version_at v) p))) = subst IsUtf8 spelled s.utf8 in
    let reads : Reads (text_of (document (object_at (version_at v) p))) (depth (document (object_at (version_at v) p))) (document (object_at (version_at v) p)) =
    text_reads (document (object_at (version_at v) p)) (sound-document (version_at v) p stamps.generation) (omega (arith, shallow)) utf8 in
    record {
      parts = p;
      is = s.pairs.hub;
      stamps = stamps;
      reads = deeper bytes _ 64 _ (subst (λ (b : List ℕ). Reads b (depth (document (object_at (version_at v) p))) (document (object_at (version_at v) p))) (sym spelled) reads) shallow;
    }

-- what reads isn't refused
pub never_not_json : (bytes : List ℕ) (j : Json) → Reads bytes 64 j → IsRefusedJson bytes 64 NotJson → ⊥
never_not_json bytes j r n = n r.0 r.1

pub never_too_deep : (bytes : List ℕ) (j : Json) → Reads bytes 64 j → IsRefusedJson bytes 64 TooDeep → ⊥
never_too_deep bytes j r n =
    let same : n.0 ≡ r.0 = one_data bytes n.0 r.0 n.1 r.1 in
    let deep : 64 < serde.depth r.0 = subst (λ (d : serde.Data). 64 < serde.depth d) same n.2 in
    omega (arith, deep, r.2)

pub never_not_whole : (bytes : List ℕ) (j : Json) → Reads bytes 64 j → IsRefusedJson bytes 64 NotWhole → ⊥
never_not_whole bytes j r n =
    let same : n.0 ≡ r.0 = one_data bytes n.0 r.0 n.1 r.1 in
    some_none r.0 j r.3 (ap json_of (sym same) ∙ n.3)
