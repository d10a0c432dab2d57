-- The table of early refusals, row by row.
use Rattle.std.proofs.Common.{◌≡◌, ◌∙◌, ℕ, List, [], ◌∷◌, ◌++◌, Bool, true, false, not, Option, Some, None, map, refl, ap, sym}
use Rattle.std.specs.Prelude.{is_some, option_map, codes, if◌then◌else◌}
use Rattle.std.specs.Str.{bytes_eq}
use Rattle.kj_value.specs.Json.{Json, null, boolean, whole, text, list, object, members_of}
use Rattle.kj_value.specs.Fields.{Pairs, field}
use Rattle.kj_value.specs.KindLaws.{pairs_members}
use Rattle.kube_meta.specs.View.{ObjectView}
use Rattle.object_reading.specs.Fields.{given}
use Rattle.object_reading.specs.Parts.{parts_in, submitted}
use Rattle.object_reading.specs.Rules.{any_text}
use Rattle.object_reading.specs.Refusal as reading
use Rattle.object_reading.specs.Refusal.{Refusal, first_holding, judged, judged_metadata, is_given_text, refusal}
use Rattle.api_calls.specs.Cause.{wrong_version, wrong_kind, wrong_namespace, wrong_name}
use Rattle.api_calls.specs.Meaning.{Request, Fault, bad_request}
use Rattle.crd_meaning.specs.Definition.{Definition}
use Rattle.crd_meaning.specs.Request.{Judged, first_there, metadata_fault, given_name, metadata_rows, number_rows, number_text, later_rows, kind_row, namespace_row, name_row, rows, early}
use Rattle.crd_admission.specs.Steps.{has_version, has_kind, has_namespace, has_name, IsAsked, IsFirst}

-- ---- one row

skip : (f : Fault) (b : Bool) (fs : Judged) → b ≡ true → first_there ((f, not b) ∷ fs) ≡ first_there fs
skip f true fs e = refl
skip f false fs e = absurd (cc)

there : (f : Fault) (b : Bool) (fs : Judged) → b ≡ false → first_there ((f, not b) ∷ fs) ≡ Some f
there f false fs e = refl
there f true fs e = absurd (cc)

none_here : (f : Fault) (b : Bool) (fs : Judged) → first_there ((f, not b) ∷ fs) ≡ None → b ≡ true
none_here f true fs e = refl
none_here f false fs e = absurd (cc)

none_behind : (f : Fault) (b : Bool) (fs : Judged) → first_there ((f, not b) ∷ fs) ≡ None → first_there fs ≡ None
none_behind f true fs e = e
none_behind f false fs e = absurd (cc)

-- ---- rows before others

pub past : (fs gs : Judged) → first_there fs ≡ None → first_there (fs ++ gs) ≡ first_there gs
past [] gs e = refl
past (f ∷ fs) gs e = by_test (λ h. past fs gs h) f.1 e
  where
    by_test : (first_there fs ≡ None → first_there (fs ++ gs) ≡ first_there gs) → (b : Bool) → (if b then Some f.0 else first_there fs) ≡ None → (if b then Some f.0 else first_there (fs ++ gs)) ≡ first_there gs
    by_test later true h = absurd (cc)
    by_test later false h = later h

pub before : (fs gs : Judged) (g : Fault) → first_there fs ≡ Some g → first_there (fs ++ gs) ≡ Some g
before [] gs g e = absurd (cc)
before (f ∷ fs) gs g e = by_test (λ h. before fs gs g h) f.1 e
  where
    by_test : (first_there fs ≡ Some g → first_there (fs ++ gs) ≡ Some g) → (b : Bool) → (if b then Some f.0 else first_there fs) ≡ Some g → (if b then Some f.0 else first_there (fs ++ gs)) ≡ Some g
    by_test later true h = h
    by_test later false h = later h

-- ---- the rows of the path

module _ (d : Definition) (r : Request) (es : Pairs) where
  past_version : has_version d r.version es ≡ true → first_there (rows d r es) ≡ first_there (kind_row d es ∷ namespace_row r es ∷ name_row r es ∷ later_rows r es)
  past_version v =
      skip (bad_request wrong_version) (has_version d r.version es) (kind_row d es ∷ namespace_row r es ∷ name_row r es ∷ later_rows r es) v

  past_kind : has_version d r.version es ≡ true → has_kind d es ≡ true → first_there (rows d r es) ≡ first_there (namespace_row r es ∷ name_row r es ∷ later_rows r es)
  past_kind v k = past_version v ∙ skip (bad_request wrong_kind) (has_kind d es) (namespace_row r es ∷ name_row r es ∷ later_rows r es) k

  past_namespace : has_version d r.version es ≡ true → has_kind d es ≡ true → has_namespace r.ns es ≡ true → first_there (rows d r es) ≡ first_there (name_row r es ∷ later_rows r es)
  past_namespace v k s =
      past_kind v k ∙ skip (bad_request wrong_namespace) (has_namespace r.ns es) (name_row r es ∷ later_rows r es) s

  pub at_version : has_version d r.version es ≡ false → IsFirst (rows d r es) (bad_request wrong_version)
  at_version v =
      there (bad_request wrong_version) (has_version d r.version es) (kind_row d es ∷ namespace_row r es ∷ name_row r es ∷ later_rows r es) v

  pub at_kind : has_version d r.version es ≡ true → has_kind d es ≡ false → IsFirst (rows d r es) (bad_request wrong_kind)
  at_kind v k = past_version v ∙ there (bad_request wrong_kind) (has_kind d es) (namespace_row r es ∷ name_row r es ∷ later_rows r es) k

  pub at_namespace : has_version d r.version es ≡ true → has_kind d es ≡ true → has_namespace r.ns es ≡ false → IsFirst (rows d r es) (bad_request wrong_namespace)
  at_namespace v k s =
      past_kind v k ∙ there (bad_request wrong_namespace) (has_namespace r.ns es) (name_row r es ∷ later_rows r es) s

  pub at_name : has_version d r.version es ≡ true → has_kind d es ≡ true → has_namespace r.ns es ≡ true → has_name r.name es ≡ false → IsFirst (rows d r es) (bad_request wrong_name)
  at_name v k s n = past_namespace v k s ∙ there (bad_request wrong_name) (has_name r.name es) (later_rows r es) n

  pub past_path : IsAsked d r es → first_there (rows d r es) ≡ first_there (later_rows r es)
  past_path a =
      past_namespace a.version a.kind a.namespace ∙ skip (bad_request wrong_name) (has_name r.name es) (later_rows r es) a.name

  -- nothing is there at all
  pub none_asked : first_there (rows d r es) ≡ None → (has_version d r.version es ≡ true) × (has_kind d es ≡ true)
  none_asked e =
      let behind_version : Judged = kind_row d es ∷ namespace_row r es ∷ name_row r es ∷ later_rows r es in
      let behind_kind : Judged = namespace_row r es ∷ name_row r es ∷ later_rows r es in (
        none_here (bad_request wrong_version) (has_version d r.version es) behind_version e,
        none_here (bad_request wrong_kind) (has_kind d es) behind_kind (none_behind (bad_request wrong_version) (has_version d r.version es) behind_version e),
      )

  -- behind the metadata only the number is left
  pub past_metadata : (x : ObjectView) → IsAsked d r es → first_there (metadata_rows es) ≡ None → x ≡ submitted (parts_in es)
      → first_there (rows d r es) ≡ first_there (number_rows x.meta.name (is_some r.name) (is_some x.meta.resource_version))
  past_metadata x a m e =
      past_path a
      ∙ past (metadata_rows es) (number_rows (given_name es) (is_some r.name) (is_some (number_text es))) m
      ∙ ap (λ (y : ObjectView). first_there (number_rows y.meta.name (is_some r.name) (is_some y.meta.resource_version))) (sym e)

  pub at_metadata : (f : Fault) → IsAsked d r es → IsFirst (metadata_rows es) f → IsFirst (rows d r es) f
  at_metadata f a m =
      past_path a ∙ before (metadata_rows es) (number_rows (given_name es) (is_some r.name) (is_some (number_text es))) f m

  pub early_fields : early d r (object (members_of es)) ≡ first_there (rows d r es)
  early_fields = ap (λ (fs : Pairs). first_there (rows d r fs)) (pairs_members es)

-- ---- the metadata, as the document's own table has them

skip_held : (f : Refusal) (b : Bool) (fs : reading.Judged) → b ≡ true → first_holding ((f, not b) ∷ fs) ≡ first_holding fs
skip_held f true fs e = refl
skip_held f false fs e = absurd (cc)

mapped_first : (name : List ℕ) (js : reading.Judged) → first_there (map (λ j. (metadata_fault name j.0, j.1)) js) ≡ option_map (metadata_fault name) (first_holding js)
mapped_first name [] = refl
mapped_first name (j ∷ js) = by_test j.1 (mapped_first name js)
  where
    by_test : (b : Bool) → first_there (map (λ i. (metadata_fault name i.0, i.1)) js) ≡ option_map (metadata_fault name) (first_holding js)
        → (if b then Some (metadata_fault name j.0) else first_there (map (λ i. (metadata_fault name i.0, i.1)) js)) ≡ option_map (metadata_fault name) (if b then Some j.0 else first_holding js)
    by_test true e = refl
    by_test false e = e

pub any_given : (kind : List ℕ → Bool) (o : Option Json) → is_given_text kind o ≡ true → is_given_text any_text o ≡ true
any_given kind None e = absurd (cc)
any_given kind (Some null) e = absurd (cc)
any_given kind (Some (boolean b)) e = absurd (cc)
any_given kind (Some (whole z)) e = absurd (cc)
any_given kind (Some (text s)) e = refl
any_given kind (Some (list js)) e = absurd (cc)
any_given kind (Some (object ms)) e = absurd (cc)

pub metadata_first : (kind : List ℕ) (es : Pairs) → is_given_text any_text (field (codes "apiVersion") es) ≡ true → is_given_text (λ s. bytes_eq s kind) (field (codes "kind") es) ≡ true
    → first_there (metadata_rows es) ≡ option_map (metadata_fault (given_name es)) (refusal kind (object (members_of es)))
unfolding refusal
metadata_first kind es v k =
    let table : reading.Judged = judged_metadata (given (field (codes "metadata") es)) in
    let kind_held : Refusal × Bool = (reading.wrong_kind, not (is_given_text (λ s. bytes_eq s kind) (field (codes "kind") es))) in
    let held : first_holding (judged kind es) ≡ first_holding table =
    skip_held reading.bad_version (is_given_text any_text (field (codes "apiVersion") es)) (kind_held ∷ table) v
    ∙ skip_held reading.wrong_kind (is_given_text (λ s. bytes_eq s kind) (field (codes "kind") es)) table k in
    mapped_first (given_name es) table
    ∙ ap (option_map (metadata_fault (given_name es))) (sym held)
    ∙ ap (λ (fs : Pairs). option_map (metadata_fault (given_name es)) (first_holding (judged kind fs))) (sym (pairs_members es))
