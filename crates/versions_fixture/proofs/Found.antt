-- What is found in the document of an object.
use Rattle.std.proofs.Common.{◌≡◌, ◌∙◌, ℕ, ◌≤◌, List, Option, Some, None, Bool, true, false, cond, ap, sym, refl, subst}
use Rattle.std.specs.Prelude.{ℤ, pos, option_map, option_and_then, codes}
use Rattle.std.specs.Ordering.{int_eq}
use Rattle.std.proofs.lemmas.Bool.Decides.{Decides-int_eq}
use Rattle.kj_value.specs.Json.{Json, null, boolean, whole, text, list, object, members_of, depth}
use Rattle.kj_value.specs.Fields.{Pairs, field}
use Rattle.kube_meta.specs.View.{ObjectView}
use Rattle.kube_meta.specs.Document.{some_generation, metadata, document}
use Rattle.versions_fixture.specs.Parts.{PartsView, meta_at, object_at, text_in, number_in}
use Rattle.versions_fixture.specs.DocumentLaws.{fields, document-fields, field-metadata, object_one, depth-document}
use Rattle.versions_fixture.specs.declared.parts.Version.{Version}

pub text_back : (o : Option (List ℕ)) → option_and_then text_in (option_map text o) ≡ o
text_back None = refl
text_back (Some s) = refl

pub number_back : (z : ℤ) → number_in (some_generation z) ≡ z
number_back z = by_test (int_eq z (pos 0)) refl
  where
    by_test : (b : Bool) → int_eq z (pos 0) ≡ b → number_in (cond b None (Some (whole z))) ≡ z
    by_test true p = sym ((Decides-int_eq z (pos 0)).0 p)
    by_test false p = refl

pub fields_are : (v : Version) (p : PartsView) (es : Pairs) → object (members_of es) ≡ document (object_at v p) → es ≡ fields v p
fields_are v p es is = object_one _ _ (is ∙ document-fields v p)

some_json : (i j : Json) → Some i ≡ Some j → i ≡ j
some_json i j e = cc

pub found_metadata : (v : Version) (p : PartsView) (es : Pairs) (j : Json) → object (members_of es) ≡ document (object_at v p)
    → Some j ≡ field (codes "metadata") es → j ≡ object (members_of (metadata (meta_at p)))
found_metadata v p es j is found =
    some_json _ _ (found ∙ ap (field (codes "metadata")) (fields_are v p es is) ∙ field-metadata v p)

none_some : (j : Json) → None ≡ Some j → ⊥
none_some j e = cc

pub metadata_there : (v : Version) (p : PartsView) (es : Pairs) → object (members_of es) ≡ document (object_at v p)
    → None ≡ field (codes "metadata") es → ⊥
metadata_there v p es is none =
    none_some _ (none ∙ ap (field (codes "metadata")) (fields_are v p es is) ∙ field-metadata v p)

abbrev pub IsObject : Json → Type 0
IsObject null = ⊥
IsObject (boolean b) = ⊥
IsObject (whole z) = ⊥
IsObject (text t) = ⊥
IsObject (list js) = ⊥
IsObject (object ms) = Unit {0}

pub metadata_object : (v : Version) (p : PartsView) (es : Pairs) (j : Json) → object (members_of es) ≡ document (object_at v p)
    → Some j ≡ field (codes "metadata") es → IsObject j
metadata_object v p es j is found = subst IsObject (sym (found_metadata v p es j is found)) tt

pub document_object : (v : Version) (p : PartsView) (j : Json) → j ≡ document (object_at v p) → IsObject j
document_object v p j is = subst IsObject (sym (is ∙ document-fields v p)) tt

pub levels : (v : Version) (p : PartsView) (x : ObjectView) → x ≡ object_at v p → depth (document x) ≤ 64
levels v p x is = subst (λ (y : ObjectView). depth (document y) ≤ 64) (sym is) (depth-document v p)
