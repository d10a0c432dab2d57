-- A body starts one migration or is refused, and not both.
use Rattle.std.proofs.Common.{◌≡◌, ◌∙◌, ℕ, ◌<◌, ◌≤◌, List, Option, Some, None, Bool, true, false, subst, ap, sym, refl, arith}
use Rattle.std.specs.Prelude.{nat_le, codes}
use Rattle.std.proofs.lemmas.Bool.Decides.{nat_tests}
use Rattle.serde_json.specs.Data as serde
use Rattle.kj_value.specs.Json.{Json, text, object, Members, members_of}
use Rattle.kj_value.specs.Reading.{Reads, IsReading, json_of}
use Rattle.kj_value.specs.Fields.{Pairs, field}
use Rattle.kj_value.specs.KindLaws.{pairs_members}
use Rattle.kube_meta.specs.Names.{is_name}
use Rattle.api_calls.specs.Cause.{CauseView, not_json, too_deep, not_whole, not_object, wrong_version, wrong_kind, wrong_namespace, wrong_name, bad_query, bad_token, bad_options}
use Rattle.api_calls.specs.Meaning.{Meaning, Fault, bad_request, invalid}
use Rattle.api_calls.specs.Documents.{migration_version, migration_kind}
use Rattle.api_calls.specs.Bodies.{ReadsObject, IsOfKind, fields_of, given_name, IsOfDefinition, Starts, no_name, other_resource, IsBadStart, RefusesStart}
use Rattle.api_calls.specs.declared.versions.TheConstants.{OBJECT_LEVELS}

-- what a body reads as is one value
abbrev pub IsOneReading : Type 0
IsOneReading = (bytes : List ℕ) (m n : ℕ) (j k : Json) → Reads bytes m j → Reads bytes n k → j ≡ k

one_data : (bytes : List ℕ) (d e : serde.Data) → IsReading bytes d → IsReading bytes e → d ≡ e
one_data bytes d e a b = let same : Some d ≡ Some e = sym a.1 ∙ b.1 in cc

object_members : (ms ns : Members) → object ms ≡ object ns → ms ≡ ns
object_members ms ns e = cc

true_false : (b : Bool) → b ≡ true → b ≡ false → ⊥
true_false b p q = let e : true ≡ false = sym p ∙ q in cc

module _ (one_reading : IsOneReading) (m : Meaning) (body : List ℕ) where
  one_fields : (ps qs : Pairs) → ReadsObject body ps → ReadsObject body qs → ps ≡ qs
  one_fields ps qs a b =
      let same = object_members _ _ (one_reading body OBJECT_LEVELS OBJECT_LEVELS _ _ a b) in
      sym (pairs_members ps) ∙ ap fields_of same ∙ pairs_members qs

  pub one_name : (n k : List ℕ) → Starts m body n → Starts m body k → n ≡ k
  one_name n k a b = sym a.named ∙ ap given_name (one_fields a.fields b.fields a.reads b.reads) ∙ b.named

  bad_start : (name given : List ℕ) (cause : CauseView) → Starts m body name → IsBadStart m body given cause → ⊥
  bad_start name given cause s bad =
      let same = one_fields s.fields bad.fields s.reads bad.reads in
      let names : name ≡ given = sym s.named ∙ ap given_name same ∙ bad.named in
      elim bad.breaks [
        | no_name illegal is ↦ true_false (is_name given) (ap is_name (sym names) ∙ s.legal) illegal
        | other_resource legal other is ↦ other (subst (IsOfDefinition m) same s.resource)
      ]

  pub never_both : (name : List ℕ) (f : Fault) → Starts m body name → RefusesStart m body f → ⊥
  never_both name (bad_request not_json) s r = r s.reads.0 s.reads.1
  never_both name (bad_request too_deep) s r =
      let same : r.0 ≡ s.reads.0 = one_data body r.0 s.reads.0 r.1 s.reads.1 in
      let deep : OBJECT_LEVELS < serde.depth s.reads.0 = subst (λ (d : serde.Data). OBJECT_LEVELS < serde.depth d) same r.2 in
      omega (arith, deep, s.reads.2)
  never_both name (bad_request not_whole) s r =
      let same : r.0 ≡ s.reads.0 = one_data body r.0 s.reads.0 r.1 s.reads.1 in
      let e : Some (object (members_of s.fields)) ≡ None = sym s.reads.3 ∙ ap json_of (sym same) ∙ r.3 in cc
  never_both name (bad_request not_object) s r = r.2 s.fields (one_reading body OBJECT_LEVELS OBJECT_LEVELS _ _ r.1 s.reads)
  never_both name (bad_request wrong_version) s r =
      r.2 (subst (λ (ps : Pairs). field (codes "apiVersion") ps ≡ Some (text migration_version)) (one_fields s.fields r.0 s.reads r.1) s.is.api_version)
  never_both name (bad_request wrong_kind) s r =
      r.3 (subst (λ (ps : Pairs). field (codes "kind") ps ≡ Some (text migration_kind)) (one_fields s.fields r.0 s.reads r.1) s.is.kind)
  never_both name (bad_request wrong_namespace) s r = r
  never_both name (bad_request wrong_name) s r = r
  never_both name (bad_request (bad_query parameter)) s r = r
  never_both name (bad_request bad_token) s r = r
  never_both name (bad_request bad_options) s r = r
  never_both name (invalid given cause) s r = bad_start name given cause s r

  module _ (never_starts : (name : List ℕ) → Starts m body name → ⊥) (never_refused : (f : Fault) → RefusesStart m body f → ⊥) where
    document_decided : (ps : Pairs) → ReadsObject body ps → IsOfKind migration_version migration_kind ps → ⊥
    document_decided ps reads is = by (is_name (given_name ps)) refl
      where
        by : (b : Bool) → is_name (given_name ps) ≡ b → ⊥
        by false e = never_refused (invalid (given_name ps) _)
            (record { fields = ps; reads = reads; is = is; named = refl; breaks = no_name e refl })
        by true e = never_refused (invalid (given_name ps) _) (record {
          fields = ps;
          reads = reads;
          is = is;
          named = refl;
          breaks = other_resource e
              (λ resource. never_starts (given_name ps) (record { fields = ps; reads = reads; is = is; named = refl; legal = e; resource = resource }))
              refl;
        })

    object_decided : (ps : Pairs) → ReadsObject body ps → ⊥
    object_decided ps reads =
        never_refused (bad_request wrong_version) (
          ps,
          reads,
          λ version.
              never_refused (bad_request wrong_kind) (
                ps,
                reads,
                version,
                λ kind.
                    document_decided ps reads (record { api_version = version; kind = kind }),
              ),
        )

    value_decided : (j : Json) → Reads body OBJECT_LEVELS j → ⊥
    value_decided j reads =
        never_refused (bad_request not_object)
        (j, reads, λ ps same. object_decided ps (subst (λ (k : Json). Reads body OBJECT_LEVELS k) same reads))

    data_decided : (d : serde.Data) → IsReading body d → ⊥
    data_decided d reading = by (nat_le (serde.depth d) OBJECT_LEVELS) refl (json_of d) refl
      where
        by : (b : Bool) → nat_le (serde.depth d) OBJECT_LEVELS ≡ b → (o : Option Json) → json_of d ≡ o → ⊥
        by false deep o is = let over : OBJECT_LEVELS < serde.depth d = grind (arith, nat_tests) in never_refused (bad_request too_deep) (d, reading, over)
        by true deep None is = let within : serde.depth d ≤ OBJECT_LEVELS = grind (arith, nat_tests) in never_refused (bad_request not_whole) (d, reading, within, is)
        by true deep (Some j) is = let within : serde.depth d ≤ OBJECT_LEVELS = grind (arith, nat_tests) in value_decided j (d, reading, within, is)

    pub always_one : ⊥
    always_one = never_refused (bad_request not_json) (λ d reading. data_decided d reading)
