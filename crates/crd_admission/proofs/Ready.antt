-- What holds of an object whose document passed the table, and whose body is filled and valid.
use Rattle.std.proofs.Common.{◌≡◌, ◌∙◌, ℕ, ◌+◌, ◌≤◌, List, true, Option, Some, None, refl, ap, ap₂, sym, subst, arith}
use Rattle.std.specs.Prelude.{codes, is_none, option_map, Result, Ok, Err, IfErr}
use Rattle.std.specs.Str.{bytes_eq}
use Rattle.std.proofs.lemmas.Slice.Eq.{bytes_eq-Decides}
use Rattle.kj_value.specs.Json.{Json, null, boolean, whole, text, list, object, members_of, items_of, depth}
use Rattle.kj_value.specs.Fields.{Pairs, field, AreInOrder}
use Rattle.kj_value.specs.KindLaws.{pairs_members}
use Rattle.kj_value.specs.Reading.{Reads}
use Rattle.kj_value.specs.Sound.{AreSoundItems}
use Rattle.kj_value.specs.declared.rule.Rule.{Rule}
use Rattle.kube_meta.specs.View.{MetaView, ObjectView}
use Rattle.object_reading.specs.Fields.{pairs_of, object_at, list_at}
use Rattle.object_reading.specs.Keeping.{KeepsRules}
use Rattle.object_reading.specs.Parts.{text_or_empty, meta_in, body_in, parts_in, submitted}
use Rattle.object_reading.specs.Refusal.{is_given_text}
use Rattle.struct_schema.specs.Shape.{Shape}
use Rattle.struct_schema.specs.Fault.{Fault as CheckFault, fault}
use Rattle.struct_schema.specs.Filled.{Filled}
use Rattle.struct_schema.specs.Told.{NamesCheckFault}
use Rattle.struct_schema.specs.declared.trouble.CheckFault as check
use Rattle.struct_schema.specs.declared.trouble.CheckFault.TheVariants as answer
use Rattle.struct_schema.specs.OwnDefaults.{HasOwnDefaults}
use Rattle.struct_schema.specs.Valid.{valid}
use Rattle.api_calls.specs.Cause.{CauseView}
use Rattle.api_calls.specs.Meaning.{Request, Fault}
use Rattle.api_calls.specs.Versions.{Refused}
use Rattle.api_calls.specs.declared.versions.AdmitFault.{AdmitFault}
use Rattle.api_calls.specs.declared.versions.TheConstants.{OBJECT_LEVELS}
use Rattle.keep_laws.specs.FittedBody.{IsBody}
use Rattle.keep_laws.specs.Spokes.{api_version}
use Rattle.keep_laws.specs.Notes.{IsObject}
use Rattle.crd_meaning.specs.Definition.{Definition, version_at}
use Rattle.crd_meaning.specs.Request.{first_there, rows, placed, expected_of, IsTaken}
use Rattle.crd_meaning.specs.Admission.{IsFilling, Passes}
use Rattle.crd_meaning.specs.Refusal.{cause_at, broken_at, RefusesRequest}
use Rattle.crd_meaning.specs.Refusal as refusal
use Rattle.crd_loading.specs.Passed.{IsPassed}
use Rattle.crd_admission.specs.Steps as steps
use Rattle.crd_admission.proofs.Refusing.{refused_more}
use Rattle.crd_admission.specs.Low.{HasLowDefaults}
use Rattle.crd_admission.specs.Steps.{RefusesBody, IsFirst, BreaksRule, IsToldOf, TellsCause}
use Rattle.struct_schema.proofs.Agrees.{agrees}
use Rattle.crd_admission.proofs.Lists.{body_depth, owners_depth}
use Rattle.crd_admission.proofs.Depths.{filled_within}
use Rattle.crd_admission.proofs.Rows.{none_asked, early_fields}

given_is : (t : List ℕ) (o : Option Json) → is_given_text (λ s. bytes_eq s t) o ≡ true → text_or_empty o ≡ t
given_is t None e = absurd (cc)
given_is t (Some null) e = absurd (cc)
given_is t (Some (boolean b)) e = absurd (cc)
given_is t (Some (whole z)) e = absurd (cc)
given_is t (Some (text s)) e = (bytes_eq-Decides s t).0 e
given_is t (Some (list js)) e = absurd (cc)
given_is t (Some (object ms)) e = absurd (cc)

none_of : (o : Option CheckFault) → is_none o ≡ true → o ≡ None
none_of None e = refl
none_of (Some f) e = absurd (cc)

-- the answer of a check tells the first fault
abbrev cause_in : List ℕ → Rule → Option CauseView
cause_in path rule = Some (record { field = path; rule = rule })

pub names_told : (o : Option CheckFault) (e : check.CheckFault) → NamesCheckFault o e → TellsCause e (option_map cause_at o)
names_told None e h = absurd h
names_told (Some f) (answer.Broken path rule) h = ap₂ cause_in (sym h.0) (sym h.1)
names_told (Some f) answer.NoMemory h = tt

pub told_broken : (s : Shape) (x : ObjectView) (e : check.CheckFault) → ((k : Pairs) → IsFilling s x.body k → TellsCause e (broken_at s k))
    → (f : Fault) → IsToldOf x.meta.name e f → BreaksRule s x f
told_broken s x (answer.Broken path rule) broken f told =
    record { cause = record { field = path.bytes; rule = rule }; told = told; broken = broken }
told_broken s x answer.NoMemory broken f told = absurd told

-- the object that is submitted, in the namespace, before its body is filled
abbrev before_filling : Request → Pairs → ObjectView
before_filling r es = placed r.ns (submitted (parts_in es))

-- what is known of the object on the way
pub record IsReady (d : Definition) (r : Request) (es : Pairs) (x y : ObjectView) : Type 0 where
  pub nothing : first_there (rows d r es) ≡ None
  pub levels : depth (object (members_of es)) ≤ OBJECT_LEVELS
  pub before : x ≡ before_filling r es
  pub rest : y ≡ record x { body = y.body }
  pub filling : IsFilling (version_at d r.version).schema x.body y.body
  pub valid : valid (version_at d r.version).schema (object (members_of y.body)) ≡ true
  pub rules : KeepsRules x.meta

pub taken_of : (d : Definition) (r : Request) (es : Pairs) (x : ObjectView) (e : Option ℕ) → Reads r.bytes OBJECT_LEVELS (object (members_of es)) → first_there (rows d r es) ≡ None
    → x ≡ before_filling r es → e ≡ expected_of (submitted (parts_in es)) → IsTaken d r x e
taken_of d r es x e reads nothing is number =
    let whole_object : submitted (parts_in es) ≡ submitted (parts_in (pairs_of (members_of es))) = ap (λ (fs : Pairs). submitted (parts_in fs)) (sym (pairs_members es)) in record {
      value = object (members_of es);
      reads = reads;
      nothing = early_fields d r es ∙ nothing;
      object = is ∙ ap (placed r.ns) whole_object;
      number = number ∙ ap expected_of whole_object;
    }

-- ---- refusals

pub early_refused : (d : Definition) (r : Request) (es : Pairs) (f : Fault) → Reads r.bytes OBJECT_LEVELS (object (members_of es)) → IsFirst (rows d r es) f → RefusesBody d r f
early_refused d r es f reads h =
    steps.is_early (record { value = object (members_of es); reads = reads; told = early_fields d r es ∙ h })

pub broken_refused : (d : Definition) (r : Request) (x : ObjectView) (e : Option ℕ) (s : Shape) (f : Fault) → IsTaken d r x e → s ≡ (version_at d r.version).schema → BreaksRule s x f → RefusesBody d r f
broken_refused d r x e s f t same h =
    let b : BreaksRule (version_at d r.version).schema x f = subst (λ (u : Shape). BreaksRule u x f) same h in
    steps.is_broken (record { object = x; number = e; taken = t; cause = b.cause; told = b.told; broken = b.broken })

pub refused_request : (d : Definition) (r : Request) (f : Fault) → RefusesBody d r f → RefusesRequest d r f
refused_request d r f (steps.no_value n) = refusal.no_value n
refused_request d r f (steps.is_early e) = refusal.is_early e
refused_request d r f (steps.is_broken b) = refusal.is_broken b

pub all_refused : {A : Type 0} (d : Definition) (r : Request) (o : Result A AdmitFault) → IfErr o (Refused (RefusesBody d r) ⊥) → IfErr o (Refused (RefusesRequest d r) ⊥)
all_refused d r (Ok a) h = tt
all_refused d r (Err e) h = refused_more (RefusesBody d r) (RefusesRequest d r) e (refused_request d r) h

-- ---- what passes

module _ (d : Definition) (r : Request) (es : Pairs) (x y : ObjectView) (h : IsReady d r es x y) where
  is_filled : y ≡ record (before_filling r es) { body = y.body }
  is_filled = h.rest ∙ ap (λ (w : ObjectView). record w { body = y.body }) h.before

  pub passes : (e : Option ℕ) → IsTaken d r x e → Passes d r y e
  passes e t = record {
    taken = x;
    is = t;
    filling = h.filling;
    rest = h.rest;
    valid = none_of (fault (version_at d r.version).schema (object (members_of y.body)))
        (agrees (version_at d r.version).schema (object (members_of y.body)) ∙ h.valid);
  }

  owners_are : y.meta.owners ≡ list_at (field (codes "ownerReferences") (object_at (field (codes "metadata") es)))
  unfolding meta_in
  owners_are = ap (λ (w : ObjectView). w.meta.owners) is_filled

  body_within : 0 + depth (object (members_of x.body)) ≤ OBJECT_LEVELS
  body_within =
      let body : x.body ≡ body_in es = ap (λ (w : ObjectView). w.body) h.before in
      let least : depth (object (members_of x.body)) ≤ depth (object (members_of es)) =
      subst (λ (b : Pairs). depth (object (members_of b)) ≤ depth (object (members_of es))) (sym body) (body_depth es) in
      omega (arith, least, h.levels)

  module _ (own : HasOwnDefaults (version_at d r.version).schema) (low : HasLowDefaults 0 (version_at d r.version).schema)
      (again : (s : Shape) (j k : Json) → HasOwnDefaults s → Filled s j k → Filled s k k) where
    is_body : IsBody 0 (version_at d r.version).schema y.body
    is_body = record {
      valid = h.valid;
      filled = again (version_at d r.version).schema (object (members_of x.body)) (object (members_of y.body)) own h.filling.filled;
      levels = filled_within (version_at d r.version).schema 0 (object (members_of x.body)) (object (members_of y.body)) h.filling.sound low body_within h.filling.filled;
    }

    pub passed : IsObject y → AreInOrder y.meta.labels → AreSoundItems (items_of y.meta.owners) → IsPassed d r.version y
    unfolding meta_in
    passed sound labels owners =
        let asked = none_asked d r es h.nothing in record {
          version = ap (λ (w : ObjectView). w.api_version) is_filled ∙ given_is (api_version d.view.group (version_at d r.version).name) (field (codes "apiVersion") es) asked.0;
          kind = ap (λ (w : ObjectView). w.kind) is_filled ∙ given_is d.view.kind (field (codes "kind") es) asked.1;
          object = sound;
          body = is_body;
          rules = subst (λ (m : MetaView). KeepsRules m) (ap (λ (w : ObjectView). w.meta) (sym h.rest)) h.rules;
          meta = record {
            labels = labels;
            owners = owners;
            levels = subst (λ (js : List Json). 2 + depth (list (items_of js)) ≤ OBJECT_LEVELS) (sym owners_are) (owners_depth OBJECT_LEVELS es (omega arith) h.levels);
          };
          no_number = ap (λ (w : ObjectView). w.meta.resource_version) is_filled;
          no_uid = ap (λ (w : ObjectView). w.meta.uid) is_filled;
          created = ap (λ (w : ObjectView). w.meta.created) is_filled;
          deleted = ap (λ (w : ObjectView). w.meta.deleted) is_filled;
          generation = ap (λ (w : ObjectView). w.meta.generation) is_filled;
        }
