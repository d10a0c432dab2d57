-- For private clauses: what is known of a document on the way from a request to its object.
use Rattle.std.specs.Prelude.{◌≡◌, ℕ, Bool, true, List, [], Option, Some, codes}
use Rattle.std.specs.Str.{bytes_eq}
use Rattle.kj_value.specs.Fields.{Pairs, field}
use Rattle.kube_meta.specs.View.{ObjectView}
use Rattle.object_reading.specs.Fields.{given}
use Rattle.object_reading.specs.Refusal.{is_given_text}
use Rattle.object_reading.specs.Rules.{is_text, field_keeps}
use Rattle.struct_schema.specs.Shape.{Shape}
use Rattle.struct_schema.specs.declared.trouble.CheckFault.{CheckFault}
use Rattle.struct_schema.specs.declared.trouble.CheckFault.TheVariants.{Broken, NoMemory}
use Rattle.api_calls.specs.Cause.{CauseView}
use Rattle.api_calls.specs.Meaning.{Request, Fault, invalid}
use Rattle.keep_laws.specs.Spokes.{Spokes, api_version}
use Rattle.crd_reading.specs.View.{DefinitionView}
use Rattle.crd_meaning.specs.Definition.{Definition, version_at}
use Rattle.crd_meaning.specs.Request.{Judged, first_there, meta_fields, is_named_so}
use Rattle.crd_meaning.specs.Admission.{IsFilling}
use Rattle.crd_meaning.specs.Refusal.{IsNoValue, IsEarly, IsBroken, broken_at}

-- ---- a definition and its rules

-- what a document says, with a hub and rules
abbrev pub with_rules : DefinitionView → ℕ → Spokes → Definition
with_rules view hub spokes = record { view = view; hub = hub; spokes = spokes }

-- what doesn't look at the hub and the rules says the same of all
abbrev pub plain : DefinitionView → Definition
plain view = with_rules view 0 (record { group = []; hub = []; items = [] })

-- what is refused of a request before its hub value is asked for
pub data RefusesBody (d : Definition) (r : Request) (f : Fault) : Type 0 where
  no_value : IsNoValue r f → RefusesBody d r f
  is_early : IsEarly d r f → RefusesBody d r f
  is_broken : IsBroken d r f → RefusesBody d r f

-- ---- what the path asks for

abbrev pub has_version : Definition → ℕ → Pairs → Bool
has_version d v es =
    is_given_text (λ s. bytes_eq s (api_version d.view.group (version_at d v).name)) (field (codes "apiVersion") es)

abbrev pub has_kind : Definition → Pairs → Bool
has_kind d es = is_given_text (λ s. bytes_eq s d.view.kind) (field (codes "kind") es)

abbrev pub has_namespace : List ℕ → Pairs → Bool
has_namespace ns es = field_keeps (is_text (λ s. bytes_eq s ns)) (codes "namespace") (meta_fields es)

abbrev pub has_name : Option (List ℕ) → Pairs → Bool
has_name name es = is_named_so name (given (field (codes "name") (meta_fields es)))

pub record IsAsked (d : Definition) (r : Request) (es : Pairs) : Type 0 where
  pub version : has_version d r.version es ≡ true
  pub kind : has_kind d es ≡ true
  pub namespace : has_namespace r.ns es ≡ true
  pub name : has_name r.name es ≡ true

-- ---- the table

-- the fault is the first that is there
abbrev pub IsFirst : Judged → Fault → Type 0
IsFirst fs f = first_there fs ≡ Some f

-- ---- the filled body

-- the fault is the first rule that the object's filled body breaks
pub record BreaksRule (s : Shape) (x : ObjectView) (f : Fault) : Type 0 where
  pub cause : CauseView
  pub told : f ≡ invalid x.meta.name cause
  pub broken : (k : Pairs) → IsFilling s x.body k → broken_at s k ≡ Some cause

-- the answer of a check tells the cause, or of memory
abbrev pub TellsCause : CheckFault → Option CauseView → Type 0
TellsCause (Broken path rule) o = o ≡ Some (record { field = path.bytes; rule = rule })
TellsCause NoMemory o = Unit {0}

-- what is told of the answer of a check, in an object of that name
abbrev pub IsToldOf : List ℕ → CheckFault → Fault → Type 0
IsToldOf name (Broken path rule) f = f ≡ invalid name (record { field = path.bytes; rule = rule })
IsToldOf name NoMemory f = ⊥
