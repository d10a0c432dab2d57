-- Objects that stand at a version can be given to a converter.
use Rattle.std.proofs.Common.{◌≡◌, ◌∙◌, ℕ, suc, ◌+◌, ◌≤◌, List, true, Option, Some, None, refl, sym, subst, arith}
use Rattle.std.specs.Prelude.{ℤ, pos, is_none, IfSome, FitsSigned}
use Rattle.std.specs.Int.{w64}
use Rattle.kj_value.specs.Json.{list, object, items_of, members_of, depth, members_depth}
use Rattle.kube_meta.specs.View.{MetaView, ObjectView}
use Rattle.object_reading.specs.Written.{IsBody, IsMoment}
use Rattle.struct_schema.specs.Fault.{Fault as CheckFault, fault}
use Rattle.struct_schema.proofs.Agrees.{agrees}
use Rattle.api_calls.specs.Versions.{AreStamps, IsStamp}
use Rattle.crd_meaning.specs.Definition.{Definition, version_at}
use Rattle.crd_meaning.proofs.Documents.{depth_document}
use Rattle.crd_loading.specs.Passed.{IsPassed}
use Rattle.crd_laws.specs.Hook.{Hooked, Stands, IsWhole}
use Rattle.hook_versions.specs.inner.Steps.{IsStanding}

body_within : (a : ℕ) → suc a ≤ 64 → a ≤ 63
body_within a h = omega arith

owners_within : (a : ℕ) → 2 + a ≤ 64 → a ≤ 62
owners_within a h = omega arith

moment : (o : Option (List ℕ)) → IfSome o IsStamp → IfSome o IsMoment
moment None h = tt
moment (Some s) h = record { bytes = h.bytes; ascii = h.ascii }

pub stands_standing : (d : Definition) (v : ℕ) (x : ObjectView) → Stands d v x → AreStamps x.meta.created x.meta.deleted x.meta.generation → IsStanding d v x
stands_standing d v x s stamps = record {
  stands = s;
  stamps = stamps;
  sent = record {
    kind = s.kind;
    rules = s.rules;
    meta = s.at.meta;
    writable = record { body = s.at.body.free; created = moment x.meta.created stamps.created; deleted = moment x.meta.deleted stamps.deleted };
    no_uid = s.no_uid;
    levels = depth_document x (body_within (members_depth (members_of x.body)) s.at.body.levels) (owners_within (depth (list (items_of x.meta.owners))) s.at.meta.levels);
  };
}

pub whole_standing : (k : Hooked) (h : ObjectView) → IsWhole k h → IsStanding k.definition k.definition.hub h
whole_standing k h w = stands_standing k.definition k.definition.hub h w.stands w.stamps

-- ---- what passed

none_of : (o : Option CheckFault) → is_none o ≡ true → o ≡ None
none_of None e = refl
none_of (Some f) e = absurd (cc)

unset_stamps : (m : MetaView) → m.created ≡ None → m.deleted ≡ None → m.generation ≡ pos 0 → AreStamps m.created m.deleted m.generation
unset_stamps m a b c =
    let zero_fits : FitsSigned w64 (pos 0) = omega arith in record {
      created = subst (λ (o : Option (List ℕ)). IfSome o IsStamp) (sym a) tt;
      deleted = subst (λ (o : Option (List ℕ)). IfSome o IsStamp) (sym b) tt;
      generation = subst (λ (z : ℤ). FitsSigned w64 z) (sym c) zero_fits;
    }

pub passed_standing : (d : Definition) (v : ℕ) (x : ObjectView) → IsPassed d v x → IsBody x.body → IsStanding d v x
passed_standing d v x p free = stands_standing d v x (record {
  at = record {
    version = p.version;
    body = record {
      free = free;
      valid = none_of (fault (version_at d v).schema (object (members_of x.body))) (agrees (version_at d v).schema (object (members_of x.body)) ∙ p.body.valid);
      filled = record { filled = p.body.filled; sound = p.object.body };
      levels = omega (arith, p.body.levels);
    };
    annotations = p.object.annotations;
    meta = p.meta;
  };
  kind = p.kind;
  rules = p.rules;
  no_number = p.no_number;
  no_uid = p.no_uid;
}) (unset_stamps x.meta p.created p.deleted p.generation)
