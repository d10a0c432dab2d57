use Rattle.std.proofs.Common.{map, ◌+◌, ◌++◌, List, drop, sym, ap, ◌∙◌}
use Rattle.std.proofs.lemmas.List.{append-nil, drop_all}
use Rattle.kj_value.specs.Json.{items_of}
use Rattle.kj_value.specs.Seen.{json}
use Rattle.kj_value.specs.declared.value.JVal.{JVal}
use Rattle.crd_reading.specs.Seen.{version_of}
use Rattle.crd_reading.specs.Spelled.{versions_read}
use Rattle.crd_reading.specs.First.{schemas_refusal}
use Rattle.crd_reading.specs.Told.{refused_in}
use Rattle.crd_reading.specs.declared.definition.Version.{Version}
use Rattle.crd_reading.proofs.Few.{defaults_push}
use Rattle.crd_reading.proofs.VersionSteps.{refused_here, not_refused_here, read_here}
use Rattle.crd_reading.proofs.schemas.read_versions.Goals as goal

pub loop-i-preserved : goal.loop-i-preserved
loop-i-preserved c =
    let l = c.loop-i in
    let x = c.index-items-i in
    record {
      read = ap (λ (ds : List Version). map version_of ds ++ versions_read (items_of (map json (drop (l.i + 1) c.args.items.now)))) c.in_ok-push-in-Ok.ensures.items
          ∙ read_here c.args.items.now l.i x.result l.versions.items c.in-Ok.version c.loop-i-test.true x.is (rw c.in-Ok.is at c.in_ok-found.ensures.read) ∙ l.invariant.read;
      own_defaults = rw c.in_ok-push-in-Ok.ensures.items (defaults_push l.versions.items c.in-Ok.version l.invariant.own_defaults (rw c.in-Ok.is at c.in_ok-found.ensures.own_defaults));
      walk = not_refused_here c.args.items.now l.i x.result c.loop-i-test.true x.is (ap refused_in (sym c.in-Ok.is) ∙ c.in_ok-found.ensures.walk) ∙ l.invariant.walk;
    }

pub returns-in-Err-clause-walk : goal.returns-in-Err-clause-walk
returns-in-Err-clause-walk c =
    let l = c.loop-i in
    refused_here c.args.items.now l.i c.index-items-i.result c.loop-i-test.true c.index-items-i.is (ap refused_in (sym c.in-Err.is) ∙ c.in_ok-found.ensures.walk) ∙ l.invariant.walk

pub returns-clause-read : goal.returns-clause-read
returns-clause-read c =
    let l = c.loop-i in
    sym (append-nil (map version_of l.versions.items))
    ∙ ap (λ (t : List JVal). map version_of l.versions.items ++ versions_read (items_of (map json t))) (sym (drop_all l.i c.args.items.now c.loop-i-test.false)) ∙ l.invariant.read

pub returns-clause-own_defaults : goal.returns-clause-own_defaults
returns-clause-own_defaults c = c.loop-i.invariant.own_defaults

pub returns-clause-walk : goal.returns-clause-walk
returns-clause-walk c =
    let l = c.loop-i in
    ap (λ (t : List JVal). schemas_refusal l.i (items_of (map json t))) (sym (drop_all l.i c.args.items.now c.loop-i-test.false)) ∙ l.invariant.walk
