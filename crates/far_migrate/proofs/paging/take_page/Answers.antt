use Rattle.std.proofs.Common.{◌+◌, option_map, true, false, ℕ, List, [], None, map, ap, ◌∙◌, refl}
use Rattle.kj_value.specs.Json.{Json}
use Rattle.kj_value.specs.Seen.{json}
use Rattle.wire_client.specs.laws.FarLaws.{made_nothing}
use Rattle.wire_client.specs.Keys.{texts_key}
use Rattle.far_migrate.specs.Counts.{counts_of, fault_of}
use Rattle.far_migrate.specs.Puts.{all, failed}
use Rattle.far_migrate.specs.Pages.{last_key}
use Rattle.far_migrate.specs.inner.Runs.{run_of}
use Rattle.far_migrate.proofs.Turning.{goes_at, goes_as, empty_as, back_as, few_as, takes_other, takes_starved, takes_fault, takes_last, takes_more}
use Rattle.far_migrate.proofs.paging.take_page.Goals as goal

pub returns-then-not-goes_on-clause-made : goal.returns-then-not-goes_on-clause-made
returns-then-not-goes_on-clause-made g c =
    ([], made_nothing _ (record { exchanges = g.R.Link.exchanges c.args.far.now; log = g.R.Far.log c.args.far.now }), takes_other (record { group = c.args.place.now.group.bytes; version = c.args.place.now.version.bytes; plural = c.args.place.now.plural.bytes }) c.args.run.now c.args.run.now c.args.page (goes_as (run_of c.args.run.now) (map json c.as_slice.result.now) c.args.page.items c.as_str.result.now c.args.page.token.bytes c.goes_on.result false c.as_slice.ensures.value c.as_str.ensures (goes_at (run_of c.args.run.now) (option_map texts_key c.last_key.result) (map json c.as_slice.result.now) c.as_str.result.now c.goes_on.result c.last_key.ensures c.goes_on.ensures.goes) c.if-not-goes_on.true))

pub returns-in-Err-clause-made : goal.returns-in-Err-clause-made
returns-in-Err-clause-made g c = ([], made_nothing _ (record { exchanges = g.R.Link.exchanges c.args.far.now; log = g.R.Far.log c.args.far.now }), takes_starved (record { group = c.args.place.now.group.bytes; version = c.args.place.now.version.bytes; plural = c.args.place.now.plural.bytes }) c.args.run.now c.args.run.now c.args.page)

pub returns-in-Err-put_all-clause-made : goal.returns-in-Err-put_all-clause-made
returns-in-Err-put_all-clause-made g c =
    let made = c.in-Err-put_all.ensures.made in (
      made.0,
      made.1,
      takes_fault (record { group = c.args.place.now.group.bytes; version = c.args.place.now.version.bytes; plural = c.args.place.now.plural.bytes }) c.args.run.now c.args.run.now c.args.page made.0 c.in-Err-put_all.fault (goes_as (run_of c.args.run.now) (map json c.as_slice.result.now) c.args.page.items c.as_str.result.now c.args.page.token.bytes c.goes_on.result true c.as_slice.ensures.value c.as_str.ensures (goes_at (run_of c.args.run.now) (option_map texts_key c.last_key.result) (map json c.as_slice.result.now) c.as_str.result.now c.goes_on.result c.last_key.ensures c.goes_on.ensures.goes) c.if-not-goes_on.false)
          (back_as (record { group = c.args.place.now.group.bytes; version = c.args.place.now.version.bytes; plural = c.args.place.now.plural.bytes }) (map json c.as_slice-3.result.now) c.args.page.items (counts_of c.args.run.now.counts) c.len.result made.0 (failed (fault_of c.in-Err-put_all.fault)) c.as_slice-3.ensures.value c.len.ensures.len made.2),
    )

pub returns-then-is_last-clause-made : goal.returns-then-is_last-clause-made
returns-then-is_last-clause-made g c =
    let made = c.in-Ok-put_all.ensures.made in (
      made.0,
      made.1,
      takes_last (record { group = c.args.place.now.group.bytes; version = c.args.place.now.version.bytes; plural = c.args.place.now.plural.bytes }) c.args.run.now (record c.args.run.now { counts = c.put_all.new.counts }) c.args.page made.0 (goes_as (run_of c.args.run.now) (map json c.as_slice.result.now) c.args.page.items c.as_str.result.now c.args.page.token.bytes c.goes_on.result true c.as_slice.ensures.value c.as_str.ensures (goes_at (run_of c.args.run.now) (option_map texts_key c.last_key.result) (map json c.as_slice.result.now) c.as_str.result.now c.goes_on.result c.last_key.ensures c.goes_on.ensures.goes) c.if-not-goes_on.false)
          (empty_as c.as_str-2.result.now c.args.page.token.bytes c.is_last.result true c.as_str-2.ensures c.is_last.ensures c.if-is_last.true)
          (back_as (record { group = c.args.place.now.group.bytes; version = c.args.place.now.version.bytes; plural = c.args.place.now.plural.bytes }) (map json c.as_slice-3.result.now) c.args.page.items (counts_of c.args.run.now.counts) c.len.result made.0 (all (counts_of c.put_all.new.counts)) c.as_slice-3.ensures.value c.len.ensures.len made.2),
    )

pub returns-clause-made : goal.returns-clause-made
returns-clause-made g c =
    let made = c.in-Ok-put_all.ensures.made in (
      made.0,
      made.1,
      takes_more (record { group = c.args.place.now.group.bytes; version = c.args.place.now.version.bytes; plural = c.args.place.now.plural.bytes }) c.args.run.now (record c.args.run.now { token = c.args.page.token; last = c.in-Ok.last; counts = c.put_all.new.counts }) c.args.page made.0 (goes_as (run_of c.args.run.now) (map json c.as_slice.result.now) c.args.page.items c.as_str.result.now c.args.page.token.bytes c.goes_on.result true c.as_slice.ensures.value c.as_str.ensures (goes_at (run_of c.args.run.now) (option_map texts_key c.last_key.result) (map json c.as_slice.result.now) c.as_str.result.now c.goes_on.result c.last_key.ensures c.goes_on.ensures.goes) c.if-not-goes_on.false)
          (empty_as c.as_str-2.result.now c.args.page.token.bytes c.is_last.result false c.as_str-2.ensures c.is_last.ensures c.if-is_last.false)
          (back_as (record { group = c.args.place.now.group.bytes; version = c.args.place.now.version.bytes; plural = c.args.place.now.plural.bytes }) (map json c.as_slice-3.result.now) c.args.page.items (counts_of c.args.run.now.counts) c.len.result made.0 (all (counts_of c.put_all.new.counts)) c.as_slice-3.ensures.value c.len.ensures.len made.2)
          (record {
            limit = refl;
            expired = refl;
            token = refl;
            last = c.in-Ok.ensures ∙ ap (λ (js : List Json). last_key None js) c.as_slice-2.ensures.value;
            listed = c.in-Ok-put_all.ensures.same ∙ ap (λ (k : ℕ). c.args.run.now.counts.listed + k) c.len.ensures.len;
            few = few_as c.as_slice.result.now c.args.page.items c.args.run.now.counts.listed c.as_slice.ensures.value (c.goes_on.ensures.few c.if-not-goes_on.false);
          }),
    )
