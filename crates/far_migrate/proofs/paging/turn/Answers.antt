use Rattle.far_migrate.specs.inner.Runs.{run_of}
use Rattle.far_migrate.specs.declared.ending.Unlisted.TheVariants as unlisted
use Rattle.far_migrate.proofs.Paged.{list_ended_at}
use Rattle.far_migrate.proofs.Turning.{page_turn, fault_turn, halved_turn, short_turn, again_turn, often_turn}
use Rattle.far_migrate.proofs.paging.turn.Goals as goal

pub returns-in-Ok-clause-made : goal.returns-in-Ok-clause-made
returns-in-Ok-clause-made g c =
    let page = c.in-Ok.ensures.page in
    page_turn _ (record { exchanges = g.R.Link.exchanges c.args.far.now; log = g.R.Far.log c.args.far.now }) (record { exchanges = g.R.Link.exchanges c.list_page.new.far; log = g.R.Far.log c.list_page.new.far }) (record { exchanges = g.R.Link.exchanges c.take_page.new.far; log = g.R.Far.log c.take_page.new.far }) (record { group = c.args.place.now.group.bytes; version = c.args.place.now.version.bytes; plural = c.args.place.now.plural.bytes }) c.args.run.now c.take_page.new.run c.as_str.result.now page.0 c.in-Ok.page c.take_page.result c.as_str.ensures page.1 page.2
    (rw c.list_page.ensures.base at c.take_page.ensures.made)

pub returns-in-Ok-halve-clause-made : goal.returns-in-Ok-halve-clause-made
returns-in-Ok-halve-clause-made g c =
    halved_turn _ (record { exchanges = g.R.Link.exchanges c.args.far.now; log = g.R.Far.log c.args.far.now }) (record { exchanges = g.R.Link.exchanges c.list_page.new.far; log = g.R.Far.log c.list_page.new.far }) (record { group = c.args.place.now.group.bytes; version = c.args.place.now.version.bytes; plural = c.args.place.now.plural.bytes }) c.args.run.now c.halve.new.self (list_ended_at _ (record { exchanges = g.R.Link.exchanges c.args.far.now; log = g.R.Far.log c.args.far.now }) (record { exchanges = g.R.Link.exchanges c.list_page.new.far; log = g.R.Far.log c.list_page.new.far }) (record { group = c.args.place.now.group.bytes; version = c.args.place.now.version.bytes; plural = c.args.place.now.plural.bytes }) (run_of c.args.run.now) c.as_str.result.now c.in-Err.end unlisted.TooLong c.as_str.ensures c.in-Err.ensures.end c.in-TooLong.ensures)
    c.in-Ok-halve.ensures.halved.0 c.in-Ok-halve.ensures.halved.1

pub returns-in-Err-halve-clause-made : goal.returns-in-Err-halve-clause-made
returns-in-Err-halve-clause-made g c =
    short_turn _ (record { exchanges = g.R.Link.exchanges c.args.far.now; log = g.R.Far.log c.args.far.now }) (record { exchanges = g.R.Link.exchanges c.list_page.new.far; log = g.R.Far.log c.list_page.new.far }) (record { group = c.args.place.now.group.bytes; version = c.args.place.now.version.bytes; plural = c.args.place.now.plural.bytes }) c.args.run.now c.halve.new.self c.in-Err-halve.fault (list_ended_at _ (record { exchanges = g.R.Link.exchanges c.args.far.now; log = g.R.Far.log c.args.far.now }) (record { exchanges = g.R.Link.exchanges c.list_page.new.far; log = g.R.Far.log c.list_page.new.far }) (record { group = c.args.place.now.group.bytes; version = c.args.place.now.version.bytes; plural = c.args.place.now.plural.bytes }) (run_of c.args.run.now) c.as_str.result.now c.in-Err.end unlisted.TooLong c.as_str.ensures c.in-Err.ensures.end c.in-TooLong.ensures)
    c.in-Err-halve.ensures.halved.0 c.in-Err-halve.ensures.halved.1

pub returns-in-Ok-restart-clause-made : goal.returns-in-Ok-restart-clause-made
returns-in-Ok-restart-clause-made g c =
    again_turn _ (record { exchanges = g.R.Link.exchanges c.args.far.now; log = g.R.Far.log c.args.far.now }) (record { exchanges = g.R.Link.exchanges c.list_page.new.far; log = g.R.Far.log c.list_page.new.far }) (record { group = c.args.place.now.group.bytes; version = c.args.place.now.version.bytes; plural = c.args.place.now.plural.bytes }) c.args.run.now c.restart.new.self (list_ended_at _ (record { exchanges = g.R.Link.exchanges c.args.far.now; log = g.R.Far.log c.args.far.now }) (record { exchanges = g.R.Link.exchanges c.list_page.new.far; log = g.R.Far.log c.list_page.new.far }) (record { group = c.args.place.now.group.bytes; version = c.args.place.now.version.bytes; plural = c.args.place.now.plural.bytes }) (run_of c.args.run.now) c.as_str.result.now c.in-Err.end unlisted.Expired c.as_str.ensures c.in-Err.ensures.end c.in-Expired.ensures)
    c.in-Ok-restart.ensures.restarts.0 c.in-Ok-restart.ensures.restarts.1

pub returns-in-Err-restart-clause-made : goal.returns-in-Err-restart-clause-made
returns-in-Err-restart-clause-made g c =
    often_turn _ (record { exchanges = g.R.Link.exchanges c.args.far.now; log = g.R.Far.log c.args.far.now }) (record { exchanges = g.R.Link.exchanges c.list_page.new.far; log = g.R.Far.log c.list_page.new.far }) (record { group = c.args.place.now.group.bytes; version = c.args.place.now.version.bytes; plural = c.args.place.now.plural.bytes }) c.args.run.now c.restart.new.self c.in-Err-restart.fault (list_ended_at _ (record { exchanges = g.R.Link.exchanges c.args.far.now; log = g.R.Far.log c.args.far.now }) (record { exchanges = g.R.Link.exchanges c.list_page.new.far; log = g.R.Far.log c.list_page.new.far }) (record { group = c.args.place.now.group.bytes; version = c.args.place.now.version.bytes; plural = c.args.place.now.plural.bytes }) (run_of c.args.run.now) c.as_str.result.now c.in-Err.end unlisted.Expired c.as_str.ensures c.in-Err.ensures.end c.in-Expired.ensures)
    c.in-Err-restart.ensures.restarts.0 c.in-Err-restart.ensures.restarts.1

pub returns-in-Fault-clause-made : goal.returns-in-Fault-clause-made
returns-in-Fault-clause-made g c = fault_turn _ (record { exchanges = g.R.Link.exchanges c.args.far.now; log = g.R.Far.log c.args.far.now }) (record { exchanges = g.R.Link.exchanges c.list_page.new.far; log = g.R.Far.log c.list_page.new.far }) (record { group = c.args.place.now.group.bytes; version = c.args.place.now.version.bytes; plural = c.args.place.now.plural.bytes }) c.args.run.now c.args.run.now c.in-Fault.fault (list_ended_at _ (record { exchanges = g.R.Link.exchanges c.args.far.now; log = g.R.Far.log c.args.far.now }) (record { exchanges = g.R.Link.exchanges c.list_page.new.far; log = g.R.Far.log c.list_page.new.far }) (record { group = c.args.place.now.group.bytes; version = c.args.place.now.version.bytes; plural = c.args.place.now.plural.bytes }) (run_of c.args.run.now) c.as_str.result.now c.in-Err.end (unlisted.Fault c.in-Fault.fault) c.as_str.ensures c.in-Err.ensures.end c.in-Fault.ensures)
