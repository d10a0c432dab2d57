use Rattle.std.proofs.Common.{◌<◌, refl, arith}
use Rattle.kj_value.specs.Seen.{json}
use Rattle.far_migrate.specs.inner.Ends.{became}
use Rattle.far_migrate.proofs.OnePut.{put_done, put_failed, put_contested, got_gone, got_failed, put_again}
use Rattle.far_migrate.proofs.putting.+put_back.Goals as goal

pub returns-in-Err-clause-made : goal.returns-in-Err-clause-made
returns-in-Err-clause-made g t c =
    put_failed _ (record { exchanges = g.R.Link.exchanges c.args.far.now; log = g.R.Far.log c.args.far.now }) (record { exchanges = g.R.Link.exchanges c.put_once.new.far; log = g.R.Far.log c.put_once.new.far }) (record { group = c.args.place.now.group.bytes; version = c.args.place.now.version.bytes; plural = c.args.place.now.plural.bytes }) c.args.key.now c.args.left (json c.args.body.now) c.in-Err.fault c.requires.some c.in-Err.ensures.made

pub returns-in-Ok-Done-clause-made : goal.returns-in-Ok-Done-clause-made
returns-in-Ok-Done-clause-made g t c =
    put_done _ (record { exchanges = g.R.Link.exchanges c.args.far.now; log = g.R.Far.log c.args.far.now }) (record { exchanges = g.R.Link.exchanges c.put_once.new.far; log = g.R.Far.log c.put_once.new.far }) (record { group = c.args.place.now.group.bytes; version = c.args.place.now.version.bytes; plural = c.args.place.now.plural.bytes }) c.args.key.now c.args.left (json c.args.body.now) c.in-Ok-Done.kind c.requires.some (rw c.in-Ok-Done.field-0-is at c.in-Ok-Done.ensures.made)

pub returns-then-left-eq1-clause-made : goal.returns-then-left-eq1-clause-made
returns-then-left-eq1-clause-made g t c =
    put_contested _ (record { exchanges = g.R.Link.exchanges c.args.far.now; log = g.R.Far.log c.args.far.now }) (record { exchanges = g.R.Link.exchanges c.put_once.new.far; log = g.R.Far.log c.put_once.new.far }) (record { group = c.args.place.now.group.bytes; version = c.args.place.now.version.bytes; plural = c.args.place.now.plural.bytes }) c.args.key.now c.args.left (json c.args.body.now) c.if-left-eq1.true (rw c.in-Ok-Conflict.field-0-is at c.in-Ok-Conflict.ensures.made)

pub returns-in-Err-get_again-clause-made : goal.returns-in-Err-get_again-clause-made
returns-in-Err-get_again-clause-made g t c =
    let some : 1 < c.args.left = omega (arith, c.requires.some, c.if-left-eq1.false) in
    got_failed _ (record { exchanges = g.R.Link.exchanges c.args.far.now; log = g.R.Far.log c.args.far.now }) (record { exchanges = g.R.Link.exchanges c.put_once.new.far; log = g.R.Far.log c.put_once.new.far }) (record { exchanges = g.R.Link.exchanges c.get_again.new.far; log = g.R.Far.log c.get_again.new.far }) (record { group = c.args.place.now.group.bytes; version = c.args.place.now.version.bytes; plural = c.args.place.now.plural.bytes }) c.args.key.now c.args.left (json c.args.body.now) c.in-Err-get_again.fault some
    (rw c.in-Ok-Conflict.field-0-is at c.in-Ok-Conflict.ensures.made) (rw c.put_once.ensures.base at c.in-Err-get_again.ensures.made)

pub returns-in-Ok-Gone-clause-made : goal.returns-in-Ok-Gone-clause-made
returns-in-Ok-Gone-clause-made g t c =
    let some : 1 < c.args.left = omega (arith, c.requires.some, c.if-left-eq1.false) in
    got_gone _ (record { exchanges = g.R.Link.exchanges c.args.far.now; log = g.R.Far.log c.args.far.now }) (record { exchanges = g.R.Link.exchanges c.put_once.new.far; log = g.R.Far.log c.put_once.new.far }) (record { exchanges = g.R.Link.exchanges c.get_again.new.far; log = g.R.Far.log c.get_again.new.far }) (record { group = c.args.place.now.group.bytes; version = c.args.place.now.version.bytes; plural = c.args.place.now.plural.bytes }) c.args.key.now c.args.left (json c.args.body.now) some
    (rw c.in-Ok-Conflict.field-0-is at c.in-Ok-Conflict.ensures.made) (rw (c.in-Ok-Gone.field-0-is, c.put_once.ensures.base) at c.in-Ok-Gone.ensures.made)

pub returns-in-Ok-Found-clause-made : goal.returns-in-Ok-Found-clause-made
returns-in-Ok-Found-clause-made g t c =
    let some : 1 < c.args.left = omega (arith, c.requires.some, c.if-left-eq1.false) in
    put_again _ (record { exchanges = g.R.Link.exchanges c.args.far.now; log = g.R.Far.log c.args.far.now }) (record { exchanges = g.R.Link.exchanges c.put_once.new.far; log = g.R.Far.log c.put_once.new.far }) (record { exchanges = g.R.Link.exchanges c.get_again.new.far; log = g.R.Far.log c.get_again.new.far }) (record { exchanges = g.R.Link.exchanges c.put_back.new.far; log = g.R.Far.log c.put_back.new.far }) (record { group = c.args.place.now.group.bytes; version = c.args.place.now.version.bytes; plural = c.args.place.now.plural.bytes }) c.args.key.now c.args.left (json c.args.body.now) (json c.in-Ok-Found.newer) (became c.put_back.result) c.in-Ok-Found.newer some refl
    (rw c.in-Ok-Conflict.field-0-is at c.in-Ok-Conflict.ensures.made) (rw (c.in-Ok-Found.field-0-is, c.put_once.ensures.base) at c.in-Ok-Found.ensures.made)
    (rw (c.get_again.ensures.base, c.put_once.ensures.base) at c.put_back.ensures.made)
