use Rattle.std.proofs.Common.{◌∙◌, ◌≡◌, List, ℕ, refl, ap, sym, subst}
use Rattle.edge_io.specs.Causes.{Rose}
use Rattle.command_lines.specs.Given.{line_of, source_of, task_of, listening_of}
use Rattle.command_lines.specs.Lines.{by_rules}
use Rattle.crd_versions.specs.Set.{definition_of}
use Rattle.std.specs.Io.KnownBytes.{append_known}
use Rattle.kubeconv_cmd.specs.inner.Ends.{pipe_told, serve_told, stop_told, task_told, dumped_told, loaded_told}
use Rattle.kubeconv_cmd.specs.Status.{Told, migration_told}
use Rattle.kubeconv_cmd.specs.Outcome.{unloaded_task}
use Rattle.kubeconv_cmd.proofs.Taking.{addressed}
use Rattle.kubeconv_cmd.proofs.Outcomes.{told_line, stopped_so, pipe_outcome, task_outcome, drill_outcome, serve_outcome, migrate_outcome, dump_outcome, load_outcome, bad_migration, bad_dump, bad_load, bad_pipe, bad_serve}
use Rattle.kubeconv_cmd.proofs.top.run_command.Goals as goal

pub returns-in-Pipe-clause-outcome : goal.returns-in-Pipe-clause-outcome
returns-in-Pipe-clause-outcome g c =
    let e = c.pipe-came.ensures in
    rw c.in-Pipe.is (pipe_outcome _ (source_of c.in-Pipe.source) c.in-Pipe.turns c.pipe-came.result c.tell_pipe.result e.held e.stops e.untouched c.tell_pipe.ensures.status c.tell_pipe.ensures.line, refl, e.unlinked)

pub returns-in-Pipe-clause-errors : goal.returns-in-Pipe-clause-errors
returns-in-Pipe-clause-errors g c = λ other input answer ne.
    subst (λ (text : List ℕ). g.E.Sink.written c.tell_pipe.new.errors ≡ append_known (g.E.Sink.written c.args.errors.now) text)
    (told_line (pipe_told c.pipe-came.result) c.tell_pipe.result c.tell_pipe.ensures.status other input answer) (c.tell_pipe.ensures.line ne)

pub returns-in-Pipe-clause-place : goal.returns-in-Pipe-clause-place
returns-in-Pipe-clause-place g c = rw c.in-Pipe.is tt

pub returns-in-Pipe-clause-unused : goal.returns-in-Pipe-clause-unused
returns-in-Pipe-clause-unused g c = λ bad.
    bad_pipe c.pipe-came.result (Rose (g.F.Files.faults c.args.files.now) (g.F.Files.faults c.pipe-came.new.files)) (g.F.Files.file c.args.files.now) (source_of c.in-Pipe.source)
    (c.pipe-came.new.files ≡ c.args.files.now) (c.pipe-came.new.links ≡ c.args.links.now) c.tell_pipe.result c.pipe-came.ensures.stops c.tell_pipe.ensures.status bad

pub returns-in-Ok-clause-outcome : goal.returns-in-Ok-clause-outcome
returns-in-Ok-clause-outcome g c =
    let e = c.do_task-came.ensures in
    rw c.in-Task.is (
      task_outcome _ (by_rules c.in-Task.crd.now c.in-Task.rules.now) (definition_of c.in-Ok.versions) (task_of c.in-Task.task) c.do_task-came.result c.tell_task.result c.in-Ok.ensures.loaded e.asked
          e.wrote e.failed e.cause e.silent e.end e.flushed c.tell_task.ensures.status c.tell_task.ensures.line,
      refl,
      refl,
    )

pub returns-in-Ok-clause-errors : goal.returns-in-Ok-clause-errors
returns-in-Ok-clause-errors g c = λ other input answer ne.
    subst (λ (text : List ℕ). g.E.Sink.written c.tell_task.new.errors ≡ append_known (g.E.Sink.written c.args.errors.now) text)
    (told_line (task_told c.do_task-came.result) c.tell_task.result c.tell_task.ensures.status other input answer) (c.tell_task.ensures.line ne)

pub returns-in-Ok-clause-place : goal.returns-in-Ok-clause-place
returns-in-Ok-clause-place g c = rw c.in-Task.is tt

pub returns-in-Err-clause-outcome : goal.returns-in-Err-clause-outcome
returns-in-Err-clause-outcome g c =
    rw c.in-Task.is (
      unloaded_task (stopped_so _ (by_rules c.in-Task.crd.now c.in-Task.rules.now) c.in-Err.stop c.tell_stop.result
          (addressed _ (g.F.Files.file c.args.files.now) (by_rules c.in-Task.crd.now c.in-Task.rules.now) _ c.in-Err.stop c.in-Err.ensures.stops) c.tell_stop.ensures.status c.tell_stop.ensures.line) refl refl,
      refl,
      refl,
    )

pub returns-in-Err-clause-errors : goal.returns-in-Err-clause-errors
returns-in-Err-clause-errors g c = λ other input answer ne.
    subst (λ (text : List ℕ). g.E.Sink.written c.tell_stop.new.errors ≡ append_known (g.E.Sink.written c.args.errors.now) text)
    (told_line (stop_told c.in-Err.stop) c.tell_stop.result c.tell_stop.ensures.status other input answer) (c.tell_stop.ensures.line ne)

pub returns-in-Err-clause-place : goal.returns-in-Err-clause-place
returns-in-Err-clause-place g c = rw c.in-Task.is tt

pub returns-in-Drill-clause-outcome : goal.returns-in-Drill-clause-outcome
returns-in-Drill-clause-outcome g c =
    let e = c.do_drill-came.ensures in
    rw c.in-Drill.is (
      drill_outcome _ c.in-Drill.start c.in-Drill.count c.do_drill-came.result c.tell_task-in-Drill.result e.wrote e.failed e.cause e.silent e.flushed c.tell_task-in-Drill.ensures.status,
      refl,
      refl,
      refl,
      refl,
    )

pub returns-in-Drill-clause-errors : goal.returns-in-Drill-clause-errors
returns-in-Drill-clause-errors g c = λ other input answer ne.
    subst (λ (text : List ℕ). g.E.Sink.written c.tell_task-in-Drill.new.errors ≡ append_known (g.E.Sink.written c.args.errors.now) text)
    (told_line (task_told c.do_drill-came.result) c.tell_task-in-Drill.result c.tell_task-in-Drill.ensures.status other input answer) (c.tell_task-in-Drill.ensures.line ne)

pub returns-in-Drill-clause-place : goal.returns-in-Drill-clause-place
returns-in-Drill-clause-place g c = rw c.in-Drill.is tt

pub returns-in-Serve-clause-outcome : goal.returns-in-Serve-clause-outcome
returns-in-Serve-clause-outcome g c =
    let e = c.serve-came.ensures in
    rw c.in-Serve.is (serve_outcome _ (source_of c.in-Serve.source) (listening_of c.in-Serve.listening) c.serve-came.result c.tell_served.result e.came c.tell_served.ensures.status c.tell_served.ensures.line, refl, e.unlinked)

pub returns-in-Serve-clause-errors : goal.returns-in-Serve-clause-errors
returns-in-Serve-clause-errors g c = λ other input answer ne.
    subst (λ (text : List ℕ). g.E.Sink.written c.tell_served.new.errors ≡ append_known (g.E.Sink.written c.args.errors.now) text)
    (told_line (serve_told c.serve-came.result) c.tell_served.result c.tell_served.ensures.status other input answer) (c.tell_served.ensures.line ne)

pub returns-in-Serve-clause-place : goal.returns-in-Serve-clause-place
returns-in-Serve-clause-place g c = rw c.in-Serve.is c.serve-came.ensures.place

pub returns-in-Serve-clause-unused : goal.returns-in-Serve-clause-unused
returns-in-Serve-clause-unused g c = λ bad.
    bad_serve _ c.serve-came.result (g.F.Files.file c.args.files.now) (source_of c.in-Serve.source) _ (listening_of c.in-Serve.listening) _ (Rose (g.F.Files.faults c.args.files.now) (g.F.Files.faults c.serve-came.new.files))
    (c.serve-came.new.files ≡ c.args.files.now) (c.serve-came.new.links ≡ c.args.links.now) _ c.tell_served.result c.serve-came.ensures.came c.tell_served.ensures.status bad

pub returns-in-Migrate-clause-outcome : goal.returns-in-Migrate-clause-outcome
returns-in-Migrate-clause-outcome g c =
    let e = c.migrate_line-came.ensures in
    rw c.in-Migrate.is (
      migrate_outcome _ c.in-Migrate.url.now c.migrate_line-came.result c.tell_migrated.result e.came e.cause e.silent c.tell_migrated.ensures.status c.tell_migrated.ensures.line,
      refl,
      refl,
      refl,
    )

pub returns-in-Migrate-clause-unused : goal.returns-in-Migrate-clause-unused
returns-in-Migrate-clause-unused g c = λ bad. c.migrate_line-came.ensures.unused (bad_migration c.migrate_line-came.result c.tell_migrated.result c.tell_migrated.ensures.status bad)

pub returns-in-Migrate-clause-errors : goal.returns-in-Migrate-clause-errors
returns-in-Migrate-clause-errors g c = λ other input answer ne.
    subst (λ (text : List ℕ). g.E.Sink.written c.tell_migrated.new.errors ≡ append_known (g.E.Sink.written c.args.errors.now) text)
    (told_line (migration_told c.migrate_line-came.result) c.tell_migrated.result c.tell_migrated.ensures.status other input answer) (c.tell_migrated.ensures.line ne)

pub returns-in-Migrate-clause-place : goal.returns-in-Migrate-clause-place
returns-in-Migrate-clause-place g c = rw c.in-Migrate.is tt

pub returns-in-Dump-clause-outcome : goal.returns-in-Dump-clause-outcome
returns-in-Dump-clause-outcome g c =
    let e = c.dump_line-came.ensures in
    rw c.in-Dump.is (
      dump_outcome _ c.in-Dump.url.now c.dump_line-came.result c.tell_dumped.result e.dumped e.flushed e.handed_on e.cause e.placeless e.untouched refl c.tell_dumped.ensures.status c.tell_dumped.ensures.line,
      refl,
      refl,
      refl,
    )

pub returns-in-Dump-clause-unused : goal.returns-in-Dump-clause-unused
returns-in-Dump-clause-unused g c = λ bad. c.dump_line-came.ensures.unused (bad_dump c.dump_line-came.result c.tell_dumped.result c.tell_dumped.ensures.status bad)

pub returns-in-Dump-clause-errors : goal.returns-in-Dump-clause-errors
returns-in-Dump-clause-errors g c = λ other input answer ne.
    subst (λ (text : List ℕ). g.E.Sink.written c.tell_dumped.new.errors ≡ append_known (g.E.Sink.written c.args.errors.now) text)
    (told_line (dumped_told c.dump_line-came.result) c.tell_dumped.result c.tell_dumped.ensures.status other input answer) (c.tell_dumped.ensures.line ne)

pub returns-in-Dump-clause-place : goal.returns-in-Dump-clause-place
returns-in-Dump-clause-place g c = rw c.in-Dump.is tt

pub returns-in-Load-clause-outcome : goal.returns-in-Load-clause-outcome
returns-in-Load-clause-outcome g c =
    let e = c.load_line-came.ensures in
    rw c.in-Load.is (
      load_outcome _ c.in-Load.url.now c.load_line-came.result c.tell_loaded.result e.loaded e.wrote e.silent e.end e.cause e.unwritten e.placeless e.untouched c.tell_loaded.ensures.status c.tell_loaded.ensures.line,
      refl,
      refl,
    )

pub returns-in-Load-clause-unused : goal.returns-in-Load-clause-unused
returns-in-Load-clause-unused g c = λ bad. c.load_line-came.ensures.unused (bad_load c.load_line-came.result c.tell_loaded.result c.tell_loaded.ensures.status bad)

pub returns-in-Load-clause-errors : goal.returns-in-Load-clause-errors
returns-in-Load-clause-errors g c = λ other input answer ne.
    subst (λ (text : List ℕ). g.E.Sink.written c.tell_loaded.new.errors ≡ append_known (g.E.Sink.written c.args.errors.now) text)
    (told_line (loaded_told c.load_line-came.result) c.tell_loaded.result c.tell_loaded.ensures.status other input answer) (c.tell_loaded.ensures.line ne)

pub returns-in-Load-clause-place : goal.returns-in-Load-clause-place
returns-in-Load-clause-place g c = rw c.in-Load.is tt
