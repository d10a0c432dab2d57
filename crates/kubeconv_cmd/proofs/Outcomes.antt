-- What a run of each line comes to, from what its parts came to.
use Rattle.std.proofs.Common.{◌≡◌, ◌≢◌, ◌∙◌, ◌⊎◌, ℕ, List, Option, None, Some, Result, Ok, Err, inl, inr, refl, ap, sym, subst, arith}
use Rattle.std.specs.Prelude.{IfOk, IfErr, OnOk, OnErr, IfSome, MatchOption, ⊤}
use Rattle.std.specs.Io.KnownBytes.{IsAtEnd}
use Rattle.api_calls.specs.Meaning.{Meaning}
use Rattle.crd_meaning.specs.Definition.{Definition}
use Rattle.edge_io.specs.Causes.{Rose}
use Rattle.command_lines.specs.declared.words.Command.{Command}
use Rattle.command_lines.specs.Given.{line_of}
use Rattle.command_lines.specs.Lines.{Source, built_in, by_rules, by_converter, Listening, Task, Line, IsLine, pipe, task, drill, serve, migrate, dump, load, remote}
use Rattle.output_lines.specs.Listening.{NamesPlace}
use Rattle.place.specs.Place.{IsPlace, OnBadPlace, PlaceView}
use Rattle.place.specs.declared.PlaceFault.{PlaceFault}
use Rattle.place.specs.declared.PlaceFault.TheVariants as places
use Rattle.record_dump.specs.Dumps.{OnBrokenOff, OnDone, OnFaults as OnDumpFaults}
use Rattle.record_dump.specs.Restores.{OnEnd, OnFaults as OnRestoreFaults}
use Rattle.record_dump.specs.declared.ends.DumpEnd.{DumpEnd}
use Rattle.record_dump.specs.declared.ends.DumpEnd.TheVariants as dumps
use Rattle.record_dump.specs.declared.ends.RestoreEnd.TheVariants as restores
use Rattle.far_migrate.specs.declared.tally.FarFault.{FarFault}
use Rattle.far_migrate.specs.declared.tally.FarFault.TheVariants as faults
use Rattle.far_lines.specs.Ends.{put_back, broke as broke_so, unmade, CameOf, at_place, placeless as no_place, unread as unread_place, Told as ToldTally, IfSilent, OnUnwritten, fault_end}
use Rattle.far_lines.specs.declared.end.MigrateEnd.{MigrateEnd}
use Rattle.far_lines.specs.declared.end.MigrateEnd.TheVariants as migrated
use Rattle.far_lines.specs.Dumped.{DumpedAt}
use Rattle.far_lines.specs.Loaded.{LoadedAt, WroteOf, IfUndone, IfUnwritten, restored_to}
use Rattle.far_lines.specs.declared.end.LoadEnd.{LoadEnd}
use Rattle.far_lines.specs.declared.end.LoadEnd.TheVariants as loads
use Rattle.serve_many.specs.Answered.{Sides}
use Rattle.serve_input.specs.Conversed.{MayRise, Start}
use Rattle.serve_input.specs.declared.conversing.PipeEnd.{PipeEnd}
use Rattle.serve_input.specs.declared.conversing.PipeEnd.TheVariants.{Closed, Torn, Refused, Spent, ReadFault, WriteFault}
use Rattle.kubeconv_cmd.specs.World.{World, held, input, left, written_before, written, flushed, linked_before, linked, FilesFail, InputFails, OutputFails, FilesStay, InputStays, OutputStays, EarsStay, LinksStay, Says, OfInput, streams, hearing}
use Rattle.kubeconv_cmd.specs.Sources.{Loaded, with_rules, meaning_in, faults_in, DrillsExample, Means, IsAddressless}
use Rattle.output_lines.specs.declared.listening.Unserved.TheVariants as unserved_ends
use Rattle.kubeconv_cmd.specs.Serving.{Conversation, Hearing, Service, answered, answered_fewer, unheard, untold, wanting_service}
use Rattle.kubeconv_cmd.specs.Tasks.{AnswersDocument, RefusesDocument, KnowsTarget, LacksTarget, Wrote, Broke}
use Rattle.kubeconv_cmd.specs.Status.{Told, plainly, of_file, of_input, of_line, of_answer, status_told, line_told, dump_told, load_told, place_told, migration_told, error_line, pipe_status}
use Rattle.kubeconv_cmd.specs.Remote.{IsTold, MigrateOutcome, Unplaced, DumpOutcome, dumped, undumped, LoadOutcome, restored, unloaded}
use Rattle.kubeconv_cmd.specs.Outcome.{Stopped, unreadable, refused, wanting, addressless, PipeOutcome, conversed, unserved, TaskEnd, wrote_line, broke_line, refused_input, unread_input, wanting_task, TaskOutcome, did_task, targetless, unloaded_task, DrillOutcome, wrote_drill, broke_drill, wanting_drill, ServeOutcome, served, unloaded_service, IfRuled, Outcome, IsPlaceless, IfServes}
use Rattle.kubeconv_cmd.specs.inner.Ends.{Asked, OnHalt, Serves, Stops, Unwritten, dumped_told, loaded_told, pipe_told, serve_told, service_status, stop_told, task_told, why_text}
use Rattle.kubeconv_cmd.specs.declared.stop.Stop.{Stop}
use Rattle.kubeconv_cmd.specs.declared.stop.Stop.TheVariants as stops
use Rattle.kubeconv_cmd.specs.declared.stop.Unmet.{Unmet}
use Rattle.kubeconv_cmd.specs.declared.stop.Unmet.TheVariants as unmet
use Rattle.kubeconv_cmd.specs.declared.halt.Halt.{Halt}
use Rattle.kubeconv_cmd.specs.declared.halt.Halt.TheVariants as halts
use Rattle.kubeconv_cmd.specs.declared.status.TheConstants.{DONE, BAD_WORDS, REFUSED, BAD_INPUT, NO_MEMORY, BAD_ANSWER}

-- the line of a status but three
pub told_line : (t : Told) (s : ℕ) → s ≡ status_told t → s ≢ REFUSED → s ≢ BAD_INPUT → s ≢ BAD_ANSWER → line_told t ≡ error_line s
told_line (plainly status) s is file bad answer = ap error_line (sym is)
told_line (of_file name why) s is file bad answer = absurd (file is)
told_line (of_input why) s is file bad answer = absurd (bad is)
told_line (of_line number) s is file bad answer = absurd (bad is)
told_line (of_answer code) s is file bad answer = absurd (answer is)

-- ---- no definition

pub stopped_so : {F S K E A L I O : Type 0} (w : World F S K E A L I O) (source : Source) (stop : Stop) (s : ℕ) → Stops (FilesFail w) (held w) source (FilesStay w × LinksStay w) stop
    → s ≡ status_told (stop_told stop) → Says w (line_told (stop_told stop)) → Stopped w source s
stopped_so w source stops.ReadFailed s h is says = unreadable is h
stopped_so w source (stops.Refused file why) s h is says = refused file.now (why_text why) is h says
stopped_so w source stops.BadAddress s h is says = addressless is h.0 h.1.0 h.1.1
stopped_so w source stops.NoMemory s h is says = wanting is

-- ---- `pipe`

pub pipe_outcome : {F S K E A L I O : Type 0} (w : World F S K E A L I O) (source : Source) (turns : ℕ) (came : Result PipeEnd Stop) (s : ℕ)
    → IfOk came (λ end. (l : Loaded) × Means (held w) source l × Conversation (meaning_in l) (MayRise (faults_in l)) w.start turns (streams w) (InputFails w) (OutputFails w) end)
    → IfErr came (Stops (FilesFail w) (held w) source (FilesStay w × LinksStay w)) → OnErr came (InputStays w × OutputStays w)
    → s ≡ status_told (pipe_told came) → Says w (line_told (pipe_told came)) → PipeOutcome w source turns s
pipe_outcome w source turns (Ok end) s talk stops stays is says = conversed talk.0 end talk.1 talk.2 is
pipe_outcome w source turns (Err stop) s talk stops stays is says = unserved (stopped_so w source stop s stops is says) stays.0 stays.1

-- ---- `convert` and `review`

task_end : {F S K E A L I O : Type 0} (w : World F S K E A L I O) (d : Definition) (t : Task) (came : Result Unit Halt) (s : ℕ)
    → OfInput w (λ b. OnOk came (Wrote (AnswersDocument d t b) (written_before w) (written w)))
    → OfInput w (λ b. IfErr came (OnHalt (record { reads = InputFails w; writes = Broke (AnswersDocument d t b) (written_before w) (written w); input = RefusesDocument d b t })))
    → IfErr came (OnHalt (record { reads = InputFails w; writes = OutputFails w; input = λ _. Unit {0} })) → IfErr came (Unwritten (OutputStays w))
    → OnOk came (IsAtEnd (left w)) → OnOk came (flushed w ≡ written w) → s ≡ status_told (task_told came) → Says w (line_told (task_told came)) → TaskEnd w d t s
task_end w d t (Ok u) s wrote failed cause silent end handed is says = wrote_line is wrote end handed
task_end w d t (Err halts.ReadFailed) s wrote failed cause silent end handed is says = unread_input is cause silent
task_end w d t (Err halts.WriteFailed) s wrote failed cause silent end handed is says = broke_line is cause failed
task_end w d t (Err (halts.Input why)) s wrote failed cause silent end handed is says = refused_input why.bytes is failed says silent
task_end w d t (Err halts.NoMemory) s wrote failed cause silent end handed is says = wanting_task is silent

targetless_so : {F S K E A L I O : Type 0} (w : World F S K E A L I O) (source : Source) (d : Definition) (t : Task) (halt : Halt) (s : ℕ) → Means (held w) source (with_rules d) → InputStays w
    → OnHalt (record { reads = ⊥; writes = ⊥; input = LacksTarget d t }) halt → Unwritten (OutputStays w) halt → s ≡ status_told (task_told (Err halt)) → Says w (line_told (task_told (Err halt)))
    → TaskOutcome w source t s
targetless_so w source d t halts.ReadFailed s means stays lacks silent is says = absurd lacks
targetless_so w source d t halts.WriteFailed s means stays lacks silent is says = absurd lacks
targetless_so w source d t (halts.Input why) s means stays lacks silent is says = targetless d why.bytes means lacks is says stays silent
targetless_so w source d t halts.NoMemory s means stays lacks silent is says = unloaded_task (wanting is) stays silent

pub task_outcome : {F S K E A L I O : Type 0} (w : World F S K E A L I O) (source : Source) (d : Definition) (t : Task) (came : Result Unit Halt) (s : ℕ) → Means (held w) source (with_rules d)
    → Asked (KnowsTarget d t) (InputStays w) (LacksTarget d t) came
    → OfInput w (λ b. OnOk came (Wrote (AnswersDocument d t b) (written_before w) (written w)))
    → ((b : List ℕ) → input w ≡ Some b → KnowsTarget d t → IfErr came (OnHalt (record { reads = InputFails w; writes = Broke (AnswersDocument d t b) (written_before w) (written w); input = RefusesDocument d b t })))
    → IfErr came (OnHalt (record { reads = InputFails w; writes = OutputFails w; input = λ _. Unit {0} })) → IfErr came (Unwritten (OutputStays w))
    → OnOk came (IsAtEnd (left w)) → OnOk came (flushed w ≡ written w) → s ≡ status_told (task_told came) → Says w (line_told (task_told came)) → TaskOutcome w source t s
task_outcome w source d t came s means (inl known) wrote failed cause silent end handed is says =
    did_task d means known (task_end w d t came s wrote (λ b told. failed b told known) cause silent end handed is says)
task_outcome w source d t (Ok u) s means (inr lacks) wrote failed cause silent end handed is says = absurd lacks.1
task_outcome w source d t (Err halt) s means (inr lacks) wrote failed cause silent end handed is says = targetless_so w source d t halt s means lacks.0 lacks.1 silent is says

-- ---- `drill`

pub drill_outcome : {F S K E A L I O : Type 0} (w : World F S K E A L I O) (start count : ℕ) (came : Result Unit Halt) (s : ℕ)
    → OnOk came (Wrote (DrillsExample start count) (written_before w) (written w))
    → IfErr came (OnHalt (record { reads = ⊥; writes = Broke (DrillsExample start count) (written_before w) (written w); input = λ _. ⊥ }))
    → IfErr came (OnHalt (record { reads = ⊥; writes = OutputFails w; input = λ _. ⊥ })) → IfErr came (Unwritten (OutputStays w)) → OnOk came (flushed w ≡ written w)
    → s ≡ status_told (task_told came) → DrillOutcome w start count s
drill_outcome w start count (Ok u) s wrote failed cause silent handed is = wrote_drill is wrote handed
drill_outcome w start count (Err halts.ReadFailed) s wrote failed cause silent handed is = absurd cause
drill_outcome w start count (Err halts.WriteFailed) s wrote failed cause silent handed is = broke_drill is cause failed
drill_outcome w start count (Err (halts.Input why)) s wrote failed cause silent handed is = absurd cause
drill_outcome w start count (Err halts.NoMemory) s wrote failed cause silent handed is = wanting_drill is silent

-- ---- `serve`

pub serve_outcome : {F S K E A L I O : Type 0} (w : World F S K E A L I O) (source : Source) (l : Listening) (came : Result Unit Unmet) (s : ℕ)
    → Serves w.tells.sides (held w) source w.start l (hearing w) (FilesFail w) (FilesStay w × LinksStay w) (OutputStays w × EarsStay w) came
    → s ≡ status_told (serve_told came) → Says w (line_told (serve_told came)) → ServeOutcome w source l s
serve_outcome w source l (Ok u) s h is says = served h.0 h.1 (subst (λ (x : ℕ). Service (faults_in h.0) w.tells.sides (meaning_in h.0) w.start l (hearing w) x) (sym is) h.2)
serve_outcome w source l (Err (unmet.Unserved why)) s h is says = served h.0 h.1 (subst (λ (x : ℕ). Service (faults_in h.0) w.tells.sides (meaning_in h.0) w.start l (hearing w) x) (sym is) h.2)
serve_outcome w source l (Err (unmet.Stopped stop)) s h is says = unloaded_service (stopped_so w source stop s h.0 is says) h.1.0 h.1.1

-- ---- servers from outside

pub migrate_outcome : {F S K E A L I O : Type 0} (w : World F S K E A L I O) (url : List ℕ) (came : MigrateEnd) (s : ℕ) → CameOf url (linked_before w) (linked w) (written_before w) (written w) (flushed w) came
    → OnUnwritten (OutputFails w) came → IfSilent (OutputStays w) came → s ≡ status_told (migration_told came) → Says w (line_told (migration_told came)) → MigrateOutcome w url s
migrate_outcome w url came s at cause silent is says = record { end = came; is_told = record { status_is = is; says = says }; came = at; cause = cause; silent = silent }

pub dump_outcome : {F S K E A L I O : Type 0} (w : World F S K E A L I O) (url : List ℕ) (came : Result DumpEnd PlaceFault) (s : ℕ)
    → IfOk came (DumpedAt url (linked_before w) (linked w) (written_before w) (written w)) → IfOk came (OnDone (flushed w ≡ written w)) → IfOk came (OnBrokenOff (OutputStays w ⊎ (flushed w ≡ written w))) → IfOk came (OnDumpFaults ⊤ (OutputFails w))
    → IfErr came (OnBadPlace ((p : PlaceView) → IsPlace url p → ⊥)) → OnErr came ((linked w ≡ linked_before w) × OutputStays w) → InputStays w
    → s ≡ status_told (dumped_told came) → Says w (line_told (dumped_told came)) → DumpOutcome w url s
dump_outcome w url (Ok d) s at handed broken cause none stays unread is says = dumped d (record { status_is = is; says = says }) at cause handed broken
dump_outcome w url (Err fault) s at handed broken cause none stays unread is says =
    undumped (record { fault = fault; is_told = record { status_is = is; says = says }; none = none; unlinked = stays.0; untouched = unread; silent = stays.1 })

pub load_outcome : {F S K E A L I O : Type 0} (w : World F S K E A L I O) (url : List ℕ) (came : Result LoadEnd PlaceFault) (s : ℕ)
    → IfOk came (λ e. LoadedAt url (linked_before w) (linked w) (input w) (left w) (restored_to e)) → IfOk came (WroteOf (written_before w) (written w) (flushed w))
    → IfOk came (λ e. IfUndone (OutputStays w) (restored_to e)) → IfOk came (λ e. OnEnd (IsAtEnd (left w)) (restored_to e))
    → IfOk came (λ e. OnRestoreFaults ⊤ (InputFails w) (restored_to e)) → IfOk came (IfUnwritten (OutputFails w))
    → IfErr came (OnBadPlace ((p : PlaceView) → IsPlace url p → ⊥)) → OnErr came ((linked w ≡ linked_before w) × InputStays w × OutputStays w)
    → s ≡ status_told (loaded_told came) → Says w (line_told (loaded_told came)) → LoadOutcome w url s
load_outcome w url (Ok e) s at wrote silent end cause unwritten none stays is says = restored e (record { status_is = is; says = says }) at cause end unwritten wrote silent
load_outcome w url (Err fault) s at wrote silent end cause unwritten none stays is says =
    unloaded (record { fault = fault; is_told = record { status_is = is; says = says }; none = none; unlinked = stays.0; untouched = stays.1; silent = stays.2 })

-- ---- where words are told to be bad

only_stopped : {F S K E A L I O : Type 0} (w : World F S K E A L I O) (source : Source) (s : ℕ) → Stopped w source s → s ≡ BAD_WORDS → IsAddressless source × FilesStay w × LinksStay w
only_stopped w source s (unreadable is fails) e = absurd (omega (arith, is, e))
only_stopped w source s (refused name why is bad says) e = absurd (omega (arith, is, e))
only_stopped w source s (wanting is) e = absurd (omega (arith, is, e))
only_stopped w source s (addressless is none files links) e = (none, files, links)

never_conversed : (end : PipeEnd) (s : ℕ) → s ≡ pipe_status end → s ≡ BAD_WORDS → ⊥
never_conversed Closed s is e = omega (arith, is, e)
never_conversed (Torn held) s is e = omega (arith, is, e)
never_conversed (Refused f) s is e = omega (arith, is, e)
never_conversed Spent s is e = omega (arith, is, e)
never_conversed ReadFault s is e = omega (arith, is, e)
never_conversed WriteFault s is e = omega (arith, is, e)

never_done : {F S K E A L I O : Type 0} (w : World F S K E A L I O) (d : Definition) (t : Task) (s : ℕ) → TaskEnd w d t s → s ≡ BAD_WORDS → ⊥
never_done w d t s (wrote_line is wrote end handed) e = omega (arith, is, e)
never_done w d t s (broke_line is fails broke) e = omega (arith, is, e)
never_done w d t s (refused_input why is bad says silent) e = omega (arith, is, e)
never_done w d t s (unread_input is fails silent) e = omega (arith, is, e)
never_done w d t s (wanting_task is silent) e = omega (arith, is, e)

never_tasked : {F S K E A L I O : Type 0} (w : World F S K E A L I O) (crd rules : List ℕ) (t : Task) (s : ℕ) → TaskOutcome w (by_rules crd rules) t s → s ≡ BAD_WORDS → ⊥
never_tasked w crd rules t s (did_task d means known ends) e = never_done w d t s ends e
never_tasked w crd rules t s (targetless d why means lacks is says unread output) e = omega (arith, is, e)
never_tasked w crd rules t s (unloaded_task stopped unread output) e = (only_stopped w (by_rules crd rules) s stopped e).0

never_drilled : {F S K E A L I O : Type 0} (w : World F S K E A L I O) (start count s : ℕ) → DrillOutcome w start count s → s ≡ BAD_WORDS → ⊥
never_drilled w start count s (wrote_drill is wrote handed) e = omega (arith, is, e)
never_drilled w start count s (broke_drill is fails broke) e = omega (arith, is, e)
never_drilled w start count s (wanting_drill is silent) e = omega (arith, is, e)

never_served : {F S K E A L I O : Type 0} (w : World F S K E A L I O) (m : Loaded) (l : Listening) (s : ℕ) → Service (faults_in m) w.tells.sides (meaning_in m) w.start l (hearing w) s → s ≡ BAD_WORDS → ⊥
never_served w m l s (answered count is all answers) e = omega (arith, is, e)
never_served w m l s (answered_fewer count is fails few answers) e = omega (arith, is, e)
never_served w m l s (unheard is fails told nobody) e = omega (arith, is, e)
never_served w m l s (untold is fails told nobody) e = omega (arith, is, e)
never_served w m l s (wanting_service is told nobody) e = omega (arith, is, e)

-- only at a bad place
pub bad_migration : (came : MigrateEnd) (s : ℕ) → s ≡ status_told (migration_told came) → s ≡ BAD_WORDS → came ≡ migrated.BadPlace
bad_migration migrated.Done s is e = absurd (omega (arith, is, e))
bad_migration migrated.Contested s is e = absurd (omega (arith, is, e))
bad_migration migrated.BadPlace s is e = refl
bad_migration migrated.LinkFault s is e = absurd (omega (arith, is, e))
bad_migration (migrated.Answer code) s is e = absurd (omega (arith, is, e))
bad_migration migrated.Restarted s is e = absurd (omega (arith, is, e))
bad_migration migrated.WriteFault s is e = absurd (omega (arith, is, e))
bad_migration migrated.NoMemory s is e = absurd (omega (arith, is, e))

good_fault : (fault : FarFault) → migrated.BadPlace ≡ fault_end fault → ⊥
good_fault faults.LinkFault e = cc
good_fault (faults.Answer code) e = cc
good_fault faults.Restarted e = cc
good_fault faults.NoMemory e = cc

none_at : {F S K E A L I O : Type 0} (w : World F S K E A L I O) (url : List ℕ) → CameOf url (linked_before w) (linked w) (written_before w) (written w) (flushed w) migrated.BadPlace → (p : PlaceView) → IsPlace url p → ⊥
none_at w url (at_place q is (put_back t m told)) = absurd told
none_at w url (at_place q is (broke_so fault same m)) = absurd (good_fault fault same)
none_at w url (at_place q is (unmade same stays)) = absurd cc
none_at w url (no_place same none stays) = none
none_at w url (unread_place same stays) = absurd cc

only_unmigrated : {F S K E A L I O : Type 0} (w : World F S K E A L I O) (url : List ℕ) (s : ℕ) → MigrateOutcome w url s → s ≡ BAD_WORDS → ((p : PlaceView) → IsPlace url p → ⊥) × OutputStays w
only_unmigrated w url s out e =
    let is = bad_migration out.end s out.is_told.status_is e in (
      none_at w url (subst (λ (x : MigrateEnd). CameOf url (linked_before w) (linked w) (written_before w) (written w) (flushed w) x) is out.came),
      subst (λ (x : MigrateEnd). IfSilent (OutputStays w) x) is out.silent,
    )

bad_place : (fault : PlaceFault) (s : ℕ) → s ≡ status_told (place_told fault) → s ≡ BAD_WORDS → fault ≡ places.BadPlace
bad_place places.BadPlace s is e = refl
bad_place places.NoMemory s is e = absurd (omega (arith, is, e))

only_unplaced : {F S K E A L I O : Type 0} (w : World F S K E A L I O) (url : List ℕ) (s : ℕ) → Unplaced w url s → s ≡ BAD_WORDS → ((p : PlaceView) → IsPlace url p → ⊥) × InputStays w × OutputStays w
only_unplaced w url s u e =
    (subst (λ (x : PlaceFault). OnBadPlace ((p : PlaceView) → IsPlace url p → ⊥) x) (bad_place u.fault s u.is_told.status_is e) u.none, u.untouched, u.silent)

never_dumped : (d : DumpEnd) (s : ℕ) → s ≡ status_told (dump_told d) → s ≡ BAD_WORDS → ⊥
never_dumped (dumps.Done lines) s is e = omega (arith, is, e)
never_dumped dumps.LinkFault s is e = omega (arith, is, e)
never_dumped dumps.WriteFault s is e = omega (arith, is, e)
never_dumped (dumps.Answer code) s is e = omega (arith, is, e)
never_dumped dumps.Expired s is e = omega (arith, is, e)
never_dumped dumps.NoMemory s is e = omega (arith, is, e)

never_restored : (d : LoadEnd) (s : ℕ) → s ≡ status_told (load_told d) → s ≡ BAD_WORDS → ⊥
never_restored (loads.Restored (restores.Done created present)) s is e = omega (arith, is, e)
never_restored (loads.Restored restores.LinkFault) s is e = omega (arith, is, e)
never_restored (loads.Restored restores.ReadFault) s is e = omega (arith, is, e)
never_restored (loads.Restored (restores.BadLine number)) s is e = omega (arith, is, e)
never_restored (loads.Restored (restores.Cut number)) s is e = omega (arith, is, e)
never_restored (loads.Restored restores.TooMany) s is e = omega (arith, is, e)
never_restored (loads.Restored (restores.Answer number code)) s is e = omega (arith, is, e)
never_restored (loads.Restored restores.NoMemory) s is e = omega (arith, is, e)
never_restored (loads.WriteFault created present) s is e = omega (arith, is, e)

pub bad_dump : (came : Result DumpEnd PlaceFault) (s : ℕ) → s ≡ status_told (dumped_told came) → s ≡ BAD_WORDS → came ≡ Err places.BadPlace
bad_dump (Ok d) s is e = absurd (never_dumped d s is e)
bad_dump (Err fault) s is e = ap (λ (f : PlaceFault). Err f) (bad_place fault s is e)

pub bad_load : (came : Result LoadEnd PlaceFault) (s : ℕ) → s ≡ status_told (loaded_told came) → s ≡ BAD_WORDS → came ≡ Err places.BadPlace
bad_load (Ok d) s is e = absurd (never_restored d s is e)
bad_load (Err fault) s is e = ap (λ (f : PlaceFault). Err f) (bad_place fault s is e)

-- the links are left where the definition of the line has no address
pub bad_pipe : (came : Result PipeEnd Stop) (fails : Type 0) (file : List ℕ → Option (List ℕ)) (source : Source) (files links : Type 0) (s : ℕ) → IfErr came (Stops fails file source (files × links))
    → s ≡ status_told (pipe_told came) → s ≡ BAD_WORDS → links
bad_pipe (Ok end) fails file source files links s h is e = absurd (never_conversed end s is e)
bad_pipe (Err stops.ReadFailed) fails file source files links s h is e = absurd (omega (arith, is, e))
bad_pipe (Err (stops.Refused name why)) fails file source files links s h is e = absurd (omega (arith, is, e))
bad_pipe (Err stops.BadAddress) fails file source files links s h is e = h.1.1
bad_pipe (Err stops.NoMemory) fails file source files links s h is e = absurd (omega (arith, is, e))

never_met : (came : Result Unit Unmet) (s : ℕ) → s ≡ status_told (serve_told came) → s ≡ BAD_WORDS → came ≡ Err (unmet.Stopped stops.BadAddress)
never_met (Ok u) s is e = absurd (omega (arith, is, e))
never_met (Err (unmet.Unserved unserved_ends.NotListening)) s is e = absurd (omega (arith, is, e))
never_met (Err (unmet.Unserved unserved_ends.WriteFailed)) s is e = absurd (omega (arith, is, e))
never_met (Err (unmet.Unserved unserved_ends.NoMemory)) s is e = absurd (omega (arith, is, e))
never_met (Err (unmet.Stopped stops.ReadFailed)) s is e = absurd (omega (arith, is, e))
never_met (Err (unmet.Stopped (stops.Refused name why))) s is e = absurd (omega (arith, is, e))
never_met (Err (unmet.Stopped stops.BadAddress)) s is e = refl
never_met (Err (unmet.Stopped stops.NoMemory)) s is e = absurd (omega (arith, is, e))

pub bad_serve : {I O : Type 0} (k : Sides I O) (came : Result Unit Unmet) (file : List ℕ → Option (List ℕ)) (source : Source) (start : Start) (l : Listening) (h : Hearing) (fails files links silent : Type 0) (s : ℕ)
    → Serves k file source start l h fails (files × links) silent came → s ≡ status_told (serve_told came) → s ≡ BAD_WORDS → links
bad_serve k came file source start l h fails files links silent s serves is e =
    (subst (λ (c : Result Unit Unmet). Serves k file source start l h fails (files × links) silent c) (never_met came s is e) serves).0.1.1

-- a line whose words are told to be bad has a place or a converter's address that is none, and touches nothing
pub bad_words : {F S K E A L I O : Type 0} (w : World F S K E A L I O) (line : Line) (s : ℕ) → Outcome w line s → s ≡ BAD_WORDS → IsPlaceless line × FilesStay w × InputStays w × OutputStays w × EarsStay w
bad_words w (pipe source turns) s (conversed l end means talk is, ears, ruled) e = absurd (never_conversed end s is e)
bad_words w (pipe source turns) s (unserved stopped unread output, ears, ruled) e = let found = only_stopped w source s stopped e in (found.0, found.1, unread, output, ears)
bad_words w (task crd rules t) s out e = absurd (never_tasked w crd rules t s out.0 e)
bad_words w (drill start count) s out e = absurd (never_drilled w start count s out.0 e)
bad_words w (serve source l) s (served m means ends, unread, ruled) e = absurd (never_served w m l s ends e)
bad_words w (serve source l) s (unloaded_service stopped output ears, unread, ruled) e = let found = only_stopped w source s stopped e in (found.0, found.1, unread, output, ears)
bad_words w (remote migrate url) s out e = let found = only_unmigrated w url s out.0 e in (found.0, out.1, out.2, found.1, out.3)
bad_words w (remote dump url) s (dumped d told at cause handed broken, files, unread, ears) e = absurd (never_dumped d s told.status_is e)
bad_words w (remote dump url) s (undumped u, files, unread, ears) e = let found = only_unplaced w url s u e in (found.0, files, unread, found.2, ears)
bad_words w (remote load url) s (restored d told at cause end unwritten wrote silent, files, ears) e = absurd (never_restored d s told.status_is e)
bad_words w (remote load url) s (unloaded u, files, ears) e = let found = only_unplaced w url s u e in (found.0, files, found.1, found.2, ears)

-- ---- what holds of each line

pub if_ruled : (source : Source) {P : Type 0} → P → IfRuled source P
if_ruled built_in is = is
if_ruled (by_rules crd rules) is = is
if_ruled (by_converter crd hub url) is = tt

-- memory was wanted before anything was touched
pub wanted : {F S K E A L I O : Type 0} (w : World F S K E A L I O) (line : Line) (s : ℕ) → s ≡ NO_MEMORY → Says w (error_line NO_MEMORY) → FilesStay w → InputStays w → OutputStays w → EarsStay w → LinksStay w
    → Outcome w line s
wanted w (pipe source turns) s is says files unread output ears links = (unserved (wanting is) unread output, ears, if_ruled source links)
wanted w (task crd rules t) s is says files unread output ears links = (unloaded_task (wanting is) unread output, ears, links)
wanted w (drill start count) s is says files unread output ears links = (wanting_drill is output, files, unread, ears, links)
wanted w (serve source l) s is says files unread output ears links = (unloaded_service (wanting is) output ears, unread, if_ruled source links)
wanted w (remote migrate url) s is says files unread output ears links =
    (record { end = migrated.NoMemory; is_told = record { status_is = is; says = says }; came = unread_place refl (ap w.tells.linked links); cause = tt; silent = output }, files, unread, ears)
wanted w (remote dump url) s is says files unread output ears links =
    (undumped (record { fault = places.NoMemory; is_told = record { status_is = is; says = says }; none = tt; unlinked = ap w.tells.linked links; untouched = unread; silent = output }), files, unread, ears)
wanted w (remote load url) s is says files unread output ears links =
    (unloaded (record { fault = places.NoMemory; is_told = record { status_is = is; says = says }; none = tt; unlinked = ap w.tells.linked links; untouched = unread; silent = output }), files, ears)

-- nothing was written that names a place
pub placed_stays : (line : Line) (may : List ℕ → List ℕ → Type 0) (before written : Option (List ℕ)) → written ≡ before → IfServes line (λ place. NamesPlace (may place) before written)
placed_stays (pipe source turns) may before written same = tt
placed_stays (task c r t) may before written same = tt
placed_stays (drill start count) may before written same = tt
placed_stays (serve source l) may before written same = inl same
placed_stays (remote work url) may before written same = tt

-- the line that was read, where one was
pub that_line : (read : Option Command) (c : Command) (line : Line) → read ≡ Some c → MatchOption read ⊥ (λ d. line ≡ line_of d) → line ≡ line_of c
that_line read c line is only = let there : MatchOption (Some c) ⊥ (λ d. line ≡ line_of d) = subst (λ (o : Option Command). MatchOption o ⊥ (λ d. line ≡ line_of d)) is only in there

pub that_is_line : (words : List (List ℕ)) (read : Option Command) (c : Command) → read ≡ Some c → IfSome read (λ d. IsLine words (line_of d)) → IsLine words (line_of c)
that_is_line words read c is held = let there : IfSome (Some c) (λ d. IsLine words (line_of d)) = subst (λ (o : Option Command). IfSome o (λ d. IsLine words (line_of d))) is held in there

-- no line was read, so the words are none
pub no_line : (read : Option Command) (line : Line) → read ≡ None → MatchOption read ⊥ (λ d. line ≡ line_of d) → ⊥
no_line read line is only = let there : MatchOption None ⊥ (λ (d : Command). line ≡ line_of d) = subst (λ (o : Option Command). MatchOption o ⊥ (λ d. line ≡ line_of d)) is only in there
