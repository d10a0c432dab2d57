use Rattle.std.proofs.lemmas.Result.{err_from_is_err_and}
use Rattle.std.proofs.Common.{◌≡◌, ◌<◌, [], ℕ, Some, Ok, Err, Result, ap, sym, subst, ◌∙◌}
use Rattle.std.specs.Prelude.{IsTrue, pos}
use Rattle.kube_meta.specs.View.{ObjectView}
use Rattle.api_calls.specs.Calls.{Told, work}
use Rattle.api_calls.specs.Item.{items}
use Rattle.api_calls.specs.Meaning.{Weighs}
use Rattle.api_calls.specs.Versions.{IsStored}
use Rattle.api_core.specs.Keeps.{IsText}
use Rattle.turn_cell.specs.declared.view.View.{View}
use Rattle.shared_api.specs.Answered.{CallsOn}
use Rattle.shared_api.specs.Base.{server_of}
use Rattle.shared_api.specs.Passes.{IsOf, Known}
use Rattle.shared_api.specs.inner.Working.{first_of, second_of}
use Rattle.shared_api.specs.Steps.{IsTold, IsToPrepare}
use Rattle.shared_api.specs.declared.cell.CoreBase.{CoreBase}
use Rattle.shared_api.specs.declared.step.Begun.TheVariants as begun
use Rattle.shared_api.specs.declared.step.WorkFault.TheVariants as fault
use Rattle.shared_api.specs.Faults.{work_fault}
use Rattle.shared_api.specs.declared.step.TurnStep.{TurnStep}
use Rattle.shared_api.specs.declared.step.WorkFault.{WorkFault}
use Rattle.shared_api.proofs.Caches.{writes-cached}
use Rattle.shared_api.proofs.WorkCalls.{copy-key, copy-ready, copy-said, ended_calls, failed_asked, failed_calls, fault-rose, on_err, ready-seen, touched_calls}
use Rattle.shared_api.proofs.api.SharedApi.worker_turn.Goals as goal

pub moved-requires-clause-stored : goal.moved-requires-clause-stored
moved-requires-clause-stored g c =
    let based : c.pass.inside.turn.seat.me.0.base ≡ Some c.args.self.now.base = ap (λ (k : Known (CoreBase g.row.V.Denot) g.row.V-Tool.Denot). k.view.base) c.pass.view_is ∙ c.requires.of.base in
    let it = c.args.self.now.base.versions in
    let began = c.in-Asked.ensures.begins c.args.self.now.base based in
    let said = copy-said (server_of g.V.Versions.meaning c.args.self.now.base) (items began.log) began.tells.0 c.in-Asked.target c.in-Asked.seen (g.met.V.Versions.unstamped it) began.writes.legal.guards began.tells.2 in
    subst
    (λ (x : g.row.V.Denot). (h : ObjectView) × IsStored (g.V.Versions.meaning x) c.in-Asked.seen.at h c.in-Asked.seen.bytes.bytes
    × (IsTrue g.V.Versions.HONEST → Weighs (g.V.Versions.meaning x) h c.in-Asked.seen.weight × (n : ℕ) × (h.meta.generation ≡ pos n)))
    (sym c.given-lent.ensures.versions)
    (said.value, said.stored, λ honest. (said.weighs (g.met.V.Versions.told it ∙ honest), (said.generation (g.met.V.Versions.told it ∙ honest)).0, (said.generation (g.met.V.Versions.told it ∙ honest)).1))

pub returns-in-Ended-clause-of : goal.returns-in-Ended-clause-of
returns-in-Ended-clause-of g c =
    let based : c.pass.inside.turn.seat.me.0.base ≡ Some c.args.self.now.base = ap (λ (k : Known (CoreBase g.row.V.Denot) g.row.V-Tool.Denot). k.view.base) c.pass.view_is ∙ c.requires.of.base in
    let began = c.in-Ended.ensures.begins c.args.self.now.base based in
    let inside = subst (λ (k : Known (CoreBase g.row.V.Denot) g.row.V-Tool.Denot). IsOf g.V.Versions.meaning c.args.self.now k) (sym c.pass.view_is) c.requires.of in
    record {
      table = c.begin.ensures.own ∙ ap (λ (k : Known (CoreBase g.row.V.Denot) g.row.V-Tool.Denot). k.table) c.pass.view_is ∙ c.requires.of.table;
      base = ap (λ (q : View (CoreBase g.row.V.Denot)). q.base) began.writes.turned.3 ∙ based;
      legal = began.writes.after;
      cached = writes-cached (server_of g.V.Versions.meaning c.args.self.now.base) c.pass.inside.turn.seat.me.0 c.begin.new.pass.seat.me.0 began.log (first_of (server_of g.V.Versions.meaning c.args.self.now.base).meaning (items began.log) c.args.w.now.claim).decision.item c.pass.inside.cache.forms began.writes inside.cached;
      most = inside.most;
    }

pub returns-in-Ended-clause-answer : goal.returns-in-Ended-clause-answer
returns-in-Ended-clause-answer g c =
    let based : c.pass.inside.turn.seat.me.0.base ≡ Some c.args.self.now.base = ap (λ (k : Known (CoreBase g.row.V.Denot) g.row.V-Tool.Denot). k.view.base) c.pass.view_is ∙ c.requires.of.base in
    let began = c.in-Ended.ensures.begins c.args.self.now.base based in
    let rose = g.V.Tool.Tool.faults c.args.pass.now.tool < g.V.Tool.Tool.faults c.pass.inside.tool in
    let calls = ended_calls (server_of g.V.Versions.meaning c.args.self.now.base) rose c.pass.inside.turn.seat.me.0 c.begin.new.pass.seat.me.0 c.args.w.now.claim c.begin.new.w.claim c.in-Ended.step began in
    subst
    (λ (k : Known (CoreBase g.row.V.Denot) g.row.V-Tool.Denot). (t : Told) × IsTold (Ok c.in-Ended.step) c.begin.new.w.claim t
    × CallsOn (server_of g.V.Versions.meaning c.args.self.now.base) rose [] k.view c.begin.new.pass.seat.me.0 (work c.args.w.now.claim) t)
    c.pass.view_is calls

pub returns-in-NoMemory-clause-of : goal.returns-in-NoMemory-clause-of
returns-in-NoMemory-clause-of g c =
    let based : c.pass.inside.turn.seat.me.0.base ≡ Some c.args.self.now.base = ap (λ (k : Known (CoreBase g.row.V.Denot) g.row.V-Tool.Denot). k.view.base) c.pass.view_is ∙ c.requires.of.base in
    let began = c.in-NoMemory.ensures.begins c.args.self.now.base based in
    let inside = subst (λ (k : Known (CoreBase g.row.V.Denot) g.row.V-Tool.Denot). IsOf g.V.Versions.meaning c.args.self.now k) (sym c.pass.view_is) c.requires.of in
    record {
      table = c.begin.ensures.own ∙ ap (λ (k : Known (CoreBase g.row.V.Denot) g.row.V-Tool.Denot). k.table) c.pass.view_is ∙ c.requires.of.table;
      base = ap (λ (q : View (CoreBase g.row.V.Denot)). q.base) began.writes.turned.3 ∙ based;
      legal = began.writes.after;
      cached = writes-cached (server_of g.V.Versions.meaning c.args.self.now.base) c.pass.inside.turn.seat.me.0 c.begin.new.pass.seat.me.0 began.log (first_of (server_of g.V.Versions.meaning c.args.self.now.base).meaning (items began.log) c.args.w.now.claim).decision.item c.pass.inside.cache.forms began.writes inside.cached;
      most = inside.most;
    }

pub returns-in-NoMemory-clause-answer : goal.returns-in-NoMemory-clause-answer
returns-in-NoMemory-clause-answer g c =
    let based : c.pass.inside.turn.seat.me.0.base ≡ Some c.args.self.now.base = ap (λ (k : Known (CoreBase g.row.V.Denot) g.row.V-Tool.Denot). k.view.base) c.pass.view_is ∙ c.requires.of.base in
    let began = c.in-NoMemory.ensures.begins c.args.self.now.base based in
    let rose = g.V.Tool.Tool.faults c.args.pass.now.tool < g.V.Tool.Tool.faults c.pass.inside.tool in
    let calls = failed_calls (server_of g.V.Versions.meaning c.args.self.now.base) rose c.pass.inside.turn.seat.me.0 c.begin.new.pass.seat.me.0 c.args.w.now.claim c.begin.new.w.claim
    begun.NoMemory began.tells.0 began.tells.1 fault.NoMemory began began.tells.2 (λ is. cc) in
    subst
    (λ (k : Known (CoreBase g.row.V.Denot) g.row.V-Tool.Denot). (t : Told) × IsTold (Err fault.NoMemory) c.begin.new.w.claim t
    × CallsOn (server_of g.V.Versions.meaning c.args.self.now.base) rose [] k.view c.begin.new.pass.seat.me.0 (work c.args.w.now.claim) t)
    c.pass.view_is calls

pub returns-in-NoMemory-clause-asked : goal.returns-in-NoMemory-clause-asked
returns-in-NoMemory-clause-asked g c =
    let based : c.pass.inside.turn.seat.me.0.base ≡ Some c.args.self.now.base = ap (λ (k : Known (CoreBase g.row.V.Denot) g.row.V-Tool.Denot). k.view.base) c.pass.view_is ∙ c.requires.of.base in
    let began = c.in-NoMemory.ensures.begins c.args.self.now.base based in
    failed_asked (server_of g.V.Versions.meaning c.args.self.now.base) c.pass.inside.turn.seat.me.0 c.begin.new.pass.seat.me.0 c.args.w.now.claim c.begin.new.w.claim
    begun.NoMemory began.tells.0 began.tells.1 began began.tells.2

pub touch-requires-clause-ready : goal.touch-requires-clause-ready
touch-requires-clause-ready g c =
    let based : c.pass.inside.turn.seat.me.0.base ≡ Some c.args.self.now.base = ap (λ (k : Known (CoreBase g.row.V.Denot) g.row.V-Tool.Denot). k.view.base) c.pass.view_is ∙ c.requires.of.base in
    let it = c.args.self.now.base.versions in
    let began = c.in-Asked.ensures.begins c.args.self.now.base based in
    let made = c.in_ok-new-in-Asked.ensures in
    let seen = c.in-Asked.seen in
    let new = c.in_ok-new-in-Asked.new in
    let ready = copy-ready (server_of g.V.Versions.meaning c.args.self.now.base) (items began.log) c.args.w.now.claim began.tells.0 c.in-Asked.rv c.in-Asked.target seen new
    (g.met.V.Versions.unstamped it) began.writes.legal.guards began.tells.1 began.tells.2 made.key made.at made.weight
    (subst (λ (x : g.row.V.Denot). (h : ObjectView) → IsStored (g.V.Versions.meaning x) seen.at h seen.bytes.bytes → IsText (g.V.Versions.meaning x) c.in-Asked.target h new.bytes.bytes)
    c.given-lent.ensures.versions made.text) in (
      c.args.self.now.base,
      ap (λ (q : View (CoreBase g.row.V.Denot)). q.base) began.writes.turned.3 ∙ based,
      ready-seen (server_of g.V.Versions.meaning c.args.self.now.base) c.pass.inside.turn.seat.me.0 c.begin.new.pass.seat.me.0 c.args.w.now.claim c.begin.new.w.claim
          (begun.Asked c.in-Asked.rv c.in-Asked.target seen) began.tells.0 c.in-Asked.rv new began began.tells.1 ready,
    )

pub returns-in_ok-new-in-Asked-clause-of : goal.returns-in_ok-new-in-Asked-clause-of
returns-in_ok-new-in-Asked-clause-of g c =
    let based : c.pass.inside.turn.seat.me.0.base ≡ Some c.args.self.now.base = ap (λ (k : Known (CoreBase g.row.V.Denot) g.row.V-Tool.Denot). k.view.base) c.pass.view_is ∙ c.requires.of.base in
    let began = c.in-Asked.ensures.begins c.args.self.now.base based in
    let mid = ap (λ (q : View (CoreBase g.row.V.Denot)). q.base) began.writes.turned.3 ∙ based in
    let second = c.touch.ensures.touches c.args.self.now.base mid in
    let inside = subst (λ (k : Known (CoreBase g.row.V.Denot) g.row.V-Tool.Denot). IsOf g.V.Versions.meaning c.args.self.now k) (sym c.pass.view_is) c.requires.of in
    let first = writes-cached (server_of g.V.Versions.meaning c.args.self.now.base) c.pass.inside.turn.seat.me.0 c.begin.new.pass.seat.me.0 began.log (first_of (server_of g.V.Versions.meaning c.args.self.now.base).meaning (items began.log) c.args.w.now.claim).decision.item c.pass.inside.cache.forms began.writes inside.cached in
    record {
      table = c.touch.ensures.own ∙ c.begin.ensures.own ∙ ap (λ (k : Known (CoreBase g.row.V.Denot) g.row.V-Tool.Denot). k.table) c.pass.view_is ∙ c.requires.of.table;
      base = ap (λ (q : View (CoreBase g.row.V.Denot)). q.base) second.writes.turned.3 ∙ mid;
      legal = second.writes.after;
      cached = writes-cached (server_of g.V.Versions.meaning c.args.self.now.base) c.begin.new.pass.seat.me.0 c.touch.new.pass.seat.me.0 second.log (second_of (server_of g.V.Versions.meaning c.args.self.now.base).meaning (items second.log) c.begin.new.w.claim c.in_ok-new-in-Asked.new.key c.in-Asked.rv c.in_ok-new-in-Asked.new.at).decision.item c.pass.inside.cache.forms second.writes first;
      most = inside.most;
    }

pub returns-in_ok-new-in-Asked-clause-answer : goal.returns-in_ok-new-in-Asked-clause-answer
returns-in_ok-new-in-Asked-clause-answer g c =
    let based : c.pass.inside.turn.seat.me.0.base ≡ Some c.args.self.now.base = ap (λ (k : Known (CoreBase g.row.V.Denot) g.row.V-Tool.Denot). k.view.base) c.pass.view_is ∙ c.requires.of.base in
    let it = c.args.self.now.base.versions in
    let began = c.in-Asked.ensures.begins c.args.self.now.base based in
    let mid = ap (λ (q : View (CoreBase g.row.V.Denot)). q.base) began.writes.turned.3 ∙ based in
    let second = c.touch.ensures.touches c.args.self.now.base mid in
    let made = c.in_ok-new-in-Asked.ensures in
    let seen = c.in-Asked.seen in
    let new = c.in_ok-new-in-Asked.new in
    let s = server_of g.V.Versions.meaning c.args.self.now.base in
    let ready = copy-ready (server_of g.V.Versions.meaning c.args.self.now.base) (items began.log) c.args.w.now.claim began.tells.0 c.in-Asked.rv c.in-Asked.target seen new
    (g.met.V.Versions.unstamped it) began.writes.legal.guards began.tells.1 began.tells.2 made.key made.at made.weight
    (subst (λ (x : g.row.V.Denot). (h : ObjectView) → IsStored (g.V.Versions.meaning x) seen.at h seen.bytes.bytes → IsText (g.V.Versions.meaning x) c.in-Asked.target h new.bytes.bytes)
    c.given-lent.ensures.versions made.text) in
    let rose = g.V.Tool.Tool.faults c.args.pass.now.tool < g.V.Tool.Tool.faults c.moved.new.tool in
    let calls = touched_calls (server_of g.V.Versions.meaning c.args.self.now.base) rose c.pass.inside.turn.seat.me.0 c.begin.new.pass.seat.me.0 c.touch.new.pass.seat.me.0
    c.args.w.now.claim c.begin.new.w.claim c.touch.new.w.claim (begun.Asked c.in-Asked.rv c.in-Asked.target seen) began.tells.0 c.in-Asked.rv new c.touch.result
    began began.tells.1 (copy-key (g.V.Versions.meaning it) (items began.log) began.tells.0 c.in-Asked.target seen new began.tells.2 made.key) ready second in
    subst
    (λ (k : Known (CoreBase g.row.V.Denot) g.row.V-Tool.Denot). (t : Told) × IsTold (Ok c.touch.result) c.touch.new.w.claim t
    × CallsOn (server_of g.V.Versions.meaning c.args.self.now.base) rose [] k.view c.touch.new.pass.seat.me.0 (work c.args.w.now.claim) t)
    c.pass.view_is calls

pub returns-in_err-new-in-Asked-clause-of : goal.returns-in_err-new-in-Asked-clause-of
returns-in_err-new-in-Asked-clause-of g c =
    let based : c.pass.inside.turn.seat.me.0.base ≡ Some c.args.self.now.base = ap (λ (k : Known (CoreBase g.row.V.Denot) g.row.V-Tool.Denot). k.view.base) c.pass.view_is ∙ c.requires.of.base in
    let began = c.in-Asked.ensures.begins c.args.self.now.base based in
    let inside = subst (λ (k : Known (CoreBase g.row.V.Denot) g.row.V-Tool.Denot). IsOf g.V.Versions.meaning c.args.self.now k) (sym c.pass.view_is) c.requires.of in
    record {
      table = c.begin.ensures.own ∙ ap (λ (k : Known (CoreBase g.row.V.Denot) g.row.V-Tool.Denot). k.table) c.pass.view_is ∙ c.requires.of.table;
      base = ap (λ (q : View (CoreBase g.row.V.Denot)). q.base) began.writes.turned.3 ∙ based;
      legal = began.writes.after;
      cached = writes-cached (server_of g.V.Versions.meaning c.args.self.now.base) c.pass.inside.turn.seat.me.0 c.begin.new.pass.seat.me.0 began.log (first_of (server_of g.V.Versions.meaning c.args.self.now.base).meaning (items began.log) c.args.w.now.claim).decision.item c.pass.inside.cache.forms began.writes inside.cached;
      most = inside.most;
    }

pub returns-in_err-new-in-Asked-clause-answer : goal.returns-in_err-new-in-Asked-clause-answer
returns-in_err-new-in-Asked-clause-answer g c =
    let based : c.pass.inside.turn.seat.me.0.base ≡ Some c.args.self.now.base = ap (λ (k : Known (CoreBase g.row.V.Denot) g.row.V-Tool.Denot). k.view.base) c.pass.view_is ∙ c.requires.of.base in
    let began = c.in-Asked.ensures.begins c.args.self.now.base based in
    let rose = g.V.Tool.Tool.faults c.pass.inside.tool < g.V.Tool.Tool.faults c.moved.new.tool in
    let calls = failed_calls (server_of g.V.Versions.meaning c.args.self.now.base) rose c.pass.inside.turn.seat.me.0 c.begin.new.pass.seat.me.0 c.args.w.now.claim c.begin.new.w.claim
    (begun.Asked c.in-Asked.rv c.in-Asked.target c.in-Asked.seen) began.tells.0 c.in-Asked.rv (work_fault c.in_err-new-in-Asked.field-0.0) began began.tells.1
    (fault-rose rose c.in_err-new-in-Asked.field-0.0 c.in_err-new-in-Asked.ensures.tool) in
    let p = err_from_is_err_and c.from_residual.result c.from_residual.ensures.1 in
    let result : c.from_residual.result ≡ Err (work_fault c.in_err-new-in-Asked.field-0.0) = p.1 ∙ ap (λ (x : WorkFault). Err x) p.2 in
    subst
    (λ (k : Known (CoreBase g.row.V.Denot) g.row.V-Tool.Denot). (t : Told) × IsTold c.from_residual.result c.begin.new.w.claim t
    × CallsOn (server_of g.V.Versions.meaning c.args.self.now.base) (g.V.Tool.Tool.faults k.tool < g.V.Tool.Tool.faults c.moved.new.tool) [] k.view c.begin.new.pass.seat.me.0 (work c.args.w.now.claim) t)
    c.pass.view_is
    (subst
    (λ (r : Result TurnStep WorkFault). (t : Told) × IsTold r c.begin.new.w.claim t
    × CallsOn (server_of g.V.Versions.meaning c.args.self.now.base) rose [] c.pass.inside.turn.seat.me.0 c.begin.new.pass.seat.me.0 (work c.args.w.now.claim) t)
    (sym result) calls)

pub returns-in_err-new-in-Asked-clause-asked : goal.returns-in_err-new-in-Asked-clause-asked
returns-in_err-new-in-Asked-clause-asked g c =
    let based : c.pass.inside.turn.seat.me.0.base ≡ Some c.args.self.now.base = ap (λ (k : Known (CoreBase g.row.V.Denot) g.row.V-Tool.Denot). k.view.base) c.pass.view_is ∙ c.requires.of.base in
    let began = c.in-Asked.ensures.begins c.args.self.now.base based in
    on_err c.from_residual.result (IsToPrepare (g.V.Versions.meaning c.args.self.now.base.versions) (items c.begin.new.pass.seat.me.0.seen) c.args.w.now.claim)
    (failed_asked (server_of g.V.Versions.meaning c.args.self.now.base) c.pass.inside.turn.seat.me.0 c.begin.new.pass.seat.me.0 c.args.w.now.claim c.begin.new.w.claim
    (begun.Asked c.in-Asked.rv c.in-Asked.target c.in-Asked.seen) began.tells.0 c.in-Asked.rv began began.tells.1)
