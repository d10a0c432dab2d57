use Rattle.std.proofs.Common.{rules, ◌≡◌, refl, ◌∙◌}
use Rattle.shared_api.specs.Base.{server_of}
use Rattle.migrate_workers.specs.declared.working.WorkEnd.TheVariants.{Stopped}
use Rattle.serve_many.proofs.Gating.{works_same, works_no}
use Rattle.serve_many.proofs.Working.{worked_none, worked_more}
use Rattle.serve_many.proofs.crew.keep_working.Goals as goal

pub loop-init : goal.loop-init
loop-init g c = record {
  of = c.requires.of;
  worked = worked_none c.args.pass.now.view;
  flag = refl;
}

pub returns-then-eq-clause-worked : goal.returns-then-eq-clause-worked
returns-then-eq-clause-worked g c =
    worked_more c.args.pass.now.view c.loop.pass.view c.work-end.new.pass.view (server_of g.V.Versions.meaning c.args.api.now.base) _ _ _ _ _ _ _ c.loop.invariant.worked c.work-end.ensures.works

pub returns-then-eq-clause-shut : goal.returns-then-eq-clause-shut
returns-then-eq-clause-shut g c =
    let is : c.work-end.result ≡ Stopped = search rules in
    works_no g.G.Gate.answers (server_of g.V.Versions.meaning c.args.api.now.base) _ _ _ c.loop.pass.view c.work-end.new.pass.view c.work-end.result c.loop.gate c.work-end.new.gate c.work-end.ensures.works g.G.PatientGate.shut g.met.G.PatientGate.says_no is

pub returns-then-eq-clause-flag : goal.returns-then-eq-clause-flag
returns-then-eq-clause-flag g c = works_same g.G.Gate.answers (server_of g.V.Versions.meaning c.args.api.now.base) _ _ _ c.loop.pass.view c.work-end.new.pass.view c.work-end.result c.loop.gate c.work-end.new.gate c.work-end.ensures.works g.G.PatientGate.flag g.met.G.PatientGate.one_flag ∙ c.loop.invariant.flag

pub loop-preserved : goal.loop-preserved
loop-preserved g c = record {
  of = c.work-end.ensures.of;
  worked = worked_more c.args.pass.now.view c.loop.pass.view c.work-end.new.pass.view (server_of g.V.Versions.meaning c.args.api.now.base) _ _ _ _ _ _ _ c.loop.invariant.worked c.work-end.ensures.works;
  flag = c.rest_after.ensures ∙ (works_same g.G.Gate.answers (server_of g.V.Versions.meaning c.args.api.now.base) _ _ _ c.loop.pass.view c.work-end.new.pass.view c.work-end.result c.loop.gate c.work-end.new.gate c.work-end.ensures.works g.G.PatientGate.flag g.met.G.PatientGate.one_flag ∙ c.loop.invariant.flag);
}
