use Rattle.shared_api.specs.Base.{server_of}
use Rattle.serve_many.proofs.Gating.{helps}
use Rattle.serve_many.proofs.Working.{worked_none, worked_more}
use Rattle.serve_many.proofs.crew.work_between.Goals as goal

pub returns-clause-worked : goal.returns-clause-worked
returns-clause-worked g c =
    worked_more c.args.pass.now.view c.args.pass.now.view c.work.new.pass.view (server_of g.V.Versions.meaning c.args.api.now.base) _ _ _ _ _ _ _ (worked_none c.args.pass.now.view) c.work.ensures.works

pub returns-clause-helps : goal.returns-clause-helps
returns-clause-helps g c = helps (server_of g.V.Versions.meaning c.args.api.now.base) _ _ _ c.args.pass.now.view c.work.new.pass.view c.work.result _ _ c.work.ensures.works
