use Rattle.std.proofs.Common.{◌≡◌, subst}
use Rattle.shared_api.specs.Passes.{ApiOf, IsOf}
use Rattle.shared_api.specs.declared.cell.CoreBase.{CoreBase}
use Rattle.serve_many.specs.Jobs.{Worked}
use Rattle.serve_many.proofs.Answering.{same_server}
use Rattle.serve_many.proofs.crew.SharedApiRunnerShiftPassShiftPass.run.Goals as goal

pub returns : goal.returns
returns g c = record {
  done = (
    (λ a of.
        let meaning = g.V.Versions.meaning in
        let r = c.keep_working.new.pass in
        let same : c.args.self.now ≡ a = same_server meaning c.args.self.now a c.args.job.pass c.requires.ready of in
        (subst (λ (b : ApiOf (CoreBase g.row.V.Denot)). IsOf meaning b r) same c.keep_working.ensures.of, c.keep_working.ensures.worked)),
    c.keep_working.ensures.shut,
    c.keep_working.ensures.flag,
  );
}
