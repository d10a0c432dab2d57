use Rattle.std.proofs.Common.{refl}
use Rattle.serve_input.proofs.Opened.{first_number}
use Rattle.serve_many.specs.Answered.{sides}
use Rattle.kubeconv_cmd.specs.Serving.{answered, answered_fewer}
use Rattle.kubeconv_cmd.proofs.Taking.{rose_since}
use Rattle.kubeconv_cmd.proofs.ServeEnding.{answered_all, fault_rose, hired_as, served_done, served_fewer, standing_base, unserved_so}
use Rattle.kubeconv_cmd.proofs.serve_line.serve_opened.Goals as goal

pub returns-in-Err-clause-came : goal.returns-in-Err-clause-came
returns-in-Err-clause-came g c =
    let e = c.in-Err.ensures in
    unserved_so _ _ _ _ _ _ c.in-Err.why e.silent e.unheard e.untold (e.origins, e.returned)

pub returns-in-Done-clause-came : goal.returns-in-Done-clause-came
returns-in-Done-clause-came g c =
    let all = served_done _ _ _ _ _ c.in-Done.is c.serve_all-served.ensures.served 0 (first_number _ _ c.requires.new) in
    answered all.0 refl all.1 (
      c.in-Ok.ensures.told,
      hired_as _ _ _ _ _ _ _ _ _ _ _ c.workers.ensures.is (answered_all g.V.Tool.Tool.faults (sides g.A.In.Source.left g.A.In.Source.most g.A.Out.Sink.written g.A.Out.Sink.flushed) g.V.Versions.meaning c.args.api.now.base c.args.api.now.base.versions (record { boot = c.args.api.now.base.boot; told = g.C.Clock.told c.args.clock.now }) _ _ _ _ all.0 _ _ _ _ _ _
          (standing_base c.args.api.now.base c.requires.limits) c.requires.new c.listen_at.ensures.origins c.listen_at.ensures.returned c.serve_all-served.ensures.of.legal all.3),
    )

pub returns-in-EarsFault-clause-came : goal.returns-in-EarsFault-clause-came
returns-in-EarsFault-clause-came g c =
    let all = served_fewer _ _ _ _ _ c.in-EarsFault.is c.serve_all-served.ensures.served 0 (first_number _ _ c.requires.new) in
    answered_fewer all.0 refl (rose_since _ _ _ c.listen_at.ensures.later (fault_rose _ _ _ c.in-EarsFault.is c.serve_all-served.ensures.blames)) all.1 (
      c.in-Ok.ensures.told,
      hired_as _ _ _ _ _ _ _ _ _ _ _ c.workers.ensures.is (answered_all g.V.Tool.Tool.faults (sides g.A.In.Source.left g.A.In.Source.most g.A.Out.Sink.written g.A.Out.Sink.flushed) g.V.Versions.meaning c.args.api.now.base c.args.api.now.base.versions (record { boot = c.args.api.now.base.boot; told = g.C.Clock.told c.args.clock.now }) _ _ _ _ all.0 _ _ _ _ _ _
          (standing_base c.args.api.now.base c.requires.limits) c.requires.new c.listen_at.ensures.origins c.listen_at.ensures.returned c.serve_all-served.ensures.of.legal all.3),
    )
