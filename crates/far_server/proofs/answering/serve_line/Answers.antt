use Rattle.std.proofs.Common.{◌∙◌}
use Rattle.http_front.specs.declared.one.OneEnd.TheVariants.{Last}
use Rattle.far_server.proofs.Serving.{alone, number_same, of_both}
use Rattle.far_server.proofs.answering.serve_line.Goals as goal

pub returns-in-Last-clause-answered : goal.returns-in-Last-clause-answered
returns-in-Last-clause-answered g c = λ n named.
    of_both _ _ _ c.copied.result
    (λ v same short. c.last_speaks.ensures.untold c.args.api.now.base.versions c.args.api.now.base.limits c.args.api.now.base.boot _ n _ _ c.args.line.input v.items _
    (alone _ _ _ _ c.args.line.inbox.bytes c.args.line.input c.args.line.output.bytes v.items c.serve_one.new.output.bytes c.requires.inbox c.requires.output (same ∙ c.bytes.ensures)
    (c.in-Last.ensures.did n named)) c.requires.short short)
    c.copied.ensures.same c.copied.ensures.short

pub returns-in-Last-clause-goes_on : goal.returns-in-Last-clause-goes_on
returns-in-Last-clause-goes_on g c = λ n named.
    c.goes_on.ensures c.args.api.now.base.versions c.args.api.now.base.limits c.args.api.now.base.boot _ n Last _ _ _ _ _ _ (c.in-Last.ensures.did n named)

pub returns : goal.returns
returns g c = record {
  of = c.serve_one.ensures.of;
  number = number_same c.args.pass.now.view c.serve_one.new.pass.view c.serve_one.ensures.same;
  answered = λ n named. tt;
  goes_on = λ n named. c.goes_on.ensures c.args.api.now.base.versions c.args.api.now.base.limits c.args.api.now.base.boot _ n c.serve_one.result _ _ _ _ _ _ (c.serve_one.ensures.did n named);
}
