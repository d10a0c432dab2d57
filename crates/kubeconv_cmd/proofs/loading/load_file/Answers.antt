use Rattle.std.proofs.lemmas.Result.{err_from_is_err_and}
use Rattle.edge_io.specs.Causes.{Rose}
use Rattle.kubeconv_cmd.proofs.Taking.{converted_unfit, converted_unloaded, hook_so}
use Rattle.kubeconv_cmd.proofs.loading.load_file.Goals as goal

pub returns-in_err-text-clause-stops : goal.returns-in_err-text-clause-stops
returns-in_err-text-clause-stops g c = λ url.
    let p = err_from_is_err_and c.from_residual.result c.from_residual.ensures.1 in
    rw (p.1, p.2) (converted_unfit (Rose (g.F.Files.faults c.args.files.now) (g.F.Files.faults c.read_text.new.files)) (g.F.Files.file c.args.files.now) c.args.crd.now c.args.hub.now url
    c.in_err-text.field-0.0 c.in_err-text.ensures.stops)

pub returns-clause-loaded : goal.returns-clause-loaded
returns-clause-loaded g c =
    hook_so (λ s. s.set) (g.F.Files.file c.args.files.now c.args.crd.now) c.args.hub.now c.in_ok-text.text.bytes c.as_str.result.now c.load_text.result c.as_str.ensures c.in_ok-text.ensures.text c.load_text.ensures.loaded

pub returns-clause-stops : goal.returns-clause-stops
returns-clause-stops g c = λ url.
    converted_unloaded (Rose (g.F.Files.faults c.args.files.now) (g.F.Files.faults c.read_text.new.files)) (g.F.Files.file c.args.files.now) c.args.crd.now c.args.hub.now url
    c.in_ok-text.text.bytes c.as_str.result.now c.load_text.result c.as_str.ensures c.in_ok-text.ensures.text c.load_text.ensures.stops
