use Rattle.std.proofs.Common.{◌≡◌}
use Rattle.edge_io.specs.Causes.{Rose}
use Rattle.command_lines.specs.Lines.{by_converter}
use Rattle.kubeconv_cmd.proofs.Taking.{addressed}
use Rattle.kubeconv_cmd.proofs.loading.load_converted.Goals as goal

pub returns-in-Err-clause-stops : goal.returns-in-Err-clause-stops
returns-in-Err-clause-stops g c =
    addressed (Rose (g.F.Files.faults c.args.files.now) (g.F.Files.faults c.load_file.new.files)) (g.F.Files.file c.args.files.now) (by_converter c.args.crd.now c.args.hub.now c.args.url.now)
    (c.load_file.new.files ≡ c.args.files.now) c.in-Err.stop (c.in-Err.ensures.stops c.args.url.now)
