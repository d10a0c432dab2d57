use Rattle.std.proofs.Common.{refl}
use Rattle.edge_io.specs.Causes.{Rose}
use Rattle.crd_versions.specs.Set.{definition_of}
use Rattle.command_lines.specs.Lines.{built_in, by_rules, by_converter}
use Rattle.kubeconv_cmd.specs.Sources.{with_rules, with_converter}
use Rattle.kubeconv_cmd.proofs.Serving.{held_by, wanting_stops}
use Rattle.kubeconv_cmd.proofs.pipe_line.pipe.Goals as goal

pub returns-in-Ok-clause-held : goal.returns-in-Ok-clause-held
returns-in-Ok-clause-held g c =
    rw c.in-BuiltIn.is (held_by (g.F.Files.file c.args.files.now) built_in (with_rules (definition_of c.in-Ok.versions)) (record { boot = c.args.boot; told = g.C.Clock.told c.args.clock.now }) c.args.turns
    (record { tell = record { left = g.S.Source.left; written = g.K.Sink.written; flushed = g.K.Sink.flushed }; most = g.S.Source.most c.args.input.now; input_before = c.args.input.now; input = c.pipe_by.new.input; output_before = c.args.output.now; output = c.pipe_by.new.output })
    (Rose (g.S.Source.faults c.args.input.now) (g.S.Source.faults c.pipe_by.new.input)) (Rose (g.K.Sink.faults c.args.output.now) (g.K.Sink.faults c.pipe_by.new.output))
    c.pipe_by.result c.in-Ok.ensures c.pipe_by.ensures.held)

pub returns-in-Ok-clause-stops : goal.returns-in-Ok-clause-stops
returns-in-Ok-clause-stops g c =
    rw c.in-BuiltIn.is (wanting_stops _ (g.F.Files.file c.args.files.now) built_in _ c.pipe_by.result c.pipe_by.ensures.wanting)

pub returns-in-Ok-load_files-clause-held : goal.returns-in-Ok-load_files-clause-held
returns-in-Ok-load_files-clause-held g c =
    rw c.in-Rules.is (held_by (g.F.Files.file c.args.files.now) (by_rules c.in-Rules.crd.now c.in-Rules.rules.now) (with_rules (definition_of c.in-Ok-load_files.versions)) (record { boot = c.args.boot; told = g.C.Clock.told c.args.clock.now }) c.args.turns
    (record { tell = record { left = g.S.Source.left; written = g.K.Sink.written; flushed = g.K.Sink.flushed }; most = g.S.Source.most c.args.input.now; input_before = c.args.input.now; input = c.pipe_by-in-Ok-load_files.new.input; output_before = c.args.output.now; output = c.pipe_by-in-Ok-load_files.new.output })
    (Rose (g.S.Source.faults c.args.input.now) (g.S.Source.faults c.pipe_by-in-Ok-load_files.new.input)) (Rose (g.K.Sink.faults c.args.output.now) (g.K.Sink.faults c.pipe_by-in-Ok-load_files.new.output))
    c.pipe_by-in-Ok-load_files.result c.in-Ok-load_files.ensures.loaded c.pipe_by-in-Ok-load_files.ensures.held)

pub returns-in-Ok-load_files-clause-stops : goal.returns-in-Ok-load_files-clause-stops
returns-in-Ok-load_files-clause-stops g c =
    rw c.in-Rules.is (wanting_stops _ (g.F.Files.file c.args.files.now) (by_rules c.in-Rules.crd.now c.in-Rules.rules.now) _ c.pipe_by-in-Ok-load_files.result c.pipe_by-in-Ok-load_files.ensures.wanting)

pub returns-in-Ok-load_converted-clause-held : goal.returns-in-Ok-load_converted-clause-held
returns-in-Ok-load_converted-clause-held g c =
    rw c.in-Converter.is (held_by (g.F.Files.file c.args.files.now) (by_converter c.in-Converter.crd.now c.in-Converter.hub.now c.in-Converter.url.now) (with_converter c.in-Ok-load_converted.found.versions.set) (record { boot = c.args.boot; told = g.C.Clock.told c.args.clock.now }) c.args.turns
    (record { tell = record { left = g.S.Source.left; written = g.K.Sink.written; flushed = g.K.Sink.flushed }; most = g.S.Source.most c.args.input.now; input_before = c.args.input.now; input = c.pipe_by-in-Ok-load_converted.new.input; output_before = c.args.output.now; output = c.pipe_by-in-Ok-load_converted.new.output })
    (Rose (g.S.Source.faults c.args.input.now) (g.S.Source.faults c.pipe_by-in-Ok-load_converted.new.input)) (Rose (g.K.Sink.faults c.args.output.now) (g.K.Sink.faults c.pipe_by-in-Ok-load_converted.new.output))
    c.pipe_by-in-Ok-load_converted.result c.in-Ok-load_converted.ensures.loaded c.pipe_by-in-Ok-load_converted.ensures.held)

pub returns-in-Ok-load_converted-clause-stops : goal.returns-in-Ok-load_converted-clause-stops
returns-in-Ok-load_converted-clause-stops g c =
    rw c.in-Converter.is (wanting_stops _ (g.F.Files.file c.args.files.now) (by_converter c.in-Converter.crd.now c.in-Converter.hub.now c.in-Converter.url.now) _ c.pipe_by-in-Ok-load_converted.result c.pipe_by-in-Ok-load_converted.ensures.wanting)
