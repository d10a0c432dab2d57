use denote.Param.Send.{sendable}
use Rattle.std.proofs.Crossing.{crosses}
use Rattle.kj_value.proofs.txt.Txt.TheSendSync as txt
use Rattle.crd_versions.specs.Set.{definition_of}
use Rattle.crd_versions.proofs.Crossing.{definition_send, definition_sync, set_send, set_sync}
use Rattle.command_lines.specs.Lines.{built_in, by_rules, by_converter}
use Rattle.kubeconv_cmd.specs.Sources.{with_rules, with_converter}
use Rattle.kubeconv_cmd.proofs.ServeEnding.{met_so}
use Rattle.kubeconv_cmd.proofs.serve_line.serve.Goals as goal

pub serve_by-requires-send-V : goal.serve_by-requires-send-V
serve_by-requires-send-V g c κs within = search (set_send, sendable)

pub serve_by-requires-sync-V : goal.serve_by-requires-sync-V
serve_by-requires-sync-V g c κs within = search (set_sync, sendable)

pub serve_by-requires-in-Ok-load_files-send-V : goal.serve_by-requires-in-Ok-load_files-send-V
serve_by-requires-in-Ok-load_files-send-V g c κs within = search (set_send, sendable)

pub serve_by-requires-in-Ok-load_files-sync-V : goal.serve_by-requires-in-Ok-load_files-sync-V
serve_by-requires-in-Ok-load_files-sync-V g c κs within = search (set_sync, sendable)

pub serve_by-requires-in-Ok-load_converted-send-V : goal.serve_by-requires-in-Ok-load_converted-send-V
serve_by-requires-in-Ok-load_converted-send-V g c κs within = search (definition_send, txt.the_send, sendable, crosses) depth 60 fits 200000

pub serve_by-requires-in-Ok-load_converted-sync-V : goal.serve_by-requires-in-Ok-load_converted-sync-V
serve_by-requires-in-Ok-load_converted-sync-V g c κs within = search (definition_sync, txt.the_sync, sendable, crosses) depth 60 fits 200000

pub returns-in-Ok-clause-came : goal.returns-in-Ok-clause-came
returns-in-Ok-clause-came g c =
    rw c.in-BuiltIn.is (met_so _ (g.F.Files.file c.args.files.now) built_in _ _ _ _ _ _ (with_rules (definition_of c.in-Ok.versions)) c.serve_by.result c.met.result c.met.ensures c.in-Ok.ensures c.serve_by.ensures.came)

pub returns-in-Ok-load_files-clause-came : goal.returns-in-Ok-load_files-clause-came
returns-in-Ok-load_files-clause-came g c =
    rw c.in-Rules.is (met_so _ (g.F.Files.file c.args.files.now) (by_rules c.in-Rules.crd.now c.in-Rules.rules.now) _ _ _ _ _ _ (with_rules (definition_of c.in-Ok-load_files.versions)) c.serve_by-in-Ok-load_files.result c.met-in-Ok-load_files.result c.met-in-Ok-load_files.ensures c.in-Ok-load_files.ensures.loaded c.serve_by-in-Ok-load_files.ensures.came)

pub returns-in-Ok-load_converted-clause-came : goal.returns-in-Ok-load_converted-clause-came
returns-in-Ok-load_converted-clause-came g c =
    rw c.in-Converter.is (met_so _ (g.F.Files.file c.args.files.now) (by_converter c.in-Converter.crd.now c.in-Converter.hub.now c.in-Converter.url.now) _ _ _ _ _ _ (with_converter c.in-Ok-load_converted.found.versions.set) c.serve_by-in-Ok-load_converted.result c.met-in-Ok-load_converted.result c.met-in-Ok-load_converted.ensures c.in-Ok-load_converted.ensures.loaded c.serve_by-in-Ok-load_converted.ensures.came)
