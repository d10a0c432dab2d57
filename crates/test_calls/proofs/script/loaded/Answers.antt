use denote.Param.Send.{sendable}
use Rattle.crd_versions.proofs.Crossing.{set_send, set_sync}
use Rattle.test_calls.proofs.script.loaded.Goals as goal

pub over-requires-send-V : goal.over-requires-send-V
over-requires-send-V g c κs within = search (set_send, sendable)

pub over-requires-sync-V : goal.over-requires-sync-V
over-requires-sync-V g c κs within = search (set_sync, sendable)
