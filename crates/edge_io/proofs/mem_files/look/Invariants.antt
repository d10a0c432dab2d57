use Rattle.std.proofs.Common.{◌≡◌, drop}
use Rattle.edge_io.specs.MemoryFiles.{file_at}
use Rattle.edge_io.proofs.mem_files.look.Given as goal

-- none of the files before this place has the path
abbrev pub invariant-loop-file : goal.invariant-loop-file
invariant-loop-file l = file_at (drop l.file-index l.files) l.path ≡ file_at l.files l.path
