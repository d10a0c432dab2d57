-- For private clauses: what is decided of the removal and of the mark of an object.
use Rattle.std.specs.Prelude.{◌≡◌, ℕ, ◌+◌, List}
use Rattle.kube_meta.specs.Key.{KeyView}
use Rattle.api_calls.specs.Calls.{Server}
use Rattle.api_calls.specs.Ends.{Decision, WriteEnd}
use Rattle.api_calls.specs.Item.{Item}
use Rattle.api_calls.specs.State.{revision, state}
use Rattle.api_calls.specs.Writes.{delete_commit, mark_commit}

abbrev pub removes : Server → ℕ → KeyView → ℕ → List Item → Decision WriteEnd
removes s v k number log = delete_commit (revision log + 1) (state s.meaning log) v k number

abbrev pub marks : Server → ℕ → ℕ → KeyView → ℕ → List ℕ → List Item → Decision WriteEnd
marks s v at k number stamp log = mark_commit (revision log + 1) (state s.meaning log) v at k number stamp
