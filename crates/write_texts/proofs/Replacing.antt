-- Parts of the reply to a replace.
use Rattle.std.proofs.Common.{◌≡◌, ◌⊎◌, ℕ, ◌≤◌, ◌<◌, ◌+◌, ◌^◌, true, List, [], ◌++◌, Option, None, Some, Err, ◌∙◌, arith}
use Rattle.std.specs.Prelude.{◌&&◌, nat_eq, if◌then◌else◌}
use Rattle.std.proofs.lemmas.Bool.Decides.{nat_tests}
use Rattle.kube_meta.specs.Key.{KeyView}
use Rattle.kube_meta.specs.View.{ObjectView}
use Rattle.api_calls.specs.Calls.{Server, answered, replace}
use Rattle.api_calls.specs.Ends.{WriteEnd, Decision}
use Rattle.api_calls.specs.Item.{Item}
use Rattle.api_calls.specs.Meaning.{Request}
use Rattle.api_calls.specs.Refusal.{RefusalView}
use Rattle.api_calls.specs.Refusal as refusal
use Rattle.api_calls.specs.Replies.{Answer, IsRefusedRequest, Wrote, WeighsIt, code_ok}
use Rattle.api_calls.specs.State.{revision, served, state}
use Rattle.api_calls.specs.Writes.{ReplaceDecision}

abbrev pub refused_with : RefusalView → Answer
refused_with e = Err e

-- how a replace at a served version is answered, and how one at another
abbrev pub Accepts : Server → Request → KeyView → List Item → Answer → Option Item → Type 0
Accepts s q k log a i =
    IsRefusedRequest s.meaning q a i
    ⊎ ((new : ObjectView) × (over : ℕ) × (w : ℕ) × (h : ObjectView) × (d : Decision WriteEnd)
    × s.meaning.admits q new (Some over) × WeighsIt s.meaning new w
    × ReplaceDecision s.meaning s.limits (revision log + 1) (state s.meaning log) q.version k over new w h d
    × Wrote s.meaning s.boot code_ok q.version k.name h d.answer a × (i ≡ d.item))

abbrev pub Lacks : Answer → Option Item → Type 0
Lacks a i = (a ≡ Err refusal.no_resource) × (i ≡ None)

-- ---- the end of a replace's commit

pub number : (i j : ℕ) → nat_eq i j ≡ true → i ≡ j
number i j h = grind (arith, nat_tests)
