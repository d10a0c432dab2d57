-- The call of the group.
use Rattle.std.proofs.Common.{◌≡◌, ◌≢◌, ◌⊎◌, ◌<◌, [], ◌∷◌, None, Err, subst, refl, ◌∙◌}
use Rattle.std.specs.Prelude.{if◌then◌else◌}
use Rattle.api_calls.specs.Calls.{Told, answered, Failure, no_memory, converter, Fails, failure_refusal, group}
use Rattle.api_calls.specs.Item.{items}
use Rattle.api_calls.specs.Meaning.{Meaning}
use Rattle.api_calls.specs.Replies.{Answer, GroupReply}
use Rattle.api_calls.specs.State.{State, state}
use Rattle.api_calls.specs.declared.flags.Flags.{Flags}
use Rattle.api_calls.specs.declared.flags.StoredList.{StoredList}
use Rattle.turn_cell.specs.declared.view.View.{View}
use Rattle.call_texts.specs.Told.{Came}
use Rattle.shared_api.specs.Answered.{CallsOn}
use Rattle.shared_api.specs.Base.{server_of}
use Rattle.shared_api.specs.inner.Turning.{Settles}
use Rattle.shared_api.specs.declared.cell.CoreBase.{CoreBase}
use Rattle.shared_api.proofs.Turns.{reads_calls}

-- ---- the call

group_fails : (f : Failure) → Fails f group (answered (Err (failure_refusal f)))
group_fails no_memory = refl
group_fails converter = refl

pub group_calls : {V : Type 0} (meaning : V → Meaning) (b : CoreBase V) (it : V) (v z : View (CoreBase V)) (f : Flags) (stored : StoredList) (d : Answer) (t : Told)
    → it ≡ b.versions → Settles (server_of meaning b) v z f stored
    → ((s : State) → f ≡ s.flags → Came ⊥ (GroupReply (meaning it) s) d None)
    → t ≡ answered d
    → CallsOn (server_of meaning b) ⊥ [] v z group t
group_calls {V = V} meaning b it v z f stored d t same settled came told =
    let s : State = state (meaning b.versions) (items settled.log) in
    let there = subst (λ (x : V). Came ⊥ (GroupReply (meaning x) s) d None) same (came s settled.flags) in
    reads_calls (server_of meaning b) ⊥ v z settled.log group (GroupReply (meaning b.versions) s)
    (λ a i h. (a, refl, h)) group_fails (λ h. absurd h) d t settled.reads there told
