-- Conversations with a server of a definition that was loaded.
use Rattle.std.proofs.Common.{◌≡◌, ℕ, List, Option, Result, Ok, Err}
use Rattle.std.specs.Prelude.{IfOk, IfErr}
use Rattle.serve_input.specs.Conversed.{MayRise, Start, Streams}
use Rattle.serve_input.specs.declared.conversing.PipeEnd.{PipeEnd}
use Rattle.command_lines.specs.Lines.{Source}
use Rattle.kubeconv_cmd.specs.Sources.{Loaded, Means, faults_in, meaning_in}
use Rattle.kubeconv_cmd.specs.Serving.{Conversation}
use Rattle.kubeconv_cmd.specs.inner.Ends.{IsWanting, Stops}
use Rattle.kubeconv_cmd.specs.declared.stop.Stop.{Stop}
use Rattle.kubeconv_cmd.specs.declared.stop.Stop.TheVariants as stops

-- it is one by the definition that was loaded
pub held_by : {I O : Type 0} (file : List ℕ → Option (List ℕ)) (source : Source) (l : Loaded) (start : Start) (turns : ℕ) (s : Streams I O) (reads writes : Type 0) (came : Result PipeEnd Stop)
    → Means file source l → IfOk came (Conversation (meaning_in l) (MayRise (faults_in l)) start turns s reads writes)
    → IfOk came (λ end. (m : Loaded) × Means file source m × Conversation (meaning_in m) (MayRise (faults_in m)) start turns s reads writes end)
held_by file source l start turns s reads writes (Ok end) means talk = (l, means, talk)
held_by file source l start turns s reads writes (Err stop) means talk = tt

-- behind a definition memory alone is wanted
pub wanting_stops : {T : Type 0} (fails : Type 0) (file : List ℕ → Option (List ℕ)) (source : Source) (untouched : Type 0) (came : Result T Stop) → IfErr came IsWanting → IfErr came (Stops fails file source untouched)
wanting_stops fails file source untouched (Ok t) h = tt
wanting_stops fails file source untouched (Err stops.ReadFailed) h = absurd h
wanting_stops fails file source untouched (Err (stops.Refused name why)) h = absurd h
wanting_stops fails file source untouched (Err stops.BadAddress) h = absurd h
wanting_stops fails file source untouched (Err stops.NoMemory) h = tt
