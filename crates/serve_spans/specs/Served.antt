-- All connections that were handed out were served and given back.
use Rattle.std.specs.Prelude.{ℕ, ◌≡◌, ◌≤◌, ◌*◌, ◌+◌, ◌^◌, ◌⊎◌, List, [], ◌∷◌, ◌++◌, length, map, Option, Some}
use mathlib.Core.List.{IsPrefix}
use Rattle.api_calls.specs.Item.{Logged}
use Rattle.edge_io.specs.Connections.{Origin, Ending}
use Rattle.turn_cell.specs.Numbers.{In, Differ}
use Rattle.turn_cell.specs.Views.{IsAlone, numbers_of}
use Rattle.turn_cell.specs.declared.view.Share.{Share}
use Rattle.turn_cell.specs.declared.view.View.{View}
use Rattle.serve_spans.specs.Spans.{Service, Span, AllServed, AreApart, AreLate, AreNotOf, AreOf}
use Rattle.serve_spans.specs.Owners.{At, Within, IsOfWorker}

abbrev pub Among : {X : Type 0} → X → List X → Type 0
Among x [] = ⊥
Among x (y ∷ ys) = (x ≡ y) ⊎ Among x ys

abbrev pub origins_of : List Ending → List (Option Origin)
origins_of es = map (λ e. e.origin) es

-- a list of origins, where it is told, goes on by these, which are told then
abbrev pub HandsOutAll : Option (List Origin) → List (Option Origin) → Option (List Origin) → Type 0
HandsOutAll before origins now = (xs : List Origin) → before ≡ Some xs → (os : List Origin) × (origins ≡ map (λ o. Some o) os) × (now ≡ Some (xs ++ os))

-- a list of endings, where it is told, goes on by these
abbrev pub AddsAll : Option (List Ending) → List Ending → Option (List Ending) → Type 0
AddsAll before endings now = (xs : List Ending) → before ≡ Some xs → now ≡ Some (xs ++ endings)

-- two shares are the same part of the whole
abbrev pub IsSamePart : Share → Share → Type 0
IsSamePart a b = a.top * 2 ^ b.halves ≡ b.top * 2 ^ a.halves

-- Each of these numbers is that of a pass of its own, which came to those that are `now` behind those of `before`, and served no connection.
pub record AreWorkers (before now : List ℕ) (spans : List Span) (workers : List ℕ) : Type 0 where
  pub met : (m : ℕ) → In m workers → In m now × (¬ In m before)
  pub differ : Differ workers
  pub serve_none : AreNotOf workers spans

-- the number is that of one of these spans
abbrev pub IsOfSpan : ℕ → List Span → Type 0
IsOfSpan m [] = ⊥
IsOfSpan m (s ∷ ss) = (m ≡ s.number) ⊎ IsOfSpan m ss

-- All passes that came to those of `before`, so that they are those of `now`: each served one of these connections, is a worker's, or was made
-- for one whose thread wasn't started, and they are no more than these are together.
pub record AreAll (before now : List ℕ) (spans : List Span) (workers spared : List ℕ) : Type 0 where
  pub passes : List ℕ
  pub came : now ≡ before ++ passes
  pub differ : Differ passes
  pub owned : (m : ℕ) → In m passes → IsOfSpan m spans ⊎ (In m workers ⊎ In m spared)
  pub few : length passes ≤ (length spans + length workers) + length spared
  pub spare : (m : ℕ) → In m spared → In m passes

-- So many connections were handed out, and all were given back. So many workers were asked for beside them, of whom so many have no thread. The
-- pass was v0, and is v.
pub record ServedAll {B : Type 0} (Serves : Service) (asked idle : ℕ) (v0 v : View B) (count : ℕ) (h0 handed : Option (List Origin)) (g0 given : Option (List Ending)) : Type 0 where
  pub origins : List (Option Origin)
  pub endings : List Ending
  pub spans : List Span
  pub handed_out : HandsOutAll h0 origins handed
  pub given_back : AddsAll g0 endings given
  pub counted : (length origins ≡ count) × (length endings ≡ count)
  -- each that was handed out was given back
  pub each : (o : Option Origin) → Among o origins → Among o (origins_of endings)
  -- the pass goes on, and has its part of the whole again
  pub same : (v.number ≡ v0.number) × (v.base ≡ v0.base) × IsPrefix v0.seen v.seen
  pub share : IsSamePart v.share v0.share
  -- each was served in a span of the list, after what had been seen; and no two share an item
  pub served : AllServed Serves v.seen endings spans
  pub late : AreLate (length v0.seen) spans
  pub apart : AreApart spans
  -- it was served by this pass, or by one that was met into it
  pub met : AreOf (numbers_of v) spans
  -- the numbers of the passes of the workers that have a thread: each has its own
  pub workers : List ℕ
  pub are_workers : AreWorkers (numbers_of v0) (numbers_of v) spans workers
  pub hired : length workers + idle ≡ asked
  -- and of the passes that were made for workers whose thread wasn't started
  pub spared : List ℕ
  pub few : length spared ≤ idle
  -- no pass was made besides
  pub all : AreAll (numbers_of v0) (numbers_of v) spans workers spared
  -- where the pass was alone it is alone again, and all that is new stands in a span of its pass, or is a worker's: of one of these passes, or of
  -- this pass, which takes the turns of workers without a thread
  pub alone : IsAlone v0 → IsAlone v × ((i : ℕ) (x : Logged) → At v.seen i x → length v0.seen ≤ i → Within spans i x ⊎ IsOfWorker v0.number idle workers spared x)
